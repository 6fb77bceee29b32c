-- What holds of parts holds of them with a session closed.
use Rattle.std.proofs.Common.{ℕ, List, [], Option, Some, None, true, refl, subst, ◌∙◌, append-nil}
use Rattle.std.specs.Prelude.{IfSome}
use Rattle.std.proofs.lemmas.List.{length-set}
use Rattle.std.proofs.lemmas.List.Elements.{All-nil, All-weaker}
use Rattle.txn.specs.declared.choices.Arc.{Arc}
use Rattle.txn.specs.Arcs.{start_of, end_of}
use Rattle.order_check.specs.declared.remainder.Parts.{Parts}
use Rattle.order_check.specs.Cycles.{IsArc}
use Rattle.order_check.specs.Good.{IsGood}
use Rattle.order_check.specs.Known.{Known}
use Rattle.order_check.specs.StandsFor.{parts_closed}
use Rattle.clock_choices.specs.declared.sharing.SharedIndex.{SharedIndex}
use Rattle.clock_choices.specs.declared.steps.Forced.{Forced}
use Rattle.clock_choices.specs.Growth.{AreMore}
use Rattle.clock_choices.specs.Held.{IsHeld}
use Rattle.clock_choices.specs.Logging.{IsLogged}
use Rattle.clock_choices.specs.SharedIndexes.{IsIndexIn}
use Rattle.clock_choices.proofs.CaughtUp.{arcs_there}
use Rattle.clock_choices.proofs.Growing.{known_grows}
use Rattle.clock_choices.proofs.MoreNodes.{more_none}
use Rattle.clock_choices.proofs.StepsOn.{logged_linked}

pub good_closed : (parts : Parts) (s : ℕ) → IsGood parts → IsGood (parts_closed parts s)
good_closed parts s good = record {
  some_sessions = good.some_sessions;
  few_sessions = good.few_sessions;
  low_sessions = good.low_sessions;
  marks = good.marks;
  closed = length-set parts.closed s true ∙ good.closed;
  some_limit = good.some_limit;
  low_limit = good.low_limit;
  room = good.room;
  numbers = good.numbers;
  well_formed = good.well_formed;
  short = good.short;
  base = good.base;
}

same_more : (parts : Parts) (s : ℕ) → AreMore parts (parts_closed parts s)
same_more parts s = record { same = λ id there. refl; base = λ key. refl; behind = λ a b there here same below. there }

pub held_closed : (parts : Parts) (s : ℕ) (gone received : List ℕ) (arcs : List Arc) (steps : List Forced) → IsHeld parts gone received arcs steps → IsHeld (parts_closed parts s) gone received arcs steps
held_closed parts s gone received arcs steps held =
    let over = held.over in
    let plain = held.plain in
    let closed = held.closed in
    let then = parts_closed parts s in
    record {
      sessions = held.sessions;
      width = held.width;
      over = record { marks = over.marks; counts = over.counts };
      known = All-weaker (λ (arc : Arc). Known parts [] (start_of arc) (end_of arc)) (λ (arc : Arc). Known then [] (start_of arc) (end_of arc)) (λ arc is. known_grows parts then [] (start_of arc) (end_of arc) (same_more parts s) is) arcs held.known;
      plain = record { reads = plain.reads; base = plain.base; sides = plain.sides };
      closed = λ choice is. closed choice (record { reads = is.reads; written = is.written; other = is.other; not_writer = is.not_writer; not_reader = is.not_reader });
      logged = subst (λ (some : List Arc). IsLogged then gone received some steps) (append-nil arcs)
          (logged_linked parts then gone received received 0 0 arcs [] steps (same_more parts s) over (more_none received 0) (arcs_there parts gone received arcs over held.known) (All-nil (IsArc then [])) held.logged);
    }

pub shared_closed : (parts : Parts) (s : ℕ) (kept : Option SharedIndex) → IfSome kept (IsIndexIn parts) → IfSome kept (IsIndexIn (parts_closed parts s))
shared_closed parts s None is = tt
shared_closed parts s (Some shared) is = record {
  runs = is.runs;
  writers = λ key. let of = is.writers key in record { each = of.each; all = of.all };
  reads = λ id. let of = is.reads id in record { each = of.each; all = of.all };
  base = λ key. let of = is.base key in record { each = of.each; all = of.all };
}
