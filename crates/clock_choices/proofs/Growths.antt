-- What grows as arcs are added, and what stays settled then.
use Rattle.std.proofs.Common.{◌≡◌, ◌≤◌, ℕ, List, [], ◌∷◌, ◌++◌, sym, subst, ◌∙◌, inl, inr, arith, Contains, Option, Some, None, MatchOption, Result, Ok, Err, OnOk}
use Rattle.std.specs.Prelude.{⊤}
use Rattle.std.proofs.lemmas.Bool.{cases_eq}
use Rattle.std.proofs.lemmas.List.Elements.{Contains-append_left, Contains-push}
use Rattle.txn.specs.declared.transactions.TxnId.{TxnId}
use Rattle.txn.specs.declared.choices.Arc.{Arc}
use Rattle.txn.specs.Arcs.{start_of, end_of}
use Rattle.txn.specs.declared.choices.Side.{Side}
use Rattle.txn.specs.declared.choices.Side.TheVariants.{First, Second}
use Rattle.order_check.specs.declared.remainder.Parts.{Parts}
use Rattle.session_clocks.specs.Additions.{AreTold, IsFrontOf}
use Rattle.session_clocks.specs.Graphs.{GraphState, HasNode}
use Rattle.session_clocks.specs.Reach.{IsThere, Reaches, by_session, by_arc, through}
use Rattle.clock_choices.specs.declared.reads.Read.{Read}
use Rattle.clock_choices.specs.declared.runs.Run.{Run}
use Rattle.clock_choices.specs.declared.steps.Forced.{Forced}
use Rattle.clock_choices.specs.Extending.{Extends, reached_in}
use Rattle.clock_choices.specs.Forcing.{Decides, ForcesOver, unforced, forced, HasGrown, IsForcedIn, IsGrowth, IsOther, IsRunSettled, IsSideSettled, IsTaken, choice_of}
use Rattle.clock_choices.specs.Index.{IsRunThere}
use Rattle.clock_choices.specs.Steps.{conclusion_of}
use Rattle.clock_choices.proofs.Extending.{on_new, on_old}

-- two facts of what went well
pub on_ok_two : {T E P Q R : Type 0} (r : Result T E) → (P → Q → R) → OnOk r P → OnOk r Q → OnOk r R
on_ok_two (Ok x) make first second = make first second
on_ok_two (Err e) make first second = first

pub growth_none : (R : TxnId → TxnId → Type 0) (told : List TxnId) → IsGrowth R told R told
growth_none R told = record {
  reaches = λ a b is. is;
  stay = λ id there. there;
  all = λ a b is. inl is;
  only = λ id there. inl there;
}

pub growth_both : {R S T : TxnId → TxnId → Type 0} {told between then : List TxnId} → IsGrowth R told S between → IsGrowth S between T then → IsGrowth R told T then
growth_both {R} {S} {T} first second = record {
  reaches = λ a b is. second.reaches a b (first.reaches a b is);
  stay = λ id there. second.stay id (first.stay id there);
  all = λ a b is. elim (second.all a b is) [
    | inr both ↦ inr both
    | inl was ↦ elim (first.all a b was) [
      | inl before ↦ inl before
      | inr both ↦ inr (second.stay a both.0, second.stay b both.1)
    ]
  ];
  only = λ id there. elim (second.only id there) [
    | inl before ↦ elim (first.only id before) [
      | inl was ↦ inl was
      | inr grown ↦ inr (grown_later id grown)
    ]
    | inr grown ↦ inr (grown_before id grown)
  ];
}
  where
    grown_later : (id : TxnId) → HasGrown R S id → HasGrown R T id
    grown_later id (other, inl both) = (other, inl (both.0, second.reaches id other both.1))
    grown_later id (other, inr both) = (other, inr (both.0, second.reaches other id both.1))

    grown_before : (id : TxnId) → HasGrown S T id → HasGrown R T id
    grown_before id (other, inl both) = (other, inl ((λ is. both.0 (first.reaches id other is)), both.1))
    grown_before id (other, inr both) = (other, inr ((λ is. both.0 (first.reaches other id is)), both.1))

module _ (gone received : List ℕ) where
  pub reaches_more : (arcs : List Arc) (arc : Arc) {a b : TxnId} → Reaches gone received arcs a b → Reaches gone received (arcs ++ arc ∷ []) a b
  reaches_more arcs arc (by_session a b first second same below) = by_session a b first second same below
  reaches_more arcs arc (by_arc one there) = by_arc one (Contains-append_left arcs (arc ∷ []) one there)
  reaches_more arcs arc (through a b c first second) = through a b c (reaches_more arcs arc first) (reaches_more arcs arc second)

  -- along the session, and then on
  pub along_then : (arcs : List Arc) (a b c : TxnId) → IsThere gone received a → IsThere gone received b → a.session ≡ b.session → a.number ≤ b.number → Reaches gone received arcs b c → Reaches gone received arcs a c
  along_then arcs a b c first second same below on = elim (cases_eq a.number b.number) [
    | inl number ↦ subst (λ id. Reaches gone received arcs id c) (λ i. record { session = sym same i; number = sym number i }) on
    | inr apart ↦ through a b c (by_session a b first second same (omega arith)) on
  ]

  pub then_along : (arcs : List Arc) (a b c : TxnId) → IsThere gone received b → IsThere gone received c → b.session ≡ c.session → b.number ≤ c.number → Reaches gone received arcs a b → Reaches gone received arcs a c
  then_along arcs a b c first second same below on = elim (cases_eq b.number c.number) [
    | inl number ↦ subst (λ id. Reaches gone received arcs a id) (λ i. record { session = same i; number = number i }) on
    | inr apart ↦ through a b c on (by_session b c first second same (omega arith))
  ]

-- the graph has one more arc, which told so many
pub growth_told : {old new : GraphState} (arc : Arc) (told then : List TxnId) → Extends old new → new.arcs ≡ old.arcs ++ arc ∷ [] → AreTold old.gone old.received old.arcs arc told then → IsFrontOf told then → IsGrowth (reached_in old) told (reached_in new) then
growth_told {old} {new} arc told then extends is are front =
    subst (λ (arcs : List Arc). IsGrowth (reached_in old) told (Reaches new.gone new.received arcs) then) (sym is)
    (on_new (λ gone received. IsGrowth (reached_in old) told (Reaches gone received (old.arcs ++ arc ∷ [])) then) extends growth)
  where
    growth : IsGrowth (reached_in old) told (Reaches old.gone old.received (old.arcs ++ arc ∷ [])) then
    growth = record {
      reaches = λ a b reached. reaches_more old.gone old.received old.arcs arc reached;
      stay = λ id there. subst (λ (some : List TxnId). Contains some id) (sym front.is) (Contains-append_left told front.more id there);
      all = are.all;
      only = are.only;
    }

-- with its arc at the end, it leads from the arc's start to its end
pub by_last : (gone received : List ℕ) (arcs more : List Arc) (arc : Arc) → more ≡ arcs ++ arc ∷ [] → Reaches gone received more (start_of arc) (end_of arc)
by_last gone received arcs more arc is = by_arc arc (subst (λ (some : List Arc). Contains some arc) (sym is) (Contains-push arcs arc))

-- another writer in the run is there
pub other_there : (gone received : List ℕ) (read : Read) (run : Run) → IsRunThere gone received run → (other : TxnId) → IsOther read run other → IsThere gone received other
other_there gone received read run there other found =
    subst (λ (session : ℕ). IsThere gone received (record { session = session; number = other.number })) (sym found.same) (there.there other.number found.listed)

module _ {R S : TxnId → TxnId → Type 0} {told then : List TxnId} (growth : IsGrowth R told S then) (read : Read) (run : Run) where
  -- what is settled stays so
  side_stays : (side : Side) → IsSideSettled R told side read run → IsSideSettled S then side read run
  side_stays First settled other found ready = elim (growth.all other read.reader ready) [
    | inr both ↦ inr both.1
    | inl was ↦ elim (settled other found was) [
      | inl there ↦ inl (growth.reaches other read.writer there)
      | inr is_told ↦ inr (growth.stay read.reader is_told)
    ]
  ]
  side_stays Second settled other found ready = elim (growth.all read.writer other ready) [
    | inr both ↦ inr both.0
    | inl was ↦ elim (settled other found was) [
      | inl there ↦ inl (growth.reaches read.reader other there)
      | inr is_told ↦ inr (growth.stay read.writer is_told)
    ]
  ]

  pub run_stays : IsRunSettled R told read run → IsRunSettled S then read run
  run_stays settled = record { before = side_stays First settled.before; behind = side_stays Second settled.behind }

  pub run_settled : IsSideSettled R told First read run → IsSideSettled S then Second read run → IsRunSettled S then read run
  run_settled before behind = record { before = side_stays First before; behind = behind }

-- with the side that is taken of one writer it is taken of all in the run of which it was forced
module _ {R : TxnId → TxnId → Type 0} (new : GraphState) {told then : List TxnId} (growth : IsGrowth R told (reached_in new) then) (read : Read) (run : Run) (there : IsRunThere new.gone new.received run) where
  here : (other : TxnId) → IsOther read run other → HasNode new other
  here = other_there new.gone new.received read run there

  pub settled_by : (side : Side) (one : TxnId) → IsForcedIn R side read run one → IsTaken (reached_in new) side read one → IsSideSettled (reached_in new) then side read run
  settled_by First one is on other found ready = elim (growth.all other read.reader ready) [
    | inr both ↦ inr both.1
    | inl was ↦ inl (along_then new.gone new.received new.arcs other one read.writer (here other found) (here one is.found) (found.same ∙ sym is.found.same) (is.others other found was) on)
  ]
  settled_by Second one is on other found ready = elim (growth.all read.writer other ready) [
    | inr both ↦ inr both.0
    | inl was ↦ inl (then_along new.gone new.received new.arcs read.reader one other (here one is.found) (here other found) (is.found.same ∙ sym found.same) (is.others other found was) on)
  ]

-- what is forced after what was forced
pub forces_both : {parts : Parts} {old mid : GraphState} {steps some all : List Forced} {more : List Arc} → Extends old mid → ForcesOver parts old.gone old.received old.arcs steps mid.arcs some → ForcesOver parts mid.gone mid.received mid.arcs some more all
    → ForcesOver parts old.gone old.received old.arcs steps more all
forces_both {parts} {old} {mid} {steps} {some} {all} {more} extends first second =
    on (on_old (λ gone received. ForcesOver parts gone received mid.arcs some more all) extends second)
  where
    on : {arcs : List Arc} {steps_then : List Forced} → ForcesOver parts old.gone old.received mid.arcs some arcs steps_then → ForcesOver parts old.gone old.received old.arcs steps arcs steps_then
    on unforced = first
    on (forced step before is) = forced step (on before) is

-- both ends of a side are there
pub side_there : (P : TxnId → Type 0) (side : Side) (read : Read) (other : TxnId) → P read.reader → P read.writer → P other → P (conclusion_of (choice_of read other) side).0 × P (conclusion_of (choice_of read other) side).1
side_there P First read other reader writer there = (there, writer)
side_there P Second read other reader writer there = (reader, there)

-- a writer that was found is there
pub decided_there : (R : TxnId → TxnId → Type 0) (P : TxnId → Type 0) (side : Side) (read : Read) (run : Run) (found : Option TxnId) → ((other : TxnId) → IsOther read run other → P other) → Decides R side read run found → MatchOption found ⊤ P
decided_there R P side read run None there decides = tt
decided_there R P side read run (Some other) there decides = there other decides.found
