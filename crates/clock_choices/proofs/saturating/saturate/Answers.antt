use Rattle.std.proofs.Common.{◌≡◌, ◌∙◌, [], ◌∷◌, List, length, refl, sym, subst, arith, Contains, All}
use Rattle.std.proofs.lemmas.Bool.{eqb-true}
use Rattle.std.proofs.lemmas.List.Elements.{All-contains}
use Rattle.txn.specs.declared.transactions.TxnId.{TxnId}
use Rattle.session_clocks.specs.Reach.{IsThere}
use Rattle.clock_choices.specs.declared.reads.Read.{Read}
use Rattle.clock_choices.specs.Extending.{reached_in}
use Rattle.clock_choices.specs.Forcing.{unforced}
use Rattle.clock_choices.specs.Index.{IsRunThere, reads_of, runs_of}
use Rattle.clock_choices.specs.Pending.{IsClosedBut}
use Rattle.clock_choices.specs.Stages.{IsTxnSettled}
use Rattle.clock_choices.proofs.Extending.{extends_both, extends_none, on_new}
use Rattle.clock_choices.proofs.Growths.{forces_both}
use Rattle.clock_choices.proofs.Settled.{closed_but, closed_now, closed_wider}
use Rattle.clock_choices.proofs.saturating.saturate.Goals as goal

pub loop-turn-init : goal.loop-turn-init
loop-turn-init c = record { extends = extends_none c.args.graph.now; forces = λ parts are reads. unforced; closed = λ parts are reads closed. closed }

pub settle_batch-requires : goal.settle_batch-requires
settle_batch-requires c =
    let was = c.loop-turn.invariant in
    record {
      runs = λ key. on_new (λ gone received. All (IsRunThere gone received) (runs_of c.args.writers.now key)) was.extends (c.requires.runs key);
      readers = λ id. on_new (λ gone received. All (λ (read : Read). IsThere gone received read.reader) (reads_of c.args.reads.now id)) was.extends (c.requires.readers id);
    }

pub loop-turn-preserved : goal.loop-turn-preserved
loop-turn-preserved c =
    let was = c.loop-turn.invariant in
    let now = c.in_ok-batch.ensures in
    let batch = c.loop-turn.batch in
    let then = c.in_ok-batch.batch in
    record {
      extends = extends_both was.extends c.settle_batch.ensures.extends;
      forces = λ parts are reads. forces_both was.extends (was.forces parts are reads) (now.forces parts are reads);
      closed = λ parts are reads closed. closed_but parts batch then now.growth (was.closed parts are reads closed)
          (λ id there. All-contains (IsTxnSettled parts (reached_in c.settle_batch.new.graph) then) batch id (now.settled parts are reads) there);
    }

none_left : (xs : List TxnId) → length xs ≡ 0 → xs ≡ []
none_left [] none = refl
none_left (x ∷ xs) none = absurd (omega arith)

pub returns-then-is_empty-clause-closed : goal.returns-then-is_empty-clause-closed
returns-then-is_empty-clause-closed c = λ parts are reads closed.
    let was = c.loop-turn.invariant in
    let batch = c.loop-turn.batch in
    let empty : batch ≡ [] = none_left batch (eqb-true (length batch) 0 (sym (rw c.ids.ensures at c.is_empty.ensures) ∙ c.if-is_empty.true)) in
    let here = rw c.deref.ensures.value at c.in_ok-noted.ensures in
    let R = reached_in c.loop-turn.graph in
    closed_now parts R (subst (λ (some : List TxnId). IsClosedBut parts R (λ id. Contains some id)) empty
    (was.closed parts are reads (closed_wider parts (reached_in c.args.graph.now) (λ id. Contains c.args.due.items id) (λ id. Contains c.in_ok-noted.noted id) here closed)))
