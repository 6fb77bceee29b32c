use Rattle.std.proofs.Common.{ℕ, ◌<◌, ◌≤◌, get_or, Contains}
use Rattle.txn.specs.declared.transactions.TxnId.{TxnId}
use Rattle.clock_choices.proofs.passing.note_run.Given as goal

abbrev pub invariant-loop-place : goal.invariant-loop-place
invariant-loop-place l = record {
  stay : (other : TxnId) → Contains l.initial.due other → Contains l.due other;
  noted : (k : ℕ) → l.from ≤ k → k < l.place → Contains l.due (record { session = l.run.session; number = get_or l.run.numbers.items k 0 });
}
