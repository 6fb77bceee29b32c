-- None of those so far is of the session and wrote the key.
use Rattle.std.proofs.Common.{◌≡◌, ℕ, ◌<◌, get_or, true, Some}
use Rattle.txn.specs.History.{writes_key}
use Rattle.demo_store.specs.declared.requests.Executed.{Executed}
use Rattle.demo_store.proofs.faults.has_written.Given as goal

abbrev pub invariant-loop-executed : goal.invariant-loop-executed
invariant-loop-executed l = (k : ℕ) (d : Executed) → k < l.executed-index → (get_or l.log k d).id.session ≡ l.session → writes_key (Some (get_or l.log k d).txn) l.key ≡ true → ⊥
