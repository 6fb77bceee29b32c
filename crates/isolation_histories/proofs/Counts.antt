-- How many sessions and transactions a split history has.
use Rattle.std.proofs.Common.{◌≡◌, ℕ, ◌+◌, ◌*◌, [], ◌∷◌, length, refl, ap, ◌∙◌}
use Rattle.std.specs.Prelude.{map}
use Rattle.txn.specs.History.{History, session_of}
use Rattle.isolation_histories.specs.Laws.{SplitDoubles}
use Rattle.isolation_histories.specs.Split.{split_sessions}
use Rattle.isolation_histories.proofs.Coming.{sessions_from}
use Rattle.isolation_histories.proofs.Lookups.{session_split}
use Rattle.isolation_histories.proofs.WellFormedSplit.{split_length}

counts_from : (m : ℕ) (history : History) → map length (split_sessions m history) ≡ map (λ txns. 2 * length txns) history
counts_from m [] = refl
counts_from m (txns ∷ history) = ap (λ n. n ∷ map length (split_sessions (m + 1) history)) (split_length m 0 txns) ∙ ap (λ rest. 2 * length txns ∷ rest) (counts_from (m + 1) history)

pub doubles : (history : History) → SplitDoubles history
doubles history = record {
  sessions = sessions_from 0 history;
  session = λ s. ap length (session_split history s) ∙ split_length s 0 (session_of history s);
  counts = counts_from 0 history;
}
