-- For private clauses: what a cut takes out of each session, session after session.
use Rattle.std.specs.Prelude.{◌≡◌, ℕ, ◌+◌, ◌<◌, ◌≤◌, List, drop, length, slice_index}
use Rattle.txn.specs.declared.transactions.TxnId.{TxnId}
use Rattle.txn.specs.History.{History, session_of}
use Rattle.order_check.specs.Settled.{count_in}

-- the sessions below this place have lost their gone, and the others are as they were
pub record AreCutBelow (gone : List TxnId) (place : ℕ) (old new : History) : Type 0 where
  pub sessions : length new ≡ length old
  pub cut : (s : ℕ) → s < place → session_of new s ≡ drop (count_in gone s) (session_of old s)
  pub left : (s : ℕ) → place ≤ s → session_of new s ≡ session_of old s

-- the marks below this place are raised by the gone of their sessions, and the others are as they were
pub record AreRaisedBelow (gone : List TxnId) (place : ℕ) (old new : List ℕ) : Type 0 where
  pub sessions : length new ≡ length old
  pub raised : (s : ℕ) → s < place → slice_index new s ≡ slice_index old s + count_in gone s
  pub left : (s : ℕ) → place ≤ s → slice_index new s ≡ slice_index old s
