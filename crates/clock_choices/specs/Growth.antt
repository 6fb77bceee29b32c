-- For private clauses: parts with more transactions, and what these have noted.
use Rattle.std.specs.Prelude.{◌≡◌, ◌⊎◌, ◌+◌, ◌<◌, ◌≤◌, ℕ, List, Contains, length}
use Rattle.txn.specs.declared.transactions.TxnId.{TxnId}
use Rattle.txn.specs.declared.transactions.Fragment.{Fragment}
use Rattle.order_check.specs.declared.remainder.Parts.{Parts}
use Rattle.order_check.specs.Based.{Remains, remaining_at, last_gone, received_count}
use Rattle.order_check.specs.Known.{WritesKey}
use Rattle.order_check.specs.StandsFor.{parts_with}

-- what remains stays as it is, what is gone too, and in each session nothing comes in before what is there
pub record AreMore (parts more : Parts) : Type 0 where
  pub same : (id : TxnId) → Remains parts id → remaining_at more id ≡ remaining_at parts id
  pub base : (key : ℕ) → last_gone more key ≡ last_gone parts key
  pub behind : (a b : TxnId) → Remains more a → Remains parts b → a.session ≡ b.session → a.number < b.number → Remains parts a

-- more parts are these with the fragment at the end of its session, as the next there
pub record IsNext (parts more : Parts) (fragment : Fragment) : Type 0 where
  pub session : fragment.session < length parts.remain
  pub next : fragment.first ≡ received_count parts fragment.session
  pub is : more ≡ parts_with parts fragment

-- the ids of a session's numbers from the first on, so many
pub record AreIdsFrom (session first count : ℕ) (ids : List TxnId) : Type 0 where
  pub each : (id : TxnId) → Contains ids id → (id.session ≡ session) × (first ≤ id.number) × (id.number < first + count)
  pub all : (id : TxnId) → id.session ≡ session → first ≤ id.number → id.number < first + count → Contains ids id

-- Whoever reaches the transaction, and writes a key that it writes, is due, or reaches an earlier writer of the key in its session,
-- which is due.
abbrev pub IsNotedFor : Parts → (TxnId → TxnId → Type 0) → (TxnId → Type 0) → TxnId → Type 0
IsNotedFor parts R Due id = (key : ℕ) → WritesKey parts id key → (writer : TxnId) → WritesKey parts writer key → R writer id
    → Due writer ⊎ ((earlier : TxnId) × WritesKey parts earlier key × (earlier.session ≡ id.session) × (earlier.number < id.number) × Due earlier × R writer earlier)
