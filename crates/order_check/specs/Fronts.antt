-- For private clauses: fronts of the orders that explain parts.
use Rattle.std.specs.Prelude.{◌≡◌, ℕ, Bool, List, ◌∷◌, ◌++◌, Option, slice_get, count_by, MatchBool}
use Rattle.txn.specs.declared.transactions.TxnId.{TxnId}
use Rattle.txn.specs.History.{in_session}
use Rattle.order_check.specs.declared.remainder.Parts.{Parts}
use Rattle.order_check.specs.Based.{remaining_ids}
use Rattle.order_check.specs.Explains.{Explains}

-- some order that begins with this front explains the parts
abbrev pub HasOrderFrom : Parts → List TxnId → Type 0
HasOrderFrom parts front = (rest : List TxnId) × Explains parts (front ++ rest)

-- so does some order with an id of the session behind the front
abbrev pub HasOrderInto : Parts → List TxnId → ℕ → Type 0
HasOrderInto parts front s = (id : TxnId) × (rest : List TxnId) × (id.session ≡ s) × Explains parts (front ++ id ∷ rest)

-- the id of the session that stands behind those of the front, where one remains
abbrev pub next_of : Parts → List TxnId → ℕ → Option TxnId
next_of parts front s = slice_get (remaining_ids parts s) (count_by (in_session s) front)

-- a trial found an order, or left the front as it was, and there is none
abbrev pub Tells : Parts → List TxnId → List TxnId → Bool → Type 0 → Type 0
Tells parts old new found some = MatchBool found (Explains parts new) ((new ≡ old) × (¬ some))
