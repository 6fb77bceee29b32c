-- Parts that have a whole history, and what the tests say of the history.
use Rattle.std.proofs.Common.{◌≡◌, ℕ, Bool, true, false, List, [], ◌∷◌, Option, None, map, get_or, nat_lt, nat_cmp, refl, zero, suc}
use Rattle.std.specs.FinMap.{get-empty}
use Rattle.std.proofs.lemmas.Bool.{ltb-true}
use Rattle.txn.specs.declared.transactions.TxnId.{TxnId}
use Rattle.txn.specs.declared.transactions.Source.{Source}
use Rattle.txn.specs.declared.transactions.Source.TheVariants.{Init, By}
use Rattle.txn.specs.History.{History}
use Rattle.order_check.specs.declared.remainder.Parts.{Parts}
use Rattle.order_check.specs.Based.{last_gone, received_count, HasPending}
use Rattle.order_check.specs.NoBase.{HasNoBase}
use Rattle.order_check.specs.Rows.{fresh}
use Rattle.order_check.specs.Explains.{MeetsAllReads}
use Rattle.order_check.specs.Whole.{ExplainsWhole, HasOrderWhole, IsVerdictWhole}
use Rattle.order_check.specs.declared.remainder.Kind.TheVariants.{Serial}
use Rattle.order_check.proofs.Whole.{explains_whole, has_order_whole, pending_whole}
use Rattle.order_check.proofs.EachRemaining.{each_read, each_read_at}
use Rattle.order_check.proofs.OrderSearch.{some_order, no_order}
use Rattle.order_check.proofs.OrderTest.{keeps, replays, explains_by_test, meets_all_by_test}

no_mark : {X : Type 0} (xs : List X) (s : ℕ) → get_or (map {B = ℕ} (λ _. 0) xs) s 0 ≡ 0
no_mark [] s = refl
no_mark (x ∷ xs) zero = refl
no_mark (x ∷ xs) (suc s) = no_mark xs s

pub fresh_bare : (history : History) → HasNoBase (fresh history)
fresh_bare history = record { marks = no_mark history; last = refl }

-- no key has a last gone writer
abbrev pub no_base : ℕ → Option TxnId
no_base key = None

pub fresh_last : (history : History) (key : ℕ) → last_gone (fresh history) key ≡ no_base key
fresh_last history key = get-empty nat_cmp key

pub whole_by_test : (history : History) (order : List TxnId) → keeps (fresh history) order ≡ true → replays (fresh history) no_base [] order ≡ true → ExplainsWhole history order
whole_by_test history order kept met = (explains_whole (fresh history) order (fresh_bare history)).0 (explains_by_test (fresh history) no_base (fresh_last history) order kept met)

pub fresh_meets_all : (history : History) (order : List TxnId) → replays (fresh history) no_base [] order ≡ true → MeetsAllReads (fresh history) order
fresh_meets_all history order met = meets_all_by_test (fresh history) no_base (fresh_last history) order met

-- where the search finds no order in this many steps, none explains the history
pub whole_refuted : (history : History) (steps : ℕ) → some_order (fresh history) no_base steps [] ≡ false → ¬ HasOrderWhole history
whole_refuted history steps none order = no_order (fresh history) no_base steps (fresh_last history) none ((has_order_whole (fresh history) (fresh_bare history)).1 order)

-- whether a source is received
abbrev pub comes : Parts → TxnId → ℕ × Source → Bool
comes parts reader read = by_source read.1
  where
    by_source : Source → Bool
    by_source Init = true
    by_source (By writer) = nat_lt writer.number (received_count parts writer.session)

pub none_pending : (parts : Parts) → each_read (comes parts) parts ≡ true → ¬ HasPending parts
none_pending parts test (reader, writer, key, reads, missing) = missing (ltb-true writer.number (received_count parts writer.session) (each_read_at (comes parts) parts test reader key (By writer) reads))

-- an order explains the history, and no read is pending
pub serial_by_test : (history : History) (order : List TxnId) → keeps (fresh history) order ≡ true → replays (fresh history) no_base [] order ≡ true → each_read (comes (fresh history)) (fresh history) ≡ true → IsVerdictWhole history Serial
serial_by_test history order kept met come =
    ((order, whole_by_test history order kept met), λ some. none_pending (fresh history) come ((pending_whole (fresh history) (fresh_bare history)).1 some))
