-- Orders that explain a front.
use Rattle.std.proofs.Common.{◌≡◌, ◌↔◌, ℕ, Bool, not, List, map, refl, sym, subst, IsTrue}
use Rattle.txn.specs.declared.transactions.TxnId.{TxnId}
use Rattle.order_check.specs.declared.remainder.Parts.{Parts}
use Rattle.order_check.specs.Based.{received_counts}
use Rattle.order_check.specs.CountedFronts.{front_at, front_of, AreFrontCounts}
use Rattle.order_check.specs.Explains.{Explains}
use Rattle.order_check.specs.Good.{IsGood}
use Rattle.order_check.proofs.Closing.{explains_beside}
use Rattle.order_check.proofs.CountedFronts.{kept_is_counted, whole_counts}
use Rattle.order_check.proofs.KeptFronts.{itself}

-- whichever sessions are open there
pub front_explained : (parts front : Parts) (counts : List ℕ) (order : List TxnId) (found : Bool) → front ≡ front_of parts counts → IsTrue found ↔ Explains front order → (live : List Bool) → IsTrue found ↔ Explains (front_at parts counts live) order
front_explained parts front counts order found e is live =
    let same : IsTrue found ↔ Explains (front_of parts counts) order = subst (λ (p : Parts). IsTrue found ↔ Explains p order) e is in (
      λ h. explains_beside (front_of parts counts) (front_of parts counts) (front_at parts counts live) order (same.0 h),
      λ h. same.1 (explains_beside (front_of parts counts) (front_at parts counts live) (front_of parts counts) order h),
    )

pub whole_explained : (parts : Parts) (counts : List ℕ) (order : List TxnId) (found : Bool) → IsGood parts → counts ≡ received_counts parts → ((live : List Bool) → IsTrue found ↔ Explains (front_at parts counts live) order) → IsTrue found ↔ Explains parts order
whole_explained parts counts order found good e is =
    subst (λ (p : Parts). IsTrue found ↔ Explains p order) (kept_is_counted parts parts (itself parts) refl refl good good).same
    (subst (λ (all : List ℕ). IsTrue found ↔ Explains (front_at parts all (map not parts.closed)) order) e (is (map not parts.closed)))

pub all_counts : (parts : Parts) (counts : List ℕ) → IsGood parts → counts ≡ received_counts parts → AreFrontCounts parts counts
all_counts parts counts good e = subst (λ (all : List ℕ). AreFrontCounts parts all) (sym e) (whole_counts parts good)
