-- A fragment is split transaction by transaction.
use Rattle.std.proofs.Common.{◌≡◌, ℕ, ◌+◌, ◌<◌, List, [], ◌∷◌, ◌++◌, length, get_or, take, sym, ap, subst, ◌∙◌, arith}
use Rattle.std.specs.Prelude.{All}
use Rattle.std.proofs.lemmas.List.{take_more, length-take-le}
use Rattle.txn.specs.declared.transactions.TxnId.{TxnId}
use Rattle.txn.specs.declared.transactions.Txn.{Txn}
use Rattle.isolation_histories.specs.Split.{begin_txn, commit_txn, split_txns}
use Rattle.isolation_histories.specs.Splittable.{HasLowNumbers}
use Rattle.isolation_histories.proofs.Arrivals.{split_append}

-- a transaction of the fragment has low numbers
pub low_at : (txns all : List Txn) (k : ℕ) (txn : Txn) → all ≡ txns → All HasLowNumbers txns → k < length all → txn ≡ get_or all k txn → HasLowNumbers txn
low_at txns all k txn same low within is = subst HasLowNumbers (sym is) (subst (All HasLowNumbers) (sym same) low k txn within)

-- the next one is split
pub split_next : (s number k : ℕ) (txns made after : List Txn) (id : TxnId) (txn : Txn) → k < length txns → txn ≡ get_or txns k txn → id ≡ record { session = s; number = number + k } → made ≡ split_txns s number (take k txns) → after ≡ made ++ begin_txn txn ∷ commit_txn id txn ∷ [] → after ≡ split_txns s number (take (k + 1) txns)
split_next s number k txns made after id txn within is named so_far pushed =
    let long : length (take k txns) ≡ k = length-take-le k txns (omega (arith, within)) in
    let more : take (k + 1) txns ≡ take k txns ++ txn ∷ [] = take_more txns k txn within ∙ ap (λ x. take k txns ++ x ∷ []) (sym is) in
    pushed
    ∙ ap (λ xs. xs ++ begin_txn txn ∷ commit_txn id txn ∷ []) so_far
    ∙ ap (λ i. split_txns s number (take k txns) ++ begin_txn txn ∷ commit_txn i txn ∷ []) (named ∙ ap (λ n. record { session = s; number = number + n }) (sym long))
    ∙ sym (ap (split_txns s number) more ∙ split_append s number (take k txns) (txn ∷ []))
