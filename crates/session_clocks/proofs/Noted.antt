-- Transactions that are noted one after another.
use Rattle.std.proofs.Common.{◌⊎◌, List, [], ◌∷◌, ◌++◌, refl, sym, ap, subst, ◌∙◌, inl, inr, Contains}
use Rattle.std.proofs.lemmas.List.{append-nil, append_assoc}
use Rattle.std.proofs.lemmas.List.Elements.{Contains-append_left, Contains-push_cases}
use Rattle.txn.specs.declared.transactions.TxnId.{TxnId}
use Rattle.session_clocks.specs.Additions.{IsFrontOf}

pub IsFrontOf-same : (old : List TxnId) → IsFrontOf old old
IsFrontOf-same old = record { more = []; is = sym (append-nil old) }

pub IsFrontOf-both : (old mid new : List TxnId) → IsFrontOf old mid → IsFrontOf mid new → IsFrontOf old new
IsFrontOf-both old mid new first second = record { more = first.more ++ second.more; is = second.is ∙ ap (λ xs. xs ++ second.more) first.is ∙ append_assoc old first.more second.more }

pub IsFrontOf-push : (old new : List TxnId) (id : TxnId) → IsFrontOf old new → IsFrontOf old (new ++ id ∷ [])
IsFrontOf-push old new id front = IsFrontOf-both old new (new ++ id ∷ []) front (record { more = id ∷ []; is = refl })

pub noted_stays : (old new : List TxnId) (id : TxnId) → IsFrontOf old new → Contains old id → Contains new id
noted_stays old new id front there = subst (λ xs. Contains xs id) (sym front.is) (Contains-append_left old front.more id there)

-- one more is noted
pub only-push : (P : TxnId → Type 0) (old new : List TxnId) (last : TxnId) → P last → ((id : TxnId) → Contains new id → Contains old id ⊎ P id) → (id : TxnId) → Contains (new ++ last ∷ []) id → Contains old id ⊎ P id
only-push P old new last is only id there = elim (Contains-push_cases new last id there) [
  | inl before ↦ only id before
  | inr same ↦ inr (subst P same is)
]
