-- What was put at the end of a session is taken off again.
use Rattle.std.proofs.Common.{◌≡◌, ℕ, ◌<◌, ◌++◌, List, [], ◌∷◌, length, take, sym, ap, ◌∙◌, zero, suc, arith, Option, None, subst}
use Rattle.std.specs.Prelude.{slice_set, IfSome}
use Rattle.std.proofs.Math.Seq.{take-append_seam}
use Rattle.txn.specs.declared.transactions.Txn.{Txn}
use Rattle.txn.specs.History.{session_of}

cut_back : (remain : List (List Txn)) (s n : ℕ) (txns : List Txn) → s < length remain → n ≡ length (session_of remain s) → let grown = slice_set remain s (session_of remain s ++ txns) in slice_set grown s (take n (session_of grown s)) ≡ remain
cut_back [] s n txns within e = absurd (omega arith)
cut_back (session ∷ remain) zero n txns within e = ap (λ front. front ∷ remain) (ap (λ k. take k (session ++ txns)) e ∙ take-append_seam session txns)
cut_back (session ∷ remain) (suc s) n txns within e = ap (λ rest. session ∷ rest) (cut_back remain s n txns (omega arith) e)

pub cut_back_to : (remain grown cut : List (List Txn)) (place s n : ℕ) (txns before : List Txn) → place ≡ s → s < length remain → before ≡ session_of remain s → n ≡ length before → grown ≡ slice_set remain place (session_of remain place ++ txns) → cut ≡ slice_set grown place (take n (session_of grown place)) → cut ≡ remain
cut_back_to remain grown cut place s n txns before p within b e g c =
    let inside : place < length remain = omega (arith, p, within) in
    let size : n ≡ length (session_of remain place) = e ∙ ap length (b ∙ ap (session_of remain) (sym p)) in
    c ∙ ap (λ (list : List (List Txn)). slice_set list place (take n (session_of list place))) g ∙ cut_back remain place n txns inside size

-- nothing is asked of none
pub if_none : {A : Type 0} (found : Option A) (P : A → Type 0) → found ≡ None → IfSome found P
if_none found P e = subst (λ x. IfSome x P) (sym e) tt
