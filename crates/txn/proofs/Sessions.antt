-- The ids of a session's transactions, and a session that is lengthened and cut again.
use Rattle.std.proofs.Common.{◌≡◌, ℕ, ◌<◌, ◌+◌, List, [], ◌∷◌, ◌++◌, length, take, refl, sym, ap, ◌∙◌, zero, suc, arith}
use Rattle.std.specs.Prelude.{slice_set}
use Rattle.std.proofs.Math.Seq.{take-append_seam}
use Rattle.txn.specs.declared.transactions.Txn.{Txn}
use Rattle.txn.specs.History.{session_of, ids_from}

-- there are as many ids as transactions
pub length_ids_from : (s m : ℕ) (txns : List Txn) → length (ids_from s m txns) ≡ length txns
length_ids_from s m [] = refl
length_ids_from s m (txn ∷ txns) = ap suc (length_ids_from s (m + 1) txns)

cut_back : {X : Type 0} (remain : List (List X)) (s n : ℕ) (more : List X) → s < length remain → n ≡ length (session_of remain s) → let grown = slice_set remain s (session_of remain s ++ more) in slice_set grown s (take n (session_of grown s)) ≡ remain
cut_back [] s n more within e = absurd (omega arith)
cut_back (session ∷ remain) zero n more within e = ap (λ front. front ∷ remain) (ap (λ k. take k (session ++ more)) e ∙ take-append_seam session more)
cut_back (session ∷ remain) (suc s) n more within e = ap (λ rest. session ∷ rest) (cut_back remain s n more (omega arith) e)

-- what was put at the end of a session is taken off again
pub cut_back_to : {X : Type 0} (remain grown cut : List (List X)) (place s n : ℕ) (more before : List X) → place ≡ s → s < length remain → before ≡ session_of remain s → n ≡ length before → grown ≡ slice_set remain place (session_of remain place ++ more) → cut ≡ slice_set grown place (take n (session_of grown place)) → cut ≡ remain
cut_back_to {X} remain grown cut place s n more before p within b e g c =
    let inside : place < length remain = omega (arith, p, within) in
    let size : n ≡ length (session_of remain place) = e ∙ ap length (b ∙ ap (session_of remain) (sym p)) in
    c ∙ ap (λ (list : List (List X)). slice_set list place (take n (session_of list place))) g ∙ cut_back remain place n more inside size
