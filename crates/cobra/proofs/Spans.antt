-- Times that are put together, one after another.
use Rattle.std.proofs.Common.{◌≡◌, ℕ, zero, suc, ◌+◌, ◌<◌, List, [], ◌∷◌, ◌++◌, length, get_or, take, refl, sym, ap, ◌∙◌, arith}
use Rattle.strict_histories.specs.declared.timed.Span.{Span}
use Rattle.cobra.specs.Strict.{span_of, spans_of}

-- with one more
spans_next : (began ended : List ℕ) (n : ℕ) → n < length began → n < length ended → spans_of (take (suc n) began) (take (suc n) ended) ≡ spans_of (take n began) (take n ended) ++ span_of (get_or began n 0) (get_or ended n 0) ∷ []
spans_next [] ended n within also = absurd (omega (arith, within))
spans_next (x ∷ began) [] n within also = absurd (omega (arith, also))
spans_next (x ∷ began) (y ∷ ended) zero within also = refl
spans_next (x ∷ began) (y ∷ ended) (suc n) within also = ap (λ rest. span_of x y ∷ rest) (spans_next began ended n (omega (arith, within)) (omega (arith, also)))

-- once it is pushed
pub spans_grown : (began ended : List ℕ) (n : ℕ) (span : Span) (old new : List Span) → n < length began → length ended ≡ length began → span ≡ span_of (get_or began n 0) (get_or ended n 0) → old ≡ spans_of (take n began) (take n ended) → new ≡ old ++ span ∷ []
    → new ≡ spans_of (take (n + 1) began) (take (n + 1) ended)
spans_grown began ended n span old new within same spanned so_far pushed =
    let more : suc n ≡ n + 1 = omega arith in
    pushed
    ∙ ap (λ (list : List Span). list ++ span ∷ []) so_far
    ∙ ap (λ (one : Span). spans_of (take n began) (take n ended) ++ one ∷ []) spanned
    ∙ sym (spans_next began ended n within (omega (arith, within, same)))
    ∙ ap (λ k. spans_of (take k began) (take k ended)) more
