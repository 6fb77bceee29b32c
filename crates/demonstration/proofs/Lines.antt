-- The collectors' lines, one after the other.
use Rattle.std.proofs.Common.{arith, ℕ, zero, suc, ◌+◌, ◌≡◌, ◌<◌, List, [], ◌∷◌, ◌++◌, length, drop, get_or, refl, sym, ap, ◌∙◌}
use Rattle.std.proofs.lemmas.List.{append-nil, length-drop}
use Rattle.demonstration.specs.Texts.{collector_line, collector_lines}

abbrev line_at : List ℕ → List ℕ → ℕ → List ℕ
line_at submitted taken collector = collector_line collector (get_or submitted collector 0) (get_or taken collector 0)

step : (collector n : ℕ) (submitted taken : List ℕ) → n < length submitted → n < length taken
    → collector_lines collector (drop n submitted) (drop n taken) ≡ collector_line collector (get_or submitted n 0) (get_or taken n 0) ++ collector_lines (collector + 1) (drop (suc n) submitted) (drop (suc n) taken)
step collector n [] taken some more = absurd (omega arith)
step collector n (first ∷ submitted) [] some more = absurd (omega arith)
step collector zero (first ∷ submitted) (one ∷ taken) some more = refl
step collector (suc n) (first ∷ submitted) (one ∷ taken) some more = step collector n submitted taken (omega arith) (omega arith)

no_more : (collector : ℕ) (submitted taken : List ℕ) → length submitted ≡ 0 → collector_lines collector submitted taken ≡ []
no_more collector [] taken none = refl
no_more collector (first ∷ submitted) taken none = absurd (omega arith)

-- four collectors have four lines
pub four_lines : (submitted taken : List ℕ) → length submitted ≡ 4 → length taken ≡ 4
    → line_at submitted taken 0 ++ (line_at submitted taken 1 ++ (line_at submitted taken 2 ++ line_at submitted taken 3)) ≡ collector_lines 0 submitted taken
four_lines submitted taken four also = let line = line_at submitted taken in sym (
    step 0 0 submitted taken (omega arith) (omega arith)
    ∙ ap (λ rest. line 0 ++ rest) (step 1 1 submitted taken (omega arith) (omega arith)
    ∙ ap (λ rest. line 1 ++ rest) (step 2 2 submitted taken (omega arith) (omega arith)
    ∙ ap (λ rest. line 2 ++ rest) (step 3 3 submitted taken (omega arith) (omega arith)
    ∙ ap (λ rest. line 3 ++ rest) (no_more 4 (drop 4 submitted) (drop 4 taken) (omega (arith, length-drop 4 submitted)))
    ∙ append-nil (line 3)))))
