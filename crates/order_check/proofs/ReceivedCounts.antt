-- How many were received of each session, one session after another.
use Rattle.std.proofs.Common.{◌≡◌, ℕ, ◌+◌, ◌<◌, ◌≤◌, [], ◌∷◌, ◌++◌, length, take, ap, ◌∙◌, arith}
use Rattle.std.proofs.lemmas.List.{take_more, take_all}
use Rattle.order_check.specs.declared.remainder.Parts.{Parts}
use Rattle.order_check.specs.Based.{received_count, received_counts}
use Rattle.order_check.specs.Good.{IsGood}
use Rattle.order_check.proofs.CountedFronts.{counts_at, counts_length}

-- the counts of one session more
pub counts_more : (parts : Parts) (s : ℕ) → IsGood parts → s < length parts.remain → take (s + 1) (received_counts parts) ≡ take s (received_counts parts) ++ received_count parts s ∷ []
counts_more parts s good within =
    let size = counts_length parts.base.marks parts.remain good.marks in
    let inside : s < length (received_counts parts) = omega (arith, size) in
    take_more (received_counts parts) s 0 inside ∙ ap (λ (n : ℕ). take s (received_counts parts) ++ n ∷ []) (counts_at parts.base.marks parts.remain s good.marks)

-- the counts of all sessions
pub counts_all : (parts : Parts) (n : ℕ) → IsGood parts → n ≡ length parts.remain → take n (received_counts parts) ≡ received_counts parts
counts_all parts n good e =
    let size = counts_length parts.base.marks parts.remain good.marks in
    let low : length (received_counts parts) ≤ n = omega (arith, size) in
    take_all n (received_counts parts) low
