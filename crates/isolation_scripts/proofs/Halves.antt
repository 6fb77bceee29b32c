-- Halves of transactions are put together two by two, and marks are halved.
use Rattle.std.proofs.Common.{◌≡◌, ℕ, zero, suc, ◌+◌, ◌-◌, ◌*◌, ◌<◌, ◌≤◌, ◌/◌, Bool, cond, List, [], ◌∷◌, ◌++◌, length, get_or, take, refl, sym, ap, ◌∙◌, arith, append_assoc}
use Rattle.txn.specs.declared.transactions.Txn.{Txn}
use Rattle.isolation_scripts.specs.Handed.{half_marks}
use Rattle.isolation_scripts.specs.Wholes.{whole_txn, whole_txns}

whole_step : (halves : List Txn) (m k : ℕ) (d e : Txn) → m ≡ 2 * k → m + 2 ≤ length halves → whole_txns (take (m + 2) halves) ≡ whole_txns (take m halves) ++ whole_txn (get_or halves m d) (get_or halves (m + 1) e) ∷ []
whole_step [] m k d e even long = absurd (omega (arith, long))
whole_step (a ∷ []) m k d e even long = absurd (omega (arith, long))
whole_step (a ∷ b ∷ more) zero k d e even long = refl
whole_step (a ∷ b ∷ more) (suc zero) k d e even long = absurd (omega (arith, even))
whole_step (a ∷ b ∷ more) (suc (suc m)) k d e even long =
    let two : suc (suc m) + 2 ≡ suc (suc (m + 2)) = omega arith in
    let one : suc (suc m) + 1 ≡ suc (suc (m + 1)) = omega arith in
    ap (λ n. whole_txns (take n (a ∷ b ∷ more))) two
    ∙ ap (λ txns. whole_txn a b ∷ txns) (whole_step more m (k - 1) d e (omega (arith, even)) (omega (arith, long)))
    ∙ sym (ap (λ n. whole_txns (take (suc (suc m)) (a ∷ b ∷ more)) ++ whole_txn (get_or (a ∷ b ∷ more) (suc (suc m)) d) (get_or (a ∷ b ∷ more) n e) ∷ []) one)

whole_end : (halves : List Txn) (m k : ℕ) → m ≡ 2 * k → length halves ≤ m + 1 → whole_txns (take m halves) ≡ whole_txns halves
whole_end [] zero k even short = refl
whole_end [] (suc m) k even short = refl
whole_end (a ∷ []) zero k even short = refl
whole_end (a ∷ []) (suc zero) k even short = absurd (omega (arith, even))
whole_end (a ∷ []) (suc (suc m)) k even short = refl
whole_end (a ∷ b ∷ more) zero k even short = absurd (omega (arith, short))
whole_end (a ∷ b ∷ more) (suc zero) k even short = absurd (omega (arith, even))
whole_end (a ∷ b ∷ more) (suc (suc m)) k even short = ap (λ txns. whole_txn a b ∷ txns) (whole_end more m (k - 1) (omega (arith, even)) (omega (arith, short)))

-- one more is put at the end
pub whole_next : (halves before made after : List Txn) (k : ℕ) (begin commit txn : Txn) → k < length halves / 2 → begin ≡ get_or halves (2 * k) begin → commit ≡ get_or halves (2 * k + 1) commit → txn ≡ whole_txn begin commit
    → made ≡ before ++ whole_txns (take (2 * k) halves) → after ≡ made ++ txn ∷ [] → after ≡ before ++ whole_txns (take (2 * (k + 1)) halves)
whole_next halves before made after k begin commit txn within first second is so_far pushed =
    let at : 2 * k + 2 ≡ 2 * (k + 1) = omega arith in
    let step = whole_step halves (2 * k) k begin commit refl (omega (arith, within)) in
    let same : txn ≡ whole_txn (get_or halves (2 * k) begin) (get_or halves (2 * k + 1) commit) = is ∙ ap (λ b. whole_txn b commit) first ∙ ap (λ c. whole_txn (get_or halves (2 * k) begin) c) second in
    pushed
    ∙ ap (λ txns. txns ++ txn ∷ []) so_far
    ∙ append_assoc before (whole_txns (take (2 * k) halves)) (txn ∷ [])
    ∙ ap (λ t. before ++ (whole_txns (take (2 * k) halves) ++ t ∷ [])) same
    ∙ ap (λ txns. before ++ txns) (sym step)
    ∙ ap (λ m. before ++ whole_txns (take m halves)) at

-- all are
pub whole_all : (halves before made : List Txn) (k : ℕ) → length halves / 2 ≤ k → made ≡ before ++ whole_txns (take (2 * k) halves) → made ≡ before ++ whole_txns halves
whole_all halves before made k all is = is ∙ ap (λ txns. before ++ txns) (whole_end halves (2 * k) k refl (omega (arith, all)))

-- one mark more
pub marks_next : (marks : List ℕ) (begun : List Bool) (k : ℕ) (d : ℕ) (e : Bool) → k < length marks → k < length begun → half_marks (take (k + 1) marks) (take (k + 1) begun) ≡ half_marks (take k marks) (take k begun) ++ cond (get_or begun k e) (2 * get_or marks k d + 1) (2 * get_or marks k d) ∷ []
marks_next [] begun k d e within flagged = absurd (omega (arith, within))
marks_next (mark ∷ marks) [] k d e within flagged = absurd (omega (arith, flagged))
marks_next (mark ∷ marks) (flag ∷ begun) zero d e within flagged = refl
marks_next (mark ∷ marks) (flag ∷ begun) (suc k) d e within flagged =
    let one : suc k + 1 ≡ suc (k + 1) = omega arith in
    ap (λ n. half_marks (take n (mark ∷ marks)) (take n (flag ∷ begun))) one ∙ ap (λ rest. cond flag (2 * mark + 1) (2 * mark) ∷ rest) (marks_next marks begun k d e (omega (arith, within)) (omega (arith, flagged)))

pub marks_pushed : (marks : List ℕ) (begun : List Bool) (k d : ℕ) (e : Bool) (half : ℕ) (made after : List ℕ) → k < length marks → length begun ≡ length marks → half ≡ cond (get_or begun k e) (2 * get_or marks k d + 1) (2 * get_or marks k d) → made ≡ half_marks (take k marks) (take k begun) → after ≡ made ++ half ∷ []
    → after ≡ half_marks (take (k + 1) marks) (take (k + 1) begun)
marks_pushed marks begun k d e half made after within flags is so_far pushed =
    pushed ∙ ap (λ hs. hs ++ half ∷ []) so_far ∙ ap (λ h. half_marks (take k marks) (take k begun) ++ h ∷ []) is ∙ sym (marks_next marks begun k d e within (omega (arith, within, flags)))
