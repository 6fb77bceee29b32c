-- What is told of halves: which transactions, and how many.
use Rattle.std.proofs.Common.{◌≡◌, ℕ, zero, suc, ◌+◌, ◌*◌, ◌/◌, ◌%◌, arith, true, false, List, [], ◌∷◌, map, refl, sym, ap, ◌∙◌, subst, inl, inr}
use Rattle.std.specs.Prelude.{◌⊎◌, Contains, filter, length, nat_eq}
use Rattle.std.proofs.lemmas.Bool.{false≢true}
use Rattle.std.proofs.lemmas.Bool.Decides.{eqb_tells}
use Rattle.list_lemmas.proofs.Filters.{contains_filter, filter_contains}
use Rattle.txn.specs.declared.transactions.TxnId.{TxnId}
use Rattle.isolation_histories.specs.Halves.{commit_half}
use Rattle.isolation_scripts.specs.Isolated.{committed, halved}
use Rattle.isolation_scripts.specs.Telling.{CommittedAreOfCommits, HalvedCountsAreWhole}
use Rattle.isolation_scripts.specs.Wholes.{whole_of}

map_has : (halves : List TxnId) (half : TxnId) → Contains halves half → Contains (map whole_of halves) (whole_of half)
map_has [] half (k, within, is) = absurd (omega (arith, within))
map_has (one ∷ halves) half (zero, within, is) = (0, omega arith, ap whole_of is)
map_has (one ∷ halves) half (suc k, within, is) = let rest = map_has halves half (k, omega (arith, within), is) in (suc rest.0, omega (arith, rest.1), rest.2)

of_map : (halves : List TxnId) (id : TxnId) → Contains (map whole_of halves) id → (half : TxnId) × Contains halves half × (whole_of half ≡ id)
of_map [] id (k, within, is) = absurd (omega (arith, within))
of_map (one ∷ halves) id (zero, within, is) = (one, (0, omega arith, refl), is)
of_map (one ∷ halves) id (suc k, within, is) = more (of_map halves id (k, omega (arith, within), is))
  where
    more : (half : TxnId) × Contains halves half × (whole_of half ≡ id) → (half : TxnId) × Contains (one ∷ halves) half × (whole_of half ≡ id)
    more (half, (n, inside, at), e) = (half, (suc n, omega (arith, inside), at), e)

odd_half : (n : ℕ) → (2 * n + 1) / 2 ≡ n
odd_half n = omega arith

odd_test : (n : ℕ) → nat_eq ((2 * n + 1) % 2) 1 ≡ true
odd_test n = let rest : (2 * n + 1) % 2 ≡ 1 = omega arith in rw rest refl

commit_of : (half : TxnId) → nat_eq (half.number % 2) 1 ≡ true → commit_half (whole_of half) ≡ half
commit_of half test = by_test (eqb_tells (half.number % 2) 1)
  where
    by_test : ((nat_eq (half.number % 2) 1 ≡ true) × (half.number % 2 ≡ 1)) ⊎ ((nat_eq (half.number % 2) 1 ≡ false) × (half.number % 2 ≡ 1 → ⊥)) → commit_half (whole_of half) ≡ half
    by_test (inl (passes, odd)) = let n : 2 * (half.number / 2) + 1 ≡ half.number = omega arith in ap (λ n. record { session = half.session; number = n }) n
    by_test (inr (fails, even)) = absurd (false≢true (sym fails ∙ test))

pub committed_has : CommittedAreOfCommits
committed_has halves id = (there, back)
  where
    there : Contains halves (commit_half id) → Contains (committed halves) id
    there has =
        let odd : whole_of (commit_half id) ≡ id = ap (λ n. record { session = id.session; number = n }) (odd_half id.number) in
        subst (Contains (committed halves)) odd
        (map_has (filter (λ half. nat_eq (half.number % 2) 1) halves) (commit_half id) (contains_filter (λ half. nat_eq (half.number % 2) 1) halves (commit_half id) has (odd_test id.number)))

    back : Contains (committed halves) id → Contains halves (commit_half id)
    back has =
        let found = of_map (filter (λ half. nat_eq (half.number % 2) 1) halves) id has in
        let kept = filter_contains (λ half. nat_eq (half.number % 2) 1) halves found.0 found.1 in
        subst (Contains halves) (sym (commit_of found.0 kept.1) ∙ ap commit_half found.2) kept.0

pub halving : HalvedCountsAreWhole
halving [] = refl
halving (txns ∷ history) = let half : 2 * length txns / 2 ≡ length txns = omega arith in ap (λ n. n ∷ halved (map (λ txns. 2 * length txns) history)) half ∙ ap (λ rest. length txns ∷ rest) (halving history)
