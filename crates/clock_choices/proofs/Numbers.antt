-- Numbers that climb, and the transactions of a session that have one of them.
use Rattle.std.proofs.Common.{◌≡◌, ◌≢◌, ◌⊎◌, ℕ, ◌+◌, ◌<◌, ◌≤◌, List, length, get_or, sym, ap, ◌∙◌, subst, inl, inr, arith}
use Rattle.std.proofs.lemmas.Bool.{cases_eq, cases_lt}
use Rattle.std.proofs.lemmas.List.{get_or_default}
use Rattle.std.proofs.lemmas.List.Elements.{Contains-get_or}
use Rattle.txn.specs.declared.transactions.TxnId.{TxnId}
use Rattle.clock_choices.specs.Runs.{Climbs, AreBelow, IsThird, IsLastThird, IsFirstThird}

-- a number at or behind a place is as high, or higher
pub climbs_or : (numbers : List ℕ) (i j : ℕ) → Climbs numbers → i ≤ j → j < length numbers → get_or numbers i 0 ≤ get_or numbers j 0
climbs_or numbers i j climbs below within = elim (cases_eq i j) [
  | inl same ↦ subst (λ n. get_or numbers i 0 ≤ get_or numbers n 0) same (omega arith)
  | inr apart ↦ let less = climbs i j (omega arith) within in omega (arith, less)
]

-- of these places those whose numbers are such have the two
abbrev pub AreTwo : ℕ → List ℕ → TxnId → TxnId → (ℕ → Type 0) → ℕ → ℕ → Type 0
AreTwo session numbers reader writer Has from to = (k : ℕ) → from ≤ k → k < to → Has (get_or numbers k 0)
    → (record { session = session; number = get_or numbers k 0 } ≡ reader) ⊎ (record { session = session; number = get_or numbers k 0 } ≡ writer)

-- each of these places has one of the two
abbrev pub HaveTwo : ℕ → List ℕ → TxnId → TxnId → ℕ → ℕ → Type 0
HaveTwo session numbers reader writer from to = (k : ℕ) → from ≤ k → k < to
    → (record { session = session; number = get_or numbers k 0 } ≡ reader) ⊎ (record { session = session; number = get_or numbers k 0 } ≡ writer)

module _ (session : ℕ) (numbers : List ℕ) (reader writer : TxnId) where
  -- the transaction at a place
  abbrev at : ℕ → TxnId
  at k = record { session = session; number = get_or numbers k 0 }

  -- where such a transaction stands
  third_place : (other : TxnId) → IsThird session numbers reader writer other → (k : ℕ) × (k < length numbers) × (at k ≡ other)
  third_place other third =
      let k = third.listed.0 in
      let number = get_or_default numbers k 0 other.number third.listed.1 ∙ third.listed.2 in
      (k, third.listed.1, λ i. record { session = sym third.same i; number = number i })

  not_third : (k : ℕ) (other : TxnId) → IsThird session numbers reader writer other → at k ≡ other → ¬ ((at k ≡ reader) ⊎ (at k ≡ writer))
  not_third k other third is (inl same) = third.not_reader (sym is ∙ same)
  not_third k other third is (inr same) = third.not_writer (sym is ∙ same)

  third_at : (place : ℕ) → place < length numbers → at place ≢ reader → at place ≢ writer → IsThird session numbers reader writer (at place)
  third_at place within not_reader not_writer = record {
    same = λ i. session;
    listed = Contains-get_or numbers place 0 within;
    not_reader = not_reader;
    not_writer = not_writer;
  }

  module _ (bound count : ℕ) (climbs : Climbs numbers) (are : AreBelow numbers bound count) where
    pub last_third : (place : ℕ) → place < count → AreTwo session numbers reader writer (λ n. n < bound) (place + 1) (length numbers) → at place ≢ reader → at place ≢ writer → IsLastThird session numbers reader writer bound (at place)
    last_third place below two not_reader not_writer =
        let within : place < length numbers = let all = are.within in omega (arith, below, all) in
        record {
          third = third_at place within not_reader not_writer;
          below = are.low place below;
          each = λ other third low.
              let found = third_place other third in
              let number = ap (λ (id : TxnId). id.number) found.2 in
              elim (cases_lt place found.0) [
                | inl behind ↦ absurd (not_third found.0 other third found.2 (two found.0 (omega (arith, behind)) found.1 (omega (arith, number, low))))
                | inr before ↦ let less = climbs_or numbers found.0 place climbs before within in omega (arith, less, number)
              ];
        }

    pub none_below : AreTwo session numbers reader writer (λ n. n < bound) 0 (length numbers) → (other : TxnId) → IsThird session numbers reader writer other → bound ≤ other.number
    none_below two other third =
        let found = third_place other third in
        let number = ap (λ (id : TxnId). id.number) found.2 in
        elim (cases_lt other.number bound) [
          | inl low ↦ absurd (not_third found.0 other third found.2 (two found.0 (omega arith) found.1 (omega (arith, number, low))))
          | inr high ↦ high
        ]

    -- of the places behind the count none has a number below the bound
    pub two_below : (place : ℕ) → HaveTwo session numbers reader writer place count → AreTwo session numbers reader writer (λ n. n < bound) place (length numbers)
    two_below place two k from within low = elim (cases_lt k count) [
      | inl front ↦ two k from front
      | inr behind ↦ absurd (let high = are.high k behind within in omega (arith, high, low))
    ]

    pub first_third : (place : ℕ) → count ≤ place → place < length numbers → AreTwo session numbers reader writer (λ n. bound ≤ n) 0 place → at place ≢ reader → at place ≢ writer → IsFirstThird session numbers reader writer bound (at place)
    first_third place from within two not_reader not_writer = record {
      third = third_at place within not_reader not_writer;
      from = are.high place from within;
      each = λ other third high.
          let found = third_place other third in
          let number = ap (λ (id : TxnId). id.number) found.2 in
          elim (cases_lt found.0 place) [
            | inl before ↦ absurd (not_third found.0 other third found.2 (two found.0 (omega arith) before (omega (arith, number, high))))
            | inr behind ↦ let more = climbs_or numbers place found.0 climbs behind found.1 in omega (arith, more, number)
          ];
    }

    pub none_from : AreTwo session numbers reader writer (λ n. bound ≤ n) 0 (length numbers) → (other : TxnId) → IsThird session numbers reader writer other → other.number < bound
    none_from two other third =
        let found = third_place other third in
        let number = ap (λ (id : TxnId). id.number) found.2 in
        elim (cases_lt other.number bound) [
          | inl low ↦ low
          | inr high ↦ absurd (not_third found.0 other third found.2 (two found.0 (omega arith) found.1 (omega (arith, number, high))))
        ]

    -- nor has one before it a number from the bound on
    pub two_from : (place : ℕ) → HaveTwo session numbers reader writer count place → AreTwo session numbers reader writer (λ n. bound ≤ n) 0 place
    two_from place two k from below high = elim (cases_lt k count) [
      | inl front ↦ absurd (let low = are.low k front in omega (arith, high, low))
      | inr behind ↦ two k behind below
    ]
