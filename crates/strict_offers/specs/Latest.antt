-- For private clauses: when the last of some transactions began. One that ended no earlier ended before none of them began.
use Rattle.std.specs.Prelude.{◌≡◌, ◌↔◌, ℕ, false, List, Option, All}
use Rattle.strict_histories.specs.declared.timed.TimedTxn.{TimedTxn}
use Rattle.strict_histories.specs.Rewriting.{is_earlier}

-- it is before neither of two times exactly if it isn't before the later one
abbrev pub IsLater : Option ℕ → Option ℕ → Option ℕ → Type 0
IsLater one other later = (ended : Option ℕ) → (is_earlier ended later ≡ false) ↔ ((is_earlier ended one ≡ false) × (is_earlier ended other ≡ false))

abbrev pub IsLatestBegin : List TimedTxn → Option ℕ → Type 0
IsLatestBegin txns latest = (ended : Option ℕ) → (is_earlier ended latest ≡ false) ↔ All (λ t. is_earlier ended t.span.began ≡ false) txns

-- of two lists
abbrev pub IsLatestOfBoth : List TimedTxn → List TimedTxn → Option ℕ → Type 0
IsLatestOfBoth earlier given latest = (ended : Option ℕ) → (is_earlier ended latest ≡ false) ↔ (All (λ t. is_earlier ended t.span.began ≡ false) earlier × All (λ t. is_earlier ended t.span.began ≡ false) given)
