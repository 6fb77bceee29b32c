-- For private clauses: ends of a session's transactions, each with the number of its own, among which the last is found that ended before
-- another began.
use Rattle.std.specs.Prelude.{◌≡◌, ℕ, ⊤, Bool, true, false, List, [], ◌∷◌, Option, Some, None}
use Rattle.std.specs.List.Sorted.{IsNonDecreasingBy}
use Rattle.strict_histories.specs.declared.timed.Span.{Span}
use Rattle.strict_histories.specs.declared.timed.TimedTxn.{TimedTxn}
use Rattle.strict_histories.specs.Rewriting.{is_earlier, last_before, later_or}
use Rattle.strict_histories.specs.Strict.{TimedHistory}

-- the number beside the last of these ends that is before this begin
abbrev pub last_end : Option ℕ → List (ℕ × ℕ) → Option ℕ
last_end began [] = None
last_end began (end ∷ ends) = later_or (last_end began ends) (is_earlier (Some end.0) began) end.1

-- this number if it passes, else what is found among the others
abbrev pub or_last : Bool → ℕ → Option ℕ → Option ℕ
or_last true number found = Some number
or_last false number found = found

-- They don't fall.
abbrev pub AreRising : List (ℕ × ℕ) → Type 0
AreRising ends = IsNonDecreasingBy (λ end. end.0) ends

-- they don't fall, and are enough to find, for each span, the last of these transactions that ended before it
pub record AreEndsOf (txns : List TimedTxn) (ends : List (ℕ × ℕ)) : Type 0 where
  pub rising : AreRising ends
  pub same : (span : Span) → last_end span.began ends ≡ last_before span 0 txns

-- the same of each session
abbrev pub AreAllEndsOf : TimedHistory → List (List (ℕ × ℕ)) → Type 0
AreAllEndsOf [] [] = ⊤
AreAllEndsOf (txns ∷ timed) (one ∷ ends) = AreEndsOf txns one × AreAllEndsOf timed ends
AreAllEndsOf timed ends = ⊥
