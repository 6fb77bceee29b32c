-- Reports as a word tells them, by round and kind, and which of two was published later.
use Rattle.std.specs.Prelude.{◌≡◌, ℕ, zero, suc, ◌+◌, ◌-◌, ◌*◌, ◌/◌, ◌%◌, ◌<◌, ◌⊎◌, ⊤, List, length, slice_get, Option, Some, None, nat_eq, if◌then◌else◌}
use Rattle.order_check.specs.declared.remainder.Kind.{Kind}
use Rattle.order_check.specs.declared.remainder.Kind.TheVariants.{Serial, Pending, Violated, Spent}

-- a report's round and kind
abbrev pub Told : Type 0
Told = ℕ × Kind

-- a kind's number in the word
abbrev pub code_of : Kind → ℕ
code_of Serial = 0
code_of Pending = 1
code_of Violated = 2
code_of Spent = 3

-- the kind that has this number
abbrev pub kind_at : ℕ → Kind
kind_at zero = Serial
kind_at (suc zero) = Pending
kind_at (suc (suc zero)) = Violated
kind_at (suc (suc (suc _))) = Spent

-- the word that tells of a report, or that none was published: 4 times its round, and its kind's number; or 0
abbrev pub word_of : Option Told → ℕ
word_of None = 0
word_of (Some told) = 4 * told.0 + code_of told.1

-- the report that a word other than 0 tells of
abbrev pub report_at : ℕ → Told
report_at word = (word / 4, kind_at (word % 4))

-- the report that a word tells of, if any
abbrev pub told_by : ℕ → Option Told
told_by word = if nat_eq word 0 then None else Some (report_at word)

-- a report's round; 0 where there is none
abbrev pub round_of : Option Told → ℕ
round_of None = 0
round_of (Some told) = told.0

-- the report is of a round before this one
abbrev pub IsBefore : ℕ → Told → Type 0
IsBefore round told = told.0 < round

-- the first is the second, or of an earlier round: so rounds don't go back, and one round has one kind
abbrev pub IsNoLater : Option Told → Option Told → Type 0
IsNoLater first second = (first ≡ second) ⊎ (round_of first < round_of second)

-- the report, if there is one, stands in the list
abbrev pub WasPublished : List Told → Option Told → Type 0
WasPublished published None = ⊤
WasPublished published (Some told) = (place : ℕ) × (slice_get published place ≡ Some told)

-- the report published last, if any
abbrev pub last_of : List Told → Option Told
last_of published = slice_get published (length published - 1)
