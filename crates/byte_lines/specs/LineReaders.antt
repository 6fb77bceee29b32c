-- What a reader of lines holds, and what it hands out.
use Rattle.std.specs.Prelude.{◌≡◌, ℕ, ◌+◌, ◌*◌, ◌<◌, ◌≤◌, ◌⊎◌, ⊤, List, [], ◌∷◌, ◌++◌, length, nat_le, if◌then◌else◌, Option, Some, None}
use Rattle.std.specs.Option.{option_map}
use Rattle.std.specs.Global.{Vec}
use Rattle.std.specs.Io.KnownBytes.{Consumes, IsAtEnd}
use Rattle.byte_lines.specs.declared.lines.Next.{Next}
use Rattle.byte_lines.specs.declared.lines.Next.TheVariants.{Line, TooLong, End}
use Rattle.byte_lines.specs.Lines.{lines, HasNoLf}

-- What a contract sees of a reader: at most how long a line may be; the bytes that were read, and are of no line yet; and
-- the front of a line that has come so far, which is None once it is longer than the limit.
pub record LineState : Type 0 where
  pub limit : ℕ
  pub ahead : List ℕ
  pub under_way : Option (List ℕ)

abbrev pub bytes_of : Option (Vec ℕ) → Option (List ℕ)
bytes_of line = option_map (λ v. v.items) line

-- the front of a line, grown by a piece
abbrev pub grown : ℕ → Option (List ℕ) → List ℕ → Option (List ℕ)
grown limit None piece = None
grown limit (Some front) piece = if nat_le (length (front ++ piece)) limit then Some (front ++ piece) else None

-- what is handed out for a line that is whole
abbrev pub IsHandedOut : Option (List ℕ) → Next → Type 0
IsHandedOut (Some line) (Line bytes) = bytes.items ≡ line
IsHandedOut None TooLong = ⊤
IsHandedOut line next = ⊥

-- what is handed out at the end of input, where an empty line is none
abbrev pub IsLast : Option (List ℕ) → Next → Type 0
IsLast (Some []) End = ⊤
IsLast (Some []) next = ⊥
IsLast line next = IsHandedOut line next

-- of these bytes, a piece up to an LF ends the line under way, which is handed out
pub record EndsAtLf (old new : LineState) (bytes : List ℕ) (next : Next) : Type 0 where
  pub piece : List ℕ
  pub no_lf : HasNoLf piece
  pub cut : bytes ≡ piece ++ 10 ∷ new.ahead
  pub handed : IsHandedOut (grown old.limit old.under_way piece) next

-- these bytes are the last there are, and end the line under way
pub record EndsAtEnd (old new : LineState) (bytes : List ℕ) (left : Option (List ℕ)) (next : Next) : Type 0 where
  pub no_lf : HasNoLf bytes
  pub used_up : new.ahead ≡ []
  pub at_end : IsAtEnd left
  pub handed : IsLast (grown old.limit old.under_way bytes) next

-- the rest of a line was read, and the next one begins
pub record ReadsLine (old new : LineState) (bytes : List ℕ) (left : Option (List ℕ)) (next : Next) : Type 0 where
  pub ends : EndsAtLf old new bytes next ⊎ EndsAtEnd old new bytes left next
  pub fresh : new.under_way ≡ Some []

-- Where what was ahead is among the bytes that the last read had given, the LF that ends the line is among those that the last read gave by then, with
-- what is ahead now; or the bytes have none, and are the last.
abbrev pub EndsInLast : LineState → ℕ → LineState → ℕ → List ℕ → Type 0
EndsInLast old last_old new last bytes = length old.ahead ≤ last_old → (length new.ahead < last) ⊎ (HasNoLf bytes × (new.ahead ≡ []))

-- What a source gave becomes the line that is handed out, by what it tells to be left and how much its last read gave, before and after. The line's LF
-- is among what the last read gave, where what was ahead came from that, too.
abbrev pub ReadsNext : LineState → Option (List ℕ) → ℕ → LineState → Option (List ℕ) → ℕ → Next → Type 0
ReadsNext old left last_read new left_now last_read_now next =
    (read : List ℕ) × Consumes left left_now read × ReadsLine old new (old.ahead ++ read) left_now next × EndsInLast old last_read new last_read_now (old.ahead ++ read)

-- of these bytes, a piece without LF is part of the line under way now
pub record StopsInLine (old new : LineState) (bytes : List ℕ) : Type 0 where
  pub piece : List ℕ
  pub no_lf : HasNoLf piece
  pub cut : bytes ≡ piece ++ new.ahead
  pub front : new.under_way ≡ grown old.limit old.under_way piece

-- the lines that are still to come, where the bytes that are left are told, and no line is under way
abbrev pub lines_ahead : LineState → Option (List ℕ) → Option (List (List ℕ))
lines_ahead reader left = option_map (λ bytes. lines (reader.ahead ++ bytes)) left

-- the first of the lines is handed out, or is told to be longer than the limit, and these come after it
abbrev pub IsNextOf : ℕ → Option (List (List ℕ)) → Next → Option (List (List ℕ)) → Type 0
IsNextOf limit None next after = ⊤
IsNextOf limit (Some all) (Line line) after = (rest : List (List ℕ)) × (after ≡ Some rest) × (all ≡ line.items ∷ rest) × (length line.items ≤ limit)
IsNextOf limit (Some all) TooLong after = (rest : List (List ℕ)) × (line : List ℕ) × (after ≡ Some rest) × (all ≡ line ∷ rest) × (limit < length line)
IsNextOf limit (Some all) End after = (after ≡ Some []) × (all ≡ [])

-- Told what bytes were left before and after, the first of their lines is handed out.
abbrev pub HandsOutFirst : LineState → Option (List ℕ) → LineState → Option (List ℕ) → Next → Type 0
HandsOutFirst old left new left_now next = IsNextOf old.limit (lines_ahead old left) next (lines_ahead new left_now)

-- at most how many lines come from the front of one
abbrev pub lines_of : Option (List ℕ) → ℕ
lines_of None = 1
lines_of (Some front) = length front

-- at most how many lines are still handed out, where so many reads still give bytes, each of them 65,536 at most
abbrev pub lines_left : LineState → ℕ → ℕ
lines_left reader reads = lines_of reader.under_way + length reader.ahead + 65536 * reads
