-- What contracts see of the seats of a latest report.
use Rattle.std.specs.Prelude.{◌≡◌, ℕ, List, Option, None}
use Rattle.atomic_table.specs.Seated.{TableId}
use Rattle.report_queue.specs.Reports.{Told}

-- of the publisher's seat: which word it is of, and what it has published
pub record Publisher : Type 0 where
  pub word : TableId
  pub published : List Told

-- of a reader's seat: which word it is of, how often it has looked, and the report that it saw last
pub record Reader : Type 0 where
  pub word : TableId
  pub looks : ℕ
  pub seen : Option Told

-- a reader's seat of this word that has not looked
abbrev pub IsNewReader : TableId → Reader → Type 0
IsNewReader word seat = (seat.word ≡ word) × (seat.looks ≡ 0) × (seat.seen ≡ None)
