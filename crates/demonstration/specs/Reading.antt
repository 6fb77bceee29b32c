-- What a reader of the auditor's entries has heard.
use Rattle.std.specs.Prelude.{List, [], ◌∷◌, Option, Some, None}
use Rattle.order_check.specs.declared.remainder.Kind.{Kind}
use Rattle.report_queue.specs.declared.entries.Entry.{Entry}
use Rattle.report_queue.specs.declared.entries.Entry.TheVariants.{Report}

-- the first of the two, if it is there
abbrev pub or_else : Option Kind → Option Kind → Option Kind
or_else (Some kind) other = Some kind
or_else None other = other

-- the kind of an entry that is a report
abbrev pub kind_of : Entry → Option Kind
kind_of (Report report) = Some report.kind
kind_of other = None

-- the kind of the last report among the entries
abbrev pub last_kind : List Entry → Option Kind
last_kind [] = None
last_kind (entry ∷ more) = or_else (last_kind more) (kind_of entry)
