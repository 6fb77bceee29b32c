-- The last report's kind, as entries come.
use Rattle.std.proofs.Common.{◌≡◌, ◌-◌, List, [], ◌∷◌, ◌++◌, length, Option, Some, None, refl, sym, ◌∙◌, ap, arith}
use Rattle.std.specs.Prelude.{option_map, slice_get}
use Rattle.order_check.specs.declared.remainder.Kind.{Kind}
use Rattle.report_queue.specs.declared.entries.Entry.{Entry}
use Rattle.report_queue.specs.declared.entries.Entry.TheVariants.{Accepted, Refused, Report, Cut, Skipped, End}
use Rattle.report_queue.specs.Reports.{Told, last_of}
use Rattle.live_audit.specs.Running.{reports_in}
use Rattle.demonstration.specs.Reading.{or_else, kind_of, last_kind}

or_else_assoc : (a b c : Option Kind) → or_else (or_else a b) c ≡ or_else a (or_else b c)
or_else_assoc (Some kind) b c = refl
or_else_assoc None b c = refl

or_else_none : (a : Option Kind) → or_else a None ≡ a
or_else_none (Some kind) = refl
or_else_none None = refl

pub last_kind_snoc : (entries : List Entry) (entry : Entry) → last_kind (entries ++ entry ∷ []) ≡ or_else (kind_of entry) (last_kind entries)
last_kind_snoc [] entry = sym (or_else_none (kind_of entry))
last_kind_snoc (first ∷ more) entry = ap (λ last. or_else last (kind_of first)) (last_kind_snoc more entry) ∙ or_else_assoc (kind_of entry) (last_kind more) (kind_of first)

-- the kind of a report that may be there
abbrev kind_in : Option Told → Option Kind
kind_in told = option_map (λ (t : Told). t.1) told

-- the last of a list that isn't empty is there
last_is : (told : Told) (more : List Told) (other : Option Kind) → or_else (kind_in (slice_get (told ∷ more) (length more))) other ≡ kind_in (slice_get (told ∷ more) (length more))
last_is told [] other = refl
last_is told (next ∷ more) other = last_is next more other

before_last : (told : Told) (more : List Told) → length (told ∷ more) - 1 ≡ length more
before_last told more = omega arith

last_cons : (told : Told) (more : List Told) → kind_in (last_of (told ∷ more)) ≡ or_else (kind_in (last_of more)) (Some told.1)
last_cons told [] = refl
last_cons told (next ∷ more) =
    ap (λ place. kind_in (slice_get (told ∷ next ∷ more) place)) (before_last told (next ∷ more)) ∙ sym (last_is next more (Some told.1))
    ∙ ap (λ place. or_else (kind_in (slice_get (next ∷ more) place)) (Some told.1)) (sym (before_last next more))

-- the latest report published has the kind of the last report sent
pub latest_kind : (sent : List Entry) → option_map (λ (t : Told). t.1) (last_of (reports_in sent)) ≡ last_kind sent
latest_kind [] = refl
latest_kind (Report report ∷ more) = last_cons (report.round, report.kind) (reports_in more) ∙ ap (λ last. or_else last (Some report.kind)) (latest_kind more)
latest_kind (Accepted collector place ∷ more) = latest_kind more ∙ sym (or_else_none (last_kind more))
latest_kind (Refused collector place refusal ∷ more) = latest_kind more ∙ sym (or_else_none (last_kind more))
latest_kind (Cut cut ∷ more) = latest_kind more ∙ sym (or_else_none (last_kind more))
latest_kind (Skipped refusal ∷ more) = latest_kind more ∙ sym (or_else_none (last_kind more))
latest_kind (End ∷ more) = latest_kind more ∙ sym (or_else_none (last_kind more))
