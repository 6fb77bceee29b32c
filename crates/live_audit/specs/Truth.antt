-- Reports that are true of what was accepted.
use Rattle.std.specs.Prelude.{◌≡◌, ℕ, ⊤, Bool, true, false, List, [], ◌∷◌, take, length, map}
use Rattle.txn.specs.History.{History}
use Rattle.logged_fragments.specs.Effects.{effects}
use Rattle.order_check.specs.StandsFor.{with_fragment, history_after}
use Rattle.fragment_intake.specs.declared.rules.Item.{Item}
use Rattle.fragment_intake.specs.declared.rules.Item.TheVariants as item
use Rattle.fragment_intake.specs.declared.rules.Parcel.{Parcel}
use Rattle.report_queue.specs.declared.entries.Entry.{Entry}
use Rattle.report_queue.specs.declared.entries.Entry.TheVariants.{Accepted, Refused, Report}
use Rattle.round_state.specs.Legal.{IsTrueOf}
use Rattle.round_state.specs.Opening.{no_history}
use Rattle.round_state.specs.Steps.{arrival_of}
use Rattle.round_state.specs.declared.reports.Report as reports

-- of each parcel that the entries tell of, in order, whether it was accepted
abbrev pub outcomes : List Entry → List Bool
outcomes [] = []
outcomes (Accepted collector place ∷ more) = true ∷ outcomes more
outcomes (Refused collector place refusal ∷ more) = false ∷ outcomes more
outcomes (other ∷ more) = outcomes more

-- A history with an item that was accepted: what a fragment did stands at the end of its session, and so does what one did that is joined
-- with, unless its session is the next new one: then it stands in a session more. A close and an end add nothing.
abbrev pub history_with : History → Item → History
history_with history (item.Fragment logged) = with_fragment history (effects logged)
history_with history (item.Join logged) = history_after history (arrival_of (length history) (effects logged))
history_with history other = history

-- a history with those of the parcels that were accepted, one after another
abbrev pub history_with_all : History → List Parcel → List Bool → History
history_with_all history (parcel ∷ more) (true ∷ outcomes) = history_with_all (history_with history parcel.item) more outcomes
history_with_all history (parcel ∷ more) (false ∷ outcomes) = history_with_all history more outcomes
history_with_all history taken outcomes = history

-- the whole history that was accepted, from so many sessions on of which nothing had been received
abbrev pub accepted_history : ℕ → List Parcel → List Entry → History
accepted_history sessions taken sent = history_with_all (no_history sessions) taken (outcomes sent)

-- of the sessions that are counted, which come first, the first so many transactions each
abbrev pub firsts : List ℕ → History → History
firsts (count ∷ counts) (session ∷ history) = take count session ∷ firsts counts history
firsts counts history = []

-- A report is true of a whole history: so many are there of each session that it counts, and the kind, where it isn't spent, is the verdict of
-- these. It says nothing of sessions that it doesn't count, as those that joined later.
pub record IsTrueReport (history : History) (report : reports.Report) : Type 0 where
  pub counts : map length (firsts report.counts history) ≡ report.counts
  pub kind : IsTrueOf (firsts report.counts history) report.kind

-- an entry that is a report is true of the history
abbrev pub IsTrueEntry : History → Entry → Type 0
IsTrueEntry history (Report report) = IsTrueReport history report
IsTrueEntry history other = ⊤
