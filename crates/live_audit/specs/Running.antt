-- What the running auditor keeps from turn to turn, and what it comes to.
use Rattle.std.specs.Prelude.{◌≡◌, ℕ, ◌+◌, ◌<◌, ◌≤◌, ◌^◌, ◌⊎◌, ⊤, Bool, true, false, List, [], ◌∷◌, ◌++◌, length, map, slice_index_or, All, Contains, Option, Result}
use Rattle.std.specs.Option.{option_to_list}
use Rattle.std.specs.Prelude as prelude
use Rattle.txn.specs.declared.refusals.Refusal.{Refusal}
use Rattle.txn.specs.declared.refusals.Refusal.TheVariants as refusals
use Rattle.order_check.specs.declared.remainder.Kind.{Kind}
use Rattle.fragment_intake.specs.declared.rules.Item.TheVariants as item
use Rattle.fragment_intake.specs.declared.rules.Parcel.{Parcel}
use Rattle.report_queue.specs.declared.entries.Entry.{Entry}
use Rattle.report_queue.specs.declared.entries.Entry.TheVariants.{Report, Skipped, End}
use Rattle.report_queue.specs.Reports.{IsBefore}
use Rattle.round_state.specs.Legal.{State}
use Rattle.round_state.specs.Opening.{fresh_state}
use Rattle.round_state.specs.Runs.{Holds}
use Rattle.round_state.specs.declared.reports.Report as reports
use Rattle.live_audit.specs.CoreState.{CoreState}
use Rattle.live_audit.specs.Live.{Moves, MovesOn}
use Rattle.live_audit.specs.Moments.{IsOutcomeOf}

-- the round and the kind of each report, in order
abbrev pub reports_in : List Entry → List (ℕ × Kind)
reports_in [] = []
reports_in (Report report ∷ more) = (report.round, report.kind) ∷ reports_in more
reports_in (other ∷ more) = reports_in more

-- an end of this collector was taken
abbrev pub HasEnded : ℕ → List Parcel → Type 0
HasEnded collector taken = (parcel : Parcel) × Contains taken parcel × (parcel.collector ≡ collector) × (parcel.item ≡ item.End)

-- the last report that was sent counts so many of each session
pub record IsLastCount (counts : List ℕ) (sent : List Entry) : Type 0 where
  pub front : List Entry
  pub report : reports.Report
  pub back : List Entry
  pub sent_is : sent ≡ front ++ Report report ∷ back
  pub last : reports_in back ≡ []
  pub counts_are : report.counts ≡ counts

-- the last round was skipped, right before the end, for want of memory or because the numbers of rounds are used up
pub record IsLastSkipped (refusal : Refusal) (sent : List Entry) : Type 0 where
  pub front : List Entry
  pub sent_is : sent ≡ front ++ Skipped refusal ∷ End ∷ []
  pub why : (refusal ≡ refusals.NoMemory) ⊎ (refusal ≡ refusals.TooLong)

-- For private clauses.

-- The engine holds what legal moves from a fresh one on have come to, by which these parcels were taken and these entries sent.
abbrev pub HasComeTo : ℕ → ℕ → ℕ → CoreState → List Parcel → List Entry → Type 0
HasComeTo most sessions limit core taken sent = (state : State) × Moves core.search (fresh_state most sessions limit) taken sent state × Holds core.engine state

-- The outcome of a round that counts so many was sent.
abbrev pub HasOutcome : List ℕ → List Entry → List Entry → Type 0
HasOutcome counts sent sent_now = (outcome : List Entry) × (sent_now ≡ sent ++ outcome) × IsOutcomeOf counts outcome

-- the collectors that are noted as ended have ended
abbrev pub AreEnded : List Bool → List Parcel → Type 0
AreEnded ended taken = (collector : ℕ) → slice_index_or ended collector false ≡ true → HasEnded collector taken

-- the round and the kind of an entry that is a report
abbrev pub told_in : Entry → Option (ℕ × Kind)
told_in (Report report) = prelude.Some (report.round, report.kind)
told_in other = prelude.None

-- what an entry says of its round: refused, where it tells that it was skipped
abbrev pub IsSaid : Entry → Result (Unit {0}) Refusal → Type 0
IsSaid (Skipped refusal) said = said ≡ prelude.Err refusal
IsSaid other said = said ≡ prelude.Ok tt

-- a report can be published: its round is above all that were
abbrev pub CanBeTold : List (ℕ × Kind) → Entry → Type 0
CanBeTold published (Report report) = (1 ≤ report.round) × (report.round < 2 ^ 48) × All (IsBefore report.round) published
CanBeTold published other = ⊤

-- Legal moves were made: these parcels were taken and these entries sent.
pub record HasMoved (old : CoreState) (taken : List Parcel) (sent : List Entry) (new : CoreState) (taken_now : List Parcel) (sent_now : List Entry) : Type 0 where
  pub parcels : List Parcel
  pub entries : List Entry
  pub taken_is : taken_now ≡ taken ++ parcels
  pub sent_is : sent_now ≡ sent ++ entries
  pub moves : MovesOn old.search old.engine parcels entries new.engine
  pub search : new.search ≡ old.search

-- Each report sent was published, and no round was numbered above those that the engine has finished.
pub record HasPublished (core : CoreState) (sent : List Entry) (published : List (ℕ × Kind)) : Type 0 where
  pub published_are : published ≡ reports_in sent
  pub rounds : All (λ told. told.0 ≤ core.engine.rounds) published

-- The same, and no round is open.
pub record IsBetweenRounds (core : CoreState) (sent : List Entry) (published : List (ℕ × Kind)) : Type 0 where
  pub closed : core.engine.asked ≡ prelude.None
  pub told : HasPublished core sent published

-- What a round came to is numbered as the next round, unless it was skipped.
abbrev pub IsNumbered : ℕ → Entry → ℕ → Type 0
IsNumbered old (Report report) new = (report.round ≡ old + 1) × (report.round < 2 ^ 48) × (new ≡ old + 1)
IsNumbered old (Skipped refusal) new = new ≡ old
IsNumbered old other new = ⊥

-- A round that was begun on all that had been received, and reported: whatever histories the engine stood for.
abbrev pub HasCountedAll : CoreState → CoreState → List Entry → reports.Report → Type 0
HasCountedAll old new entries report = (before : State) → Holds old.engine before → (after : State) × Moves old.search before [] entries after × Holds new.engine after × (report.counts ≡ map length before.whole)

-- what a round came to: the report of the next round on all that had been received, or that it was skipped
abbrev pub IsRoundTold : CoreState → Entry → Option Entry → CoreState → Type 0
IsRoundTold old (Report report) more new = (report.round ≡ old.engine.rounds + 1) × (report.round < 2 ^ 48) × (new.engine.rounds ≡ old.engine.rounds + 1) × HasCountedAll old new (Report report ∷ option_to_list more) report
IsRoundTold old (Skipped refusal) more new = (more ≡ prelude.None) × (new.engine.rounds ≡ old.engine.rounds) × ((refusal ≡ refusals.NoMemory) ⊎ (refusal ≡ refusals.TooLong))
IsRoundTold old other more new = ⊥

-- What a round adds to what was sent: a report of all that was received, with what stands behind it; or that it was skipped.
abbrev pub IsRound : CoreState → List Entry → Result (Unit {0}) Refusal → CoreState → List Entry → Type 0
IsRound old sent (prelude.Ok done) new sent_now = (report : reports.Report) × (back : List Entry) × (sent_now ≡ sent ++ Report report ∷ back) × (reports_in back ≡ []) × HasCountedAll old new (Report report ∷ back) report
IsRound old sent (prelude.Err refusal) new sent_now = (sent_now ≡ sent ++ Skipped refusal ∷ []) × ((refusal ≡ refusals.NoMemory) ⊎ (refusal ≡ refusals.TooLong))
