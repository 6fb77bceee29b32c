-- What a run comes to.
use Rattle.std.specs.Prelude.{◌≡◌, ℕ, ◌<◌, true, List, [], ◌∷◌, ◌++◌, length, map, All}
use Rattle.txn.specs.declared.transactions.Txn.{Txn}
use Rattle.demo_store.specs.Logs.{StoreState, IsSourceIn, of_session}
use Rattle.demo_store.specs.declared.requests.Fault.TheVariants as faults
use Rattle.demo_store.specs.declared.requests.Executed.{Executed}
use Rattle.fragment_intake.specs.Collectors.{AreCollectorsOf, Collector}
use Rattle.fragment_intake.specs.Delivers.{of}
use Rattle.fragment_intake.specs.declared.rules.Parcel.{Parcel}
use Rattle.report_queue.specs.Rings.{Receiving}
use Rattle.report_queue.specs.declared.entries.Entry.{Entry}
use Rattle.live_audit.specs.declared.live.AuditorSide.{AuditorSide}
use Rattle.live_audit.specs.CoreState.{Search}
use Rattle.live_audit.specs.Live.{Live}
use Rattle.live_audit.specs.Running.{HasEnded, IsLastCount, reports_in}
use Rattle.live_audit.specs.Truth.{IsTrueEntry, accepted_history}
use Rattle.demonstration.specs.declared.collecting.Collected.{Collected}
use Rattle.demonstration.specs.declared.reading.Heard.{Heard}
use Rattle.demonstration.specs.declared.halls.Hall.{Hall}
use Rattle.demonstration.specs.declared.texts.Shown.{Shown}
use Rattle.demonstration.specs.declared.threads.Returned.{Returned}
use Rattle.demonstration.specs.Reading.{last_kind}
use Rattle.demonstration.specs.Work.{IsAllWork, done_in}

-- how much the search of a round may cost
abbrev pub demo_search : Search
demo_search = record { budget = 4096; depth = 2 }

-- The auditor of four sessions took these parcels, an end of each collector among them, and sent these entries: each report is true of what was
-- accepted, and the last counts all of it.
pub record HasAudited (taken : List Parcel) (sent : List Entry) : Type 0 where
  pub live : Live 64 4 4096 demo_search taken sent
  pub ends : (collector : ℕ) → collector < 4 → HasEnded collector taken
  pub reports : All (IsTrueEntry (accepted_history 4 taken sent)) sent
  pub last : IsLastCount (map length (accepted_history 4 taken sent)) sent

-- the parcels have all the work of each of the four sessions, whose collector has its number
abbrev pub HaveAllWork : List Parcel → Type 0
HaveAllWork parcels = IsAllWork 0 (of 0 parcels) × IsAllWork 1 (of 1 parcels) × IsAllWork 2 (of 2 parcels) × IsAllWork 3 (of 3 parcels)

-- of each of the four sessions, whose collector has its number, the log has what the parcels' transactions did
abbrev pub HasExecuted : List Executed → List Parcel → Type 0
HasExecuted log parcels = (of_session 0 log ≡ done_in (of 0 parcels)) × (of_session 1 log ≡ done_in (of 1 parcels)) × (of_session 2 log ≡ done_in (of 2 parcels)) × (of_session 3 log ≡ done_in (of 3 parcels))

-- each read in the log was answered with the last writer of its key before it
abbrev pub IsHonest : List Executed → Type 0
IsHonest log = (older newer : List Executed) (executed : Executed) → log ≡ older ++ executed ∷ newer → All (λ read. IsSourceIn older read.0 read.1) executed.txn.reads

-- What is shown of a run of this store whose auditor sent these entries: the fault is the store's, and without a fault the store was honest; each
-- collector submitted all of its work, 11 items, and all of these were taken; the store has executed them; the auditor audited them; the last of
-- its reports has this kind, and so has the latest one that it has published.
pub record IsRunOf (store : StoreState) (sent : List Entry) (shown : Shown) : Type 0 where
  pub fault : store.fault ≡ shown.fault
  pub honest : store.fault ≡ faults.None → IsHonest store.log
  pub taken : List Parcel
  pub submitted : shown.tally.submitted ≡ 11 ∷ 11 ∷ 11 ∷ 11 ∷ []
  pub all : shown.tally.taken ≡ 11 ∷ 11 ∷ 11 ∷ 11 ∷ []
  pub work : HaveAllWork taken
  pub executed : HasExecuted store.log taken
  pub audited : HasAudited taken sent
  pub last : shown.last ≡ last_kind sent
  pub latest : shown.latest ≡ last_kind sent

-- what is shown of some run
abbrev pub IsRun : Shown → Type 0
IsRun shown = (store : StoreState) × (sent : List Entry) × IsRunOf store sent shown

-- For private clauses.

-- the pass is the collector's again, and where it is done all of its session's work was submitted, which is 11 items, and what that did is noted
abbrev pub HasCollected : Collector → Collected → Type 0
HasCollected pass collected = (collected.pass.0 ≡ pass.0) × (collected.pass.1 ≡ pass.1) × (collected.is_done ≡ true → (length collected.pass.2 ≡ 11) × IsAllWork pass.1 collected.pass.2 × (collected.done ≡ done_in collected.pass.2))

-- the side is the auditor's again
abbrev pub IsSameSide : AuditorSide → AuditorSide → Type 0
IsSameSide old new = (new.pass.0 ≡ old.pass.0) × (new.sender.ring ≡ old.sender.ring) × (new.seat.word ≡ old.seat.word)

-- the reader is back, and tells the kind of the last report that it has received, and what it has received where that is whole
abbrev pub HasHeard : Receiving → Heard → Type 0
HasHeard old heard = (heard.reader.ring ≡ old.ring) × (heard.last ≡ last_kind heard.reader.received) × (heard.is_whole ≡ true → heard.entries ≡ heard.reader.received)

-- nothing was submitted yet
abbrev pub AreFresh : Collector × Collector × Collector × Collector → Type 0
AreFresh passes = (passes.0.2 ≡ []) × (passes.1.2 ≡ []) × (passes.2.2 ≡ []) × (passes.3.2 ≡ [])

-- the auditor's side of the hall, by which nothing was done yet
pub record IsFreshSide (hall : Hall) (side : AuditorSide) : Type 0 where
  pub desk : side.pass.0 ≡ hall.desk.0
  pub word : side.seat.word ≡ hall.latest
  pub taken : side.pass.1 ≡ []
  pub sent : side.sender.sent ≡ []
  pub published : side.seat.published ≡ []

-- the pass is the collector's again, by which all of its session's work was submitted, 11 items
abbrev pub IsDone : Collector → Collector → Type 0
IsDone old new = (new.0 ≡ old.0) × (new.1 ≡ old.1) × (length new.2 ≡ 11) × IsAllWork old.1 new.2

-- this is what the transactions did that the collectors' passes have submitted
abbrev pub AreDoneBy : List Txn × List Txn × List Txn × List Txn → Collector × Collector × Collector × Collector → Type 0
AreDoneBy done passes = (done.0 ≡ done_in passes.0.2) × (done.1 ≡ done_in passes.1.2) × (done.2 ≡ done_in passes.2.2) × (done.3 ≡ done_in passes.3.2)

-- and this is what the log has of the four sessions
abbrev pub AreLogged : List Txn × List Txn × List Txn × List Txn → List Executed → Type 0
AreLogged done log = (done.0 ≡ of_session 0 log) × (done.1 ≡ of_session 1 log) × (done.2 ≡ of_session 2 log) × (done.3 ≡ of_session 3 log)

-- all came back, and did all of their work; the reader tells what it has received, and the kind of the last report among that
pub record HasReturned (passes : Collector × Collector × Collector × Collector) (side : AuditorSide) (reader : Receiving) (returned : Returned) : Type 0 where
  pub first : IsDone passes.0 returned.passes.0
  pub second : IsDone passes.1 returned.passes.1
  pub third : IsDone passes.2 returned.passes.2
  pub fourth : IsDone passes.3 returned.passes.3
  pub done : AreDoneBy returned.done returned.passes
  pub side_is : IsSameSide side returned.side
  pub audited : HasAudited returned.side.pass.1 returned.side.sender.sent
  pub published : returned.side.seat.published ≡ reports_in returned.side.sender.sent
  pub ring : returned.reader.ring ≡ reader.ring
  pub heard : returned.last ≡ last_kind returned.reader.received
  pub entries : returned.entries ≡ returned.reader.received

-- what came back is of this hall
pub record IsOfHall (hall : Hall) (returned : Returned) : Type 0 where
  pub collectors : AreCollectorsOf hall.desk returned.passes
  pub auditor : returned.side.pass.0 ≡ hall.desk.0
  pub word : returned.side.seat.word ≡ hall.latest
  pub ring : returned.reader.ring ≡ returned.side.sender.ring

-- each collector's pass has submitted its 11 items
abbrev pub HaveSubmitted : Collector × Collector × Collector × Collector → Type 0
HaveSubmitted passes = (length passes.0.2 ≡ 11) × (length passes.1.2 ≡ 11) × (length passes.2.2 ≡ 11) × (length passes.3.2 ≡ 11)

-- and all of its session's work
abbrev pub HaveWorked : Collector × Collector × Collector × Collector → Type 0
HaveWorked passes = IsAllWork 0 passes.0.2 × IsAllWork 1 passes.1.2 × IsAllWork 2 passes.2.2 × IsAllWork 3 passes.3.2
