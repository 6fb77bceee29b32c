-- Right replies are true of what was offered, behind one order of what is gone.
use Rattle.std.proofs.Common.{◌≡◌, ℕ, ◌*◌, List, [], ◌++◌, Option, Some, None, Bool, refl, sym, ◌∙◌, subst, inl, inr, append-nil}
use Rattle.txn.specs.declared.transactions.TxnId.{TxnId}
use Rattle.txn.specs.History.{History}
use Rattle.log_text.specs.declared.commands.Command.{Command}
use Rattle.log_text.specs.declared.commands.Command.TheVariants.{Start, Resume, Collect}
use Rattle.log_text.specs.declared.replies.Reply.{Reply}
use Rattle.log_text.specs.declared.replies.Reply.TheVariants as told
use Rattle.log_text.specs.declared.versions.Opening.{Opening}
use Rattle.log_text.specs.declared.versions.Opening.TheVariants.{Ordered, Isolated}
use Rattle.log_text.specs.declared.versions.Promise.TheVariants.{Resumable}
use Rattle.log_text.specs.Versions.{most_sessions}
use Rattle.order_check.specs.Laws.{StandsForWhatRemains}
use Rattle.round_state.specs.EngineState.{EngineState}
use Rattle.round_state.specs.Legal.{State}
use Rattle.round_state.specs.Opening.{fresh}
use Rattle.round_state.specs.Runs.{Holds}
use Rattle.isolation_histories.specs.Split.{split_history}
use Rattle.isolation_scripts.specs.Legal.{NothingIsSplit}
use Rattle.engine_pasts.specs.Laws.{FreshEnginesHoldBehind, HalvesAreToldBehind, ReportedOrdersStandBehind}
use Rattle.cobra.specs.KeptLaws.{HeldIsKept}
use Rattle.cobra.specs.Scripts.{opened_state}
use Rattle.report_checking.specs.Checking.{Checks, left_by, right, start, unchecked}
use Rattle.report_checking.specs.OwedLines.{Owes, OwesFirst, OwesIn, OwesLine, ScriptState}
use Rattle.report_checking.specs.TrueReplies.{ChecksTrue, IsKept, IsKeptIn, IsTrueTold, MovesIn, RightRepliesAreTrue, TellsIn, TellsTrue, beginning, left_out, reported_in, true_reply}
use Rattle.report_checking.specs.declared.findings.Found.{Found}
use Rattle.report_checking.proofs.Standing.{StandsBoth, StandsFast, fresh_stands}
use Rattle.report_checking.proofs.TrueIsolated as isolated
use Rattle.report_checking.proofs.TrueOrdered as ordered

pub record Laws : Type 0 where
  pub isolating : isolated.Laws
  pub orders : ReportedOrdersStandBehind
  pub fresh_behind : FreshEnginesHoldBehind
  pub halves : HalvesAreToldBehind
  pub nothing : NothingIsSplit
  pub remains : StandsForWhatRemains
  pub rest : HeldIsKept

-- what stands for what was received, and remains behind what is gone, by what a script asks
abbrev StandsIn : Opening → List TxnId → State → Type 0
StandsIn (Ordered version) gone state = ordered.StandsOrdered gone state
StandsIn (Isolated version) gone state = isolated.StandsIsolated gone state

abbrev Stands : Option ScriptState → List TxnId → Type 0
Stands None gone = gone ≡ []
Stands (Some script) gone = StandsIn script.opening gone script.state

holds : (engine : EngineState) (whole asked : History) → StandsFast engine whole asked → Holds engine (record { engine = engine; whole = whole; asked = asked })
holds engine whole asked fast = record { same = refl; parts = fast.parts; asked = fast.asked }

kept_in : Laws → (opening : Opening) (gone : List TxnId) (state : State) → StandsIn opening gone state → IsKeptIn opening gone state
kept_in laws (Ordered version) gone state stands = (holds state.engine state.whole state.asked stands.fast, laws.rest gone state.engine state.whole state.asked stands.fast.parts stands.behind)
kept_in laws (Isolated version) gone state stands = (
  record { holds = holds state.engine (split_history state.whole) (split_history state.asked) stands.2.fast; whole = stands.0; asked = stands.1 },
  (
    stands.0,
    stands.1,
    laws.rest gone state.engine (split_history state.whole) (split_history state.asked) stands.2.fast.parts stands.2.behind,
    laws.halves gone state.engine state.whole state.asked stands.2.behind,
  ),
)

kept : Laws → (script : Option ScriptState) (gone : List TxnId) → Stands script gone → IsKept script gone
kept laws None gone stands = stands
kept laws (Some script) gone stands = kept_in laws script.opening gone script.state stands

-- ---- one command

record NextIn (opening : Opening) (gone : List TxnId) (old : State) (command : Command) (answer : Reply) (new : State) : Type 0 where
  ahead : List TxnId
  is_true : TellsIn opening gone (reported_in old command) answer
  moves : MovesIn opening answer ahead
  stands : StandsIn opening (gone ++ ahead) new

next_in : Laws → (opening : Opening) (searched after : Bool) (gone : List TxnId) (old new : State) (command : Command) (answer : Reply) → OwesIn opening searched old command answer after new → StandsIn opening gone old → NextIn opening gone old command answer new
next_in laws (Ordered version) searched after gone old new command answer owes stands =
    let next = ordered.ordered_on laws.isolating.steps laws.orders version searched after gone old new command answer owes stands in
    record { ahead = next.ahead; is_true = next.is_true; moves = next.moves; stands = next.stands }
next_in laws (Isolated version) searched after gone old new command answer owes stands =
    let next = isolated.isolated_on laws.isolating version searched after gone old new command answer owes stands in
    record { ahead = next.ahead; is_true = next.is_true; moves = next.moves; stands = next.stands }

-- an engine that is opened stands behind nothing
opened_stands : Laws → (opening : Opening) (sessions limit : ℕ) → StandsIn opening [] (opened_state opening sessions limit)
opened_stands laws (Ordered version) sessions limit = fresh_stands laws.remains laws.fresh_behind (most_sessions version) sessions limit
opened_stands laws (Isolated version) sessions limit =
    let nothing = laws.nothing sessions in
    (nothing.1, nothing.1, subst (λ (history : History). StandsBoth [] (fresh (most_sessions version) sessions (2 * limit)) history history) (sym nothing.0) (fresh_stands laws.remains laws.fresh_behind (most_sessions version) sessions (2 * limit)))

-- where no script is open
first_stands : Laws → (command : Command) (answer : Reply) (new : Option ScriptState) → OwesFirst command answer new → Stands new []
first_stands laws (Start sessions limit (Resumable opening)) told.Done new first = subst (λ (script : Option ScriptState). Stands script []) (sym first.1) (opened_stands laws opening sessions limit)
first_stands laws (Start sessions limit (Resumable opening)) (told.No refusal) new first = subst (λ (script : Option ScriptState). Stands script []) (sym first.1) refl
first_stands laws (Start sessions limit promise) answer new first = absurd first
first_stands laws (Resume sessions limit opening) answer new first = absurd first
first_stands laws command answer new first = subst (λ (script : Option ScriptState). Stands script []) (sym first.1) refl

record NextOf (old : Option ScriptState) (gone : List TxnId) (command : Command) (answer : Reply) (new : Option ScriptState) : Type 0 where
  ahead : List TxnId
  tells : IsTrueTold old gone command answer ahead
  stands : Stands new (gone ++ ahead)

next_of : Laws → (old : Option ScriptState) (gone : List TxnId) (command : Command) (answer : Reply) (new : Option ScriptState) → Owes old command answer new → Stands old gone → NextOf old gone command answer new
next_of laws None gone command answer new owes stands = record { ahead = []; tells = refl; stands = subst (λ (past : List TxnId). Stands new past) (sym (append-nil gone ∙ stands)) (first_stands laws command answer new owes) }
next_of laws (Some old) gone command answer (Some new) owes stands =
    let next = next_in laws old.opening old.searched new.searched gone old.state new.state command answer owes.0 stands in
    record { ahead = next.ahead; tells = (next.is_true, next.moves); stands = subst (λ (opening : Opening). StandsIn opening (gone ++ next.ahead) new.state) (sym owes.1) next.stands }
next_of laws (Some old) gone command answer None owes stands = absurd owes

-- ---- lines

record NextLine (old : Option ScriptState) (gone : List TxnId) (line : List ℕ) (answer : Reply) (new : Option ScriptState) : Type 0 where
  ahead : List TxnId
  tells : TellsTrue old gone line answer ahead new
  stands : Stands new (gone ++ ahead)

next_line : Laws → (old : Option ScriptState) (gone : List TxnId) (line : List ℕ) (answer : Reply) (new : Option ScriptState) → OwesLine old line answer new → Stands old gone → NextLine old gone line answer new
next_line laws old gone line answer new (inl (command, asks, owes)) stands =
    let next = next_of laws old gone command answer new owes stands in
    record { ahead = next.ahead; tells = inl (command, asks, owes, next.tells); stands = next.stands }
next_line laws old gone line answer new (inr (none, is)) stands = record {
  ahead = [];
  tells = inr (none, is, refl);
  stands = subst (λ (past : List TxnId). Stands new past) (sym (append-nil gone)) (subst (λ (script : Option ScriptState). Stands script gone) (sym is.1) stands);
}

-- what wasn't checked leaves what was kept
left_stands : (command : Command) (old : Option ScriptState) (gone : List TxnId) → Stands old gone → Stands (left_by command old) gone
left_stands (Collect waits) (Some old) gone stands = stands
left_stands (Collect waits) None gone stands = stands
left_stands command old gone stands = stands

-- ---- scripts

record AllTrue (front : List (List ℕ)) (state : Option ScriptState) (all : List Found) : Type 0 where
  gone : List TxnId
  checks : ChecksTrue front state gone all
  stands : Stands state gone

all_true : Laws → (front : List (List ℕ)) (state : Option ScriptState) (all : List Found) → Checks front state all → AllTrue front state all
all_true laws _ _ _ start = record { gone = []; checks = beginning; stands = refl }
all_true laws _ _ _ (right front line stored at new all checks answered) =
    let before = all_true laws front at all checks in
    let next = next_line laws at before.gone line answered.answer new answered.owed before.stands in
    record {
      gone = before.gone ++ next.ahead;
      checks = true_reply front line stored at new before.gone next.ahead all answered.answer before.checks next.tells answered.text_is (kept laws new (before.gone ++ next.ahead) next.stands);
      stands = next.stands;
    }
all_true laws _ _ _ (unchecked front line stored at new all checks said) =
    let before = all_true laws front at all checks in
    let stands : Stands new before.gone = subst (λ (script : Option ScriptState). Stands script before.gone) (sym said.left) (left_stands said.command at before.gone before.stands) in
    record {
      gone = before.gone;
      checks = left_out front line stored at new before.gone all before.checks said (kept laws new before.gone stands);
      stands = stands;
    }

pub are_true : Laws → RightRepliesAreTrue
are_true laws front state all checks = let found = all_true laws front state all checks in (found.gone, found.checks)
