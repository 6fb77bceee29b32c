-- What is owed to steps and commands.
use Rattle.std.proofs.Common.{◌≡◌, ◌≢◌, ℕ, ◌+◌, Some, None, true, false, refl, sym, subst, ◌∙◌, inl, inr}
use Rattle.std.specs.Prelude.{Bool, Option, IsSome}
use Rattle.order_check.specs.declared.remainder.Parts.{Parts}
use Rattle.txn.specs.declared.refusals.Refusal.{Refusal}
use Rattle.txn.specs.declared.refusals.Refusal.TheVariants.{BadLine, NoRound}
use Rattle.log_text.specs.declared.commands.Command.{Command}
use Rattle.log_text.specs.declared.commands.Command.TheVariants.{BeginSearch, Collect, Skip, Finish}
use Rattle.log_text.specs.declared.commands.Wanted.{Wanted}
use Rattle.log_text.specs.declared.replies.Reply.{Reply}
use Rattle.log_text.specs.declared.replies.Reply.TheVariants as told
use Rattle.log_text.specs.Replies.{HasKindOfOrder}
use Rattle.log_text.specs.Versions.{has_form}
use Rattle.log_text.specs.declared.searches.Search.{Search}
use Rattle.log_text.specs.declared.versions.Opening.{Opening}
use Rattle.log_text.specs.declared.versions.Version.{Version}
use Rattle.logged_fragments.specs.declared.logged.LoggedFragment.{LoggedFragment}
use Rattle.round_state.specs.Legal.{State}
use Rattle.round_state.specs.EngineState.{EngineState}
use Rattle.round_state.specs.Runs.{Holds, StepsLegally}
use Rattle.round_state.specs.Steps.{StepsTo, answer_claimed}
use Rattle.round_state.specs.declared.reports.Report.{Report}
use Rattle.round_state.specs.declared.steps.Step.{Step}
use Rattle.round_state.specs.declared.steps.Step.TheVariants as step
use Rattle.round_state.specs.declared.steps.StepReply.{StepReply}
use Rattle.round_state.specs.declared.steps.StepReply.TheVariants as reply
use Rattle.cobra.specs.Saving.{saved_told}
use Rattle.cobra.specs.Scripts.{IsBadLine, IsTakenIn, state_told}
use Rattle.cobra.specs.StepReplies.{reply_of, report_of}
use Rattle.cobra.proofs.ReplyKinds.{judged_kind, saved_kind}
use Rattle.report_checking.specs.Owing.{IsOwedReport, IsStep, OwesFinish, OwesRound, OwesOpen, OwesBeside, FinishesWhere, BeginsSearch, IsOfEngine, IsPlain, searched_after}
use Rattle.report_checking.specs.OwedLines.{Owes, OwesIn}
use Rattle.report_checking.specs.Reading.{Leads, LeadsIn, LeadsScript, HoldsIn, IsOwedBy}
use Rattle.report_checking.specs.declared.findings.Owed.{Owed}
use Rattle.report_checking.specs.declared.open_scripts.OpenScript.{OpenScript}
use Rattle.report_checking.specs.declared.findings.Owed.TheVariants as owed

-- a step that isn't a finish reports nothing, or what was judged
pub plain_kind : (old new : EngineState) (asked : Step) (said : StepReply) → IsPlain asked → StepsTo old asked said new → HasKindOfOrder (reply_of said)
plain_kind old new asked reply.Done is right = tt
plain_kind old new asked (reply.Refused refusal) is right = tt
plain_kind old new asked (reply.Cut cut) is right = tt
plain_kind old new (step.Finish budget depth workers) (reply.Report report) is right = absurd is
plain_kind old new (step.Judge claim) (reply.Report report) is right = judged_kind (old.rounds + 1) old.held new.held old.asked (answer_claimed claim) report right.0
plain_kind old new asked (reply.Report report) is right = absurd right

-- a step is told
pub step_owed : (old new : EngineState) (asked : Step) (said : StepReply) → StepsLegally old asked said new → (answer : Reply) → answer ≡ reply_of said → Leads old new (λ before after. IsStep before asked answer after)
step_owed old new asked said legal answer is before holds =
    let after = legal before holds in
    (after.0, (said, after.1, is), after.2)

-- an owed report is told
pub report_owed : (old new : EngineState) (report : Report) → Leads old new (λ before after. IsOwedReport before report after) → (answer : Reply) → answer ≡ report_of report → Leads old new (λ before after. OwesFinish before answer after)
report_owed old new report owes answer is before holds =
    let after = owes before holds in
    (after.0, inl (report, after.1, is), after.2)

-- there is no round to be finished
pub no_round_owed : (old new : EngineState) → old.asked ≡ None → new ≡ old → Leads old new (λ before after. OwesFinish before (told.No NoRound) after)
no_round_owed old new none same before holds =
    (before, inr (subst (λ (engine : EngineState). engine.asked ≡ None) (sym holds.same) none, refl, refl), subst (λ (engine : EngineState). Holds engine before) (sym same) holds)

-- a round is begun, and its finish told
pub round_owed : (old mid new : EngineState) (answer : Reply) → StepsLegally old step.Begin reply.Done mid → Leads mid new (λ before after. OwesFinish before answer after) → Leads old new (λ before after. OwesRound before answer after)
round_owed old mid new answer begin owes before holds =
    let first = begin before holds in
    let last = owes first.0 first.2 in
    (last.0, inr (first.0, first.1, last.1), last.2)

pub round_owed_by : (old mid new : EngineState) (given : Owed) → StepsLegally old step.Begin reply.Done mid → IsOwedBy (λ answer. Leads mid new (λ before after. OwesFinish before answer after)) given → IsOwedBy (λ answer. Leads old new (λ before after. OwesRound before answer after)) given
round_owed_by old mid new (owed.Reply answer) begin owes = (owes.0, round_owed old mid new answer begin owes.1)
round_owed_by old mid new (owed.Nothing why) begin owes = tt

-- or its begin is refused
pub begin_refused : (old new : EngineState) (said : StepReply) → StepsTo old step.Begin said new → StepsLegally old step.Begin said new → said ≢ reply.Done → (answer : Reply) → answer ≡ reply_of said → HasKindOfOrder answer × Leads old new (λ before after. OwesRound before answer after)
begin_refused old new reply.Done right begin not answer is = absurd (not refl)
begin_refused old new (reply.Refused refusal) right begin not answer is = (
  subst HasKindOfOrder (sym is) tt,
  λ before holds.
      let first = begin before holds in
      (first.0, inl (refusal, first.1, is), first.2),
)
begin_refused old new (reply.Report report) right begin not answer is = absurd right
begin_refused old new (reply.Cut cut) right begin not answer is = absurd right

-- what an engine keeps is told
pub show_owed : (old : EngineState) (answer : Reply) → answer ≡ state_told old → HasKindOfOrder answer × Leads old old (λ before after. (answer ≡ state_told before.engine) × (after ≡ before))
show_owed old answer is =
    (subst HasKindOfOrder (sym is) tt, λ before holds. (before, (subst (λ (engine : EngineState). answer ≡ state_told engine) (sym holds.same) is, refl), holds))

-- what is asked for of what it keeps is given out
pub saved_owed : (old : EngineState) (wanted : Wanted) (answer : Reply) → answer ≡ saved_told old.parts wanted → HasKindOfOrder answer × Leads old old (λ before after. (answer ≡ saved_told before.engine.parts wanted) × (after ≡ before))
saved_owed old wanted answer is =
    (subst HasKindOfOrder (sym is) (saved_kind old.parts wanted), λ before holds. (before, (subst (λ (engine : EngineState). answer ≡ saved_told engine.parts wanted) (sym holds.same) is, refl), holds))

-- a command that may not stand there
pub out_of_place : (old : EngineState) → Leads old old (λ before after. IsBadLine before (told.No BadLine) after)
out_of_place old before holds = (before, (refl, refl), holds)

-- the same of a fragment for which the version has no form
pub none_taken : (old : EngineState) (version : Version) (logged : LoggedFragment) (Taken : State → State → Type 0) → has_form version logged ≡ false → Leads old old (λ before after. IsTakenIn version logged before (told.No BadLine) after (Taken before after))
none_taken old version logged Taken none before holds = (before, inr (none, (refl, refl)), holds)

-- one for which it has is taken
some_taken : (old new : EngineState) (version : Version) (logged : LoggedFragment) (answer : Reply) (Taken : State → State → Type 0) → has_form version logged ≡ true → Leads old new Taken → Leads old new (λ before after. IsTakenIn version logged before answer after (Taken before after))
some_taken old new version logged answer Taken some leads before holds =
    let after = leads before holds in
    (after.0, inl (some, after.1), after.2)

pub taken_owed : (old new : EngineState) (version : Version) (logged : LoggedFragment) (asked : Step) (given : Owed) → has_form version logged ≡ true → IsOwedBy (λ answer. Leads old new (λ before after. IsStep before asked answer after)) given → IsOwedBy (λ answer. Leads old new (λ before after. IsTakenIn version logged before answer after (IsStep before asked answer after))) given
taken_owed old new version logged asked (owed.Reply answer) some owes = (owes.0, some_taken old new version logged answer (λ before after. IsStep before asked answer after) some owes.1)
taken_owed old new version logged asked (owed.Nothing why) some owes = tt

-- ---- commands beside a search

-- a search is begun, or isn't
pub begins_owed : (old new : EngineState) (version : Version) (searched now : Bool) (command : Command) (answer : Reply) (budget depth workers : ℕ) (search : Search) → command ≡ BeginSearch budget depth workers search → BeginsSearch old.asked searched answer now → new ≡ old
    → Leads old new (λ before after. OwesBeside version searched before command answer now after)
begins_owed old new version searched now command answer budget depth workers search is begins same before holds = (
  before,
  subst (λ (c : Command). OwesBeside version searched before c answer now before) (sym is) (subst (λ (engine : EngineState). BeginsSearch engine.asked searched answer now) (sym holds.same) begins, refl),
  subst (λ (engine : EngineState). Holds engine before) (sym same) holds,
)

-- a finish is made
finished_where : (old new : EngineState) (may searched : Bool) (refusal : Refusal) (answer : Reply) → may ≡ true → Leads old new (λ before after. OwesFinish before answer after) → Leads old new (λ before after. FinishesWhere may refusal searched before answer false after)
finished_where old new may searched refusal answer is owes before holds =
    let after = owes before holds in
    (after.0, subst (λ (m : Bool). FinishesWhere m refusal searched before answer false after.0) (sym is) (after.1, refl), after.2)

pub finish_where_owed : (old new : EngineState) (may searched : Bool) (refusal : Refusal) (given : Owed) → may ≡ true → IsOwedBy (λ answer. Leads old new (λ before after. OwesFinish before answer after)) given → IsOwedBy (λ answer. Leads old new (λ before after. FinishesWhere may refusal searched before answer false after)) given
finish_where_owed old new may searched refusal (owed.Reply answer) is owes = (owes.0, finished_where old new may searched refusal answer is owes.1)
finish_where_owed old new may searched refusal (owed.Nothing why) is owes = tt

-- or refused
pub refused_where : (old : EngineState) (may searched : Bool) (refusal : Refusal) → may ≡ false → Leads old old (λ before after. FinishesWhere may refusal searched before (told.No refusal) searched after)
refused_where old may searched refusal is before holds =
    (before, subst (λ (m : Bool). FinishesWhere m refusal searched before (told.No refusal) searched before) (sym is) (refl, refl, refl), holds)

-- a search is given up
skipped : (old new : EngineState) (now : Bool) (answer : Reply) → now ≡ false → Leads old new (λ before after. IsStep before step.Abandon answer after) → Leads old new (λ before after. IsStep before step.Abandon answer after × (now ≡ false))
skipped old new now answer none owes before holds =
    let after = owes before holds in
    (after.0, (after.1, none), after.2)

pub skip_owed : (old new : EngineState) (now : Bool) (given : Owed) → now ≡ false → IsOwedBy (λ answer. Leads old new (λ before after. IsStep before step.Abandon answer after)) given → IsOwedBy (λ answer. Leads old new (λ before after. IsStep before step.Abandon answer after × (now ≡ false))) given
skip_owed old new now (owed.Reply answer) none owes = (owes.0, skipped old new now answer none owes.1)
skip_owed old new now (owed.Nothing why) none owes = tt

-- it goes on for as long as its round is open
pub lasts_open : (asked : Option Parts) (searched : Bool) → IsSome asked → searched ≡ searched_after searched asked
lasts_open None searched some = absurd (let it : ⊥ = cc in it)
lasts_open (Some parts) searched some = refl

pub lasts_closed : (asked : Option Parts) (searched : Bool) → asked ≡ None → false ≡ searched_after searched asked
lasts_closed None searched none = refl
lasts_closed (Some parts) searched none = let no : Some parts ≡ None = none in absurd (let it : ⊥ = cc in it)

-- a command that is about the engine alone
beside_row : (version : Version) (searched now : Bool) (before after : State) (command : Command) (answer : Reply) → IsOfEngine command → OwesOpen version before command answer after → now ≡ searched_after searched after.engine.asked → OwesBeside version searched before command answer now after
beside_row version searched now before after (BeginSearch budget depth workers search) answer of owes is = absurd of
beside_row version searched now before after (Collect waits) answer of owes is = absurd of
beside_row version searched now before after Skip answer of owes is = absurd of
beside_row version searched now before after (Finish budget depth workers search) answer of owes is = absurd of
beside_row version searched now before after command answer of owes is = (owes, is)

beside_engine : (old new : EngineState) (version : Version) (searched now : Bool) (command : Command) (answer : Reply) → IsOfEngine command → now ≡ searched_after searched new.asked → Leads old new (λ before after. OwesOpen version before command answer after) → Leads old new (λ before after. OwesBeside version searched before command answer now after)
beside_engine old new version searched now command answer of is owes before holds =
    let after = owes before holds in
    (after.0, beside_row version searched now before after.0 command answer of after.1 (subst (λ (engine : EngineState). now ≡ searched_after searched engine.asked) (sym after.2.same) is), after.2)

pub engine_owed : (old new : EngineState) (version : Version) (searched now : Bool) (command : Command) (given : Owed) → IsOfEngine command → now ≡ searched_after searched new.asked → IsOwedBy (λ answer. Leads old new (λ before after. OwesOpen version before command answer after)) given → IsOwedBy (λ answer. Leads old new (λ before after. OwesBeside version searched before command answer now after)) given
engine_owed old new version searched now command (owed.Reply answer) of is owes = (owes.0, beside_engine old new version searched now command answer of is owes.1)
engine_owed old new version searched now command (owed.Nothing why) of is owes = tt

-- a finish by another name
collects : (old new : EngineState) (version : Version) (waits searched now : Bool) (answer : Reply) → Leads old new (λ before after. FinishesWhere searched NoRound searched before answer now after) → Leads old new (λ before after. OwesBeside version searched before (Collect waits) answer now after)
collects old new version waits searched now answer owes before holds =
    let after = owes before holds in
    (after.0, inr after.1, after.2)

pub collect_owed : (old new : EngineState) (version : Version) (waits searched now : Bool) (given : Owed) → IsOwedBy (λ answer. Leads old new (λ before after. FinishesWhere searched NoRound searched before answer now after)) given → IsOwedBy (λ answer. Leads old new (λ before after. OwesBeside version searched before (Collect waits) answer now after)) given
collect_owed old new version waits searched now (owed.Reply answer) owes = (owes.0, collects old new version waits searched now answer owes.1)
collect_owed old new version waits searched now (owed.Nothing why) owes = tt

-- ---- scripts

script_owed : (old new : OpenScript) (command : Command) (answer : Reply) → new.opening ≡ old.opening → LeadsIn old.opening old.engine new.engine (λ before after. OwesIn old.opening old.searched before command answer new.searched after)
    → LeadsScript (Some old) (Some new) (λ before after. Owes before command answer after)
script_owed old new command answer same owes None holds = absurd holds
script_owed old new command answer same owes (Some before) holds =
    let after = owes before.state holds.0 in
    let searched = subst (λ (searched : Bool). OwesIn old.opening searched before.state command answer new.searched after.0) holds.2 after.1 in
    let owed_it = subst (λ (opening : Opening). OwesIn opening before.searched before.state command answer new.searched after.0) holds.1 searched in
    let stands = subst (λ (opening : Opening). HoldsIn opening new.engine after.0) (sym same) after.2 in
    (Some (record { state = after.0; opening = before.opening; searched = new.searched }), (owed_it, refl), (stands, same ∙ holds.1, refl))

-- a script is open
pub open_owed : (old new : OpenScript) (command : Command) (given : Owed) → new.opening ≡ old.opening → IsOwedBy (λ answer. LeadsIn old.opening old.engine new.engine (λ before after. OwesIn old.opening old.searched before command answer new.searched after)) given
    → IsOwedBy (λ answer. LeadsScript (Some old) (Some new) (λ before after. Owes before command answer after)) given
open_owed old new command (owed.Reply answer) same owes = (owes.0, script_owed old new command answer same owes.1)
open_owed old new command (owed.Nothing why) same owes = tt
