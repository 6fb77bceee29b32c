-- What is owed by halves, told of begins and commits, is owed of the history as it was offered.
use Rattle.round_state.specs.declared.steps.Claim.{Claim}
use Rattle.std.proofs.Common.{◌≡◌, ℕ, ◌*◌, ◌+◌, List, Option, Some, None, true, false, refl, ap, sym, subst, ◌∙◌, inl, inr}
use Rattle.std.specs.Prelude.{Bool, not, ◌⊎◌, ⊤, IsSomeAnd}
use Rattle.txn.specs.History.{History}
use Rattle.txn.specs.declared.refusals.Refusal.{Refusal}
use Rattle.txn.specs.declared.refusals.Refusal.TheVariants.{NoRound, RoundOpen, NoMemory}
use Rattle.txn.specs.declared.transactions.TxnId.{TxnId}
use Rattle.logged_fragments.specs.declared.logged.LoggedFragment.{LoggedFragment}
use Rattle.order_check.specs.declared.remainder.Kind.{Kind}
use Rattle.order_check.specs.declared.remainder.Kind.TheVariants as kinds
use Rattle.order_check.specs.declared.remainder.Parts.{Parts}
use Rattle.order_check.specs.StandsFor.{StandsFor}
use Rattle.log_text.specs.declared.commands.Command.{Command}
use Rattle.log_text.specs.declared.commands.Command.TheVariants as command
use Rattle.log_text.specs.declared.replies.Reply.{Reply}
use Rattle.log_text.specs.declared.replies.Reply.TheVariants as told
use Rattle.log_text.specs.declared.versions.Version.{Version}
use Rattle.log_text.specs.Versions.{has_form, most_sessions, version_of}
use Rattle.log_text.specs.Replies.{HasKindOfOrder, text_of}
use Rattle.log_text.specs.declared.names.Names.{Names}
use Rattle.log_text.specs.declared.names.Names.TheVariants.{Ids, Events}
use Rattle.log_text.specs.declared.versions.Opening.{Opening}
use Rattle.log_text.specs.declared.versions.Opening.TheVariants.{Ordered, Isolated}
use Rattle.round_state.specs.EngineState.{EngineState}
use Rattle.round_state.specs.Legal.{State, Legal, TellsOf, IsTrueOf, whole_after, asked_after}
use Rattle.round_state.specs.Opening.{fresh_state}
use Rattle.round_state.specs.Runs.{Holds, StepsLegally}
use Rattle.round_state.specs.Solving.{IsReportOn}
use Rattle.round_state.specs.Steps.{StepsTo, IsFinished, IsHeldAfter}
use Rattle.round_state.specs.declared.reports.Report.{Report}
use Rattle.round_state.specs.declared.steps.Step.{Step}
use Rattle.round_state.specs.declared.steps.Step.TheVariants as step
use Rattle.round_state.specs.declared.steps.StepReply.{StepReply}
use Rattle.round_state.specs.declared.steps.StepReply.TheVariants as reply
use Rattle.isolation_histories.specs.Laws.{SplitDoublesCounts, SplitKeepsVerdict}
use Rattle.isolation_histories.specs.Logged.{split_logged}
use Rattle.isolation_histories.specs.Split.{split_history, HistoryCanBeSplit}
use Rattle.isolation_scripts.specs.Isolated.{halved, isolated_of}
use Rattle.isolation_scripts.specs.Legal.{IsIsolationOf, TellsIsolationOf, IsTrueIsolation, LegalIsolation, split_state, HoldsSplit, FreshEnginesAreSplit, SplitStepsAreLegal}
use Rattle.isolation_scripts.specs.Splitting.{CanBeAsked, IsAskedFault, split_command}
use Rattle.isolation_scripts.specs.Steps.{split_step, CanBeMade}
use Rattle.cobra.specs.Scripts.{IsBadLine, IsTakenIn, opened_state, room_of}
use Rattle.cobra.specs.StepReplies.{reply_of, report_of, claim_of}
use Rattle.report_checking.specs.Isolation.{IsIsolatedStep, EndsIsolated, IsIsolatedRound, EndsWhere, OwesSplit, OwesAsked, OwesIsolated}
use Rattle.report_checking.specs.Owing.{IsStep, OwesFinish, OwesRound, OwesOpen, OwesBeside, FinishesWhere, GoesOn, BeginsSearch, IsOfEngine, searched_after}
use Rattle.report_checking.specs.Reading.{HoldsIn, Leads, LeadsSplit, IsOwedBy, OfRight, OwesText, IsAlone, EarnsBeside, EarnsIn, GivesBeside, GivesIsolated, isolated_owed}
use Rattle.report_checking.specs.declared.findings.Owed.{Owed}
use Rattle.report_checking.specs.declared.findings.Owed.TheVariants as owed
use Rattle.report_checking.specs.declared.findings.Unshown.{Unshown}
use Rattle.report_checking.proofs.SaidOnce.{IsOneWay}
use Rattle.report_checking.proofs.SplitFaults.{no_asked_fault, same_asked_fault}

pub record Laws : Type 0 where
  pub steps : SplitStepsAreLegal
  pub doubles : SplitDoublesCounts
  pub keeps : SplitKeepsVerdict

-- a fresh engine
fresh_split : FreshEnginesAreSplit → (engine : EngineState) (most sessions limit : ℕ) → Holds engine (fresh_state most sessions limit) → HoldsSplit engine (fresh_state most sessions limit)
fresh_split law engine most sessions limit holds =
    subst (λ (e : EngineState). HoldsSplit e (fresh_state most sessions limit)) holds.same (law most sessions limit (subst (λ (e : EngineState). Holds e (fresh_state most sessions limit)) (sym holds.same) holds))

opened_holds : FreshEnginesAreSplit → (opening : Opening) (engine : EngineState) (sessions limit : ℕ) → Holds engine (opened_state opening sessions limit) → HoldsIn opening engine (opened_state opening sessions limit)
opened_holds law (Ordered version) engine sessions limit holds = holds
opened_holds law (Isolated version) engine sessions limit holds = fresh_split law engine (most_sessions version) sessions (2 * limit) holds

-- an engine with as many sessions and as much room as one that is opened for this
pub fresh_holds : FreshEnginesAreSplit → (opening : Opening) (engine : EngineState) (many sessions limit room : ℕ) → many ≡ most_sessions (version_of opening) → room ≡ room_of opening limit → Holds engine (fresh_state many sessions room) → HoldsIn opening engine (opened_state opening sessions limit)
fresh_holds law opening engine many sessions limit room is room_is holds =
    opened_holds law opening engine sessions limit (subst (λ (n : ℕ). Holds engine (fresh_state n sessions (room_of opening limit))) is (subst (λ (r : ℕ). Holds engine (fresh_state many sessions r)) room_is holds))

-- ---- steps

-- the engine's parts and snapshot stand for these histories, split
stands : (new : EngineState) (mid after : State) → Holds new mid → mid.whole ≡ split_history after.whole → mid.asked ≡ split_history after.asked → after.engine ≡ mid.engine → HistoryCanBeSplit after.whole → HistoryCanBeSplit after.asked → HoldsSplit new after
stands new mid after holds whole asked engine can may = record {
  holds = record {
    same = engine ∙ holds.same;
    parts = subst (λ (h : History). StandsFor new.parts h) whole holds.parts;
    asked = λ parts e. subst (λ (h : History). StandsFor parts h) asked (holds.asked parts e);
  };
  whole = can;
  asked = may;
}

-- a step that leaves the whole history, and makes this of the open round's
made : (new : EngineState) (before mid : State) (asked : Step) (said : StepReply) (now : History) → StepsTo before.engine (split_step asked) said mid.engine → IsTrueIsolation before said
    → mid.whole ≡ split_history before.whole → mid.asked ≡ split_history now → HistoryCanBeSplit before.whole → HistoryCanBeSplit now
    → whole_after before asked said ≡ before.whole → asked_after before asked said ≡ now → Holds new mid → (after : State) × LegalIsolation before asked said after × HoldsSplit new after
made new before mid asked said now steps true_reply whole round can may whole_is round_is holds =
    let after : State = record { engine = mid.engine; whole = before.whole; asked = now } in (
      after,
      record { engine = steps; true_reply = true_reply; whole = sym whole_is; asked = sym round_is },
      stands new mid after holds whole round refl can may,
    )

-- a step of one way makes no report
true_step : (before : State) (old new : EngineState) (asked : Step) (said : StepReply) → IsOneWay asked → StepsTo old asked said new → IsTrueIsolation before said
true_step before old new (step.Finish budget depth workers) said one steps = absurd one
true_step before old new (step.Judge claim) said one steps = absurd one
true_step before old new asked (reply.Report report) one steps = absurd steps
true_step before old new asked said one steps = tt

-- a step that isn't split, and leaves both histories
record IsQuiet (asked : Step) : Type 0 where
  split : split_step asked ≡ asked
  whole : (before : State) (said : StepReply) → whole_after before asked said ≡ before.whole
  round : (before : State) (said : StepReply) → asked_after before asked said ≡ before.asked

quiet : (old new : EngineState) (asked : Step) (inner : Reply) → IsOneWay asked → IsQuiet asked → Leads old new (λ before after. IsStep before asked inner after) → LeadsSplit old new (λ before after. IsIsolatedStep before asked (isolated_of inner) after)
quiet old new asked inner one is leads before holds =
    let mid = leads (split_state before) holds.holds in
    let said = mid.1.0 in
    let legal = mid.1.1 in
    let it = made new before mid.0 asked said before.asked (subst (λ (s : Step). StepsTo before.engine s said mid.0.engine) (sym is.split) legal.engine) (true_step before before.engine mid.0.engine asked said one legal.engine)
    (legal.whole ∙ is.whole (split_state before) said) (legal.asked ∙ is.round (split_state before) said) holds.whole holds.asked (is.whole before said) (is.round before said) mid.2 in
    (it.0, (said, it.1, ap isolated_of mid.1.2), it.2)

-- a round is begun
begun : (new : EngineState) (before mid : State) (said : StepReply) → HistoryCanBeSplit before.whole → HistoryCanBeSplit before.asked → Legal (split_state before) step.Begin said mid → Holds new mid → (after : State) × LegalIsolation before step.Begin said after × HoldsSplit new after
begun new before mid reply.Done can may legal holds = made new before mid step.Begin reply.Done before.whole legal.engine tt legal.whole legal.asked can can refl refl holds
begun new before mid (reply.Refused refusal) can may legal holds = made new before mid step.Begin (reply.Refused refusal) before.asked legal.engine tt legal.whole legal.asked can may refl refl holds
begun new before mid (reply.Report report) can may legal holds = absurd legal.engine
begun new before mid (reply.Cut cut) can may legal holds = absurd legal.engine

begin_step : (old new : EngineState) (inner : Reply) → Leads old new (λ before after. IsStep before step.Begin inner after) → LeadsSplit old new (λ before after. IsIsolatedStep before step.Begin (isolated_of inner) after)
begin_step old new inner leads before holds =
    let mid = leads (split_state before) holds.holds in
    let it = begun new before mid.0 mid.1.0 holds.whole holds.asked mid.1.1 mid.2 in
    (it.0, (mid.1.0, it.1, ap isolated_of mid.1.2), it.2)

-- a fragment is offered, or a session joins
abbrev IsOffering : Step → Type 0
IsOffering (step.Offer logged) = ⊤
IsOffering (step.Join logged) = ⊤
IsOffering asked = ⊥

abbrev IsPlainSaid : StepReply → Type 0
IsPlainSaid reply.Done = ⊤
IsPlainSaid (reply.Refused refusal) = ⊤
IsPlainSaid said = ⊥

plain_said : (old new : EngineState) (asked : Step) (said : StepReply) → IsOffering asked → StepsTo old (split_step asked) said new → IsPlainSaid said
plain_said old new asked reply.Done offers steps = tt
plain_said old new asked (reply.Refused refusal) offers steps = tt
plain_said old new (step.Offer logged) (reply.Report report) offers steps = steps
plain_said old new (step.Offer logged) (reply.Cut cut) offers steps = steps
plain_said old new (step.Join logged) (reply.Report report) offers steps = steps
plain_said old new (step.Join logged) (reply.Cut cut) offers steps = steps
plain_said old new asked said offers steps = absurd offers

same_said : (one two : StepReply) → IsPlainSaid one → IsPlainSaid two → reply_of one ≡ reply_of two → one ≡ two
same_said reply.Done reply.Done a b same = refl
same_said (reply.Refused r) (reply.Refused q) a b same = let it : r ≡ q = cc in ap reply.Refused it
same_said reply.Done (reply.Refused q) a b same = absurd (let no : ⊥ = cc in no)
same_said (reply.Refused r) reply.Done a b same = absurd (let no : ⊥ = cc in no)
same_said (reply.Report report) two a b same = absurd a
same_said (reply.Cut cut) two a b same = absurd a
same_said one two a b same = absurd b

offered : Laws → (most : ℕ) (old new : EngineState) (asked : Step) (inner : Reply) → CanBeMade most asked → IsOffering asked → Leads old new (λ before after. IsStep before (split_step asked) inner after) → LeadsSplit old new (λ before after. IsIsolatedStep before asked (isolated_of inner) after)
offered laws most old new asked inner can offers leads before holds =
    let first = leads (split_state before) holds.holds in
    let said = first.1.0 in
    let engine : StepsTo old (split_step asked) said first.0.engine = subst (λ (e : EngineState). StepsTo e (split_step asked) said first.0.engine) holds.holds.same first.1.1.engine in
    let steps : StepsTo old (split_step asked) said new = subst (λ (e : EngineState). StepsTo old (split_step asked) said e) first.2.same engine in
    let plain = plain_said old new asked said offers steps in
    let legally : StepsLegally old (split_step asked) said new = λ other h.
    let it = leads other h in
    let one = plain_said other.engine it.0.engine asked it.1.0 offers it.1.1.engine in
    (it.0, subst (λ (s : StepReply). Legal other (split_step asked) s it.0) (same_said it.1.0 said one plain (sym it.1.2 ∙ first.1.2)) it.1.1, it.2) in
    let made_it = laws.steps most old new asked said can steps legally before holds in
    (made_it.0, (said, made_it.1, ap isolated_of first.1.2), made_it.2)

-- ---- reports

kind_of : SplitKeepsVerdict → (whole : History) (kind : Kind) → HistoryCanBeSplit whole → IsTrueOf (split_history whole) kind → IsIsolationOf whole kind
kind_of keeps whole kinds.Serial can is = (keeps whole kinds.Serial can).1 is
kind_of keeps whole kinds.Pending can is = (keeps whole kinds.Pending can).1 is
kind_of keeps whole kinds.Violated can is = (keeps whole kinds.Violated can).1 is
kind_of keeps whole kinds.Spent can is = tt

tells : Laws → (whole split : History) (report : Report) → HistoryCanBeSplit whole → split ≡ split_history whole → TellsOf split report → TellsIsolationOf whole report
tells laws whole split report can is told =
    let here : TellsOf (split_history whole) report = subst (λ (h : History). TellsOf h report) is told in
    record { counts = here.counts ∙ (laws.doubles whole).counts; kind = kind_of laws.keeps whole report.kind can here.kind }

-- what is handed in is judged
judged_true : Laws → (before mid : State) (claim : Claim) (said : StepReply) → HistoryCanBeSplit before.asked → Legal (split_state before) (step.Judge claim) said mid → IsTrueIsolation before said
judged_true laws before mid claim (reply.Report report) can legal = tells laws before.asked (split_history before.asked) report can refl legal.true_reply
judged_true laws before mid claim reply.Done can legal = tt
judged_true laws before mid claim (reply.Refused refusal) can legal = tt
judged_true laws before mid claim (reply.Cut cut) can legal = tt

judged : Laws → (old new : EngineState) (claim : Claim) (inner : Reply) → Leads old new (λ before after. IsStep before (step.Judge claim) inner after) → LeadsSplit old new (λ before after. IsIsolatedStep before (step.Judge claim) (isolated_of inner) after)
judged laws old new claim inner leads before holds =
    let mid = leads (split_state before) holds.holds in
    let said = mid.1.0 in
    let legal = mid.1.1 in
    let it = made new before mid.0 (step.Judge claim) said before.asked legal.engine (judged_true laws before mid.0 claim said holds.asked legal) legal.whole legal.asked holds.whole holds.asked refl refl mid.2 in
    (it.0, (said, it.1, ap isolated_of mid.1.2), it.2)

-- a finish, of a state whose histories are these, split
ended : Laws → (new : EngineState) (before at mid : State) (inner : Reply) → at.engine ≡ before.engine → at.whole ≡ split_history before.whole → at.asked ≡ split_history before.asked → HistoryCanBeSplit before.whole → HistoryCanBeSplit before.asked
    → OwesFinish at inner mid → Holds new mid → (after : State) × EndsIsolated before (isolated_of inner) after × HoldsSplit new after
ended laws new before at mid inner engine whole asked can may (inl is) holds =
    let report = is.0 in
    let owes = is.1 in
    let after : State = record { engine = mid.engine; whole = before.whole; asked = before.asked } in (
      after,
      inl (
        report,
        record {
          earned = record {
            answer = owes.earned.answer;
            reported = subst (λ (e : EngineState). IsSomeAnd e.asked (λ parts. IsReportOn parts (e.rounds + 1) owes.earned.answer report × IsHeldAfter parts report.kind e.held mid.engine.held)) engine owes.earned.reported;
            finished = subst (λ (e : EngineState). IsFinished e mid.engine) engine owes.earned.finished;
          };
          tells = tells laws before.asked at.asked report may asked owes.tells;
          whole = refl;
          asked = refl;
        },
        ap isolated_of is.2,
      ),
      stands new mid after holds (owes.whole ∙ whole) (owes.asked ∙ asked) refl can may,
    )
ended laws new before at mid inner engine whole asked can may (inr is) holds = (
  before,
  inr (subst (λ (e : EngineState). e.asked ≡ None) engine is.0, ap isolated_of is.1, refl),
  stands new mid before holds (ap (λ (s : State). s.whole) is.2 ∙ whole) (ap (λ (s : State). s.asked) is.2 ∙ asked) (sym (ap (λ (s : State). s.engine) is.2 ∙ engine)) can may,
)

ends : Laws → (old new : EngineState) (inner : Reply) → Leads old new (λ before after. OwesFinish before inner after) → LeadsSplit old new (λ before after. EndsIsolated before (isolated_of inner) after)
ends laws old new inner leads before holds =
    let mid = leads (split_state before) holds.holds in
    ended laws new before (split_state before) mid.0 inner refl refl refl holds.whole holds.asked mid.1 mid.2

rounded : Laws → (new : EngineState) (before mid : State) (inner : Reply) → HistoryCanBeSplit before.whole → HistoryCanBeSplit before.asked → OwesRound (split_state before) inner mid → Holds new mid → (after : State) × IsIsolatedRound before (isolated_of inner) after × HoldsSplit new after
rounded laws new before mid inner can may (inl is) holds =
    let it = begun new before mid (reply.Refused is.0) can may is.1 holds in
    (it.0, inl (is.0, it.1, ap isolated_of is.2), it.2)
rounded laws new before mid inner can may (inr is) holds =
    let first = is.0 in
    let legal = is.1 in
    let now : State = record { engine = first.engine; whole = before.whole; asked = before.whole } in
    let last = ended laws new now first mid inner refl legal.whole legal.asked can can is.2 holds in
    (last.0, inr (now, record { engine = legal.engine; true_reply = tt; whole = refl; asked = refl }, last.1), last.2)

rounds : Laws → (old new : EngineState) (inner : Reply) → Leads old new (λ before after. OwesRound before inner after) → LeadsSplit old new (λ before after. IsIsolatedRound before (isolated_of inner) after)
rounds laws old new inner leads before holds =
    let mid = leads (split_state before) holds.holds in
    rounded laws new before mid.0 inner holds.whole holds.asked mid.1 mid.2

-- ---- commands

-- nothing has changed
kept : (new : EngineState) (before mid : State) → HistoryCanBeSplit before.whole → HistoryCanBeSplit before.asked → mid ≡ split_state before → Holds new mid → HoldsSplit new before
kept new before mid can may is holds =
    stands new mid before holds (ap (λ (s : State). s.whole) is) (ap (λ (s : State). s.asked) is) (sym (ap (λ (s : State). s.engine) is)) can may

-- a fragment for which the version has a form is taken
taken : (version : Version) (logged : LoggedFragment) (asked : Step) (inner : Reply) (before after : State) → has_form version logged ≡ true → IsTakenIn version logged before inner after (IsStep before asked inner after) → IsStep before asked inner after
taken version logged asked inner before after form (inl is) = is.1
taken version logged asked inner before after form (inr is) = absurd (let no : true ≡ false = sym form ∙ is.0 in cc)

-- and another one isn't
untaken : (version : Version) (logged : LoggedFragment) (asked : Step) (inner : Reply) (before after : State) → has_form version logged ≡ false → IsTakenIn version logged before inner after (IsStep before asked inner after) → IsBadLine before inner after
untaken version logged asked inner before after form (inl is) = absurd (let no : true ≡ false = sym is.0 ∙ form in cc)
untaken version logged asked inner before after form (inr is) = is.1

taken_in : Laws → (version : Version) (old new : EngineState) (logged : LoggedFragment) (asked : Step) (inner : Reply) → CanBeMade (most_sessions version) asked → IsOffering asked → Leads old new (λ before after. IsTakenIn version logged before inner after (IsStep before (split_step asked) inner after))
    → LeadsSplit old new (λ before after. IsTakenIn version logged before (isolated_of inner) after (IsIsolatedStep before asked (isolated_of inner) after))
taken_in laws version old new logged asked inner can offers leads = by_form (has_form version logged) refl
  where
    by_form : (form : Bool) → has_form version logged ≡ form → LeadsSplit old new (λ before after. IsTakenIn version logged before (isolated_of inner) after (IsIsolatedStep before asked (isolated_of inner) after))
    by_form true form = λ before holds.
        let it = offered laws (most_sessions version) old new asked inner can offers (λ first held. let one = leads first held in (one.0, taken version logged (split_step asked) inner first one.0 form one.1, one.2)) before holds in
        (it.0, inl (form, it.1), it.2)
    by_form false form = λ before holds.
        let mid = leads (split_state before) holds.holds in
        let bad = untaken version logged (split_step asked) inner (split_state before) mid.0 form mid.1 in
        (before, inr (form, (ap isolated_of bad.0, refl)), kept new before mid.0 holds.whole holds.asked bad.1 mid.2)

first_of : (old new : EngineState) (P Q : State → State → Type 0) → Leads old new (λ before after. P before after × Q before after) → Leads old new P
first_of old new P Q leads before holds =
    let it = leads before holds in
    (it.0, it.1.0, it.2)

quietly : (asked : Step) → split_step asked ≡ asked → ((before : State) (said : StepReply) → whole_after before asked said ≡ before.whole) → ((before : State) (said : StepReply) → asked_after before asked said ≡ before.asked) → IsQuiet asked
quietly asked split whole round = record { split = split; whole = whole; round = round }

-- a command that is about the engine alone
split_owed : Laws → (version : Version) (old new : EngineState) (asked : Command) (inner : Reply) → CanBeAsked (most_sessions version) asked → IsOfEngine asked → Leads old new (λ before after. OwesOpen version before (split_command asked) inner after) → LeadsSplit old new (λ before after. OwesSplit version before asked (isolated_of inner) after)
split_owed laws version old new (command.Offer logged) inner can of leads = taken_in laws version old new (split_logged logged) (step.Offer logged) inner can tt leads
split_owed laws version old new (command.Join logged) inner can of leads = taken_in laws version old new (split_logged logged) (step.Join logged) inner can tt leads
split_owed laws version old new (command.Close session) inner can of leads = quiet old new (step.Close session) inner tt (quietly (step.Close session) refl (λ before said. refl) (λ before said. refl)) leads
split_owed laws version old new command.Begin inner can of leads = begin_step old new inner leads
split_owed laws version old new (command.Round budget depth workers search) inner can of leads = rounds laws old new inner leads
split_owed laws version old new command.Truncate inner can of leads = quiet old new step.Truncate inner tt (quietly step.Truncate refl (λ before said. refl) (λ before said. refl)) leads
split_owed laws version old new command.Rebuild inner can of leads = quiet old new step.Rebuild inner tt (quietly step.Rebuild refl (λ before said. refl) (λ before said. refl)) leads
split_owed laws version old new command.Show inner can of leads = λ before holds.
    let mid = leads (split_state before) holds.holds in
    (before, (ap isolated_of mid.1.0, refl), kept new before mid.0 holds.whole holds.asked mid.1.1 mid.2)
split_owed laws version old new (command.Save wanted) inner can of leads = λ before holds.
    let mid = leads (split_state before) holds.holds in
    (before, (ap isolated_of mid.1.0, refl), kept new before mid.0 holds.whole holds.asked mid.1.1 mid.2)
split_owed laws version old new (command.Answer shown) inner can of leads = judged laws old new (claim_of shown) inner leads
split_owed laws version old new (command.Finish budget depth workers search) inner can of leads = absurd of
split_owed laws version old new (command.BeginSearch budget depth workers search) inner can of leads = absurd of
split_owed laws version old new (command.Collect waits) inner can of leads = absurd of
split_owed laws version old new command.Skip inner can of leads = absurd of
split_owed laws version old new asked inner can of leads = λ before holds.
    let mid = leads (split_state before) holds.holds in
    (before, (ap isolated_of mid.1.0, refl), kept new before mid.0 holds.whole holds.asked mid.1.1 mid.2)

where_ended : Laws → (new : EngineState) (before mid : State) (may : Bool) (refusal : Refusal) (searched now : Bool) (inner : Reply) → HistoryCanBeSplit before.whole → HistoryCanBeSplit before.asked → FinishesWhere may refusal searched (split_state before) inner now mid → Holds new mid
    → (after : State) × EndsWhere may refusal searched before (isolated_of inner) now after × HoldsSplit new after
where_ended laws new before mid true refusal searched now inner can round is holds =
    let it = ended laws new before (split_state before) mid inner refl refl refl can round is.0 holds in
    (it.0, (it.1, is.1), it.2)
where_ended laws new before mid false refusal searched now inner can round is holds = (before, (ap isolated_of is.0, refl, is.2), kept new before mid can round is.1 holds)

begins : (asked : Option Parts) (searched now : Bool) (inner : Reply) → BeginsSearch asked searched inner now → BeginsSearch asked searched (isolated_of inner) now
begins None searched now inner is = (ap isolated_of is.0, is.1)
begins (Some parts) true now inner is = (ap isolated_of is.0, is.1)
begins (Some parts) false now inner is = (ap isolated_of is.0, is.1)

collected : Laws → (new : EngineState) (before mid : State) (waits searched now : Bool) (inner : Reply) → HistoryCanBeSplit before.whole → HistoryCanBeSplit before.asked
    → GoesOn waits searched (split_state before) inner now mid ⊎ FinishesWhere searched NoRound searched (split_state before) inner now mid → Holds new mid
    → (after : State) × (GoesOn waits searched before (isolated_of inner) now after ⊎ EndsWhere searched NoRound searched before (isolated_of inner) now after) × HoldsSplit new after
collected laws new before mid waits searched now inner can round (inl on) holds = (before, inl (on.0, on.1, ap isolated_of on.2, refl, on.4), kept new before mid can round on.3 holds)
collected laws new before mid waits searched now inner can round (inr is) holds =
    let it = where_ended laws new before mid searched NoRound searched now inner can round is holds in
    (it.0, inr it.1, it.2)

asked_owed : Laws → (version : Version) (old new : EngineState) (searched now : Bool) (asked : Command) (inner : Reply) → CanBeAsked (most_sessions version) asked → Leads old new (λ before after. OwesBeside version searched before (split_command asked) inner now after)
    → LeadsSplit old new (λ before after. OwesAsked version searched before asked (isolated_of inner) now after)
asked_owed laws version old new searched now (command.BeginSearch budget depth workers search) inner can leads before holds =
    let mid = leads (split_state before) holds.holds in
    (before, (begins before.engine.asked searched now inner mid.1.0, refl), kept new before mid.0 holds.whole holds.asked mid.1.1 mid.2)
asked_owed laws version old new searched now (command.Collect waits) inner can leads before holds =
    let mid = leads (split_state before) holds.holds in
    collected laws new before mid.0 waits searched now inner holds.whole holds.asked mid.1 mid.2
asked_owed laws version old new searched now command.Skip inner can leads before holds =
    let mid = leads (split_state before) holds.holds in
    let it = quiet old new step.Abandon inner tt (quietly step.Abandon refl (λ first said. refl) (λ first said. refl)) (first_of old new (λ first after. IsStep first step.Abandon inner after) (λ first after. now ≡ false) leads) before holds in
    (it.0, (it.1, mid.1.1), it.2)
asked_owed laws version old new searched now (command.Finish budget depth workers search) inner can leads before holds =
    let mid = leads (split_state before) holds.holds in
    where_ended laws new before mid.0 (not searched) RoundOpen searched now inner holds.whole holds.asked mid.1 mid.2
asked_owed laws version old new searched now asked inner can leads before holds =
    let mid = leads (split_state before) holds.holds in
    let lasts : now ≡ searched_after searched new.asked = subst (λ (e : EngineState). now ≡ searched_after searched e.asked) mid.2.same mid.1.1 in
    let it = split_owed laws version old new asked inner can tt (first_of old new (λ first after. OwesOpen version first (split_command asked) inner after) (λ first after. now ≡ searched_after searched after.engine.asked) leads) before holds in
    (it.0, (it.1, subst (λ (e : EngineState). now ≡ searched_after searched e.asked) (sym it.2.holds.same) lasts), it.2)

-- ---- what is owed

ordered_kind : (names : Names) (round : ℕ) (kind : Kind) (counts : List ℕ) (order : List TxnId) → HasKindOfOrder (told.Order names round kind counts order) → HasKindOfOrder (told.Order Events round kind (halved counts) order)
ordered_kind names round kinds.Serial counts order is = tt
ordered_kind names round kinds.Pending counts order is = tt
ordered_kind names round kinds.Violated counts order is = is
ordered_kind names round kinds.Spent counts order is = is

kind_told : (inner : Reply) → HasKindOfOrder inner → HasKindOfOrder (isolated_of inner)
kind_told (told.Order names round kind counts order) is = ordered_kind names round kind counts order is
kind_told (told.Violated names round counts tree) is = tt
kind_told (told.Spent round counts) is = tt
kind_told (told.Cut fence gone last) is = tt
kind_told (told.Show marks received closed last remaining) is = tt
kind_told (told.Saved given) is = tt
kind_told inner is = is

isolated_by : Laws → (version : Version) (old new : EngineState) (searched now : Bool) (asked split : Command) (given : Owed) → CanBeAsked (most_sessions version) asked × (split ≡ split_command asked) → IsOwedBy (λ answer. Leads old new (λ before after. OwesBeside version searched before split answer now after)) given
    → IsOwedBy (λ answer. LeadsSplit old new (λ before after. OwesIsolated version searched before asked answer now after)) (isolated_owed given)
isolated_by laws version old new searched now asked split (owed.Reply inner) can owes = (
  kind_told inner owes.0,
  λ before holds.
      let it = asked_owed laws version old new searched now asked inner can.0 (subst (λ (c : Command). Leads old new (λ first after. OwesBeside version searched first c inner now after)) can.1 owes.1) before holds in
      (it.0, inr (can.0, it.1), it.2),
)
isolated_by laws version old new searched now asked split (owed.Nothing why) can owes = tt

pub owed_told : Laws → (version : Version) (old new : EngineState) (searched now : Bool) (asked split : Command) (inner given : Owed) → CanBeAsked (most_sessions version) asked × (split ≡ split_command asked) → IsOwedBy (λ answer. Leads old new (λ before after. OwesBeside version searched before split answer now after)) inner → given ≡ isolated_owed inner
    → IsOwedBy (λ answer. LeadsSplit old new (λ before after. OwesIsolated version searched before asked answer now after)) given
owed_told laws version old new searched now asked split inner given can owes is =
    subst (λ (o : Owed). IsOwedBy (λ answer. LeadsSplit old new (λ before after. OwesIsolated version searched before asked answer now after)) o) (sym is) (isolated_by laws version old new searched now asked split inner can owes)

-- the command was judged by the bound of the version
pub asked_by : (version : Version) (many : ℕ) (asked split : Command) → many ≡ most_sessions version → CanBeAsked many asked × (split ≡ split_command asked) → CanBeAsked (most_sessions version) asked × (split ≡ split_command asked)
asked_by version many asked split is can = (subst (λ (n : ℕ). CanBeAsked n asked) is can.0, can.1)

pub fault_by : (version : Version) (many : ℕ) (asked : Command) (refusal : Refusal) → many ≡ most_sessions version → IsAskedFault many asked refusal → IsAskedFault (most_sessions version) asked refusal
fault_by version many asked refusal is fault = subst (λ (n : ℕ). IsAskedFault n asked refusal) is fault

-- or the command is refused before it is split
pub faulty_by : (version : Version) (old : EngineState) (searched : Bool) (asked : Command) (refusal : Refusal) → IsAskedFault (most_sessions version) asked refusal → IsOwedBy (λ answer. LeadsSplit old old (λ before after. OwesIsolated version searched before asked answer searched after)) (owed.Reply (told.No refusal))
faulty_by version old searched asked refusal fault = (tt, λ before holds. (before, inl (refusal, fault, refl, refl, refl), holds))

-- ---- reports

given_text : (text : List ℕ) (given : Owed) → OwesText Events text given → OwesText Ids text (isolated_owed given)
given_text text (owed.Reply inner) (inl none) = inl (ap isolated_of none)
given_text text (owed.Reply inner) (inr same) = inr same
given_text text (owed.Nothing why) owes = owes

isolated_right : (version : Version) (searched : Bool) (old : EngineState) (asked split : Command) (stored : List ℕ) (given : Owed) → split ≡ split_command asked → OfRight Events (EarnsBeside searched old split) stored (λ text. OwesText Events text given)
    → OfRight Events (EarnsIn (Isolated version) searched old asked) stored (λ text. OwesText Ids text (isolated_owed given))
isolated_right version searched old asked split stored given is right report new earned shows =
    given_text (text_of (isolated_of (report_of report))) given (right report new (subst (λ (c : Command). EarnsBeside searched old c report new) (sym is) earned.1) shows)

pub right_told : (version : Version) (searched : Bool) (old : EngineState) (asked split : Command) (stored : List ℕ) (inner given : Owed) → split ≡ split_command asked → OfRight Events (EarnsBeside searched old split) stored (λ text. OwesText Events text inner) → given ≡ isolated_owed inner
    → OfRight Events (EarnsIn (Isolated version) searched old asked) stored (λ text. OwesText Ids text given)
right_told version searched old asked split stored inner given is right same =
    subst (λ (o : Owed). OfRight Events (EarnsIn (Isolated version) searched old asked) stored (λ text. OwesText Ids text o)) (sym same) (isolated_right version searched old asked split stored inner is right)

pub faulty_right : (version : Version) (searched : Bool) (old : EngineState) (asked : Command) (refusal : Refusal) (stored : List ℕ) → IsAskedFault (most_sessions version) asked refusal → OfRight Events (EarnsIn (Isolated version) searched old asked) stored (λ text. OwesText Ids text (owed.Reply (told.No refusal)))
faulty_right version searched old asked refusal stored fault report new earned shows = absurd (no_asked_fault (most_sessions version) asked refusal earned.0 fault)

-- ---- other replies

abbrev AloneOf : Reply → Reply → Type 0
AloneOf given answer = (answer ≡ told.No NoMemory) ⊎ ((given ≡ told.No NoMemory) ⊎ (given ≡ answer))

told_alone : (given inner answer : Reply) → answer ≡ isolated_of inner → AloneOf given inner → AloneOf (isolated_of given) answer
told_alone given inner answer is (inl none) = inl (is ∙ ap isolated_of none)
told_alone given inner answer is (inr (inl none)) = inr (inl (ap isolated_of none))
told_alone given inner answer is (inr (inr same)) = inr (inr (ap isolated_of same ∙ sym is))

alone_reply : (version : Version) (searched : Bool) (old : EngineState) (asked : Command) (inner answer : Reply) → CanBeAsked (most_sessions version) asked → IsAlone (GivesBeside version searched old (split_command asked)) (owed.Reply inner) → GivesIsolated version searched old asked answer → AloneOf (isolated_of inner) answer
alone_reply version searched old asked inner answer can alone (inl fault) = absurd (no_asked_fault (most_sessions version) asked fault.0 can fault.1)
alone_reply version searched old asked inner answer can alone (inr is) = told_alone inner is.1 answer is.3 (alone is.1 is.2)

alone_nothing : (version : Version) (searched : Bool) (old : EngineState) (asked : Command) (why : Unshown) (answer : Reply) → CanBeAsked (most_sessions version) asked → IsAlone (GivesBeside version searched old (split_command asked)) (owed.Nothing why) → GivesIsolated version searched old asked answer → answer ≡ told.No NoMemory
alone_nothing version searched old asked why answer can alone (inl fault) = absurd (no_asked_fault (most_sessions version) asked fault.0 can fault.1)
alone_nothing version searched old asked why answer can alone (inr is) = is.3 ∙ ap isolated_of (alone is.1 is.2)

alone_asked : (version : Version) (searched : Bool) (old : EngineState) (asked : Command) (given : Owed) → CanBeAsked (most_sessions version) asked → IsAlone (GivesBeside version searched old (split_command asked)) given → IsAlone (GivesIsolated version searched old asked) (isolated_owed given)
alone_asked version searched old asked (owed.Reply inner) can alone = λ answer gives. alone_reply version searched old asked inner answer can alone gives
alone_asked version searched old asked (owed.Nothing why) can alone = λ answer gives. alone_nothing version searched old asked why answer can alone gives

isolated_alone : (version : Version) (searched : Bool) (old : EngineState) (asked split : Command) (given : Owed) → CanBeAsked (most_sessions version) asked × (split ≡ split_command asked) → IsAlone (GivesBeside version searched old split) given → IsAlone (GivesIsolated version searched old asked) (isolated_owed given)
isolated_alone version searched old asked split given can alone = alone_asked version searched old asked given can.0 (subst (λ (c : Command). IsAlone (GivesBeside version searched old c) given) can.1 alone)

pub alone_told : (version : Version) (searched : Bool) (old : EngineState) (asked split : Command) (inner given : Owed) → CanBeAsked (most_sessions version) asked × (split ≡ split_command asked) → IsAlone (GivesBeside version searched old split) inner → given ≡ isolated_owed inner → IsAlone (GivesIsolated version searched old asked) given
alone_told version searched old asked split inner given can alone is =
    subst (λ (o : Owed). IsAlone (GivesIsolated version searched old asked) o) (sym is) (isolated_alone version searched old asked split inner can alone)

alone_fault : (version : Version) (searched : Bool) (old : EngineState) (asked : Command) (refusal : Refusal) (answer : Reply) → IsAskedFault (most_sessions version) asked refusal → GivesIsolated version searched old asked answer → AloneOf (told.No refusal) answer
alone_fault version searched old asked refusal answer fault (inl other) = inr (inr (ap told.No (same_asked_fault (most_sessions version) asked refusal other.0 fault other.1) ∙ sym other.2))
alone_fault version searched old asked refusal answer fault (inr is) = absurd (no_asked_fault (most_sessions version) asked refusal is.0 fault)

pub faulty_alone : (version : Version) (searched : Bool) (old : EngineState) (asked : Command) (refusal : Refusal) → IsAskedFault (most_sessions version) asked refusal → IsAlone (GivesIsolated version searched old asked) (owed.Reply (told.No refusal))
faulty_alone version searched old asked refusal fault = λ answer gives. alone_fault version searched old asked refusal answer fault gives
