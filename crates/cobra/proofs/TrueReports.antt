-- Replies whose reports are true of what a script's lines had offered and what was answered ok.
use Rattle.std.proofs.Common.{◌≡◌, ℕ, ◌+◌, ◌*◌, Bool, true, false, cond, nat_lt, List, [], ◌∷◌, ◌++◌, length, map, Option, Some, None, refl, sym, ap, ◌∙◌, subst, inl, inr, ⊎_elim}
use Rattle.std.specs.Prelude.{⊤, IsSomeAnd, IfSome, MatchOption, ◌⊎◌, option_map}
use Rattle.std.specs.List.{concat}
use Rattle.std.proofs.lemmas.List.{map-append}
use Rattle.std.proofs.lemmas.Option.{none-some}
use Rattle.txn.specs.declared.transactions.TxnId.{TxnId}
use Rattle.txn.specs.declared.refusals.Refusal.{Refusal}
use Rattle.txn.specs.declared.refusals.Refusal.TheVariants.{BadLine, BadParts, BadSession, RoundOpen, NoRound, NoMemory}
use Rattle.txn.specs.declared.transactions.Fragment.{Fragment}
use Rattle.txn.specs.History.{History}
use Rattle.logged_fragments.specs.Effects.{effects}
use Rattle.logged_fragments.specs.declared.logged.LoggedFragment.{LoggedFragment}
use Rattle.order_check.specs.declared.remainder.Kind.{Kind}
use Rattle.order_check.specs.declared.remainder.Kind.TheVariants as kinds
use Rattle.order_check.specs.declared.remainder.Parts.{Parts}
use Rattle.order_check.specs.StandsFor.{StandsFor, history_after, with_fragment}
use Rattle.order_check.specs.Whole.{ExplainsWhole}
use Rattle.log_text.specs.declared.commands.Command.{Command}
use Rattle.log_text.specs.declared.commands.Command.TheVariants.{Start, Offer, OfferTimed, Join, Close, Begin, Finish, Round, BeginSearch, Collect, Skip, Truncate, Rebuild, Show, Resume, Marks, MarksBegun, Last, Resumed, Save, Answer}
use Rattle.log_text.specs.declared.commands.Wanted.{Wanted}
use Rattle.log_text.specs.declared.commands.Wanted.TheVariants as wanted
use Rattle.log_text.specs.declared.names.Names.TheVariants.{Ids, Events}
use Rattle.log_text.specs.declared.replies.Reply.{Reply}
use Rattle.log_text.specs.declared.replies.Reply.TheVariants as told
use Rattle.log_text.specs.declared.saved.Saved.TheVariants as saved
use Rattle.log_text.specs.declared.searches.Search.{Search}
use Rattle.log_text.specs.declared.versions.Opening.{Opening}
use Rattle.log_text.specs.declared.versions.Opening.TheVariants.{Ordered, Isolated}
use Rattle.log_text.specs.declared.versions.Promise.TheVariants.{Resumable, Strict}
use Rattle.log_text.specs.declared.versions.Version.{Version}
use Rattle.log_text.specs.Replies.{line_of}
use Rattle.log_text.specs.Versions.{most_sessions}
use Rattle.polygraph.specs.declared.solving.Answer as solved
use Rattle.polygraph.specs.declared.solving.Answer.TheVariants as answers
use Rattle.round_state.specs.EngineState.{EngineState, engine_over}
use Rattle.round_state.specs.Legal.{State, IsTrueOf, whole_after, asked_after}
use Rattle.round_state.specs.Opening.{fresh}
use Rattle.round_state.specs.Runs.{Holds}
use Rattle.round_state.specs.Solving.{IsRight, IsReportOn}
use Rattle.round_state.specs.Steps.{Shows, IsRightReport, IsHeldAfter, StepsTo, answer_claimed, arrival_of}
use Rattle.round_state.specs.declared.reports.Certificate.{Certificate}
use Rattle.round_state.specs.declared.reports.Certificate.TheVariants.{Order, Refuted, Nothing}
use Rattle.round_state.specs.declared.reports.Report.{Report}
use Rattle.round_state.specs.declared.steps.Step.{Step}
use Rattle.round_state.specs.declared.steps.Step.TheVariants as step
use Rattle.round_state.specs.declared.steps.StepReply.{StepReply}
use Rattle.round_state.specs.declared.steps.StepReply.TheVariants as reply
use Rattle.settle.specs.declared.cuts.Cut.{Cut}
use Rattle.log_text.specs.declared.commands.Effort.{Effort}
use Rattle.gone_orders.specs.Behind.{RemainsBehind}
use Rattle.isolation_histories.specs.Halves.{commit_half, event_at}
use Rattle.isolation_histories.specs.Laws.{OrdersIsolate, SplitDoublesCounts, SplitKeepsVerdict}
use Rattle.isolation_histories.specs.Snapshot.{IsSnapshotOrder}
use Rattle.isolation_histories.specs.Split.{split_history, HistoryCanBeSplit}
use Rattle.isolation_scripts.specs.Legal.{IsIsolationOf, HasReceived, HoldsSplit, split_state, NothingIsSplit, SplitStepsAreLegal, SplitStepsFollow, FreshEnginesAreSplit}
use Rattle.isolation_scripts.specs.Telling.{CommittedAreOfCommits, HalvedCountsAreWhole}
use Rattle.isolation_histories.specs.Logged.{split_logged}
use Rattle.isolation_histories.specs.Offered.{CanBeOffered}
use Rattle.isolation_scripts.specs.Steps.{split_step, CanBeMade}
use Rattle.isolation_rests.specs.Behind.{KeepsBehind}
use Rattle.isolation_scripts.specs.Isolated.{halved, isolated_of}
use Rattle.isolation_scripts.specs.Handed.{CanBeHanded, half_command, half_marks}
use Rattle.isolation_scripts.specs.Splitting.{CanBeAsked, split_command, split_wanted}
use Rattle.whole_orders.specs.Isolated.{EndsSnapshotOrder}
use Rattle.whole_orders.specs.Laws.{FreshEnginesGoOn, LeftPartsGoOn, ReportedOrdersEndOrders, StepsGoOn}
use Rattle.whole_orders.specs.Left.{EndsOrder, EndsOrderIfAny, HoldsLeft, IsLeftOf}
use Rattle.engine_pasts.specs.Holding.{HoldsBehind, MovesOn, StandsBehind}
use Rattle.engine_pasts.specs.Laws.{FreshEnginesHoldBehind, HalvesAreToldBehind, PartsHoldBehind, ReportedOrdersStandBehind, StepsHoldBehind}
use Rattle.strict_offers.specs.Offers.{OfferedState}
use Rattle.cobra.specs.Audits.{AuditState}
use Rattle.cobra.specs.HandOver.{handed_parts}
use Rattle.cobra.specs.KeptLaws.{HeldIsKept}
use Rattle.cobra.specs.Outputs.{RepliesAll}
use Rattle.cobra.specs.Saving.{saved_told, fragment_told}
use Rattle.cobra.specs.Scripts.{IsBadLine, IsTakenIn, Goes, IsStep, EndsRound, IsRound, AnswersOpen, AnswersBeside, AnswersIsolated, AnswersStrict, GoesOn, IsCollected, state_told, AnswersFirst, BeginsAnew, AnswersResuming, AnswersHanding, HandsMarks, HandsOffer, EndsHandOver, Answers, TakesHalves, TakesMarks, TakesOver, opened_engine, opened_state, stage_after}
use Rattle.cobra.specs.StepReplies.{claim_of, certified, reply_of}
use Rattle.cobra.specs.TrueReports.{Accepted, Origin, accepted_more, accepted_after, moved, nothing_accepted, reported_on, state_of, TellsTrueOf, TellsIsolation, MovesTxns, MovesHalves, IsKept, IsKeptSplit, KeepsRest, IsTrueTold, BeginsWith, AreTrueReplies, EachReportIsTrue}
use Rattle.cobra.specs.declared.handing.Handing.{Handing}
use Rattle.cobra.specs.declared.stages.Stage.{Stage}
use Rattle.cobra.specs.declared.stages.Stage.TheVariants as stage
use Rattle.cobra.proofs.Pasts.{IsNoCut, goes_behind, some_map, still, with_nothing}

-- An engine stands for what was accepted; and what it holds is what is left of it, where that is known, and stands behind what is gone, where that is.
record Stands (engine : EngineState) (accepted : Accepted) : Type 0 where
  holds : Holds engine (state_of engine accepted)
  left : accepted.left ≡ true → HoldsLeft engine accepted.whole accepted.asked
  behind : IfSome accepted.past (λ gone. HoldsBehind gone engine accepted.whole accepted.asked)

-- The same where it holds halves of what was accepted.
record StandsSplit (engine : EngineState) (accepted : Accepted) : Type 0 where
  holds : HoldsSplit engine (state_of engine accepted)
  left : accepted.left ≡ true → HoldsLeft engine (split_history accepted.whole) (split_history accepted.asked)
  behind : IfSome accepted.past (λ gone. HoldsBehind gone engine (split_history accepted.whole) (split_history accepted.asked))

-- what steps keep of whole histories, and what reports tell of them
pub record Wholes : Type 0 where
  pub on : StepsGoOn
  pub ends : ReportedOrdersEndOrders
  pub past : StepsHoldBehind
  pub orders : ReportedOrdersStandBehind

-- by what the script is opened for
abbrev StandsIn : Opening → EngineState → Accepted → Type 0
StandsIn (Ordered version) engine accepted = Stands engine accepted
StandsIn (Isolated version) engine accepted = StandsSplit engine accepted

-- Where an engine is open it stands for what was accepted; else nothing was.
abbrev Fits : Stage → Option Accepted → Type 0
Fits (stage.Open audit opening) (Some accepted) = StandsIn opening audit.engine accepted
Fits (stage.Open audit opening) None = ⊥
Fits stage.Nothing None = ⊤
Fits (stage.Strict offered version) None = ⊤
Fits (stage.Resuming sessions limit opening) None = ⊤
Fits (stage.Handing handed opening) None = ⊤
Fits other (Some accepted) = ⊥

stands_still : (engine : EngineState) (accepted : Accepted) → Stands engine accepted → Stands engine (moved accepted [])
stands_still engine accepted stands = record {
  holds = stands.holds;
  left = stands.left;
  behind = subst (λ (past : Option (List TxnId)). IfSome past (λ gone. HoldsBehind gone engine accepted.whole accepted.asked)) (sym (with_nothing accepted.past)) stands.behind;
}

split_still : (engine : EngineState) (accepted : Accepted) → StandsSplit engine accepted → StandsSplit engine (moved accepted [])
split_still engine accepted stands = record {
  holds = stands.holds;
  left = stands.left;
  behind = subst (λ (past : Option (List TxnId)). IfSome past (λ gone. HoldsBehind gone engine (split_history accepted.whole) (split_history accepted.asked))) (sym (with_nothing accepted.past)) stands.behind;
}

-- ---- reports

-- what shows a tree is violated
abbrev KindOfTree : Kind → Certificate → Type 0
KindOfTree kind (Refuted tree) = kind ≡ kinds.Violated
KindOfTree kind other = ⊤

shown_tree : (parts : Parts) (budget depth : ℕ) (kind : Kind) (certificate : Certificate) → Shows parts budget depth kind certificate → KindOfTree kind certificate
shown_tree parts budget depth kinds.Violated (Refuted tree) shows = refl
shown_tree parts budget depth kinds.Serial (Refuted tree) shows = absurd shows
shown_tree parts budget depth kinds.Pending (Refuted tree) shows = absurd shows
shown_tree parts budget depth kinds.Spent (Refuted tree) shows = absurd shows
shown_tree parts budget depth kind (Order order) shows = tt
shown_tree parts budget depth kind Nothing shows = tt

right_tree : (parts : Parts) (answer : solved.Answer) (kind : Kind) (certificate : Certificate) → IsRight parts answer kind certificate → KindOfTree kind certificate
right_tree parts (answers.No tree) kind (Refuted shown) right = right.1
right_tree parts (answers.Yes order) kind (Refuted shown) right = absurd right
right_tree parts answers.Spent kind (Refuted shown) right = absurd right
right_tree parts answers.NoMemory kind (Refuted shown) right = absurd right
right_tree parts answer kind (Order order) right = tt
right_tree parts answer kind Nothing right = tt

finished_tree : (old : EngineState) (held : Option Cut) (asked : Option Parts) (budget depth : ℕ) (report : Report) → IsSomeAnd asked (λ parts. IsRightReport old parts budget depth report × IsHeldAfter parts report.kind old.held held) → KindOfTree report.kind report.certificate
finished_tree old held None budget depth report right = absurd right
finished_tree old held (Some parts) budget depth report right = shown_tree parts budget depth report.kind report.certificate right.0.shown

judged_tree : (rounds : ℕ) (before held : Option Cut) (asked : Option Parts) (answer : solved.Answer) (report : Report) → IsSomeAnd asked (λ parts. IsReportOn parts rounds answer report × IsHeldAfter parts report.kind before held) → KindOfTree report.kind report.certificate
judged_tree rounds before held None answer report right = absurd right
judged_tree rounds before held (Some parts) answer report right = right_tree parts answer report.kind report.certificate right.0.right

certified_true : (left : Bool) (past : Option (List TxnId)) (history : History) (round : ℕ) (counts : List ℕ) (kind : Kind) (certificate : Certificate) → counts ≡ map length history → IsTrueOf history kind → (left ≡ true → EndsOrderIfAny history certificate) → IfSome past (λ gone. StandsBehind gone history certificate) → KindOfTree kind certificate
    → TellsTrueOf left past history (certified (record { round = round; kind = kind; counts = counts; certificate = certificate }) certificate)
certified_true left past history round counts kind (Order order) counted is ends behind tree = (counted, is, ends, behind)
certified_true left past history round counts kind (Refuted shown) counted is ends behind tree = (counted, subst (IsTrueOf history) tree is)
certified_true left past history round counts kind Nothing counted is ends behind tree = counted

-- an order that is reported stands behind what is gone
ordered_behind : ReportedOrdersStandBehind → (past : Option (List TxnId)) (old new : EngineState) (whole begun : History) (asked : Step) (report : Report) → StepsTo old asked (reply.Report report) new → IfSome past (λ gone. HoldsBehind gone old whole begun) → IfSome past (λ gone. StandsBehind gone begun report.certificate)
ordered_behind law past old new whole begun asked report right holds = some_map past (λ gone. HoldsBehind gone old whole begun) (λ gone. StandsBehind gone begun report.certificate) (λ gone. law gone old new whole begun asked report right) holds

-- a report puts nothing behind it
certified_moves : (report : Report) (certificate : Certificate) (ahead : List TxnId) → ahead ≡ [] → MovesTxns (certified report certificate) ahead
certified_moves report (Order order) ahead none = none
certified_moves report (Refuted tree) ahead none = none
certified_moves report Nothing ahead none = none

told_moves : (said : StepReply) (ahead : List TxnId) → MovesOn said ahead → MovesTxns (reply_of said) ahead
told_moves reply.Done ahead moves = moves
told_moves (reply.Refused refusal) ahead moves = moves
told_moves (reply.Report report) ahead moves = certified_moves report report.certificate ahead moves
told_moves (reply.Cut cut) ahead moves = moves

-- ---- steps of an open engine

-- what it puts behind what is gone, and what it then stands for
record StepsOn (accepted next : Accepted) (said : StepReply) (new : EngineState) : Type 0 where
  ahead : List TxnId
  moves : IfSome accepted.past (λ gone. MovesOn said ahead)
  stands : Stands new (moved next ahead)

-- what it has received is what was accepted
step_on : Wholes → (old new : EngineState) (accepted next : Accepted) (asked : Step) (said : StepReply) → Goes old asked said new → Stands old accepted → whole_after (state_of old accepted) asked said ≡ next.whole → asked_after (state_of old accepted) asked said ≡ next.asked → next.left ≡ accepted.left → next.past ≡ accepted.past → StepsOn accepted next said new
step_on w old new accepted next asked said goes stands whole_is asked_is left_is past_is =
    let after = goes.legal (state_of old accepted) stands.holds in
    let behind = goes_behind w.past accepted.past old new accepted.whole accepted.asked asked said goes.right stands.behind in
    record {
      ahead = behind.ahead;
      moves = behind.moves;
      stands = record {
        holds = record {
          same = refl;
          parts = subst (λ (history : History). StandsFor new.parts history) (after.1.whole ∙ whole_is) after.2.parts;
          asked = λ parts e. subst (λ (history : History). StandsFor parts history) (after.1.asked ∙ asked_is) (after.2.asked parts e);
        };
        left = λ yes.
            subst (λ (history : History). HoldsLeft new next.whole history) asked_is
            (subst (λ (history : History). HoldsLeft new history (asked_after (state_of old accepted) asked said)) whole_is (w.on old new accepted.whole accepted.asked asked said goes.right (stands.left (sym left_is ∙ yes))));
        behind =
            subst (λ (past : Option (List TxnId)). IfSome (option_map (λ (gone : List TxnId). gone ++ behind.ahead) past) (λ gone. HoldsBehind gone new next.whole next.asked)) (sym past_is)
            (subst (λ (history : History). IfSome (option_map (λ (gone : List TxnId). gone ++ behind.ahead) accepted.past) (λ gone. HoldsBehind gone new next.whole history)) asked_is
            (subst (λ (history : History). IfSome (option_map (λ (gone : List TxnId). gone ++ behind.ahead) accepted.past) (λ gone. HoldsBehind gone new history (asked_after (state_of old accepted) asked said))) whole_is behind.holds));
      };
    }

-- where the reply isn't a cut, behind the same
step_stays : Wholes → (old new : EngineState) (accepted next : Accepted) (asked : Step) (said : StepReply) → Goes old asked said new → Stands old accepted → whole_after (state_of old accepted) asked said ≡ next.whole → asked_after (state_of old accepted) asked said ≡ next.asked → next.left ≡ accepted.left → next.past ≡ accepted.past → IsNoCut said → Stands new next
step_stays w old new accepted next asked said goes stands whole_is asked_is left_is past_is quiet =
    let on = step_on w old new accepted next asked said goes stands whole_is asked_is left_is past_is in
    let same : option_map (λ (gone : List TxnId). gone ++ on.ahead) next.past ≡ next.past = subst (λ (past : Option (List TxnId)). option_map (λ (gone : List TxnId). gone ++ on.ahead) past ≡ past) (sym past_is) (still accepted.past said on.ahead quiet on.moves) in
    record {
      holds = on.stands.holds;
      left = on.stands.left;
      behind = subst (λ (past : Option (List TxnId)). IfSome past (λ gone. HoldsBehind gone new next.whole next.asked)) same on.stands.behind;
    }

-- a reply to a step that is a report is true
step_true : Wholes → (old new : EngineState) (accepted : Accepted) (asked : Step) (said : StepReply) → Goes old asked said new → Stands old accepted → TellsTrueOf accepted.left accepted.past accepted.asked (reply_of said)
step_true w old new accepted asked reply.Done goes holds = tt
step_true w old new accepted asked (reply.Refused refusal) goes holds = tt
step_true w old new accepted asked (reply.Cut cut) goes holds = tt
step_true w old new accepted (step.Finish budget depth workers) (reply.Report report) goes holds =
    let tells = (goes.legal (state_of old accepted) holds.holds).1.true_reply in
    certified_true accepted.left accepted.past accepted.asked report.round report.counts report.kind report.certificate tells.counts tells.kind (λ yes. w.ends old new accepted.whole accepted.asked (step.Finish budget depth workers) report goes.right (holds.left yes)) (ordered_behind w.orders accepted.past old new accepted.whole accepted.asked (step.Finish budget depth workers) report goes.right holds.behind) (finished_tree old new.held old.asked budget depth report goes.right.0)
step_true w old new accepted (step.Judge claim) (reply.Report report) goes holds =
    let tells = (goes.legal (state_of old accepted) holds.holds).1.true_reply in
    certified_true accepted.left accepted.past accepted.asked report.round report.counts report.kind report.certificate tells.counts tells.kind (λ yes. w.ends old new accepted.whole accepted.asked (step.Judge claim) report goes.right (holds.left yes)) (ordered_behind w.orders accepted.past old new accepted.whole accepted.asked (step.Judge claim) report goes.right holds.behind) (judged_tree (old.rounds + 1) old.held new.held old.asked (answer_claimed claim) report goes.right.0)
step_true w old new accepted asked (reply.Report report) goes holds = absurd goes.right

-- The reply to a command is true, and what the engine stands for after it is what was accepted by then, behind what is gone and what the reply puts there.
record IsOn (accepted : Accepted) (command : Command) (answer : Reply) (new : EngineState) : Type 0 where
  ahead : List TxnId
  is_true : TellsTrueOf accepted.left accepted.past (reported_on accepted command) answer
  moves : IfSome accepted.past (λ gone. MovesTxns answer ahead)
  holds : Stands new (moved (accepted_more accepted command answer) ahead)

-- a reply that puts nothing there
quietly : (accepted : Accepted) (command : Command) (answer : Reply) (new : EngineState) → TellsTrueOf accepted.left accepted.past (reported_on accepted command) answer → MovesTxns answer [] → Stands new (accepted_more accepted command answer) → IsOn accepted command answer new
quietly accepted command answer new is_true moves holds = record {
  ahead = [];
  is_true = is_true;
  moves = some_map accepted.past (λ gone. ⊤) (λ gone. MovesTxns answer []) (λ gone nothing. moves) (whatever accepted.past);
  holds = stands_still new (accepted_more accepted command answer) holds;
}
  where
    whatever : (past : Option (List TxnId)) → IfSome past (λ gone. ⊤)
    whatever None = tt
    whatever (Some gone) = tt

-- the reply to a step that takes nothing in
by_step : Wholes → (old new : EngineState) (accepted : Accepted) (command : Command) (asked : Step) (said : StepReply) → Goes old asked said new → Stands old accepted → TellsTrueOf accepted.left accepted.past (reported_on accepted command) (reply_of said)
    → accepted_more accepted command (reply_of said) ≡ accepted → whole_after (state_of old accepted) asked said ≡ accepted.whole → asked_after (state_of old accepted) asked said ≡ accepted.asked → IsOn accepted command (reply_of said) new
by_step w old new accepted command asked said goes stands tells more whole_is asked_is =
    let on = step_on w old new accepted accepted asked said goes stands whole_is asked_is refl refl in
    record {
      ahead = on.ahead;
      is_true = tells;
      moves = some_map accepted.past (λ gone. MovesOn said on.ahead) (λ gone. MovesTxns (reply_of said) on.ahead) (λ gone. told_moves said on.ahead) on.moves;
      holds = subst (λ (a : Accepted). Stands new (moved a on.ahead)) (sym more) on.stands;
    }

told_on : (accepted : Accepted) (command : Command) (answer : Reply) (said : StepReply) (new : EngineState) → answer ≡ reply_of said → IsOn accepted command (reply_of said) new → IsOn accepted command answer new
told_on accepted command answer said new is on = subst (λ (a : Reply). IsOn accepted command a new) (sym is) on

-- a line that may not stand where it does
no_more : (accepted : Accepted) (command : Command) → accepted_more accepted command (told.No BadLine) ≡ accepted
no_more accepted (Offer logged) = refl
no_more accepted (Join logged) = refl
no_more accepted Begin = refl
no_more accepted command = refl

bad_on : (old new : EngineState) (accepted : Accepted) (command : Command) (answer : Reply) → IsBadLine old answer new → Stands old accepted → IsOn accepted command answer new
bad_on old new accepted command answer bad holds =
    let more : Stands old (accepted_more accepted command (told.No BadLine)) = subst (λ (a : Accepted). Stands old a) (sym (no_more accepted command)) holds in
    subst (λ (a : Reply). IsOn accepted command a new) (sym bad.0)
    (subst (λ (engine : EngineState). IsOn accepted command (told.No BadLine) engine) (sym bad.1) (quietly accepted command (told.No BadLine) old tt refl more))

taken_on : (version : Version) (logged : LoggedFragment) (old new : EngineState) (accepted : Accepted) (command : Command) (answer : Reply) (Taken : Type 0) → (Taken → IsOn accepted command answer new) → IsTakenIn version logged old answer new Taken → Stands old accepted → IsOn accepted command answer new
taken_on version logged old new accepted command answer Taken on taken holds = ⊎_elim (λ good. on good.1) (λ bad. bad_on old new accepted command answer bad.1 holds) taken

offer_on : Wholes → (old new : EngineState) (accepted : Accepted) (logged : LoggedFragment) (said : StepReply) → Goes old (step.Offer logged) said new → Stands old accepted → IsOn accepted (Offer logged) (reply_of said) new
offer_on w old new accepted logged reply.Done goes holds = quietly accepted (Offer logged) told.Done new tt refl (step_stays w old new accepted (record accepted { whole = with_fragment accepted.whole (effects logged) }) (step.Offer logged) reply.Done goes holds refl refl refl refl tt)
offer_on w old new accepted logged (reply.Refused refusal) goes holds = quietly accepted (Offer logged) (told.No refusal) new tt refl (step_stays w old new accepted accepted (step.Offer logged) (reply.Refused refusal) goes holds refl refl refl refl tt)
offer_on w old new accepted logged (reply.Report report) goes holds = absurd goes.right
offer_on w old new accepted logged (reply.Cut cut) goes holds = absurd goes.right

join_on : Wholes → (old new : EngineState) (accepted : Accepted) (logged : LoggedFragment) (said : StepReply) → Goes old (step.Join logged) said new → Stands old accepted → IsOn accepted (Join logged) (reply_of said) new
join_on w old new accepted logged reply.Done goes holds = quietly accepted (Join logged) told.Done new tt refl (step_stays w old new accepted (record accepted { whole = history_after accepted.whole (arrival_of (length accepted.whole) (effects logged)) }) (step.Join logged) reply.Done goes holds refl refl refl refl tt)
join_on w old new accepted logged (reply.Refused refusal) goes holds = quietly accepted (Join logged) (told.No refusal) new tt refl (step_stays w old new accepted accepted (step.Join logged) (reply.Refused refusal) goes holds refl refl refl refl tt)
join_on w old new accepted logged (reply.Report report) goes holds = absurd goes.right
join_on w old new accepted logged (reply.Cut cut) goes holds = absurd goes.right

begin_on : Wholes → (old new : EngineState) (accepted : Accepted) (said : StepReply) → Goes old step.Begin said new → Stands old accepted → IsOn accepted Begin (reply_of said) new
begin_on w old new accepted reply.Done goes holds = quietly accepted Begin told.Done new tt refl (step_stays w old new accepted (record accepted { asked = accepted.whole }) step.Begin reply.Done goes holds refl refl refl refl tt)
begin_on w old new accepted (reply.Refused refusal) goes holds = quietly accepted Begin (told.No refusal) new tt refl (step_stays w old new accepted accepted step.Begin (reply.Refused refusal) goes holds refl refl refl refl tt)
begin_on w old new accepted (reply.Report report) goes holds = absurd goes.right
begin_on w old new accepted (reply.Cut cut) goes holds = absurd goes.right

-- ---- a round of one line

-- where no round is open it doesn't matter what was accepted when one began
other_left : (engine : EngineState) (accepted other : Accepted) → engine.asked ≡ None → accepted.whole ≡ other.whole → HoldsLeft engine accepted.whole accepted.asked → HoldsLeft engine other.whole other.asked
other_left engine accepted other none same was = record {
  parts = subst (λ (history : History). IsLeftOf engine.parts history) same was.parts;
  asked = λ parts e. absurd (none-some parts (sym none ∙ e));
  base = was.base;
  kept = was.kept;
  held = was.held;
}

other_behind : (engine : EngineState) (accepted other : Accepted) (gone : List TxnId) → engine.asked ≡ None → accepted.whole ≡ other.whole → HoldsBehind gone engine accepted.whole accepted.asked → HoldsBehind gone engine other.whole other.asked
other_behind engine accepted other gone none same was = record {
  left = other_left engine accepted other none same was.left;
  parts = subst (λ (history : History). RemainsBehind gone engine.parts history) same was.parts;
  asked = λ parts e. absurd (none-some parts (sym none ∙ e));
}

whatever_asked : (engine : EngineState) (accepted other : Accepted) → engine.asked ≡ None → accepted.whole ≡ other.whole → other.left ≡ accepted.left → other.past ≡ accepted.past → Stands engine accepted → Stands engine other
whatever_asked engine accepted other none same left_is past_is stands = record {
  holds = record {
    same = refl;
    parts = subst (λ (history : History). StandsFor engine.parts history) same stands.holds.parts;
    asked = λ parts e. absurd (none-some parts (sym none ∙ e));
  };
  left = λ yes. other_left engine accepted other none same (stands.left (sym left_is ∙ yes));
  behind =
      subst (λ (past : Option (List TxnId)). IfSome past (λ gone. HoldsBehind gone engine other.whole other.asked)) (sym past_is)
      (some_map accepted.past (λ gone. HoldsBehind gone engine accepted.whole accepted.asked) (λ gone. HoldsBehind gone engine other.whole other.asked) (λ gone. other_behind engine accepted other gone none same) stands.behind);
}

ended_on : Wholes → (begun new : EngineState) (accepted : Accepted) (search : Search) (budget depth workers : ℕ) (said : StepReply) → EndsRound begun search budget depth workers said new → Stands begun (record accepted { asked = accepted.whole }) → IsOn accepted (Round budget depth workers search) (reply_of said) new
ended_on w begun new accepted search budget depth workers (reply.Report report) ends holds =
    let all : Accepted = record accepted { asked = accepted.whole } in
    quietly accepted (Round budget depth workers search) (reply_of (reply.Report report)) new
    (step_true w begun new all (step.Finish budget depth workers) (reply.Report report) ends.goes holds)
    (certified_moves report report.certificate [] refl)
    (whatever_asked new all accepted ends.goes.right.1.none_open refl refl refl (step_stays w begun new all all (step.Finish budget depth workers) (reply.Report report) ends.goes holds refl refl refl refl tt))
ended_on w begun new accepted search budget depth workers (reply.Refused NoMemory) ends holds =
    let all : Accepted = record accepted { asked = accepted.whole } in
    let kept = step_stays w begun ends.0 all all (step.Finish budget depth workers) (reply.Refused NoMemory) ends.1 holds refl refl refl refl tt in
    quietly accepted (Round budget depth workers search) (told.No NoMemory) new tt refl
    (whatever_asked new all accepted (ap (λ (engine : EngineState). engine.asked) ends.2.right.1) refl refl refl (step_stays w ends.0 new all all step.Abandon reply.Done ends.2 kept refl refl refl refl tt))
ended_on w begun new accepted search budget depth workers (reply.Refused refusal) ends holds = absurd ends
ended_on w begun new accepted search budget depth workers reply.Done ends holds = absurd ends
ended_on w begun new accepted search budget depth workers (reply.Cut cut) ends holds = absurd ends

refused_on : Wholes → (old new : EngineState) (accepted : Accepted) (search : Search) (budget depth workers : ℕ) (refusal : Refusal) (said : StepReply) → said ≡ reply.Refused refusal → Goes old step.Begin said new → Stands old accepted → IsOn accepted (Round budget depth workers search) (reply_of said) new
refused_on w old new accepted search budget depth workers refusal said is goes holds =
    subst (λ (s : StepReply). IsOn accepted (Round budget depth workers search) (reply_of s) new) (sym is)
    (quietly accepted (Round budget depth workers search) (told.No refusal) new tt refl (step_stays w old new accepted accepted step.Begin (reply.Refused refusal) (subst (λ (s : StepReply). Goes old step.Begin s new) is goes) holds refl refl refl refl tt))

round_on : Wholes → (old new : EngineState) (accepted : Accepted) (search : Search) (budget depth workers : ℕ) (said : StepReply) → IsRound old search budget depth workers said new → Stands old accepted → IsOn accepted (Round budget depth workers search) (reply_of said) new
round_on w old new accepted search budget depth workers said round holds =
    ⊎_elim
    (λ refused. refused_on w old new accepted search budget depth workers refused.0 said refused.1 refused.2 holds)
    (λ begun. ended_on w begun.0 new accepted search budget depth workers said begun.2 (step_stays w old begun.0 accepted (record accepted { asked = accepted.whole }) step.Begin reply.Done begun.1 holds refl refl refl refl tt))
    round

-- ---- commands of an open engine

saved_or_not : (left : Bool) (past : Option (List TxnId)) (history : History) (test : Bool) (fragment : Fragment) → TellsTrueOf left past history (cond test (told.Saved (saved.Offer fragment)) (told.No BadSession))
saved_or_not left past history true fragment = tt
saved_or_not left past history false fragment = tt

saved_true : (left : Bool) (past : Option (List TxnId)) (history : History) (parts : Parts) (wanted : Wanted) → TellsTrueOf left past history (saved_told parts wanted)
saved_true left past history parts wanted.Marks = tt
saved_true left past history parts (wanted.Last key) = tt
saved_true left past history parts (wanted.Remain s n) = saved_or_not left past history (nat_lt s (length parts.remain)) (fragment_told parts s n)

quiet_or_not : (test : Bool) (fragment : Fragment) → MovesTxns (cond test (told.Saved (saved.Offer fragment)) (told.No BadSession)) []
quiet_or_not true fragment = refl
quiet_or_not false fragment = refl

saved_moves : (parts : Parts) (wanted : Wanted) → MovesTxns (saved_told parts wanted) []
saved_moves parts wanted.Marks = refl
saved_moves parts (wanted.Last key) = refl
saved_moves parts (wanted.Remain s n) = quiet_or_not (nat_lt s (length parts.remain)) (fragment_told parts s n)

-- nothing has changed
same_on : (old new : EngineState) (accepted : Accepted) → new ≡ old → Stands old accepted → Stands new accepted
same_on old new accepted same holds = subst (λ (engine : EngineState). Stands engine accepted) (sym same) holds

open_on : Wholes → (version : Version) (old new : EngineState) (accepted : Accepted) (command : Command) (answer : Reply) → AnswersOpen version old command answer new → Stands old accepted → IsOn accepted command answer new
open_on w version old new accepted (Offer logged) answer is holds =
    taken_on version logged old new accepted (Offer logged) answer (IsStep old (step.Offer logged) answer new) (λ taken. told_on accepted (Offer logged) answer taken.0 new taken.2 (offer_on w old new accepted logged taken.0 taken.1 holds)) is holds
open_on w version old new accepted (Join logged) answer is holds =
    taken_on version logged old new accepted (Join logged) answer (IsStep old (step.Join logged) answer new) (λ taken. told_on accepted (Join logged) answer taken.0 new taken.2 (join_on w old new accepted logged taken.0 taken.1 holds)) is holds
open_on w version old new accepted Begin answer is holds = told_on accepted Begin answer is.0 new is.2 (begin_on w old new accepted is.0 is.1 holds)
open_on w version old new accepted (Round budget depth workers search) answer is holds = told_on accepted (Round budget depth workers search) answer is.0 new is.2 (round_on w old new accepted search budget depth workers is.0 is.1 holds)
open_on w version old new accepted (Close session) answer is holds =
    told_on accepted (Close session) answer is.0 new is.2 (by_step w old new accepted (Close session) (step.Close session) is.0 is.1 holds (step_true w old new accepted (step.Close session) is.0 is.1 holds) refl refl refl)
open_on w version old new accepted (Finish budget depth workers search) answer is holds =
    told_on accepted (Finish budget depth workers search) answer is.0 new is.2 (by_step w old new accepted (Finish budget depth workers search) (step.Finish budget depth workers) is.0 is.1.goes holds (step_true w old new accepted (step.Finish budget depth workers) is.0 is.1.goes holds) refl refl refl)
open_on w version old new accepted (Answer shown) answer is holds =
    told_on accepted (Answer shown) answer is.0 new is.2 (by_step w old new accepted (Answer shown) (step.Judge (claim_of shown)) is.0 is.1 holds (step_true w old new accepted (step.Judge (claim_of shown)) is.0 is.1 holds) refl refl refl)
open_on w version old new accepted Truncate answer is holds =
    told_on accepted Truncate answer is.0 new is.2 (by_step w old new accepted Truncate step.Truncate is.0 is.1 holds (step_true w old new accepted step.Truncate is.0 is.1 holds) refl refl refl)
open_on w version old new accepted Rebuild answer is holds =
    told_on accepted Rebuild answer is.0 new is.2 (by_step w old new accepted Rebuild step.Rebuild is.0 is.1 holds (step_true w old new accepted step.Rebuild is.0 is.1 holds) refl refl refl)
open_on w version old new accepted Show answer is holds = subst (λ (a : Reply). IsOn accepted Show a new) (sym is.0) (quietly accepted Show (state_told old) new tt refl (same_on old new accepted is.1 holds))
open_on w version old new accepted (Save wanted) answer is holds =
    subst (λ (a : Reply). IsOn accepted (Save wanted) a new) (sym is.0) (quietly accepted (Save wanted) (saved_told old.parts wanted) new (saved_true accepted.left accepted.past accepted.asked old.parts wanted) (saved_moves old.parts wanted) (same_on old new accepted is.1 holds))
open_on w version old new accepted (Start sessions limit other) answer is holds = bad_on old new accepted (Start sessions limit other) answer is holds
open_on w version old new accepted (OfferTimed logged began ended) answer is holds = bad_on old new accepted (OfferTimed logged began ended) answer is holds
open_on w version old new accepted (Resume sessions limit other) answer is holds = bad_on old new accepted (Resume sessions limit other) answer is holds
open_on w version old new accepted (Marks marks closed) answer is holds = bad_on old new accepted (Marks marks closed) answer is holds
open_on w version old new accepted (MarksBegun marks closed begun) answer is holds = bad_on old new accepted (MarksBegun marks closed begun) answer is holds
open_on w version old new accepted (Last last) answer is holds = bad_on old new accepted (Last last) answer is holds
open_on w version old new accepted Resumed answer is holds = bad_on old new accepted Resumed answer is holds
open_on w version old new accepted (BeginSearch budget depth workers search) answer is holds = bad_on old new accepted (BeginSearch budget depth workers search) answer is holds
open_on w version old new accepted (Collect waits) answer is holds = bad_on old new accepted (Collect waits) answer is holds
open_on w version old new accepted Skip answer is holds = bad_on old new accepted Skip answer is holds

-- ---- commands beside a search

-- a reply that tells nothing, after which the engine is what it was
quiet_on : (old new : AuditState) (accepted : Accepted) (command : Command) (answer said : Reply) → TellsTrueOf accepted.left accepted.past (reported_on accepted command) said → MovesTxns said [] → accepted_more accepted command said ≡ accepted → answer ≡ said → new.engine ≡ old.engine → Stands old.engine accepted → IsOn accepted command answer new.engine
quiet_on old new accepted command answer said is_true moves more is same holds =
    let kept = same_on old.engine new.engine accepted same holds in
    subst (λ (a : Reply). IsOn accepted command a new.engine) (sym is)
    (quietly accepted command said new.engine is_true moves (subst (λ (a : Accepted). Stands new.engine a) (sym more) kept))

begin_search_on : (asked : Option Parts) (search : Option Effort) (old new : AuditState) (accepted : Accepted) (given : Effort) (answer : Reply)
    → MatchOption asked ((answer ≡ told.No NoRound) × (new ≡ old)) (λ parts. MatchOption search ((answer ≡ told.Done) × (new ≡ record old { search = Some given })) (λ one. (answer ≡ told.No RoundOpen) × (new ≡ old)))
    → Stands old.engine accepted → IsOn accepted (BeginSearch given.budget given.depth given.workers given.search) answer new.engine
begin_search_on None search old new accepted given answer is holds = quiet_on old new accepted _ answer (told.No NoRound) tt refl refl is.0 (ap (λ (audit : AuditState). audit.engine) is.1) holds
begin_search_on (Some parts) None old new accepted given answer is holds = quiet_on old new accepted _ answer told.Done tt refl refl is.0 (ap (λ (audit : AuditState). audit.engine) is.1) holds
begin_search_on (Some parts) (Some one) old new accepted given answer is holds = quiet_on old new accepted _ answer (told.No RoundOpen) tt refl refl is.0 (ap (λ (audit : AuditState). audit.engine) is.1) holds

collected_on : Wholes → (old new : AuditState) (accepted : Accepted) (waits : Bool) (effort : Effort) (answer : Reply) → IsCollected old effort answer new → Stands old.engine accepted → IsOn accepted (Collect waits) answer new.engine
collected_on w old new accepted waits effort answer is holds =
    let asked : Step = step.Finish effort.budget effort.depth effort.workers in
    told_on accepted (Collect waits) answer is.0 new.engine is.2
    (by_step w old.engine new.engine accepted (Collect waits) asked is.0 is.1.goes holds (step_true w old.engine new.engine accepted asked is.0 is.1.goes holds) refl refl refl)

collect_on : Wholes → (search : Option Effort) (old new : AuditState) (accepted : Accepted) (waits : Bool) (answer : Reply)
    → MatchOption search ((answer ≡ told.No NoRound) × (new ≡ old)) (λ effort. GoesOn waits old answer new ⊎ IsCollected old effort answer new)
    → Stands old.engine accepted → IsOn accepted (Collect waits) answer new.engine
collect_on w None old new accepted waits answer is holds = quiet_on old new accepted (Collect waits) answer (told.No NoRound) tt refl refl is.0 (ap (λ (audit : AuditState). audit.engine) is.1) holds
collect_on w (Some effort) old new accepted waits answer is holds =
    ⊎_elim (λ goes. quiet_on old new accepted (Collect waits) answer told.Searching tt refl refl goes.1 (ap (λ (audit : AuditState). audit.engine) goes.2) holds) (λ got. collected_on w old new accepted waits effort answer got holds) is

finish_on : Wholes → (version : Version) (search : Option Effort) (old new : AuditState) (accepted : Accepted) (budget depth workers : ℕ) (kind : Search) (answer : Reply)
    → MatchOption search (AnswersOpen version old.engine (Finish budget depth workers kind) answer new.engine × (new.search ≡ None)) (λ effort. (answer ≡ told.No RoundOpen) × (new ≡ old))
    → Stands old.engine accepted → IsOn accepted (Finish budget depth workers kind) answer new.engine
finish_on w version None old new accepted budget depth workers kind answer is holds = open_on w version old.engine new.engine accepted (Finish budget depth workers kind) answer is.0 holds
finish_on w version (Some effort) old new accepted budget depth workers kind answer is holds = quiet_on old new accepted (Finish budget depth workers kind) answer (told.No RoundOpen) tt refl refl is.0 (ap (λ (audit : AuditState). audit.engine) is.1) holds

beside_on : Wholes → (version : Version) (old new : AuditState) (accepted : Accepted) (command : Command) (answer : Reply) → AnswersBeside version old command answer new → Stands old.engine accepted → IsOn accepted command answer new.engine
beside_on w version old new accepted (BeginSearch budget depth workers search) answer is holds =
    begin_search_on old.engine.asked old.search old new accepted (record { budget = budget; depth = depth; workers = workers; search = search }) answer is holds
beside_on w version old new accepted (Collect waits) answer is holds = collect_on w old.search old new accepted waits answer is holds
beside_on w version old new accepted Skip answer is holds =
    told_on accepted Skip answer is.0.0 new.engine is.0.2
    (by_step w old.engine new.engine accepted Skip step.Abandon is.0.0 is.0.1 holds (step_true w old.engine new.engine accepted step.Abandon is.0.0 is.0.1 holds) refl refl refl)
beside_on w version old new accepted (Finish budget depth workers search) answer is holds = finish_on w version old.search old new accepted budget depth workers search answer is holds
beside_on w version old new accepted command answer is holds = open_on w version old.engine new.engine accepted command answer is.0 holds

-- ---- scripts whose transactions are split

pub record Laws : Type 0 where
  pub steps : SplitStepsAreLegal
  pub fresh : FreshEnginesAreSplit
  pub verdict : SplitKeepsVerdict
  pub doubles : SplitDoublesCounts
  pub isolate : OrdersIsolate
  pub follow : SplitStepsFollow
  pub nothing : NothingIsSplit
  pub committed : CommittedAreOfCommits
  pub halving : HalvedCountsAreWhole
  pub wholes : Wholes
  pub fresh_on : FreshEnginesGoOn
  pub parts_on : LeftPartsGoOn
  pub fresh_behind : FreshEnginesHoldBehind
  pub parts_behind : PartsHoldBehind
  pub halves : HalvesAreToldBehind
  pub rest : HeldIsKept

-- what was accepted, split
abbrev split_accepted : Accepted → Accepted
split_accepted accepted = record { whole = split_history accepted.whole; asked = split_history accepted.asked; left = accepted.left; past = accepted.past }

-- The reply to a command is true, and what the engine stands for after it is what was accepted by then, split.
record IsIsolatedOn (accepted : Accepted) (command : Command) (answer : Reply) (new : EngineState) : Type 0 where
  ahead : List TxnId
  is_true : TellsIsolation accepted.left accepted.past (reported_on accepted command) answer
  moves : IfSome accepted.past (λ gone. MovesHalves answer ahead)
  holds : StandsSplit new (moved (accepted_more accepted command answer) ahead)

isolated_quietly : (accepted : Accepted) (command : Command) (answer : Reply) (new : EngineState) → TellsIsolation accepted.left accepted.past (reported_on accepted command) answer → MovesHalves answer [] → StandsSplit new (accepted_more accepted command answer) → IsIsolatedOn accepted command answer new
isolated_quietly accepted command answer new is_true moves holds = record {
  ahead = [];
  is_true = is_true;
  moves = some_map accepted.past (λ gone. ⊤) (λ gone. MovesHalves answer []) (λ gone nothing. moves) (whatever accepted.past);
  holds = split_still new (accepted_more accepted command answer) holds;
}
  where
    whatever : (past : Option (List TxnId)) → IfSome past (λ gone. ⊤)
    whatever None = tt
    whatever (Some gone) = tt

split_moves : CommittedAreOfCommits → (left : Bool) (past : Option (List TxnId)) (history : History) (inner : Reply) (ahead : List TxnId) → TellsTrueOf left past history inner → MovesTxns inner ahead → MovesHalves (isolated_of inner) ahead
split_moves committed_has left past history (told.Cut fence gone last) ahead tells moves = λ id. (λ has. (committed_has gone id).0 ((moves (commit_half id)).0 has), λ has. (moves (commit_half id)).1 ((committed_has gone id).1 has))
split_moves committed_has left past history (told.Order names round kind counts order) ahead tells moves = moves
split_moves committed_has left past history (told.Violated names round counts tree) ahead tells moves = moves
split_moves committed_has left past history (told.Spent round counts) ahead tells moves = moves
split_moves committed_has left past history (told.Show marks received closed last remaining) ahead tells moves = moves
split_moves committed_has left past history inner ahead tells moves = moves

halved_counts : SplitDoublesCounts → HalvedCountsAreWhole → (history : History) (counts : List ℕ) → counts ≡ map length (split_history history) → halved counts ≡ map length history
halved_counts doubles halving history counts counted = ap halved (counted ∙ (doubles history).counts) ∙ halving history

isolation_of : SplitKeepsVerdict → (history : History) (kind : Kind) → HistoryCanBeSplit history → IsTrueOf (split_history history) kind → IsIsolationOf history kind
isolation_of verdict history kinds.Serial can is = (verdict history kinds.Serial can).1 is
isolation_of verdict history kinds.Pending can is = (verdict history kinds.Pending can).1 is
isolation_of verdict history kinds.Violated can is = (verdict history kinds.Violated can).1 is
isolation_of verdict history kinds.Spent can is = tt

-- the end of an order that explains a split history is the end of one of begins and commits
ends_isolated : OrdersIsolate → (history : History) (order : List TxnId) → EndsOrder (split_history history) order → EndsSnapshotOrder history (map event_at order)
ends_isolated isolate history order (past, h) = (map event_at past, subst (IsSnapshotOrder history) (map-append event_at past order) (isolate history (past ++ order) h))

kept_behind : OrdersIsolate → (history : History) (gone order : List TxnId) → ExplainsWhole (split_history history) (gone ++ order) → KeepsBehind history (map event_at gone) (map event_at order)
kept_behind isolate history gone order h = subst (IsSnapshotOrder history) (map-append event_at gone order) (isolate history (gone ++ order) h)

-- what is true of the split history is told of the history
isolated_true : Laws → (left : Bool) (past : Option (List TxnId)) (history : History) (inner : Reply) → HistoryCanBeSplit history → TellsTrueOf left past (split_history history) inner → TellsIsolation left past history (isolated_of inner)
isolated_true laws left past history (told.Order Ids round kind counts order) can tells = (
  halved_counts laws.doubles laws.halving history counts tells.0,
  isolation_of laws.verdict history kind can tells.1,
  λ yes. ends_isolated laws.isolate history order (tells.2 yes),
  some_map past (λ gone. ExplainsWhole (split_history history) (gone ++ order)) (λ gone. KeepsBehind history (map event_at gone) (map event_at order)) (λ gone. kept_behind laws.isolate history gone order) tells.3,
)
isolated_true laws left past history (told.Violated Ids round counts tree) can tells = (halved_counts laws.doubles laws.halving history counts tells.0, isolation_of laws.verdict history kinds.Violated can tells.1)
isolated_true laws left past history (told.Spent round counts) can tells = halved_counts laws.doubles laws.halving history counts tells
isolated_true laws left past history (told.Cut fence gone last) can tells = tt
isolated_true laws left past history (told.Show marks received closed last remaining) can tells = tt
isolated_true laws left past history (told.Order Events round kind counts order) can tells = absurd tells
isolated_true laws left past history (told.Violated Events round counts tree) can tells = absurd tells
isolated_true laws left past history inner can tells = tells

-- a reply that is told so
isolated_told : (accepted : Accepted) (command : Command) (answer inner : Reply) (new : EngineState) → answer ≡ isolated_of inner → IsIsolatedOn accepted command (isolated_of inner) new → IsIsolatedOn accepted command answer new
isolated_told accepted command answer inner new is on = subst (λ (a : Reply). IsIsolatedOn accepted command a new) (sym is) on

-- a step takes what it offers in
isolated_step : Laws → (sessions : ℕ) (old new : EngineState) (accepted next : Accepted) (asked : Step) (said : StepReply) → CanBeMade sessions asked → Goes old (split_step asked) said new → StandsSplit old accepted → whole_after (state_of old accepted) asked said ≡ next.whole → asked_after (state_of old accepted) asked said ≡ next.asked → next.left ≡ accepted.left → next.past ≡ accepted.past → IsNoCut said
    → StandsSplit new next
isolated_step laws sessions old new accepted next asked said can goes stands whole_is asked_is left_is past_is quiet =
    let after = laws.steps sessions old new asked said can goes.right goes.legal (state_of old accepted) stands.holds in
    let whole : after.0.whole ≡ next.whole = after.1.whole ∙ whole_is in
    let asked_then : after.0.asked ≡ next.asked = after.1.asked ∙ asked_is in
    let received : HasReceived old.parts (split_history accepted.whole) = record { sessions = stands.holds.holds.parts.sessions; received = stands.holds.holds.parts.received } in
    let both = laws.follow sessions old new (state_of old accepted) asked said can goes.right received stands.holds.whole stands.holds.asked in
    let behind = goes_behind laws.wholes.past accepted.past old new (split_history accepted.whole) (split_history accepted.asked) (split_step asked) said goes.right stands.behind in
    record {
      holds = record {
        holds = record {
          same = refl;
          parts = subst (λ (history : History). StandsFor new.parts (split_history history)) whole after.2.holds.parts;
          asked = λ parts e. subst (λ (history : History). StandsFor parts (split_history history)) asked_then (after.2.holds.asked parts e);
        };
        whole = subst HistoryCanBeSplit whole after.2.whole;
        asked = subst HistoryCanBeSplit asked_then after.2.asked;
      };
      left = λ yes.
          subst (λ (history : History). HoldsLeft new (split_history next.whole) history) (both.asked ∙ ap split_history asked_is)
          (subst (λ (history : History). HoldsLeft new history (asked_after (split_state (state_of old accepted)) (split_step asked) said)) (both.whole ∙ ap split_history whole_is)
          (laws.wholes.on old new (split_history accepted.whole) (split_history accepted.asked) (split_step asked) said goes.right (stands.left (sym left_is ∙ yes))));
      behind =
          subst (λ (past : Option (List TxnId)). IfSome past (λ gone. HoldsBehind gone new (split_history next.whole) (split_history next.asked))) (still accepted.past said behind.ahead quiet behind.moves ∙ sym past_is)
          (subst (λ (history : History). IfSome (option_map (λ (gone : List TxnId). gone ++ behind.ahead) accepted.past) (λ gone. HoldsBehind gone new (split_history next.whole) history)) (both.asked ∙ ap split_history asked_is)
          (subst (λ (history : History). IfSome (option_map (λ (gone : List TxnId). gone ++ behind.ahead) accepted.past) (λ gone. HoldsBehind gone new history (asked_after (split_state (state_of old accepted)) (split_step asked) said))) (both.whole ∙ ap split_history whole_is) behind.holds));
    }

isolated_offer : Laws → (sessions : ℕ) (old new : EngineState) (accepted : Accepted) (logged : LoggedFragment) (said : StepReply) → CanBeOffered sessions logged.fragment → Goes old (step.Offer (split_logged logged)) said new → StandsSplit old accepted → IsIsolatedOn accepted (Offer logged) (isolated_of (reply_of said)) new
isolated_offer laws sessions old new accepted logged reply.Done can goes holds = isolated_quietly accepted (Offer logged) told.Done new tt refl (isolated_step laws sessions old new accepted (record accepted { whole = with_fragment accepted.whole (effects logged) }) (step.Offer logged) reply.Done can goes holds refl refl refl refl tt)
isolated_offer laws sessions old new accepted logged (reply.Refused refusal) can goes holds = isolated_quietly accepted (Offer logged) (told.No refusal) new tt refl (isolated_step laws sessions old new accepted accepted (step.Offer logged) (reply.Refused refusal) can goes holds refl refl refl refl tt)
isolated_offer laws sessions old new accepted logged (reply.Report report) can goes holds = absurd goes.right
isolated_offer laws sessions old new accepted logged (reply.Cut cut) can goes holds = absurd goes.right

isolated_join : Laws → (sessions : ℕ) (old new : EngineState) (accepted : Accepted) (logged : LoggedFragment) (said : StepReply) → CanBeOffered sessions logged.fragment → Goes old (step.Join (split_logged logged)) said new → StandsSplit old accepted → IsIsolatedOn accepted (Join logged) (isolated_of (reply_of said)) new
isolated_join laws sessions old new accepted logged reply.Done can goes holds = isolated_quietly accepted (Join logged) told.Done new tt refl (isolated_step laws sessions old new accepted (record accepted { whole = history_after accepted.whole (arrival_of (length accepted.whole) (effects logged)) }) (step.Join logged) reply.Done can goes holds refl refl refl refl tt)
isolated_join laws sessions old new accepted logged (reply.Refused refusal) can goes holds = isolated_quietly accepted (Join logged) (told.No refusal) new tt refl (isolated_step laws sessions old new accepted accepted (step.Join logged) (reply.Refused refusal) can goes holds refl refl refl refl tt)
isolated_join laws sessions old new accepted logged (reply.Report report) can goes holds = absurd goes.right
isolated_join laws sessions old new accepted logged (reply.Cut cut) can goes holds = absurd goes.right

-- any other command, where nothing was taken in
isolated_rest : Laws → (version : Version) (old new : AuditState) (accepted next : Accepted) (command : Command) (inner : Reply) (history : History) → AnswersBeside version old command inner new → StandsSplit old.engine accepted
    → reported_on accepted command ≡ history → reported_on (split_accepted accepted) command ≡ split_history history → HistoryCanBeSplit history
    → accepted_more accepted command (isolated_of inner) ≡ next → accepted_more (split_accepted accepted) command inner ≡ split_accepted next → HistoryCanBeSplit next.whole → HistoryCanBeSplit next.asked
    → IsIsolatedOn accepted command (isolated_of inner) new.engine
isolated_rest laws version old new accepted next command inner history is holds about about_split can more more_split whole asked =
    let on : IsOn (split_accepted accepted) command inner new.engine = beside_on laws.wholes version old new (split_accepted accepted) command inner is (record { holds = holds.holds.holds; left = holds.left; behind = holds.behind }) in
    let tells : TellsTrueOf accepted.left accepted.past (split_history history) inner = subst (λ (h : History). TellsTrueOf accepted.left accepted.past h inner) about_split on.is_true in
    let stands : Stands new.engine (moved (split_accepted next) on.ahead) = subst (λ (a : Accepted). Stands new.engine (moved a on.ahead)) more_split on.holds in
    record {
      ahead = on.ahead;
      is_true = subst (λ (h : History). TellsIsolation accepted.left accepted.past h (isolated_of inner)) (sym about) (isolated_true laws accepted.left accepted.past history inner can tells);
      moves = some_map accepted.past (λ gone. MovesTxns inner on.ahead) (λ gone. MovesHalves (isolated_of inner) on.ahead) (λ gone. split_moves laws.committed accepted.left accepted.past (split_history history) inner on.ahead tells) on.moves;
      holds = subst (λ (a : Accepted). StandsSplit new.engine (moved a on.ahead)) (sym more) (record { holds = record { holds = stands.holds; whole = whole; asked = asked }; left = stands.left; behind = stands.behind });
    }

-- a round may begin
begun_on : Laws → (version : Version) (old new : AuditState) (accepted : Accepted) (inner : Reply) → AnswersBeside version old Begin inner new → StandsSplit old.engine accepted → IsIsolatedOn accepted Begin (isolated_of inner) new.engine
begun_on laws version old new accepted told.Done is holds = isolated_rest laws version old new accepted (record accepted { asked = accepted.whole }) Begin told.Done accepted.asked is holds refl refl holds.holds.asked refl refl holds.holds.whole holds.holds.whole
begun_on laws version old new accepted (told.Order names round kind counts order) is holds = isolated_rest laws version old new accepted accepted Begin (told.Order names round kind counts order) accepted.asked is holds refl refl holds.holds.asked refl refl holds.holds.whole holds.holds.asked
begun_on laws version old new accepted (told.Violated names round counts tree) is holds = isolated_rest laws version old new accepted accepted Begin (told.Violated names round counts tree) accepted.asked is holds refl refl holds.holds.asked refl refl holds.holds.whole holds.holds.asked
begun_on laws version old new accepted (told.Spent round counts) is holds = isolated_rest laws version old new accepted accepted Begin (told.Spent round counts) accepted.asked is holds refl refl holds.holds.asked refl refl holds.holds.whole holds.holds.asked
begun_on laws version old new accepted (told.Cut fence gone last) is holds = isolated_rest laws version old new accepted accepted Begin (told.Cut fence gone last) accepted.asked is holds refl refl holds.holds.asked refl refl holds.holds.whole holds.holds.asked
begun_on laws version old new accepted (told.Show marks received closed last remaining) is holds = isolated_rest laws version old new accepted accepted Begin (told.Show marks received closed last remaining) accepted.asked is holds refl refl holds.holds.asked refl refl holds.holds.whole holds.holds.asked
begun_on laws version old new accepted inner is holds = isolated_rest laws version old new accepted accepted Begin inner accepted.asked is holds refl refl holds.holds.asked refl refl holds.holds.whole holds.holds.asked

-- a command that is refused for what it offers, or that has no form
no_more_by : (accepted : Accepted) (command : Command) (refusal : Refusal) → accepted_more accepted command (told.No refusal) ≡ accepted
no_more_by accepted (Offer logged) refusal = refl
no_more_by accepted (Join logged) refusal = refl
no_more_by accepted Begin refusal = refl
no_more_by accepted command refusal = refl

faulty_on : (old new : AuditState) (accepted : Accepted) (command : Command) (answer : Reply) (refusal : Refusal) → answer ≡ told.No refusal → new.engine ≡ old.engine → StandsSplit old.engine accepted → IsIsolatedOn accepted command answer new.engine
faulty_on old new accepted command answer refusal is same holds =
    let more : StandsSplit old.engine (accepted_more accepted command (told.No refusal)) = subst (λ (a : Accepted). StandsSplit old.engine a) (sym (no_more_by accepted command refusal)) holds in
    subst (λ (a : Reply). IsIsolatedOn accepted command a new.engine) (sym is)
    (subst (λ (engine : EngineState). IsIsolatedOn accepted command (told.No refusal) engine) (sym same) (isolated_quietly accepted command (told.No refusal) old.engine tt refl more))

-- what is offered, where it has a form
isolated_taken : Laws → (version : Version) (old new : AuditState) (accepted : Accepted) (command : Command) (logged : LoggedFragment) (inner : Reply) (asked : Step)
    → ((said : StepReply) → Goes old.engine asked said new.engine → IsIsolatedOn accepted command (isolated_of (reply_of said)) new.engine)
    → IsTakenIn version logged old.engine inner new.engine (IsStep old.engine asked inner new.engine) → StandsSplit old.engine accepted → IsIsolatedOn accepted command (isolated_of inner) new.engine
isolated_taken laws version old new accepted command logged inner asked on is holds =
    ⊎_elim (λ one. subst (λ (a : Reply). IsIsolatedOn accepted command (isolated_of a) new.engine) (sym one.1.2) (on one.1.0 one.1.1))
    (λ bad. faulty_on old new accepted command (isolated_of inner) BadLine (ap isolated_of bad.1.0) bad.1.1 holds) is

asked_on : Laws → (version : Version) (old new : AuditState) (accepted : Accepted) (command : Command) (inner : Reply) → CanBeAsked (most_sessions version) command → AnswersBeside version old (split_command command) inner new → StandsSplit old.engine accepted → IsIsolatedOn accepted command (isolated_of inner) new.engine
asked_on laws version old new accepted (Offer logged) inner can is holds =
    isolated_taken laws version old new accepted (Offer logged) (split_logged logged) inner (step.Offer (split_logged logged)) (λ said goes. isolated_offer laws (most_sessions version) old.engine new.engine accepted logged said can goes holds) is.0 holds
asked_on laws version old new accepted (Join logged) inner can is holds =
    isolated_taken laws version old new accepted (Join logged) (split_logged logged) inner (step.Join (split_logged logged)) (λ said goes. isolated_join laws (most_sessions version) old.engine new.engine accepted logged said can goes holds) is.0 holds
asked_on laws version old new accepted Begin inner can is holds = begun_on laws version old new accepted inner is holds
asked_on laws version old new accepted (Round budget depth workers search) inner can is holds =
    isolated_rest laws version old new accepted accepted (Round budget depth workers search) inner accepted.whole is holds refl refl holds.holds.whole refl refl holds.holds.whole holds.holds.asked
asked_on laws version old new accepted (Save wanted) inner can is holds =
    let on = isolated_rest laws version old new accepted accepted (Save (split_wanted wanted)) inner accepted.asked is holds refl refl holds.holds.asked refl refl holds.holds.whole holds.holds.asked in
    record { ahead = on.ahead; is_true = on.is_true; moves = on.moves; holds = on.holds }
asked_on laws version old new accepted command inner can is holds = isolated_rest laws version old new accepted accepted command inner accepted.asked is holds refl refl holds.holds.asked refl refl holds.holds.whole holds.holds.asked

isolated_on : Laws → (version : Version) (old new : AuditState) (accepted : Accepted) (command : Command) (answer : Reply) → AnswersIsolated version old command answer new → StandsSplit old.engine accepted → IsIsolatedOn accepted command answer new.engine
isolated_on laws version old new accepted command answer is holds =
    ⊎_elim (λ fault. faulty_on old new accepted command answer fault.0 fault.2 (ap (λ (audit : AuditState). audit.engine) fault.3) holds) (λ split. isolated_told accepted command answer split.1 new.engine split.3 (asked_on laws version old new accepted command split.1 split.0 split.2 holds)) is

-- ---- scripts

-- a stage that begins
abbrev Begun : Origin → Stage → Command → Reply → Option Stage → Type 0
Begun origin old command answer begun = Fits (stage_after old begun) (accepted_after origin None command answer)

along_begun : (origin : Origin) (old : Stage) (command : Command) (answer : Reply) (begun is : Option Stage) → begun ≡ is → Begun origin old command answer is → Begun origin old command answer begun
along_begun origin old command answer begun is same fits = subst (λ (o : Option Stage). Begun origin old command answer o) (sym same) fits

-- an engine that is opened stands for nothing yet
opened_stands : Laws → (opening : Opening) (sessions limit : ℕ) → Holds (opened_engine opening sessions limit) (opened_state opening sessions limit) → StandsIn opening (opened_engine opening sessions limit) (nothing_accepted sessions)
opened_stands laws (Ordered version) sessions limit holds = record { holds = holds; left = λ yes. laws.fresh_on (most_sessions version) sessions limit; behind = laws.fresh_behind (most_sessions version) sessions limit }
opened_stands laws (Isolated version) sessions limit holds = record {
  holds = laws.fresh (most_sessions version) sessions (2 * limit) holds;
  left = λ yes.
      subst (λ (history : History). HoldsLeft (fresh (most_sessions version) sessions (2 * limit)) history history) (sym (laws.nothing sessions).0) (laws.fresh_on (most_sessions version) sessions (2 * limit));
  behind = subst (λ (history : History). HoldsBehind [] (fresh (most_sessions version) sessions (2 * limit)) history history) (sym (laws.nothing sessions).0) (laws.fresh_behind (most_sessions version) sessions (2 * limit));
}

first_fits : Laws → (origin : Origin) (old : Stage) (command : Command) (answer : Reply) (begun : Option Stage) → Fits old None → AnswersFirst command answer begun → Begun origin old command answer begun
first_fits laws origin old (Start sessions limit (Resumable opening)) told.Done begun none first = along_begun origin old (Start sessions limit (Resumable opening)) told.Done begun _ first.1 (opened_stands laws opening sessions limit first.2)
first_fits laws origin old (Start sessions limit (Resumable opening)) (told.No refusal) begun none first = along_begun origin old (Start sessions limit (Resumable opening)) (told.No refusal) begun None first.1 none
first_fits laws origin old (Start sessions limit (Resumable opening)) answer begun none first = absurd first
first_fits laws origin old (Start sessions limit (Strict version)) told.Done begun none first = along_begun origin old (Start sessions limit (Strict version)) told.Done begun _ first.1 tt
first_fits laws origin old (Start sessions limit (Strict version)) (told.No refusal) begun none first = along_begun origin old (Start sessions limit (Strict version)) (told.No refusal) begun None first.1 none
first_fits laws origin old (Start sessions limit (Strict version)) answer begun none first = absurd first
first_fits laws origin old (Resume sessions limit opening) told.Done begun none first = along_begun origin old (Resume sessions limit opening) told.Done begun _ first.1 tt
first_fits laws origin old (Resume sessions limit opening) (told.No refusal) begun none first = along_begun origin old (Resume sessions limit opening) (told.No refusal) begun None first.1 none
first_fits laws origin old (Resume sessions limit opening) answer begun none first = absurd first
first_fits laws origin old Resumed answer begun none first = subst (λ (a : Reply). Begun origin old Resumed a begun) (sym first.0) (along_begun origin old Resumed (told.No BadLine) begun None first.1 none)
first_fits laws origin old command answer begun none first = along_begun origin old command answer begun None first.1 none

anew_fits : Laws → (origin : Origin) (old new : Stage) (command : Command) (answer : Reply) → Fits old None → BeginsAnew old command answer new → Fits new (accepted_after origin None command answer)
anew_fits laws origin old new command answer none anew =
    subst (λ (s : Stage). Fits s (accepted_after origin None command answer)) (sym anew.2) (first_fits laws origin old command answer anew.0 none anew.1)

-- where it goes on handing over
along_new : (new is : Stage) → new ≡ is → Fits is None → Fits new None
along_new new is same fits = subst (λ (s : Stage). Fits s None) (sym same) fits

marks_fit : (origin : Origin) (sessions limit : ℕ) (opening : Opening) (marks : List ℕ) (closed : List Bool) (new : Stage) (answer : Reply) → HandsMarks sessions limit opening marks closed answer new → Fits new None
marks_fit origin sessions limit opening marks closed new told.Done is = along_new new _ is.1 tt
marks_fit origin sessions limit opening marks closed new (told.No refusal) is = along_new new _ is.1 tt
marks_fit origin sessions limit opening marks closed new answer is = absurd is

takes_marks_fit : Laws → (origin : Origin) (sessions limit : ℕ) (opening : Opening) (new : Stage) (command : Command) (answer : Reply) → TakesMarks sessions limit opening command answer new → Fits new (accepted_after origin None command answer)
takes_marks_fit laws origin sessions limit opening new (Marks marks closed) answer is = marks_fit origin sessions limit opening marks closed new answer is
takes_marks_fit laws origin sessions limit opening new command answer is = anew_fits laws origin (stage.Resuming sessions limit opening) new command answer tt is

takes_halves_fit : Laws → (origin : Origin) (sessions limit : ℕ) (version : Version) (new : Stage) (command : Command) (answer : Reply) → TakesHalves sessions limit version command answer new → Fits new (accepted_after origin None command answer)
takes_halves_fit laws origin sessions limit version new (MarksBegun marks closed begun) answer is =
    ⊎_elim (λ bad. along_new new (stage.Resuming sessions limit (Isolated version)) bad.2 tt) (λ good. marks_fit origin sessions limit (Isolated version) (half_marks marks begun) closed new answer good.1) is
takes_halves_fit laws origin sessions limit version new command answer is = anew_fits laws origin (stage.Resuming sessions limit (Isolated version)) new command answer tt is

resuming_fits : Laws → (origin : Origin) (sessions limit : ℕ) (opening : Opening) (new : Stage) (command : Command) (answer : Reply) → AnswersResuming sessions limit opening command answer new → Fits new (accepted_after origin None command answer)
resuming_fits laws origin sessions limit (Ordered version) new command answer is = takes_marks_fit laws origin sessions limit (Ordered version) new command answer is
resuming_fits laws origin sessions limit (Isolated version) new command answer is = takes_halves_fit laws origin sessions limit version new command answer is

hands_fits : (handed : Handing) (opening : Opening) (fragment : Fragment) (answer : Reply) (new : Stage) → HandsOffer handed opening fragment answer new → Fits new None
hands_fits handed opening fragment told.Done new is = along_new new _ is.1 tt
hands_fits handed opening fragment (told.No refusal) new is = along_new new _ is.1 tt
hands_fits handed opening fragment answer new is = absurd is

-- a hand-over that ends leads to an engine that stands for the history with which the script begins
ended_fits : Laws → (origin : Origin) (handed : Handing) (opening : Opening) (new : Stage) → EndsHandOver handed opening told.Done new → BeginsWith origin (stage.Handing handed opening) Resumed told.Done → Fits new (accepted_after origin None Resumed told.Done)
ended_fits laws origin handed (Ordered version) new is begins =
    subst (λ (s : Stage). Fits s (accepted_after origin None Resumed told.Done)) (sym is.1) (record {
      holds = is.2 origin.whole begins.0;
      left = λ yes. laws.parts_on (handed_parts handed) origin.whole is.0.good.base (begins.1 yes);
      behind = some_map origin.past (λ gone. RemainsBehind gone (handed_parts handed) origin.whole) (λ gone. HoldsBehind gone (engine_over (handed_parts handed)) origin.whole origin.whole) (λ gone. laws.parts_behind gone (handed_parts handed) origin.whole is.0.good.base) begins.2;
    })
ended_fits laws origin handed (Isolated version) new is begins =
    subst (λ (s : Stage). Fits s (accepted_after origin None Resumed told.Done)) (sym is.1) (record {
      holds = record { holds = is.2 (split_history origin.whole) begins.0; whole = begins.1; asked = begins.1 };
      left = λ yes. laws.parts_on (handed_parts handed) (split_history origin.whole) is.0.good.base (begins.2 yes);
      behind =
          some_map origin.past (λ gone. RemainsBehind gone (handed_parts handed) (split_history origin.whole)) (λ gone. HoldsBehind gone (engine_over (handed_parts handed)) (split_history origin.whole) (split_history origin.whole))
          (λ gone. laws.parts_behind gone (handed_parts handed) (split_history origin.whole) is.0.good.base) begins.3;
    })

takes_over_fit : Laws → (origin : Origin) (handed : Handing) (opening : Opening) (new : Stage) (command : Command) (answer : Reply) → TakesOver handed opening command answer new → BeginsWith origin (stage.Handing handed opening) command answer → Fits new (accepted_after origin None command answer)
takes_over_fit laws origin handed opening new (Last more) told.Done is begins = along_new new _ is tt
takes_over_fit laws origin handed opening new (Last more) (told.No NoMemory) is begins = along_new new _ is tt
takes_over_fit laws origin handed opening new (Last more) answer is begins = absurd is
takes_over_fit laws origin handed opening new (Offer logged) answer is begins =
    ⊎_elim (λ taken. hands_fits handed opening logged.fragment answer new taken.1) (λ bad. along_new new (stage.Handing handed opening) bad.1.1 tt) is
takes_over_fit laws origin handed opening new Resumed told.Done is begins = ended_fits laws origin handed opening new is begins
takes_over_fit laws origin handed opening new Resumed (told.No refusal) is begins = along_new new _ is.1 tt
takes_over_fit laws origin handed opening new Resumed answer is begins = absurd is
takes_over_fit laws origin handed opening new command answer is begins = anew_fits laws origin (stage.Handing handed opening) new command answer tt is

-- the halves of a command begin nothing that it doesn't begin
halves_fit : (origin : Origin) (handed : Handing) (version : Version) (command : Command) (answer : Reply) → BeginsWith origin (stage.Handing handed (Isolated version)) command answer → BeginsWith origin (stage.Handing handed (Isolated version)) (half_command handed.parts command) answer
halves_fit origin handed version (Last more) answer begins = tt
halves_fit origin handed version (Offer logged) answer begins = tt
halves_fit origin handed version command answer begins = begins

halves_after : (origin : Origin) (handed : Handing) (command : Command) (answer : Reply) → accepted_after origin None (half_command handed.parts command) answer ≡ accepted_after origin None command answer
halves_after origin handed (Last more) answer = refl
halves_after origin handed (Offer logged) answer = refl
halves_after origin handed command answer = refl

handing_fits : Laws → (origin : Origin) (handed : Handing) (opening : Opening) (new : Stage) (command : Command) (answer : Reply) → AnswersHanding handed opening command answer new → BeginsWith origin (stage.Handing handed opening) command answer → Fits new (accepted_after origin None command answer)
handing_fits laws origin handed (Ordered version) new command answer is begins = takes_over_fit laws origin handed (Ordered version) new command answer is begins
handing_fits laws origin handed (Isolated version) new command answer is begins = ⊎_elim (bad new answer) good is
  where
    none : (c : Command) → accepted_after origin None c (told.No BadParts) ≡ None
    none (Start sessions limit (Resumable other)) = refl
    none Resumed = refl
    none c = refl

    bad : (s : Stage) (a : Reply) → (¬ CanBeHanded command) × (a ≡ told.No BadParts) × (s ≡ stage.Handing handed (Isolated version)) → Fits s (accepted_after origin None command a)
    bad s a refused =
        subst (λ (r : Reply). Fits s (accepted_after origin None command r)) (sym refused.1)
        (subst (λ (o : Option Accepted). Fits s o) (sym (none command)) (along_new s (stage.Handing handed (Isolated version)) refused.2 tt))

    good : CanBeHanded command × TakesOver handed (Isolated version) (half_command handed.parts command) answer new → Fits new (accepted_after origin None command answer)
    good taken =
        subst (λ (o : Option Accepted). Fits new o) (halves_after origin handed command answer)
        (takes_over_fit laws origin handed (Isolated version) new (half_command handed.parts command) answer taken.1 (halves_fit origin handed version command answer begins))

-- The reply to a command of an open engine is true, and what it puts behind what is gone.
record IsToldOn (old new : Stage) (accepted : Accepted) (command : Command) (answer : Reply) : Type 0 where
  ahead : List TxnId
  is_true : IsTrueTold old (Some accepted) command answer ahead
  fits : Fits new (Some (moved (accepted_more accepted command answer) ahead))

open_fits : Wholes → (old : AuditState) (version : Version) (new : Stage) (accepted : Accepted) (command : Command) (answer : Reply) → Answers (stage.Open old (Ordered version)) command answer new → Stands old.engine accepted → IsToldOn (stage.Open old (Ordered version)) new accepted command answer
open_fits w old version new accepted command answer is holds =
    let on = beside_on w version old is.0 accepted command answer is.1 holds in
    record {
      ahead = on.ahead;
      is_true = (on.is_true, on.moves);
      fits = subst (λ (s : Stage). Fits s (Some (moved (accepted_more accepted command answer) on.ahead))) (sym is.2) on.holds;
    }

isolated_fits : Laws → (old : AuditState) (version : Version) (new : Stage) (accepted : Accepted) (command : Command) (answer : Reply) → Answers (stage.Open old (Isolated version)) command answer new → StandsSplit old.engine accepted → IsToldOn (stage.Open old (Isolated version)) new accepted command answer
isolated_fits laws old version new accepted command answer is holds =
    let on = isolated_on laws version old is.0 accepted command answer is.1 holds in
    record {
      ahead = on.ahead;
      is_true = (on.is_true, on.moves);
      fits = subst (λ (s : Stage). Fits s (Some (moved (accepted_more accepted command answer) on.ahead))) (sym is.2) on.holds;
    }

-- a script that is asked for strict serializability has no engine
strict_accepts : (origin : Origin) (version : Version) (old new : OfferedState) (command : Command) (answer : Reply) → AnswersStrict version old command answer new → accepted_after origin None command answer ≡ None
strict_accepts origin version old new (Start sessions limit (Resumable begun)) answer is = ap (accepted_after origin None (Start sessions limit (Resumable begun))) is.0
strict_accepts origin version old new Resumed answer is = ap (accepted_after origin None Resumed) is.0
strict_accepts origin version old new command answer is = refl

strict_fits : (origin : Origin) (old : OfferedState) (version : Version) (new : Stage) (command : Command) (answer : Reply) → Answers (stage.Strict old version) command answer new → Fits new (accepted_after origin None command answer)
strict_fits origin old version new command answer is =
    subst (λ (s : Stage). Fits s (accepted_after origin None command answer)) (sym is.2)
    (subst (λ (o : Option Accepted). Fits (stage.Strict is.0 version) o) (sym (strict_accepts origin version old is.0 command answer is.1)) tt)

-- where no engine is open
begins_fit : Laws → (origin : Origin) (old new : Stage) (command : Command) (answer : Reply) → Answers old command answer new → Fits old None → BeginsWith origin old command answer → Fits new (accepted_after origin None command answer)
begins_fit laws origin (stage.Open audit opening) new command answer is fits begins = absurd fits
begins_fit laws origin (stage.Strict offered version) new command answer is fits begins = strict_fits origin offered version new command answer is
begins_fit laws origin stage.Nothing new command answer is fits begins = anew_fits laws origin stage.Nothing new command answer tt is
begins_fit laws origin (stage.Resuming sessions limit opening) new command answer is fits begins = resuming_fits laws origin sessions limit opening new command answer is
begins_fit laws origin (stage.Handing handed opening) new command answer is fits begins = handing_fits laws origin handed opening new command answer is begins

fits_still : (new : Stage) (accepted : Option Accepted) → Fits new accepted → Fits new (option_map (λ (so_far : Accepted). moved so_far []) accepted)
fits_still new None fits = fits
fits_still (stage.Open audit (Ordered version)) (Some accepted) fits = stands_still audit.engine accepted fits
fits_still (stage.Open audit (Isolated version)) (Some accepted) fits = split_still audit.engine accepted fits
fits_still stage.Nothing (Some accepted) fits = absurd fits
fits_still (stage.Strict offered version) (Some accepted) fits = absurd fits
fits_still (stage.Resuming sessions limit opening) (Some accepted) fits = absurd fits
fits_still (stage.Handing handed opening) (Some accepted) fits = absurd fits

-- what is kept stands behind what is gone
kept_open : Laws → (old : AuditState) (accepted : Accepted) → Stands old.engine accepted → IfSome accepted.past (λ gone. KeepsRest gone old.engine accepted.whole accepted.asked)
kept_open laws old accepted stands =
    some_map accepted.past (λ gone. HoldsBehind gone old.engine accepted.whole accepted.asked) (λ gone. KeepsRest gone old.engine accepted.whole accepted.asked)
    (λ gone holds. laws.rest gone old.engine accepted.whole accepted.asked stands.holds.parts holds) stands.behind

kept_split : Laws → (old : AuditState) (accepted : Accepted) → StandsSplit old.engine accepted → IfSome accepted.past (λ gone. IsKeptSplit gone old.engine accepted.whole accepted.asked)
kept_split laws old accepted stands =
    some_map accepted.past (λ gone. HoldsBehind gone old.engine (split_history accepted.whole) (split_history accepted.asked)) (λ gone. IsKeptSplit gone old.engine accepted.whole accepted.asked)
    (λ gone holds. (
      stands.holds.whole,
      stands.holds.asked,
      laws.rest gone old.engine (split_history accepted.whole) (split_history accepted.asked) stands.holds.holds.parts holds,
      laws.halves gone old.engine accepted.whole accepted.asked holds,
    ))
    stands.behind

are_kept : Laws → (old : Stage) (accepted : Option Accepted) → Fits old accepted → IsKept old accepted
are_kept laws old None fits = tt
are_kept laws (stage.Open audit (Ordered version)) (Some accepted) fits = (fits.holds, kept_open laws audit accepted fits)
are_kept laws (stage.Open audit (Isolated version)) (Some accepted) fits = (fits.holds, kept_split laws audit accepted fits)
are_kept laws stage.Nothing (Some accepted) fits = absurd fits
are_kept laws (stage.Strict offered version) (Some accepted) fits = absurd fits
are_kept laws (stage.Resuming sessions limit opening) (Some accepted) fits = absurd fits
are_kept laws (stage.Handing handed opening) (Some accepted) fits = absurd fits

-- the reply to any command
record IsAnswerOn (origin : Origin) (old new : Stage) (accepted : Option Accepted) (command : Command) (answer : Reply) : Type 0 where
  ahead : List TxnId
  is_true : IsTrueTold old accepted command answer ahead
  fits : BeginsWith origin old command answer → Fits new (option_map (λ (so_far : Accepted). moved so_far ahead) (accepted_after origin accepted command answer))

answers_on : Laws → (origin : Origin) (old new : Stage) (accepted : Option Accepted) (command : Command) (answer : Reply) → Answers old command answer new → Fits old accepted → IsAnswerOn origin old new accepted command answer
answers_on laws origin old new None command answer is fits = record {
  ahead = [];
  is_true = refl;
  fits = λ begins. fits_still new (accepted_after origin None command answer) (begins_fit laws origin old new command answer is fits begins);
}
answers_on laws origin (stage.Open audit (Ordered version)) new (Some accepted) command answer is fits =
    let on = open_fits laws.wholes audit version new accepted command answer is fits in
    record { ahead = on.ahead; is_true = on.is_true; fits = λ begins. on.fits }
answers_on laws origin (stage.Open audit (Isolated version)) new (Some accepted) command answer is fits =
    let on = isolated_fits laws audit version new accepted command answer is fits in
    record { ahead = on.ahead; is_true = on.is_true; fits = λ begins. on.fits }
answers_on laws origin stage.Nothing new (Some accepted) command answer is fits = absurd fits
answers_on laws origin (stage.Strict offered version) new (Some accepted) command answer is fits = absurd fits
answers_on laws origin (stage.Resuming sessions limit opening) new (Some accepted) command answer is fits = absurd fits
answers_on laws origin (stage.Handing handed opening) new (Some accepted) command answer is fits = absurd fits

-- the replies to lines
abbrev pub replies_in : (old new : Stage) (lines texts : List (List ℕ)) → RepliesAll old lines texts new → List Reply
replies_in old new [] [] all = []
replies_in old new (line ∷ lines) (text ∷ texts) all = all.1.answer ∷ replies_in all.0 new lines texts all.2
replies_in old new [] (text ∷ texts) all = absurd all
replies_in old new (line ∷ lines) [] all = absurd all

pub texts_of : (old new : Stage) (lines texts : List (List ℕ)) (all : RepliesAll old lines texts new) → concat texts ≡ concat (map line_of (replies_in old new lines texts all))
texts_of old new [] [] all = refl
texts_of old new (line ∷ lines) (text ∷ texts) all =
    ap (λ (bytes : List ℕ). bytes ++ concat texts) all.1.text_is ∙ ap (λ (bytes : List ℕ). line_of all.1.answer ++ bytes) (texts_of all.0 new lines texts all.2)
texts_of old new [] (text ∷ texts) all = absurd all
texts_of old new (line ∷ lines) [] all = absurd all

all_true : Laws → (origin : Origin) (old new : Stage) (accepted : Option Accepted) (lines texts : List (List ℕ)) (all : RepliesAll old lines texts new) → Fits old accepted → AreTrueReplies origin old accepted lines (replies_in old new lines texts all) new
all_true laws origin old new accepted [] [] all fits = (all, are_kept laws old accepted fits)
all_true laws origin old new accepted (line ∷ lines) (text ∷ texts) all fits =
    ⊎_elim
    (λ is.
    let on = answers_on laws origin old all.0 accepted is.0 all.1.answer is.2 fits in
    inl (
      is.0,
      all.0,
      on.ahead,
      is.1,
      is.2,
      are_kept laws old accepted fits,
      on.is_true,
      λ begins. all_true laws origin all.0 new (option_map (λ (so_far : Accepted). moved so_far on.ahead) (accepted_after origin accepted is.0 all.1.answer)) lines texts all.2 (on.fits begins),
    ))
    (λ none. inr (
      none.0,
      (none.1.0, refl),
      subst (λ (s : Stage). AreTrueReplies origin s accepted lines (replies_in all.0 new lines texts all.2) new) none.1.1
          (all_true laws origin all.0 new accepted lines texts all.2 (subst (λ (s : Stage). Fits s accepted) (sym none.1.1) fits)),
    ))
    all.1.answered
all_true laws origin old new accepted [] (text ∷ texts) all fits = absurd all
all_true laws origin old new accepted (line ∷ lines) [] all fits = absurd all

pub each_report : Laws → EachReportIsTrue
each_report laws origin asked output end is = (
  replies_in stage.Nothing end asked is.0 is.1,
  is.2 ∙ texts_of stage.Nothing end asked is.0 is.1,
  all_true laws origin stage.Nothing end None asked is.0 is.1 tt,
)
