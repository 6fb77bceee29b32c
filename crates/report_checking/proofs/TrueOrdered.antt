-- What right replies to a script about orders mean.
use Rattle.std.proofs.Common.{◌≡◌, ◌⊎◌, ◌+◌, true, false, cond, nat_lt, List, [], ◌++◌, length, map, Option, Some, None, Bool, refl, sym, ap, ◌∙◌, subst, ⊎_elim, append-nil}
use Rattle.std.specs.Prelude.{not}
use Rattle.txn.specs.declared.refusals.Refusal.{Refusal}
use Rattle.txn.specs.declared.refusals.Refusal.TheVariants.{BadSession, BadLine, NoRound, RoundOpen}
use Rattle.txn.specs.declared.transactions.Fragment.{Fragment}
use Rattle.txn.specs.declared.transactions.TxnId.{TxnId}
use Rattle.txn.specs.History.{History}
use Rattle.order_check.specs.declared.remainder.Parts.{Parts}
use Rattle.log_text.specs.declared.commands.Command.{Command}
use Rattle.log_text.specs.declared.commands.Command.TheVariants.{Start, Offer, OfferTimed, Join, Close, Begin, Finish, Round, BeginSearch, Collect, Skip, Truncate, Rebuild, Show, Resume, Marks, MarksBegun, Last, Resumed, Save, Answer}
use Rattle.log_text.specs.declared.commands.Wanted.{Wanted}
use Rattle.log_text.specs.declared.commands.Wanted.TheVariants as wanted
use Rattle.log_text.specs.declared.replies.Reply.{Reply}
use Rattle.log_text.specs.declared.replies.Reply.TheVariants as told
use Rattle.log_text.specs.declared.saved.Saved.TheVariants as saved
use Rattle.log_text.specs.declared.versions.Version.{Version}
use Rattle.round_state.specs.Legal.{State, Legal, IsTrueOf, whole_after}
use Rattle.round_state.specs.Steps.{answer_claimed}
use Rattle.round_state.specs.declared.reports.Certificate.{Certificate}
use Rattle.round_state.specs.declared.reports.Certificate.TheVariants.{Order, Refuted, Nothing}
use Rattle.round_state.specs.declared.reports.Report.{Report}
use Rattle.round_state.specs.declared.steps.Step.{Step}
use Rattle.round_state.specs.declared.steps.Step.TheVariants as step
use Rattle.round_state.specs.declared.steps.StepReply.{StepReply}
use Rattle.round_state.specs.declared.steps.StepReply.TheVariants as reply
use Rattle.engine_pasts.specs.Holding.{MovesOn, StandsBehind}
use Rattle.engine_pasts.specs.Laws.{ReportedOrdersStandBehind}
use Rattle.cobra.specs.Saving.{fragment_told, saved_told}
use Rattle.cobra.specs.Scripts.{IsBadLine, state_told}
use Rattle.cobra.specs.StepReplies.{certified, claim_of, report_of, reply_of}
use Rattle.cobra.specs.TrueReports.{MovesTxns, TellsTrueOf}
use Rattle.report_checking.specs.Owing.{BeginsSearch, FinishesWhere, IsOwedReport, IsPlain, IsStep, OwesBeside, OwesFinish, OwesOpen, OwesRound}
use Rattle.report_checking.specs.TrueReplies.{reported_in}
use Rattle.report_checking.proofs.Earned.{KindOfTree, earned_behind, earned_stays, earned_tree, judged_tree}
use Rattle.report_checking.proofs.Standing.{StandsBoth, StepsStandBoth}

-- the engine of a state stands for its histories, and what it holds remains of them behind what is gone
abbrev pub StandsOrdered : List TxnId → State → Type 0
StandsOrdered gone state = StandsBoth gone state.engine state.whole state.asked

-- The reply to a command is true, and puts something behind what is gone.
pub record NextOrdered (gone : List TxnId) (old : State) (command : Command) (answer : Reply) (new : State) : Type 0 where
  pub ahead : List TxnId
  pub is_true : TellsTrueOf true (Some gone) (reported_in old command) answer
  pub moves : MovesTxns answer ahead
  pub stands : StandsOrdered (gone ++ ahead) new

-- The report of a round is true of a history, and puts nothing there.
record EndsOrdered (gone : List TxnId) (history : History) (answer : Reply) (new : State) : Type 0 where
  is_true : TellsTrueOf true (Some gone) history answer
  moves : MovesTxns answer []
  stands : StandsOrdered gone new

quiet : (gone : List TxnId) (old new : State) (command : Command) (answer : Reply) → TellsTrueOf true (Some gone) (reported_in old command) answer → MovesTxns answer [] → StandsOrdered gone new → NextOrdered gone old command answer new
quiet gone old new command answer is_true moves stands = record { ahead = []; is_true = is_true; moves = moves; stands = subst (λ (past : List TxnId). StandsOrdered past new) (sym (append-nil gone)) stands }

-- a reply that tells nothing, after which all is as it was
unchanged : (gone : List TxnId) (old new : State) (command : Command) (answer said : Reply) → answer ≡ said → new ≡ old → TellsTrueOf true (Some gone) (reported_in old command) said → MovesTxns said [] → StandsOrdered gone old → NextOrdered gone old command answer new
unchanged gone old new command answer said is same is_true moves stands =
    subst (λ (a : Reply). NextOrdered gone old command a new) (sym is) (quiet gone old new command said is_true moves (subst (λ (state : State). StandsOrdered gone state) (sym same) stands))

bad : (gone : List TxnId) (old new : State) (command : Command) (answer : Reply) → IsBadLine old answer new → StandsOrdered gone old → NextOrdered gone old command answer new
bad gone old new command answer is stands = unchanged gone old new command answer (told.No BadLine) is.0 is.1 tt refl stands

-- ---- steps

certified_true : (gone : List TxnId) (history : History) (report : Report) (certificate : Certificate) → report.counts ≡ map length history → IsTrueOf history report.kind → StandsBehind gone history certificate → KindOfTree report.kind certificate → TellsTrueOf true (Some gone) history (certified report certificate)
certified_true gone history report (Order order) counted is behind tree = (counted, is, λ yes. (gone, behind), behind)
certified_true gone history report (Refuted shown) counted is behind tree = (counted, subst (IsTrueOf history) tree is)
certified_true gone history report Nothing counted is behind tree = counted

certified_moves : (report : Report) (certificate : Certificate) (ahead : List TxnId) → ahead ≡ [] → MovesTxns (certified report certificate) ahead
certified_moves report (Order order) ahead none = none
certified_moves report (Refuted tree) ahead none = none
certified_moves report Nothing ahead none = none

told_moves : (said : StepReply) (ahead : List TxnId) → MovesOn said ahead → MovesTxns (reply_of said) ahead
told_moves reply.Done ahead moves = moves
told_moves (reply.Refused refusal) ahead moves = moves
told_moves (reply.Report report) ahead moves = certified_moves report report.certificate ahead moves
told_moves (reply.Cut cut) ahead moves = moves

module _ (steps : StepsStandBoth) (orders : ReportedOrdersStandBehind) where
  told_true : (gone : List TxnId) (old new : State) (asked : Step) (said : StepReply) → IsPlain asked → Legal old asked said new → StandsOrdered gone old → TellsTrueOf true (Some gone) old.asked (reply_of said)
  told_true gone old new asked reply.Done plain legal stands = tt
  told_true gone old new asked (reply.Refused refusal) plain legal stands = tt
  told_true gone old new asked (reply.Cut cut) plain legal stands = tt
  told_true gone old new (step.Judge claim) (reply.Report report) plain legal stands =
      certified_true gone old.asked report report.certificate legal.true_reply.counts legal.true_reply.kind
      (orders gone old.engine new.engine old.whole old.asked (step.Judge claim) report legal.engine stands.behind)
      (judged_tree (old.engine.rounds + 1) old.engine.held new.engine.held old.engine.asked (answer_claimed claim) report legal.engine.0)
  told_true gone old new (step.Finish budget depth workers) (reply.Report report) plain legal stands = absurd plain
  told_true gone old new asked (reply.Report report) plain legal stands = absurd legal.engine

  -- what is told of a step that isn't a finish
  on_step : (gone : List TxnId) (old new : State) (command : Command) (asked : Step) (said : StepReply) → IsPlain asked → Legal old asked said new → StandsOrdered gone old → TellsTrueOf true (Some gone) (reported_in old command) (reply_of said) → NextOrdered gone old command (reply_of said) new
  on_step gone old new command asked said plain legal stands is_true =
      let behind = steps gone old.engine new.engine old.whole old.asked asked said legal.engine stands in
      record {
        ahead = behind.0;
        is_true = is_true;
        moves = told_moves said behind.0 behind.1;
        stands =
            subst (λ (history : History). StandsBoth (gone ++ behind.0) new.engine history new.asked) (sym legal.whole)
            (subst (λ (history : History). StandsBoth (gone ++ behind.0) new.engine (whole_after old asked said) history) (sym legal.asked) behind.2);
      }

  by_step : (gone : List TxnId) (old new : State) (command : Command) (asked : Step) (answer : Reply) → reported_in old command ≡ old.asked → IsPlain asked → IsStep old asked answer new → StandsOrdered gone old → NextOrdered gone old command answer new
  by_step gone old new command asked answer about plain is stands =
      subst (λ (a : Reply). NextOrdered gone old command a new) (sym is.2)
      (on_step gone old new command asked is.0 plain is.1 stands (subst (λ (history : History). TellsTrueOf true (Some gone) history (reply_of is.0)) (sym about) (told_true gone old new asked is.0 plain is.1 stands)))

  taken : (version : Version) (gone : List TxnId) (old new : State) (command : Command) (asked : Step) (answer : Reply) (has : Bool) → reported_in old command ≡ old.asked → IsPlain asked → ((has ≡ true) × IsStep old asked answer new) ⊎ ((has ≡ false) × IsBadLine old answer new) → StandsOrdered gone old → NextOrdered gone old command answer new
  taken version gone old new command asked answer has about plain is stands = ⊎_elim (λ one. by_step gone old new command asked answer about plain one.1 stands) (λ none. bad gone old new command answer none.1 stands) is

  -- ---- rounds

  ends : (gone : List TxnId) (old new : State) (answer : Reply) → OwesFinish old answer new → StandsOrdered gone old → EndsOrdered gone old.asked answer new
  ends gone old new answer owed stands = ⊎_elim reported (λ none. refused none.1 none.2) owed
    where
      refused : answer ≡ told.No NoRound → new ≡ old → EndsOrdered gone old.asked answer new
      refused is same = subst (λ (a : Reply). EndsOrdered gone old.asked a new) (sym is) (record { is_true = tt; moves = refl; stands = subst (λ (state : State). StandsOrdered gone state) (sym same) stands })

      reported : (report : Report) × IsOwedReport old report new × (answer ≡ report_of report) → EndsOrdered gone old.asked answer new
      reported (report, owes, is) = subst (λ (a : Reply). EndsOrdered gone old.asked a new) (sym is) (record {
        is_true = certified_true gone old.asked report report.certificate owes.tells.counts owes.tells.kind (earned_behind orders gone old.engine new.engine old.whole old.asked report owes.earned stands.behind) (earned_tree old.engine new.engine report owes.earned);
        moves = certified_moves report report.certificate [] refl;
        stands =
            subst (λ (history : History). StandsBoth gone new.engine history new.asked) (sym owes.whole)
            (subst (λ (history : History). StandsBoth gone new.engine old.whole history) (sym owes.asked) (earned_stays steps gone old.engine new.engine old.whole old.asked report owes.earned stands));
      })

  finished : (gone : List TxnId) (old new : State) (command : Command) (answer : Reply) → reported_in old command ≡ old.asked → OwesFinish old answer new → StandsOrdered gone old → NextOrdered gone old command answer new
  finished gone old new command answer about owed stands =
      let end = ends gone old new answer owed stands in
      quiet gone old new command answer (subst (λ (history : History). TellsTrueOf true (Some gone) history answer) (sym about) end.is_true) end.moves end.stands

  -- where it may be made
  finished_where : (may : Bool) (refusal : Refusal) (searched after : Bool) (gone : List TxnId) (old new : State) (command : Command) (answer : Reply) → reported_in old command ≡ old.asked → FinishesWhere may refusal searched old answer after new → StandsOrdered gone old → NextOrdered gone old command answer new
  finished_where true refusal searched after gone old new command answer about owed stands = finished gone old new command answer about owed.0 stands
  finished_where false refusal searched after gone old new command answer about owed stands = unchanged gone old new command answer (told.No refusal) owed.0 owed.1 tt refl stands

  round : (gone : List TxnId) (old new : State) (command : Command) (answer : Reply) → reported_in old command ≡ old.whole → OwesRound old answer new → StandsOrdered gone old → NextOrdered gone old command answer new
  round gone old new command answer about owed stands = ⊎_elim refused begun owed
    where
      refused : (refusal : Refusal) × Legal old step.Begin (reply.Refused refusal) new × (answer ≡ told.No refusal) → NextOrdered gone old command answer new
      refused (refusal, legal, is) = subst (λ (a : Reply). NextOrdered gone old command a new) (sym is) (on_step gone old new command step.Begin (reply.Refused refusal) tt legal stands tt)

      begun : (between : State) × Legal old step.Begin reply.Done between × OwesFinish between answer new → NextOrdered gone old command answer new
      begun (between, legal, owes) =
          let begins = on_step gone old between Begin step.Begin reply.Done tt legal stands tt in
          let at : StandsOrdered gone between = subst (λ (past : List TxnId). StandsOrdered past between) (ap (λ (more : List TxnId). gone ++ more) begins.moves ∙ append-nil gone) begins.stands in
          let end = ends gone between new answer owes at in
          quiet gone old new command answer (subst (λ (history : History). TellsTrueOf true (Some gone) history answer) (legal.asked ∙ sym about) end.is_true) end.moves end.stands

  -- ---- what is given out

  saved_true : (gone : List TxnId) (history : History) (parts : Parts) (asked : Wanted) → TellsTrueOf true (Some gone) history (saved_told parts asked)
  saved_true gone history parts wanted.Marks = tt
  saved_true gone history parts (wanted.Last key) = tt
  saved_true gone history parts (wanted.Remain s n) = by_test (nat_lt s (length parts.remain)) (fragment_told parts s n)
    where
      by_test : (test : Bool) (fragment : Fragment) → TellsTrueOf true (Some gone) history (cond test (told.Saved (saved.Offer fragment)) (told.No BadSession))
      by_test true fragment = tt
      by_test false fragment = tt

  saved_moves : (parts : Parts) (asked : Wanted) → MovesTxns (saved_told parts asked) []
  saved_moves parts wanted.Marks = refl
  saved_moves parts (wanted.Last key) = refl
  saved_moves parts (wanted.Remain s n) = by_test (nat_lt s (length parts.remain)) (fragment_told parts s n)
    where
      by_test : (test : Bool) (fragment : Fragment) → MovesTxns (cond test (told.Saved (saved.Offer fragment)) (told.No BadSession)) []
      by_test true fragment = refl
      by_test false fragment = refl

  -- ---- commands

  opened : (version : Version) (gone : List TxnId) (old new : State) (command : Command) (answer : Reply) → OwesOpen version old command answer new → StandsOrdered gone old → NextOrdered gone old command answer new
  opened version gone old new (Offer logged) answer is stands = taken version gone old new (Offer logged) (step.Offer logged) answer _ refl tt is stands
  opened version gone old new (Join logged) answer is stands = taken version gone old new (Join logged) (step.Join logged) answer _ refl tt is stands
  opened version gone old new (Close session) answer is stands = by_step gone old new (Close session) (step.Close session) answer refl tt is stands
  opened version gone old new Begin answer is stands = by_step gone old new Begin step.Begin answer refl tt is stands
  opened version gone old new (Finish budget depth workers search) answer is stands = finished gone old new (Finish budget depth workers search) answer refl is stands
  opened version gone old new (Round budget depth workers search) answer is stands = round gone old new (Round budget depth workers search) answer refl is stands
  opened version gone old new (Answer shown) answer is stands = by_step gone old new (Answer shown) (step.Judge (claim_of shown)) answer refl tt is stands
  opened version gone old new Truncate answer is stands = by_step gone old new Truncate step.Truncate answer refl tt is stands
  opened version gone old new Rebuild answer is stands = by_step gone old new Rebuild step.Rebuild answer refl tt is stands
  opened version gone old new Show answer is stands = unchanged gone old new Show answer (state_told old.engine) is.0 is.1 tt refl stands
  opened version gone old new (Save asked) answer is stands = unchanged gone old new (Save asked) answer (saved_told old.engine.parts asked) is.0 is.1 (saved_true gone old.asked old.engine.parts asked) (saved_moves old.engine.parts asked) stands
  opened version gone old new (Start sessions limit other) answer is stands = bad gone old new (Start sessions limit other) answer is stands
  opened version gone old new (OfferTimed logged began ended) answer is stands = bad gone old new (OfferTimed logged began ended) answer is stands
  opened version gone old new (Resume sessions limit other) answer is stands = bad gone old new (Resume sessions limit other) answer is stands
  opened version gone old new (Marks marks closed) answer is stands = bad gone old new (Marks marks closed) answer is stands
  opened version gone old new (MarksBegun marks closed begun) answer is stands = bad gone old new (MarksBegun marks closed begun) answer is stands
  opened version gone old new (Last last) answer is stands = bad gone old new (Last last) answer is stands
  opened version gone old new Resumed answer is stands = bad gone old new Resumed answer is stands
  opened version gone old new (BeginSearch budget depth workers search) answer is stands = bad gone old new (BeginSearch budget depth workers search) answer is stands
  opened version gone old new (Collect waits) answer is stands = bad gone old new (Collect waits) answer is stands
  opened version gone old new Skip answer is stands = bad gone old new Skip answer is stands

  -- a search is begun
  begins : (asked : Option Parts) (searched after : Bool) (gone : List TxnId) (old new : State) (command : Command) (answer : Reply) → BeginsSearch asked searched answer after → new ≡ old → StandsOrdered gone old → NextOrdered gone old command answer new
  begins None searched after gone old new command answer is same stands = unchanged gone old new command answer (told.No NoRound) is.0 same tt refl stands
  begins (Some parts) true after gone old new command answer is same stands = unchanged gone old new command answer (told.No RoundOpen) is.0 same tt refl stands
  begins (Some parts) false after gone old new command answer is same stands = unchanged gone old new command answer told.Done is.0 same tt refl stands

  pub ordered_on : (version : Version) (searched after : Bool) (gone : List TxnId) (old new : State) (command : Command) (answer : Reply) → OwesBeside version searched old command answer after new → StandsOrdered gone old → NextOrdered gone old command answer new
  ordered_on version searched after gone old new (BeginSearch budget depth workers search) answer is stands = begins old.engine.asked searched after gone old new (BeginSearch budget depth workers search) answer is.0 is.1 stands
  ordered_on version searched after gone old new (Collect waits) answer is stands =
      ⊎_elim
      (λ goes. unchanged gone old new (Collect waits) answer told.Searching goes.2 goes.3 tt refl stands)
      (λ collected. finished_where searched NoRound searched after gone old new (Collect waits) answer refl collected stands)
      is
  ordered_on version searched after gone old new Skip answer is stands = by_step gone old new Skip step.Abandon answer refl tt is.0 stands
  ordered_on version searched after gone old new (Finish budget depth workers search) answer is stands = finished_where (not searched) RoundOpen searched after gone old new (Finish budget depth workers search) answer refl is stands
  ordered_on version searched after gone old new command answer is stands = opened version gone old new command answer is.0 stands
