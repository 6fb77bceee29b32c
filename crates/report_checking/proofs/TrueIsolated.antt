-- What right replies to a script that asks for snapshot isolation mean, told of the history as it was offered.
use Rattle.std.proofs.Common.{◌≡◌, ◌⊎◌, ℕ, ◌+◌, ◌*◌, true, false, cond, nat_lt, List, [], ◌++◌, length, map, Option, Some, None, Bool, refl, sym, ap, ◌∙◌, subst, ⊎_elim, append-nil}
use Rattle.std.specs.Prelude.{not}
use Rattle.txn.specs.declared.refusals.Refusal.{Refusal}
use Rattle.txn.specs.declared.refusals.Refusal.TheVariants.{BadSession, BadLine, NoRound, RoundOpen}
use Rattle.txn.specs.declared.transactions.Fragment.{Fragment}
use Rattle.txn.specs.declared.transactions.TxnId.{TxnId}
use Rattle.txn.specs.History.{History}
use Rattle.order_check.specs.declared.remainder.Parts.{Parts}
use Rattle.log_text.specs.declared.commands.Command.{Command}
use Rattle.log_text.specs.declared.commands.Command.TheVariants.{Start, Offer, OfferTimed, Join, Close, Begin, Finish, Round, BeginSearch, Collect, Skip, Truncate, Rebuild, Show, Resume, Marks, MarksBegun, Last, Resumed, Save, Answer}
use Rattle.log_text.specs.declared.commands.Wanted.{Wanted}
use Rattle.log_text.specs.declared.commands.Wanted.TheVariants as wanted
use Rattle.log_text.specs.declared.replies.Reply.{Reply}
use Rattle.log_text.specs.declared.replies.Reply.TheVariants as told
use Rattle.log_text.specs.declared.saved.Saved.TheVariants as saved
use Rattle.log_text.specs.declared.versions.Version.{Version}
use Rattle.log_text.specs.Versions.{most_sessions}
use Rattle.round_state.specs.Legal.{State, whole_after}
use Rattle.round_state.specs.Steps.{answer_claimed}
use Rattle.round_state.specs.declared.reports.Certificate.{Certificate}
use Rattle.round_state.specs.declared.reports.Certificate.TheVariants.{Order, Refuted, Nothing}
use Rattle.round_state.specs.declared.reports.Report.{Report}
use Rattle.round_state.specs.declared.steps.Step.{Step}
use Rattle.round_state.specs.declared.steps.Step.TheVariants as step
use Rattle.round_state.specs.declared.steps.StepReply.{StepReply}
use Rattle.round_state.specs.declared.steps.StepReply.TheVariants as reply
use Rattle.isolation_histories.specs.Halves.{commit_half, event_at}
use Rattle.isolation_histories.specs.Split.{HistoryCanBeSplit, split_history}
use Rattle.isolation_scripts.specs.Isolated.{halved, isolated_of}
use Rattle.isolation_scripts.specs.Legal.{IsIsolationOf, LegalIsolation, SplitStepsFollow, split_state}
use Rattle.isolation_scripts.specs.Splitting.{CanBeAsked, split_wanted}
use Rattle.isolation_scripts.specs.Steps.{CanBeMade, split_step}
use Rattle.isolation_scripts.specs.Telling.{CommittedAreOfCommits, HalvedCountsAreWhole}
use Rattle.engine_pasts.specs.Holding.{EventsStandBehind, MovesOn}
use Rattle.engine_pasts.specs.Laws.{ReportedEventsStandBehind}
use Rattle.cobra.specs.Saving.{fragment_told, saved_told}
use Rattle.cobra.specs.Scripts.{IsBadLine, state_told}
use Rattle.cobra.specs.StepReplies.{certified, claim_of, report_of, reply_of}
use Rattle.cobra.specs.TrueReports.{MovesHalves, TellsIsolation}
use Rattle.report_checking.specs.Isolation.{EndsIsolated, EndsWhere, IsIsolatedRound, IsIsolatedStep, IsOwedIsolation, OwesAsked, OwesIsolated, OwesSplit}
use Rattle.report_checking.specs.Owing.{BeginsSearch, IsPlain}
use Rattle.report_checking.specs.TrueReplies.{reported_in}
use Rattle.report_checking.proofs.Earned.{KindOfTree, earned_events, earned_stays, earned_tree, judged_tree, received_behind}
use Rattle.report_checking.proofs.Standing.{StandsBoth, StepsStandBoth}

-- the engine of a state stands for its histories, split, and what it holds remains of them behind what is gone
abbrev pub StandsIsolated : List TxnId → State → Type 0
StandsIsolated gone state = HistoryCanBeSplit state.whole × HistoryCanBeSplit state.asked × StandsBoth gone state.engine (split_history state.whole) (split_history state.asked)

-- The reply to a command is true, and puts something behind what is gone.
pub record NextIsolated (gone : List TxnId) (old : State) (command : Command) (answer : Reply) (new : State) : Type 0 where
  pub ahead : List TxnId
  pub is_true : TellsIsolation true (Some gone) (reported_in old command) answer
  pub moves : MovesHalves answer ahead
  pub stands : StandsIsolated (gone ++ ahead) new

-- The report of a round is true of a history, and puts nothing there.
record EndsTrue (gone : List TxnId) (history : History) (answer : Reply) (new : State) : Type 0 where
  is_true : TellsIsolation true (Some gone) history answer
  moves : MovesHalves answer []
  stands : StandsIsolated gone new

quiet : (gone : List TxnId) (old new : State) (command : Command) (answer : Reply) → TellsIsolation true (Some gone) (reported_in old command) answer → MovesHalves answer [] → StandsIsolated gone new → NextIsolated gone old command answer new
quiet gone old new command answer is_true moves stands = record { ahead = []; is_true = is_true; moves = moves; stands = subst (λ (past : List TxnId). StandsIsolated past new) (sym (append-nil gone)) stands }

-- a reply that tells nothing, after which all is as it was
unchanged : (gone : List TxnId) (old new : State) (command : Command) (answer said : Reply) → answer ≡ said → new ≡ old → TellsIsolation true (Some gone) (reported_in old command) said → MovesHalves said [] → StandsIsolated gone old → NextIsolated gone old command answer new
unchanged gone old new command answer said is same is_true moves stands =
    subst (λ (a : Reply). NextIsolated gone old command a new) (sym is) (quiet gone old new command said is_true moves (subst (λ (state : State). StandsIsolated gone state) (sym same) stands))

bad : (gone : List TxnId) (old new : State) (command : Command) (answer : Reply) → IsBadLine old answer new → StandsIsolated gone old → NextIsolated gone old command answer new
bad gone old new command answer is stands = unchanged gone old new command answer (told.No BadLine) is.0 is.1 tt refl stands

-- ---- steps

certified_moves : (report : Report) (certificate : Certificate) (ahead : List TxnId) → ahead ≡ [] → MovesHalves (isolated_of (certified report certificate)) ahead
certified_moves report (Order order) ahead none = none
certified_moves report (Refuted tree) ahead none = none
certified_moves report Nothing ahead none = none

told_moves : CommittedAreOfCommits → (said : StepReply) (ahead : List TxnId) → MovesOn said ahead → MovesHalves (isolated_of (reply_of said)) ahead
told_moves committed reply.Done ahead moves = moves
told_moves committed (reply.Refused refusal) ahead moves = moves
told_moves committed (reply.Report report) ahead moves = certified_moves report report.certificate ahead moves
told_moves committed (reply.Cut cut) ahead moves = λ id. (λ has. (committed cut.gone id).0 ((moves (commit_half id)).0 has), λ has. (moves (commit_half id)).1 ((committed cut.gone id).1 has))

pub record Laws : Type 0 where
  pub steps : StepsStandBoth
  pub events : ReportedEventsStandBehind
  pub follow : SplitStepsFollow
  pub committed : CommittedAreOfCommits
  pub halving : HalvedCountsAreWhole

module _ (laws : Laws) where
  certified_true : (gone : List TxnId) (history : History) (report : Report) (certificate : Certificate) → report.counts ≡ map (λ txns. 2 * length txns) history → IsIsolationOf history report.kind → EventsStandBehind gone history certificate → KindOfTree report.kind certificate → TellsIsolation true (Some gone) history (isolated_of (certified report certificate))
  certified_true gone history report (Order order) counted is behind tree = (ap halved counted ∙ laws.halving history, is, λ yes. (map event_at gone, behind), behind)
  certified_true gone history report (Refuted shown) counted is behind tree = (ap halved counted ∙ laws.halving history, subst (IsIsolationOf history) tree is)
  certified_true gone history report Nothing counted is behind tree = ap halved counted ∙ laws.halving history

  told_true : (gone : List TxnId) (old new : State) (asked : Step) (said : StepReply) → IsPlain asked → LegalIsolation old asked said new → StandsIsolated gone old → TellsIsolation true (Some gone) old.asked (isolated_of (reply_of said))
  told_true gone old new asked reply.Done plain legal stands = tt
  told_true gone old new asked (reply.Refused refusal) plain legal stands = tt
  told_true gone old new asked (reply.Cut cut) plain legal stands = tt
  told_true gone old new (step.Judge claim) (reply.Report report) plain legal stands =
      certified_true gone old.asked report report.certificate legal.true_reply.counts legal.true_reply.kind
      (laws.events gone old.engine new.engine old.whole old.asked (step.Judge claim) report legal.engine stands.2.behind)
      (judged_tree (old.engine.rounds + 1) old.engine.held new.engine.held old.engine.asked (answer_claimed claim) report legal.engine.0)
  told_true gone old new (step.Finish budget depth workers) (reply.Report report) plain legal stands = absurd plain
  told_true gone old new asked (reply.Report report) plain legal stands = absurd legal.engine

  -- what is told of a step that isn't a finish, where there may be so many sessions
  on_step : (sessions : ℕ) (gone : List TxnId) (old new : State) (command : Command) (asked : Step) (said : StepReply) → CanBeMade sessions asked → LegalIsolation old asked said new → StandsIsolated gone old → TellsIsolation true (Some gone) (reported_in old command) (isolated_of (reply_of said)) → NextIsolated gone old command (isolated_of (reply_of said)) new
  on_step sessions gone old new command asked said can legal stands is_true =
      let follow = laws.follow sessions old.engine new.engine old asked said can legal.engine (received_behind gone old.engine.parts (split_history old.whole) stands.2.behind.parts) stands.0 stands.1 in
      let behind = laws.steps gone old.engine new.engine (split_history old.whole) (split_history old.asked) (split_step asked) said legal.engine stands.2 in
      record {
        ahead = behind.0;
        is_true = is_true;
        moves = told_moves laws.committed said behind.0 behind.1;
        stands = (
          subst HistoryCanBeSplit (sym legal.whole) follow.can,
          subst HistoryCanBeSplit (sym legal.asked) follow.can_asked,
          subst (λ (history : History). StandsBoth (gone ++ behind.0) new.engine history (split_history new.asked)) (follow.whole ∙ ap split_history (sym legal.whole))
              (subst (λ (history : History). StandsBoth (gone ++ behind.0) new.engine (whole_after (split_state old) (split_step asked) said) history) (follow.asked ∙ ap split_history (sym legal.asked)) behind.2),
        );
      }

  by_step : (sessions : ℕ) (gone : List TxnId) (old new : State) (command : Command) (asked : Step) (answer : Reply) → reported_in old command ≡ old.asked → IsPlain asked → CanBeMade sessions asked → IsIsolatedStep old asked answer new → StandsIsolated gone old → NextIsolated gone old command answer new
  by_step sessions gone old new command asked answer about plain can is stands =
      subst (λ (a : Reply). NextIsolated gone old command a new) (sym is.2)
      (on_step sessions gone old new command asked is.0 can is.1 stands (subst (λ (history : History). TellsIsolation true (Some gone) history (isolated_of (reply_of is.0))) (sym about) (told_true gone old new asked is.0 plain is.1 stands)))

  taken : (sessions : ℕ) (gone : List TxnId) (old new : State) (command : Command) (asked : Step) (answer : Reply) (has : Bool) → reported_in old command ≡ old.asked → IsPlain asked → CanBeMade sessions asked → ((has ≡ true) × IsIsolatedStep old asked answer new) ⊎ ((has ≡ false) × IsBadLine old answer new) → StandsIsolated gone old → NextIsolated gone old command answer new
  taken sessions gone old new command asked answer has about plain can is stands = ⊎_elim (λ one. by_step sessions gone old new command asked answer about plain can one.1 stands) (λ none. bad gone old new command answer none.1 stands) is

  -- ---- rounds

  ends : (gone : List TxnId) (old new : State) (answer : Reply) → EndsIsolated old answer new → StandsIsolated gone old → EndsTrue gone old.asked answer new
  ends gone old new answer owed stands = ⊎_elim reported (λ none. refused none.1 none.2) owed
    where
      refused : answer ≡ told.No NoRound → new ≡ old → EndsTrue gone old.asked answer new
      refused is same = subst (λ (a : Reply). EndsTrue gone old.asked a new) (sym is) (record { is_true = tt; moves = refl; stands = subst (λ (state : State). StandsIsolated gone state) (sym same) stands })

      reported : (report : Report) × IsOwedIsolation old report new × (answer ≡ isolated_of (report_of report)) → EndsTrue gone old.asked answer new
      reported (report, owes, is) = subst (λ (a : Reply). EndsTrue gone old.asked a new) (sym is) (record {
        is_true = certified_true gone old.asked report report.certificate owes.tells.counts owes.tells.kind (earned_events laws.events gone old.engine new.engine old.whole old.asked report owes.earned stands.2.behind) (earned_tree old.engine new.engine report owes.earned);
        moves = certified_moves report report.certificate [] refl;
        stands = (
          subst HistoryCanBeSplit (sym owes.whole) stands.0,
          subst HistoryCanBeSplit (sym owes.asked) stands.1,
          subst (λ (history : History). StandsBoth gone new.engine (split_history history) (split_history new.asked)) (sym owes.whole)
              (subst (λ (history : History). StandsBoth gone new.engine (split_history old.whole) (split_history history)) (sym owes.asked) (earned_stays laws.steps gone old.engine new.engine (split_history old.whole) (split_history old.asked) report owes.earned stands.2)),
        );
      })

  -- where it may be made
  ended_where : (may : Bool) (refusal : Refusal) (searched after : Bool) (gone : List TxnId) (old new : State) (command : Command) (answer : Reply) → reported_in old command ≡ old.asked → EndsWhere may refusal searched old answer after new → StandsIsolated gone old → NextIsolated gone old command answer new
  ended_where true refusal searched after gone old new command answer about owed stands =
      let end = ends gone old new answer owed.0 stands in
      quiet gone old new command answer (subst (λ (history : History). TellsIsolation true (Some gone) history answer) (sym about) end.is_true) end.moves end.stands
  ended_where false refusal searched after gone old new command answer about owed stands = unchanged gone old new command answer (told.No refusal) owed.0 owed.1 tt refl stands

  round : (gone : List TxnId) (old new : State) (command : Command) (answer : Reply) → reported_in old command ≡ old.whole → IsIsolatedRound old answer new → StandsIsolated gone old → NextIsolated gone old command answer new
  round gone old new command answer about owed stands = ⊎_elim refused begun owed
    where
      refused : (refusal : Refusal) × LegalIsolation old step.Begin (reply.Refused refusal) new × (answer ≡ told.No refusal) → NextIsolated gone old command answer new
      refused (refusal, legal, is) = subst (λ (a : Reply). NextIsolated gone old command a new) (sym is) (on_step 0 gone old new command step.Begin (reply.Refused refusal) tt legal stands tt)

      begun : (between : State) × LegalIsolation old step.Begin reply.Done between × EndsIsolated between answer new → NextIsolated gone old command answer new
      begun (between, legal, owes) =
          let begins = on_step 0 gone old between Begin step.Begin reply.Done tt legal stands tt in
          let at : StandsIsolated gone between = subst (λ (past : List TxnId). StandsIsolated past between) (ap (λ (more : List TxnId). gone ++ more) begins.moves ∙ append-nil gone) begins.stands in
          let end = ends gone between new answer owes at in
          quiet gone old new command answer (subst (λ (history : History). TellsIsolation true (Some gone) history answer) (legal.asked ∙ sym about) end.is_true) end.moves end.stands

  -- ---- what is given out

  saved_true : (gone : List TxnId) (history : History) (parts : Parts) (asked : Wanted) → TellsIsolation true (Some gone) history (isolated_of (saved_told parts asked))
  saved_true gone history parts wanted.Marks = tt
  saved_true gone history parts (wanted.Last key) = tt
  saved_true gone history parts (wanted.Remain s n) = by_test (nat_lt s (length parts.remain)) (fragment_told parts s n)
    where
      by_test : (test : Bool) (fragment : Fragment) → TellsIsolation true (Some gone) history (isolated_of (cond test (told.Saved (saved.Offer fragment)) (told.No BadSession)))
      by_test true fragment = tt
      by_test false fragment = tt

  saved_moves : (parts : Parts) (asked : Wanted) → MovesHalves (isolated_of (saved_told parts asked)) []
  saved_moves parts wanted.Marks = refl
  saved_moves parts (wanted.Last key) = refl
  saved_moves parts (wanted.Remain s n) = by_test (nat_lt s (length parts.remain)) (fragment_told parts s n)
    where
      by_test : (test : Bool) (fragment : Fragment) → MovesHalves (isolated_of (cond test (told.Saved (saved.Offer fragment)) (told.No BadSession))) []
      by_test true fragment = refl
      by_test false fragment = refl

  -- ---- commands

  opened : (version : Version) (gone : List TxnId) (old new : State) (command : Command) (answer : Reply) → CanBeAsked (most_sessions version) command → OwesSplit version old command answer new → StandsIsolated gone old → NextIsolated gone old command answer new
  opened version gone old new (Offer logged) answer can is stands = taken (most_sessions version) gone old new (Offer logged) (step.Offer logged) answer _ refl tt can is stands
  opened version gone old new (Join logged) answer can is stands = taken (most_sessions version) gone old new (Join logged) (step.Join logged) answer _ refl tt can is stands
  opened version gone old new (Close session) answer can is stands = by_step 0 gone old new (Close session) (step.Close session) answer refl tt tt is stands
  opened version gone old new Begin answer can is stands = by_step 0 gone old new Begin step.Begin answer refl tt tt is stands
  opened version gone old new (Round budget depth workers search) answer can is stands = round gone old new (Round budget depth workers search) answer refl is stands
  opened version gone old new Truncate answer can is stands = by_step 0 gone old new Truncate step.Truncate answer refl tt tt is stands
  opened version gone old new Rebuild answer can is stands = by_step 0 gone old new Rebuild step.Rebuild answer refl tt tt is stands
  opened version gone old new Show answer can is stands = unchanged gone old new Show answer (isolated_of (state_told old.engine)) is.0 is.1 tt refl stands
  opened version gone old new (Save asked) answer can is stands =
      unchanged gone old new (Save asked) answer (isolated_of (saved_told old.engine.parts (split_wanted asked))) is.0 is.1 (saved_true gone old.asked old.engine.parts (split_wanted asked)) (saved_moves old.engine.parts (split_wanted asked)) stands
  opened version gone old new (Finish budget depth workers search) answer can is stands = bad gone old new (Finish budget depth workers search) answer is stands
  opened version gone old new (Answer shown) answer can is stands = by_step 0 gone old new (Answer shown) (step.Judge (claim_of shown)) answer refl tt tt is stands
  opened version gone old new (Start sessions limit other) answer can is stands = bad gone old new (Start sessions limit other) answer is stands
  opened version gone old new (OfferTimed logged began ended) answer can is stands = bad gone old new (OfferTimed logged began ended) answer is stands
  opened version gone old new (Resume sessions limit other) answer can is stands = bad gone old new (Resume sessions limit other) answer is stands
  opened version gone old new (Marks marks closed) answer can is stands = bad gone old new (Marks marks closed) answer is stands
  opened version gone old new (MarksBegun marks closed begun) answer can is stands = bad gone old new (MarksBegun marks closed begun) answer is stands
  opened version gone old new (Last last) answer can is stands = bad gone old new (Last last) answer is stands
  opened version gone old new Resumed answer can is stands = bad gone old new Resumed answer is stands
  opened version gone old new (BeginSearch budget depth workers search) answer can is stands = bad gone old new (BeginSearch budget depth workers search) answer is stands
  opened version gone old new (Collect waits) answer can is stands = bad gone old new (Collect waits) answer is stands
  opened version gone old new Skip answer can is stands = bad gone old new Skip answer is stands

  -- a search is begun
  begins : (asked : Option Parts) (searched after : Bool) (gone : List TxnId) (old new : State) (command : Command) (answer : Reply) → BeginsSearch asked searched answer after → new ≡ old → StandsIsolated gone old → NextIsolated gone old command answer new
  begins None searched after gone old new command answer is same stands = unchanged gone old new command answer (told.No NoRound) is.0 same tt refl stands
  begins (Some parts) true after gone old new command answer is same stands = unchanged gone old new command answer (told.No RoundOpen) is.0 same tt refl stands
  begins (Some parts) false after gone old new command answer is same stands = unchanged gone old new command answer told.Done is.0 same tt refl stands

  asked_on : (version : Version) (searched after : Bool) (gone : List TxnId) (old new : State) (command : Command) (answer : Reply) → CanBeAsked (most_sessions version) command → OwesAsked version searched old command answer after new → StandsIsolated gone old → NextIsolated gone old command answer new
  asked_on version searched after gone old new (BeginSearch budget depth workers search) answer can is stands = begins old.engine.asked searched after gone old new (BeginSearch budget depth workers search) answer is.0 is.1 stands
  asked_on version searched after gone old new (Collect waits) answer can is stands =
      ⊎_elim
      (λ goes. unchanged gone old new (Collect waits) answer told.Searching goes.2 goes.3 tt refl stands)
      (λ collected. ended_where searched NoRound searched after gone old new (Collect waits) answer refl collected stands)
      is
  asked_on version searched after gone old new Skip answer can is stands = by_step 0 gone old new Skip step.Abandon answer refl tt tt is.0 stands
  asked_on version searched after gone old new (Finish budget depth workers search) answer can is stands = ended_where (not searched) RoundOpen searched after gone old new (Finish budget depth workers search) answer refl is stands
  asked_on version searched after gone old new command answer can is stands = opened version gone old new command answer can is.0 stands

  pub isolated_on : (version : Version) (searched after : Bool) (gone : List TxnId) (old new : State) (command : Command) (answer : Reply) → OwesIsolated version searched old command answer after new → StandsIsolated gone old → NextIsolated gone old command answer new
  isolated_on version searched after gone old new command answer is stands =
      ⊎_elim
      (λ fault. unchanged gone old new command answer (told.No fault.0) fault.2 fault.3 tt refl stands)
      (λ asked. asked_on version searched after gone old new command answer asked.0 asked.1 stands)
      is
