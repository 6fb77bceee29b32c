-- What an engine reports behind what is gone.
use Rattle.std.proofs.Common.{◌≡◌, ℕ, ◌+◌, List, ◌++◌, Option, Some, None, refl, sym, subst}
use Rattle.std.specs.Prelude.{IsSomeAnd}
use Rattle.std.proofs.lemmas.List.{map-append}
use Rattle.txn.specs.declared.transactions.TxnId.{TxnId}
use Rattle.txn.specs.History.{History}
use Rattle.order_check.specs.declared.remainder.Kind.{Kind}
use Rattle.order_check.specs.declared.remainder.Kind.TheVariants as kinds
use Rattle.order_check.specs.declared.remainder.Parts.{Parts}
use Rattle.order_check.specs.Explains.{Explains}
use Rattle.polygraph.specs.declared.solving.Answer as solved
use Rattle.polygraph.specs.declared.solving.Answer.TheVariants as answers
use Rattle.round_state.specs.EngineState.{EngineState}
use Rattle.round_state.specs.Solving.{IsReportOn, IsRight}
use Rattle.round_state.specs.Steps.{IsHeldAfter, IsRightReport, Shows, answer_claimed}
use Rattle.round_state.specs.declared.reports.Certificate.{Certificate}
use Rattle.round_state.specs.declared.reports.Certificate.TheVariants.{Order, Refuted, Nothing}
use Rattle.round_state.specs.declared.reports.Report.{Report}
use Rattle.round_state.specs.declared.steps.Step.TheVariants.{Offer, Join, Close, Begin, Finish, Judge, Abandon, Truncate, Rebuild}
use Rattle.gone_orders.specs.Behind.{RemainsBehind}
use Rattle.gone_orders.specs.Laws.{OrdersBehindAreOfTheWhole}
use Rattle.isolation_histories.specs.Halves.{event_at}
use Rattle.isolation_histories.specs.Laws.{OrdersIsolate}
use Rattle.isolation_histories.specs.Snapshot.{IsSnapshotOrder}
use Rattle.isolation_histories.specs.Split.{split_history}
use Rattle.isolation_rests.specs.Laws.{HalvesTellBehind}
use Rattle.engine_pasts.specs.Holding.{EventsStandBehind, HoldsBehind, StandsBehind}
use Rattle.engine_pasts.specs.Laws.{HalvesAreToldBehind, ReportedEventsStandBehind, ReportedOrdersStandBehind}

shown_behind : OrdersBehindAreOfTheWhole → (past : List TxnId) (front : Parts) (begun : History) (budget depth : ℕ) (kind : Kind) (certificate : Certificate) → RemainsBehind past front begun → Shows front budget depth kind certificate → StandsBehind past begun certificate
shown_behind whole past front begun budget depth kinds.Serial (Order order) behind shows = (whole past front begun behind order).0 shows
shown_behind whole past front begun budget depth kinds.Pending (Order order) behind shows = (whole past front begun behind order).0 shows
shown_behind whole past front begun budget depth kinds.Violated (Order order) behind shows = absurd shows
shown_behind whole past front begun budget depth kinds.Spent (Order order) behind shows = absurd shows
shown_behind whole past front begun budget depth kind (Refuted tree) behind shows = tt
shown_behind whole past front begun budget depth kind Nothing behind shows = tt

right_behind : OrdersBehindAreOfTheWhole → (past : List TxnId) (front : Parts) (begun : History) (answer : solved.Answer) (kind : Kind) (certificate : Certificate) → RemainsBehind past front begun → IsRight front answer kind certificate → StandsBehind past begun certificate
right_behind whole past front begun (answers.Yes order) kind (Order shown) behind right = (whole past front begun behind shown).0 (subst (Explains front) (sym right.0) right.1)
right_behind whole past front begun (answers.No tree) kind (Order shown) behind right = absurd right
right_behind whole past front begun answers.Spent kind (Order shown) behind right = absurd right
right_behind whole past front begun answers.NoMemory kind (Order shown) behind right = absurd right
right_behind whole past front begun answer kind (Refuted tree) behind right = tt
right_behind whole past front begun answer kind Nothing behind right = tt

finish_behind : OrdersBehindAreOfTheWhole → (past : List TxnId) (old new : EngineState) (whole begun : History) (budget depth : ℕ) (report : Report) (round : Option Parts) → old.asked ≡ round → IsSomeAnd round (λ parts. IsRightReport old parts budget depth report × IsHeldAfter parts report.kind old.held new.held) → HoldsBehind past old whole begun → StandsBehind past begun report.certificate
finish_behind of_whole past old new whole begun budget depth report None is both holds = absurd both
finish_behind of_whole past old new whole begun budget depth report (Some front) is both holds = shown_behind of_whole past front begun budget depth report.kind report.certificate (holds.asked front is) both.0.shown

judge_behind : OrdersBehindAreOfTheWhole → (past : List TxnId) (old new : EngineState) (whole begun : History) (answer : solved.Answer) (rounds : ℕ) (report : Report) (round : Option Parts) → old.asked ≡ round → IsSomeAnd round (λ parts. IsReportOn parts rounds answer report × IsHeldAfter parts report.kind old.held new.held) → HoldsBehind past old whole begun → StandsBehind past begun report.certificate
judge_behind of_whole past old new whole begun answer rounds report None is both holds = absurd both
judge_behind of_whole past old new whole begun answer rounds report (Some front) is both holds = right_behind of_whole past front begun answer report.kind report.certificate (holds.asked front is) both.0.right

pub reported_behind : OrdersBehindAreOfTheWhole → ReportedOrdersStandBehind
reported_behind of_whole past old new whole begun (Finish budget depth workers) report to holds = finish_behind of_whole past old new whole begun budget depth report old.asked refl to.0 holds
reported_behind of_whole past old new whole begun (Judge claim) report to holds = judge_behind of_whole past old new whole begun (answer_claimed claim) (old.rounds + 1) report old.asked refl to.0 holds
reported_behind of_whole past old new whole begun (Offer logged) report to holds = absurd to
reported_behind of_whole past old new whole begun (Join logged) report to holds = absurd to
reported_behind of_whole past old new whole begun (Close s) report to holds = absurd to
reported_behind of_whole past old new whole begun Begin report to holds = absurd to
reported_behind of_whole past old new whole begun Abandon report to holds = absurd to
reported_behind of_whole past old new whole begun Truncate report to holds = absurd to
reported_behind of_whole past old new whole begun Rebuild report to holds = absurd to

pub told_behind : HalvesTellBehind → HalvesAreToldBehind
told_behind tell past engine whole begun holds = record { parts = tell past engine.parts whole holds.parts; asked = λ parts e. tell past parts begun (holds.asked parts e) }

-- what stands behind as halves does so as begins and commits
events_of : OrdersIsolate → (past : List TxnId) (history : History) (certificate : Certificate) → StandsBehind past (split_history history) certificate → EventsStandBehind past history certificate
events_of isolate past history (Order order) stands = subst (IsSnapshotOrder history) (map-append event_at past order) (isolate history (past ++ order) stands)
events_of isolate past history (Refuted tree) stands = tt
events_of isolate past history Nothing stands = tt

pub events_behind : OrdersBehindAreOfTheWhole → OrdersIsolate → ReportedEventsStandBehind
events_behind of_whole isolate past old new whole begun step report to holds = events_of isolate past begun report.certificate (reported_behind of_whole past old new (split_history whole) (split_history begun) step report to holds)
