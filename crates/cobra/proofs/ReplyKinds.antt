-- Only a report that is serial or pending is told with an order.
use Rattle.std.proofs.Common.{◌≡◌, ℕ, ◌+◌, List, [], Bool, true, false, cond, nat_lt, length, Option, Some, None, sym, subst, ⊎_elim}
use Rattle.std.specs.Prelude.{IsSomeAnd, MatchOption, ◌⊎◌}
use Rattle.order_check.specs.declared.remainder.Kind.{Kind}
use Rattle.order_check.specs.declared.remainder.Kind.TheVariants as kinds
use Rattle.order_check.specs.declared.remainder.Parts.{Parts}
use Rattle.log_text.specs.declared.commands.Command.{Command}
use Rattle.log_text.specs.declared.commands.Command.TheVariants.{Start, Offer, OfferTimed, Join, Close, Begin, Finish, Round, BeginSearch, Collect, Skip, Truncate, Rebuild, Show, Resume, Marks, MarksBegun, Last, Resumed, Save, Answer}
use Rattle.log_text.specs.declared.replies.Reply.{Reply}
use Rattle.log_text.specs.declared.replies.Reply.TheVariants as told
use Rattle.log_text.specs.Replies.{HasKindOfOrder}
use Rattle.round_state.specs.EngineState.{EngineState, engine_over}
use Rattle.round_state.specs.Solving.{IsRight, IsReportOn}
use Rattle.round_state.specs.Steps.{Shows, IsRightReport, IsHeldAfter, answer_claimed}
use Rattle.polygraph.specs.declared.solving.Answer as solved
use Rattle.polygraph.specs.declared.solving.Answer.TheVariants as answers
use Rattle.round_state.specs.declared.reports.Certificate.{Certificate}
use Rattle.round_state.specs.declared.reports.Certificate.TheVariants.{Order, Refuted, Nothing}
use Rattle.round_state.specs.declared.reports.Report.{Report}
use Rattle.round_state.specs.declared.steps.Step.{Step}
use Rattle.round_state.specs.declared.steps.Step.TheVariants as step
use Rattle.round_state.specs.declared.steps.StepReply.{StepReply}
use Rattle.round_state.specs.declared.steps.StepReply.TheVariants as reply
use Rattle.settle.specs.declared.cuts.Cut.{Cut}
use Rattle.log_text.specs.declared.commands.Wanted.{Wanted}
use Rattle.log_text.specs.declared.commands.Wanted.TheVariants as wanted
use Rattle.txn.specs.declared.refusals.Refusal.TheVariants.{BadSession, RoundOpen, NoRound}
use Rattle.txn.specs.declared.transactions.TxnId.{TxnId}
use Rattle.txn.specs.declared.transactions.Fragment.{Fragment}
use Rattle.cobra.specs.Saving.{saved_told, fragment_told}
use Rattle.log_text.specs.declared.saved.Saved.TheVariants as saved
use Rattle.log_text.specs.declared.searches.Search.{Search}
use Rattle.log_text.specs.declared.versions.Opening.{Opening}
use Rattle.log_text.specs.declared.versions.Opening.TheVariants.{Ordered, Isolated}
use Rattle.log_text.specs.declared.versions.Promise.TheVariants.{Resumable, Strict}
use Rattle.log_text.specs.declared.versions.Version.{Version}
use Rattle.log_text.specs.declared.versions.Version.TheVariants.{One}
use Rattle.logged_fragments.specs.declared.logged.LoggedFragment.{LoggedFragment}
use Rattle.log_text.specs.declared.commands.Effort.{Effort}
use Rattle.isolation_scripts.specs.Handed.{half_command, half_marks}
use Rattle.isolation_scripts.specs.Isolated.{isolated_of}
use Rattle.isolation_scripts.specs.Splitting.{split_command}
use Rattle.cobra.specs.Audits.{AuditState}
use Rattle.cobra.specs.declared.handing.Handing.{Handing}
use Rattle.cobra.specs.declared.stages.Stage.{Stage}
use Rattle.cobra.specs.declared.stages.Stage.TheVariants as stage
use Rattle.cobra.specs.Scripts.{IsBadLine, Goes, EndsRound, IsRound, IsStep, IsTakenIn, AnswersOpen, AnswersBeside, AnswersIsolated, AnswersStrict, GoesOn, IsCollected, Opens, OpensStrict, RoundsStrictly, Resumes, AnswersFirst, BeginsAnew, HandsMarks, AnswersResuming, HandsWriters, HandsOffer, EndsHandOver, AnswersHanding, Answers, TakesHalves, TakesMarks, TakesOver}
use Rattle.cobra.specs.StepReplies.{claim_of, certified, report_of, reply_of}
use Rattle.cobra.specs.Strict.{OffersStrictly, OffersTimed, spans_of}
use Rattle.strict_histories.specs.declared.timed.Span.{Span}
use Rattle.strict_offers.specs.Offers.{OfferedState, strict_parts}

-- what a certificate shows is told by its own kind
certified_kind : (round : ℕ) (counts : List ℕ) (parts : Parts) (budget depth : ℕ) (kind : Kind) (certificate : Certificate) → Shows parts budget depth kind certificate → HasKindOfOrder (certified (record { round = round; kind = kind; counts = counts; certificate = certificate }) certificate)
certified_kind round counts parts budget depth kinds.Serial (Order order) shows = tt
certified_kind round counts parts budget depth kinds.Pending (Order order) shows = tt
certified_kind round counts parts budget depth kinds.Violated (Order order) shows = absurd shows
certified_kind round counts parts budget depth kinds.Spent (Order order) shows = absurd shows
certified_kind round counts parts budget depth kind (Refuted tree) shows = tt
certified_kind round counts parts budget depth kind Nothing shows = tt

reported_kind : (old : EngineState) (held : Option Cut) (asked : Option Parts) (budget depth : ℕ) (report : Report) → IsSomeAnd asked (λ parts. IsRightReport old parts budget depth report × IsHeldAfter parts report.kind old.held held) → HasKindOfOrder (report_of report)
reported_kind old held None budget depth report right = absurd right
reported_kind old held (Some parts) budget depth report right = certified_kind report.round report.counts parts budget depth report.kind report.certificate right.0.shown

-- A report's kind that is judged right has its certificate.
judged_certified : (parts : Parts) (answer : solved.Answer) (round : ℕ) (counts : List ℕ) (kind : Kind) (certificate : Certificate) → IsRight parts answer kind certificate → HasKindOfOrder (certified (record { round = round; kind = kind; counts = counts; certificate = certificate }) certificate)
judged_certified parts (answers.Yes order) round counts kinds.Serial (Order shown) right = tt
judged_certified parts (answers.Yes order) round counts kinds.Pending (Order shown) right = tt
judged_certified parts (answers.Yes order) round counts kinds.Violated (Order shown) right = absurd (right.2 (order, right.1))
judged_certified parts (answers.Yes order) round counts kinds.Spent (Order shown) right = absurd right.2
judged_certified parts answer round counts kind (Refuted shown) right = tt
judged_certified parts answer round counts kind Nothing right = tt
judged_certified parts answer round counts kind certificate right = absurd right

pub judged_kind : (rounds : ℕ) (before held : Option Cut) (asked : Option Parts) (answer : solved.Answer) (report : Report) → IsSomeAnd asked (λ parts. IsReportOn parts rounds answer report × IsHeldAfter parts report.kind before held) → HasKindOfOrder (report_of report)
judged_kind rounds before held None answer report right = absurd right
judged_kind rounds before held (Some parts) answer report right = judged_certified parts answer report.round report.counts report.kind report.certificate right.0.right

step_kind : (old new : EngineState) (asked : Step) (said : StepReply) → Goes old asked said new → HasKindOfOrder (reply_of said)
step_kind old new asked reply.Done legal = tt
step_kind old new asked (reply.Refused refusal) legal = tt
step_kind old new asked (reply.Cut cut) legal = tt
step_kind old new (step.Finish budget depth workers) (reply.Report report) legal = reported_kind old new.held old.asked budget depth report legal.right.0
step_kind old new (step.Judge claim) (reply.Report report) legal = judged_kind (old.rounds + 1) old.held new.held old.asked (answer_claimed claim) report legal.right.0
step_kind old new asked (reply.Report report) legal = absurd legal.right

told_kind : (said : StepReply) (answer : Reply) → answer ≡ reply_of said → HasKindOfOrder (reply_of said) → HasKindOfOrder answer
told_kind said answer is kind = subst HasKindOfOrder (sym is) kind

bad_line_kind : {X : Type 0} (old new : X) (answer : Reply) → IsBadLine old answer new → HasKindOfOrder answer
bad_line_kind old new answer bad = subst HasKindOfOrder (sym bad.0) tt

ended_kind : (begun new : EngineState) (search : Search) (budget depth workers : ℕ) (said : StepReply) → EndsRound begun search budget depth workers said new → HasKindOfOrder (reply_of said)
ended_kind begun new search budget depth workers reply.Done ends = tt
ended_kind begun new search budget depth workers (reply.Refused refusal) ends = tt
ended_kind begun new search budget depth workers (reply.Cut cut) ends = tt
ended_kind begun new search budget depth workers (reply.Report report) ends = step_kind begun new (step.Finish budget depth workers) (reply.Report report) ends.goes

round_kind : (old new : EngineState) (search : Search) (budget depth workers : ℕ) (said : StepReply) → IsRound old search budget depth workers said new → HasKindOfOrder (reply_of said)
round_kind old new search budget depth workers said round =
    ⊎_elim (λ refused. step_kind old new step.Begin said refused.2) (λ begun. ended_kind begun.0 new search budget depth workers said begun.2) round

told_or_not : (test : Bool) (fragment : Fragment) → HasKindOfOrder (cond test (told.Saved (saved.Offer fragment)) (told.No BadSession))
told_or_not true fragment = tt
told_or_not false fragment = tt

pub saved_kind : (parts : Parts) (wanted : Wanted) → HasKindOfOrder (saved_told parts wanted)
saved_kind parts wanted.Marks = tt
saved_kind parts (wanted.Last key) = tt
saved_kind parts (wanted.Remain s n) = told_or_not (nat_lt s (length parts.remain)) (fragment_told parts s n)

taken_kind : {X : Type 0} (version : Version) (logged : LoggedFragment) (old new : X) (answer : Reply) (Taken : Type 0) → (Taken → HasKindOfOrder answer) → IsTakenIn version logged old answer new Taken → HasKindOfOrder answer
taken_kind version logged old new answer Taken kind is = ⊎_elim (λ taken. kind taken.1) (λ bad. subst HasKindOfOrder (sym bad.1.0) tt) is

open_kind : (version : Version) (old new : EngineState) (command : Command) (answer : Reply) → AnswersOpen version old command answer new → HasKindOfOrder answer
open_kind version old new (Offer logged) answer is = taken_kind version logged old new answer (IsStep old (step.Offer logged) answer new) (λ taken. told_kind taken.0 answer taken.2 (step_kind old new (step.Offer logged) taken.0 taken.1)) is
open_kind version old new (Join logged) answer is = taken_kind version logged old new answer (IsStep old (step.Join logged) answer new) (λ taken. told_kind taken.0 answer taken.2 (step_kind old new (step.Join logged) taken.0 taken.1)) is
open_kind version old new Begin answer is = told_kind is.0 answer is.2 (step_kind old new step.Begin is.0 is.1)
open_kind version old new (Finish budget depth workers search) answer is = told_kind is.0 answer is.2 (step_kind old new (step.Finish budget depth workers) is.0 is.1.goes)
open_kind version old new (Round budget depth workers search) answer is = told_kind is.0 answer is.2 (round_kind old new search budget depth workers is.0 is.1)
open_kind version old new (Answer shown) answer is = told_kind is.0 answer is.2 (step_kind old new (step.Judge (claim_of shown)) is.0 is.1)
open_kind version old new Truncate answer is = told_kind is.0 answer is.2 (step_kind old new step.Truncate is.0 is.1)
open_kind version old new Rebuild answer is = told_kind is.0 answer is.2 (step_kind old new step.Rebuild is.0 is.1)
open_kind version old new Show answer is = subst HasKindOfOrder (sym is.0) tt
open_kind version old new (Close session) answer is = told_kind is.0 answer is.2 (step_kind old new (step.Close session) is.0 is.1)
open_kind version old new (Save wanted) answer is = subst HasKindOfOrder (sym is.0) (saved_kind old.parts wanted)
open_kind version old new (Start sessions limit begun) answer is = bad_line_kind old new answer is
open_kind version old new (OfferTimed logged began ended) answer is = bad_line_kind old new answer is
open_kind version old new (Resume sessions limit begun) answer is = bad_line_kind old new answer is
open_kind version old new (Marks marks closed) answer is = bad_line_kind old new answer is
open_kind version old new (MarksBegun marks closed begun) answer is = bad_line_kind old new answer is
open_kind version old new (Last last) answer is = bad_line_kind old new answer is
open_kind version old new Resumed answer is = bad_line_kind old new answer is
open_kind version old new (BeginSearch budget depth workers search) answer is = bad_line_kind old new answer is
open_kind version old new (Collect waits) answer is = bad_line_kind old new answer is
open_kind version old new Skip answer is = bad_line_kind old new answer is

begin_search_kind : (asked : Option Parts) (search : Option Effort) (old new : AuditState) (given : Effort) (answer : Reply)
    → MatchOption asked ((answer ≡ told.No NoRound) × (new ≡ old)) (λ parts. MatchOption search ((answer ≡ told.Done) × (new ≡ record old { search = Some given })) (λ one. (answer ≡ told.No RoundOpen) × (new ≡ old)))
    → HasKindOfOrder answer
begin_search_kind None search old new given answer is = subst HasKindOfOrder (sym is.0) tt
begin_search_kind (Some parts) None old new given answer is = subst HasKindOfOrder (sym is.0) tt
begin_search_kind (Some parts) (Some one) old new given answer is = subst HasKindOfOrder (sym is.0) tt

collected_kind : (old new : AuditState) (effort : Effort) (answer : Reply) → IsCollected old effort answer new → HasKindOfOrder answer
collected_kind old new effort answer is = told_kind is.0 answer is.2 (step_kind old.engine new.engine (step.Finish effort.budget effort.depth effort.workers) is.0 is.1.goes)

collect_kind : (search : Option Effort) (old new : AuditState) (waits : Bool) (answer : Reply)
    → MatchOption search ((answer ≡ told.No NoRound) × (new ≡ old)) (λ effort. GoesOn waits old answer new ⊎ IsCollected old effort answer new)
    → HasKindOfOrder answer
collect_kind None old new waits answer is = subst HasKindOfOrder (sym is.0) tt
collect_kind (Some effort) old new waits answer is = ⊎_elim (λ goes. subst HasKindOfOrder (sym goes.1) tt) (λ got. collected_kind old new effort answer got) is

finish_kind : (version : Version) (search : Option Effort) (old new : AuditState) (budget depth workers : ℕ) (kind : Search) (answer : Reply)
    → MatchOption search (AnswersOpen version old.engine (Finish budget depth workers kind) answer new.engine × (new.search ≡ None)) (λ effort. (answer ≡ told.No RoundOpen) × (new ≡ old))
    → HasKindOfOrder answer
finish_kind version None old new budget depth workers kind answer is = open_kind version old.engine new.engine (Finish budget depth workers kind) answer is.0
finish_kind version (Some effort) old new budget depth workers kind answer is = subst HasKindOfOrder (sym is.0) tt

beside_kind : (version : Version) (old new : AuditState) (command : Command) (answer : Reply) → AnswersBeside version old command answer new → HasKindOfOrder answer
beside_kind version old new (BeginSearch budget depth workers search) answer is =
    begin_search_kind old.engine.asked old.search old new (record { budget = budget; depth = depth; workers = workers; search = search }) answer is
beside_kind version old new (Collect waits) answer is = collect_kind old.search old new waits answer is
beside_kind version old new Skip answer is = told_kind is.0.0 answer is.0.2 (step_kind old.engine new.engine step.Abandon is.0.0 is.0.1)
beside_kind version old new (Finish budget depth workers search) answer is = finish_kind version old.search old new budget depth workers search answer is
beside_kind version old new command answer is = open_kind version old.engine new.engine command answer is.0

isolated_kind : (reply : Reply) → HasKindOfOrder reply → HasKindOfOrder (isolated_of reply)
isolated_kind (told.Order names round kinds.Serial counts order) of = tt
isolated_kind (told.Order names round kinds.Pending counts order) of = tt
isolated_kind (told.Order names round kinds.Violated counts order) of = absurd of
isolated_kind (told.Order names round kinds.Spent counts order) of = absurd of
isolated_kind (told.Violated names round counts tree) of = tt
isolated_kind (told.Spent round counts) of = tt
isolated_kind (told.Cut fence gone last) of = tt
isolated_kind (told.Show marks received closed last remaining) of = tt
isolated_kind reply of = of

isolates_kind : (version : Version) (old new : AuditState) (command : Command) (answer : Reply) → AnswersIsolated version old command answer new → HasKindOfOrder answer
isolates_kind version old new command answer is =
    ⊎_elim (λ fault. subst HasKindOfOrder (sym fault.2) tt) (λ split. subst HasKindOfOrder (sym split.3) (isolated_kind split.1 (beside_kind version old new (split_command command) split.1 split.2))) is

-- a report with another number
renumbered_kind : (old new : ℕ) (kind : Kind) (counts : List ℕ) (certificate : Certificate)
    → HasKindOfOrder (certified (record { round = old; kind = kind; counts = counts; certificate = certificate }) certificate)
    → HasKindOfOrder (certified (record { round = new; kind = kind; counts = counts; certificate = certificate }) certificate)
renumbered_kind old new kinds.Serial counts (Order order) of = tt
renumbered_kind old new kinds.Pending counts (Order order) of = tt
renumbered_kind old new kinds.Violated counts (Order order) of = absurd of
renumbered_kind old new kinds.Spent counts (Order order) of = absurd of
renumbered_kind old new kind counts (Refuted tree) of = tt
renumbered_kind old new kind counts Nothing of = tt

strict_round_kind : (old new : OfferedState) (search : Search) (budget depth workers : ℕ) (answer : Reply) → RoundsStrictly old search budget depth workers answer new → HasKindOfOrder answer
strict_round_kind old new search budget depth workers answer is =
    ⊎_elim (λ refused. subst HasKindOfOrder (sym refused.2) tt)
    (λ made. subst HasKindOfOrder (sym made.4)
    (renumbered_kind made.0.round (old.rounds + 1) made.0.kind made.0.counts made.0.certificate (round_kind (engine_over (strict_parts old)) made.1 search budget depth workers (reply.Report made.0) made.2)))
    is

offers_kind : (old : OfferedState) (logged : LoggedFragment) (spans : List Span) (answer : Reply) (new : OfferedState) → OffersStrictly old logged spans answer new → HasKindOfOrder answer
offers_kind old logged spans told.Done new is = tt
offers_kind old logged spans (told.No refusal) new is = tt
offers_kind old logged spans answer new is = absurd is

offers_timed_kind : (old : OfferedState) (logged : LoggedFragment) (began ended : List ℕ) (answer : Reply) (new : OfferedState) → OffersTimed old logged began ended answer new → HasKindOfOrder answer
offers_timed_kind old logged began ended answer new is =
    ⊎_elim (λ has. offers_kind old logged (spans_of began ended) answer new has.1) (λ bad. subst HasKindOfOrder (sym bad.1) tt) is

strict_kind : (version : Version) (old new : OfferedState) (command : Command) (answer : Reply) → AnswersStrict version old command answer new → HasKindOfOrder answer
strict_kind version old new (Offer logged) answer is = taken_kind version logged old new answer (OffersStrictly old logged [] answer new) (λ taken. offers_kind old logged [] answer new taken) is
strict_kind version old new (OfferTimed logged began ended) answer is = taken_kind version logged old new answer (OffersTimed old logged began ended answer new) (λ taken. offers_timed_kind old logged began ended answer new taken) is
strict_kind version old new (Round budget depth workers search) answer is = strict_round_kind old new search budget depth workers answer is
strict_kind version old new command answer is = subst HasKindOfOrder (sym is.0) tt

opens_kind : (sessions limit : ℕ) (opening : Opening) (answer : Reply) (begun : Option Stage) → Opens sessions limit opening answer begun → HasKindOfOrder answer
opens_kind sessions limit opening told.Done begun is = tt
opens_kind sessions limit opening (told.No refusal) begun is = tt
opens_kind sessions limit opening answer begun is = absurd is

opens_strict_kind : (sessions limit : ℕ) (version : Version) (answer : Reply) (begun : Option Stage) → OpensStrict sessions limit version answer begun → HasKindOfOrder answer
opens_strict_kind sessions limit version told.Done begun is = tt
opens_strict_kind sessions limit version (told.No refusal) begun is = tt
opens_strict_kind sessions limit version answer begun is = absurd is

resumes_kind : (sessions limit : ℕ) (opening : Opening) (answer : Reply) (begun : Option Stage) → Resumes sessions limit opening answer begun → HasKindOfOrder answer
resumes_kind sessions limit opening told.Done begun is = tt
resumes_kind sessions limit opening (told.No refusal) begun is = tt
resumes_kind sessions limit opening answer begun is = absurd is

first_kind : (command : Command) (answer : Reply) (begun : Option Stage) → AnswersFirst command answer begun → HasKindOfOrder answer
first_kind (Start sessions limit (Resumable opening)) answer begun is = opens_kind sessions limit opening answer begun is
first_kind (Start sessions limit (Strict version)) answer begun is = opens_strict_kind sessions limit version answer begun is
first_kind (Resume sessions limit opening) answer begun is = resumes_kind sessions limit opening answer begun is
first_kind command answer begun is = subst HasKindOfOrder (sym is.0) tt

anew_kind : (old : Stage) (command : Command) (answer : Reply) (new : Stage) → BeginsAnew old command answer new → HasKindOfOrder answer
anew_kind old command answer new is = first_kind command answer is.0 is.1

marks_kind : (sessions limit : ℕ) (opening : Opening) (marks : List ℕ) (closed : List Bool) (answer : Reply) (new : Stage) → HandsMarks sessions limit opening marks closed answer new → HasKindOfOrder answer
marks_kind sessions limit opening marks closed told.Done new is = tt
marks_kind sessions limit opening marks closed (told.No refusal) new is = tt
marks_kind sessions limit opening marks closed answer new is = absurd is

takes_marks_kind : (sessions limit : ℕ) (opening : Opening) (command : Command) (answer : Reply) (new : Stage) → TakesMarks sessions limit opening command answer new → HasKindOfOrder answer
takes_marks_kind sessions limit opening (Marks marks closed) answer new is = marks_kind sessions limit opening marks closed answer new is
takes_marks_kind sessions limit opening command answer new is = anew_kind (stage.Resuming sessions limit opening) command answer new is

takes_halves_kind : (sessions limit : ℕ) (version : Version) (command : Command) (answer : Reply) (new : Stage) → TakesHalves sessions limit version command answer new → HasKindOfOrder answer
takes_halves_kind sessions limit version (MarksBegun marks closed begun) answer new is =
    ⊎_elim (λ bad. subst HasKindOfOrder (sym bad.1) tt) (λ good. marks_kind sessions limit (Isolated version) (half_marks marks begun) closed answer new good.1) is
takes_halves_kind sessions limit version command answer new is = anew_kind (stage.Resuming sessions limit (Isolated version)) command answer new is

resuming_kind : (sessions limit : ℕ) (opening : Opening) (command : Command) (answer : Reply) (new : Stage) → AnswersResuming sessions limit opening command answer new → HasKindOfOrder answer
resuming_kind sessions limit (Ordered version) command answer new is = takes_marks_kind sessions limit (Ordered version) command answer new is
resuming_kind sessions limit (Isolated version) command answer new is = takes_halves_kind sessions limit version command answer new is

writers_kind : (handed : Handing) (opening : Opening) (more : List (ℕ × TxnId)) (answer : Reply) (new : Stage) → HandsWriters handed opening more answer new → HasKindOfOrder answer
writers_kind handed opening more told.Done new is = tt
writers_kind handed opening more (told.No refusal) new is = tt
writers_kind handed opening more answer new is = absurd is

offer_kind : (handed : Handing) (opening : Opening) (fragment : Fragment) (answer : Reply) (new : Stage) → HandsOffer handed opening fragment answer new → HasKindOfOrder answer
offer_kind handed opening fragment told.Done new is = tt
offer_kind handed opening fragment (told.No refusal) new is = tt
offer_kind handed opening fragment answer new is = absurd is

end_kind : (handed : Handing) (opening : Opening) (answer : Reply) (new : Stage) → EndsHandOver handed opening answer new → HasKindOfOrder answer
end_kind handed opening told.Done new is = tt
end_kind handed opening (told.No refusal) new is = tt
end_kind handed opening answer new is = absurd is

takes_over_kind : (handed : Handing) (opening : Opening) (command : Command) (answer : Reply) (new : Stage) → TakesOver handed opening command answer new → HasKindOfOrder answer
takes_over_kind handed opening (Last more) answer new is = writers_kind handed opening more answer new is
takes_over_kind handed opening (Offer logged) answer new is = taken_kind One logged (stage.Handing handed opening) new answer (HandsOffer handed opening logged.fragment answer new) (λ taken. offer_kind handed opening logged.fragment answer new taken) is
takes_over_kind handed opening Resumed answer new is = end_kind handed opening answer new is
takes_over_kind handed opening command answer new is = anew_kind (stage.Handing handed opening) command answer new is

handing_kind : (handed : Handing) (opening : Opening) (command : Command) (answer : Reply) (new : Stage) → AnswersHanding handed opening command answer new → HasKindOfOrder answer
handing_kind handed (Ordered version) command answer new is = takes_over_kind handed (Ordered version) command answer new is
handing_kind handed (Isolated version) command answer new is =
    ⊎_elim (λ bad. subst HasKindOfOrder (sym bad.1) tt) (λ good. takes_over_kind handed (Isolated version) (half_command handed.parts command) answer new good.1) is

pub answer_kind : (old : Stage) (command : Command) (answer : Reply) (new : Stage) → Answers old command answer new → HasKindOfOrder answer
answer_kind stage.Nothing command answer new is = anew_kind stage.Nothing command answer new is
answer_kind (stage.Resuming sessions limit opening) command answer new is = resuming_kind sessions limit opening command answer new is
answer_kind (stage.Handing handed opening) command answer new is = handing_kind handed opening command answer new is
answer_kind (stage.Open old (Ordered version)) command answer new is = beside_kind version old is.0 command answer is.1
answer_kind (stage.Open old (Isolated version)) command answer new is = isolates_kind version old is.0 command answer is.1
answer_kind (stage.Strict old version) command answer new is = strict_kind version old is.0 command answer is.1
