-- Whatever a script is asked, its bounds stay.
use Rattle.std.proofs.Common.{◌≡◌, ℕ, ◌*◌, Bool, List, [], true, false, Option, Some, None, refl, sym, ap, subst, ◌∙◌, ⊎_elim}
use Rattle.std.specs.FinMap.{FinMap}
use Rattle.std.specs.Ordering.{nat_cmp}
use Rattle.std.specs.Prelude.{MatchOption, IfSome, ◌⊎◌, cond}
use Rattle.txn.specs.declared.transactions.TxnId.{TxnId}
use Rattle.txn.specs.declared.transactions.Fragment.{Fragment}
use Rattle.txn.specs.declared.refusals.Refusal.TheVariants.{RoundOpen, NoRound, NoMemory}
use Rattle.order_check.specs.declared.remainder.Parts.{Parts}
use Rattle.order_check.specs.Settled.{IsCutOf}
use Rattle.order_check.specs.StandsFor.{Joins, Returns, parts_after}
use Rattle.logged_fragments.specs.declared.logged.LoggedFragment.{LoggedFragment}
use Rattle.logged_fragments.specs.Effects.{effects}
use Rattle.log_text.specs.declared.commands.Command.{Command}
use Rattle.log_text.specs.declared.commands.Command.TheVariants.{Start, Offer, OfferTimed, Join, Close, Begin, Finish, Round, BeginSearch, Collect, Skip, Truncate, Rebuild, Show, Resume, Marks, MarksBegun, Last, Resumed, Save, Answer}
use Rattle.log_text.specs.declared.commands.Effort.{Effort}
use Rattle.log_text.specs.declared.replies.Reply.{Reply}
use Rattle.log_text.specs.declared.replies.Reply.TheVariants as told
use Rattle.log_text.specs.declared.searches.Search.{Search}
use Rattle.log_text.specs.declared.versions.Opening.{Opening}
use Rattle.log_text.specs.declared.versions.Opening.TheVariants.{Ordered, Isolated}
use Rattle.log_text.specs.declared.versions.Version.{Version}
use Rattle.log_text.specs.declared.versions.Promise.TheVariants.{Resumable, Strict}
use Rattle.log_text.specs.Versions.{most_sessions, version_of}
use Rattle.round_state.specs.EngineState.{EngineState, engine_over}
use Rattle.round_state.specs.Steps.{StepsTo}
use Rattle.round_state.specs.declared.steps.Step.{Step}
use Rattle.round_state.specs.declared.steps.Step.TheVariants as step
use Rattle.round_state.specs.declared.steps.StepReply.{StepReply}
use Rattle.round_state.specs.declared.steps.StepReply.TheVariants as reply
use Rattle.isolation_scripts.specs.Handed.{half_command, half_marks}
use Rattle.isolation_scripts.specs.Splitting.{split_command}
use Rattle.cobra.specs.Audits.{AuditState}
use Rattle.cobra.specs.HandOver.{handed_parts}
use Rattle.cobra.specs.Limits.{BoundsStay, HasBoundsFor, IsRoomFor, KeepsBounds}
use Rattle.cobra.specs.Scripts.{AnswersBeside, AnswersFirst, AnswersHanding, AnswersIn, AnswersIsolated, AnswersOpen, AnswersResuming, AnswersStrict, BeginsAnew, EndsHandOver, EndsRound, Goes, GoesOn, HandsMarks, HandsOffer, HandsWriters, IsCollected, IsRound, IsStep, IsTakenIn, MayRemain, Opens, OpensStrict, Resumes, TakesHalves, TakesMarks, TakesOver, stage_after}
use Rattle.cobra.specs.Strict.{OffersStrictly, OffersTimed, spans_of}
use Rattle.strict_histories.specs.declared.timed.Span.{Span}
use Rattle.strict_offers.specs.Offers.{OfferedState}
use Rattle.cobra.specs.declared.handing.Handing.{Handing}
use Rattle.cobra.specs.declared.stages.Stage.{Stage}
use Rattle.cobra.specs.declared.stages.Stage.TheVariants as stage

-- ---- steps

-- how many sessions there may be, and how many transactions may be let remain
abbrev bounds_in : Parts → ℕ × ℕ
bounds_in parts = (parts.most_sessions, parts.limit)

abbrev bounds_of : EngineState → ℕ × ℕ
bounds_of engine = bounds_in engine.parts

arrived : (parts : Parts) (fragment : Fragment) (test : Bool) → bounds_in (parts_after parts (cond test (Joins fragment) (Returns fragment))) ≡ bounds_in parts
arrived parts fragment true = refl
arrived parts fragment false = refl

-- a cut leaves both
cut_off : (old new : Parts) (gone : List TxnId) (last : FinMap nat_cmp TxnId) → IsCutOf old new gone last → bounds_in new ≡ bounds_in old
cut_off old new gone last is = ap (λ (n : ℕ). (n, new.limit)) is.most_sessions ∙ ap (λ (n : ℕ). (old.most_sessions, n)) is.limit

stepped : (old new : EngineState) (asked : Step) (said : StepReply) → StepsTo old asked said new → bounds_of new ≡ bounds_of old
stepped old new (step.Offer logged) reply.Done is = ap bounds_of is.2
stepped old new (step.Join logged) reply.Done is = ap bounds_of is.3 ∙ arrived old.parts (effects logged) _
stepped old new (step.Close session) reply.Done is = ap bounds_of is.1
stepped old new step.Begin reply.Done is = ap bounds_of is.1
stepped old new step.Abandon reply.Done is = ap bounds_of is.1
stepped old new step.Rebuild reply.Done is = ap bounds_of is.1
stepped old new step.Truncate (reply.Cut cut) is = cut_off old.parts new.parts cut.gone cut.last is.parts
stepped old new (step.Finish budget depth workers) (reply.Report report) is = ap bounds_in is.1.parts
stepped old new (step.Judge claim) (reply.Report report) is = ap bounds_in is.1.parts
stepped old new (step.Offer logged) (reply.Refused refusal) is = ap bounds_of is.1
stepped old new (step.Join logged) (reply.Refused refusal) is = ap bounds_of is.1
stepped old new (step.Close session) (reply.Refused refusal) is = ap bounds_of is.1
stepped old new step.Begin (reply.Refused refusal) is = ap bounds_of is.1
stepped old new (step.Finish budget depth workers) (reply.Refused refusal) is = ap bounds_of is.1
stepped old new (step.Judge claim) (reply.Refused refusal) is = ap bounds_of is.1
stepped old new step.Abandon (reply.Refused refusal) is = ap bounds_of is.1
stepped old new step.Truncate (reply.Refused refusal) is = ap bounds_of is.1
stepped old new step.Rebuild (reply.Refused refusal) is = ap bounds_of is.1
stepped old new asked said is = absurd is

gone_on : (old new : EngineState) (asked : Step) (said : StepReply) → Goes old asked said new → bounds_of new ≡ bounds_of old
gone_on old new asked said goes = stepped old new asked said goes.right

taken : (version : Version) (logged : LoggedFragment) (old new : EngineState) (answer : Reply) (asked : Step) → IsTakenIn version logged old answer new (IsStep old asked answer new) → bounds_of new ≡ bounds_of old
taken version logged old new answer asked is = ⊎_elim (λ one. gone_on old new asked one.1.0 one.1.1) (λ bad. ap bounds_of bad.1.1) is

ended : (begun new : EngineState) (search : Search) (budget depth workers : ℕ) (said : StepReply) → EndsRound begun search budget depth workers said new → bounds_of new ≡ bounds_of begun
ended begun new search budget depth workers (reply.Report report) ends = gone_on begun new (step.Finish budget depth workers) (reply.Report report) ends.goes
ended begun new search budget depth workers (reply.Refused NoMemory) ends =
    gone_on ends.0 new step.Abandon reply.Done ends.2 ∙ gone_on begun ends.0 (step.Finish budget depth workers) (reply.Refused NoMemory) ends.1
ended begun new search budget depth workers said ends = absurd ends

rounded : (old new : EngineState) (search : Search) (budget depth workers : ℕ) (said : StepReply) → IsRound old search budget depth workers said new → bounds_of new ≡ bounds_of old
rounded old new search budget depth workers said round =
    ⊎_elim (λ refused. gone_on old new step.Begin said refused.2)
    (λ begun. ended begun.0 new search budget depth workers said begun.2 ∙ gone_on old begun.0 step.Begin reply.Done begun.1) round

-- ---- commands of an open script

open_stays : (version : Version) (old new : EngineState) (command : Command) (answer : Reply) → AnswersOpen version old command answer new → bounds_of new ≡ bounds_of old
open_stays version old new (Offer logged) answer is = taken version logged old new answer (step.Offer logged) is
open_stays version old new (Join logged) answer is = taken version logged old new answer (step.Join logged) is
open_stays version old new (Close session) answer is = gone_on old new (step.Close session) is.0 is.1
open_stays version old new Begin answer is = gone_on old new step.Begin is.0 is.1
open_stays version old new (Finish budget depth workers search) answer is = gone_on old new (step.Finish budget depth workers) is.0 is.1.goes
open_stays version old new (Round budget depth workers search) answer is = rounded old new search budget depth workers is.0 is.1
open_stays version old new (Answer shown) answer is = gone_on old new _ is.0 is.1
open_stays version old new Truncate answer is = gone_on old new step.Truncate is.0 is.1
open_stays version old new Rebuild answer is = gone_on old new step.Rebuild is.0 is.1
open_stays version old new command answer is = ap bounds_of is.1

quiet : (old new : AuditState) → new ≡ old → bounds_of new.engine ≡ bounds_of old.engine
quiet old new is = ap (λ (audit : AuditState). bounds_of audit.engine) is

search_begun : (asked : Option Parts) (search : Option Effort) (old new : AuditState) (given : Effort) (answer : Reply)
    → MatchOption asked ((answer ≡ told.No NoRound) × (new ≡ old)) (λ parts. MatchOption search ((answer ≡ told.Done) × (new ≡ record old { search = Some given })) (λ one. (answer ≡ told.No RoundOpen) × (new ≡ old)))
    → bounds_of new.engine ≡ bounds_of old.engine
search_begun None search old new given answer is = quiet old new is.1
search_begun (Some parts) None old new given answer is = ap (λ (audit : AuditState). bounds_of audit.engine) is.1
search_begun (Some parts) (Some one) old new given answer is = quiet old new is.1

collected : (search : Option Effort) (old new : AuditState) (waits : Bool) (answer : Reply)
    → MatchOption search ((answer ≡ told.No NoRound) × (new ≡ old)) (λ effort. GoesOn waits old answer new ⊎ IsCollected old effort answer new)
    → bounds_of new.engine ≡ bounds_of old.engine
collected None old new waits answer is = quiet old new is.1
collected (Some effort) old new waits answer is =
    ⊎_elim (λ goes. quiet old new goes.2) (λ got. gone_on old.engine new.engine (step.Finish effort.budget effort.depth effort.workers) got.0 got.1.goes) is

finished : (version : Version) (search : Option Effort) (old new : AuditState) (budget depth workers : ℕ) (kind : Search) (answer : Reply)
    → MatchOption search (AnswersOpen version old.engine (Finish budget depth workers kind) answer new.engine × (new.search ≡ None)) (λ effort. (answer ≡ told.No RoundOpen) × (new ≡ old))
    → bounds_of new.engine ≡ bounds_of old.engine
finished version None old new budget depth workers kind answer is = open_stays version old.engine new.engine (Finish budget depth workers kind) answer is.0
finished version (Some effort) old new budget depth workers kind answer is = quiet old new is.1

beside_stays : (version : Version) (old new : AuditState) (command : Command) (answer : Reply) → AnswersBeside version old command answer new → bounds_of new.engine ≡ bounds_of old.engine
beside_stays version old new (BeginSearch budget depth workers search) answer is =
    search_begun old.engine.asked old.search old new (record { budget = budget; depth = depth; workers = workers; search = search }) answer is
beside_stays version old new (Collect waits) answer is = collected old.search old new waits answer is
beside_stays version old new Skip answer is = gone_on old.engine new.engine step.Abandon is.0.0 is.0.1
beside_stays version old new (Finish budget depth workers search) answer is = finished version old.search old new budget depth workers search answer is
beside_stays version old new command answer is = open_stays version old.engine new.engine command answer is.0

isolated_stays : (version : Version) (old new : AuditState) (command : Command) (answer : Reply) → AnswersIsolated version old command answer new → bounds_of new.engine ≡ bounds_of old.engine
isolated_stays version old new command answer is = ⊎_elim (λ fault. quiet old new fault.3) (λ asked. beside_stays version old new (split_command command) asked.1 asked.2) is

stays_in : (opening : Opening) (old new : AuditState) (command : Command) (answer : Reply) → AnswersIn opening old command answer new → bounds_of new.engine ≡ bounds_of old.engine
stays_in (Ordered version) old new command answer is = beside_stays version old new command answer is
stays_in (Isolated version) old new command answer is = isolated_stays version old new command answer is

-- ---- how a script begins

abbrev Has : Option Stage → Type 0
Has begun = IfSome begun KeepsBounds

opens : (sessions limit : ℕ) (opening : Opening) (answer : Reply) (begun : Option Stage) → Opens sessions limit opening answer begun → Has begun
opens sessions limit opening told.Done begun is = subst Has (sym is.1) (refl, (limit, is.0.1, refl))
opens sessions limit opening (told.No refusal) begun is = subst Has (sym is.1) tt
opens sessions limit opening answer begun is = absurd is

opens_strict : (sessions limit : ℕ) (version : Version) (answer : Reply) (begun : Option Stage) → OpensStrict sessions limit version answer begun → Has begun
opens_strict sessions limit version told.Done begun is = subst Has (sym is.1) (refl, is.0.1)
opens_strict sessions limit version (told.No refusal) begun is = subst Has (sym is.1) tt
opens_strict sessions limit version answer begun is = absurd is

resumes : (sessions limit : ℕ) (opening : Opening) (answer : Reply) (begun : Option Stage) → Resumes sessions limit opening answer begun → Has begun
resumes sessions limit opening told.Done begun is = subst Has (sym is.1) (limit, is.0.1, refl)
resumes sessions limit opening (told.No refusal) begun is = subst Has (sym is.1) tt
resumes sessions limit opening answer begun is = absurd is

first_has : (command : Command) (answer : Reply) (begun : Option Stage) → AnswersFirst command answer begun → Has begun
first_has (Start sessions limit (Resumable opening)) answer begun is = opens sessions limit opening answer begun is
first_has (Start sessions limit (Strict version)) answer begun is = opens_strict sessions limit version answer begun is
first_has (Resume sessions limit opening) answer begun is = resumes sessions limit opening answer begun is
first_has command answer begun is = subst Has (sym is.1) tt

after_has : (old : Stage) (begun : Option Stage) → Has begun → KeepsBounds old → KeepsBounds (stage_after old begun)
after_has old None has was = was
after_has old (Some begun) has was = has

anew : (old new : Stage) (command : Command) (answer : Reply) → BeginsAnew old command answer new → KeepsBounds old → KeepsBounds new
anew old new command answer is has = subst KeepsBounds (sym is.2) (after_has old is.0 (first_has command answer is.0 is.1) has)

-- ---- hand-overs

hands_marks : (sessions limit : ℕ) (opening : Opening) (marks : List ℕ) (closed : List Bool) (answer : Reply) (new : Stage) → HandsMarks sessions limit opening marks closed answer new → IsRoomFor opening limit → KeepsBounds new
hands_marks sessions limit opening marks closed told.Done new is has = subst KeepsBounds (sym is.1) (refl, has)
hands_marks sessions limit opening marks closed (told.No refusal) new is has = subst KeepsBounds (sym is.1) has
hands_marks sessions limit opening marks closed answer new is has = absurd is

takes_marks : (sessions limit : ℕ) (opening : Opening) (command : Command) (answer : Reply) (new : Stage) → TakesMarks sessions limit opening command answer new → IsRoomFor opening limit → KeepsBounds new
takes_marks sessions limit opening (Marks marks closed) answer new is has = hands_marks sessions limit opening marks closed answer new is has
takes_marks sessions limit opening command answer new is has = anew (stage.Resuming sessions limit opening) new command answer is has

takes_halves : (sessions limit : ℕ) (version : Version) (command : Command) (answer : Reply) (new : Stage) → TakesHalves sessions limit version command answer new → IsRoomFor (Isolated version) limit → KeepsBounds new
takes_halves sessions limit version (MarksBegun marks closed begun) answer new is has =
    ⊎_elim (λ bad. subst KeepsBounds (sym bad.2) has) (λ halves. hands_marks sessions limit (Isolated version) (half_marks marks begun) closed answer new halves.1 has) is
takes_halves sessions limit version command answer new is has = anew (stage.Resuming sessions limit (Isolated version)) new command answer is has

resuming : (sessions limit : ℕ) (opening : Opening) (command : Command) (answer : Reply) (new : Stage) → AnswersResuming sessions limit opening command answer new → IsRoomFor opening limit → KeepsBounds new
resuming sessions limit (Ordered version) command answer new is has = takes_marks sessions limit (Ordered version) command answer new is has
resuming sessions limit (Isolated version) command answer new is has = takes_halves sessions limit version command answer new is has

hands_writers : (handed : Handing) (opening : Opening) (more : List (ℕ × TxnId)) (answer : Reply) (new : Stage) → HandsWriters handed opening more answer new → HasBoundsFor opening handed.parts → KeepsBounds new
hands_writers handed opening more told.Done new is has = subst KeepsBounds (sym is) has
hands_writers handed opening more (told.No NoMemory) new is has = subst KeepsBounds (sym is) has
hands_writers handed opening more answer new is has = absurd is

hands_offer : (handed : Handing) (opening : Opening) (fragment : Fragment) (answer : Reply) (new : Stage) → HandsOffer handed opening fragment answer new → HasBoundsFor opening handed.parts → KeepsBounds new
hands_offer handed opening fragment told.Done new is has = subst KeepsBounds (sym is.1) has
hands_offer handed opening fragment (told.No refusal) new is has = subst KeepsBounds (sym is.1) has
hands_offer handed opening fragment answer new is has = absurd is

ends : (handed : Handing) (opening : Opening) (answer : Reply) (new : Stage) → EndsHandOver handed opening answer new → HasBoundsFor opening handed.parts → KeepsBounds new
ends handed opening told.Done new is has = subst KeepsBounds (sym is.1) has
ends handed opening (told.No refusal) new is has = subst KeepsBounds (sym is.1) has
ends handed opening answer new is has = absurd is

takes_over : (handed : Handing) (opening : Opening) (command : Command) (answer : Reply) (new : Stage) → TakesOver handed opening command answer new → HasBoundsFor opening handed.parts → KeepsBounds new
takes_over handed opening (Last more) answer new is has = hands_writers handed opening more answer new is has
takes_over handed opening (Offer logged) answer new is has =
    ⊎_elim (λ one. hands_offer handed opening logged.fragment answer new one.1 has) (λ bad. subst KeepsBounds (sym bad.1.1) has) is
takes_over handed opening Resumed answer new is has = ends handed opening answer new is has
takes_over handed opening command answer new is has = anew (stage.Handing handed opening) new command answer is has

handing : (handed : Handing) (opening : Opening) (command : Command) (answer : Reply) (new : Stage) → AnswersHanding handed opening command answer new → HasBoundsFor opening handed.parts → KeepsBounds new
handing handed (Ordered version) command answer new is has = takes_over handed (Ordered version) command answer new is has
handing handed (Isolated version) command answer new is has =
    ⊎_elim (λ bad. subst KeepsBounds (sym bad.2) has) (λ half. takes_over handed (Isolated version) (half_command handed.parts command) answer new half.1 has) is

-- ---- what is offered with its times

abbrev offer_bounds : OfferedState → ℕ × ℕ
offer_bounds state = (state.most_sessions, state.limit)

offers_stay : (old : OfferedState) (logged : LoggedFragment) (spans : List Span) (answer : Reply) (new : OfferedState) → OffersStrictly old logged spans answer new → offer_bounds new ≡ offer_bounds old
offers_stay old logged spans told.Done new is = ap offer_bounds is.1
offers_stay old logged spans (told.No refusal) new is = ap offer_bounds is.1
offers_stay old logged spans answer new is = absurd is

strict_stays : (version : Version) (old new : OfferedState) (command : Command) (answer : Reply) → AnswersStrict version old command answer new → offer_bounds new ≡ offer_bounds old
strict_stays version old new (Offer logged) answer is = ⊎_elim (λ one. offers_stay old logged [] answer new one.1) (λ bad. ap offer_bounds bad.1.1) is
strict_stays version old new (OfferTimed logged began ended) answer is =
    ⊎_elim (λ one. ⊎_elim (λ has. offers_stay old logged (spans_of began ended) answer new has.1) (λ bad. ap offer_bounds bad.2) one.1) (λ bad. ap offer_bounds bad.1.1) is
strict_stays version old new (Round budget depth workers search) answer is = ⊎_elim (λ refused. ap offer_bounds refused.3) (λ made. ap offer_bounds made.5) is
strict_stays version old new command answer is = ap offer_bounds is.1

-- ---- any command

-- these are the bounds of what is opened for this
abbrev AreFor : Opening → ℕ × ℕ → Type 0
AreFor opening bounds = (bounds.0 ≡ most_sessions (version_of opening)) × IsRoomFor opening bounds.1

pub bounds_stay : BoundsStay
bounds_stay stage.Nothing new command answer is has = anew stage.Nothing new command answer is has
bounds_stay (stage.Resuming sessions limit opening) new command answer is has = resuming sessions limit opening command answer new is has
bounds_stay (stage.Handing handed opening) new command answer is has = handing handed opening command answer new is has
bounds_stay (stage.Open old opening) new command answer is has =
    subst KeepsBounds (sym is.2) (subst (λ (bounds : ℕ × ℕ). AreFor opening bounds) (sym (stays_in opening old is.0 command answer is.1)) has)
bounds_stay (stage.Strict old version) new command answer is has =
    subst KeepsBounds (sym is.2) (subst (λ (bounds : ℕ × ℕ). (bounds.0 ≡ most_sessions version) × MayRemain (Ordered version) bounds.1) (sym (strict_stays version old is.0 command answer is.1)) has)
