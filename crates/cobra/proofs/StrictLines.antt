-- Where a script that is asked for strict serializability begins, and that no other one is asked for it.
use Rattle.std.proofs.Common.{◌≡◌, ℕ, Bool, List, [], length, Option, Some, None, refl, sym, ap, ◌∙◌, subst, ⊎_elim}
use Rattle.std.specs.Prelude.{⊤, ◌⊎◌, replicate}
use Rattle.txn.specs.declared.refusals.Refusal.{Refusal}
use Rattle.txn.specs.declared.refusals.Refusal.TheVariants.{BadLine, BadParts, NoMemory}
use Rattle.txn.specs.declared.transactions.TxnId.{TxnId}
use Rattle.txn.specs.declared.transactions.Fragment.{Fragment}
use Rattle.log_text.specs.declared.commands.Command.{Command}
use Rattle.log_text.specs.declared.commands.Command.TheVariants.{Start, Offer, Resume, Marks, MarksBegun, Last, Resumed}
use Rattle.log_text.specs.declared.replies.Reply.{Reply}
use Rattle.log_text.specs.declared.replies.Reply.TheVariants as told
use Rattle.log_text.specs.declared.versions.Version.{Version}
use Rattle.log_text.specs.declared.versions.Opening.{Opening}
use Rattle.log_text.specs.declared.versions.Opening.TheVariants.{Ordered, Isolated}
use Rattle.log_text.specs.declared.versions.Promise.TheVariants.{Resumable, Strict}
use Rattle.log_text.specs.Versions.{most_sessions}
use Rattle.isolation_scripts.specs.Handed.{CanBeHanded, half_command, half_marks}
use Rattle.isolation_scripts.specs.Isolated.{isolated_of}
use Rattle.strict_histories.specs.Strict.{TimedHistory}
use Rattle.strict_offers.specs.Laws.{OffersStayGood}
use Rattle.strict_offers.specs.Offers.{OfferedState, AreGoodOffers, nothing_offered}
use Rattle.cobra.specs.Audits.{AuditState}
use Rattle.cobra.specs.Scripts.{Answers, AnswersBeside, AnswersFirst, AnswersHanding, AnswersIn, AnswersIsolated, AnswersResuming, BeginsAnew, HandsMarks, HandsOffer, TakesHalves, TakesMarks, TakesOver, stage_after}
use Rattle.cobra.specs.StrictReports.{timed_after}
use Rattle.cobra.specs.declared.handing.Handing.{Handing}
use Rattle.cobra.specs.declared.stages.Stage.{Stage}
use Rattle.cobra.specs.declared.stages.Stage.TheVariants as stage
use Rattle.cobra.proofs.Openings.{version_bounds}

-- What is kept where one is asked for strict serializability is what was offered, within its bounds; else nothing was.
abbrev pub FitsStrictly : Stage → Option TimedHistory → Type 0
FitsStrictly (stage.Strict offered version) (Some timed) = (timed ≡ offered.timed) × AreGoodOffers offered
FitsStrictly (stage.Strict offered version) None = ⊥
FitsStrictly other None = ⊤
FitsStrictly other (Some timed) = ⊥

-- no script is opened for it by this command and this reply
abbrev OpensNone : Command → Reply → Type 0
OpensNone command answer = timed_after None command answer ≡ None

none_opened : (s : Stage) (command : Command) (answer : Reply) → FitsStrictly s None → OpensNone command answer → FitsStrictly s (timed_after None command answer)
none_opened s command answer fits none = subst (λ (o : Option TimedHistory). FitsStrictly s o) (sym none) fits

abbrev Begun : Stage → Command → Reply → Option Stage → Type 0
Begun old command answer begun = FitsStrictly (stage_after old begun) (timed_after None command answer)

along : (old : Stage) (command : Command) (answer : Reply) (begun is : Option Stage) → begun ≡ is → Begun old command answer is → Begun old command answer begun
along old command answer begun is same fits = subst (λ (o : Option Stage). Begun old command answer o) (sym same) fits

first_fits : OffersStayGood → (old : Stage) (command : Command) (answer : Reply) (begun : Option Stage) → FitsStrictly old None → AnswersFirst command answer begun → Begun old command answer begun
first_fits stay old (Start sessions limit (Strict version)) told.Done begun none first =
    along old (Start sessions limit (Strict version)) told.Done begun _ first.1 (refl, stay.opened (most_sessions version) sessions limit (version_bounds version sessions limit first.0))
first_fits stay old (Start sessions limit (Strict version)) (told.No refusal) begun none first = along old (Start sessions limit (Strict version)) (told.No refusal) begun None first.1 none
first_fits stay old (Start sessions limit (Strict version)) answer begun none first = absurd first
first_fits stay old (Start sessions limit (Resumable opening)) told.Done begun none first = along old (Start sessions limit (Resumable opening)) told.Done begun _ first.1 tt
first_fits stay old (Start sessions limit (Resumable opening)) (told.No refusal) begun none first = along old (Start sessions limit (Resumable opening)) (told.No refusal) begun None first.1 none
first_fits stay old (Start sessions limit (Resumable opening)) answer begun none first = absurd first
first_fits stay old (Resume sessions limit opening) told.Done begun none first = along old (Resume sessions limit opening) told.Done begun _ first.1 tt
first_fits stay old (Resume sessions limit opening) (told.No refusal) begun none first = along old (Resume sessions limit opening) (told.No refusal) begun None first.1 none
first_fits stay old (Resume sessions limit opening) answer begun none first = absurd first
first_fits stay old command answer begun none first = along old command answer begun None first.1 none

anew_fits : OffersStayGood → (old new : Stage) (command : Command) (answer : Reply) → FitsStrictly old None → BeginsAnew old command answer new → FitsStrictly new (timed_after None command answer)
anew_fits stay old new command answer none anew = subst (λ (s : Stage). FitsStrictly s (timed_after None command answer)) (sym anew.2) (first_fits stay old command answer anew.0 none anew.1)

-- where it goes on handing over, or an engine opens
still : (new is : Stage) → new ≡ is → FitsStrictly is None → FitsStrictly new None
still new is same fits = subst (λ (s : Stage). FitsStrictly s None) (sym same) fits

marks_fit : (sessions limit : ℕ) (opening : Opening) (marks : List ℕ) (closed : List Bool) (new : Stage) (answer : Reply) → HandsMarks sessions limit opening marks closed answer new → FitsStrictly new None
marks_fit sessions limit opening marks closed new told.Done is = still new _ is.1 tt
marks_fit sessions limit opening marks closed new (told.No refusal) is = still new _ is.1 tt
marks_fit sessions limit opening marks closed new answer is = absurd is

takes_marks_fit : OffersStayGood → (sessions limit : ℕ) (opening : Opening) (new : Stage) (command : Command) (answer : Reply) → TakesMarks sessions limit opening command answer new → FitsStrictly new (timed_after None command answer)
takes_marks_fit stay sessions limit opening new (Marks marks closed) answer is = marks_fit sessions limit opening marks closed new answer is
takes_marks_fit stay sessions limit opening new command answer is = anew_fits stay (stage.Resuming sessions limit opening) new command answer tt is

takes_halves_fit : OffersStayGood → (sessions limit : ℕ) (version : Version) (new : Stage) (command : Command) (answer : Reply) → TakesHalves sessions limit version command answer new → FitsStrictly new (timed_after None command answer)
takes_halves_fit stay sessions limit version new (MarksBegun marks closed begun) answer is =
    ⊎_elim (λ bad. still new (stage.Resuming sessions limit (Isolated version)) bad.2 tt) (λ good. marks_fit sessions limit (Isolated version) (half_marks marks begun) closed new answer good.1) is
takes_halves_fit stay sessions limit version new command answer is = anew_fits stay (stage.Resuming sessions limit (Isolated version)) new command answer tt is

resuming_fits : OffersStayGood → (sessions limit : ℕ) (opening : Opening) (new : Stage) (command : Command) (answer : Reply) → AnswersResuming sessions limit opening command answer new → FitsStrictly new (timed_after None command answer)
resuming_fits stay sessions limit (Ordered version) new command answer is = takes_marks_fit stay sessions limit (Ordered version) new command answer is
resuming_fits stay sessions limit (Isolated version) new command answer is = takes_halves_fit stay sessions limit version new command answer is

hands_fit : (handed : Handing) (opening : Opening) (fragment : Fragment) (answer : Reply) (new : Stage) → HandsOffer handed opening fragment answer new → FitsStrictly new None
hands_fit handed opening fragment told.Done new is = still new _ is.1 tt
hands_fit handed opening fragment (told.No refusal) new is = still new _ is.1 tt
hands_fit handed opening fragment answer new is = absurd is

takes_over_fit : OffersStayGood → (handed : Handing) (opening : Opening) (new : Stage) (command : Command) (answer : Reply) → TakesOver handed opening command answer new → FitsStrictly new (timed_after None command answer)
takes_over_fit stay handed opening new (Last more) told.Done is = still new _ is tt
takes_over_fit stay handed opening new (Last more) (told.No NoMemory) is = still new _ is tt
takes_over_fit stay handed opening new (Last more) answer is = absurd is
takes_over_fit stay handed opening new (Offer logged) answer is =
    ⊎_elim (λ taken. hands_fit handed opening logged.fragment answer new taken.1) (λ bad. still new (stage.Handing handed opening) bad.1.1 tt) is
takes_over_fit stay handed opening new Resumed told.Done is = still new _ is.1 tt
takes_over_fit stay handed opening new Resumed (told.No refusal) is = still new _ is.1 tt
takes_over_fit stay handed opening new Resumed answer is = absurd is
takes_over_fit stay handed opening new command answer is = anew_fits stay (stage.Handing handed opening) new command answer tt is

halves_after : (handed : Handing) (command : Command) (answer : Reply) → timed_after None (half_command handed.parts command) answer ≡ timed_after None command answer
halves_after handed (Last more) answer = refl
halves_after handed (Offer logged) answer = refl
halves_after handed command answer = refl

refused : (command : Command) (refusal : Refusal) → OpensNone command (told.No refusal)
refused (Start sessions limit (Strict version)) refusal = refl
refused command refusal = refl

handing_fits : OffersStayGood → (handed : Handing) (opening : Opening) (new : Stage) (command : Command) (answer : Reply) → AnswersHanding handed opening command answer new → FitsStrictly new (timed_after None command answer)
handing_fits stay handed (Ordered version) new command answer is = takes_over_fit stay handed (Ordered version) new command answer is
handing_fits stay handed (Isolated version) new command answer is =
    ⊎_elim
    (λ bad. none_opened new command answer (still new (stage.Handing handed (Isolated version)) bad.2 tt) (ap (timed_after None command) bad.1 ∙ refused command BadParts))
    (λ good. subst (λ (o : Option TimedHistory). FitsStrictly new o) (halves_after handed command answer) (takes_over_fit stay handed (Isolated version) new (half_command handed.parts command) answer good.1)) is

-- none begins where an engine is open
engine_opens : (old new : AuditState) (version : Version) (command : Command) (answer : Reply) → AnswersBeside version old command answer new → OpensNone command answer
engine_opens old new version (Start sessions limit (Strict begun)) answer is = ap (timed_after None (Start sessions limit (Strict begun))) is.0.0
engine_opens old new version command answer is = refl

isolated_opens : (old new : AuditState) (version : Version) (command : Command) (answer : Reply) → AnswersIsolated version old command answer new → OpensNone command answer
isolated_opens old new version (Start sessions limit (Strict begun)) answer is =
    ⊎_elim (λ fault. absurd fault.1) (λ split. ap (timed_after None (Start sessions limit (Strict begun))) (split.3 ∙ ap isolated_of split.2.0.0)) is
isolated_opens old new version command answer is = refl

opens_in : (opening : Opening) (old new : AuditState) (command : Command) (answer : Reply) → AnswersIn opening old command answer new → OpensNone command answer
opens_in (Ordered version) old new command answer is = engine_opens old new version command answer is
opens_in (Isolated version) old new command answer is = isolated_opens old new version command answer is

-- a script that isn't asked for it stays so, unless one is opened
pub other_fits : OffersStayGood → (old new : Stage) (command : Command) (answer : Reply) → Answers old command answer new → FitsStrictly old None → FitsStrictly new (timed_after None command answer)
other_fits stay (stage.Strict offered version) new command answer is fits = absurd fits
other_fits stay stage.Nothing new command answer is fits = anew_fits stay stage.Nothing new command answer tt is
other_fits stay (stage.Resuming sessions limit opening) new command answer is fits = resuming_fits stay sessions limit opening new command answer is
other_fits stay (stage.Handing handed opening) new command answer is fits = handing_fits stay handed opening new command answer is
other_fits stay (stage.Open old opening) new command answer is fits = none_opened new command answer (still new (stage.Open is.0 opening) is.2 tt) (opens_in opening old is.0 command answer is.1)
