-- Replies of scripts that are asked for strict serializability are true of what was offered with its times.
use Rattle.std.proofs.Common.{◌≡◌, ℕ, ◌+◌, ◌-◌, ◌^◌, ◌<◌, Bool, List, [], ◌∷◌, ◌++◌, length, map, Option, Some, None, refl, sym, ap, ◌∙◌, subst, inl, inr, ⊎_elim, arith}
use Rattle.std.specs.Prelude.{⊤, ◌⊎◌, replicate}
use Rattle.std.specs.List.{concat}
use Rattle.txn.specs.declared.refusals.Refusal.{Refusal}
use Rattle.txn.specs.declared.refusals.Refusal.TheVariants.{BadLine, BadParts, NoMemory}
use Rattle.txn.specs.declared.transactions.TxnId.{TxnId}
use Rattle.txn.specs.declared.transactions.Fragment.{Fragment}
use Rattle.logged_fragments.specs.declared.logged.LoggedFragment.{LoggedFragment}
use Rattle.order_check.specs.declared.remainder.Kind.{Kind}
use Rattle.order_check.specs.declared.remainder.Kind.TheVariants as kinds
use Rattle.log_text.specs.declared.commands.Command.{Command}
use Rattle.log_text.specs.declared.commands.Command.TheVariants.{Start, Offer, OfferTimed, Resume, Round, Marks, MarksBegun, Last, Resumed}
use Rattle.log_text.specs.declared.replies.Reply.{Reply}
use Rattle.log_text.specs.declared.replies.Reply.TheVariants as told
use Rattle.log_text.specs.declared.searches.Search.{Search}
use Rattle.log_text.specs.declared.versions.Version.{Version}
use Rattle.log_text.specs.declared.versions.Version.TheVariants as versions
use Rattle.log_text.specs.declared.versions.Opening.{Opening}
use Rattle.log_text.specs.declared.versions.Opening.TheVariants.{Ordered, Isolated}
use Rattle.log_text.specs.Replies.{line_of}
use Rattle.log_text.specs.Versions.{greatest_limit, most_sessions}
use Rattle.round_state.specs.EngineState.{EngineState, engine_over}
use Rattle.round_state.specs.declared.reports.Certificate.{Certificate}
use Rattle.round_state.specs.declared.reports.Certificate.TheVariants.{Order, Refuted, Nothing}
use Rattle.round_state.specs.declared.reports.Report.{Report}
use Rattle.round_state.specs.declared.steps.StepReply.TheVariants as reply
use Rattle.strict_histories.specs.declared.timed.Span.{Span}
use Rattle.strict_histories.specs.Strict.{TimedHistory, HasStrictOrder, IsStrictOrder, IsStrictVerdict}
use Rattle.strict_offers.specs.Laws.{OffersStayGood}
use Rattle.strict_offers.specs.Offers.{OfferedState, AreBounds, AreGoodOffers, nothing_offered, one_round_more, strict_parts}
use Rattle.strict_rounds.specs.Laws.{RightReportsAreStrict}
use Rattle.strict_rounds.specs.Reports.{IsStrictKind, IsStrictReport, ShowsStrictly}
use Rattle.cobra.specs.Outputs.{RepliesAll}
use Rattle.cobra.specs.Scripts.{Answers, AnswersFirst, AnswersStrict, EndsRound, IsRound, RoundsStrictly}
use Rattle.cobra.specs.Strict.{OffersStrictly, OffersTimed, spans_of}
use Rattle.cobra.specs.StepReplies.{certified}
use Rattle.cobra.specs.StrictReports.{AreStrictReplies, EachStrictReportIsTrue, IsKeptStrictly, IsStrictTold, TellsStrictly, timed_after}
use Rattle.cobra.specs.declared.stages.Stage.{Stage}
use Rattle.cobra.specs.declared.stages.Stage.TheVariants as stage
use Rattle.cobra.proofs.StrictLines.{FitsStrictly, other_fits}
use Rattle.cobra.proofs.TrueReports.{replies_in, texts_of}

-- ---- reports

-- a report of whatever number
certified_strictly : (state : OfferedState) (budget depth round : ℕ) (counts : List ℕ) (kind : Kind) (certificate : Certificate) → counts ≡ map length state.timed → IsStrictKind state.timed kind → ShowsStrictly state budget depth kind certificate
    → TellsStrictly state.timed (certified (record { round = round; kind = kind; counts = counts; certificate = certificate }) certificate)
certified_strictly state budget depth round counts kinds.Serial (Order order) counted is shows = (counted, is, shows)
certified_strictly state budget depth round counts kinds.Pending (Order order) counted is shows = (counted, is, shows)
certified_strictly state budget depth round counts kinds.Violated (Order order) counted is shows = absurd shows
certified_strictly state budget depth round counts kinds.Spent (Order order) counted is shows = absurd shows
certified_strictly state budget depth round counts kinds.Violated (Refuted tree) counted is shows = (counted, is)
certified_strictly state budget depth round counts kinds.Serial (Refuted tree) counted is shows = absurd shows
certified_strictly state budget depth round counts kinds.Pending (Refuted tree) counted is shows = absurd shows
certified_strictly state budget depth round counts kinds.Spent (Refuted tree) counted is shows = absurd shows
certified_strictly state budget depth round counts kind Nothing counted is shows = counted

-- the report of a round over what was offered
round_is_strict : RightReportsAreStrict → (state : OfferedState) (search : Search) (budget depth workers : ℕ) (report : Report) (after : EngineState) → AreGoodOffers state → IsRound (engine_over (strict_parts state)) search budget depth workers (reply.Report report) after → (number : ℕ) × IsStrictReport state number budget depth report
round_is_strict law state kind budget depth workers report after good round =
    ⊎_elim
    (λ refused. absurd (let no : reply.Report report ≡ reply.Refused refused.0 = refused.1 in cc))
    (λ begun.
    let asked = ap (λ (engine : EngineState). engine.asked) begun.1.right.1 in
    (begun.0.rounds + 1, law state begun.0 after budget depth workers report good asked begun.2.goes.right))
    round

round_tells : RightReportsAreStrict → (old new : OfferedState) (search : Search) (budget depth workers : ℕ) (answer : Reply) → AreGoodOffers old → RoundsStrictly old search budget depth workers answer new → TellsStrictly old.timed answer
round_tells law old new search budget depth workers answer good is =
    ⊎_elim (λ refused. subst (TellsStrictly old.timed) (sym refused.2) tt)
    (λ made.
    let of = round_is_strict law old search budget depth workers made.0 made.1 good made.2 in
    subst (TellsStrictly old.timed) (sym made.4) (certified_strictly old budget depth (old.rounds + 1) made.0.counts made.0.kind made.0.certificate of.1.counts of.1.kind of.1.shown))
    is

-- ---- commands

-- what is offered after a reply, where it keeps its bounds
record GoesOnStrictly (old new : OfferedState) (command : Command) (answer : Reply) : Type 0 where
  is_true : TellsStrictly old.timed answer
  good : AreGoodOffers new
  timed : timed_after (Some old.timed) command answer ≡ Some new.timed

stays : (old new : OfferedState) (command : Command) (answer : Reply) (refusal : Refusal) → answer ≡ told.No refusal → new ≡ old → AreGoodOffers old → timed_after (Some old.timed) command (told.No refusal) ≡ Some old.timed → GoesOnStrictly old new command answer
stays old new command answer refusal is same good after =
    subst (λ (a : Reply). GoesOnStrictly old new command a) (sym is)
    (subst (λ (state : OfferedState). GoesOnStrictly old state command (told.No refusal)) (sym same) (record { is_true = tt; good = good; timed = after }))

offers_on : OffersStayGood → (old new : OfferedState) (logged : LoggedFragment) (answer : Reply) → OffersStrictly old logged [] answer new → AreGoodOffers old → GoesOnStrictly old new (Offer logged) answer
offers_on stay old new logged told.Done is good = record {
  is_true = tt;
  good = subst AreGoodOffers (sym is.1) (stay.offers old logged [] good is.0);
  timed = ap (λ (state : OfferedState). Some state.timed) (sym is.1);
}
offers_on stay old new logged (told.No refusal) is good = stays old new (Offer logged) (told.No refusal) refusal refl is.1 good refl
offers_on stay old new logged answer is good = absurd is

timed_on : OffersStayGood → (old new : OfferedState) (logged : LoggedFragment) (began ended : List ℕ) (answer : Reply) → OffersStrictly old logged (spans_of began ended) answer new → AreGoodOffers old → GoesOnStrictly old new (OfferTimed logged began ended) answer
timed_on stay old new logged began ended told.Done is good = record {
  is_true = tt;
  good = subst AreGoodOffers (sym is.1) (stay.offers old logged (spans_of began ended) good is.0);
  timed = ap (λ (state : OfferedState). Some state.timed) (sym is.1);
}
timed_on stay old new logged began ended (told.No refusal) is good = stays old new (OfferTimed logged began ended) (told.No refusal) refusal refl is.1 good refl
timed_on stay old new logged began ended answer is good = absurd is

-- a report changes nothing of what was offered
certified_after : (timed : TimedHistory) (budget depth workers : ℕ) (search : Search) (report : Report) (certificate : Certificate) → timed_after (Some timed) (Round budget depth workers search) (certified report certificate) ≡ Some timed
certified_after timed budget depth workers search report (Order order) = refl
certified_after timed budget depth workers search report (Refuted tree) = refl
certified_after timed budget depth workers search report Nothing = refl

rounds_on : OffersStayGood → RightReportsAreStrict → (old new : OfferedState) (budget depth workers : ℕ) (search : Search) (answer : Reply) → RoundsStrictly old search budget depth workers answer new → AreGoodOffers old → GoesOnStrictly old new (Round budget depth workers search) answer
rounds_on stay law old new budget depth workers search answer is good = record {
  is_true = round_tells law old new search budget depth workers answer good is;
  good = ⊎_elim (λ refused. subst AreGoodOffers (sym refused.3) good) (λ made. subst AreGoodOffers (sym made.5) (stay.rounds old good made.3)) is;
  timed =
      ⊎_elim (λ refused. subst (λ (a : Reply). timed_after (Some old.timed) (Round budget depth workers search) a ≡ Some new.timed) (sym refused.2) (ap (λ (state : OfferedState). Some state.timed) (sym refused.3)))
      (λ made. subst (λ (a : Reply). timed_after (Some old.timed) (Round budget depth workers search) a ≡ Some new.timed) (sym made.4)
      (certified_after old.timed budget depth workers search (record made.0 { round = old.rounds + 1 }) made.0.certificate ∙ ap (λ (state : OfferedState). Some state.timed) (sym made.5)))
      is;
}

strict_on : OffersStayGood → RightReportsAreStrict → (version : Version) (old new : OfferedState) (command : Command) (answer : Reply) → AnswersStrict version old command answer new → AreGoodOffers old → GoesOnStrictly old new command answer
strict_on stay law version old new (Offer logged) answer is good =
    ⊎_elim (λ taken. offers_on stay old new logged answer taken.1 good) (λ bad. stays old new (Offer logged) answer BadLine bad.1.0 bad.1.1 good refl) is
strict_on stay law version old new (OfferTimed logged began ended) answer is good =
    ⊎_elim
    (λ taken. ⊎_elim (λ has. timed_on stay old new logged began ended answer has.1 good) (λ bad. stays old new (OfferTimed logged began ended) answer BadLine bad.1 bad.2 good refl) taken.1)
    (λ bad. stays old new (OfferTimed logged began ended) answer BadLine bad.1.0 bad.1.1 good refl) is
strict_on stay law version old new (Round budget depth workers search) answer is good = rounds_on stay law old new budget depth workers search answer is good
strict_on stay law version old new command answer is good = stays old new command answer BadLine is.0 is.1 good refl

-- ---- scripts

-- the reply to a command, and what was offered by then
record IsStrictOn (new : Stage) (timed : Option TimedHistory) (command : Command) (answer : Reply) : Type 0 where
  is_true : IsStrictTold timed answer
  fits : FitsStrictly new (timed_after timed command answer)

going_on : OffersStayGood → RightReportsAreStrict → (old : OfferedState) (version : Version) (new : Stage) (timed : TimedHistory) (command : Command) (answer : Reply) → Answers (stage.Strict old version) command answer new → FitsStrictly (stage.Strict old version) (Some timed) → IsStrictOn new (Some timed) command answer
going_on stay law old version new timed command answer is fits =
    let on = strict_on stay law version old is.0 command answer is.1 fits.1 in
    record {
      is_true = subst (λ (history : TimedHistory). TellsStrictly history answer) (sym fits.0) on.is_true;
      fits =
          subst (λ (s : Stage). FitsStrictly s (timed_after (Some timed) command answer)) (sym is.2)
          (subst (λ (history : TimedHistory). FitsStrictly (stage.Strict is.0 version) (timed_after (Some history) command answer)) (sym fits.0)
          (subst (λ (o : Option TimedHistory). FitsStrictly (stage.Strict is.0 version) o) (sym on.timed) (refl, on.good)));
    }

answers_strictly : OffersStayGood → RightReportsAreStrict → (old new : Stage) (timed : Option TimedHistory) (command : Command) (answer : Reply) → Answers old command answer new → FitsStrictly old timed → IsStrictOn new timed command answer
answers_strictly stay law (stage.Strict old version) new (Some timed) command answer is fits = going_on stay law old version new timed command answer is fits
answers_strictly stay law (stage.Strict old version) new None command answer is fits = absurd fits
answers_strictly stay law stage.Nothing new (Some timed) command answer is fits = absurd fits
answers_strictly stay law (stage.Resuming sessions limit opening) new (Some timed) command answer is fits = absurd fits
answers_strictly stay law (stage.Handing handed opening) new (Some timed) command answer is fits = absurd fits
answers_strictly stay law (stage.Open audit version) new (Some timed) command answer is fits = absurd fits
answers_strictly stay law old new None command answer is fits = record { is_true = tt; fits = other_fits stay old new command answer is fits }

kept_strictly : (old : Stage) (timed : Option TimedHistory) → FitsStrictly old timed → IsKeptStrictly old timed
kept_strictly (stage.Strict old version) (Some timed) fits = ap Some fits.0
kept_strictly (stage.Strict old version) None fits = absurd fits
kept_strictly stage.Nothing None fits = refl
kept_strictly (stage.Resuming sessions limit opening) None fits = refl
kept_strictly (stage.Handing handed opening) None fits = refl
kept_strictly (stage.Open audit version) None fits = refl
kept_strictly stage.Nothing (Some timed) fits = absurd fits
kept_strictly (stage.Resuming sessions limit opening) (Some timed) fits = absurd fits
kept_strictly (stage.Handing handed opening) (Some timed) fits = absurd fits
kept_strictly (stage.Open audit version) (Some timed) fits = absurd fits

all_strict : OffersStayGood → RightReportsAreStrict → (old new : Stage) (timed : Option TimedHistory) (lines texts : List (List ℕ)) (all : RepliesAll old lines texts new) → FitsStrictly old timed → AreStrictReplies old timed lines (replies_in old new lines texts all) new
all_strict stay law old new timed [] [] all fits = (all, kept_strictly old timed fits)
all_strict stay law old new timed (line ∷ lines) (text ∷ texts) all fits =
    ⊎_elim
    (λ is.
    let on = answers_strictly stay law old all.0 timed is.0 all.1.answer is.2 fits in
    inl (
      is.0,
      all.0,
      is.1,
      is.2,
      kept_strictly old timed fits,
      on.is_true,
      all_strict stay law all.0 new (timed_after timed is.0 all.1.answer) lines texts all.2 on.fits,
    ))
    (λ none. inr (
      none.0,
      (none.1.0, refl),
      subst (λ (s : Stage). AreStrictReplies s timed lines (replies_in all.0 new lines texts all.2) new) none.1.1
          (all_strict stay law all.0 new timed lines texts all.2 (subst (λ (s : Stage). FitsStrictly s timed) (sym none.1.1) fits)),
    ))
    all.1.answered
all_strict stay law old new timed [] (text ∷ texts) all fits = absurd all
all_strict stay law old new timed (line ∷ lines) [] all fits = absurd all

pub each_strict_report : OffersStayGood → RightReportsAreStrict → EachStrictReportIsTrue
each_strict_report stay law asked output end is = (
  replies_in stage.Nothing end asked is.0 is.1,
  is.2 ∙ texts_of stage.Nothing end asked is.0 is.1,
  all_strict stay law stage.Nothing end None asked is.0 is.1 tt,
)
