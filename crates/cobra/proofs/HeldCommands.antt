-- A command of which only the first transactions are held is answered as the whole one is, where more than an offer may have are held
-- and no parts are handed over.
use Rattle.std.proofs.Common.{◌≡◌, ◌≢◌, ℕ, ◌<◌, ◌≤◌, ◌⊎◌, Bool, not, Some, List, [], length, take, refl, sym, ap, subst, ◌∙◌, inl, inr, ⊎_elim, arith}
use Rattle.std.specs.List.{list_any}
use Rattle.std.proofs.lemmas.Bool.{cases_lt}
use Rattle.std.proofs.lemmas.List.{length-take-le, take_all}
use Rattle.txn.specs.declared.transactions.Txn.{Txn}
use Rattle.txn.specs.declared.transactions.Fragment.{Fragment}
use Rattle.txn.specs.declared.refusals.Refusal.{Refusal}
use Rattle.txn.specs.declared.refusals.Refusal.TheVariants.{BadSession, TooLong, RoundOpen, NoMemory}
use Rattle.txn.specs.Transactions.{HasGoodLengths, FragmentFault}
use Rattle.order_check.specs.declared.remainder.Parts.{Parts}
use Rattle.logged_fragments.specs.declared.logged.LoggedFragment.{LoggedFragment}
use Rattle.log_text.specs.declared.commands.Command.{Command}
use Rattle.log_text.specs.declared.commands.Command.TheVariants.{Offer, OfferTimed, Join}
use Rattle.log_text.specs.declared.replies.Reply.{Reply}
use Rattle.log_text.specs.declared.replies.Reply.TheVariants as told
use Rattle.log_text.specs.declared.versions.Opening.{Opening}
use Rattle.log_text.specs.declared.versions.Opening.TheVariants.{Ordered, Isolated}
use Rattle.log_text.specs.declared.versions.Version.{Version}
use Rattle.log_text.specs.declared.versions.Version.TheVariants.{One, Two, Three}
use Rattle.log_text.specs.Held.{held}
use Rattle.log_text.specs.Versions.{has_form, most_sessions}
use Rattle.round_state.specs.EngineState.{EngineState}
use Rattle.round_state.specs.Steps.{IsOfferRefusal, IsJoinRefusal}
use Rattle.round_state.specs.declared.steps.Step.{Step}
use Rattle.round_state.specs.declared.steps.Step.TheVariants as step
use Rattle.round_state.specs.declared.steps.StepReply.{StepReply}
use Rattle.round_state.specs.declared.steps.StepReply.TheVariants as reply
use Rattle.isolation_histories.specs.Offered.{HasOfferedLengths, CanBeOffered, OfferedFault}
use Rattle.strict_histories.specs.declared.timed.Span.{Span}
use Rattle.strict_offers.specs.Offers.{OfferedState, IsOfferedRefusal}
use Rattle.cobra.specs.Audits.{AuditState}
use Rattle.cobra.specs.Held.{IsEnough}
use Rattle.cobra.specs.Scripts.{Goes, IsStep, IsTakenIn, AnswersOpen, AnswersBeside, AnswersIsolated, AnswersStrict, BeginsAnew, AnswersResuming}
use Rattle.cobra.specs.Strict.{OffersStrictly, OffersTimed, spans_of}
use Rattle.cobra.specs.declared.handing.Handing.{Handing}
use Rattle.cobra.specs.declared.stages.Stage.{Stage}
use Rattle.cobra.specs.declared.stages.Stage.TheVariants as stage

-- Two fragments of a session, with the same flags, have more transactions than an offer may have.
record AreTooLong (front whole : LoggedFragment) : Type 0 where
  session : front.fragment.session ≡ whole.fragment.session
  flags : front.aborted ≡ whole.aborted
  front_long : 256 < length front.fragment.txns
  whole_long : 256 < length whole.fragment.txns

no_good_lengths : (fragment : Fragment) → 256 < length fragment.txns → HasGoodLengths fragment → ⊥
no_good_lengths fragment long good = let few : length fragment.txns ≤ 256 = good.few in omega arith

-- neither of them is well formed, and each is refused for the same
long_fault : (sessions : ℕ) (front whole : LoggedFragment) (refusal : Refusal) → AreTooLong front whole → FragmentFault sessions front.fragment refusal → FragmentFault sessions whole.fragment refusal
long_fault sessions front whole BadSession long fault = subst (λ (s : ℕ). sessions ≤ s) long.session fault
long_fault sessions front whole TooLong long fault = (subst (λ (s : ℕ). s < sessions) long.session fault.0, no_good_lengths whole.fragment long.whole_long)
long_fault sessions front whole refusal long fault = absurd (no_good_lengths front.fragment long.front_long fault.1)

-- no step takes a fragment in that is too long, and each is refused as the other
offer_refusal : (parts : Parts) (front whole : LoggedFragment) (refusal : Refusal) → AreTooLong front whole → IsOfferRefusal parts front refusal → IsOfferRefusal parts whole refusal
offer_refusal parts front whole NoMemory long why = absurd (no_good_lengths front.fragment long.front_long why.0.lengths)
offer_refusal parts front whole refusal long why =
    ⊎_elim (λ fault. inl (long_fault parts.most_sessions front whole refusal long fault)) (λ good. absurd (no_good_lengths front.fragment long.front_long good.0.lengths)) why

join_refusal : (engine : EngineState) (front whole : LoggedFragment) (refusal : Refusal) → AreTooLong front whole → IsJoinRefusal engine front refusal → IsJoinRefusal engine whole refusal
join_refusal engine front whole RoundOpen long why = absurd (no_good_lengths front.fragment long.front_long why.0.lengths)
join_refusal engine front whole NoMemory long why = absurd (no_good_lengths front.fragment long.front_long why.0.lengths)
join_refusal engine front whole refusal long why =
    ⊎_elim (λ fault. inl (long_fault engine.parts.most_sessions front whole refusal long fault)) (λ good. absurd (no_good_lengths front.fragment long.front_long good.0.lengths)) why

offer_goes : (old new : EngineState) (front whole : LoggedFragment) (said : StepReply) → AreTooLong front whole → Goes old (step.Offer front) said new → Goes old (step.Offer whole) said new
offer_goes old new front whole reply.Done long goes = absurd (no_good_lengths front.fragment long.front_long goes.right.0.lengths)
offer_goes old new front whole (reply.Refused refusal) long goes = record {
  right = (offer_refusal old.parts front whole refusal long goes.right.0, goes.right.1);
  legal = λ before holds. let all = goes.legal before holds in (
    all.0,
    record {
      engine = (offer_refusal before.engine.parts front whole refusal long all.1.engine.0, all.1.engine.1);
      true_reply = all.1.true_reply;
      whole = all.1.whole;
      asked = all.1.asked;
    },
    all.2,
  );
}
offer_goes old new front whole (reply.Report report) long goes = absurd goes.right
offer_goes old new front whole (reply.Cut cut) long goes = absurd goes.right

join_goes : (old new : EngineState) (front whole : LoggedFragment) (said : StepReply) → AreTooLong front whole → Goes old (step.Join front) said new → Goes old (step.Join whole) said new
join_goes old new front whole reply.Done long goes = absurd (no_good_lengths front.fragment long.front_long goes.right.0.lengths)
join_goes old new front whole (reply.Refused refusal) long goes = record {
  right = (join_refusal old front whole refusal long goes.right.0, goes.right.1);
  legal = λ before holds. let all = goes.legal before holds in (
    all.0,
    record {
      engine = (join_refusal before.engine front whole refusal long all.1.engine.0, all.1.engine.1);
      true_reply = all.1.true_reply;
      whole = all.1.whole;
      asked = all.1.asked;
    },
    all.2,
  );
}
join_goes old new front whole (reply.Report report) long goes = absurd goes.right
join_goes old new front whole (reply.Cut cut) long goes = absurd goes.right

-- where one step leads to what another one leads to, so does the reply that tells it
step_told : (old new : EngineState) (one other : Step) (answer : Reply) → ((said : StepReply) → Goes old one said new → Goes old other said new) → IsStep old one answer new → IsStep old other answer new
step_told old new one other answer goes is = (is.0, goes is.0 is.1, is.2)

-- whether a fragment may stand in a script is told by its flags
form_alike : (version : Version) (front whole : LoggedFragment) → front.aborted ≡ whole.aborted → has_form version whole ≡ has_form version front
form_alike One front whole flags = ap (λ (fs : List Bool). not (list_any (λ aborted. aborted) fs)) (sym flags)
form_alike Two front whole flags = refl
form_alike Three front whole flags = refl

taken_alike : {X : Type 0} (version : Version) (front whole : LoggedFragment) (old new : X) (answer : Reply) (Taken Other : Type 0) → front.aborted ≡ whole.aborted → (Taken → Other) → IsTakenIn version front old answer new Taken → IsTakenIn version whole old answer new Other
taken_alike version front whole old new answer Taken Other flags goes is =
    let same : has_form version whole ≡ has_form version front = form_alike version front whole flags in
    ⊎_elim (λ taken. inl (same ∙ taken.0, goes taken.1)) (λ bad. inr (same ∙ bad.0, bad.1)) is

-- with so many of its transactions
abbrev front_of : ℕ → LoggedFragment → LoggedFragment
front_of most logged = record logged { fragment = record logged.fragment { txns = take most logged.fragment.txns } }

-- where more are held than an offer may have, either all of them are, or too many
held_or_long : (most : ℕ) (logged : LoggedFragment) → 256 < most → (front_of most logged ≡ logged) ⊎ AreTooLong (front_of most logged) logged
held_or_long most logged above =
    let txns : List Txn = logged.fragment.txns in
    ⊎_elim
    (λ more. inr (record {
      session = refl;
      flags = refl;
      front_long = let held_is : length (take most txns) ≡ most = length-take-le most txns (omega (arith, more)) in omega (arith, held_is, above);
      whole_long = omega (arith, more, above);
    }))
    (λ few. inl (ap (λ (ts : List Txn). record logged { fragment = record logged.fragment { txns = ts } }) (take_all most txns few))) (cases_lt most (length txns))

offer_answers : (most : ℕ) (logged : LoggedFragment) (version : Version) (old new : EngineState) (answer : Reply) → 256 < most → AnswersOpen version old (Offer (front_of most logged)) answer new → AnswersOpen version old (Offer logged) answer new
offer_answers most logged version old new answer above is =
    let front : LoggedFragment = front_of most logged in
    ⊎_elim (λ same. subst (λ (given : LoggedFragment). AnswersOpen version old (Offer given) answer new) same is)
    (λ long. taken_alike version front logged old new answer (IsStep old (step.Offer front) answer new) (IsStep old (step.Offer logged) answer new) long.flags
    (step_told old new (step.Offer front) (step.Offer logged) answer (λ said. offer_goes old new front logged said long)) is)
    (held_or_long most logged above)

join_answers : (most : ℕ) (logged : LoggedFragment) (version : Version) (old new : EngineState) (answer : Reply) → 256 < most → AnswersOpen version old (Join (front_of most logged)) answer new → AnswersOpen version old (Join logged) answer new
join_answers most logged version old new answer above is =
    let front : LoggedFragment = front_of most logged in
    ⊎_elim (λ same. subst (λ (given : LoggedFragment). AnswersOpen version old (Join given) answer new) same is)
    (λ long. taken_alike version front logged old new answer (IsStep old (step.Join front) answer new) (IsStep old (step.Join logged) answer new) long.flags
    (step_told old new (step.Join front) (step.Join logged) answer (λ said. join_goes old new front logged said long)) is)
    (held_or_long most logged above)

beside_answers : (most : ℕ) (version : Version) (old new : AuditState) (command : Command) (answer : Reply) → 256 < most → AnswersBeside version old (held (Some most) command) answer new → AnswersBeside version old command answer new
beside_answers most version old new (Offer logged) answer above is = (offer_answers most logged version old.engine new.engine answer above is.0, is.1)
beside_answers most version old new (Join logged) answer above is = (join_answers most logged version old.engine new.engine answer above is.0, is.1)
beside_answers most version old new command answer above is = is

-- ---- where transactions are split, still fewer are taken

no_offered_lengths : (fragment : Fragment) → 256 < length fragment.txns → HasOfferedLengths fragment → ⊥
no_offered_lengths fragment long good = let few : length fragment.txns ≤ 128 = good.few in omega arith

long_offer : (sessions : ℕ) (front whole : LoggedFragment) (refusal : Refusal) → AreTooLong front whole → OfferedFault sessions front.fragment refusal → OfferedFault sessions whole.fragment refusal
long_offer sessions front whole BadSession long fault = subst (λ (s : ℕ). sessions ≤ s) long.session fault
long_offer sessions front whole TooLong long fault = (subst (λ (s : ℕ). s < sessions) long.session fault.0, no_offered_lengths whole.fragment long.whole_long)
long_offer sessions front whole refusal long fault = absurd (no_offered_lengths front.fragment long.front_long fault.1)

no_long_offer : (sessions : ℕ) (fragment : Fragment) → 256 < length fragment.txns → CanBeOffered sessions fragment → ⊥
no_long_offer sessions fragment long can = let few : length fragment.txns ≤ 128 = can.few in omega arith

isolated_offer : (most : ℕ) (logged : LoggedFragment) (version : Version) (old new : AuditState) (answer : Reply) → 256 < most → AnswersIsolated version old (Offer (front_of most logged)) answer new → AnswersIsolated version old (Offer logged) answer new
isolated_offer most logged version old new answer above is =
    ⊎_elim (λ same. subst (λ (given : LoggedFragment). AnswersIsolated version old (Offer given) answer new) same is)
    (λ long. ⊎_elim (λ fault. inl (fault.0, long_offer (most_sessions version) (front_of most logged) logged fault.0 long fault.1, fault.2, fault.3)) (λ split. absurd (no_long_offer (most_sessions version) (front_of most logged).fragment long.front_long split.0)) is)
    (held_or_long most logged above)

isolated_join : (most : ℕ) (logged : LoggedFragment) (version : Version) (old new : AuditState) (answer : Reply) → 256 < most → AnswersIsolated version old (Join (front_of most logged)) answer new → AnswersIsolated version old (Join logged) answer new
isolated_join most logged version old new answer above is =
    ⊎_elim (λ same. subst (λ (given : LoggedFragment). AnswersIsolated version old (Join given) answer new) same is)
    (λ long. ⊎_elim (λ fault. inl (fault.0, long_offer (most_sessions version) (front_of most logged) logged fault.0 long fault.1, fault.2, fault.3)) (λ split. absurd (no_long_offer (most_sessions version) (front_of most logged).fragment long.front_long split.0)) is)
    (held_or_long most logged above)

isolated_answers : (most : ℕ) (version : Version) (old new : AuditState) (command : Command) (answer : Reply) → 256 < most → AnswersIsolated version old (held (Some most) command) answer new → AnswersIsolated version old command answer new
isolated_answers most version old new (Offer logged) answer above is = isolated_offer most logged version old new answer above is
isolated_answers most version old new (Join logged) answer above is = isolated_join most logged version old new answer above is
isolated_answers most version old new command answer above is = is

-- ---- where what is offered has times

strict_refusal : (old : OfferedState) (front whole : LoggedFragment) (spans : List Span) (refusal : Refusal) → AreTooLong front whole → IsOfferedRefusal old front spans refusal → IsOfferedRefusal old whole spans refusal
strict_refusal old front whole spans NoMemory long why = absurd (no_good_lengths front.fragment long.front_long why.0.lengths)
strict_refusal old front whole spans refusal long why =
    ⊎_elim (λ fault. inl (long_fault old.most_sessions front whole refusal long fault)) (λ good. absurd (no_good_lengths front.fragment long.front_long good.0.lengths)) why

strict_offer : (old : OfferedState) (front whole : LoggedFragment) (spans : List Span) (answer : Reply) (new : OfferedState) → AreTooLong front whole → OffersStrictly old front spans answer new → OffersStrictly old whole spans answer new
strict_offer old front whole spans told.Done new long is = absurd (no_good_lengths front.fragment long.front_long is.0.well_formed.lengths)
strict_offer old front whole spans (told.No refusal) new long is = (strict_refusal old front whole spans refusal long is.0, is.1)
strict_offer old front whole spans answer new long is = absurd is

abbrev AreAsMany : List ℕ → List ℕ → List Bool → Type 0
AreAsMany began ended flags = (length began ≡ length flags) × (length ended ≡ length flags)

strict_timed : (old : OfferedState) (front whole : LoggedFragment) (began ended : List ℕ) (answer : Reply) (new : OfferedState) → AreTooLong front whole → OffersTimed old front began ended answer new → OffersTimed old whole began ended answer new
strict_timed old front whole began ended answer new long is =
    ⊎_elim (λ has. inl (subst (AreAsMany began ended) long.flags has.0, strict_offer old front whole (spans_of began ended) answer new long has.1))
    (λ bad. inr (λ has. bad.0 (subst (AreAsMany began ended) (sym long.flags) has), bad.1, bad.2)) is

strict_offered : (most : ℕ) (logged : LoggedFragment) (version : Version) (old new : OfferedState) (answer : Reply) → 256 < most → AnswersStrict version old (Offer (front_of most logged)) answer new → AnswersStrict version old (Offer logged) answer new
strict_offered most logged version old new answer above is =
    let front : LoggedFragment = front_of most logged in
    ⊎_elim (λ same. subst (λ (given : LoggedFragment). AnswersStrict version old (Offer given) answer new) same is)
    (λ long. taken_alike version front logged old new answer (OffersStrictly old front [] answer new) (OffersStrictly old logged [] answer new) long.flags (strict_offer old front logged [] answer new long) is)
    (held_or_long most logged above)

strict_offered_timed : (most : ℕ) (logged : LoggedFragment) (began ended : List ℕ) (version : Version) (old new : OfferedState) (answer : Reply) → 256 < most → AnswersStrict version old (OfferTimed (front_of most logged) began ended) answer new → AnswersStrict version old (OfferTimed logged began ended) answer new
strict_offered_timed most logged began ended version old new answer above is =
    let front : LoggedFragment = front_of most logged in
    ⊎_elim (λ same. subst (λ (given : LoggedFragment). AnswersStrict version old (OfferTimed given began ended) answer new) same is)
    (λ long. taken_alike version front logged old new answer (OffersTimed old front began ended answer new) (OffersTimed old logged began ended answer new) long.flags (strict_timed old front logged began ended answer new long) is)
    (held_or_long most logged above)

strict_answers : (most : ℕ) (version : Version) (old new : OfferedState) (command : Command) (answer : Reply) → 256 < most → AnswersStrict version old (held (Some most) command) answer new → AnswersStrict version old command answer new
strict_answers most version old new (Offer logged) answer above is = strict_offered most logged version old new answer above is
strict_answers most version old new (OfferTimed logged began ended) answer above is = strict_offered_timed most logged began ended version old new answer above is
strict_answers most version old new command answer above is = is

-- where no engine is open, no offer and no join is taken
anew_answers : (most : ℕ) (old : Stage) (command : Command) (answer : Reply) (new : Stage) → BeginsAnew old (held (Some most) command) answer new → BeginsAnew old command answer new
anew_answers most old (Offer logged) answer new is = is
anew_answers most old command answer new is = is

resuming_answers : (most sessions limit : ℕ) (opening : Opening) (command : Command) (answer : Reply) (new : Stage) → AnswersResuming sessions limit opening (held (Some most) command) answer new → AnswersResuming sessions limit opening command answer new
resuming_answers most sessions limit (Ordered version) (Offer logged) answer new is = is
resuming_answers most sessions limit (Ordered version) command answer new is = is
resuming_answers most sessions limit (Isolated version) (Offer logged) answer new is = is
resuming_answers most sessions limit (Isolated version) command answer new is = is

pub enough_held : (most : ℕ) (old : Stage) → 256 < most → ((handed : Handing) (opening : Opening) → old ≢ stage.Handing handed opening) → IsEnough old (Some most)
enough_held most stage.Nothing above none command answer new is = anew_answers most stage.Nothing command answer new is
enough_held most (stage.Resuming sessions limit opening) above none command answer new is = resuming_answers most sessions limit opening command answer new is
enough_held most (stage.Handing handed opening) above none command answer new is = absurd (none handed opening refl)
enough_held most (stage.Open old (Ordered version)) above none command answer new is = (is.0, beside_answers most version old is.0 command answer above is.1, is.2)
enough_held most (stage.Open old (Isolated version)) above none command answer new is = (is.0, isolated_answers most version old is.0 command answer above is.1, is.2)
enough_held most (stage.Strict old version) above none command answer new is = (is.0, strict_answers most version old is.0 command answer above is.1, is.2)
