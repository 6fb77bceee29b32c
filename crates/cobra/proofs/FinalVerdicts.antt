-- What has broken a promise breaks it still: what was added to it comes after, session by session.
use Rattle.std.proofs.Common.{◌≡◌, ℕ, zero, suc, true, ◌++◌, List, [], ◌∷◌, length, filter, map, Option, Some, IsSome, nat_lt, refl, sym, subst, ap, ◌∙◌}
use Rattle.std.specs.Prelude.{slice_get, IfSome}
use Rattle.std.proofs.lemmas.List.{length-map, map-append}
use Rattle.list_lemmas.proofs.Places.{precedes_filter}
use Rattle.txn.specs.declared.transactions.TxnId.{TxnId}
use Rattle.txn.specs.declared.transactions.Txn.{Txn}
use Rattle.txn.specs.History.{session_of}
use Rattle.logged_fragments.specs.Effects.{effects}
use Rattle.strict_histories.specs.declared.timed.TimedTxn.{TimedTxn}
use Rattle.strict_histories.specs.Strict.{TimedHistory, IsStrictOrder, IsStrictVerdict, untimed}
use Rattle.order_check.specs.declared.remainder.Kind.TheVariants.{Violated}
use Rattle.log_text.specs.declared.commands.Command.{Command}
use Rattle.log_text.specs.declared.commands.Command.TheVariants.{Offer, OfferTimed, Join, Begin}
use Rattle.log_text.specs.declared.replies.Reply.{Reply}
use Rattle.log_text.specs.declared.replies.Reply.TheVariants as told
use Rattle.round_state.specs.Steps.{arrival_of}
use Rattle.strict_offers.specs.Offers.{timed_effects}
use Rattle.cobra.specs.Final.{ViolationsAreFinal}
use Rattle.cobra.specs.Strict.{spans_of}
use Rattle.cobra.specs.StrictReports.{timed_after}
use Rattle.cobra.specs.TrueReports.{Accepted, accepted_more}
use Rattle.cobra.proofs.GrownHistories.{Grows, arrival_grows, explains_before, had, had_event, had_some, isolates_before, longer_grows, same_grows, still_there}

-- ---- times

session_untimed : (timed : TimedHistory) (s : ℕ) → session_of (untimed timed) s ≡ map (λ (t : TimedTxn). t.txn) (session_of timed s)
session_untimed [] s = refl
session_untimed (txns ∷ timed) zero = refl
session_untimed (txns ∷ timed) (suc s) = session_untimed timed s

untimed_grows : (old new : TimedHistory) → Grows old new → Grows (untimed old) (untimed new)
untimed_grows old new grows s =
    let (more, is) = grows s in
    let txn_of : TimedTxn → Txn = λ t. t.txn in
    (map txn_of more, session_untimed new s ∙ ap (map txn_of) is ∙ map-append txn_of (session_of old s) more ∙ ap (λ (txns : List Txn). txns ++ map txn_of more) (sym (session_untimed old s)))

had_untimed : (timed : TimedHistory) (id : TxnId) → had (untimed timed) id ≡ had timed id
had_untimed timed id = ap (λ (txns : List Txn). nat_lt id.number (length txns)) (session_untimed timed id.session) ∙ ap (nat_lt id.number) (length-map (session_of timed id.session) (λ (t : TimedTxn). t.txn))

-- what an order of the longer history keeps of real time, it keeps without what was added
strict_before : (old new : TimedHistory) → Grows old new → (order : List TxnId) → IsStrictOrder new order → IsStrictOrder old (filter (had (untimed old)) order)
strict_before old new grows order keeps = record {
  explains = explains_before (untimed old) (untimed new) (untimed_grows old new grows) order keeps.explains;
  real_time = λ one other (a, b, ended, began, at_one, ends, at_other, begins, less).
      precedes_filter (had (untimed old)) order one other (was one a at_one) (was other b at_other)
      (keeps.real_time one other (a, b, ended, began, still_there old new grows one a at_one, ends, still_there old new grows other b at_other, begins, less));
}
  where
    was : (id : TxnId) (t : TimedTxn) → slice_get (session_of old id.session) id.number ≡ Some t → had (untimed old) id ≡ true
    was id t at = had_untimed old id ∙ had_some old id (subst (λ (o : Option TimedTxn). IsSome o) (sym at) refl)

violated_strictly : (old new : TimedHistory) → Grows old new → IsStrictVerdict old Violated → IsStrictVerdict new Violated
violated_strictly old new grows none (order, keeps) = none (filter (had (untimed old)) order, strict_before old new grows order keeps)

-- ---- what a script accepts

accepted_grows : (old : Accepted) (command : Command) (answer : Reply) → Grows old.whole (accepted_more old command answer).whole
accepted_grows old (Offer logged) told.Done = longer_grows old.whole (effects logged).session (effects logged).txns
accepted_grows old (Join logged) told.Done = arrival_grows old.whole (arrival_of (length old.whole) (effects logged))
accepted_grows old Begin told.Done = same_grows old.whole
accepted_grows old command answer = same_grows old.whole

offered_strictly : (old : TimedHistory) (command : Command) (answer : Reply) → IsStrictVerdict old Violated → IfSome (timed_after (Some old) command answer) (λ new. IsStrictVerdict new Violated)
offered_strictly old (Offer logged) told.Done none = violated_strictly old _ (longer_grows old logged.fragment.session (timed_effects logged [])) none
offered_strictly old (OfferTimed logged began ended) told.Done none = violated_strictly old _ (longer_grows old logged.fragment.session (timed_effects logged (spans_of began ended))) none
offered_strictly old command answer none = none

pub are_final : ViolationsAreFinal
are_final = record {
  ordered = λ old command answer none (order, explains).
      let more = (accepted_more old command answer).whole in
      none (filter (had old.whole) order, explains_before old.whole more (accepted_grows old command answer) order explains);
  isolated = λ old command answer none (events, keeps).
      let more = (accepted_more old command answer).whole in
      none (filter (had_event old.whole) events, isolates_before old.whole more (accepted_grows old command answer) events keeps);
  strict = offered_strictly;
}
