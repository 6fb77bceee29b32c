-- When rounds are made.
use Rattle.std.proofs.Common.{◌≡◌, ℕ, Bool, true, false, List, [], ◌∷◌, ◌++◌, refl, sym, ap, ◌∙◌, subst, append-nil, append_assoc}
use Rattle.fragment_intake.specs.declared.rules.Parcel.{Parcel}
use Rattle.report_queue.specs.declared.entries.Entry.{Entry}
use Rattle.report_queue.specs.declared.entries.Entry.TheVariants.{End}
use Rattle.live_audit.specs.Moments.{accepted_counts, unasked_after, unasked_since, HasTaken, IsLook, IsOutcomeOf, Turns, IsTimed}
use Rattle.live_audit.specs.Running.{HasOutcome}
use Rattle.live_audit.specs.Told.{AreTold}

-- Parcels that were taken, one after another.

told_more : (parcels more : List Parcel) (entries others : List Entry) → AreTold parcels entries → AreTold more others → AreTold (parcels ++ more) (entries ++ others)
told_more [] more [] others told also = also
told_more (parcel ∷ parcels) more (entry ∷ entries) others told also = (told.0, told_more parcels more entries others told.1 also)
told_more [] more (entry ∷ entries) others told also = absurd told
told_more (parcel ∷ parcels) more [] others told also = absurd told

since_more : (unasked : ℕ) (parcels more : List Parcel) (entries others : List Entry) → AreTold parcels entries → unasked_since unasked (parcels ++ more) (entries ++ others) ≡ unasked_since (unasked_since unasked parcels entries) more others
since_more unasked [] more [] others told = refl
since_more unasked (parcel ∷ parcels) more (entry ∷ entries) others told = since_more (unasked_after unasked parcel.item entry) parcels more entries others told.1
since_more unasked [] more (entry ∷ entries) others told = absurd told
since_more unasked (parcel ∷ parcels) more [] others told = absurd told

pub taken_on : (first second third : ℕ) (taken taken_then taken_now : List Parcel) (sent sent_then sent_now : List Entry) → HasTaken first taken sent second taken_then sent_then → HasTaken second taken_then sent_then third taken_now sent_now → HasTaken first taken sent third taken_now sent_now
taken_on first second third taken taken_then taken_now sent sent_then sent_now one two = record {
  parcels = one.parcels ++ two.parcels;
  entries = one.entries ++ two.entries;
  taken_is = two.taken_is ∙ ap (λ (l : List Parcel). l ++ two.parcels) one.taken_is ∙ append_assoc taken one.parcels two.parcels;
  sent_is = two.sent_is ∙ ap (λ (l : List Entry). l ++ two.entries) one.sent_is ∙ append_assoc sent one.entries two.entries;
  told = told_more one.parcels two.parcels one.entries two.entries one.told two.told;
  counted = two.counted ∙ ap (λ (n : ℕ). unasked_since n two.parcels two.entries) one.counted ∙ sym (since_more first one.parcels two.parcels one.entries two.entries one.told);
}

pub nothing_taken : (unasked : ℕ) (taken : List Parcel) (sent : List Entry) → HasTaken unasked taken sent unasked taken sent
nothing_taken unasked taken sent = record {
  parcels = [];
  entries = [];
  taken_is = sym (append-nil taken);
  sent_is = sym (append-nil sent);
  told = tt;
  counted = refl;
}

-- what a look takes
pub look_taken : (found : Bool) (unasked : ℕ) (taken : List Parcel) (sent : List Entry) (unasked_now : ℕ) (taken_now : List Parcel) (sent_now : List Entry) → IsLook found unasked taken sent unasked_now taken_now sent_now → HasTaken unasked taken sent unasked_now taken_now sent_now
look_taken true unasked taken sent unasked_now taken_now sent_now look = record {
  parcels = look.0 ∷ [];
  entries = look.1 ∷ [];
  taken_is = look.2;
  sent_is = look.3;
  told = (look.4, tt);
  counted = look.5;
}
look_taken false unasked taken sent unasked_now taken_now sent_now look = record {
  parcels = [];
  entries = [];
  taken_is = look.1 ∙ sym (append-nil taken);
  sent_is = look.2 ∙ sym (append-nil sent);
  told = tt;
  counted = look.0;
}

-- from nothing on
pub turns_from : (sessions unasked unasked_now : ℕ) (taken taken_now : List Parcel) (sent sent_now : List Entry) → unasked ≡ 0 → taken ≡ [] → sent ≡ [] → Turns sessions unasked taken sent unasked_now taken_now sent_now → Turns sessions 0 [] [] unasked_now taken_now sent_now
turns_from sessions unasked unasked_now taken taken_now sent sent_now no_unasked none_taken none_sent turns =
    subst (λ (s : List Entry). Turns sessions 0 [] s unasked_now taken_now sent_now) none_sent
    (subst (λ (t : List Parcel). Turns sessions 0 t sent unasked_now taken_now sent_now) none_taken
    (subst (λ (n : ℕ). Turns sessions n taken sent unasked_now taken_now sent_now) no_unasked turns))

pub timed : (sessions unasked : ℕ) (taken taken_now : List Parcel) (front sent sent_now : List Entry) → Turns sessions 0 [] [] unasked taken front → taken_now ≡ taken → HasOutcome (accepted_counts sessions taken front) front sent → sent_now ≡ sent ++ End ∷ [] → IsTimed sessions taken_now sent_now
timed sessions unasked taken taken_now front sent sent_now turns same made end = record {
  unasked = unasked;
  front = front;
  outcome = made.0;
  turns = subst (λ (t : List Parcel). Turns sessions 0 [] [] unasked t front) (sym same) turns;
  last = subst (λ (t : List Parcel). IsOutcomeOf (accepted_counts sessions t front) made.0) (sym same) made.2;
  sent_is = end ∙ ap (λ (l : List Entry). l ++ End ∷ []) made.1;
}
