-- What was sent is true of what was accepted.
use Rattle.std.proofs.Common.{◌≡◌, List, [], ◌∷◌, ◌++◌, length, refl, sym, ◌∙◌, ap, subst, append-nil, length-append, arith}
use Rattle.std.specs.Prelude.{All, Bool, true, false}
use Rattle.std.proofs.lemmas.List.Elements.{All-append, All-cons, All-nil}
use Rattle.txn.specs.declared.refusals.Refusal.{Refusal}
use Rattle.txn.specs.History.{History}
use Rattle.fragment_intake.specs.declared.rules.Item.{Item}
use Rattle.fragment_intake.specs.declared.rules.Item.TheVariants as item
use Rattle.fragment_intake.specs.declared.rules.Parcel.{Parcel}
use Rattle.report_queue.specs.declared.entries.Entry.{Entry}
use Rattle.report_queue.specs.declared.entries.Entry.TheVariants.{Accepted, Refused, Report, Cut, Skipped, End}
use Rattle.round_state.specs.Legal.{State, Legal}
use Rattle.round_state.specs.declared.steps.Step.{Step}
use Rattle.round_state.specs.declared.steps.StepReply.TheVariants as reply
use Rattle.live_audit.specs.CoreState.{Search}
use Rattle.live_audit.specs.Live.{Asks, Moves, accepted, refused, start, ended, done, turned_down, begun, not_begun, cut, reported, abandoned}
use Rattle.live_audit.specs.Truth.{outcomes, history_with, history_with_all, IsTrueEntry}
use Rattle.live_audit.proofs.Fronts.{IsFrontOf, front_of_itself, front_with, true_with, told_true}

one_entry : (history : History) (entry : Entry) → IsTrueEntry history entry → All (IsTrueEntry history) (entry ∷ [])
one_entry history entry told = All-cons (IsTrueEntry history) entry [] told (All-nil (IsTrueEntry history))

pub outcomes_more : (sent more : List Entry) → outcomes (sent ++ more) ≡ outcomes sent ++ outcomes more
outcomes_more [] more = refl
outcomes_more (Accepted collector place ∷ sent) more = ap (λ (l : List Bool). true ∷ l) (outcomes_more sent more)
outcomes_more (Refused collector place refusal ∷ sent) more = ap (λ (l : List Bool). false ∷ l) (outcomes_more sent more)
outcomes_more (Report report ∷ sent) more = outcomes_more sent more
outcomes_more (Cut gone ∷ sent) more = outcomes_more sent more
outcomes_more (Skipped refusal ∷ sent) more = outcomes_more sent more
outcomes_more (End ∷ sent) more = outcomes_more sent more

accepted_more : (history : History) (taken : List Parcel) (told : List Bool) (parcel : Parcel) → length taken ≡ length told → history_with_all history (taken ++ parcel ∷ []) (told ++ true ∷ []) ≡ history_with (history_with_all history taken told) parcel.item
accepted_more history [] [] parcel same = refl
accepted_more history (one ∷ taken) (true ∷ told) parcel same = accepted_more (history_with history one.item) taken told parcel (omega arith)
accepted_more history (one ∷ taken) (false ∷ told) parcel same = accepted_more history taken told parcel (omega arith)
accepted_more history [] (one ∷ told) parcel same = absurd (omega arith)
accepted_more history (one ∷ taken) [] parcel same = absurd (omega arith)

refused_more : (history : History) (taken : List Parcel) (told : List Bool) (parcel : Parcel) → length taken ≡ length told → history_with_all history (taken ++ parcel ∷ []) (told ++ false ∷ []) ≡ history_with_all history taken told
refused_more history [] [] parcel same = refl
refused_more history (one ∷ taken) (true ∷ told) parcel same = refused_more (history_with history one.item) taken told parcel (omega arith)
refused_more history (one ∷ taken) (false ∷ told) parcel same = refused_more history taken told parcel (omega arith)
refused_more history [] (one ∷ told) parcel same = absurd (omega arith)
refused_more history (one ∷ taken) [] parcel same = absurd (omega arith)

-- what the moves keep
pub record IsSound (first : History) (taken : List Parcel) (sent : List Entry) (at : State) : Type 0 where
  pub front : IsFrontOf at.asked at.whole
  pub reports : All (IsTrueEntry at.whole) sent
  pub each_told : length taken ≡ length (outcomes sent)
  pub whole : at.whole ≡ history_with_all first taken (outcomes sent)

-- nothing is taken and nothing told of a parcel, and the whole history stays
sound_beside : (first : History) (taken : List Parcel) (sent more : List Entry) (at new : State) → IsSound first taken sent at → outcomes more ≡ [] → new.whole ≡ at.whole → IsFrontOf new.asked new.whole → All (IsTrueEntry new.whole) more → IsSound first taken (sent ++ more) new
sound_beside first taken sent more at new sound quiet same front told =
    let outs : outcomes (sent ++ more) ≡ outcomes sent = outcomes_more sent more ∙ ap (λ (l : List Bool). outcomes sent ++ l) quiet ∙ append-nil (outcomes sent) in
    record {
      front = front;
      reports = All-append (IsTrueEntry new.whole) sent more (subst (λ (history : History). All (IsTrueEntry history) sent) (sym same) sound.reports) told;
      each_told = sound.each_told ∙ ap length (sym outs);
      whole = same ∙ sound.whole ∙ ap (history_with_all first taken) (sym outs);
    }

-- as many are told of when one more is taken
told_one : (taken : List Parcel) (sent : List Entry) (parcel : Parcel) (entry : Entry) (outcome : Bool) → outcomes (entry ∷ []) ≡ outcome ∷ [] → length taken ≡ length (outcomes sent) → length (taken ++ parcel ∷ []) ≡ length (outcomes (sent ++ entry ∷ []))
told_one taken sent parcel entry outcome is same =
    let more = ap (length {A = Bool}) (outcomes_more sent (entry ∷ []) ∙ ap (λ (l : List Bool). outcomes sent ++ l) is) in
    omega (arith, length-append taken (parcel ∷ []), length-append (outcomes sent) (outcome ∷ []), more, same)

-- a parcel is accepted
sound_accepted : (first : History) (taken : List Parcel) (sent : List Entry) (parcel : Parcel) (at new : State) → IsSound first taken sent at → new.whole ≡ history_with at.whole parcel.item → new.asked ≡ at.asked → IsSound first (taken ++ parcel ∷ []) (sent ++ accepted parcel ∷ []) new
sound_accepted first taken sent parcel at new sound grown asked_same =
    record {
      front = subst (λ (front : History). IsFrontOf front new.whole) (sym asked_same) (subst (λ (whole : History). IsFrontOf at.asked whole) (sym grown) (front_with at.asked at.whole parcel.item sound.front));
      reports = All-append (IsTrueEntry new.whole) sent (accepted parcel ∷ []) (subst (λ (history : History). All (IsTrueEntry history) sent) (sym grown) (true_with at.whole parcel.item sent sound.reports)) (one_entry new.whole _ tt);
      each_told = told_one taken sent parcel (accepted parcel) true refl sound.each_told;
      whole =
          grown ∙ ap (λ (history : History). history_with history parcel.item) sound.whole ∙ sym (accepted_more first taken (outcomes sent) parcel sound.each_told)
          ∙ ap (history_with_all first (taken ++ parcel ∷ [])) (sym (outcomes_more sent (accepted parcel ∷ [])));
    }

-- a parcel is refused
sound_refused : (first : History) (taken : List Parcel) (sent : List Entry) (parcel : Parcel) (entry : Entry) (at new : State) → IsSound first taken sent at → outcomes (entry ∷ []) ≡ false ∷ [] → IsTrueEntry new.whole entry → new.whole ≡ at.whole → new.asked ≡ at.asked → IsSound first (taken ++ parcel ∷ []) (sent ++ entry ∷ []) new
sound_refused first taken sent parcel entry at new sound is told same asked_same =
    record {
      front = subst (λ (front : History). IsFrontOf front new.whole) (sym asked_same) (subst (λ (whole : History). IsFrontOf at.asked whole) (sym same) sound.front);
      reports = All-append (IsTrueEntry new.whole) sent (entry ∷ []) (subst (λ (history : History). All (IsTrueEntry history) sent) (sym same) sound.reports) (one_entry new.whole entry told);
      each_told = told_one taken sent parcel entry false is sound.each_told;
      whole =
          same ∙ sound.whole ∙ sym (refused_more first taken (outcomes sent) parcel sound.each_told)
          ∙ ap (history_with_all first (taken ++ parcel ∷ [])) (sym (outcomes_more sent (entry ∷ []) ∙ ap (λ (l : List Bool). outcomes sent ++ l) is));
    }

-- what the step of an item does
grown_by : (its : Item) (asked : Step) (at new : State) → Asks its asked → Legal at asked reply.Done new → (new.whole ≡ history_with at.whole its) × (new.asked ≡ at.asked)
grown_by item.End asked at new asks legal = absurd asks
grown_by (item.Fragment fragment) asked at new asks legal = let offers = subst (λ (s : Step). Legal at s reply.Done new) asks legal in (offers.whole, offers.asked)
grown_by (item.Join fragment) asked at new asks legal = let joins = subst (λ (s : Step). Legal at s reply.Done new) asks legal in (joins.whole, joins.asked)
grown_by (item.Close session) asked at new asks legal = let closes = subst (λ (s : Step). Legal at s reply.Done new) asks legal in (closes.whole, closes.asked)

refused_by : (its : Item) (asked : Step) (refusal : Refusal) (at new : State) → Asks its asked → Legal at asked (reply.Refused refusal) new → (new.whole ≡ at.whole) × (new.asked ≡ at.asked)
refused_by item.End asked refusal at new asks legal = absurd asks
refused_by (item.Fragment fragment) asked refusal at new asks legal = let offers = subst (λ (s : Step). Legal at s (reply.Refused refusal) new) asks legal in (offers.whole, offers.asked)
refused_by (item.Join fragment) asked refusal at new asks legal = let joins = subst (λ (s : Step). Legal at s (reply.Refused refusal) new) asks legal in (joins.whole, joins.asked)
refused_by (item.Close session) asked refusal at new asks legal = let closes = subst (λ (s : Step). Legal at s (reply.Refused refusal) new) asks legal in (closes.whole, closes.asked)

-- neither history changes
front_same : (at new : State) → new.whole ≡ at.whole → new.asked ≡ at.asked → IsFrontOf at.asked at.whole → IsFrontOf new.asked new.whole
front_same at new same asked_same front = subst (λ (front : History). IsFrontOf front new.whole) (sym asked_same) (subst (λ (whole : History). IsFrontOf at.asked whole) (sym same) front)

pub sound : (search : Search) (first : State) (taken : List Parcel) (sent : List Entry) (at : State) → IsFrontOf first.asked first.whole → Moves search first taken sent at → IsSound first.whole taken sent at
sound search first _ _ _ begins start = record { front = begins; reports = All-nil (IsTrueEntry first.whole); each_told = refl; whole = refl }
sound search first _ _ _ begins (ended taken sent at parcel moves end) =
    sound_accepted first.whole taken sent parcel at at (sound search first taken sent at begins moves) (sym (ap (history_with at.whole) end)) refl
sound search first _ _ _ begins (done taken sent at new parcel asked moves asks legal) =
    let grown = grown_by parcel.item asked at new asks legal in
    sound_accepted first.whole taken sent parcel at new (sound search first taken sent at begins moves) grown.0 grown.1
sound search first _ _ _ begins (turned_down taken sent at new parcel asked refusal moves asks legal) =
    let same = refused_by parcel.item asked refusal at new asks legal in
    sound_refused first.whole taken sent parcel (refused parcel refusal) at new (sound search first taken sent at begins moves) refl tt same.0 same.1
sound search first _ _ _ begins (begun taken sent at new moves legal) =
    let before = sound search first taken sent at begins moves in
    subst (λ (l : List Entry). IsSound first.whole taken l new) (append-nil sent)
    (sound_beside first.whole taken sent [] at new before refl legal.whole (subst (λ (front : History). IsFrontOf front new.whole) (sym (legal.asked ∙ sym legal.whole)) (front_of_itself new.whole)) (All-nil (IsTrueEntry new.whole)))
sound search first _ _ _ begins (not_begun taken sent at new refusal moves legal) =
    let before = sound search first taken sent at begins moves in
    sound_beside first.whole taken sent (Skipped refusal ∷ []) at new before refl legal.whole (front_same at new legal.whole legal.asked before.front) (one_entry new.whole _ tt)
sound search first _ _ _ begins (cut taken sent at between new workers report gone moves finish truncate) =
    let before = sound search first taken sent at begins moves in
    let same = truncate.whole ∙ finish.whole in
    sound_beside first.whole taken sent (Report report ∷ Cut gone ∷ []) at new before refl same
    (front_same at new same (truncate.asked ∙ finish.asked) before.front)
    (All-cons (IsTrueEntry new.whole) (Report report) (Cut gone ∷ []) (subst (λ (history : History). IsTrueEntry history (Report report)) (sym same) (told_true at.asked at.whole report before.front finish.true_reply)) (one_entry new.whole (Cut gone) tt))
sound search first _ _ _ begins (reported taken sent at between new workers report refusal moves finish truncate) =
    let before = sound search first taken sent at begins moves in
    let same = truncate.whole ∙ finish.whole in
    sound_beside first.whole taken sent (Report report ∷ []) at new before refl same
    (front_same at new same (truncate.asked ∙ finish.asked) before.front)
    (one_entry new.whole (Report report) (subst (λ (history : History). IsTrueEntry history (Report report)) (sym same) (told_true at.asked at.whole report before.front finish.true_reply)))
sound search first _ _ _ begins (abandoned taken sent at between new workers moves finish abandon) =
    let before = sound search first taken sent at begins moves in
    let same = abandon.whole ∙ finish.whole in
    sound_beside first.whole taken sent (Skipped _ ∷ []) at new before refl same (front_same at new same (abandon.asked ∙ finish.asked) before.front) (one_entry new.whole _ tt)
