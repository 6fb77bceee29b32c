-- What a whole run of the auditor comes to.
use Rattle.std.proofs.Common.{◌≡◌, ℕ, List, [], ◌∷◌, ◌++◌, length, sym, ◌∙◌, ap, subst, append-nil, append_assoc}
use Rattle.std.specs.Prelude.{Result, Ok, Err, All, MatchResult, map}
use Rattle.std.proofs.lemmas.List.Elements.{All-append, All-cons, All-nil}
use Rattle.txn.specs.History.{History}
use Rattle.txn.specs.declared.refusals.Refusal.{Refusal}
use Rattle.fragment_intake.specs.declared.rules.Parcel.{Parcel}
use Rattle.report_queue.specs.declared.entries.Entry.{Entry}
use Rattle.report_queue.specs.declared.entries.Entry.TheVariants.{Report, Skipped, End}
use Rattle.round_state.specs.Legal.{State}
use Rattle.round_state.specs.Opening.{no_history, fresh_state}
use Rattle.round_state.specs.Runs.{Holds}
use Rattle.live_audit.specs.CoreState.{Search, CoreState}
use Rattle.live_audit.specs.Live.{Live, Moves}
use Rattle.live_audit.specs.Truth.{outcomes, history_with_all, accepted_history, IsTrueEntry}
use Rattle.live_audit.specs.Running.{HasMoved, IsRound, IsLastCount, IsLastSkipped, reports_in}
use Rattle.live_audit.proofs.Fronts.{front_of_itself}
use Rattle.live_audit.proofs.Joining.{moves_join}
use Rattle.live_audit.proofs.Rounds.{reports_more}
use Rattle.live_audit.proofs.Sound.{sound, outcomes_more}

pub along_both : (search : Search) (first at : State) (taken taken_now : List Parcel) (sent sent_now : List Entry) → taken_now ≡ taken → sent_now ≡ sent → Moves search first taken sent at → Moves search first taken_now sent_now at
along_both search first at taken taken_now sent sent_now taken_is sent_is moves =
    subst (λ (t : List Parcel). Moves search first t sent_now at) (sym taken_is) (subst (λ (s : List Entry). Moves search first taken s at) (sym sent_is) moves)

-- where nothing was taken and nothing sent before
pub fresh_moved : (first middle : CoreState) (taken taken_now : List Parcel) (sent sent_now : List Entry) → taken ≡ [] → sent ≡ [] → HasMoved first taken sent middle taken_now sent_now → HasMoved first [] [] middle taken_now sent_now
fresh_moved first middle taken taken_now sent sent_now none_taken none_sent moved =
    subst (λ (t : List Parcel). HasMoved first t [] middle taken_now sent_now) none_taken (subst (λ (s : List Entry). HasMoved first taken s middle taken_now sent_now) none_sent moved)

-- what was taken and sent from a fresh engine, with the end behind it
pub live_of : (most sessions limit : ℕ) (search : Search) (first last : CoreState) (taken : List Parcel) (front sent : List Entry) → first.search ≡ search → Holds first.engine (fresh_state most sessions limit) → HasMoved first [] [] last taken front → sent ≡ front ++ End ∷ [] → Live most sessions limit search taken sent
live_of most sessions limit search first last taken front sent same holds moved end =
    let run = moved.moves (fresh_state most sessions limit) holds in
    record {
      front = front;
      after = run.0;
      moves = subst (λ (s : Search). Moves s (fresh_state most sessions limit) taken front run.0) same (along_both first.search (fresh_state most sessions limit) run.0 moved.parcels taken moved.entries front moved.taken_is moved.sent_is run.1);
      end = end;
    }

-- the end tells of no parcel
outcomes_end : (front : List Entry) → outcomes (front ++ End ∷ []) ≡ outcomes front
outcomes_end front = outcomes_more front (End ∷ []) ∙ append-nil (outcomes front)

history_end : (sessions : ℕ) (taken : List Parcel) (front sent : List Entry) → sent ≡ front ++ End ∷ [] → history_with_all (no_history sessions) taken (outcomes front) ≡ accepted_history sessions taken sent
history_end sessions taken front sent end = ap (history_with_all (no_history sessions) taken) (sym (ap outcomes end ∙ outcomes_end front))

pub true_of : (most sessions limit : ℕ) (search : Search) (taken : List Parcel) (sent : List Entry) → Live most sessions limit search taken sent → All (IsTrueEntry (accepted_history sessions taken sent)) sent
true_of most sessions limit search taken sent live =
    let said = sound search (fresh_state most sessions limit) taken live.front live.after (front_of_itself (no_history sessions)) live.moves in
    let whole : live.after.whole ≡ accepted_history sessions taken sent = said.whole ∙ history_end sessions taken live.front sent live.end in
    let reports : All (IsTrueEntry (accepted_history sessions taken sent)) live.front = subst (λ (history : History). All (IsTrueEntry history) live.front) whole said.reports in
    subst (λ (l : List Entry). All (IsTrueEntry (accepted_history sessions taken sent)) l) (sym live.end)
    (All-append (IsTrueEntry (accepted_history sessions taken sent)) live.front (End ∷ []) reports (All-cons (IsTrueEntry (accepted_history sessions taken sent)) End [] tt (All-nil (IsTrueEntry (accepted_history sessions taken sent)))))

-- all that was received when the last round began was accepted, and no more
all_counted : (most sessions limit : ℕ) (first middle last : CoreState) (taken : List Parcel) (sent back sent_now : List Entry) (counts : List ℕ) → Holds first.engine (fresh_state most sessions limit) → (moved : HasMoved first [] [] middle taken sent) → ((before : State) → Holds middle.engine before → (after : State) × Moves middle.search before [] back after × Holds last.engine after × (counts ≡ map length before.whole)) → sent_now ≡ (sent ++ back) ++ End ∷ [] → counts ≡ map length (accepted_history sessions taken sent_now)
all_counted most sessions limit first middle last taken sent back sent_now counts holds moved counted end =
    let fresh = fresh_state most sessions limit in
    let one = moved.moves fresh holds in
    let two = counted one.0 one.2 in
    let moves_one = along_both first.search fresh one.0 moved.parcels taken moved.entries sent moved.taken_is moved.sent_is one.1 in
    let said_one = sound first.search fresh taken sent one.0 (front_of_itself (no_history sessions)) moves_one in
    let moves_two : Moves first.search one.0 [] back two.0 = subst (λ (s : Search). Moves s one.0 [] back two.0) moved.search two.1 in
    let same = (sound first.search one.0 [] back two.0 said_one.front moves_two).whole in
    let joined : Moves first.search fresh taken (sent ++ back) two.0 = subst (λ (t : List Parcel). Moves first.search fresh t (sent ++ back) two.0) (append-nil taken) (moves_join first.search fresh one.0 two.0 taken [] sent back moves_one moves_two) in
    let said = sound first.search fresh taken (sent ++ back) two.0 (front_of_itself (no_history sessions)) joined in
    two.3 ∙ ap (λ (history : History). map length history) (sym same ∙ said.whole ∙ history_end sessions taken (sent ++ back) sent_now end)

pub last_of : (most sessions limit : ℕ) (first middle last : CoreState) (taken : List Parcel) (sent sent_then sent_now : List Entry) (said : Result (Unit {0}) Refusal) → Holds first.engine (fresh_state most sessions limit) → HasMoved first [] [] middle taken sent → IsRound middle sent said last sent_then → sent_now ≡ sent_then ++ End ∷ [] → MatchResult said (λ _. IsLastCount (map length (accepted_history sessions taken sent_now)) sent_now) (λ refusal. IsLastSkipped refusal sent_now)
last_of most sessions limit first middle last taken sent sent_then sent_now (Ok done) holds moved round end =
    let whole : sent_now ≡ (sent ++ (Report round.0 ∷ round.1)) ++ End ∷ [] = end ∙ ap (λ (l : List Entry). l ++ End ∷ []) round.2 in
    record {
      front = sent;
      report = round.0;
      back = round.1 ++ End ∷ [];
      sent_is = whole ∙ append_assoc sent (Report round.0 ∷ round.1) (End ∷ []);
      last = reports_more round.1 (End ∷ []) ∙ append-nil (reports_in round.1) ∙ round.3;
      counts_are = all_counted most sessions limit first middle last taken sent (Report round.0 ∷ round.1) sent_now round.0.counts holds moved round.4 whole;
    }
last_of most sessions limit first middle last taken sent sent_then sent_now (Err refusal) holds moved round end = record {
  front = sent;
  sent_is = end ∙ ap (λ (l : List Entry). l ++ End ∷ []) round.0 ∙ append_assoc sent (Skipped refusal ∷ []) (End ∷ []);
  why = round.1;
}

pub published_end : (front sent : List Entry) → sent ≡ front ++ End ∷ [] → reports_in sent ≡ reports_in front
published_end front sent end = ap reports_in end ∙ reports_more front (End ∷ []) ∙ append-nil (reports_in front)
