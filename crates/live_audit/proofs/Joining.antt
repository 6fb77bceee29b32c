-- Moves one after another.
use Rattle.std.proofs.Common.{List, [], ◌∷◌, ◌++◌, sym, subst, append_assoc, append-nil}
use Rattle.fragment_intake.specs.declared.rules.Parcel.{Parcel}
use Rattle.report_queue.specs.declared.entries.Entry.{Entry}
use Rattle.report_queue.specs.declared.entries.Entry.TheVariants.{Report, Cut, Skipped}
use Rattle.round_state.specs.EngineState.{EngineState}
use Rattle.round_state.specs.Legal.{State}
use Rattle.live_audit.specs.CoreState.{Search}
use Rattle.live_audit.specs.Live.{Moves, MovesOn, accepted, refused, start, ended, done, turned_down, begun, not_begun, cut, reported, abandoned}

-- along what is taken and what is sent
along : (search : Search) (first at : State) (taken taken_more : List Parcel) (sent sent_more : List Entry) (parcels : List Parcel) (entries : List Entry) → Moves search first ((taken ++ taken_more) ++ parcels) ((sent ++ sent_more) ++ entries) at → Moves search first (taken ++ (taken_more ++ parcels)) (sent ++ (sent_more ++ entries)) at
along search first at taken taken_more sent sent_more parcels entries moves =
    subst (λ (t : List Parcel). Moves search first t (sent ++ (sent_more ++ entries)) at) (append_assoc taken taken_more parcels)
    (subst (λ (s : List Entry). Moves search first ((taken ++ taken_more) ++ parcels) s at) (append_assoc sent sent_more entries) moves)

along_sent : (search : Search) (first at : State) (taken : List Parcel) (sent sent_more entries : List Entry) → Moves search first taken ((sent ++ sent_more) ++ entries) at → Moves search first taken (sent ++ (sent_more ++ entries)) at
along_sent search first at taken sent sent_more entries moves = subst (λ (s : List Entry). Moves search first taken s at) (append_assoc sent sent_more entries) moves

pub moves_join : (search : Search) (first between at : State) (taken taken_more : List Parcel) (sent sent_more : List Entry) → Moves search first taken sent between → Moves search between taken_more sent_more at → Moves search first (taken ++ taken_more) (sent ++ sent_more) at
moves_join search first between _ taken _ sent _ before start =
    subst (λ (t : List Parcel). Moves search first t (sent ++ []) between) (sym (append-nil taken)) (subst (λ (s : List Entry). Moves search first taken s between) (sym (append-nil sent)) before)
moves_join search first between _ taken _ sent _ before (ended taken_more sent_more at parcel moves end) =
    along search first at taken taken_more sent sent_more (parcel ∷ []) (accepted parcel ∷ []) (ended (taken ++ taken_more) (sent ++ sent_more) at parcel (moves_join search first between at taken taken_more sent sent_more before moves) end)
moves_join search first between _ taken _ sent _ before (done taken_more sent_more at new parcel asked moves asks legal) =
    along search first new taken taken_more sent sent_more (parcel ∷ []) (accepted parcel ∷ []) (done (taken ++ taken_more) (sent ++ sent_more) at new parcel asked (moves_join search first between at taken taken_more sent sent_more before moves) asks legal)
moves_join search first between _ taken _ sent _ before (turned_down taken_more sent_more at new parcel asked refusal moves asks legal) =
    along search first new taken taken_more sent sent_more (parcel ∷ []) (refused parcel refusal ∷ []) (turned_down (taken ++ taken_more) (sent ++ sent_more) at new parcel asked refusal (moves_join search first between at taken taken_more sent sent_more before moves) asks legal)
moves_join search first between _ taken _ sent _ before (begun taken_more sent_more at new moves legal) =
    begun (taken ++ taken_more) (sent ++ sent_more) at new (moves_join search first between at taken taken_more sent sent_more before moves) legal
moves_join search first between _ taken _ sent _ before (not_begun taken_more sent_more at new refusal moves legal) =
    along_sent search first new (taken ++ taken_more) sent sent_more (Skipped refusal ∷ []) (not_begun (taken ++ taken_more) (sent ++ sent_more) at new refusal (moves_join search first between at taken taken_more sent sent_more before moves) legal)
moves_join search first between _ taken _ sent _ before (cut taken_more sent_more at middle new workers report gone moves finish truncate) =
    along_sent search first new (taken ++ taken_more) sent sent_more (Report report ∷ Cut gone ∷ []) (cut (taken ++ taken_more) (sent ++ sent_more) at middle new workers report gone (moves_join search first between at taken taken_more sent sent_more before moves) finish truncate)
moves_join search first between _ taken _ sent _ before (reported taken_more sent_more at middle new workers report refusal moves finish truncate) =
    along_sent search first new (taken ++ taken_more) sent sent_more (Report report ∷ []) (reported (taken ++ taken_more) (sent ++ sent_more) at middle new workers report refusal (moves_join search first between at taken taken_more sent sent_more before moves) finish truncate)
moves_join search first between _ taken _ sent _ before (abandoned taken_more sent_more at middle new workers moves finish abandon) =
    along_sent search first new (taken ++ taken_more) sent sent_more (Skipped _ ∷ []) (abandoned (taken ++ taken_more) (sent ++ sent_more) at middle new workers (moves_join search first between at taken taken_more sent sent_more before moves) finish abandon)

-- whatever histories the engine stood for
pub moves_on : (search : Search) (old between new : EngineState) (taken taken_more : List Parcel) (sent sent_more : List Entry) → MovesOn search old taken sent between → MovesOn search between taken_more sent_more new → MovesOn search old (taken ++ taken_more) (sent ++ sent_more) new
moves_on search old between new taken taken_more sent sent_more first second before holds =
    let one = first before holds in
    let two = second one.0 one.2 in
    (two.0, moves_join search before one.0 two.0 taken taken_more sent sent_more one.1 two.1, two.2)
