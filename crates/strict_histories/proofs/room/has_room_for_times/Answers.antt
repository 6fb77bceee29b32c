use Rattle.std.proofs.Common.{All, ◌≤◌, ◌^◌, List, length, sym, ◌∙◌, arith}
use Rattle.std.proofs.lemmas.Bool.{leb-true}
use Rattle.strict_histories.specs.declared.timed.TimedTxn.{TimedTxn}
use Rattle.strict_histories.proofs.room.has_room_for_times.Goals as goal
use Rattle.strict_histories.proofs.room.has_room_for_times.Goals.{then-timed-le-SESSIONS, else-timed-le-SESSIONS}

pub returns-then-have_low_numbers : goal.returns-then-have_low_numbers
returns-then-have_low_numbers c =
    let both : (length c.args.timed.now ≤ 256) × All (λ (txns : List TimedTxn). length txns ≤ 2 ^ 48) c.args.timed.now = elim c.if-timed-le-SESSIONS.branch [
      | then-timed-le-SESSIONS w ↦ (omega (arith, w.if-timed-le-SESSIONS.true), w.have_low_numbers.ensures.0 (sym w.value-is ∙ c.if-have_low_numbers.true))
      | else-timed-le-SESSIONS w ↦ absurd (let low = leb-true (length c.args.timed.now) 256 (sym w.value-is ∙ c.if-have_low_numbers.true) in omega (arith, low, w.if-timed-le-SESSIONS.false))
    ] in (
      λ low. record { sessions = both.0; numbers = both.1; keys = c.all_have_low_keys.ensures.0 low },
      λ room. c.all_have_low_keys.ensures.1 room.keys,
    )
