use Rattle.std.proofs.Common.{◌∙◌, arith}
use Rattle.logged_fragments.proofs.Idling.{flagged_next, unflagged_next, beyond_next}
use Rattle.logged_fragments.proofs.logged.make_idle.Goals.{then-place-len+then-flags-place, else-place-len, else-place-len-via-then-place-len+else-flags-place, else-place-len-via-else-place-len}
use Rattle.logged_fragments.proofs.logged.make_idle.Goals as goal

pub loop-place-preserved : goal.loop-place-preserved
loop-place-preserved c = elim c.if-place-len.branch [
  | then-place-len+then-flags-place w ↦ flagged_next c.args.flags.now c.args.txns.now c.loop-place.txns c.if-place-len.txns c.loop-place.place w.idle-none.result c.loop-place-test.true (omega (arith, w.if-place-len.true, c.len.ensures)) w.if-flags-place.true c.loop-place.invariant w.idle-none.ensures.0 w.idle-none.ensures.1 (w.txns-is ∙ w.set.ensures)
  | else-place-len w ↦ elim w.else-place-len.branch [
    | else-place-len-via-then-place-len+else-flags-place v ↦ unflagged_next c.args.flags.now c.args.txns.now c.loop-place.txns c.if-place-len.txns c.loop-place.place c.loop-place-test.true v.if-flags-place.false c.loop-place.invariant w.txns-is
    | else-place-len-via-else-place-len v ↦ beyond_next c.args.flags.now c.args.txns.now c.loop-place.txns c.if-place-len.txns c.loop-place.place (omega (arith, v.if-place-len.false, c.len.ensures)) c.loop-place.invariant w.txns-is
  ]
]
