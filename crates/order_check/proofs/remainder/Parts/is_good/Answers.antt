use Rattle.order_check.proofs.RulesKept.{rules_from_good, base_tells, fails_tell}
use Rattle.order_check.proofs.remainder.Parts.is_good.Goals as goal
use Rattle.order_check.proofs.remainder.Parts.is_good.Goals.{then-has_good_shape, else-has_good_shape, then-has_room, else-has_room}

pub returns-then-has_good_sessions : goal.returns-then-has_good_sessions
returns-then-has_good_sessions c =
    elim c.if-has_room.branch [
      | then-has_room w ↦ elim c.if-has_good_shape.branch [
        | then-has_good_shape v ↦ base_tells c.args.self.now c.as_slice.result.now c.are_below.result c.as_slice.ensures (c.has_good_shape.ensures.0 v.if-has_good_shape.true) (v.has_room.ensures.0 cc) (w.has_good_sessions.ensures.0 cc) c.are_below.ensures
        | else-has_good_shape v ↦ absurd cc
      ]
      | else-has_room w ↦ absurd cc
    ]

pub returns-else-has_good_sessions : goal.returns-else-has_good_sessions
returns-else-has_good_sessions c =
    elim c.if-has_room.branch [
      | then-has_room w ↦ fails_tell c.if-has_room.value c.if-has_good_sessions.false (λ good. let yes = w.has_good_sessions.ensures.1 (rules_from_good _ good).sessions in cc)
      | else-has_room w ↦ elim c.if-has_good_shape.branch [
        | then-has_good_shape v ↦ fails_tell c.if-has_room.value c.if-has_good_sessions.false (λ good. let yes = v.has_room.ensures.1 (rules_from_good _ good).room in cc)
        | else-has_good_shape v ↦ fails_tell c.if-has_room.value c.if-has_good_sessions.false (λ good. let yes = c.has_good_shape.ensures.1 (rules_from_good _ good).shape in cc)
      ]
    ]
