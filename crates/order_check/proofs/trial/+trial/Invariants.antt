use Rattle.std.proofs.Common.{◌≡◌, ℕ, ◌+◌, ◌*◌, ◌<◌}
use Rattle.order_check.specs.Fronts.{HasOrderInto}
use Rattle.order_check.proofs.trial.+trial.Given as goal

abbrev pub decreases-extend : goal.decreases-extend
decreases-extend l = 2 * l.more + 1

abbrev pub decreases-extend_into : goal.decreases-extend_into
decreases-extend_into l = 2 * l.more

abbrev pub invariant-extend-loop-session : goal.invariant-extend-loop-session
invariant-extend-loop-session l = record {
  kept : l.front.items ≡ l.fn.front.items;
  none : (s : ℕ) → s < l.session → ¬ (HasOrderInto l.parts l.fn.front.items s);
}
