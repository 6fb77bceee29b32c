use Rattle.std.proofs.Common.{None, refl, sym, ap, subst}
use Rattle.pending_reads.specs.Waiting.{Index}
use Rattle.round_state.specs.EngineState.{engine_over}
use Rattle.round_state.specs.Kept.{IsKept}
use Rattle.round_state.proofs.Behind.{known_none}
use Rattle.round_state.proofs.Keeping.{kept_fresh, fresh_holds}
use Rattle.round_state.proofs.state.Engine.open.Goals as goal

pub invariant_of-result : goal.invariant_of-result
invariant_of-result c = (
  subst (λ (index : Index). IsKept c.in_ok-empty_parts.field-0 c.in_ok-new.field-0 index None None 0) (sym c.new-2.ensures)
      (kept_fresh c.args.most_sessions c.args.sessions c.args.limit c.in_ok-empty_parts.field-0 c.in_ok-new.field-0 c.in_ok-empty_parts.ensures c.in_ok-new.ensures (c.if-not-is_sessions.ensures.0 refl) (c.if-not-is_limit.ensures.0 refl)),
  known_none c.in_ok-empty_parts.field-0 None None refl refl,
)

pub returns-clause-holds : goal.returns-clause-holds
returns-clause-holds c =
    fresh_holds c.args.most_sessions c.args.sessions c.args.limit (engine_over c.in_ok-empty_parts.field-0) c.stands_for_what_remains.ensures (ap engine_over c.in_ok-empty_parts.ensures)
