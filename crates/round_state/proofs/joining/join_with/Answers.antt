use Rattle.std.proofs.Common.{◌∙◌, sym}
use Rattle.round_state.proofs.joining.join_with.Goals as goal

pub join_anew-requires-clause-new : goal.join_anew-requires-clause-new
join_anew-requires-clause-new c = sym c.from.ensures ∙ c.if-from-sessions.true ∙ c.sessions.ensures
