use Rattle.std.proofs.Common.{None}
use Rattle.round_state.specs.OpenRounds.{snapshot_in}
use Rattle.round_state.specs.Phases.{begun_in}
use Rattle.round_state.proofs.Behind.{known_after_end}
use Rattle.round_state.proofs.KeptFronts.{kept_abandoned, kept_asked}
use Rattle.round_state.proofs.OpenSnapshots.{no_snapshot}
use Rattle.round_state.proofs.state.Engine.abandon.Goals as goal

pub invariant_of-self : goal.invariant_of-self
invariant_of-self c =
    let e = c.self.inside in
    (kept_asked e.parts e.marks e.waits None (snapshot_in e.parts (begun_in c.end.new.self)) e.held e.round (no_snapshot e.parts (begun_in c.end.new.self) c.end.ensures.begun) (kept_abandoned e.parts e.marks e.waits (snapshot_in e.parts (begun_in e.phase)) e.held e.round c.self.invariant.0), known_after_end e.parts e.phase c.end.new.self c.end.ensures.begun c.end.ensures.known c.self.invariant.1)
