use Rattle.std.proofs.Common.{ℕ, length-set, refl, arith}
use Rattle.clock_choices.proofs.UpTo.{goes_both, goes_none}
use Rattle.clock_choices.proofs.by_sources.add_round.Goals as goal

pub loop-session-init : goal.loop-session-init
loop-session-init c = record { up = goes_none c.args.parts.now c.args.graph.now c.requires.graph; ready = refl }

pub add_ready-requires : goal.add_ready-requires
add_ready-requires c =
    let was = c.loop-session.invariant in
    let up = was.up in
    record {
      good = c.requires.good;
      index = c.requires.index;
      graph = up.up_to;
      session = (let sessions = up.up_to.sessions in omega (arith, sessions, c.loop-session-test.true, c.sessions-session-end.ensures));
    }

pub loop-session-preserved : goal.loop-session-preserved
loop-session-preserved c =
    let was = c.loop-session.invariant in
    record {
      up = goes_both c.args.parts.now c.args.graph.now c.loop-session.graph c.add_ready.new.graph was.up c.in_ok-more.ensures;
      ready = (let len = length-set {A = ℕ} in let same = was.ready in omega (arith, len, same));
    }
