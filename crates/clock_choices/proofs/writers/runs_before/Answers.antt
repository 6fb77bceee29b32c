use Rattle.std.proofs.Common.{ap, arith}
use Rattle.clock_choices.specs.declared.runs.Run.{Run}
use Rattle.clock_choices.proofs.WriterLists.{run_place_at}
use Rattle.clock_choices.proofs.writers.runs_before.Goals as goal

pub returns-then-runs-place : goal.returns-then-runs-place
returns-then-runs-place c = run_place_at c.args.runs.now c.args.session c.loop-place.place c.loop-place.invariant c.index-runs-place.result c.requires (omega (arith, c.loop-place-test.true)) c.index-runs-place.is (let same = ap (λ (run : Run). run.session) c.index-runs-place.is in omega (arith, same, c.if-runs-place.true))
