use Rattle.std.proofs.Common.{ℕ, List, All, take}
use Rattle.session_clocks.specs.Paths.{Leads}
use Rattle.session_clocks.specs.Reach.{IsThere}
use Rattle.session_clocks.specs.Trees.{IsBetween, LeadsOn}
use Rattle.session_clocks.proofs.paths.walk.Given as goal

abbrev pub invariant-loop-place : goal.invariant-loop-place
invariant-loop-place l = record {
  on : LeadsOn l.goal (take l.place l.tree) l.here;
  there : (gone received : List ℕ) → IsThere gone received l.fn.start → All (IsBetween gone received) l.tree → IsThere gone received l.here;
  leads : (gone received : List ℕ) → IsThere gone received l.fn.start → All (IsBetween gone received) l.tree → Leads gone received l.tree l.fn.start l.path.items l.here;
}
