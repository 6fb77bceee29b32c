use Rattle.std.proofs.Common.{ℕ, subst, arith}
use Rattle.session_clocks.specs.Lines.{AreEmptyLines}
use Rattle.session_clocks.proofs.LineLists.{AreEmptyLines-push}
use Rattle.session_clocks.proofs.lines.no_lines.Goals as goal

pub loop-preserved : goal.loop-preserved
loop-preserved c = rw c.in_ok-push.ensures.items (AreEmptyLines-push c.loop.counter c.loop.lines.items c.new.result c.new.ensures.items c.loop.invariant)

pub returns : goal.returns
returns c = let P : ℕ → Type 0 = λ n. AreEmptyLines n c.loop.lines.items in subst P (omega arith) c.loop.invariant
