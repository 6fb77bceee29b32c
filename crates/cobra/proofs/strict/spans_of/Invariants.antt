use Rattle.std.proofs.Common.{◌≡◌, take}
use Rattle.cobra.specs.Strict.{spans_of}
use Rattle.cobra.proofs.strict.spans_of.Given as goal

abbrev pub invariant-loop-place : goal.invariant-loop-place
invariant-loop-place l = l.spans.items ≡ spans_of (take l.place l.began) (take l.place l.ended)
