use Rattle.std.proofs.Common.{List, Option, subst}
use Rattle.std.specs.Prelude.{IfSome}
use Rattle.txn.specs.declared.choices.Arc.{Arc}
use Rattle.session_clocks.specs.Paths.{IsPathOf}
use Rattle.session_clocks.proofs.FoundPaths.{path_reaches}
use Rattle.session_clocks.proofs.paths.find_path.Goals as goal

pub returns-in-Some : goal.returns-in-Some
returns-in-Some c =
    let path = c.in-Some.path in
    let is = subst (λ (found : Option (List Arc)). IfSome found (λ path. IsPathOf c.args.gone.now c.args.received.now c.args.arcs.now c.args.start path c.args.goal)) c.in-Some.is c.in_ok-path.ensures in
    (path_reaches c.args.gone.now c.args.received.now c.args.arcs.now c.args.start c.args.goal path is, is)
