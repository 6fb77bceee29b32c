use Rattle.std.proofs.Common.{rules}
use Rattle.session_clocks.proofs.NodeLists.{retained}
use Rattle.session_clocks.proofs.nodes.drop_nodes.Goals as goal

pub returns : goal.returns
returns c = retained _ c.args.gone.now _ (λ key shown left keep next called. search rules) _ _ _ c.retain.ensures.retained
