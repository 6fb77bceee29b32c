use Rattle.session_clocks.proofs.NodeLists.{HasLineMore-push}
use Rattle.session_clocks.proofs.nodes.Nodes.add_session.Goals as goal

pub returns-clause-ok : goal.returns-clause-ok
returns-clause-ok c = rw c.in_ok-push.ensures.items (HasLineMore-push c.args.self.now.keys.items _ c.new.ensures.items)
