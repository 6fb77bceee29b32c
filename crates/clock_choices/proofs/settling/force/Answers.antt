use Rattle.std.proofs.Common.{Option, MatchOption, subst}
use Rattle.std.specs.Prelude.{⊤}
use Rattle.std.proofs.lemmas.Result.{on_ok_weaker}
use Rattle.txn.specs.declared.transactions.TxnId.{TxnId}
use Rattle.session_clocks.specs.Graphs.{HasNode}
use Rattle.clock_choices.specs.Extending.{reached_in}
use Rattle.clock_choices.specs.Forcing.{Decides, unforced}
use Rattle.clock_choices.proofs.Growths.{growth_none}
use Rattle.clock_choices.proofs.settling.force.Goals as goal

pub take-requires-clause-other : goal.take-requires-clause-other
take-requires-clause-other c = subst (λ (found : Option TxnId). MatchOption found ⊤ (HasNode c.args.graph.now)) c.in-Some.is c.requires.found

pub returns-in_default-clause-growth : goal.returns-in_default-clause-growth
returns-in_default-clause-growth c = growth_none (reached_in c.args.graph.now) c.args.told.now.items

pub returns-in_default-clause-forces : goal.returns-in_default-clause-forces
returns-in_default-clause-forces c parts run decides choices = unforced

pub returns-clause-forces : goal.returns-clause-forces
returns-clause-forces c = on_ok_weaker c.take.result
    (λ forces parts run decides choices. forces parts run (subst (λ (found : Option TxnId). Decides (reached_in c.args.graph.now) c.args.side c.args.read run found) c.in-Some.is decides) choices) c.take.ensures.forces

pub returns-clause-settled : goal.returns-clause-settled
returns-clause-settled c = on_ok_weaker c.take.result
    (λ settled run there decides. settled run there (subst (λ (found : Option TxnId). Decides (reached_in c.args.graph.now) c.args.side c.args.read run found) c.in-Some.is decides)) c.take.ensures.settled
