use Rattle.std.proofs.Common.{sym}
use Rattle.std.proofs.lemmas.Result.{on_ok_weaker}
use Rattle.session_clocks.specs.Reach.{Reaches}
use Rattle.clock_choices.proofs.Links.{index_there}
use Rattle.clock_choices.proofs.Passes.{noted_txn}
use Rattle.clock_choices.proofs.passing.note_txn.Goals as goal

pub note_keys-requires : goal.note_keys-requires
note_keys-requires c = record {
  runs = index_there c.args.parts.now c.args.graph.now.gone c.args.graph.now.received c.args.index.now c.requires.index c.requires.nodes;
  id = c.requires.nodes.there c.args.id c.requires.remains;
}

pub returns-clause-noted : goal.returns-clause-noted
returns-clause-noted c =
    let graph = c.args.graph.now in
    on_ok_weaker c.note_keys.result (λ all. noted_txn (Reaches graph.gone graph.received graph.arcs) c.note_keys.new.due c.args.id c.args.parts.now c.args.index.now c.in-Some.txn.now c.requires.index (sym c.in-Some.ensures) all) (rw c.as_slice-keys.ensures at c.note_keys.ensures.noted)
