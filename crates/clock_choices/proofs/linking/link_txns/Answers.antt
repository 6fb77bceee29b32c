use Rattle.std.proofs.Common.{refl}
use Rattle.std.proofs.lemmas.List.Elements.{All-nil}
use Rattle.txn.specs.declared.transactions.TxnId.{TxnId}
use Rattle.clock_choices.specs.Extending.{reached_in}
use Rattle.clock_choices.specs.Linking.{AreNodesOf, IsTxnLinked}
use Rattle.clock_choices.proofs.Extending.{extends_both, extends_none, on_new}
use Rattle.clock_choices.proofs.Links.{all_taken, brings_more, brings_none, txn_linked_stays}
use Rattle.clock_choices.proofs.linking.link_txns.Goals as goal

abbrev none : TxnId
none = record { session = 0; number = 0 }

pub loop-id-init : goal.loop-id-init
loop-id-init c =
    let graph = c.args.graph.now in
    record {
      extends = extends_none graph;
      brings = (brings_none c.args.parts.now graph c.args.due.now, All-nil (IsTxnLinked c.args.parts.now (reached_in graph) c.args.first));
    }

pub link_txn-requires : goal.link_txn-requires
link_txn-requires c =
    let was = c.loop-id.invariant in
    record {
      index = c.requires.index;
      nodes = on_new (λ gone received. AreNodesOf c.args.parts.now gone received) was.extends c.requires.nodes;
      remains = c.requires.remain c.loop-id.id-index none c.loop-id-test.true;
    }

pub loop-id-preserved : goal.loop-id-preserved
loop-id-preserved c =
    let was = c.loop-id.invariant in
    let ids = c.args.ids.now in
    let index = c.loop-id.id-index in
    let parts = c.args.parts.now in
    record {
      extends = extends_both was.extends c.link_txn.ensures.extends;
      brings = brings_more parts (λ (R : TxnId → TxnId → Type 0) (id : TxnId). IsTxnLinked parts R c.args.first id) ids index none c.loop-id-test.true refl
          (λ R S more id is. txn_linked_stays R S more parts c.args.first id is) was.brings c.in_ok-link_txn.ensures.brings;
    }

pub returns-clause-brings : goal.returns-clause-brings
returns-clause-brings c =
    let is = c.loop-id.invariant.brings in
    (is.0, all_taken (IsTxnLinked c.args.parts.now (reached_in c.loop-id.graph) c.args.first) c.args.ids.now c.loop-id.id-index c.loop-id-test.false is.1)
