use Rattle.std.proofs.Common.{All, sym}
use Rattle.std.proofs.lemmas.Result.{on_ok_weaker}
use Rattle.session_clocks.specs.Reach.{IsThere}
use Rattle.clock_choices.specs.Index.{IsRunThere, runs_of}
use Rattle.clock_choices.specs.Linking.{AreNodesOf}
use Rattle.clock_choices.proofs.Extending.{extends_both, on_new}
use Rattle.clock_choices.proofs.Links.{all_read, index_there, reads_are, txn_brings}
use Rattle.clock_choices.proofs.linking.link_txn.Goals as goal

pub link_reads-requires : goal.link_reads-requires
link_reads-requires c =
    let graph = c.args.graph.now in
    rw (c.reads_of-reads.ensures, c.deref.ensures.value) record {
      runs = index_there c.args.parts.now graph.gone graph.received c.args.index.now c.requires.index c.requires.nodes;
      readers = reads_are c.args.parts.now graph.gone graph.received c.args.index.now c.requires.index c.requires.nodes c.args.id;
    }

pub link_base_reads-requires : goal.link_base_reads-requires
link_base_reads-requires c =
    let graph = c.args.graph.now in
    let parts = c.args.parts.now in
    let index = c.args.index.now in
    record {
      runs = λ key. on_new (λ gone received. All (IsRunThere gone received) (runs_of index.writers key)) c.link_reads.ensures.extends (index_there parts graph.gone graph.received index c.requires.index c.requires.nodes key);
      writers = c.requires.index.writers;
      reader = on_new (λ gone received. IsThere gone received c.args.id) c.link_reads.ensures.extends (c.requires.nodes.there c.args.id c.requires.remains);
      reads = rw c.as_slice-list.ensures (all_read parts c.args.id c.in-Some.txn.now (sym c.in-Some.ensures));
    }

pub link_writes-requires : goal.link_writes-requires
link_writes-requires c = record {
  index = c.requires.index;
  nodes = on_new (λ gone received. AreNodesOf c.args.parts.now gone received) (extends_both c.link_reads.ensures.extends c.link_base_reads.ensures.extends) c.requires.nodes;
}

pub returns-clause-brings : goal.returns-clause-brings
returns-clause-brings c =
    let parts = c.args.parts.now in
    let index = c.args.index.now in
    let by_reads = rw (c.reads_of-reads.ensures, c.deref.ensures.value) at c.in_ok-link_reads.ensures.brings in
    let by_base = rw c.as_slice-list.ensures at c.in_ok-link_base_reads.ensures.brings in
    on_ok_weaker c.link_writes.result (λ by_writes. txn_brings parts index c.args.first c.args.id c.in-Some.txn.now c.requires.index (sym c.in-Some.ensures) (by_reads parts c.requires.index.writers (c.requires.index.reads c.args.id).each) by_base by_writes)
    (rw c.as_slice-keys.ensures at c.link_writes.ensures.brings)
