use Rattle.std.proofs.Common.{ℕ, get_or, refl, All}
use Rattle.std.proofs.lemmas.List.Elements.{All-nil}
use Rattle.txn.specs.declared.transactions.TxnId.{TxnId}
use Rattle.session_clocks.specs.Reach.{IsThere}
use Rattle.clock_choices.specs.Extending.{reached_in}
use Rattle.clock_choices.specs.Index.{IsRunThere, runs_of}
use Rattle.clock_choices.specs.Linking.{AreWritersLinked}
use Rattle.clock_choices.specs.Lists.{list_at}
use Rattle.clock_choices.proofs.Extending.{extends_both, extends_none, on_new}
use Rattle.clock_choices.proofs.Links.{all_taken, base_readers, brings_more, brings_none, index_there, readers_there, writers_linked_stay}
use Rattle.clock_choices.proofs.linking.link_writes.Goals as goal

pub loop-key-init : goal.loop-key-init
loop-key-init c =
    let graph = c.args.graph.now in
    record {
      extends = extends_none graph;
      brings = (brings_none c.args.parts.now graph c.args.due.now, All-nil (AreWritersLinked (reached_in graph) c.args.index.now c.args.session c.args.first));
    }

pub link_writer-requires : goal.link_writer-requires
link_writer-requires c =
    let was = c.loop-key.invariant in
    let graph = c.args.graph.now in
    let parts = c.args.parts.now in
    let index = c.args.index.now in
    let key = get_or c.args.keys.now c.loop-key.key-index 0 in
    rw (c.runs_of-runs.ensures, c.list_of-readers.ensures) record {
      runs = on_new (λ gone received. All (IsRunThere gone received) (runs_of index.writers key)) was.extends (index_there parts graph.gone graph.received index c.requires.index c.requires.nodes key);
      readers = on_new (λ gone received. All (IsThere gone received) (list_at index.base key)) was.extends (readers_there parts graph.gone graph.received index c.requires.index c.requires.nodes key);
    }

pub loop-key-preserved : goal.loop-key-preserved
loop-key-preserved c =
    let was = c.loop-key.invariant in
    let start = c.args.graph.now in
    let keys = c.args.keys.now in
    let place = c.loop-key.key-index in
    let parts = c.args.parts.now in
    let index = c.args.index.now in
    let key = get_or keys place 0 in
    let brings = rw (c.runs_of-runs.ensures, c.list_of-readers.ensures) at c.in_ok-link_writer.ensures.brings in
    record {
      extends = extends_both was.extends c.link_writer.ensures.extends;
      brings = brings_more parts (λ (R : TxnId → TxnId → Type 0) (one : ℕ). AreWritersLinked R index c.args.session c.args.first one) keys place 0 c.loop-key-test.true refl
          (λ R S more one is. writers_linked_stay R S more index c.args.session c.args.first one is) was.brings (brings parts (c.requires.index.writers key) (base_readers parts start.gone start.received index c.requires.index c.requires.nodes key));
    }

pub returns-clause-brings : goal.returns-clause-brings
returns-clause-brings c =
    let is = c.loop-key.invariant.brings in
    (is.0, all_taken (AreWritersLinked (reached_in c.loop-key.graph) c.args.index.now c.args.session c.args.first) c.args.keys.now c.loop-key.key-index c.loop-key-test.false is.1)
