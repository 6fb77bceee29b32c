use Rattle.std.proofs.Common.{ℕ, get_or, refl, All}
use Rattle.std.proofs.lemmas.List.Elements.{All-nil}
use Rattle.txn.specs.declared.transactions.Source.{Source}
use Rattle.txn.specs.declared.transactions.Source.TheVariants.{Init}
use Rattle.txn.specs.declared.transactions.TxnId.{TxnId}
use Rattle.session_clocks.specs.Reach.{IsThere}
use Rattle.clock_choices.specs.Extending.{reached_in}
use Rattle.clock_choices.specs.Index.{IsRunThere, runs_of}
use Rattle.clock_choices.specs.Linking.{IsBaseLinked}
use Rattle.clock_choices.proofs.Extending.{extends_both, extends_none, on_new}
use Rattle.clock_choices.proofs.Links.{all_taken, base_linked_stays, brings_more, brings_none}
use Rattle.clock_choices.proofs.linking.link_base_reads.Goals as goal

abbrev none : ℕ × Source
none = (0, Init)

pub loop-key-init : goal.loop-key-init
loop-key-init c =
    let graph = c.args.graph.now in
    record {
      extends = extends_none graph;
      brings = (brings_none c.args.parts.now graph c.args.due.now, All-nil (IsBaseLinked c.args.parts.now (reached_in graph) c.args.writers.now c.args.reader));
    }

pub link_base_read-requires : goal.link_base_read-requires
link_base_read-requires c =
    let was = c.loop-key.invariant in
    let read = get_or c.args.list.now c.loop-key.key-index none in
    record {
      runs = on_new (λ gone received. All (IsRunThere gone received) (runs_of c.args.writers.now read.0)) was.extends (c.requires.runs read.0);
      writers = c.requires.writers read.0;
      reader = on_new (λ gone received. IsThere gone received c.args.reader) was.extends c.requires.reader;
      reads = c.requires.reads c.loop-key.key-index none c.loop-key-test.true;
    }

pub loop-key-preserved : goal.loop-key-preserved
loop-key-preserved c =
    let was = c.loop-key.invariant in
    let list = c.args.list.now in
    let index = c.loop-key.key-index in
    let parts = c.args.parts.now in
    record {
      extends = extends_both was.extends c.link_base_read.ensures.extends;
      brings = brings_more parts (λ (R : TxnId → TxnId → Type 0) (read : ℕ × Source). IsBaseLinked parts R c.args.writers.now c.args.reader read) list index none c.loop-key-test.true refl
          (λ R S more read is. base_linked_stays R S more parts c.args.writers.now c.args.reader read is) was.brings c.in_ok-link_base_read.ensures.brings;
    }

pub returns-clause-brings : goal.returns-clause-brings
returns-clause-brings c =
    let is = c.loop-key.invariant.brings in
    (is.0, all_taken (IsBaseLinked c.args.parts.now (reached_in c.loop-key.graph) c.args.writers.now c.args.reader) c.args.list.now c.loop-key.key-index c.loop-key-test.false is.1)
