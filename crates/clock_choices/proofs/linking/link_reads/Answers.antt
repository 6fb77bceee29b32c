use Rattle.std.proofs.Common.{get_or, refl, All}
use Rattle.std.proofs.lemmas.List.Elements.{All-nil}
use Rattle.txn.specs.declared.transactions.TxnId.{TxnId}
use Rattle.session_clocks.specs.Reach.{IsThere}
use Rattle.clock_choices.specs.declared.reads.Read.{Read}
use Rattle.clock_choices.specs.Extending.{reached_in}
use Rattle.clock_choices.specs.Index.{IsRunThere, runs_of}
use Rattle.clock_choices.specs.Linking.{IsLinked}
use Rattle.clock_choices.proofs.Extending.{extends_both, extends_none, on_new}
use Rattle.clock_choices.proofs.Links.{all_taken, brings_more, brings_none, linked_stays}
use Rattle.clock_choices.proofs.linking.link_reads.Goals as goal

abbrev none : Read
none = record { reader = record { session = 0; number = 0 }; key = 0; writer = record { session = 0; number = 0 } }

pub loop-read-init : goal.loop-read-init
loop-read-init c =
    let graph = c.args.graph.now in
    record {
      extends = extends_none graph;
      brings = λ parts are all. (brings_none parts graph c.args.due.now, All-nil (IsLinked parts (reached_in graph)));
    }

pub link_read-requires : goal.link_read-requires
link_read-requires c =
    let was = c.loop-read.invariant in
    let read = get_or c.args.reads.now c.loop-read.read-index none in
    record {
      runs = on_new (λ gone received. All (IsRunThere gone received) (runs_of c.args.writers.now read.key)) was.extends (c.requires.runs read.key);
      reader = on_new (λ gone received. IsThere gone received read.reader) was.extends (c.requires.readers c.loop-read.read-index none c.loop-read-test.true);
    }

pub loop-read-preserved : goal.loop-read-preserved
loop-read-preserved c =
    let was = c.loop-read.invariant in
    let reads = c.args.reads.now in
    let index = c.loop-read.read-index in
    record {
      extends = extends_both was.extends c.link_read.ensures.extends;
      brings = λ parts are all. brings_more parts (λ (R : TxnId → TxnId → Type 0) (read : Read). IsLinked parts R read) reads index none c.loop-read-test.true refl
          (λ R S more read is. linked_stays R S more parts read is) (was.brings parts are all) (c.in_ok-link_read.ensures.brings parts (are (get_or reads index none).key) (all index none c.loop-read-test.true));
    }

pub returns-clause-brings : goal.returns-clause-brings
returns-clause-brings c = λ parts are all.
    let is = c.loop-read.invariant.brings parts are all in
    (is.0, all_taken (IsLinked parts (reached_in c.loop-read.graph)) c.args.reads.now c.loop-read.read-index c.loop-read-test.false is.1)
