use Rattle.std.proofs.Common.{get_or, refl}
use Rattle.std.proofs.lemmas.List.Elements.{All-nil}
use Rattle.txn.specs.declared.transactions.TxnId.{TxnId}
use Rattle.session_clocks.specs.Reach.{IsThere}
use Rattle.clock_choices.specs.Extending.{reached_in}
use Rattle.clock_choices.specs.Index.{IsRunThere}
use Rattle.clock_choices.specs.Linking.{IsBeforeRun}
use Rattle.clock_choices.proofs.Extending.{extends_both, extends_none, on_new}
use Rattle.clock_choices.proofs.Links.{all_taken, before_run_stays, brings_more, brings_none}
use Rattle.clock_choices.proofs.linking.link_readers.Goals as goal

abbrev none : TxnId
none = record { session = 0; number = 0 }

pub loop-reader-init : goal.loop-reader-init
loop-reader-init c =
    let graph = c.args.graph.now in
    record {
      extends = extends_none graph;
      brings = λ parts runs are there all. (brings_none parts graph c.args.due.now, All-nil (λ (reader : TxnId). IsBeforeRun (reached_in graph) reader c.args.run.now));
    }

pub link_run-requires : goal.link_run-requires
link_run-requires c =
    let was = c.loop-reader.invariant in
    record {
      run = on_new (λ gone received. IsRunThere gone received c.args.run.now) was.extends c.requires.run;
      reader = on_new (λ gone received. IsThere gone received (get_or c.args.readers.now c.loop-reader.reader-index none)) was.extends (c.requires.readers c.loop-reader.reader-index none c.loop-reader-test.true);
    }

pub loop-reader-preserved : goal.loop-reader-preserved
loop-reader-preserved c =
    let was = c.loop-reader.invariant in
    let readers = c.args.readers.now in
    let index = c.loop-reader.reader-index in
    let run = c.args.run.now in
    record {
      extends = extends_both was.extends c.link_run.ensures.extends;
      brings = λ parts runs are there all. brings_more parts (λ (R : TxnId → TxnId → Type 0) (reader : TxnId). IsBeforeRun R reader run) readers index none c.loop-reader-test.true refl
          (λ R S more reader is. before_run_stays R S more reader run is) (was.brings parts runs are there all) (c.in_ok-link_run.ensures.brings parts runs are there (all index none c.loop-reader-test.true));
    }

pub returns-clause-brings : goal.returns-clause-brings
returns-clause-brings c = λ parts runs are there all.
    let is = c.loop-reader.invariant.brings parts runs are there all in
    (is.0, all_taken (λ (reader : TxnId). IsBeforeRun (reached_in c.loop-reader.graph) reader c.args.run.now) c.args.readers.now c.loop-reader.reader-index c.loop-reader-test.false is.1)
