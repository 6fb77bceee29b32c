use Rattle.std.proofs.Common.{sym, subst, All, Contains}
use Rattle.std.proofs.lemmas.List.Elements.{All-nil, Contains-get_or}
use Rattle.txn.specs.declared.transactions.TxnId.{TxnId}
use Rattle.session_clocks.specs.Reach.{IsThere}
use Rattle.clock_choices.specs.declared.runs.Run.{Run}
use Rattle.clock_choices.specs.Extending.{reached_in}
use Rattle.clock_choices.specs.Index.{IsRunThere}
use Rattle.clock_choices.specs.Linking.{IsSessionLinked}
use Rattle.clock_choices.proofs.Extending.{extends_both, extends_none, on_new}
use Rattle.clock_choices.proofs.Links.{all_taken, brings_more, brings_none, session_linked_stays}
use Rattle.clock_choices.proofs.linking.link_writer.Goals as goal

pub loop-run-init : goal.loop-run-init
loop-run-init c =
    let graph = c.args.graph.now in
    record {
      extends = extends_none graph;
      brings = λ parts are all. (brings_none parts graph c.args.due.now, All-nil (IsSessionLinked (reached_in graph) c.args.session c.args.first c.args.readers.now));
    }

pub link_session-requires : goal.link_session-requires
link_session-requires c =
    let was = c.loop-run.invariant in
    let run : Run = c.run-item.result in
    record {
      run = on_new (λ gone received. IsRunThere gone received run) was.extends (subst (λ (one : Run). IsRunThere c.args.graph.now.gone c.args.graph.now.received one) (sym c.run-item.is) (c.requires.runs c.loop-run.run-index run c.loop-run-test.true));
      readers = on_new (λ gone received. All (IsThere gone received) c.args.readers.now) was.extends c.requires.readers;
    }

pub loop-run-preserved : goal.loop-run-preserved
loop-run-preserved c =
    let was = c.loop-run.invariant in
    let runs = c.args.runs.now in
    let index = c.loop-run.run-index in
    let run : Run = c.run-item.result in
    let there : Contains runs run = subst (λ (one : Run). Contains runs one) (sym c.run-item.is) (Contains-get_or runs index run c.loop-run-test.true) in
    record {
      extends = extends_both was.extends c.link_session.ensures.extends;
      brings = λ parts are all. brings_more parts (λ (R : TxnId → TxnId → Type 0) (one : Run). IsSessionLinked R c.args.session c.args.first c.args.readers.now one) runs index run c.loop-run-test.true c.run-item.is
          (λ R S more one is. session_linked_stays R S more c.args.session c.args.first c.args.readers.now one is) (was.brings parts are all) (c.in_ok-link_session.ensures.brings parts runs are there all);
    }

pub returns-clause-brings : goal.returns-clause-brings
returns-clause-brings c = λ parts are all.
    let is = c.loop-run.invariant.brings parts are all in
    (is.0, all_taken (IsSessionLinked (reached_in c.loop-run.graph) c.args.session c.args.first c.args.readers.now) c.args.runs.now c.loop-run.run-index c.loop-run-test.false is.1)
