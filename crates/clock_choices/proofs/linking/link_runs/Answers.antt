use Rattle.std.proofs.Common.{sym, subst, Contains}
use Rattle.std.proofs.lemmas.List.Elements.{All-nil, Contains-get_or}
use Rattle.txn.specs.declared.transactions.TxnId.{TxnId}
use Rattle.session_clocks.specs.Reach.{IsThere}
use Rattle.clock_choices.specs.declared.runs.Run.{Run}
use Rattle.clock_choices.specs.Extending.{reached_in}
use Rattle.clock_choices.specs.Index.{IsRunThere}
use Rattle.clock_choices.specs.Linking.{IsBeforeRun}
use Rattle.clock_choices.proofs.Extending.{extends_both, extends_none, on_new}
use Rattle.clock_choices.proofs.Links.{all_taken, before_run_stays, brings_more, brings_none}
use Rattle.clock_choices.proofs.linking.link_runs.Goals as goal

pub loop-run-init : goal.loop-run-init
loop-run-init c =
    let graph = c.args.graph.now in
    record {
      extends = extends_none graph;
      brings = λ parts are reads. (brings_none parts graph c.args.due.now, All-nil (IsBeforeRun (reached_in graph) c.args.reader));
    }

pub link_run-requires : goal.link_run-requires
link_run-requires c =
    let was = c.loop-run.invariant in
    let run : Run = c.run-item.result in
    record {
      run = on_new (λ gone received. IsRunThere gone received run) was.extends (subst (λ (one : Run). IsRunThere c.args.graph.now.gone c.args.graph.now.received one) (sym c.run-item.is) (c.requires.runs c.loop-run.run-index run c.loop-run-test.true));
      reader = on_new (λ gone received. IsThere gone received c.args.reader) was.extends c.requires.reader;
    }

pub loop-run-preserved : goal.loop-run-preserved
loop-run-preserved c =
    let was = c.loop-run.invariant in
    let runs = c.args.runs.now in
    let index = c.loop-run.run-index in
    let run : Run = c.run-item.result in
    let there : Contains runs run = subst (λ (one : Run). Contains runs one) (sym c.run-item.is) (Contains-get_or runs index run c.loop-run-test.true) in
    record {
      extends = extends_both was.extends c.link_run.ensures.extends;
      brings = λ parts are reads. brings_more parts (λ (R : TxnId → TxnId → Type 0) (one : Run). IsBeforeRun R c.args.reader one) runs index run c.loop-run-test.true c.run-item.is
          (λ R S more one is. before_run_stays R S more c.args.reader one is) (was.brings parts are reads) (c.in_ok-link_run.ensures.brings parts runs are there reads);
    }

pub returns-clause-brings : goal.returns-clause-brings
returns-clause-brings c = λ parts are reads.
    let is = c.loop-run.invariant.brings parts are reads in
    (is.0, all_taken (IsBeforeRun (reached_in c.loop-run.graph) c.args.reader) c.args.runs.now c.loop-run.run-index c.loop-run-test.false is.1)
