use Rattle.std.proofs.Common.{take, sym, subst}
use Rattle.std.proofs.lemmas.List.Elements.{All-more, All-nil, All-weaker}
use Rattle.txn.specs.declared.transactions.TxnId.{TxnId}
use Rattle.session_clocks.specs.Reach.{Reaches}
use Rattle.clock_choices.specs.declared.runs.Run.{Run}
use Rattle.clock_choices.specs.Index.{IsRunThere}
use Rattle.clock_choices.specs.Passing.{IsNotedInRun}
use Rattle.clock_choices.proofs.Links.{all_taken}
use Rattle.clock_choices.proofs.Passes.{noted_run_stays}
use Rattle.clock_choices.proofs.passing.note_runs.Goals as goal

pub loop-run-init : goal.loop-run-init
loop-run-init c =
    let graph = c.args.graph.now in
    record { stay = λ other there. there; noted = All-nil (IsNotedInRun (Reaches graph.gone graph.received graph.arcs) c.args.due.now c.args.id c.args.earlier) }

pub note_run-requires : goal.note_run-requires
note_run-requires c =
    let run : Run = c.run-item.result in
    record {
      run = subst (λ (one : Run). IsRunThere c.args.graph.now.gone c.args.graph.now.received one) (sym c.run-item.is) (c.requires.runs c.loop-run.run-index run c.loop-run-test.true);
      id = c.requires.id;
      earlier = c.requires.earlier;
    }

pub loop-run-preserved : goal.loop-run-preserved
loop-run-preserved c =
    let was = c.loop-run.invariant in
    let graph = c.args.graph.now in
    let R : TxnId → TxnId → Type 0 = Reaches graph.gone graph.received graph.arcs in
    let due = c.loop-run.due in
    let then = c.note_run.new.due in
    let runs = c.args.runs.now in
    let index = c.loop-run.run-index in
    let run : Run = c.run-item.result in
    record {
      stay = λ other there. c.in_ok-note_run.ensures.stay other (was.stay other there);
      noted = All-more (IsNotedInRun R then c.args.id c.args.earlier) runs index run c.loop-run-test.true
          (All-weaker (IsNotedInRun R due c.args.id c.args.earlier) (IsNotedInRun R then c.args.id c.args.earlier) (λ one is. noted_run_stays R due then c.in_ok-note_run.ensures.stay c.args.id c.args.earlier one is) (take index runs) was.noted)
          (subst (λ (one : Run). IsNotedInRun R then c.args.id c.args.earlier one) c.run-item.is c.in_ok-note_run.ensures.noted);
    }

pub returns-clause-noted : goal.returns-clause-noted
returns-clause-noted c =
    let graph = c.args.graph.now in
    all_taken (IsNotedInRun (Reaches graph.gone graph.received graph.arcs) c.loop-run.due c.args.id c.args.earlier) c.args.runs.now c.loop-run.run-index c.loop-run-test.false c.loop-run.invariant.noted
