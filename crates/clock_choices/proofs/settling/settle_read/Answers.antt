use Rattle.std.proofs.Common.{List, take, sym, subst, All}
use Rattle.std.proofs.lemmas.List.Elements.{All-nil, All-more, All-weaker}
use Rattle.session_clocks.specs.Reach.{IsThere}
use Rattle.clock_choices.specs.declared.runs.Run.{Run}
use Rattle.clock_choices.specs.Extending.{reached_in}
use Rattle.clock_choices.specs.Forcing.{AreRunChoices, IsRunSettled, unforced}
use Rattle.clock_choices.specs.Index.{IsRunThere}
use Rattle.clock_choices.proofs.Extending.{extends_both, extends_none, on_new}
use Rattle.clock_choices.proofs.Growths.{growth_none, growth_both, forces_both, run_stays}
use Rattle.clock_choices.proofs.Settled.{take_all}
use Rattle.clock_choices.proofs.settling.settle_read.Goals as goal

pub loop-run-init : goal.loop-run-init
loop-run-init c = record {
  extends = extends_none c.args.graph.now;
  growth = growth_none (reached_in c.args.graph.now) c.args.told.now.items;
  forces = λ parts choices. unforced;
  settled = All-nil (IsRunSettled (reached_in c.args.graph.now) c.args.told.now.items c.args.read);
}

pub settle_run-requires : goal.settle_run-requires
settle_run-requires c =
    let extends = (let was = c.loop-run.invariant in was.extends) in
    let run : Run = c.run-item.result in
    record {
      run = on_new (λ gone received. IsRunThere gone received run) extends (subst (λ (one : Run). IsRunThere c.args.graph.now.gone c.args.graph.now.received one) (sym c.run-item.is) (c.requires.runs c.loop-run.run-index run c.loop-run-test.true));
      reader = on_new (λ gone received. IsThere gone received c.args.read.reader) extends c.requires.reader;
      writer = on_new (λ gone received. IsThere gone received c.args.read.writer) extends c.requires.writer;
    }

pub loop-run-preserved : goal.loop-run-preserved
loop-run-preserved c =
    let was = c.loop-run.invariant in
    let now = c.in_ok-settle_run.ensures in
    let run : Run = c.run-item.result in
    let runs = c.args.runs.now in
    let index = c.loop-run.run-index in
    let read = c.args.read in
    let settled : Run → Type 0 = IsRunSettled (reached_in c.settle_run.new.graph) c.settle_run.new.told.items read in
    record {
      extends = extends_both was.extends c.settle_run.ensures.extends;
      growth = growth_both was.growth now.growth;
      forces = λ parts choices. forces_both was.extends (was.forces parts choices) (now.forces parts (subst (λ (one : Run). AreRunChoices parts read one) (sym c.run-item.is) (choices index run c.loop-run-test.true)));
      settled = All-more settled runs index run c.loop-run-test.true
          (All-weaker (IsRunSettled (reached_in c.loop-run.graph) c.loop-run.told.items read) settled (λ one is. run_stays now.growth read one is) (take index runs) was.settled)
          (subst settled c.run-item.is now.settled);
    }

pub returns-clause-settled : goal.returns-clause-settled
returns-clause-settled c =
    let was = c.loop-run.invariant in
    subst (λ (some : List Run). All (IsRunSettled (reached_in c.loop-run.graph) c.loop-run.told.items c.args.read) some) (take_all c.args.runs.now c.loop-run.run-index c.loop-run-test.false) was.settled
