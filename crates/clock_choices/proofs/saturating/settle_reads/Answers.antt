use Rattle.std.proofs.Common.{List, get_or, take, subst, All}
use Rattle.std.proofs.lemmas.List.Elements.{All-nil, All-more, All-weaker}
use Rattle.clock_choices.specs.declared.reads.Read.{Read}
use Rattle.clock_choices.specs.Extending.{reached_in}
use Rattle.clock_choices.specs.Forcing.{unforced}
use Rattle.clock_choices.specs.Index.{IsRunThere, runs_of}
use Rattle.clock_choices.specs.Stages.{IsReadSettled}
use Rattle.clock_choices.proofs.Extending.{extends_both, extends_none, on_new}
use Rattle.clock_choices.proofs.Growths.{growth_none, growth_both, forces_both}
use Rattle.clock_choices.proofs.Settled.{read_stays, take_all}
use Rattle.clock_choices.proofs.saturating.settle_reads.Goals as goal

abbrev none : Read
none = record { reader = record { session = 0; number = 0 }; key = 0; writer = record { session = 0; number = 0 } }

pub loop-read-init : goal.loop-read-init
loop-read-init c = record {
  extends = extends_none c.args.graph.now;
  growth = growth_none (reached_in c.args.graph.now) c.args.due.now;
  forces = λ parts are reads. unforced;
  settled = λ parts are. All-nil (IsReadSettled parts (reached_in c.args.graph.now) c.args.due.now);
}

pub settle_due-requires-clause-runs : goal.settle_due-requires-clause-runs
settle_due-requires-clause-runs c =
    let was = c.loop-read.invariant in
    let key = (get_or c.args.reads.now c.loop-read.read-index none).key in
    on_new (λ gone received. All (IsRunThere gone received) (runs_of c.args.writers.now key)) was.extends (c.requires.runs key)

pub loop-read-preserved : goal.loop-read-preserved
loop-read-preserved c =
    let was = c.loop-read.invariant in
    let now = c.in_ok-settle_due.ensures in
    let reads = c.args.reads.now in
    let index = c.loop-read.read-index in
    let key = (get_or reads index none).key in
    record {
      extends = extends_both was.extends c.settle_due.ensures.extends;
      growth = growth_both was.growth now.growth;
      forces = λ parts are all. forces_both was.extends (was.forces parts are all) (now.forces parts (are key) (all index none c.loop-read-test.true));
      settled = λ parts are.
          let settled : Read → Type 0 = IsReadSettled parts (reached_in c.settle_due.new.graph) c.settle_due.new.due in
          All-more settled reads index none c.loop-read-test.true
          (All-weaker (IsReadSettled parts (reached_in c.loop-read.graph) c.loop-read.due) settled (λ read is. read_stays now.growth parts read is) (take index reads) (was.settled parts are)) (now.settled parts (are key));
    }

pub returns-clause-settled : goal.returns-clause-settled
returns-clause-settled c = λ parts are.
    let was = c.loop-read.invariant in
    subst (λ (some : List Read). All (IsReadSettled parts (reached_in c.loop-read.graph) c.loop-read.due) some) (take_all c.args.reads.now c.loop-read.read-index c.loop-read-test.false) (was.settled parts are)
