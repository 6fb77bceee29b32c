use Rattle.std.proofs.Common.{◌≡◌, ◌++◌, [], sym, subst}
use Rattle.txn.specs.declared.choices.Choice.{Choice}
use Rattle.clock_choices.specs.declared.runs.Run.{Run}
use Rattle.clock_choices.specs.Adds.{Among}
use Rattle.clock_choices.specs.Extending.{reached_in}
use Rattle.clock_choices.specs.Index.{IsRunThere}
use Rattle.clock_choices.specs.Opens.{IsOfRun, read_of}
use Rattle.clock_choices.proofs.Countings.{tallies_both, tallies_none}
use Rattle.clock_choices.proofs.OpenReads.{run_of_read, runs_all, runs_apart}
use Rattle.clock_choices.proofs.Opens.{among_none, open_all, open_more, open_nothing, open_same}
use Rattle.clock_choices.proofs.open_choices.count_read.Goals as goal

pub loop-run-init : goal.loop-run-init
loop-run-init c =
    let R = reached_in c.args.graph.now in
    ([], tallies_none c.args.most c.args.tally.now, λ parts of reads written. open_nothing parts R (Among (IsOfRun c.args.read) []) (λ choice is. among_none parts R (IsOfRun c.args.read) c.args.runs.now choice))

pub count_run-requires-clause-run : goal.count_run-requires-clause-run
count_run-requires-clause-run c =
    let run : Run = c.run-item.result in
    let graph = c.args.graph.now in
    subst (λ (one : Run). IsRunThere graph.gone graph.received one) (sym c.run-item.is) (c.requires.runs c.loop-run.run-index run c.loop-run-test.true)

pub loop-run-preserved : goal.loop-run-preserved
loop-run-preserved c =
    let R = reached_in c.args.graph.now in
    let read = c.args.read in
    let runs = c.args.runs.now in
    let n = c.loop-run.run-index in
    let run : Run = c.run-item.result in
    let below = c.loop-run-test.true in
    let is = c.run-item.is in
    let was = c.loop-run.invariant in
    let new = c.in_ok-count_run.ensures in (
      was.0 ++ new.0,
      tallies_both c.args.most was.0 new.0 c.args.tally.now c.loop-run.tally c.count_run.new.tally was.1 new.1,
      λ parts of reads written. open_more parts R (IsOfRun read) runs n run below is (runs_apart parts R read runs c.requires.rise) was.0 new.0 (was.2 parts of reads written) (new.2 parts (run_of_read parts read runs c.requires.rise of reads written n run below is)),
    )

pub returns : goal.returns
returns c =
    let R = reached_in c.args.graph.now in
    let read = c.args.read in
    let runs = c.args.runs.now in
    let was = c.loop-run.invariant in (
      was.0,
      was.1,
      λ parts of reads written. open_same parts R (λ (choice : Choice). Among (IsOfRun read) runs choice) (λ (choice : Choice). read_of choice ≡ read) (runs_all parts R read runs of) was.0
          (open_all parts R (IsOfRun read) runs c.loop-run.run-index was.0 c.loop-run-test.false (was.2 parts of reads written)),
    )
