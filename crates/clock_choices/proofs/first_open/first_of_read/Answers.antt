use Rattle.std.proofs.Common.{◌≡◌, sym, subst}
use Rattle.txn.specs.declared.choices.Choice.{Choice}
use Rattle.clock_choices.specs.declared.runs.Run.{Run}
use Rattle.clock_choices.specs.Adds.{Among}
use Rattle.clock_choices.specs.Extending.{reached_in}
use Rattle.clock_choices.specs.Index.{IsRunThere}
use Rattle.clock_choices.specs.Opens.{IsOfRun, read_of}
use Rattle.clock_choices.proofs.OpenReads.{run_of_read, runs_all, runs_apart}
use Rattle.clock_choices.proofs.Opens.{among_none, first_at, first_same, none_all, none_more, none_same}
use Rattle.clock_choices.proofs.first_open.first_of_read.Goals as goal

pub loop-run-init : goal.loop-run-init
loop-run-init c = λ parts of reads written choice is. among_none parts (reached_in c.args.graph.now) (IsOfRun c.args.read) c.args.runs.now choice

pub first_in_run-requires-clause-run : goal.first_in_run-requires-clause-run
first_in_run-requires-clause-run c =
    let run : Run = c.run-item.result in
    let graph = c.args.graph.now in
    subst (λ (one : Run). IsRunThere graph.gone graph.received one) (sym c.run-item.is) (c.requires.runs c.loop-run.run-index run c.loop-run-test.true)

pub returns-in-Some : goal.returns-in-Some
returns-in-Some c = λ parts of reads written.
    let R = reached_in c.args.graph.now in
    let read = c.args.read in
    let runs = c.args.runs.now in
    let n = c.loop-run.run-index in
    let run : Run = c.run-item.result in
    let below = c.loop-run-test.true in
    let is = c.run-item.is in
    first_same parts R (λ (choice : Choice). Among (IsOfRun read) runs choice) (λ (choice : Choice). read_of choice ≡ read) (runs_all parts R read runs of) c.in-Some.choice
    (first_at parts R (IsOfRun read) runs n run below is (runs_apart parts R read runs c.requires.rise) c.in-Some.choice (c.loop-run.invariant parts of reads written)
    (c.in-Some.ensures parts (run_of_read parts read runs c.requires.rise of reads written n run below is)))

pub loop-run-preserved : goal.loop-run-preserved
loop-run-preserved c = λ parts of reads written.
    let R = reached_in c.args.graph.now in
    let read = c.args.read in
    let runs = c.args.runs.now in
    let n = c.loop-run.run-index in
    let run : Run = c.run-item.result in
    let below = c.loop-run-test.true in
    let is = c.run-item.is in
    none_more parts R (IsOfRun read) runs n run below is (c.loop-run.invariant parts of reads written) (c.in_default.ensures parts (run_of_read parts read runs c.requires.rise of reads written n run below is))

pub returns : goal.returns
returns c = λ parts of reads written.
    let R = reached_in c.args.graph.now in
    let read = c.args.read in
    let runs = c.args.runs.now in
    none_same parts R (λ (choice : Choice). Among (IsOfRun read) runs choice) (λ (choice : Choice). read_of choice ≡ read) (runs_all parts R read runs of)
    (none_all parts R (IsOfRun read) runs c.loop-run.run-index c.loop-run-test.false (c.loop-run.invariant parts of reads written))
