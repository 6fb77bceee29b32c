use Rattle.std.proofs.Common.{◌∙◌, OnOk, sym}
use Rattle.std.proofs.lemmas.Bool.{false≢true}
use Rattle.std.proofs.lemmas.List.Elements.{All-weaker}
use Rattle.std.proofs.lemmas.Result.{on_ok_weaker}
use Rattle.clock_choices.specs.declared.runs.Run.{Run}
use Rattle.clock_choices.specs.Due.{AreNoted}
use Rattle.clock_choices.specs.Extending.{reached_in}
use Rattle.clock_choices.specs.Forcing.{unforced}
use Rattle.clock_choices.specs.Index.{IsRunThere, runs_of}
use Rattle.clock_choices.specs.Runs.{Climbs}
use Rattle.clock_choices.proofs.Growths.{growth_none}
use Rattle.clock_choices.proofs.Settled.{growth_noted, in_runs_there, read_settled, runs_choices, unwritten_settled}
use Rattle.clock_choices.proofs.saturating.settle_due.Goals as goal
use Rattle.clock_choices.proofs.saturating.settle_due.Goals.{After-drop-told-2}

pub is_in_runs-requires : goal.is_in_runs-requires
is_in_runs-requires c = rw c.runs_of-runs.ensures
    (All-weaker (IsRunThere c.args.graph.now.gone c.args.graph.now.received) (λ (run : Run). Climbs run.numbers.items) (λ run is. is.climbs) (runs_of c.args.writers.now c.args.read.key) c.requires.runs)

pub settle_read-requires : goal.settle_read-requires
settle_read-requires c =
    let graph = c.args.graph.now in
    let runs = runs_of c.args.writers.now c.args.read.key in
    let found = (rw c.runs_of-runs.ensures at c.is_in_runs.ensures).0 c.if-not-is_in_runs.false in
    rw c.runs_of-runs.ensures record {
      runs = c.requires.runs;
      reader = c.requires.reader;
      writer = in_runs_there graph.gone graph.received runs c.args.read.writer c.requires.runs found;
    }

pub returns-then-not-is_in_runs-clause-growth : goal.returns-then-not-is_in_runs-clause-growth
returns-then-not-is_in_runs-clause-growth c = growth_none (reached_in c.args.graph.now) c.args.due.now

pub returns-then-not-is_in_runs-clause-forces : goal.returns-then-not-is_in_runs-clause-forces
returns-then-not-is_in_runs-clause-forces c parts are is = unforced

pub returns-then-not-is_in_runs-clause-settled : goal.returns-then-not-is_in_runs-clause-settled
returns-then-not-is_in_runs-clause-settled c = λ parts are.
    let exact = rw c.runs_of-runs.ensures at c.is_in_runs.ensures in
    unwritten_settled parts c.args.read (runs_of c.args.writers.now c.args.read.key) c.args.due.now are (λ found. false≢true (sym c.if-not-is_in_runs.true ∙ exact.1 found))

-- whoever was told is noted
noted : (c : After-drop-told-2) → OnOk c.note_all.result (AreNoted c.args.due.now c.note_all.new.self c.settle_read.new.told.items)
noted c = rw c.deref.ensures.value at c.note_all.ensures

pub returns-clause-growth : goal.returns-clause-growth
returns-clause-growth c =
    let growth = rw c.new-told.ensures.items at c.in_ok-settle_read.ensures.growth in
    on_ok_weaker c.note_all.result (λ is. growth_noted growth is) (noted c)

pub returns-clause-forces : goal.returns-clause-forces
returns-clause-forces c =
    let found = (rw c.runs_of-runs.ensures at c.is_in_runs.ensures).0 c.if-not-is_in_runs.false in
    let forces = rw c.runs_of-runs.ensures at c.in_ok-settle_read.ensures.forces in
    on_ok_weaker c.note_all.result (λ is parts are reads. forces parts (runs_choices parts c.args.read (runs_of c.args.writers.now c.args.read.key) are reads found)) (noted c)

pub returns-clause-settled : goal.returns-clause-settled
returns-clause-settled c =
    let settled = rw c.runs_of-runs.ensures at c.in_ok-settle_read.ensures.settled in
    on_ok_weaker c.note_all.result (λ is parts are. read_settled parts c.args.read (runs_of c.args.writers.now c.args.read.key) are c.settle_read.new.told.items c.args.due.now c.note_all.new.self is settled) (noted c)
