use Rattle.std.proofs.Common.{◌∙◌, sym}
use Rattle.std.proofs.lemmas.Bool.{false≢true}
use Rattle.std.proofs.lemmas.List.Elements.{All-weaker}
use Rattle.txn.specs.declared.choices.Arc.{Arc}
use Rattle.txn.specs.declared.choices.Arc.TheVariants.{Read}
use Rattle.clock_choices.specs.declared.runs.Run.{Run}
use Rattle.clock_choices.specs.Index.{IsRunThere, runs_of}
use Rattle.clock_choices.specs.Runs.{Climbs}
use Rattle.clock_choices.proofs.Growths.{by_last, on_ok_two}
use Rattle.clock_choices.proofs.Links.{brings_none, brings_one}
use Rattle.clock_choices.proofs.Settled.{in_runs_there}
use Rattle.clock_choices.proofs.linking.link_read.Goals as goal

pub is_in_runs-requires : goal.is_in_runs-requires
is_in_runs-requires c = rw c.runs_of-runs.ensures
    (All-weaker (IsRunThere c.args.graph.now.gone c.args.graph.now.received) (λ (run : Run). Climbs run.numbers.items) (λ run is. is.climbs) (runs_of c.args.writers.now c.args.read.key) c.requires.runs)

pub link-requires : goal.link-requires
link-requires c =
    let graph = c.args.graph.now in
    let read = c.args.read in
    let found = (rw c.runs_of-runs.ensures at c.is_in_runs.ensures).0 c.if-not-is_in_runs.false in
    record { start = in_runs_there graph.gone graph.received (runs_of c.args.writers.now read.key) read.writer c.requires.runs found; end = c.requires.reader }

pub returns-then-not-is_in_runs-clause-brings : goal.returns-then-not-is_in_runs-clause-brings
returns-then-not-is_in_runs-clause-brings c = λ parts are is.
    let exact = rw c.runs_of-runs.ensures at c.is_in_runs.ensures in
    (brings_none parts c.args.graph.now c.args.due.now, λ written. absurd (false≢true (sym c.if-not-is_in_runs.true ∙ exact.1 (are.all c.args.read.writer written))))

pub returns-clause-brings : goal.returns-clause-brings
returns-clause-brings c =
    let read = c.args.read in
    let new = c.link.new.graph in
    let arc : Arc = Read read.key read.writer read.reader in
    let found = (rw c.runs_of-runs.ensures at c.is_in_runs.ensures).0 c.if-not-is_in_runs.false in
    on_ok_two c.link.result (λ growth arcs parts are is. (
      brings_one parts arc arcs (is, are.each read.writer found) growth,
      λ written. by_last new.gone new.received c.args.graph.now.arcs new.arcs arc arcs,
    )) c.link.ensures.growth c.link.ensures.arcs

pub returns-then-reaches-clause-brings : goal.returns-then-reaches-clause-brings
returns-then-reaches-clause-brings c = λ parts are is.
    (brings_none parts c.args.graph.now c.args.due.now, λ written. c.reaches.ensures.exact.0 c.if-reaches.true)
