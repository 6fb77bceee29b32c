use Rattle.std.proofs.Common.{◌≡◌, ◌∙◌, sym, subst}
use Rattle.std.specs.Prelude.{MatchOption}
use Rattle.std.proofs.lemmas.Bool.{false≢true}
use Rattle.std.proofs.lemmas.List.Elements.{All-weaker}
use Rattle.txn.specs.declared.transactions.Source.{Source}
use Rattle.txn.specs.declared.transactions.Source.TheVariants.{By}
use Rattle.txn.specs.declared.choices.Choice.{Choice}
use Rattle.order_check.specs.Known.{ReadsKey, WritesKey}
use Rattle.clock_choices.specs.declared.reads.Read.{Read}
use Rattle.clock_choices.specs.declared.runs.Run.{Run}
use Rattle.clock_choices.specs.Extending.{reached_in}
use Rattle.clock_choices.specs.Index.{runs_of}
use Rattle.clock_choices.specs.Opens.{IsFirstOf, IsOfSource, NoneOpen, read_of}
use Rattle.clock_choices.specs.Runs.{Climbs}
use Rattle.clock_choices.specs.Writers.{IsRun}
use Rattle.clock_choices.proofs.Links.{index_there}
use Rattle.clock_choices.proofs.OpenReads.{none_of_init, none_unwritten, source_is}
use Rattle.clock_choices.proofs.Opens.{found_same}
use Rattle.clock_choices.proofs.Remaining.{reader_remains, writer_remains}
use Rattle.clock_choices.proofs.first_open.first_of_source.Goals as goal

pub returns-in_default : goal.returns-in_default
returns-in_default c =
    let parts = c.args.asked.now.parts.now in
    let R = reached_in c.args.asked.now.graph.now in
    subst (λ (source : Source). NoneOpen parts R (IsOfSource c.args.reader (c.args.key, source))) (sym c.in_default.is) (none_of_init parts R c.args.reader c.args.key)

pub is_in_runs-requires : goal.is_in_runs-requires
is_in_runs-requires c =
    let asked = c.requires.asked in
    let index = asked.index in
    let runs = runs_of c.args.asked.now.index.now.writers c.args.key in
    let are = index.runs c.args.key in
    rw c.runs_of-runs.ensures (All-weaker IsRun (λ (run : Run). Climbs run.numbers.items) (λ run is. is.climbs) runs are.each)

pub returns-then-not-is_in_runs : goal.returns-then-not-is_in_runs
returns-then-not-is_in_runs c =
    let parts = c.args.asked.now.parts.now in
    let R = reached_in c.args.asked.now.graph.now in
    let asked = c.requires.asked in
    let index = asked.index in
    let of = index.writers c.args.key in
    let exact = rw c.runs_of-runs.ensures at c.is_in_runs.ensures in
    subst (λ (source : Source). NoneOpen parts R (IsOfSource c.args.reader (c.args.key, source))) (sym c.in-By.is)
    (none_unwritten parts R c.args.reader c.args.key c.in-By.writer (λ writes. false≢true (sym c.if-not-is_in_runs.true ∙ exact.1 (of.all c.in-By.writer writes))))

pub first_of_read-requires : goal.first_of_read-requires
first_of_read-requires c =
    let parts = c.args.asked.now.parts.now in
    let graph = c.args.asked.now.graph.now in
    let known = c.args.asked.now.index.now in
    let reader = c.args.reader in
    let key = c.args.key in
    let writer = c.in-By.writer in
    let asked = c.requires.asked in
    let index = asked.index in
    let nodes = asked.nodes in
    let of = index.writers key in
    let written : WritesKey parts writer key = of.each writer ((rw c.runs_of-runs.ensures at c.is_in_runs.ensures).0 c.if-not-is_in_runs.false) in
    let reads : ReadsKey parts reader key (By writer) = subst (λ (source : Source). ReadsKey parts reader key source) c.in-By.is c.requires.reads in
    rw c.runs_of-runs.ensures record {
      runs = index_there parts graph.gone graph.received known index nodes key;
      rise = index.runs key;
      reader = nodes.there reader (reader_remains parts reader key (By writer) reads);
      writer = nodes.there writer (writer_remains parts writer key written);
      read = asked.reads reader writer key reads written;
    }

pub returns : goal.returns
returns c =
    let parts = c.args.asked.now.parts.now in
    let R = reached_in c.args.asked.now.graph.now in
    let reader = c.args.reader in
    let key = c.args.key in
    let writer = c.in-By.writer in
    let read : Read = record { reader = reader; key = key; writer = writer } in
    let asked = c.requires.asked in
    let index = asked.index in
    let of = index.writers key in
    let written : WritesKey parts writer key = of.each writer ((rw c.runs_of-runs.ensures at c.is_in_runs.ensures).0 c.if-not-is_in_runs.false) in
    let reads : ReadsKey parts reader key (By writer) = subst (λ (source : Source). ReadsKey parts reader key source) c.in-By.is c.requires.reads in
    subst (λ (source : Source). MatchOption c.first_of_read.result (NoneOpen parts R (IsOfSource reader (key, source))) (IsFirstOf parts R (IsOfSource reader (key, source)))) (sym c.in-By.is)
    (found_same parts R (λ (choice : Choice). read_of choice ≡ read) (IsOfSource reader (key, By writer)) (source_is parts R read) c.first_of_read.result
    ((rw c.runs_of-runs.ensures at c.first_of_read.ensures) parts of reads written))
