use Rattle.std.proofs.Common.{◌≡◌, ◌++◌, ℕ, true, [], get_or, sym}
use Rattle.std.specs.List.{AllPairs}
use Rattle.std.proofs.lemmas.List.{get_or_default}
use Rattle.txn.specs.declared.transactions.Source.{Source}
use Rattle.txn.specs.declared.transactions.Source.TheVariants.{Init}
use Rattle.txn.specs.declared.choices.Choice.{Choice}
use Rattle.txn.specs.Transactions.{read_below}
use Rattle.clock_choices.specs.Adds.{Among}
use Rattle.clock_choices.specs.Extending.{reached_in}
use Rattle.clock_choices.specs.Opens.{IsOfReader, IsOfSource}
use Rattle.clock_choices.proofs.ChoiceOrder.{reads_rise}
use Rattle.clock_choices.proofs.Countings.{tallies_both, tallies_none}
use Rattle.clock_choices.proofs.Links.{all_read}
use Rattle.clock_choices.proofs.OpenReads.{reads_all, reads_apart}
use Rattle.clock_choices.proofs.Opens.{among_none, open_all, open_more, open_nothing, open_same}
use Rattle.clock_choices.proofs.open_choices.count_txn.Goals as goal

abbrev none : ℕ × Source
none = (0, Init)

pub loop-key-init : goal.loop-key-init
loop-key-init c =
    let parts = c.args.asked.now.parts.now in
    let R = reached_in c.args.asked.now.graph.now in
    ([], tallies_none c.args.most c.args.tally.now, open_nothing parts R (Among (IsOfSource c.args.reader) []) (λ choice is. among_none parts R (IsOfSource c.args.reader) c.as_slice-reads.result.now choice))

pub count_source-requires-clause-reads : goal.count_source-requires-clause-reads
count_source-requires-clause-reads c = rw c.as_slice-reads.ensures (all_read c.args.asked.now.parts.now c.args.reader c.in-Some.txn.now (sym c.in-Some.ensures) c.loop-key.key-index none (rw c.as_slice-reads.ensures at c.loop-key-test.true))

pub loop-key-preserved : goal.loop-key-preserved
loop-key-preserved c =
    let parts = c.args.asked.now.parts.now in
    let R = reached_in c.args.asked.now.graph.now in
    let reader = c.args.reader in
    let reads = c.as_slice-reads.result.now in
    let txn = c.in-Some.txn.now in
    let asked = c.requires.asked in
    let n = c.loop-key.key-index in
    let x = get_or reads n none in
    let below = c.loop-key-test.true in
    let rise : AllPairs (λ (a b : ℕ × Source). read_below a b ≡ true) reads = rw c.as_slice-reads.ensures (reads_rise parts reader txn asked.good (sym c.in-Some.ensures)) in
    let was = c.loop-key.invariant in
    let new = c.in_ok-count_source.ensures in (
      was.0 ++ new.0,
      tallies_both c.args.most was.0 new.0 c.args.tally.now c.loop-key.tally c.count_source.new.tally was.1 new.1,
      open_more parts R (IsOfSource reader) reads n x below (get_or_default reads n none x below) (reads_apart reader reads rise) was.0 new.0 was.2 new.2,
    )

pub returns : goal.returns
returns c =
    let parts = c.args.asked.now.parts.now in
    let R = reached_in c.args.asked.now.graph.now in
    let reader = c.args.reader in
    let txn = c.in-Some.txn.now in
    let past = rw c.as_slice-reads.ensures at c.loop-key-test.false in
    let was = c.loop-key.invariant in
    let are = rw c.as_slice-reads.ensures at was.2 in (
      was.0,
      was.1,
      open_same parts R (λ (choice : Choice). Among (IsOfSource reader) txn.reads choice) (IsOfReader reader) (reads_all parts R reader txn (sym c.in-Some.ensures)) was.0 (open_all parts R (IsOfSource reader) txn.reads c.loop-key.key-index was.0 past are),
    )
