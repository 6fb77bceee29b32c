use Rattle.std.proofs.Common.{ℕ, ◌<◌, get_or, length, sym}
use Rattle.std.proofs.lemmas.List.{get_or_default}
use Rattle.txn.specs.declared.transactions.Source.{Source}
use Rattle.txn.specs.declared.transactions.Source.TheVariants.{Init}
use Rattle.txn.specs.declared.choices.Choice.{Choice}
use Rattle.clock_choices.specs.Adds.{Among}
use Rattle.clock_choices.specs.Extending.{reached_in}
use Rattle.clock_choices.specs.Opens.{IsOfReader, IsOfSource}
use Rattle.clock_choices.proofs.ChoiceOrder.{reads_rise}
use Rattle.clock_choices.proofs.Links.{all_read}
use Rattle.clock_choices.proofs.OpenReads.{reads_all, reads_apart}
use Rattle.clock_choices.proofs.Opens.{among_none, first_at, first_same, none_all, none_more, none_same}
use Rattle.clock_choices.proofs.first_open.first_of_txn.Goals as goal

abbrev none : ℕ × Source
none = (0, Init)

pub loop-key-init : goal.loop-key-init
loop-key-init c = λ choice is. among_none c.args.asked.now.parts.now (reached_in c.args.asked.now.graph.now) (IsOfSource c.args.reader) c.as_slice-reads.result.now choice

pub first_of_source-requires-clause-reads : goal.first_of_source-requires-clause-reads
first_of_source-requires-clause-reads c = rw c.as_slice-reads.ensures (all_read c.args.asked.now.parts.now c.args.reader c.in-Some.txn.now (sym c.in-Some.ensures) c.loop-key.key-index none (rw c.as_slice-reads.ensures at c.loop-key-test.true))

pub returns-in-Some-first_of_source : goal.returns-in-Some-first_of_source
returns-in-Some-first_of_source c =
    let parts = c.args.asked.now.parts.now in
    let R = reached_in c.args.asked.now.graph.now in
    let reader = c.args.reader in
    let txn = c.in-Some.txn.now in
    let reads = txn.reads in
    let found = sym c.in-Some.ensures in
    let asked = c.requires.asked in
    let n = c.loop-key.key-index in
    let choice = c.in-Some-first_of_source.choice in
    let below : n < length reads = rw c.as_slice-reads.ensures at c.loop-key-test.true in
    let before = rw c.as_slice-reads.ensures at c.loop-key.invariant in
    let here = rw c.as_slice-reads.ensures at c.in-Some-first_of_source.ensures in
    let x = get_or reads n none in
    first_same parts R (λ (one : Choice). Among (IsOfSource reader) reads one) (IsOfReader reader) (reads_all parts R reader txn found) choice
    (first_at parts R (IsOfSource reader) reads n x below (get_or_default reads n none x below) (reads_apart reader reads (reads_rise parts reader txn asked.good found)) choice before here)

pub loop-key-preserved : goal.loop-key-preserved
loop-key-preserved c =
    let parts = c.args.asked.now.parts.now in
    let R = reached_in c.args.asked.now.graph.now in
    let reader = c.args.reader in
    let reads = c.as_slice-reads.result.now in
    let n = c.loop-key.key-index in
    let x = get_or reads n none in
    none_more parts R (IsOfSource reader) reads n x c.loop-key-test.true (get_or_default reads n none x c.loop-key-test.true) c.loop-key.invariant c.in_default-first_of_source.ensures

pub returns : goal.returns
returns c =
    let parts = c.args.asked.now.parts.now in
    let R = reached_in c.args.asked.now.graph.now in
    let reader = c.args.reader in
    let txn = c.in-Some.txn.now in
    let past = rw c.as_slice-reads.ensures at c.loop-key-test.false in
    let before = rw c.as_slice-reads.ensures at c.loop-key.invariant in
    none_same parts R (λ (one : Choice). Among (IsOfSource reader) txn.reads one) (IsOfReader reader) (reads_all parts R reader txn (sym c.in-Some.ensures)) (none_all parts R (IsOfSource reader) txn.reads c.loop-key.key-index past before)
