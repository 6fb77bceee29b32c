use Rattle.std.proofs.Common.{ℕ, List, [], subst, Contains}
use Rattle.txn.specs.declared.transactions.Source.{Source}
use Rattle.txn.specs.declared.transactions.Source.TheVariants.{Init}
use Rattle.clock_choices.specs.Adds.{Adds, Among}
use Rattle.clock_choices.specs.Index.{reads_of}
use Rattle.clock_choices.specs.Indexing.{IsReadFrom}
use Rattle.clock_choices.proofs.Adding.{adds_more, adds_none, among_none}
use Rattle.clock_choices.proofs.Settled.{take_all}
use Rattle.clock_choices.proofs.indexing.add_reads.Goals as goal

pub loop-key-init : goal.loop-key-init
loop-key-init c = λ other. adds_none (Contains (reads_of c.args.reads.now.items other)) (Among (IsReadFrom c.args.reader other) []) (λ one. among_none (IsReadFrom c.args.reader other) one)

pub loop-key-preserved : goal.loop-key-preserved
loop-key-preserved c = λ other. adds_more (IsReadFrom c.args.reader other) c.args.list.now c.loop-key.key-index (0, Init) c.loop-key-test.true (Contains (reads_of c.args.reads.now.items other)) (Contains (reads_of c.loop-key.reads.items other)) (Contains (reads_of c.add_read_of.new.reads.items other)) (c.loop-key.invariant other) (c.in_ok-add_read_of.ensures other)

pub returns : goal.returns
returns c = λ other. subst (λ (list : List (ℕ × Source)). Adds (Contains (reads_of c.args.reads.now.items other)) (Contains (reads_of c.loop-key.reads.items other)) (Among (IsReadFrom c.args.reader other) list)) (take_all c.args.list.now c.loop-key.key-index c.loop-key-test.false) (c.loop-key.invariant other)
