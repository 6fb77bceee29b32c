use Rattle.std.proofs.Common.{ℕ, List, [], subst, Contains}
use Rattle.txn.specs.declared.transactions.Source.{Source}
use Rattle.txn.specs.declared.transactions.Source.TheVariants.{Init}
use Rattle.clock_choices.specs.Adds.{Adds, Among}
use Rattle.clock_choices.specs.Indexing.{IsReadOfBase}
use Rattle.clock_choices.specs.Lists.{list_at}
use Rattle.clock_choices.proofs.Adding.{adds_more, adds_none, among_none}
use Rattle.clock_choices.proofs.Settled.{take_all}
use Rattle.clock_choices.proofs.indexing.add_base_reads.Goals as goal

pub loop-key-init : goal.loop-key-init
loop-key-init c = λ other. adds_none (Contains (list_at c.args.base.now other)) (Among (IsReadOfBase c.args.parts.now c.args.reader other) []) (λ one. among_none (IsReadOfBase c.args.parts.now c.args.reader other) one)

pub loop-key-preserved : goal.loop-key-preserved
loop-key-preserved c = λ other. adds_more (IsReadOfBase c.args.parts.now c.args.reader other) c.args.list.now c.loop-key.key-index (0, Init) c.loop-key-test.true (Contains (list_at c.args.base.now other)) (Contains (list_at c.loop-key.base other)) (Contains (list_at c.add_base_read.new.base other)) (c.loop-key.invariant other) (c.in_ok-add_base_read.ensures other)

pub returns : goal.returns
returns c = λ other. subst (λ (list : List (ℕ × Source)). Adds (Contains (list_at c.args.base.now other)) (Contains (list_at c.loop-key.base other)) (Among (IsReadOfBase c.args.parts.now c.args.reader other) list)) (take_all c.args.list.now c.loop-key.key-index c.loop-key-test.false) (c.loop-key.invariant other)
