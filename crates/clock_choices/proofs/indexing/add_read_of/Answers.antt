use Rattle.std.proofs.Common.{OnOk, Contains, sym, subst}
use Rattle.std.proofs.lemmas.Result.{on_ok_weaker}
use Rattle.txn.specs.declared.transactions.TxnId.{TxnId}
use Rattle.txn.specs.declared.transactions.Source.{Source}
use Rattle.clock_choices.specs.Adds.{Adds}
use Rattle.clock_choices.specs.Index.{reads_of}
use Rattle.clock_choices.specs.Indexing.{IsReadFrom}
use Rattle.clock_choices.proofs.Indexed.{read_from_by}
use Rattle.clock_choices.proofs.indexing.add_read_of.Goals as goal

pub returns : goal.returns
returns c = subst (λ (source : Source). OnOk c.add_read.result ((other : TxnId) → Adds (Contains (reads_of c.args.reads.now.items other)) (Contains (reads_of c.add_read.new.reads.items other)) (IsReadFrom c.args.reader other (c.args.key, source)))) (sym c.in-By.is)
    (on_ok_weaker c.add_read.result (λ adds. read_from_by c.args.reader c.in-By.writer c.args.key c.args.reads.now.items c.add_read.new.reads.items adds) c.add_read.ensures)
