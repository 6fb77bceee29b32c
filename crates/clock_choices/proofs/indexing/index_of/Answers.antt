use Rattle.std.proofs.Common.{List, sym, ap, subst}
use Rattle.clock_choices.specs.declared.indexing.Index.{Index}
use Rattle.clock_choices.specs.declared.runs.Run.{Run}
use Rattle.clock_choices.specs.Index.{ReadLists, reads_of}
use Rattle.clock_choices.specs.Writers.{AreRuns}
use Rattle.clock_choices.proofs.Indexed.{index_of_all, list_at-empty}
use Rattle.clock_choices.proofs.WriterLists.{no_runs}
use Rattle.clock_choices.proofs.indexing.index_of.Goals as goal

pub add_txns-requires : goal.add_txns-requires
add_txns-requires c = λ key. subst (λ (runs : List Run). AreRuns runs) (sym (list_at-empty c.new.result key c.new.ensures.empty)) no_runs

pub returns : goal.returns
returns c =
    let index : Index = record { writers = c.new.result; reads = c.new-2.result; base = c.new-3.result } in
    index_of_all c.args.parts.now index c.add_txns.new.index c.in_ok-ids.ids.items
    (λ key. list_at-empty c.new.result key c.new.ensures.empty)
    (λ id. ap (λ (lists : ReadLists). reads_of lists id) c.new-2.ensures.items)
    (λ key. list_at-empty c.new-3.result key c.new-3.ensures.empty)
    (λ id remains. (c.in_ok-ids.ensures.members id).1 remains) (rw c.deref.ensures.value at c.in_ok-add_txns.ensures.adds) c.in_ok-add_txns.ensures.runs
