use Rattle.std.proofs.Common.{List, subst}
use Rattle.std.specs.List.Sorted.{IsPermutation}
use Rattle.txn.specs.declared.transactions.TxnId.{TxnId}
use Rattle.clock_choices.specs.Picks.{AreRunsOfIds}
use Rattle.clock_choices.proofs.LinkedAmong.{runs_of_moved}
use Rattle.clock_choices.proofs.among.runs_of_ids.Goals as goal

pub returns : goal.returns
returns c =
    let moved : List TxnId = c.sort.new.self.items in
    let runs = c.in_ok-runs.runs.items in
    let same = subst (λ (ids : List TxnId). IsPermutation ids moved) c.in_ok-sorted.ensures.items c.in_ok-sort.ensures.permutation in
    runs_of_moved c.args.ids.now moved runs same (subst (λ (ids : List TxnId). AreRunsOfIds ids runs) c.deref.ensures.value c.in_ok-runs.ensures)
