use Rattle.std.proofs.Common.{◌≤◌, sym, subst, Contains}
use Rattle.std.proofs.lemmas.List.Elements.{Contains-get_or}
use Rattle.txn.specs.declared.transactions.TxnId.{TxnId}
use Rattle.clock_choices.specs.declared.runs.Run.{Run}
use Rattle.clock_choices.specs.Passing.{IsEarlier}
use Rattle.clock_choices.specs.Runs.{IsLastThird, IsThird}
use Rattle.clock_choices.proofs.Passes.{earlier_found, if_some_match}
use Rattle.clock_choices.proofs.passing.earlier_writer.Goals as goal

pub returns-then-run-id : goal.returns-then-run-id
returns-then-run-id c =
    let runs = c.args.runs.now in
    let run : Run = c.run-item.result in
    let id = c.args.id in
    let there : Contains runs run = subst (λ (one : Run). Contains runs one) (sym c.run-item.is) (Contains-get_or runs c.loop-run.run-index run c.loop-run-test.true) in
    if_some_match ((other : TxnId) → IsThird run.session run.numbers.items id id other → id.number ≤ other.number) (IsLastThird run.session run.numbers.items id id id.number) (IsEarlier runs id) c.last_below.result
    (λ last is. earlier_found runs run id last there c.if-run-id.true is) (rw c.deref.ensures.value at c.last_below.ensures)
