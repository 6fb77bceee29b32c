use Rattle.std.proofs.Common.{arith, ap, length, length-append, List}
use Rattle.txn.specs.declared.transactions.Txn.{Txn}
use Rattle.order_check.specs.Based.{remaining_of}
use Rattle.round_state.proofs.catching_up.new_of.Goals as goal

pub copy_behind-requires : goal.copy_behind-requires
copy_behind-requires c =
    let s = c.args.session in
    let later = c.requires.behind.kept.is_front.remain s in
    omega (arith, ap (λ (txns : List Txn). length txns) later.1, length-append (remaining_of c.args.front.now s) later.0, ap (λ (txns : List Txn). length txns) c.remaining_of-there.ensures, ap (λ (txns : List Txn). length txns) c.remaining_of.ensures)
