use Rattle.std.proofs.Common.{◌+◌, ◌≤◌, ◌^◌, length, rules}
use Rattle.order_check.proofs.RulesKept.{session_tells}
use Rattle.order_check.proofs.remainder.Parts.is_good_session.Goals as goal

pub returns-then-txns-mark : goal.returns-then-txns-mark
returns-then-txns-mark c =
    let mark = c.mark_of-mark.result in
    let txns = c.remaining_of-txns.result.now in
    let numbers : mark + length txns ≤ 2 ^ 48 = search rules in
    session_tells c.args.self.now c.args.session mark txns c.are_good.result c.mark_of-mark.ensures c.remaining_of-txns.ensures numbers c.are_good.ensures
