use Rattle.std.proofs.Common.{◌≡◌, ◌∙◌, length, arith}
use Rattle.log_text.proofs.Arity.{events_choice}
use Rattle.log_text.proofs.tree_items.choice_of_events.Goals as goal

pub returns-in-len10 : goal.returns-in-len10
returns-in-len10 c =
    let ten : length c.args.items.now ≡ 10 = omega (arith, c.in-len10.len_at_least, c.in-len10.len_below) in
    c.choice_with.ensures ∙ rw (c.half_at.ensures, c.whole_number.ensures, c.half_at-in-len10.ensures, c.half_at-in-len10-2.ensures)
    (events_choice c.args.items.now c.rs-item.result c.rn-item.result c.rw-item.result c.key-item.result c.ws-item.result c.wn-item.result c.ww-item.result c.os-item.result c.on-item.result c.ow-item.result ten c.rs-item.is c.rn-item.is c.rw-item.is c.key-item.is c.ws-item.is c.wn-item.is c.ww-item.is c.os-item.is c.on-item.is c.ow-item.is)
