use Rattle.std.proofs.Common.{◌≡◌, count_by, sym, rules}
use Rattle.txn.specs.History.{in_session}
use Rattle.order_check.specs.Based.{mark_of, remaining_of}
use Rattle.order_check.proofs.SessionIds.{ids_from_at, ids_from_past}
use Rattle.order_check.proofs.trial.next_of.Goals as goal

pub returns-then-place-remaining_of : goal.returns-then-place-remaining_of
returns-then-place-remaining_of c =
    let s = c.args.session in
    let place : c.count-place.result ≡ count_by (in_session s) c.args.front.now = search rules in
    let within = rw (place, c.remaining_of.ensures) at c.if-place-remaining_of.true in
    rw (place, c.mark_of.ensures) (sym (ids_from_at s (mark_of c.args.parts.now s) (remaining_of c.args.parts.now s) _ within))

pub returns-else-place-remaining_of : goal.returns-else-place-remaining_of
returns-else-place-remaining_of c =
    let s = c.args.session in
    let place : c.count-place.result ≡ count_by (in_session s) c.args.front.now = search rules in
    let past = rw (place, c.remaining_of.ensures) at c.if-place-remaining_of.false in
    sym (ids_from_past s (mark_of c.args.parts.now s) (remaining_of c.args.parts.now s) _ past)
