use Rattle.std.proofs.Common.{rules, ◌≡◌, codes, ap, inl, inr}
use Rattle.std.proofs.lemmas.Result.{IfOk-weaker}
use Rattle.serde_json.specs.Data.{string}
use Rattle.serde_json.specs.View.{view}
use Rattle.log_text.proofs.ReportsRead.{order_as, tree_as}
use Rattle.log_text.proofs.shown.shown_by.Goals as goal

pub returns-in-serial : goal.returns-in-serial
returns-in-serial c =
    let is : c.args.kind.now ≡ codes "serial" = search rules in
    IfOk-weaker c.order_shown.result _ _ (order_as c.args.names (string c.args.kind.now) (view c.args.given.now) (inl (ap string is))) c.order_shown.ensures

pub returns-in-pending : goal.returns-in-pending
returns-in-pending c =
    let is : c.args.kind.now ≡ codes "pending" = search rules in
    IfOk-weaker c.order_shown-in-pending.result _ _ (order_as c.args.names (string c.args.kind.now) (view c.args.given.now) (inr (ap string is))) c.order_shown-in-pending.ensures

pub returns-in-violated : goal.returns-in-violated
returns-in-violated c =
    let is : c.args.kind.now ≡ codes "violated" = search rules in
    IfOk-weaker c.tree_shown.result _ _ (tree_as c.args.names (string c.args.kind.now) (view c.args.given.now) (ap string is)) c.tree_shown.ensures
