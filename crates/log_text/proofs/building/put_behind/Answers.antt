use Rattle.std.proofs.Common.{Option, subst}
use Rattle.log_text.specs.Building.{AreBuilt}
use Rattle.log_text.specs.declared.building.Front.{Front}
use Rattle.log_text.proofs.BuiltTrees.{behind_some}
use Rattle.log_text.proofs.building.put_behind.Goals as goal

pub returns-in_ok-push : goal.returns-in_ok-push
returns-in_ok-push c nodes built =
    behind_some c.in-Some.front c.in_ok-put_together.field-0 c.args.behind.now.items c.push.new.self.items nodes c.in_ok-put_together.ensures.nodes c.in_ok-put_together.ensures.merged c.in_ok-push.ensures.items
    (subst (λ (f : Option Front). AreBuilt f c.args.behind.now.items nodes) c.in-Some.is built)
