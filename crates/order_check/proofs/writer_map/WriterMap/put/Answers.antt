use Rattle.std.proofs.Common.{ap, ◌∙◌}
use Rattle.std.specs.FinMap as map
use Rattle.order_check.proofs.RisingLists.{put_first}
use Rattle.order_check.proofs.writer_map.WriterMap.put.Goals as goal

pub returns-clause-ok : goal.returns-clause-ok
returns-clause-ok c =
    put_first c.self.inside.newer.entries c.insert.new.self.entries c.self.inside.older c.args.key c.args.writer c.in_ok-insert.ensures.updates.0
    ∙ ap (λ m. map.insert m c.args.key c.args.writer) c.self.view_is
