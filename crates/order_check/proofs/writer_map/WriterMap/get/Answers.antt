use Rattle.std.proofs.Common.{sym, ap, ◌∙◌}
use Rattle.std.specs.FinMap as map
use Rattle.std.specs.Ordering.{nat_cmp}
use Rattle.order_check.specs.Settled.{or_else}
use Rattle.order_check.proofs.Writers.{entry_at, get-entry_at}
use Rattle.order_check.proofs.RisingLists.{get_both}
use Rattle.order_check.proofs.writer_map.WriterMap.get.Goals as goal

pub returns-in-None : goal.returns-in-None
returns-in-None c =
    c.writer_at.ensures
    ∙ ap (λ es. map.get (map.from_entries {R = nat_cmp} es) c.args.key) c.as_slice.ensures.value
    ∙ get-entry_at c.self.inside.older c.args.key
    ∙ ap (λ own. or_else own (entry_at c.self.inside.older c.args.key)) c.in-None.ensures.value
    ∙ sym (get_both c.self.inside.newer.entries c.self.inside.older c.args.key)
    ∙ ap (λ m. map.get m c.args.key) c.self.view_is

pub returns-in-Some : goal.returns-in-Some
returns-in-Some c =
    ap (λ own. or_else own (entry_at c.self.inside.older c.args.key)) c.in-Some.ensures.value
    ∙ sym (get_both c.self.inside.newer.entries c.self.inside.older c.args.key)
    ∙ ap (λ m. map.get m c.args.key) c.self.view_is
