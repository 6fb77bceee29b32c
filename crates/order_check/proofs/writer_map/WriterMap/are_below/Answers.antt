use Rattle.std.proofs.Common.{◌≡◌, ◌++◌, sym, subst, ap, ◌∙◌}
use Rattle.std.specs.FinMap as map
use Rattle.std.specs.Ordering.{nat_cmp}
use Rattle.order_check.specs.Rising.{IsHiddenOrBelow, IsRising}
use Rattle.order_check.specs.Rules.{AreBelowMarks}
use Rattle.order_check.proofs.RisingLists.{below_both, first_below}
use Rattle.order_check.proofs.writer_map.WriterMap.are_below.Goals as goal

pub returns-then-are_newer_below : goal.returns-then-are_newer_below
unfolding IsHiddenOrBelow
returns-then-are_newer_below c =
    let es = c.self.inside.newer.entries in
    let fs = c.as_slice.result.now in
    let marks = c.args.marks.now in
    let same : map.from_entries {R = nat_cmp} (es ++ fs) ≡ c.args.self.now = ap (λ ds. map.from_entries {R = nat_cmp} (es ++ ds)) c.as_slice.ensures.value ∙ c.self.view_is in
    let both = below_both marks es fs c.are_newer_below.ensures.found (subst IsRising (sym c.as_slice.ensures.value) c.as_slice.ensures.rising) in (
      λ yes. subst (AreBelowMarks marks) same (both.0 (c.are_newer_below.ensures.told.0 c.if-are_newer_below.true, c.are_older_below.ensures.0 yes)),
      λ below. c.are_older_below.ensures.1 (both.1 (subst (AreBelowMarks marks) (sym same) below)).1,
    )

pub returns-else-are_newer_below : goal.returns-else-are_newer_below
returns-else-are_newer_below c =
    let es = c.self.inside.newer.entries in
    let marks = c.args.marks.now in (
      λ yes. absurd cc,
      λ below. let told = c.are_newer_below.ensures.told.1 (first_below marks es c.self.inside.older c.are_newer_below.ensures.found (subst (AreBelowMarks marks) (sym c.self.view_is) below)) in absurd cc,
    )
