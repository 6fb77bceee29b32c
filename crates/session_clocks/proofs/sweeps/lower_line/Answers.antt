use Rattle.std.proofs.Common.{◌*◌, ◌≤◌, ℕ, List, length, sym, refl, subst, subst₂}
use Rattle.session_clocks.specs.Tails.{IsLowered}
use Rattle.session_clocks.proofs.LineLists.{was, now, as_long, IsOneLine-set}
use Rattle.session_clocks.proofs.sweeps.lower_line.Goals as goal

pub lower_tail-requires-clause-within : goal.lower_tail-requires-clause-within
lower_tail-requires-clause-within c =
    let is = was c.args.lines.now c.args.line c.index-lines-line.result c.deref_mut.result.now c.deref_mut.result.now c.requires.line c.deref_mut.ensures.value refl in
    subst (λ (shown : List ℕ). c.args.top * length c.args.row.now ≤ length shown) (sym is) c.requires.within

pub returns-clause-lowered : goal.returns-clause-lowered
returns-clause-lowered c =
    let old = was c.args.lines.now c.args.line c.index-lines-line.result c.deref_mut.result.now c.deref_mut.result.now c.requires.line c.deref_mut.ensures.value refl in
    let new = now c.args.lines.now c.args.line c.index-lines-line.result c.lower_tail.new.numbers c.deref_mut.result.now c.requires.line c.deref_mut.ensures.value c.lower_tail.auto.numbers in
    subst₂ (λ (old new : List ℕ). IsLowered old new c.args.end.session c.args.end.number c.args.row.now c.args.top) old (sym new) (subst (λ (session : ℕ). IsLowered c.deref_mut.result.now c.lower_tail.new.numbers session c.args.end.number c.args.row.now c.args.top) c.from.ensures c.lower_tail.ensures)

pub returns-clause-len : goal.returns-clause-len
returns-clause-len c = as_long c.args.lines.now c.args.line c.index-lines-line.result c.lower_tail.new.numbers c.deref_mut.result.now c.requires.line c.deref_mut.ensures.value c.lower_tail.auto.numbers

pub returns-clause-others : goal.returns-clause-others
returns-clause-others c = IsOneLine-set c.args.lines.now c.args.line c.index-lines-line.result c.lower_tail.new.numbers c.deref_mut.result.now c.requires.line c.deref_mut.ensures.value c.lower_tail.auto.numbers
