use Rattle.std.proofs.Common.{◌*◌, ◌≤◌, ℕ, List, length, sym, refl, subst, subst₂}
use Rattle.session_clocks.specs.Tails.{IsRaised}
use Rattle.session_clocks.proofs.LineLists.{was, now, as_long, IsOneLine-set}
use Rattle.session_clocks.proofs.sweeps.raise_line.Goals as goal

pub raise_tail-requires-clause-within : goal.raise_tail-requires-clause-within
raise_tail-requires-clause-within c =
    let is = was c.args.lines.now c.args.line c.index-lines-line.result c.deref_mut.result.now c.deref_mut.result.now c.requires.line c.deref_mut.ensures.value refl in
    subst (λ (shown : List ℕ). c.args.rows * length c.args.row.now ≤ length shown) (sym is) c.requires.within

pub returns-clause-raised : goal.returns-clause-raised
returns-clause-raised c =
    let old = was c.args.lines.now c.args.line c.index-lines-line.result c.deref_mut.result.now c.deref_mut.result.now c.requires.line c.deref_mut.ensures.value refl in
    let new = now c.args.lines.now c.args.line c.index-lines-line.result c.raise_tail.new.numbers c.deref_mut.result.now c.requires.line c.deref_mut.ensures.value c.raise_tail.auto.numbers in
    subst₂ (λ (old new : List ℕ). IsRaised old new c.args.start.session c.args.start.number c.args.row.now c.args.from c.args.rows) old (sym new) (subst (λ (session : ℕ). IsRaised c.deref_mut.result.now c.raise_tail.new.numbers session c.args.start.number c.args.row.now c.args.from c.args.rows) c.from.ensures c.raise_tail.ensures)

pub returns-clause-len : goal.returns-clause-len
returns-clause-len c = as_long c.args.lines.now c.args.line c.index-lines-line.result c.raise_tail.new.numbers c.deref_mut.result.now c.requires.line c.deref_mut.ensures.value c.raise_tail.auto.numbers

pub returns-clause-others : goal.returns-clause-others
returns-clause-others c = IsOneLine-set c.args.lines.now c.args.line c.index-lines-line.result c.raise_tail.new.numbers c.deref_mut.result.now c.requires.line c.deref_mut.ensures.value c.raise_tail.auto.numbers
