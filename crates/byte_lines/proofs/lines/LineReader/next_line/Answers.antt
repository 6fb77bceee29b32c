use Rattle.std.proofs.Common.{◌≡◌, true, false, [], refl, sym, subst, ◌∙◌, inl, inr, le_trans, arith}
use Rattle.std.proofs.lemmas.Result.{err_from_is_err_and}
use Rattle.byte_lines.specs.LineReaders.{LineState, grown}
use Rattle.byte_lines.proofs.LineNext.{reads-next}
use Rattle.byte_lines.proofs.LineSteps.{all_no_lf, before_lf, Keeps-none, midway-start, grown-nil, midway-kept, midway-read, midway-same, midway-lf, midway-end, midway-no_lf, lines_left-read}
use Rattle.byte_lines.proofs.lines.LineReader.next_line.Goals as goal

true_not_false : true ≡ false → ⊥
true_not_false e = cc

abbrev is_short : LineState → Type 0
is_short reader = reader.under_way ≡ grown reader.limit reader.under_way []

pub loop-next-init : goal.loop-next-init
loop-next-init g c = (midway-start c.args.self.now _ (subst is_short c.self.view_is (grown-nil c.self.inside.limit c.self.inside.line c.self.invariant)), λ has. refl, refl, λ within. within, omega arith)

pub returns-in-Some-clause-line : goal.returns-in-Some-clause-line
returns-in-Some-clause-line g c =
    let m = c.loop-next.invariant.0 in
    let found = rw c.in-Some.is at c.in_ok-next.ensures.some in
    (m.read, m.consumes, record { ends = inl (midway-lf _ _ _ _ _ _ m found.0); fresh = found.1 }, λ ahead. inl (before_lf c.loop-next.self c.next_ahead.new.self _ _ (c.loop-next.invariant.3 ahead) found.0))

pub returns-in-Some-clause-next : goal.returns-in-Some-clause-next
returns-in-Some-clause-next g c =
    let line = returns-in-Some-clause-line g c in
    reads-next _ _ _ _ line.0 _ line.1 line.2

pub returns-in_err-refill-clause-stopped : goal.returns-in_err-refill-clause-stopped
returns-in_err-refill-clause-stopped g c =
    let none = rw c.in_default.is at c.in_ok-next.ensures.none in
    let kept = midway-kept _ _ _ _ _ c.loop-next.invariant.0 none.0 c.in_ok-next.ensures.limit in
    let m = midway-same _ _ c.refill.new.self _ _ _ kept c.in_err-refill.ensures.kept (c.in_err-refill.ensures.none ∙ sym none.1) c.refill.ensures.under_way c.refill.ensures.limit in
    let p = err_from_is_err_and c.from_residual-in_err-refill.result c.from_residual-in_err-refill.ensures.1 in
    rw p.1 (m.read, m.consumes, m.stops)

pub returns-in_err-refill-clause-at_once : goal.returns-in_err-refill-clause-at_once
returns-in_err-refill-clause-at_once g c =
    let none = rw c.in_default.is at c.in_ok-next.ensures.none in
    let m = midway-kept _ _ _ _ _ c.loop-next.invariant.0 none.0 c.in_ok-next.ensures.limit in
    λ has. absurd (midway-no_lf _ _ _ _ m none.1 has)

pub returns-then-not-branch-clause-line : goal.returns-then-not-branch-clause-line
returns-then-not-branch-clause-line g c =
    let none = rw c.in_default.is at c.in_ok-next.ensures.none in
    let kept = midway-kept _ _ _ _ _ c.loop-next.invariant.0 none.0 c.in_ok-next.ensures.limit in
    let end = c.in_ok-refill.ensures.end c.if-not-branch.true in
    let m = midway-same _ _ c.refill.new.self _ _ _ kept (Keeps-none _ _ _ end.0 c.in_ok-refill.ensures.taken) (end.0 ∙ sym none.1) c.refill.ensures.under_way c.refill.ensures.limit in
    (m.read, m.consumes, record { ends = inr (midway-end _ _ _ _ _ _ m end.0 (c.last.ensures.ahead ∙ end.0) end.1 c.last.ensures.handed); fresh = c.last.ensures.fresh }, λ ahead. inr (all_no_lf _ _ _ _ m end.0, c.last.ensures.ahead ∙ end.0))

pub returns-then-not-branch-clause-next : goal.returns-then-not-branch-clause-next
returns-then-not-branch-clause-next g c =
    let line = returns-then-not-branch-clause-line g c in
    reads-next _ _ _ _ line.0 _ line.1 line.2

pub returns-then-not-branch-clause-at_once : goal.returns-then-not-branch-clause-at_once
returns-then-not-branch-clause-at_once g c =
    let none = rw c.in_default.is at c.in_ok-next.ensures.none in
    let m = midway-kept _ _ _ _ _ c.loop-next.invariant.0 none.0 c.in_ok-next.ensures.limit in
    λ has. absurd (midway-no_lf _ _ _ _ m none.1 has)

pub loop-next-preserved : goal.loop-next-preserved
loop-next-preserved g c =
    let none = rw c.in_default.is at c.in_ok-next.ensures.none in
    let kept = midway-kept _ _ _ _ _ c.loop-next.invariant.0 none.0 c.in_ok-next.ensures.limit in
    let fewer = c.in_ok-refill.ensures.fewer (λ no. absurd (true_not_false (sym c.if-not-branch.false ∙ no))) in
    let left = lines_left-read _ _ c.refill.new.self _ _ none.0 none.1 c.refill.ensures.under_way c.refill.ensures.bound fewer in (
      midway-read _ _ c.refill.new.self _ _ _ kept none.1 c.in_ok-refill.ensures.taken c.refill.ensures.under_way c.refill.ensures.limit,
      λ has. absurd (midway-no_lf _ _ _ _ kept none.1 has),
      c.in_ok-refill.ensures.ok ∙ c.loop-next.invariant.2,
      λ ahead. omega (arith, c.in_ok-refill.ensures.last),
      le_trans left c.loop-next.invariant.4,
    )
