use Rattle.std.proofs.Common.{◌≡◌, ◌∙◌, ℕ, get_or, refl, sym, ap, subst, inl, inr, arith, Contains}
use Rattle.std.proofs.lemmas.Bool.{cases_eq}
use Rattle.std.proofs.lemmas.List.{get_or_default}
use Rattle.session_clocks.specs.Reach.{Reaches}
use Rattle.clock_choices.proofs.Passes.{noted_run}
use Rattle.clock_choices.proofs.passing.note_run.Goals as goal

pub loop-place-init : goal.loop-place-init
loop-place-init c = record { stay = λ other there. there; noted = λ k from below. absurd (omega (arith, from, below)) }

pub loop-place-preserved : goal.loop-place-preserved
loop-place-preserved c =
    let was = c.loop-place.invariant in
    let is = c.in_ok-note.ensures in
    let run = c.args.run.now in
    let high = rw c.deref-2.ensures.value at c.count_below-to.ensures in
    let most = high.within in
    let number : c.index.result.now ≡ get_or run.numbers.items c.loop-place.place 0 = c.index.ensures ∙ get_or_default run.numbers.items c.loop-place.place c.index.result.now 0 (omega (arith, most, c.loop-place-test.true)) in
    record {
      stay = λ other there. is.stay other (was.stay other there);
      noted = λ k from below. elim (cases_eq k c.loop-place.place) [
        | inl same ↦ subst (λ (n : ℕ). Contains c.note.new.self (record { session = run.session; number = n })) (number ∙ ap (λ (n : ℕ). get_or run.numbers.items n 0) (sym same)) is.here
        | inr apart ↦ is.stay (record { session = run.session; number = get_or run.numbers.items k 0 }) (was.noted k from (omega arith))
      ];
    }

pub returns-clause-noted : goal.returns-clause-noted
returns-clause-noted c =
    let graph = c.args.graph.now in
    let run = c.args.run.now in
    let low = rw c.deref.ensures.value at c.count_below-from.ensures in
    let high = rw c.deref-2.ensures.value at c.count_below-to.ensures in
    noted_run (Reaches graph.gone graph.received graph.arcs) c.loop-place.due c.args.id c.args.earlier run c.passed_below.result c.before-2.result c.count_below-from.result c.count_below-to.result low high
    (λ number there reached. (c.before-2.ensures.exact (record { session = run.session; number = number }) refl (c.requires.run.there number there)).1 reached)
    (λ number there below. c.passed_below.ensures (record { session = run.session; number = number }) refl (c.requires.run.there number there) below)
    (λ k from below. c.loop-place.invariant.noted k from (omega (arith, below, c.loop-place-test.false)))
