use Rattle.std.proofs.Common.{◌<◌, ◌∙◌, ◌++◌, ◌∷◌, [], ap, arith}
use Rattle.crossbeam_queue.specs.Passes.{view}
use Rattle.fragment_intake.specs.declared.rules.View.{View}
use Rattle.fragment_intake.proofs.Counted.{counts_after}
use Rattle.fragment_intake.proofs.Steps.{take_keeps, settles, nothing_left}
use Rattle.fragment_intake.proofs.tallies.drain.Goals as goal

pub pop_as-requires-clause-rule : goal.pop_as-requires-clause-rule
pop_as-requires-clause-rule g c =
    let same = c.loop.invariant.2 in
    let some = c.requires.audits in
    let audits : 0 < (view c.loop.pass).audits = omega (arith, same, some) in
    (take_keeps _ _ audits, settles _ _ audits)

pub returns-in_default-clause-whole : goal.returns-in_default-clause-whole
returns-in_default-clause-whole g c = let h = c.in_default.ensures.rule in nothing_left _ _ _ h.0 h.1.1 h.1.2

pub loop-preserved : goal.loop-preserved
loop-preserved g c =
    let l = c.loop.invariant.3 in
    let t = c.in-Some-pop_as.ensures.rule in
    let q = c.pop_as.ensures.queue in
    let a = counts_after c.loop.counts c.count_last.new.counts (view c.loop.pass) (view c.pop_as.new.pass) c.in-Some-pop_as.parcel (view c.args.pass.now).got l.0 l.1 l.2 t c.count_last.ensures in
    ((q.0 ∙ c.loop.invariant.0.0, q.2 ∙ c.loop.invariant.0.1), ap (λ (v : View). v.mine) t.0 ∙ c.loop.invariant.1, ap (λ (v : View). v.audits) t.0 ∙ c.loop.invariant.2, (l.0 ++ c.in-Some-pop_as.parcel ∷ [], a.0, a.1))
