use Rattle.std.proofs.Common.{eqb-true, subst, take, Some}
use Rattle.std.proofs.lemmas.Bool.{false≢true}
use Rattle.demo_store.specs.Logs.{IsLastPlace}
use Rattle.demo_store.proofs.Lies.{none_last, one_last, only_writer}
use Rattle.demo_store.proofs.faults.is_only_writer.Goals as goal

pub returns-then-place-writer : goal.returns-then-place-writer
returns-then-place-writer c =
    let log = c.args.log.now in
    let key = c.args.key in
    let before = c.last_place-then-place-writer.result in
    let there = c.if-place-writer.true in
    only_writer log key c.args.writer before c.is_none.result c.is_none.ensures (subst (λ n. IsLastPlace log key (Some n)) there c.in-Some.ensures.last) (subst (λ n. IsLastPlace (take n log) key before) there c.last_place-then-place-writer.ensures.last)

pub returns-else-place-writer : goal.returns-else-place-writer
returns-else-place-writer c =
    (λ yes. absurd (c.if-place-writer.false (eqb-true c.in-Some.place c.args.writer yes)), λ (last, none). absurd (c.if-place-writer.false (one_last c.args.log.now c.args.key c.in-Some.place c.args.writer c.in-Some.ensures.last last)))

pub returns-in-None : goal.returns-in-None
returns-in-None c = (λ yes. absurd (false≢true yes), λ (last, none). absurd (none_last c.args.log.now c.args.key c.args.writer c.in-None.ensures.last last))
