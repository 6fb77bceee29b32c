use Rattle.std.proofs.Common.{◌≡◌, ◌+◌, ◌<◌, ◌∙◌, sym, ap, subst, [], ◌∷◌, ◌++◌, length, take, Some}
use Rattle.std.proofs.lemmas.Bool.{false≢true}
use Rattle.std.proofs.lemmas.List.{take_more, take_all}
use Rattle.demo_store.specs.declared.requests.Executed.{Executed}
use Rattle.demo_store.specs.Logs.{IsLastLost}
use Rattle.demo_store.proofs.Dirty.{lost_more, lost_here}
use Rattle.demo_store.proofs.lookups.last_lost.Goals as goal
use Rattle.demo_store.proofs.lookups.last_lost.Goals.{then-lost, else-lost}

pub loop-place-preserved : goal.loop-place-preserved
loop-place-preserved c =
    let log = c.args.log.now in
    let key = c.args.key in
    let place = c.loop-place.place in
    let e : Executed = c.index-log-place.result in
    let within : place < length log = c.loop-place-test.true in
    let grown : take place log ++ e ∷ [] ≡ take (place + 1) log = ap (λ x. take place log ++ x ∷ []) c.index-log-place.is ∙ sym (take_more log place e within) in
    elim c.if-lost.branch [
      | then-lost w ↦ subst (λ last. IsLastLost (take (place + 1) log) key last) (sym w.last-is)
          (subst (λ l. IsLastLost l key (Some e.id)) grown (lost_here (take place log) key e (c.lost.ensures.0 w.if-lost.true)))
      | else-lost w ↦ subst (λ last. IsLastLost (take (place + 1) log) key last) (sym w.last-is)
          (subst (λ l. IsLastLost l key c.loop-place.last) grown (lost_more (take place log) key c.loop-place.last e (λ has. false≢true (sym w.if-lost.false ∙ c.lost.ensures.1 has)) c.loop-place.invariant))
    ]

pub returns : goal.returns
returns c =
    let all : take c.loop-place.place c.args.log.now ≡ c.args.log.now = take_all c.loop-place.place c.args.log.now c.loop-place-test.false in
    subst (λ l. IsLastLost l c.args.key c.loop-place.last) all c.loop-place.invariant
