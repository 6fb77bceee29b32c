use Rattle.std.proofs.Common.{◌≡◌, ◌+◌, ◌<◌, ◌∙◌, sym, ap, subst, [], ◌∷◌, ◌++◌, length, length-take-le, take, Some, arith}
use Rattle.std.proofs.lemmas.List.{take_more}
use Rattle.demo_store.specs.declared.requests.Executed.{Executed}
use Rattle.demo_store.specs.Logs.{IsLastPlace}
use Rattle.demo_store.proofs.LastPlaces.{last_more, last_here}
use Rattle.demo_store.proofs.lookups.last_place.Goals as goal
use Rattle.demo_store.proofs.lookups.last_place.Goals.{then-writes, else-writes}

pub loop-place-preserved : goal.loop-place-preserved
loop-place-preserved c =
    let log = c.args.log.now in
    let key = c.args.key in
    let place = c.loop-place.place in
    let e : Executed = c.index-log-place.result in
    let within : place < length log = c.loop-place-test.true in
    let front : length (take place log) ≡ place = length-take-le place log (omega (arith, within)) in
    let grown : take place log ++ e ∷ [] ≡ take (place + 1) log = ap (λ x. take place log ++ x ∷ []) c.index-log-place.is ∙ sym (take_more log place e within) in
    elim c.if-writes.branch [
      | then-writes w ↦ subst (λ last. IsLastPlace (take (place + 1) log) key last) (sym w.last-is)
          (subst (λ l. IsLastPlace l key (Some place)) grown (last_here (take place log) key place e front (sym c.writes.ensures ∙ w.if-writes.true)))
      | else-writes w ↦ subst (λ last. IsLastPlace (take (place + 1) log) key last) (sym w.last-is)
          (subst (λ l. IsLastPlace l key c.loop-place.last) grown (last_more (take place log) key place c.loop-place.last e (sym c.writes.ensures ∙ w.if-writes.false) c.loop-place.invariant))
    ]
