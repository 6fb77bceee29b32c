use Rattle.std.proofs.Common.{◌≡◌, eqb-true, refl, sym, subst, get_or, Some}
use Rattle.std.specs.Prelude.{Contains, slice_get}
use Rattle.std.proofs.lemmas.Option.{get_or_from_slice_get, slice_get-get_or}
use Rattle.demo_store.specs.declared.requests.Executed.{Executed}
use Rattle.demo_store.proofs.Lies.{one_last}
use Rattle.demo_store.proofs.faults.lost_key.Goals as goal

pub returns-in_err-source : goal.returns-in_err-source
returns-in_err-source c = rw c.from_residual-in_err-source.ensures (λ _ _ source lost.
    let log = c.args.log.now in
    let place = c.in_ok-place.place in
    let e = c.index-log-place.result in
    let same : lost.place ≡ place = one_last log c.args.key lost.place place lost.last c.in_ok-place.ensures.last in
    let at : get_or log place e ≡ lost.writer = get_or_from_slice_get log place lost.writer e (subst (λ n. slice_get log n ≡ Some lost.writer) same lost.there) in
    c.in_err-source.ensures source (subst (λ (w : Executed). Contains w.txn.reads (c.args.key, source)) (sym at) lost.read))

pub returns : goal.returns
returns c =
    let log = c.args.log.now in
    let place = c.in_ok-place.place in
    let e = get_or log place c.index-log-place.result in
    let there : slice_get log place ≡ Some e = slice_get-get_or log place c.index-log-place.result c.in_ok-place.ensures.within in
    let found = c.if-not-contains.ensures.cases in
    (refl, c.if-key-eq-EPOCH.false, (found.0, found.1, eqb-true _ _ (found.2 c.args.key)), record { place = place; last = c.in_ok-place.ensures.last; writer = e; there = there; read = c.in_ok-source.ensures })
