use Rattle.std.proofs.Common.{◌≡◌, true, All, refl, sym, subst}
use Rattle.std.proofs.lemmas.Bool.{false≢true}
use Rattle.std.proofs.lemmas.List.{take_all}
use Rattle.std.proofs.lemmas.List.Elements.{All-more}
use Rattle.strict_histories.specs.declared.timed.TimedTxn.{TimedTxn}
use Rattle.strict_histories.specs.Rewriting.{HasLowKeys}
use Rattle.strict_histories.proofs.room.have_low_keys.Goals as goal

pub returns-then-not-has_low_keys : goal.returns-then-not-has_low_keys
returns-then-not-has_low_keys c = (
  λ no. absurd (false≢true no),
  λ all.
      let low : HasLowKeys c.txn-item.result.txn = subst (λ (t : TimedTxn). HasLowKeys t.txn) (sym c.txn-item.is) (all c.loop-txn.txn-index c.txn-item.result c.loop-txn-test.true) in
      let yes : c.has_low_keys.result ≡ true = c.has_low_keys.ensures.1 low in
      cc,
)

pub loop-txn-preserved : goal.loop-txn-preserved
loop-txn-preserved c =
    let yes : c.has_low_keys.result ≡ true = cc in
    All-more (λ (t : TimedTxn). HasLowKeys t.txn) c.args.txns.now c.loop-txn.txn-index c.txn-item.result c.loop-txn-test.true c.loop-txn.invariant (subst (λ (t : TimedTxn). HasLowKeys t.txn) c.txn-item.is (c.has_low_keys.ensures.0 yes))

pub returns : goal.returns
returns c = (λ _. subst (All (λ (t : TimedTxn). HasLowKeys t.txn)) (take_all c.loop-txn.txn-index c.args.txns.now c.loop-txn-test.false) c.loop-txn.invariant, λ _. refl)
