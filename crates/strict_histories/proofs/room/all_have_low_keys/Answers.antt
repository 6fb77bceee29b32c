use Rattle.std.proofs.Common.{◌≡◌, true, All, refl, sym, subst, ◌∙◌}
use Rattle.std.proofs.lemmas.Bool.{false≢true}
use Rattle.std.proofs.lemmas.List.{take_all}
use Rattle.std.proofs.lemmas.List.Elements.{All-more}
use Rattle.strict_histories.specs.declared.timed.TimedTxn.{TimedTxn}
use Rattle.strict_histories.specs.Rewriting.{HasLowKeys}
use Rattle.strict_histories.proofs.room.all_have_low_keys.Goals as goal

pub returns-then-not-have_low_keys : goal.returns-then-not-have_low_keys
returns-then-not-have_low_keys c = (
  λ no. absurd (false≢true no),
  λ all.
      let low : All (λ (t : TimedTxn). HasLowKeys t.txn) c.as_slice.result.now = subst (All (λ (t : TimedTxn). HasLowKeys t.txn)) (sym (c.as_slice.ensures ∙ c.txns-item.is)) (all c.loop-txns.txns-index c.txns-item.result c.loop-txns-test.true) in
      let yes : c.have_low_keys.result ≡ true = c.have_low_keys.ensures.1 low in
      cc,
)

pub loop-txns-preserved : goal.loop-txns-preserved
loop-txns-preserved c =
    let yes : c.have_low_keys.result ≡ true = cc in
    All-more (All (λ (t : TimedTxn). HasLowKeys t.txn)) c.args.timed.now c.loop-txns.txns-index c.txns-item.result c.loop-txns-test.true c.loop-txns.invariant (subst (All (λ (t : TimedTxn). HasLowKeys t.txn)) (c.as_slice.ensures ∙ c.txns-item.is) (c.have_low_keys.ensures.0 yes))

pub returns : goal.returns
returns c = (λ _. subst (All (All (λ (t : TimedTxn). HasLowKeys t.txn))) (take_all c.loop-txns.txns-index c.args.timed.now c.loop-txns-test.false) c.loop-txns.invariant, λ _. refl)
