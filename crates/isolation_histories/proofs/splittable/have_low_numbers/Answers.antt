use Rattle.std.proofs.Common.{◌≡◌, true, All, refl, sym, subst}
use Rattle.std.proofs.lemmas.Bool.{false≢true}
use Rattle.std.proofs.lemmas.List.{take_all}
use Rattle.std.proofs.lemmas.List.Elements.{All-more}
use Rattle.isolation_histories.specs.Splittable.{HasLowNumbers}
use Rattle.isolation_histories.proofs.splittable.have_low_numbers.Goals as goal

pub returns-then-not-has_low_numbers : goal.returns-then-not-has_low_numbers
returns-then-not-has_low_numbers c = (
  λ no. absurd (false≢true no),
  λ all.
      let low : HasLowNumbers c.txn-item.result = subst HasLowNumbers (sym c.txn-item.is) (all c.loop-txn.txn-index c.txn-item.result c.loop-txn-test.true) in
      let yes : c.has_low_numbers.result ≡ true = c.has_low_numbers.ensures.1 low in
      cc,
)

pub loop-txn-preserved : goal.loop-txn-preserved
loop-txn-preserved c =
    let yes : c.has_low_numbers.result ≡ true = cc in
    All-more HasLowNumbers c.args.txns.now c.loop-txn.txn-index c.txn-item.result c.loop-txn-test.true c.loop-txn.invariant (subst HasLowNumbers c.txn-item.is (c.has_low_numbers.ensures.0 yes))

pub returns : goal.returns
returns c = (λ _. subst (All HasLowNumbers) (take_all c.loop-txn.txn-index c.args.txns.now c.loop-txn-test.false) c.loop-txn.invariant, λ _. refl)
