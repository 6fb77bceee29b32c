use Rattle.std.proofs.Common.{◌≡◌, ◌∙◌, ◌++◌, Bool, true, false, ℕ, List, length, refl, sym, ap, subst}
use Rattle.std.specs.Prelude.{◌↔◌, IsTrue, slice_set}
use Rattle.std.proofs.lemmas.Bool.{false≢true}
use Rattle.txn.specs.History.{session_of}
use Rattle.strict_histories.specs.declared.timed.TimedTxn.{TimedTxn}
use Rattle.strict_histories.specs.Strict.{TimedHistory}
use Rattle.strict_offers.specs.Offers.{HaveGoodTimes}
use Rattle.strict_offers.proofs.offers.take.Goals as goal

-- what was looked at is what is there
told_of : (can : Bool) (s : ℕ) (seen timed : TimedHistory) (looked given : List TimedTxn) → seen ≡ timed → looked ≡ given → (IsTrue can ↔ HaveGoodTimes (length seen) (session_of seen s) looked) → (IsTrue can ↔ HaveGoodTimes (length timed) (session_of timed s) given)
told_of can s seen timed looked given rows items told =
    subst (λ (txns : List TimedTxn). IsTrue can ↔ HaveGoodTimes (length timed) (session_of timed s) txns) items (subst (λ (sessions : TimedHistory). IsTrue can ↔ HaveGoodTimes (length sessions) (session_of sessions s) looked) rows told)

pub returns-then-not-can_take-clause-err : goal.returns-then-not-can_take-clause-err
returns-then-not-can_take-clause-err c = (
  λ good.
      let told = told_of c.can_take.result c.args.session c.as_slice.result.now c.args.sessions.now c.as_slice-2.result.now c.args.given c.as_slice.ensures c.as_slice-2.ensures c.can_take.ensures in
      let yes : c.can_take.result ≡ true = told.1 good in
      let no : c.can_take.result ≡ false = cc in
      absurd (false≢true (sym no ∙ yes)),
  refl,
)

pub returns-in-Ok-clause-ok : goal.returns-in-Ok-clause-ok
returns-in-Ok-clause-ok c =
    let told = told_of c.can_take.result c.args.session c.as_slice.result.now c.args.sessions.now c.as_slice-2.result.now c.args.given c.as_slice.ensures c.as_slice-2.ensures c.can_take.ensures in
    let yes : c.can_take.result ≡ true = cc in (
      told.0 yes,
      c.in-Ok.ensures.ok ∙ ap (λ place. slice_set c.args.sessions.now place (session_of c.args.sessions.now place ++ c.args.given)) c.from.ensures,
    )
