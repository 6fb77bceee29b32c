use Rattle.std.proofs.Common.{◌≡◌, inl, inr, refl, sym, ◌∙◌, true, Option, subst}
use Rattle.std.proofs.lemmas.Bool.{false≢true}
use Rattle.txn.specs.declared.transactions.TxnId.{TxnId}
use Rattle.settle.specs.Writers.{Overrules}
use Rattle.settle.proofs.writers.note_write.Goals as goal

pub returns-then-not-overrules : goal.returns-then-not-overrules
returns-then-not-overrules c =
    inr ((λ h. let t : c.overrules.result ≡ true = c.overrules.ensures.1 (subst (λ (o : Option TxnId). Overrules c.args.known.now.parts o c.args.writer) (sym c.get.ensures) h) in absurd (false≢true (sym c.if-not-overrules.true ∙ t))), refl)

pub returns : goal.returns
returns c = inl (subst (λ (o : Option TxnId). Overrules c.args.known.now.parts o c.args.writer) c.get.ensures (c.overrules.ensures.0 c.if-not-overrules.false), c.in_ok-insert.ensures.ok)
