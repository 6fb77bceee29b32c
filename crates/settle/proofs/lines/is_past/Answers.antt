use Rattle.std.proofs.Common.{◌≡◌, subst}
use Rattle.std.proofs.lemmas.Bool.{false≢true}
use Rattle.txn.specs.declared.transactions.TxnId.{TxnId}
use Rattle.order_check.specs.declared.remainder.Parts.{Parts}
use Rattle.order_check.specs.Based.{Remains}
use Rattle.settle.specs.Lines.{IsLastRemaining}
use Rattle.settle.proofs.Past.{no_past, past_by_last}
use Rattle.settle.proofs.lines.is_past.Goals as goal

pub returns-in-Some : goal.returns-in-Some
returns-in-Some c =
    let last = subst (λ (p : Parts). IsLastRemaining p c.args.session c.in-Some.last) c.parts.ensures.value c.in-Some.ensures in
    let past = past_by_last c.args.known.now.parts c.args.fence c.args.session c.in-Some.last last in
    ((λ t. past.0 (c.is_past_by.ensures.0 t)), (λ h. c.is_past_by.ensures.1 (past.1 h)))

pub returns-in-None : goal.returns-in-None
returns-in-None c =
    let none = subst (λ (p : Parts). (id : TxnId) → id.session ≡ c.args.session → ¬ Remains p id) c.parts.ensures.value c.in-None.ensures in
    ((λ h. absurd (false≢true h)), (λ past. absurd (no_past c.args.known.now.parts c.args.fence c.args.session none past)))
