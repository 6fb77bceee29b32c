use Rattle.std.proofs.Common.{◌-◌, arith, inl, inr, subst, sym, Contains}
use Rattle.std.proofs.lemmas.List.Elements.{Contains-get_or}
use Rattle.txn.specs.declared.transactions.TxnId.{TxnId}
use Rattle.clock_choices.proofs.spread.note_every.Goals as goal

pub loop-left-preserved : goal.loop-left-preserved
loop-left-preserved c = record {
  among = λ id there. elim (c.in_ok-note.ensures.only id there) [
    | inl was ↦ c.loop-left.invariant.among id was
    | inr same ↦ inr (subst (λ (one : TxnId). Contains c.args.ids.now one) (sym same) (Contains-get_or c.args.ids.now (c.loop-left.left - 1) _ (omega arith)))
  ];
  within = omega arith;
}
