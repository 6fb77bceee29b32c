use Rattle.std.proofs.Common.{◌≡◌, ◌∙◌, arith, below_more, get_or, sym, subst, take, Some}
use Rattle.std.proofs.lemmas.Bool.{false≢true}
use Rattle.std.proofs.lemmas.Grind.{get_or_default_zero}
use Rattle.demo_store.specs.Faults.{IsSplit}
use Rattle.demo_store.specs.Logs.{IsLastPlace, NoneWrote}
use Rattle.demo_store.proofs.Lies.{none_last, one_last}
use Rattle.demo_store.proofs.faults.split_after.Goals.{else-lower-key-via-then-lower-key+else-is_only_writer, else-lower-key-via-else-lower-key}
use Rattle.demo_store.proofs.faults.split_after.Goals as goal

pub returns-in_err-writer : goal.returns-in_err-writer
returns-in_err-writer c = rw c.from_residual.ensures (λ _ (k, key, within, there, split). none_last c.args.log.now c.args.lower split.place c.in_err-writer.ensures.last split.last)

pub loop-key-preserved : goal.loop-key-preserved
loop-key-preserved c =
    let log = c.args.log.now in
    let lower = c.args.lower in
    let writer = c.in_ok-writer.writer in
    let key = get_or c.args.keys.now c.loop-key.key-index 0 in
    below_more _ _ c.loop-key.invariant (λ split.
    let same : split.place ≡ writer = one_last log lower split.place writer split.last c.in_ok-writer.ensures.last in
    let only = subst (λ n. IsLastPlace log key (Some n) × NoneWrote (take n log) key) same (split.also, split.only) in
    elim c.else-lower-key.branch [
      | else-lower-key-via-then-lower-key+else-is_only_writer w ↦ false≢true (sym w.if-is_only_writer.false ∙ w.is_only_writer.ensures.1 only)
      | else-lower-key-via-else-lower-key w ↦ omega (arith, split.below, w.if-lower-key.false)
    ])

pub returns : goal.returns
returns c = λ _ (k, key, within, there, split).
    let keys = c.args.keys.now in
    let at : key ≡ get_or keys k 0 = sym there ∙ get_or_default_zero keys k key within in
    c.loop-key.invariant k (omega (arith, within, c.loop-key-test.false)) (subst (IsSplit c.args.log.now c.args.lower) at split)
