use Rattle.std.proofs.Common.{refl, ap, ◌∙◌, List, ◌*◌}
use Rattle.std.proofs.lemmas.List.{take_all}
use Rattle.txn.specs.declared.transactions.Txn.{Txn}
use Rattle.isolation_histories.specs.Split.{split_txns}
use Rattle.isolation_histories.proofs.SplitSteps.{low_at, split_next}
use Rattle.isolation_histories.proofs.splitting.split_fragment.Goals as goal

pub push_halves-requires-clause-low : goal.push_halves-requires-clause-low
push_halves-requires-clause-low c = low_at c.args.fragment.now.txns c.as_slice-txn-items.result.now c.loop-place.place c.txn-item.result c.as_slice-txn-items.ensures c.requires.each c.loop-place-test.true c.txn-item.is

pub loop-place-preserved : goal.loop-place-preserved
loop-place-preserved c = split_next c.args.fragment.now.session c.args.fragment.now.first c.loop-place.place c.as_slice-txn-items.result.now c.loop-place.halves.items c.push_halves.new.halves.items _ c.txn-item.result c.loop-place-test.true c.txn-item.is refl c.loop-place.invariant c.in_ok-push_halves.ensures

pub returns : goal.returns
returns c = ap (λ (txns : List Txn). record { session = c.args.fragment.now.session; first = 2 * c.args.fragment.now.first; txns = txns }) (c.new.ensures ∙ c.loop-place.invariant ∙ ap (split_txns c.args.fragment.now.session c.args.fragment.now.first) (take_all c.loop-place.place c.as_slice-txn-items.result.now c.loop-place-test.false ∙ c.as_slice-txn-items.ensures))
