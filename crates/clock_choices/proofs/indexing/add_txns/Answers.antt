use Rattle.std.proofs.Common.{◌≡◌, ◌+◌, List, [], get_or, take, subst, arith, Contains}
use Rattle.txn.specs.declared.transactions.TxnId.{TxnId}
use Rattle.clock_choices.specs.Indexing.{IsIndexWith}
use Rattle.clock_choices.proofs.Indexed.{index_with_both, index_with_none, taken_one_more, one_more_taken}
use Rattle.clock_choices.proofs.Settled.{take_all}
use Rattle.clock_choices.proofs.indexing.add_txns.Goals as goal

abbrev none : TxnId
none = record { session = 0; number = 0 }

pub loop-id-init : goal.loop-id-init
loop-id-init c = record { runs = c.requires; adds = index_with_none c.args.parts.now c.args.index.now (Contains []) (λ id there. omega (arith, there.1)) }

pub loop-id-preserved : goal.loop-id-preserved
loop-id-preserved c =
    let ids = c.args.ids.now in
    let k = c.loop-id.id-index in
    record {
      runs = c.in_ok-add_txn.ensures.runs;
      adds = index_with_both c.args.parts.now c.args.index.now c.loop-id.index c.add_txn.new.index (Contains (take k ids)) (λ other. other ≡ get_or ids k none) (Contains (take (k + 1) ids)) c.loop-id.invariant.adds c.in_ok-add_txn.ensures.adds
          (λ id there. taken_one_more ids k none id c.loop-id-test.true there) (λ id there. one_more_taken ids k none id c.loop-id-test.true there);
    }

pub returns-clause-adds : goal.returns-clause-adds
returns-clause-adds c = subst (λ (some : List TxnId). IsIndexWith c.args.parts.now c.args.index.now c.loop-id.index (Contains some)) (take_all c.args.ids.now c.loop-id.id-index c.loop-id-test.false) c.loop-id.invariant.adds
