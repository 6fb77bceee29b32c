use Rattle.std.proofs.Common.{◌↔◌, ◌<◌, List, sym, subst, arith, Contains}
use Rattle.txn.specs.declared.transactions.TxnId.{TxnId}
use Rattle.order_check.specs.Based.{Remains}
use Rattle.clock_choices.specs.Indexing.{AreInOrder}
use Rattle.clock_choices.proofs.RemainingIds.{no_session, none_rise, session_more, session_within}
use Rattle.clock_choices.proofs.indexing.remaining_ids_of.Goals as goal

pub loop-session-init : goal.loop-session-init
loop-session-init c = record {
  members = λ id. subst (λ (ids : List TxnId). Contains ids id ↔ (Remains c.args.parts.now id × (id.session < 0))) (sym c.new-ids.ensures.items) (no_session c.args.parts.now id);
  rise = subst (λ (ids : List TxnId). AreInOrder ids) (sym c.new-ids.ensures.items) none_rise;
}

pub loop-session-preserved : goal.loop-session-preserved
loop-session-preserved c =
    let was = c.loop-session.invariant in
    record {
      members = λ id. session_more c.args.parts.now c.loop-session.ids.items c.push_ids.new.ids.items c.loop-session.session was.members c.in_ok-push_ids.ensures.adds id;
      rise = c.in_ok-push_ids.ensures.rise (λ id there. let is = (was.members id).0 there in is.1) was.rise;
    }

pub returns-clause-members : goal.returns-clause-members
returns-clause-members c =
    let was = c.loop-session.invariant in
    λ id. (
      (λ there. ((was.members id).0 there).0),
      (λ remains. (was.members id).1 (remains, (let within = session_within c.args.parts.now id remains in omega (arith, within, c.sessions-session-end.ensures, c.loop-session-test.false)))),
    )

pub returns-clause-rise : goal.returns-clause-rise
returns-clause-rise c = let was = c.loop-session.invariant in was.rise
