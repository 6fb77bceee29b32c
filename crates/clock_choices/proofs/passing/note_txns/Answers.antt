use Rattle.std.proofs.Common.{take, Contains}
use Rattle.std.proofs.lemmas.List.Elements.{All-more, All-nil, All-weaker}
use Rattle.txn.specs.declared.transactions.TxnId.{TxnId}
use Rattle.session_clocks.specs.Reach.{Reaches}
use Rattle.clock_choices.specs.Growth.{IsNotedFor}
use Rattle.clock_choices.proofs.Links.{all_taken}
use Rattle.clock_choices.proofs.Passes.{noted_for_stays}
use Rattle.clock_choices.proofs.passing.note_txns.Goals as goal

abbrev none : TxnId
none = record { session = 0; number = 0 }

pub loop-id-init : goal.loop-id-init
loop-id-init c =
    let graph = c.args.graph.now in
    record { stay = λ other there. there; noted = All-nil (IsNotedFor c.args.parts.now (Reaches graph.gone graph.received graph.arcs) (Contains c.args.due.now)) }

pub note_txn-requires : goal.note_txn-requires
note_txn-requires c = record { index = c.requires.index; nodes = c.requires.nodes; remains = c.requires.remain c.loop-id.id-index none c.loop-id-test.true }

pub loop-id-preserved : goal.loop-id-preserved
loop-id-preserved c =
    let was = c.loop-id.invariant in
    let graph = c.args.graph.now in
    let R : TxnId → TxnId → Type 0 = Reaches graph.gone graph.received graph.arcs in
    let due = c.loop-id.due in
    let then = c.note_txn.new.due in
    let ids = c.args.ids.now in
    let index = c.loop-id.id-index in
    let parts = c.args.parts.now in
    record {
      stay = λ other there. c.in_ok-note_txn.ensures.stay other (was.stay other there);
      noted = All-more (IsNotedFor parts R (Contains then)) ids index none c.loop-id-test.true
          (All-weaker (IsNotedFor parts R (Contains due)) (IsNotedFor parts R (Contains then)) (λ id is. noted_for_stays R due then c.in_ok-note_txn.ensures.stay parts id is) (take index ids) was.noted)
          c.in_ok-note_txn.ensures.noted;
    }

pub returns-clause-noted : goal.returns-clause-noted
returns-clause-noted c =
    let graph = c.args.graph.now in
    all_taken (IsNotedFor c.args.parts.now (Reaches graph.gone graph.received graph.arcs) (Contains c.loop-id.due)) c.args.ids.now c.loop-id.id-index c.loop-id-test.false c.loop-id.invariant.noted
