use Rattle.std.proofs.Common.{◌∙◌, [], List, get_or, take, sym, subst, All}
use Rattle.std.proofs.lemmas.List.Elements.{All-nil, All-more, All-weaker}
use Rattle.txn.specs.declared.transactions.TxnId.{TxnId}
use Rattle.session_clocks.specs.Reach.{IsThere}
use Rattle.clock_choices.specs.declared.reads.Read.{Read}
use Rattle.clock_choices.specs.Extending.{reached_in}
use Rattle.clock_choices.specs.Forcing.{unforced, IsGrowth}
use Rattle.clock_choices.specs.Index.{IsRead, IsRunThere, reads_of, runs_of}
use Rattle.clock_choices.specs.Stages.{IsTurnSettled}
use Rattle.clock_choices.proofs.Extending.{extends_both, extends_none, on_new}
use Rattle.clock_choices.proofs.Growths.{growth_none, growth_both, forces_both}
use Rattle.clock_choices.proofs.Settled.{among_reads, batch_settled, take_all, turn_settled, turn_stays}
use Rattle.clock_choices.proofs.saturating.settle_batch.Goals as goal

pub loop-id-init : goal.loop-id-init
loop-id-init c =
    let R = reached_in c.args.graph.now in
    record {
      extends = extends_none c.args.graph.now;
      growth = subst (λ (due : List TxnId). IsGrowth R [] R due) (sym c.in_ok-due.ensures) (growth_none R []);
      forces = λ parts are reads. unforced;
      settled = λ parts are reads. All-nil (IsTurnSettled parts R c.in_ok-due.due c.args.batch.now);
    }

pub settle_reads-requires : goal.settle_reads-requires
settle_reads-requires c =
    let was = c.loop-id.invariant in
    let id = get_or c.ids-ids.result.now c.loop-id.id-index _ in
    let some = reads_of c.args.reads.now id in
    let mid = c.loop-id.graph in
    let each = rw c.reads_of.ensures at c.in_ok-turn.ensures.each in
    rw c.deref.ensures.value record {
      runs = λ key. on_new (λ gone received. All (IsRunThere gone received) (runs_of c.args.writers.now key)) was.extends (c.requires.runs key);
      readers = among_reads (λ (read : Read). IsThere mid.gone mid.received read.reader) some c.in_ok-turn.turn.items each
          (on_new (λ gone received. All (λ (read : Read). IsThere gone received read.reader) some) was.extends (c.requires.readers id));
    }

pub loop-id-preserved : goal.loop-id-preserved
loop-id-preserved c =
    let was = c.loop-id.invariant in
    let now = rw c.deref.ensures.value at c.in_ok-settle_reads.ensures in
    let batch = c.args.batch.now in
    let ids = c.ids-ids.result.now in
    let index = c.loop-id.id-index in
    let none : TxnId = _ in
    let id = get_or ids index none in
    let some = reads_of c.args.reads.now id in
    let turn = c.in_ok-turn.turn.items in
    let each = rw c.reads_of.ensures at c.in_ok-turn.ensures.each in
    let all = rw c.reads_of.ensures at c.in_ok-turn.ensures.all in
    let S = reached_in c.settle_reads.new.graph in
    let then = c.settle_reads.new.due in
    record {
      extends = extends_both was.extends c.settle_reads.ensures.extends;
      growth = growth_both was.growth now.growth;
      forces = λ parts are reads. forces_both was.extends (was.forces parts are reads) (now.forces parts are (among_reads (IsRead parts) some turn each (reads id).each));
      settled = λ parts are reads. All-more (IsTurnSettled parts S then batch) ids index none c.loop-id-test.true
          (All-weaker (IsTurnSettled parts (reached_in c.loop-id.graph) c.loop-id.due batch) (IsTurnSettled parts S then batch) (λ other is. turn_stays now.growth parts batch other is) (take index ids) (was.settled parts are reads))
          (turn_settled parts S then batch id some turn (reads id) all (now.settled parts are));
    }

pub returns : goal.returns
returns c =
    let was = c.loop-id.invariant in
    let R = reached_in c.loop-id.graph in
    let due = c.loop-id.due in
    let batch = c.args.batch.now in
    record {
      extends = was.extends;
      growth = was.growth;
      forces = was.forces;
      settled = λ parts are reads. batch_settled parts R due batch
          (subst (λ (some : List TxnId). All (IsTurnSettled parts R due batch) some) (take_all c.ids-ids.result.now c.loop-id.id-index c.loop-id-test.false ∙ c.ids-ids.ensures) (was.settled parts are reads));
    }
