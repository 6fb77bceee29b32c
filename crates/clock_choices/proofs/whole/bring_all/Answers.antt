use Rattle.std.proofs.Common.{◌-◌, ◌^◌, ℕ, [], OnOk, All, Contains}
use Rattle.std.proofs.lemmas.Result.{on_ok_weaker}
use Rattle.txn.specs.declared.transactions.TxnId.{TxnId}
use Rattle.session_clocks.specs.Reach.{IsThere}
use Rattle.clock_choices.specs.declared.reads.Read.{Read}
use Rattle.clock_choices.specs.Forcing.{Forces}
use Rattle.clock_choices.specs.Index.{IsRunThere, reads_of, runs_of}
use Rattle.clock_choices.proofs.Extending.{on_new}
use Rattle.clock_choices.proofs.Growths.{on_ok_two}
use Rattle.clock_choices.proofs.Links.{index_there, reads_are}
use Rattle.clock_choices.proofs.Wholes.{all_due, all_remain, held_all, new_all, nodes_all}
use Rattle.clock_choices.proofs.whole.bring_all.Goals as goal
use Rattle.clock_choices.proofs.whole.bring_all.Goals.{After-saturate}

-- above the number of each transaction
abbrev all_numbers : ℕ
all_numbers = 2 ^ 64 - 1

pub link_txns-requires : goal.link_txns-requires
link_txns-requires c =
    let is = c.requires.graph in
    record {
      index = c.requires.index;
      nodes = nodes_all c.args.parts.now c.args.graph.now is c.args.ids.now c.requires.ids;
      remain = all_remain c.args.parts.now c.args.graph.now is c.args.ids.now c.requires.ids;
    }

pub saturate-requires : goal.saturate-requires
saturate-requires c =
    let graph = c.args.graph.now in
    let parts = c.args.parts.now in
    let index = c.args.index.now in
    let nodes = nodes_all parts graph c.requires.graph c.args.ids.now c.requires.ids in
    rw c.deref.ensures.value record {
      runs = λ key. on_new (λ gone received. All (IsRunThere gone received) (runs_of index.writers key)) c.link_txns.ensures.extends (index_there parts graph.gone graph.received index c.requires.index nodes key);
      readers = λ id. on_new (λ gone received. All (λ (read : Read). IsThere gone received read.reader) (reads_of index.reads.items id)) c.link_txns.ensures.extends (reads_are parts graph.gone graph.received index c.requires.index nodes id);
    }

-- what was forced
forced : (c : After-saturate) → OnOk c.saturate.result (Forces c.args.parts.now c.link_txns.new.graph [] c.saturate.new.graph c.saturate.new.steps.items)
forced c =
    let is = c.requires.index in
    on_ok_weaker c.saturate.result (λ all. all c.args.parts.now is.writers is.reads) (rw (c.requires.steps, c.deref.ensures.value) at c.saturate.ensures.forces)

pub returns-clause-held : goal.returns-clause-held
returns-clause-held c =
    let graph = c.args.graph.now in
    let parts = c.args.parts.now in
    let ids = c.args.ids.now in
    let is = c.requires.graph in
    let index = c.requires.index in
    let linked = c.link_txns.new.graph in
    let extends = c.link_txns.ensures.extends in
    let start = c.note_all.new.self in
    let due = c.link_txns.new.due in
    let both = c.in_ok-link_txns.ensures.brings in
    let here : (id : TxnId) → Contains ids id → Contains start id = c.in_ok-note_all.ensures.here in
    let but = all_due parts graph is ids c.requires.ids all_numbers linked extends start due here both.0 both.1 in
    on_ok_two c.saturate.result (λ forces closed. held_all parts graph is ids c.requires.ids all_numbers linked extends start due here both.0 both.1 c.saturate.new.graph c.saturate.ensures.extends c.saturate.new.steps.items forces (closed parts index.writers index.reads but))
    (forced c) (rw (c.into_ids.ensures, c.deref.ensures.value) at c.saturate.ensures.closed)

pub returns-clause-new : goal.returns-clause-new
returns-clause-new c =
    let both = c.in_ok-link_txns.ensures.brings in
    on_ok_weaker c.saturate.result (λ forces. new_all c.args.parts.now c.args.graph.now c.requires.graph c.args.ids.now c.requires.ids all_numbers c.link_txns.new.graph c.link_txns.ensures.extends c.note_all.new.self c.link_txns.new.due c.in_ok-note_all.ensures.here both.0 both.1 c.saturate.new.graph c.saturate.ensures.extends c.saturate.new.steps.items forces) (forced c)
