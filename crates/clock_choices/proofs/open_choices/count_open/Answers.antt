use Rattle.std.proofs.Common.{◌++◌, ◌∙◌, [], get_or, refl, sym, arith}
use Rattle.std.specs.Prelude.{⊤}
use Rattle.std.proofs.lemmas.List.{get_or_default, take_all}
use Rattle.std.proofs.lemmas.List.Elements.{Contains-get_or}
use Rattle.txn.specs.declared.transactions.TxnId.{TxnId}
use Rattle.txn.specs.declared.choices.Choice.{Choice}
use Rattle.clock_choices.specs.Adds.{Among}
use Rattle.clock_choices.specs.Extending.{reached_in}
use Rattle.clock_choices.specs.Opens.{IsOfReader}
use Rattle.clock_choices.proofs.OpenReads.{readers_all, readers_apart}
use Rattle.clock_choices.proofs.Opens.{among_none, open_all, open_more, open_nothing, open_same}
use Rattle.clock_choices.proofs.open_choices.count_open.Goals as goal

abbrev none : TxnId
none = record { session = 0; number = 0 }

pub loop-id-init : goal.loop-id-init
loop-id-init c =
    let parts = c.args.asked.now.parts.now in
    let R = reached_in c.args.asked.now.graph.now in (
      [],
      record { first = c.new-first.ensures.items ∙ sym (take_all c.args.most [] (omega arith)); counted = refl },
      open_nothing parts R (Among IsOfReader []) (λ choice is. among_none parts R IsOfReader c.args.ids.now choice),
    )

pub count_txn-requires-clause-remains : goal.count_txn-requires-clause-remains
count_txn-requires-clause-remains c =
    let ids = c.args.ids.now in
    let place = c.loop-id.id-index in
    (c.requires.members (get_or ids place none)).0 (Contains-get_or ids place none c.loop-id-test.true)

pub loop-id-preserved : goal.loop-id-preserved
loop-id-preserved c =
    let parts = c.args.asked.now.parts.now in
    let R = reached_in c.args.asked.now.graph.now in
    let ids = c.args.ids.now in
    let n = c.loop-id.id-index in
    let x = get_or ids n none in
    let below = c.loop-id-test.true in
    let was = c.loop-id.invariant in
    let new = c.in_ok-count_txn.ensures in (
      was.0 ++ new.0,
      new.1 was.0 was.1,
      open_more parts R IsOfReader ids n x below (get_or_default ids n none x below) (readers_apart ids c.requires.rise) was.0 new.0 was.2 new.2,
    )

pub returns : goal.returns
returns c =
    let parts = c.args.asked.now.parts.now in
    let R = reached_in c.args.asked.now.graph.now in
    let ids = c.args.ids.now in
    let was = c.loop-id.invariant in
    let is = was.1 in (
      was.0,
      open_same parts R (λ (choice : Choice). Among IsOfReader ids choice) (λ (choice : Choice). ⊤) (λ choice open_it. ((λ among. tt), (λ all. readers_all parts R ids c.requires.members choice open_it))) was.0
          (open_all parts R IsOfReader ids c.loop-id.id-index was.0 c.loop-id-test.false was.2),
      c.new-first-2.ensures ∙ is.first,
      is.counted,
    )
