use Rattle.std.proofs.Common.{List, length, get_or, sym, subst, arith}
use Rattle.std.specs.Prelude.{⊤}
use Rattle.std.proofs.lemmas.List.Elements.{Contains-get_or}
use Rattle.std.proofs.lemmas.List.{get_or_default, take_all}
use Rattle.txn.specs.declared.transactions.TxnId.{TxnId}
use Rattle.txn.specs.declared.choices.Choice.{Choice}
use Rattle.clock_choices.specs.Adds.{Among}
use Rattle.clock_choices.specs.Extending.{reached_in}
use Rattle.clock_choices.specs.Opens.{IsOfReader, NoneOpen}
use Rattle.clock_choices.proofs.OpenReads.{readers_all, readers_apart}
use Rattle.clock_choices.proofs.Opens.{first_at, first_same, none_all, none_more}
use Rattle.clock_choices.proofs.first_open.first_open_from.Goals as goal

abbrev none : TxnId
none = record { session = 0; number = 0 }

pub loop-place-init : goal.loop-place-init
loop-place-init c = c.requires.passed

pub first_of_txn-requires-clause-remains : goal.first_of_txn-requires-clause-remains
first_of_txn-requires-clause-remains c =
    let ids = c.args.ids.now in
    let place = c.loop-place.place in
    (c.requires.members (get_or ids place none)).0 (Contains-get_or ids place none c.loop-place-test.true)

pub returns-in-Some-clause-passed : goal.returns-in-Some-clause-passed
returns-in-Some-clause-passed c = c.loop-place.invariant

pub returns-in-Some-clause-choice : goal.returns-in-Some-clause-choice
returns-in-Some-clause-choice c =
    let parts = c.args.asked.now.parts.now in
    let R = reached_in c.args.asked.now.graph.now in
    let ids = c.args.ids.now in
    let n = c.loop-place.place in
    let x = get_or ids n none in
    let below = c.loop-place-test.true in
    first_same parts R (λ (choice : Choice). Among IsOfReader ids choice) (λ (choice : Choice). ⊤) (λ choice is. ((λ among. tt), (λ all. readers_all parts R ids c.requires.members choice is))) c.in-Some.choice
    (first_at parts R IsOfReader ids n x below (get_or_default ids n none x below) (readers_apart ids c.requires.rise) c.in-Some.choice c.loop-place.invariant c.in-Some.ensures)

pub loop-place-preserved : goal.loop-place-preserved
loop-place-preserved c =
    let parts = c.args.asked.now.parts.now in
    let R = reached_in c.args.asked.now.graph.now in
    let ids = c.args.ids.now in
    let n = c.loop-place.place in
    let x = get_or ids n none in
    let below = c.loop-place-test.true in
    none_more parts R IsOfReader ids n x below (get_or_default ids n none x below) c.loop-place.invariant c.in_default.ensures

pub returns-clause-passed : goal.returns-clause-passed
returns-clause-passed c =
    let parts = c.args.asked.now.parts.now in
    let R = reached_in c.args.asked.now.graph.now in
    let ids = c.args.ids.now in
    subst (λ (some : List TxnId). NoneOpen parts R (Among IsOfReader some)) (sym (take_all (length ids) ids (omega arith))) (none_all parts R IsOfReader ids c.loop-place.place c.loop-place-test.false c.loop-place.invariant)

pub returns-clause-choice : goal.returns-clause-choice
returns-clause-choice c = λ choice is.
    let parts = c.args.asked.now.parts.now in
    let R = reached_in c.args.asked.now.graph.now in
    let ids = c.args.ids.now in
    none_all parts R IsOfReader ids c.loop-place.place c.loop-place-test.false c.loop-place.invariant choice is (readers_all parts R ids c.requires.members choice is)
