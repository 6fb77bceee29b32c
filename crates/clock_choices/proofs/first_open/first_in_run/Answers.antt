use Rattle.std.proofs.Common.{get_or, sym, subst}
use Rattle.std.proofs.lemmas.List.Elements.{Contains-get_or}
use Rattle.txn.specs.declared.choices.Choice.{Choice}
use Rattle.clock_choices.specs.Extending.{reached_in}
use Rattle.clock_choices.specs.Opens.{IsFirstOf, IsOfRun}
use Rattle.clock_choices.proofs.OpenReads.{first_of_run, none_of_run}
use Rattle.clock_choices.proofs.first_open.first_in_run.Goals as goal

pub open_span-from-requires-clause-there : goal.open_span-from-requires-clause-there
open_span-from-requires-clause-there c =
    let numbers = c.args.run.now.numbers.items in
    rw c.as_slice-numbers.ensures.value (λ place within. c.requires.run.there (get_or numbers place 0) (Contains-get_or numbers place 0 within))

pub returns-then-from-to : goal.returns-then-from-to
returns-then-from-to c = λ parts of_run.
    let from = c.open_span-from.result.0 in
    let to = c.open_span-from.result.1 in
    none_of_run parts (reached_in c.args.graph.now) c.args.read c.args.run.now of_run from to (rw c.as_slice-numbers.ensures.value at c.open_span-from.ensures) c.requires.run.climbs c.if-from-to.true

pub returns : goal.returns
returns c = λ parts of_run.
    let from = c.open_span-from.result.0 in
    let to = c.open_span-from.result.1 in
    let R = reached_in c.args.graph.now in
    subst (λ (choice : Choice). IsFirstOf parts R (IsOfRun c.args.read c.args.run.now) choice) (sym (rw c.as_slice-numbers.ensures.value at c.choice_of.ensures))
    (first_of_run parts R c.args.read c.args.run.now of_run from to (rw c.as_slice-numbers.ensures.value at c.open_span-from.ensures) c.requires.run.climbs c.if-from-to.false)
