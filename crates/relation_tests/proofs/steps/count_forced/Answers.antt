use Rattle.std.proofs.Common.{◌∙◌, sym, ap, length}
use Rattle.std.proofs.lemmas.List.{length-map}
use Rattle.clock_choices.specs.Steps.{bare}
use Rattle.relation_tests.proofs.steps.count_forced.Goals as goal

-- A list of steps without their cycles is as long as the steps.
pub returns : goal.returns
returns c = sym (length-map c.steps.result.now bare) ∙ ap length c.steps.ensures
