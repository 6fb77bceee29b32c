use Rattle.std.proofs.Common.{◌≡◌, ◌++◌, List, take}
use Rattle.txn.specs.declared.choices.Choice.{Choice}
use Rattle.clock_choices.specs.Opens.{choices_at}
use Rattle.clock_choices.proofs.open_choices.push_within.Given as goal

abbrev pub invariant-loop-number : goal.invariant-loop-number
invariant-loop-number l = (all : List Choice) → l.initial.first.items ≡ take l.most all → l.first.items ≡ take l.most (all ++ choices_at l.read l.session (take l.number-index l.numbers))
