-- Answers that are a yes or a no are of one kind: a tree that refutes leaves no order that explains.
use Rattle.refutation.specs.Laws.{RefutedHasNoOrder}
use Rattle.polygraph.specs.declared.solving.Answer.TheVariants.{Yes, No, Spent, NoMemory}
use Rattle.shared_search.specs.Laws.{both_yes, both_no}
use Rattle.guided_search.specs.Laws.{DecidedHasOneKind}

pub decided_kinds : RefutedHasNoOrder → DecidedHasOneKind
decided_kinds law parts b d e f (Yes order) (Yes other) good one two p q = both_yes order other
decided_kinds law parts b d e f (No tree) (No other) good one two p q = both_no tree other
decided_kinds law parts b d e f (Yes order) (No tree) good one two p q = absurd (law parts tree good two (order, one))
decided_kinds law parts b d e f (No tree) (Yes order) good one two p q = absurd (law parts tree good one (order, two))
decided_kinds law parts b d e f Spent other good one two p q = absurd p
decided_kinds law parts b d e f NoMemory other good one two p q = absurd p
decided_kinds law parts b d e f (Yes order) Spent good one two p q = absurd q
decided_kinds law parts b d e f (Yes order) NoMemory good one two p q = absurd q
decided_kinds law parts b d e f (No tree) Spent good one two p q = absurd q
decided_kinds law parts b d e f (No tree) NoMemory good one two p q = absurd q
