-- What a run writes.
use Rattle.std.specs.Prelude.{ℕ, ◌+◌, List, [], ◌∷◌, ◌++◌, codes}
use Rattle.std.specs.Fmt.{decimal}
use Rattle.demonstration.specs.declared.texts.Shown.{Shown}
use Rattle.demonstration.specs.Names.{fault_name, kind_name}

abbrev pub collector_line : ℕ → ℕ → ℕ → List ℕ
collector_line collector submitted taken = codes "collector " ++ (decimal collector ++ (codes " submitted " ++ (decimal submitted ++ (codes " taken " ++ (decimal taken ++ codes "\n")))))

-- a line for each collector, from this one on
abbrev pub collector_lines : ℕ → List ℕ → List ℕ → List ℕ
collector_lines collector (submitted ∷ more) (taken ∷ others) = collector_line collector submitted taken ++ collector_lines (collector + 1) more others
collector_lines collector more others = []

-- the fault, how much each collector submitted and how much of it was taken, and the kinds of the last report and of the latest
abbrev pub demo_text : Shown → List ℕ
demo_text shown = codes "fault " ++ (fault_name shown.fault ++ (codes "\n" ++ (collector_lines 0 shown.tally.submitted shown.tally.taken ++ (codes "last " ++ (kind_name shown.last ++ (codes "\nlatest " ++ (kind_name shown.latest ++ codes "\n")))))))
