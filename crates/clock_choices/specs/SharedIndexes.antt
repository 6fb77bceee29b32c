-- For private clauses: what is looked up of parts, as a relation, its copies and their branches share it.
use Rattle.std.specs.Arc.{arc_value}
use Rattle.order_check.specs.declared.remainder.Parts.{Parts}
use Rattle.clock_choices.specs.declared.indexing.Index.{Index}
use Rattle.clock_choices.specs.declared.sharing.SharedIndex.{SharedIndex}
use Rattle.clock_choices.specs.Indexing.{IsIndex}

-- what is shared
abbrev pub index_in : SharedIndex → Index
index_in s = arc_value s.shared

-- it is that of the parts
abbrev pub IsIndexIn : Parts → SharedIndex → Type 0
IsIndexIn parts s = IsIndex parts (index_in s)
