-- For private clauses: how far a search is.
use Rattle.std.specs.Prelude.{◌≡◌}
use Rattle.background_search.specs.Searches.{MayAnswer}
use Rattle.background_search.specs.UnderWay.{SearchOf}
use Rattle.background_search.specs.declared.under_way.Way.{Way}
use Rattle.background_search.specs.declared.under_way.Way.TheVariants.{Going, Ended}

-- it goes on in a thread that was given this, or has ended with what it may answer
abbrev pub IsWayOf : SearchOf → Way → Type 0
IsWayOf of (Going given) = given ≡ of
IsWayOf of (Ended answer) = MayAnswer of.effort.search of.parts of.effort.budget of.effort.depth answer
