use Rattle.strict_offers.proofs.GoodParts.{good_parts}
use Rattle.strict_offers.proofs.laws.rounds_are_of_good_parts.Goals as goal

pub returns : goal.returns
returns c = good_parts c.rewriting_adds_few.ensures c.rewriting_goes_by_place.ensures c.rewriting_is_well_formed.ensures c.rewriting_keeps_counts.ensures
