-- For private clauses: open choices that were listed, and are kept.
use Rattle.order_check.specs.declared.remainder.Parts.{Parts}
use Rattle.clock_choices.specs.CountedChoices.{AreFirstOpen}
use Rattle.clock_choices.specs.declared.open_choices.Listed.{Listed}

-- they are those of the parts, as many as were asked for
abbrev pub IsListed : Parts → Listed → Type 0
IsListed parts listed = AreFirstOpen parts listed.most listed.choices
