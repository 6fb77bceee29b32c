-- Which search a round makes.
use Rattle.std.specs.Prelude.{ℕ, List, Option, Some, None, bytes_eq, codes, if◌then◌else◌}
use Rattle.serde_json.specs.Data.{Data, string, Items, no_items, item}
use Rattle.log_text.specs.declared.searches.Search.{Search}
use Rattle.log_text.specs.declared.searches.Search.TheVariants.{Plain, Guided}

-- "guided"
abbrev pub search_named : List ℕ → Option Search
search_named name = if bytes_eq name (codes "guided") then Some Guided else None

abbrev pub search_of : Data → Option Search
search_of (string name) = search_named name
search_of given = None

-- The search by what stands behind its numbers: the plain one where nothing does, and the guided one where "guided" does.
abbrev pub search_in : Items → Option Search
search_in no_items = Some Plain
search_in (item name no_items) = search_of name
search_in items = None
