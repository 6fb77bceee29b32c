-- For private clauses: what the items of a line hand in behind its name, in two steps.
use Rattle.std.specs.Prelude.{◌≡◌, ◌≢◌, ℕ, ◌⊎◌, List, [], Option, Some, None, bytes_eq, codes, if◌then◌else◌}
use Rattle.json.specs.Token.{Token}
use Rattle.serde_json.specs.Data.{Data, string, Items, item}
use Rattle.serde_json.specs.Read.{read}
use Rattle.log_text.specs.declared.answers.Handed.{Handed}
use Rattle.log_text.specs.declared.answers.Handed.TheVariants as handed
use Rattle.log_text.specs.declared.shown.Shown.{Shown}
use Rattle.log_text.specs.declared.shown.Shown.TheVariants.{Order, Refuted}
use Rattle.log_text.specs.Items.{list_of, one_item}
use Rattle.log_text.specs.Owed.{tree_list}
use Rattle.log_text.specs.Refutations.{AreNodesOf}
use Rattle.log_text.specs.Shown.{id_of, IsAnswer}
use Rattle.log_text.specs.Streams.{AreRead}
use Rattle.log_text.specs.declared.names.Names.{Names}

-- the items behind the word
abbrev pub handed_named : Names → List ℕ → Items → Option Handed
handed_named names word parts =
    if bytes_eq word (codes "order") then one_item handed.Order (list_of (id_of names)) parts
    else (if bytes_eq word (codes "refuted") then one_item handed.Nodes (tree_list names) parts
    else None)

abbrev pub handed_in : Names → Items → Option Handed
handed_in names (item (string word) parts) = handed_named names word parts
handed_in names items = None

-- what is handed in shows this
abbrev pub IsShownBy : Handed → Shown → Type 0
IsShownBy (handed.Order order) (Order order') = order ≡ order'
IsShownBy (handed.Nodes nodes) (Refuted tree) = AreNodesOf nodes tree
IsShownBy handed shown = ⊥

-- a line's items: the name "answer", and what is handed in behind it
abbrev pub answer_named : Names → List ℕ → Items → Option Handed
answer_named names name parts = if bytes_eq name (codes "answer") then handed_in names parts else None

abbrev pub answer_in : Names → Items → Option Handed
answer_in names (item (string name) parts) = answer_named names name parts
answer_in names items = None

-- What was handed in first is shown where it shows something and no token is behind it.
abbrev pub ShowsAtEnd : Option Handed → List Token → Option Shown → Type 0
ShowsAtEnd None behind found = found ≡ None
ShowsAtEnd (Some first) behind None = (behind ≢ []) ⊎ ((shown : Shown) → ¬ IsShownBy first shown)
ShowsAtEnd (Some first) behind (Some shown) = (behind ≡ []) × IsShownBy first shown

-- the tokens behind a line's name hand this in, or nothing
pub record IsAnsweredAt (names : Names) (tokens : List Token) (found : Option Shown) : Type 0 where
  pub first : Option Handed
  pub behind : List Token
  pub read : AreRead (handed_in names) 4 tokens first behind
  pub shows : ShowsAtEnd first behind found

-- the text is data that hand this in, or it is none
abbrev pub IsAnswerOf : Names → List ℕ → Option Shown → Type 0
IsAnswerOf names text None = (said : Data) (shown : Shown) → read text ≡ Some said → ¬ IsAnswer names said shown
IsAnswerOf names text (Some shown) = (said : Data) × (read text ≡ Some said) × IsAnswer names said shown
