-- Which lines hand an answer in: an order that is to explain what the open round is about, or a tree that is to refute it. And what the
-- text of a report shows.
use Rattle.std.specs.Prelude.{◌≡◌, ℕ, ◌⊎◌, List, Option, Some, None, MatchOption, IsUtf8, codes}
use Rattle.serde_json.specs.Data.{Data, string, array, Items, no_items, item}
use Rattle.serde_json.specs.Read.{read}
use Rattle.txn.specs.declared.transactions.TxnId.{TxnId}
use Rattle.log_text.specs.declared.shown.Shown.{Shown}
use Rattle.log_text.specs.declared.shown.Shown.TheVariants.{Order, Refuted}
use Rattle.log_text.specs.Items.{array_of, list_of}
use Rattle.log_text.specs.Named.{id_in}
use Rattle.log_text.specs.Refutations.{IsTree}
use Rattle.log_text.specs.declared.names.Names.{Names}

-- a name: an array of its parts
abbrev pub id_of : Names → Data → Option TxnId
id_of names = array_of (id_in names)

-- this is what is shown so, or nothing is
abbrev pub ShownOrNone : (Shown → Type 0) → Option Shown → Type 0
ShownOrNone IsSo found = MatchOption found ((shown : Shown) → ¬ IsSo shown) IsSo

-- what is given shows this by these names, behind its word: "order" and a list of names, or "refuted" and a tree
abbrev pub Shows : Names → Data → Data → Shown → Type 0
Shows names word given (Order order) = (word ≡ string (codes "order")) × (list_of (id_of names) given ≡ Some order)
Shows names word given (Refuted tree) = (word ≡ string (codes "refuted")) × IsTree names given tree

abbrev pub HandsInBy : Names → Data → Data → Data → Shown → Type 0
HandsInBy names name word given shown = (name ≡ string (codes "answer")) × Shows names word given shown

-- ["answer","order",order] or ["answer","refuted",tree]
abbrev pub HandsIn : Names → Items → Shown → Type 0
HandsIn names (item name (item word (item given no_items))) shown = HandsInBy names name word given shown
HandsIn names items shown = ⊥

abbrev pub IsAnswer : Names → Data → Shown → Type 0
IsAnswer names (array items) shown = HandsIn names items shown
IsAnswer names said shown = ⊥

-- A report shows this behind its kind: an order where it is serial or pending, and a tree where it is violated.
abbrev pub ShowsAs : Names → Data → Data → Shown → Type 0
ShowsAs names kind given (Order order) = ((kind ≡ string (codes "serial")) ⊎ (kind ≡ string (codes "pending"))) × (list_of (id_of names) given ≡ Some order)
ShowsAs names kind given (Refuted tree) = (kind ≡ string (codes "violated")) × IsTree names given tree

abbrev pub ReportsBy : Names → Data → Data → Data → Shown → Type 0
ReportsBy names name kind given shown = (name ≡ string (codes "report")) × ShowsAs names kind given shown

-- ["report",round,kind,counts,order] or ["report",round,"violated",counts,tree]; round and counts may be anything
abbrev pub Reports : Names → Items → Shown → Type 0
Reports names (item name (item round (item kind (item counts (item given no_items))))) shown = ReportsBy names name kind given shown
Reports names items shown = ⊥

abbrev pub IsReportOf : Names → Data → Shown → Type 0
IsReportOf names (array items) shown = Reports names items shown
IsReportOf names said shown = ⊥

-- The text is UTF-8, `serde_json` reads it as some data, and these are a report that shows this by these names.
pub record ShowsIn (names : Names) (text : List ℕ) (shown : Shown) : Type 0 where
  pub utf8 : IsUtf8 text
  pub said : Data
  pub reads : read text ≡ Some said
  pub is : IsReportOf names said shown

-- what the text shows, or that it shows nothing
abbrev pub IsShownIn : Names → List ℕ → Option Shown → Type 0
IsShownIn names text None = (shown : Shown) → ¬ ShowsIn names text shown
IsShownIn names text (Some shown) = ShowsIn names text shown
