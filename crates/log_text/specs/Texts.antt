-- For private proofs: the compact text of data.
use Rattle.std.specs.Prelude.{◌≡◌, ℕ, List, [], ◌∷◌, false, ⊤}
use Rattle.serde_json.specs.Data.{Data, Items, no_items, item}
use Rattle.serde_json.specs.Written.{has_float, compact_text}

-- the data have no float, and this text
pub record HasText (given : Data) (text : List ℕ) : Type 0 where
  pub no_float : has_float given ≡ false
  pub text_is : compact_text given ≡ text

-- item by item
abbrev pub HaveTexts : Items → List (List ℕ) → Type 0
HaveTexts no_items [] = ⊤
HaveTexts (item given rest) (text ∷ texts) = HasText given text × HaveTexts rest texts
HaveTexts items texts = ⊥
