-- For private clauses: what the tokens of a line are in a form, read one by one.
use Rattle.std.specs.Prelude.{◌≡◌, ℕ, zero, suc, ◌≤◌, ◌<◌, ◌^◌, nat_lt, List, [], ◌∷◌, ◌++◌, length, Bool, true, false, ◌&&◌, Option, Some, None, IfSome, option_and_then, option_map, if◌then◌else◌}
use Rattle.fast_float.specs.Text.{Parts, digits_of}
use Rattle.json.specs.Token.{Token}
use Rattle.json.specs.Json.{value, items}
use Rattle.serde_json.specs.Data.{Data, null, boolean, number, unsigned, string, Items, no_items, item}
use Rattle.serde_json.specs.Read.{number_of, is_integer, of_json, of_items, converted}
use Rattle.serde_json.specs.View.{view}
use Rattle.serde_json.specs.declared.value.Value.{Value}
use Rattle.log_text.specs.Items.{each_of}
use Rattle.log_text.specs.Numbers.{whole_number}

-- what the first value is in this form, and the tokens behind it; none where no value begins there or it isn't in the form
abbrev pub read_as : {X : Type 0} → (Data → Option X) → ℕ → List Token → Option (X × List Token)
read_as form depth tokens = converted (λ j. option_and_then form (of_json j)) (value depth tokens)

-- the same of the items up to the end of an array, in a form of items
abbrev pub rest_as : {X : Type 0} → (Items → Option X) → ℕ → ℕ → List Token → Option (X × List Token)
rest_as form depth turns tokens = converted (λ js. option_and_then form (of_items js)) (items (value depth) turns tokens)

-- this was found, and these tokens are behind it
abbrev pub IsFoundAs : {X : Type 0} → Option (X × List Token) → Option X → List Token → Type 0
IsFoundAs told None behind = told ≡ None
IsFoundAs told (Some x) behind = told ≡ Some (x, behind)

-- The tokens begin with a value in this form, wherever arrays may nest as deep as that or deeper; or with none.
pub record IsRead {X : Type 0} (form : Data → Option X) (nests : ℕ) (old : List Token) (found : Option X) (new : List Token) : Type 0 where
  pub is : (depth : ℕ) → nests ≤ depth → IsFoundAs (read_as form depth old) found new
  pub shorter : IfSome found (λ x. length new < length old)

-- The same of items, up to the end of an array that has been opened.
pub record AreRead {X : Type 0} (form : Items → Option X) (nests : ℕ) (old : List Token) (found : Option X) (new : List Token) : Type 0 where
  pub is : (depth turns : ℕ) → nests ≤ depth → length old ≤ turns → IsFoundAs (rest_as form depth turns old) found new
  pub shorter : IfSome found (λ x. length new < length old)

-- The items of a list were read up to here: what comes of the rest is put behind these.
pub record ReadSoFar {X : Type 0} (form : Data → Option X) (nests : ℕ) (old : List Token) (front : List X) (here : List Token) : Type 0 where
  pub whole : (found : Option (List X)) (new : List Token) → AreRead (each_of form) nests here found new → AreRead (each_of form) nests old (option_map (λ xs. front ++ xs) found) new

-- what follows the bracket that opens an array, where one stands first
abbrev pub opens_array : List Token → Option (List Token)
opens_array (Token.begin_array ∷ more) = Some more
opens_array tokens = None

-- a word, or an unsigned whole number of 64 bits
abbrev pub is_atom : Data → Bool
is_atom (string word) = true
is_atom (number (unsigned n)) = true
is_atom given = false

-- at most so many items, each of them a word or such a number
abbrev pub is_few : ℕ → Items → Bool
is_few most no_items = true
is_few zero (item given rest) = false
is_few (suc most) (item given rest) = is_atom given && is_few most rest

abbrev pub few_in : ℕ → Items → Option Items
few_in most given = if is_few most given then Some given else None

-- what a token is by itself, as data
abbrev pub data_at : Token → Option Data
data_at (Token.string word) = Some (string word)
data_at (Token.number text) = option_map number (number_of text)
data_at (Token.boolean flag) = Some (boolean flag)
data_at Token.null = Some null
data_at token = None

-- the text of a number, where it is an unsigned whole one of 64 bits
abbrev pub whole_in : List ℕ → Option ℕ
whole_in text = option_and_then whole_number (option_map number (number_of text))

-- that number, by the parts of its text
abbrev pub whole_of : Parts → Option ℕ
whole_of parts = if is_integer parts && nat_lt (digits_of parts) (2 ^ 64) then Some (digits_of parts) else None

abbrev pub atom_of : Data → Option Data
atom_of given = if is_atom given then Some given else None

-- these values, in front of the items
abbrev pub items_before : List Value → Items → Items
items_before [] rest = rest
items_before (v ∷ front) rest = item (view v) (items_before front rest)

-- The values were read up to here, and so many more may follow.
pub record FewSoFar (most nests : ℕ) (old : List Token) (front : List Value) (left : ℕ) (here : List Token) : Type 0 where
  pub whole : (found : Option Items) (new : List Token) → AreRead (few_in left) nests here found new → AreRead (few_in most) nests old (option_map (items_before front) found) new

-- the form takes at most so many words and numbers, and nothing else
abbrev pub TakesFew : {X : Type 0} → ℕ → (Items → Option X) → Type 0
TakesFew most form = (given : Items) → is_few most given ≡ false → form given ≡ None
