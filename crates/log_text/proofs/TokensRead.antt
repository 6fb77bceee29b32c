-- A line is read token by token, in the form that its data are in.
use Rattle.std.proofs.Common.{◌≡◌, ℕ, zero, suc, ◌≤◌, ◌<◌, List, [], ◌∷◌, ◌++◌, length, Option, Some, None, option_and_then, option_map, refl, sym, ap, ◌∙◌, subst, arith, Vec, Global}
use Rattle.std.specs.Prelude.{IfSome, IfOk, Result, Ok, Err, Bool, true, false, ◌&&◌, if◌then◌else◌}
use Rattle.std.proofs.lemmas.List.{append_assoc, append-nil}
use Rattle.json.specs.Token.{Token}
use Rattle.json.specs.Json as json
use Rattle.json.specs.Json.{Parse, parse_map, after_end_array, items_step, items, members, value_with, value}
use Rattle.json.proofs.Grammar.{value_is, items_end, after_end_array-shorter}
use Rattle.serde_json.specs.Data.{Data, Num, null, boolean, number, string, array, object, Items, no_items, item, Members, no_members}
use Rattle.serde_json.specs.Read.{number_of, of_json, of_items, of_members, converted}
use Rattle.serde_json.specs.View.{view, items_view}
use Rattle.serde_json.specs.declared.value.Value.{Value}
use Rattle.log_text.specs.Items.{array_of, each_of, alone, one_item, two_items, three_items, with_both, with_three}
use Rattle.log_text.specs.Streams.{read_as, rest_as, IsFoundAs, IsRead, AreRead, ReadSoFar, FewSoFar, TakesFew, opens_array, data_at, is_atom, is_few, few_in, atom_of, items_before}

-- ---- what is told

same_found : {X : Type 0} (told other : Option (X × List Token)) (found : Option X) (new : List Token) → told ≡ other → IsFoundAs other found new → IsFoundAs told found new
same_found told other None new same is = same ∙ is
same_found told other (Some x) new same is = same ∙ is

-- ---- brackets

opened : (ts more : List Token) → opens_array ts ≡ Some more → ts ≡ Token.begin_array ∷ more
opened [] more e = absurd (let no : ⊥ = cc in no)
opened (Token.begin_object ∷ ts) more e = absurd (let no : ⊥ = cc in no)
opened (Token.end_object ∷ ts) more e = absurd (let no : ⊥ = cc in no)
opened (Token.begin_array ∷ ts) more e = ap (λ us. Token.begin_array ∷ us) (let same : ts ≡ more = cc in same)
opened (Token.end_array ∷ ts) more e = absurd (let no : ⊥ = cc in no)
opened (Token.key s ∷ ts) more e = absurd (let no : ⊥ = cc in no)
opened (Token.string s ∷ ts) more e = absurd (let no : ⊥ = cc in no)
opened (Token.number s ∷ ts) more e = absurd (let no : ⊥ = cc in no)
opened (Token.boolean b ∷ ts) more e = absurd (let no : ⊥ = cc in no)
opened (Token.null ∷ ts) more e = absurd (let no : ⊥ = cc in no)
opened (Token.bad ∷ ts) more e = absurd (let no : ⊥ = cc in no)

closed : (ts more : List Token) → after_end_array ts ≡ Some more → ts ≡ Token.end_array ∷ more
closed [] more e = absurd (let no : ⊥ = cc in no)
closed (Token.begin_object ∷ ts) more e = absurd (let no : ⊥ = cc in no)
closed (Token.end_object ∷ ts) more e = absurd (let no : ⊥ = cc in no)
closed (Token.begin_array ∷ ts) more e = absurd (let no : ⊥ = cc in no)
closed (Token.end_array ∷ ts) more e = ap (λ us. Token.end_array ∷ us) (let same : ts ≡ more = cc in same)
closed (Token.key s ∷ ts) more e = absurd (let no : ⊥ = cc in no)
closed (Token.string s ∷ ts) more e = absurd (let no : ⊥ = cc in no)
closed (Token.number s ∷ ts) more e = absurd (let no : ⊥ = cc in no)
closed (Token.boolean b ∷ ts) more e = absurd (let no : ⊥ = cc in no)
closed (Token.null ∷ ts) more e = absurd (let no : ⊥ = cc in no)
closed (Token.bad ∷ ts) more e = absurd (let no : ⊥ = cc in no)

-- ---- one token

converted_after : {A B C : Type 0} (f : B → Option C) (g : A → B) (o : Option (A × List Token)) → converted f (parse_map g o) ≡ converted (λ a. f (g a)) o
converted_after f g None = refl
converted_after f g (Some p) = refl

converted_none : {A B : Type 0} (f : A → Option B) (o : Option (A × List Token)) → ((a : A) → f a ≡ None) → converted f o ≡ None
converted_none f None none = refl
converted_none f (Some p) none = ap (option_map (λ b. (b, p.1))) (none p.0)

-- a form of what is neither an array nor an object
abbrev pub IsFlat : {X : Type 0} → (Data → Option X) → Type 0
IsFlat form = ((given : Items) → form (array given) ≡ None) × ((given : Members) → form (object given) ≡ None)

none_of_array : {X : Type 0} (form : Data → Option X) → ((given : Items) → form (array given) ≡ None) → (o : Option Items) → option_and_then form (option_map array o) ≡ None
none_of_array form flat None = refl
none_of_array form flat (Some given) = flat given

none_of_object : {X : Type 0} (form : Data → Option X) → ((given : Members) → form (object given) ≡ None) → (o : Option Members) → option_and_then form (option_map object o) ≡ None
none_of_object form flat None = refl
none_of_object form flat (Some given) = flat given

told_object : {X : Type 0} (form : Data → Option X) → ((given : Members) → form (object given) ≡ None) → (o : Option (json.Members × List Token)) → converted (λ j. option_and_then form (of_json j)) (parse_map json.object o) ≡ None
told_object form none None = refl
told_object form none (Some (ms, behind)) = ap (option_map (λ x. (x, behind))) (none_of_object form none (of_members ms no_members))

told_array : {X : Type 0} (form : Data → Option X) → ((given : Items) → form (array given) ≡ None) → (o : Option (json.Items × List Token)) → converted (λ j. option_and_then form (of_json j)) (parse_map json.array o) ≡ None
told_array form none None = refl
told_array form none (Some (js, behind)) = ap (option_map (λ x. (x, behind))) (none_of_array form none (of_items js))

module _ {X : Type 0} (form : Data → Option X) where
  at_with : (a : Parse json.Items) (o : Parse json.Members) (t : Token) (new : List Token) → IsFlat form → converted (λ j. option_and_then form (of_json j)) (value_with a o (t ∷ new)) ≡ option_map (λ x. (x, new)) (option_and_then form (data_at t))
  at_with a o Token.begin_object new flat = told_object form flat.1 (o new)
  at_with a o Token.end_object new flat = refl
  at_with a o Token.begin_array new flat = told_array form flat.0 (a new)
  at_with a o Token.end_array new flat = refl
  at_with a o (Token.key s) new flat = refl
  at_with a o (Token.string s) new flat = refl
  at_with a o (Token.number s) new flat = refl
  at_with a o (Token.boolean b) new flat = refl
  at_with a o Token.null new flat = refl
  at_with a o Token.bad new flat = refl

  at_value : (depth : ℕ) (t : Token) (new : List Token) → IsFlat form → read_as form depth (t ∷ new) ≡ option_map (λ x. (x, new)) (option_and_then form (data_at t))
  unfolding value
  at_value zero t new flat = at_with (λ ts. None) (λ ts. None) t new flat
  at_value (suc depth) t new flat = at_with (λ ts. items (value depth) (length ts) ts) (λ ts. members (value depth) (length ts) ts) t new flat

  at_end : (depth : ℕ) → read_as form depth [] ≡ None
  at_end depth = ap (converted (λ j. option_and_then form (of_json j))) (value_is depth [])

  no_value : (depth : ℕ) (ts behind : List Token) → after_end_array ts ≡ Some behind → read_as form depth ts ≡ None
  no_value depth ts behind over = ap (read_as form depth) (closed ts behind over) ∙ ap (converted (λ j. option_and_then form (of_json j))) (value_is depth (Token.end_array ∷ behind))

pub found_at : {X : Type 0} (told : Option (X × List Token)) (found : Option X) (new : List Token) → told ≡ option_map (λ x. (x, new)) found → IsFoundAs told found new
found_at told None new is = is
found_at told (Some x) new is = is

shorter_by_one : {X : Type 0} (found : Option X) (t : Token) (old new : List Token) → old ≡ t ∷ new → IfSome found (λ x. length new < length old)
shorter_by_one None t old new is = tt
shorter_by_one (Some x) t old new is = omega (arith, ap length is)

pub token_read : {X : Type 0} (form : Data → Option X) (t : Token) (old new : List Token) (found : Option X) → IsFlat form → old ≡ t ∷ new → found ≡ option_and_then form (data_at t) → IsRead form 0 old found new
token_read form t old new found flat is same = record {
  is = λ depth nests. found_at _ found new (ap (read_as form depth) is ∙ at_value form depth t new flat ∙ ap (option_map (λ x. (x, new))) (sym same));
  shorter = shorter_by_one found t old new is;
}

pub no_token_read : {X : Type 0} (form : Data → Option X) (nests : ℕ) (old new : List Token) → old ≡ [] → IsRead form nests old None new
no_token_read form nests old new empty = record { is = λ depth nest. ap (read_as form depth) empty ∙ at_end form depth; shorter = tt }

-- ---- items

parted : {A X : Type 0} (behind : List Token) (o : Option Items) (next : A → Items → Option X) (first : Option A)
    → option_and_then {U = X × List Token} (λ a. option_map {U = X × List Token} (λ x. (x, behind)) (option_and_then (next a) o)) first ≡ option_map (λ x. (x, behind)) (option_and_then (λ a. option_and_then (next a) o) first)
parted behind o next None = refl
parted behind o next (Some a) = refl

without_rest : {A X : Type 0} (next : A → Items → Option X) (first : Option A) → None ≡ option_and_then (λ a. option_and_then (next a) None) first
without_rest next None = refl
without_rest next (Some a) = refl

with_rest : {A X : Type 0} (form : Items → Option X) (given : Data) (first : Option A) (next : A → Items → Option X) → ((rest : Items) → form (item given rest) ≡ option_and_then (λ a. next a rest) first)
    → (o : Option Items) → option_and_then form (option_map (item given) o) ≡ option_and_then (λ a. option_and_then (next a) o) first
with_rest form given first next law None = without_rest next first
with_rest form given first next law (Some rest) = law rest

one_more : {A X : Type 0} (form : Items → Option X) (given : Data) (first : Option A) (next : A → Items → Option X) → ((rest : Items) → form (item given rest) ≡ option_and_then (λ a. next a rest) first)
    → (m : Option (json.Items × List Token)) → converted (λ js. option_and_then form (option_map (item given) (of_items js))) m ≡ option_and_then (λ a. converted (λ js. option_and_then (next a) (of_items js)) m) first
one_more form given None next law None = refl
one_more form given (Some a) next law None = refl
one_more form given first next law (Some (js, behind)) = ap (option_map (λ x. (x, behind))) (with_rest form given first next law (of_items js)) ∙ sym (parted behind (of_items js) next first)

beside : {A Y : Type 0} (behind : List Token) (go : A → Option Y) (first : Option A) → option_and_then go first ≡ option_and_then (λ (p : A × List Token). go p.0) (option_map (λ a. (a, behind)) first)
beside behind go None = refl
beside behind go (Some a) = refl

no_more : {X : Type 0} (form : Items → Option X) (m : Option (json.Items × List Token)) → converted (λ js. option_and_then form None) m ≡ None
no_more form None = refl
no_more form (Some p) = refl

module _ {A X : Type 0} (form : Items → Option X) (head : Data → Option A) (next : A → Items → Option X) (law : (given : Data) (rest : Items) → form (item given rest) ≡ option_and_then (λ a. next a rest) (head given)) where
  with_data : (given : Option Data) (behind : List Token) (m : Option (json.Items × List Token))
      → converted (λ js. option_and_then form (option_and_then (λ d. option_map (item d) (of_items js)) given)) m ≡ option_and_then (λ (p : A × List Token). converted (λ js. option_and_then (next p.0) (of_items js)) m) (option_map (λ a. (a, behind)) (option_and_then head given))
  with_data None behind m = no_more form m
  with_data (Some d) behind m = one_more form d (head d) next (law d) m ∙ beside behind (λ a. converted (λ js. option_and_then (next a) (of_items js)) m) (head d)

  with_value : (depth turns : ℕ) (o : Option (json.Json × List Token))
      → converted (λ js. option_and_then form (of_items js)) (option_and_then (λ p. parse_map (json.item p.0) (items (value depth) turns p.1)) o)
      ≡ option_and_then (λ (p : A × List Token). rest_as (next p.0) depth turns p.1) (converted (λ j. option_and_then head (of_json j)) o)
  with_value depth turns None = refl
  with_value depth turns (Some (j, behind)) =
      converted_after (λ js. option_and_then form (of_items js)) (json.item j) (items (value depth) turns behind) ∙ with_data (of_json j) behind (items (value depth) turns behind) ∙ moved (option_and_then head (of_json j))
    where
      moved : (first : Option A) → option_and_then (λ (p : A × List Token). converted (λ js. option_and_then (next p.0) (of_items js)) (items (value depth) turns behind)) (option_map (λ a. (a, behind)) first)
          ≡ option_and_then (λ (p : A × List Token). rest_as (next p.0) depth turns p.1) (option_map (λ a. (a, behind)) first)
      moved None = refl
      moved (Some a) = refl

  one_turn : (depth turns : ℕ) (ts : List Token) → after_end_array ts ≡ None → rest_as form depth (suc turns) ts ≡ option_and_then (λ (p : A × List Token). rest_as (next p.0) depth turns p.1) (read_as head depth ts)
  unfolding items
  one_turn depth turns ts going = ap (λ o. converted (λ js. option_and_then form (of_items js)) (items_step (value depth) (items (value depth) turns) ts o)) going ∙ with_value depth turns (value depth ts)

  no_turn : (depth turns : ℕ) (ts behind : List Token) → after_end_array ts ≡ Some behind → form no_items ≡ None → rest_as form depth (suc turns) ts ≡ None
  unfolding items
  no_turn depth turns ts behind over none = ap (λ o. converted (λ js. option_and_then form (of_items js)) (items_step (value depth) (items (value depth) turns) ts o)) over ∙ ap (option_map (λ x. (x, behind))) none

  none_at : (depth turns : ℕ) (ts : List Token) (o : Option (List Token)) → after_end_array ts ≡ o → ((behind : List Token) → o ≡ Some behind → form no_items ≡ None) → read_as head depth ts ≡ None → rest_as form depth turns ts ≡ None
  unfolding items
  none_at depth zero ts o is none read = refl
  none_at depth (suc turns) ts None is none read = one_turn depth turns ts is ∙ ap (option_and_then (λ (p : A × List Token). rest_as (next p.0) depth turns p.1)) read
  none_at depth (suc turns) ts (Some behind) is none read = no_turn depth turns ts behind is (none behind refl)

  -- the first item isn't in its form, and one has to stand there
  pub head_none : form no_items ≡ None → (nests : ℕ) (old mid new : List Token) → IsRead head nests old None mid → AreRead form nests old None new
  head_none none nests old mid new read = record { is = λ depth turns deep enough. none_at depth turns old (after_end_array old) refl (λ behind over. none) (read.is depth deep); shorter = tt }

  -- the same where no end stands there
  pub item_none : (nests : ℕ) (old mid new : List Token) → after_end_array old ≡ None → IsRead head nests old None mid → AreRead form nests old None new
  item_none nests old mid new going read = record { is = λ depth turns deep enough. none_at depth turns old None going (λ behind over. absurd (let no : ⊥ = cc in no)) (read.is depth deep); shorter = tt }

  going_on : (depth : ℕ) (ts : List Token) (p : A × List Token) (o : Option (List Token)) → after_end_array ts ≡ o → read_as head depth ts ≡ Some p → after_end_array ts ≡ None
  going_on depth ts p None is read = is
  going_on depth ts p (Some behind) is read = absurd (let no : None ≡ Some p = sym (no_value head depth ts behind is) ∙ read in let never : ⊥ = cc in never)

  -- the first item is this one, and then it is as behind it
  pub head_then : (first nests : ℕ) (old mid new : List Token) (a : A) (found : Option X) → first ≤ nests → IsRead head first old (Some a) mid → AreRead (next a) nests mid found new → AreRead form nests old found new
  head_then first nests old mid new a found less read rest = record { is = at; shorter = shorter found rest.shorter }
    where
      at : (depth turns : ℕ) → nests ≤ depth → length old ≤ turns → IsFoundAs (rest_as form depth turns old) found new
      at depth zero deep enough = absurd (omega (arith, read.shorter))
      at depth (suc turns) deep enough =
          let here = read.is depth (omega arith) in
          same_found _ _ found new
          (one_turn depth turns old (going_on depth old (a, mid) (after_end_array old) refl here) ∙ ap (option_and_then (λ (p : A × List Token). rest_as (next p.0) depth turns p.1)) here)
          (rest.is depth turns deep (omega (arith, read.shorter)))

      shorter : (o : Option X) → IfSome o (λ x. length new < length mid) → IfSome o (λ x. length new < length old)
      shorter None h = tt
      shorter (Some x) h = omega (arith, read.shorter)

-- the end stands there
pub end_then : {X : Type 0} (form : Items → Option X) (nests : ℕ) (old new : List Token) (found : Option X) → after_end_array old ≡ Some new → form no_items ≡ found → AreRead form nests old found new
end_then form nests old new found over is = record {
  is = λ depth turns deep enough. found_at _ found new (ap (converted (λ js. option_and_then form (of_items js))) (items_end (value depth) turns old new enough over) ∙ ap (option_map (λ x. (x, new))) is);
  shorter = shorter found;
}
  where
    shorter : {X : Type 0} (o : Option X) → IfSome o (λ x. length new < length old)
    shorter None = tt
    shorter (Some x) = after_end_array-shorter old new over

-- it doesn't, and no item may stand there
pub end_none : {X : Type 0} (form : Items → Option X) (nests : ℕ) (old new : List Token) → after_end_array old ≡ None → ((given : Data) (rest : Items) → form (item given rest) ≡ None) → AreRead form nests old None new
unfolding items
end_none {X} form nests old new going none = record { is = at; shorter = tt }
  where
    nothing : (depth turns : ℕ) (p : Option (Data × List Token)) → option_and_then {U = X × List Token} (λ (q : Data × List Token). None) p ≡ None
    nothing depth turns None = refl
    nothing depth turns (Some q) = refl

    no_rest : (given : Option Data) (js : json.Items) → option_and_then form (option_and_then (λ d. option_map (item d) (of_items js)) given) ≡ None
    no_rest None js = refl
    no_rest (Some d) js = behind (of_items js)
      where
        behind : (o : Option Items) → option_and_then form (option_map (item d) o) ≡ None
        behind None = refl
        behind (Some rest) = none d rest

    no_item : (depth turns : ℕ) (o : Option (json.Json × List Token)) → converted (λ js. option_and_then form (of_items js)) (option_and_then (λ p. parse_map (json.item p.0) (items (value depth) turns p.1)) o) ≡ None
    no_item depth turns None = refl
    no_item depth turns (Some (j, behind)) = converted_after (λ js. option_and_then form (of_items js)) (json.item j) (items (value depth) turns behind) ∙ converted_none _ (items (value depth) turns behind) (λ js. no_rest (of_json j) js)

    at : (depth turns : ℕ) → nests ≤ depth → length old ≤ turns → rest_as form depth turns old ≡ None
    at depth zero deep enough = refl
    at depth (suc turns) deep enough = ap (λ o. converted (λ js. option_and_then form (of_items js)) (items_step (value depth) (items (value depth) turns) old o)) going ∙ no_item depth turns (value depth old)

-- ---- arrays

array_form : {X : Type 0} (form : Items → Option X) (o : Option (json.Items × List Token)) → converted (λ j. option_and_then (array_of form) (of_json j)) (parse_map json.array o) ≡ converted (λ js. option_and_then form (of_items js)) o
array_form form None = refl
array_form form (Some (js, behind)) = ap (option_map (λ x. (x, behind))) (inside (of_items js))
  where
    inside : (o : Option Items) → option_and_then (array_of form) (option_map array o) ≡ option_and_then form o
    inside None = refl
    inside (Some given) = refl

-- behind its opening bracket an array is as its items
pub array_then : {X : Type 0} (form : Items → Option X) (nests : ℕ) (old mid new : List Token) (found : Option X) → opens_array old ≡ Some mid → AreRead form nests mid found new → IsRead (array_of form) (suc nests) old found new
array_then {X} form nests old mid new found opens rest = record { is = at; shorter = shorter found rest.shorter }
  where
    at : (depth : ℕ) → suc nests ≤ depth → IsFoundAs (read_as (array_of form) depth old) found new
    at zero deep = absurd (omega arith)
    at (suc depth) deep =
        same_found _ _ found new
        (ap (read_as (array_of form) (suc depth)) (opened old mid opens) ∙ ap (converted (λ j. option_and_then (array_of form) (of_json j))) (value_is (suc depth) (Token.begin_array ∷ mid)) ∙ array_form form (items (value depth) (length mid) mid))
        (rest.is depth (length mid) (omega arith) (omega arith))

    shorter : (o : Option X) → IfSome o (λ x. length new < length mid) → IfSome o (λ x. length new < length old)
    shorter None h = tt
    shorter (Some x) h = omega (arith, ap length (opened old mid opens))

no_number : {X : Type 0} (form : Items → Option X) (o : Option Num) → option_and_then (array_of form) (option_map number o) ≡ None
no_number form None = refl
no_number form (Some n) = refl

no_array_with : {X : Type 0} (form : Items → Option X) (a : Parse json.Items) (o : Parse json.Members) (ts : List Token) → opens_array ts ≡ None → converted (λ j. option_and_then (array_of form) (of_json j)) (value_with a o ts) ≡ None
no_array_with form a o [] e = refl
no_array_with form a o (Token.begin_object ∷ ts) e = told_object (array_of form) (λ given. refl) (o ts)
no_array_with form a o (Token.end_object ∷ ts) e = refl
no_array_with form a o (Token.begin_array ∷ ts) e = absurd (let no : ⊥ = cc in no)
no_array_with form a o (Token.end_array ∷ ts) e = refl
no_array_with form a o (Token.key s ∷ ts) e = refl
no_array_with form a o (Token.string s ∷ ts) e = refl
no_array_with form a o (Token.number s ∷ ts) e = ap (option_map (λ x. (x, ts))) (no_number form (number_of s))
no_array_with form a o (Token.boolean b ∷ ts) e = refl
no_array_with form a o (Token.null ∷ ts) e = refl
no_array_with form a o (Token.bad ∷ ts) e = refl

no_array : {X : Type 0} (form : Items → Option X) (depth : ℕ) (ts : List Token) → opens_array ts ≡ None → read_as (array_of form) depth ts ≡ None
unfolding value
no_array form zero ts e = no_array_with form (λ ts. None) (λ ts. None) ts e
no_array form (suc depth) ts e = no_array_with form (λ ts. items (value depth) (length ts) ts) (λ ts. members (value depth) (length ts) ts) ts e

-- and what doesn't begin with one is none
pub array_none : {X : Type 0} (form : Items → Option X) (nests : ℕ) (old new : List Token) → opens_array old ≡ None → IsRead (array_of form) nests old None new
array_none form nests old new none = record { is = λ depth deep. no_array form depth old none; shorter = tt }

-- ---- under a map

converted_map : {A X Y : Type 0} (f : X → Y) (form : A → Option X) (o : Option (A × List Token)) → converted (λ a. option_map f (form a)) o ≡ option_map (λ (p : X × List Token). (f p.0, p.1)) (converted form o)
converted_map f form None = refl
converted_map {A} {X} {Y} f form (Some (a, behind)) = inside (form a)
  where
    inside : (x : Option X) → option_map {U = Y × List Token} (λ y. (y, behind)) (option_map f x) ≡ option_map (λ (p : X × List Token). (f p.0, p.1)) (option_map (λ x. (x, behind)) x)
    inside None = refl
    inside (Some x) = refl

same_converted : {A X : Type 0} (form other : A → Option X) (o : Option (A × List Token)) → ((a : A) → form a ≡ other a) → converted form o ≡ converted other o
same_converted form other None same = refl
same_converted form other (Some p) same = ap (option_map (λ x. (x, p.1))) (same p.0)

map_items : {X Y : Type 0} (f : X → Y) (form : Items → Option X) (o : Option Items) → option_and_then (λ given. option_map f (form given)) o ≡ option_map f (option_and_then form o)
map_items f form None = refl
map_items f form (Some given) = refl

map_found : {X Y : Type 0} (f : X → Y) (told : Option (X × List Token)) (found : Option X) (new : List Token) → IsFoundAs told found new → IsFoundAs (option_map (λ (p : X × List Token). (f p.0, p.1)) told) (option_map f found) new
map_found f told None new is = ap (option_map (λ p. (f p.0, p.1))) is
map_found f told (Some x) new is = ap (option_map (λ p. (f p.0, p.1))) is

map_shorter : {X Y : Type 0} (f : X → Y) (found : Option X) (old new : List Token) → IfSome found (λ x. length new < length old) → IfSome (option_map f found) (λ y. length new < length old)
map_shorter f None old new less = tt
map_shorter f (Some x) old new less = less

pub are_read_map : {X Y : Type 0} (f : X → Y) (form : Items → Option X) (nests : ℕ) (old new : List Token) (found : Option X) → AreRead form nests old found new → AreRead (λ given. option_map f (form given)) nests old (option_map f found) new
are_read_map f form nests old new found read = record {
  is = λ depth turns deep enough.
      same_found _ _ (option_map f found) new
      (same_converted (λ js. option_and_then (λ given. option_map f (form given)) (of_items js)) (λ js. option_map f (option_and_then form (of_items js))) (items (value depth) turns old) (λ js. map_items f form (of_items js))
      ∙ converted_map f (λ js. option_and_then form (of_items js)) (items (value depth) turns old))
      (map_found f (rest_as form depth turns old) found new (read.is depth turns deep enough));
  shorter = map_shorter f found old new read.shorter;
}

-- ---- deeper

pub deeper : {X : Type 0} (form : Data → Option X) (first nests : ℕ) (old new : List Token) (found : Option X) → first ≤ nests → IsRead form first old found new → IsRead form nests old found new
deeper form first nests old new found less read = record { is = λ depth deep. read.is depth (omega arith); shorter = read.shorter }

pub deeper_items : {X : Type 0} (form : Items → Option X) (first nests : ℕ) (old new : List Token) (found : Option X) → first ≤ nests → AreRead form first old found new → AreRead form nests old found new
deeper_items form first nests old new found less read = record { is = λ depth turns deep enough. read.is depth turns (omega arith) enough; shorter = read.shorter }

pub is_read : {X : Type 0} (form : Data → Option X) (nests : ℕ) (old new : List Token) (found other : Option X) → found ≡ other → IsRead form nests old found new → IsRead form nests old other new
is_read form nests old new found other same read = subst (λ o. IsRead form nests old o new) same read

pub are_read : {X : Type 0} (form : Items → Option X) (nests : ℕ) (old new : List Token) (found other : Option X) → found ≡ other → AreRead form nests old found new → AreRead form nests old other new
are_read form nests old new found other same read = subst (λ o. AreRead form nests old o new) same read

-- ---- lists, an item at a time

pub so_far_begins : {X : Type 0} (form : Data → Option X) (nests : ℕ) (old : List Token) (front : List X) → front ≡ [] → ReadSoFar form nests old front old
so_far_begins {X} form nests old front empty = record { whole = λ found new rest. subst (λ o. AreRead (each_of form) nests old o new) (same found) rest }
  where
    same : (o : Option (List X)) → o ≡ option_map (λ xs. front ++ xs) o
    same None = refl
    same (Some xs) = ap (λ ys. Some (ys ++ xs)) (sym empty)

pub so_far_more : {X : Type 0} (form : Data → Option X) (first nests : ℕ) (old here seen mid : List Token) (front now : List X) (x : X) → first ≤ nests → ReadSoFar form nests old front here → seen ≡ here → IsRead form first seen (Some x) mid → now ≡ front ++ x ∷ [] → ReadSoFar form nests old now mid
so_far_more {X} form first nests old here seen mid front now x less before still read more = record {
  whole = λ found new rest.
      subst (λ o. AreRead (each_of form) nests old o new) (same found)
      (before.whole (option_map (λ xs. x ∷ xs) found) new
      (head_then (each_of form) form (λ y given. option_map (λ xs. y ∷ xs) (each_of form given)) (λ given behind. refl) first nests here mid new x (option_map (λ xs. x ∷ xs) found) less (subst (λ ts. IsRead form first ts (Some x) mid) still read)
      (are_read_map (λ xs. x ∷ xs) (each_of form) nests mid new found rest)));
}
  where
    same : (o : Option (List X)) → option_map (λ xs. front ++ xs) (option_map (λ xs. x ∷ xs) o) ≡ option_map (λ xs. now ++ xs) o
    same None = refl
    same (Some xs) = ap Some (sym (append_assoc front (x ∷ []) xs) ∙ ap (λ ys. ys ++ xs) (sym more))

pub so_far_ends : {X : Type 0} (form : Data → Option X) (nests : ℕ) (old here new : List Token) (front now : List X) → ReadSoFar form nests old front here → after_end_array here ≡ Some new → now ≡ front → AreRead (each_of form) nests old (Some now) new
so_far_ends form nests old here new front now before over is =
    subst (λ xs. AreRead (each_of form) nests old (Some xs) new) (append-nil front ∙ sym is) (before.whole (Some []) new (end_then (each_of form) nests here new (Some []) over refl))

pub so_far_none : {X : Type 0} (form : Data → Option X) (first nests : ℕ) (old here seen mid new : List Token) (front : List X) → first ≤ nests → ReadSoFar form nests old front here → after_end_array here ≡ None → seen ≡ here → IsRead form first seen None mid → AreRead (each_of form) nests old None new
so_far_none form first nests old here seen mid new front less before going still read =
    before.whole None new (item_none (each_of form) form (λ y given. option_map (λ xs. y ∷ xs) (each_of form given)) (λ given behind. refl) nests here mid new going (deeper form first nests here mid None less (subst (λ ts. IsRead form first ts None mid) still read)))

-- ---- a few words and numbers

before_push : (vs : List Value) (v : Value) (rest : Items) → items_before vs (item (view v) rest) ≡ items_before (vs ++ v ∷ []) rest
before_push [] v rest = refl
before_push (w ∷ vs) v rest = ap (item (view w)) (before_push vs v rest)

before_none : (vs : List Value) → items_before vs no_items ≡ items_view vs
before_none [] = refl
before_none (v ∷ vs) = ap (item (view v)) (before_none vs)

few_step : (most : ℕ) (given : Data) (rest : Items) → few_in (suc most) (item given rest) ≡ option_and_then (λ d. option_map (item d) (few_in most rest)) (atom_of given)
few_step most given rest = both (is_atom given) (is_few most rest)
  where
    both : (a b : Bool) → (if a && b then Some (item given rest) else None) ≡ option_and_then (λ d. option_map (item d) (if b then Some rest else None)) (if a then Some given else None)
    both true true = refl
    both true false = refl
    both false b = refl

pub few_more : (nests most was left : ℕ) (old here seen mid : List Token) (front now : List Value) (v : Value) → was ≡ suc left → FewSoFar most nests old front was here → seen ≡ here → IsRead atom_of nests seen (Some (view v)) mid → now ≡ front ++ v ∷ [] → FewSoFar most nests old now left mid
few_more nests most was left old here seen mid front now v one before still read more = record {
  whole = λ found new rest.
      subst (λ o. AreRead (few_in most) nests old o new) (same found)
      ((subst (λ n. FewSoFar most nests old front n here) one before).whole (option_map (item (view v)) found) new
      (head_then (few_in (suc left)) atom_of (λ d given. option_map (item d) (few_in left given)) (few_step left) nests nests here mid new (view v) (option_map (item (view v)) found) (omega arith) (subst (λ ts. IsRead atom_of nests ts (Some (view v)) mid) still read)
      (are_read_map (item (view v)) (few_in left) nests mid new found rest)));
}
  where
    same : (o : Option Items) → option_map (items_before front) (option_map (item (view v)) o) ≡ option_map (items_before now) o
    same None = refl
    same (Some rest) = ap Some (before_push front v rest ∙ ap (λ vs. items_before vs rest) (sym more))

pub few_begins : (most nests left : ℕ) (old : List Token) (front : List Value) → front ≡ [] → left ≡ most → FewSoFar most nests old front left old
few_begins most nests left old front empty all = record { whole = λ found new rest. subst (λ o. AreRead (few_in most) nests old o new) (same found) (subst (λ n. AreRead (few_in n) nests old found new) all rest) }
  where
    same : (o : Option Items) → o ≡ option_map (items_before front) o
    same None = refl
    same (Some rest) = ap (λ vs. Some (items_before vs rest)) (sym empty)

pub few_ends : (most nests left : ℕ) (old here new : List Token) (front : List Value) → FewSoFar most nests old front left here → after_end_array here ≡ Some new → AreRead (few_in most) nests old (Some (items_view front)) new
few_ends most nests left old here new front before over =
    subst (λ given. AreRead (few_in most) nests old (Some given) new) (before_none front) (before.whole (Some no_items) new (end_then (few_in left) nests here new (Some no_items) over (none_few left)))
  where
    none_few : (n : ℕ) → few_in n no_items ≡ Some no_items
    none_few zero = refl
    none_few (suc n) = refl

pub few_none : (nests most was left : ℕ) (old here seen mid new : List Token) (front : List Value) → was ≡ suc left → FewSoFar most nests old front was here → after_end_array here ≡ None → seen ≡ here → IsRead atom_of nests seen None mid → AreRead (few_in most) nests old None new
few_none nests most was left old here seen mid new front one before going still read =
    (subst (λ n. FewSoFar most nests old front n here) one before).whole None new (item_none (few_in (suc left)) atom_of (λ d given. option_map (item d) (few_in left given)) (few_step left) nests here mid new going (subst (λ ts. IsRead atom_of nests ts None mid) still read))

-- no room is left, and no end stands there
pub few_full : (most nests left : ℕ) (old here new : List Token) (front : List Value) → left ≡ 0 → FewSoFar most nests old front left here → after_end_array here ≡ None → AreRead (few_in most) nests old None new
few_full most nests left old here new front none before going = (subst (λ n. FewSoFar most nests old front n here) none before).whole None new (end_none (few_in 0) nests here new going (λ given rest. refl))

-- a form that takes only a few of them
of_few : {X : Type 0} (form : Items → Option X) (most : ℕ) → TakesFew most form → (o : Option (json.Items × List Token)) → converted (λ js. option_and_then form (of_items js)) o ≡ converted form (converted (λ js. option_and_then (few_in most) (of_items js)) o)
of_few form most few None = refl
of_few {X} form most few (Some (js, behind)) = inside (of_items js)
  where
    chosen : (given : Items) (b : Bool) → is_few most given ≡ b → option_map {U = X × List Token} (λ x. (x, behind)) (form given) ≡ converted form (option_map (λ x. (x, behind)) (if b then Some given else None))
    chosen given true is = refl
    chosen given false is = ap (option_map (λ x. (x, behind))) (few given is)

    inside : (o : Option Items) → option_map {U = X × List Token} (λ x. (x, behind)) (option_and_then form o) ≡ converted form (option_map (λ x. (x, behind)) (option_and_then (few_in most) o))
    inside None = refl
    inside (Some given) = chosen given (is_few most given) refl

formed : {X : Type 0} (form : Items → Option X) (told : Option (Items × List Token)) (given : Items) (new : List Token) → told ≡ Some (given, new) → IsFoundAs (converted form told) (form given) new
formed form told given new is = found_at _ (form given) new (ap (converted form) is)

if_shorter : {X : Type 0} (found : Option X) (old new : List Token) → length new < length old → IfSome found (λ x. length new < length old)
if_shorter None old new less = tt
if_shorter (Some x) old new less = less

pub few_then : {X : Type 0} (form : Items → Option X) (most nests : ℕ) (old new : List Token) (given : Items) (found : Option X) → TakesFew most form → AreRead (few_in most) nests old (Some given) new → found ≡ form given → AreRead form nests old found new
few_then form most nests old new given found few read is =
    subst (λ o. AreRead form nests old o new) (sym is)
    (record {
      is = λ depth turns deep enough. same_found _ _ (form given) new (of_few form most few (items (value depth) turns old)) (formed form (rest_as (few_in most) depth turns old) given new (read.is depth turns deep enough));
      shorter = if_shorter (form given) old new read.shorter;
    })

pub few_not : {X : Type 0} (form : Items → Option X) (most nests : ℕ) (old new : List Token) → TakesFew most form → AreRead (few_in most) nests old None new → AreRead form nests old None new
few_not form most nests old new few read =
    record { is = λ depth turns deep enough. of_few form most few (items (value depth) turns old) ∙ ap (converted form) (read.is depth turns deep enough); shorter = tt }

-- what holds of an answer
pub ok_then : {X E : Type 0} {P Q : X → Type 0} (r : Result X E) → ((x : X) → P x → Q x) → IfOk r P → IfOk r Q
ok_then (Ok x) more is = more x is
ok_then (Err e) more is = tt

-- ---- arrays of a few words and numbers

chosen : {X : Type 0} (form : Items → Option X) (most : ℕ) (behind : List Token) (given : Items) (b : Bool) → TakesFew most form → is_few most given ≡ b
    → option_map {U = X × List Token} (λ x. (x, behind)) (form given) ≡ converted form (option_map (λ x. (x, behind)) (if b then Some given else None))
chosen form most behind given true few is = refl
chosen form most behind given false few is = ap (option_map (λ x. (x, behind))) (few given is)

of_few_data : {X : Type 0} (form : Items → Option X) (most : ℕ) (behind : List Token) → TakesFew most form → (o : Option Data)
    → option_map {U = X × List Token} (λ x. (x, behind)) (option_and_then (array_of form) o) ≡ converted form (option_map (λ x. (x, behind)) (option_and_then (array_of (few_in most)) o))
of_few_data form most behind few None = refl
of_few_data form most behind few (Some null) = refl
of_few_data form most behind few (Some (boolean b)) = refl
of_few_data form most behind few (Some (number n)) = refl
of_few_data form most behind few (Some (string s)) = refl
of_few_data form most behind few (Some (array given)) = chosen form most behind given (is_few most given) few refl
of_few_data form most behind few (Some (object ms)) = refl

of_few_array : {X : Type 0} (form : Items → Option X) (most : ℕ) → TakesFew most form → (o : Option (json.Json × List Token))
    → converted (λ j. option_and_then (array_of form) (of_json j)) o ≡ converted form (converted (λ j. option_and_then (array_of (few_in most)) (of_json j)) o)
of_few_array form most few None = refl
of_few_array form most few (Some (j, behind)) = of_few_data form most behind few (of_json j)

pub few_array_then : {X : Type 0} (form : Items → Option X) (most nests : ℕ) (old new : List Token) (given : Items) (found : Option X) → TakesFew most form → IsRead (array_of (few_in most)) nests old (Some given) new → found ≡ form given → IsRead (array_of form) nests old found new
few_array_then form most nests old new given found few read is =
    subst (λ o. IsRead (array_of form) nests old o new) (sym is)
    (record {
      is = λ depth deep. same_found _ _ (form given) new (of_few_array form most few (value depth old)) (formed form (read_as (array_of (few_in most)) depth old) given new (read.is depth deep));
      shorter = if_shorter (form given) old new read.shorter;
    })

pub few_array_not : {X : Type 0} (form : Items → Option X) (most nests : ℕ) (old new : List Token) → TakesFew most form → IsRead (array_of (few_in most)) nests old None new → IsRead (array_of form) nests old None new
few_array_not form most nests old new few read =
    record { is = λ depth deep. of_few_array form most few (value depth old) ∙ ap (converted form) (read.is depth deep); shorter = tt }

-- ---- forms that say the same

same_on_items : {X : Type 0} (form other : Items → Option X) → ((given : Items) → form given ≡ other given) → (o : Option Items) → option_and_then form o ≡ option_and_then other o
same_on_items form other same None = refl
same_on_items form other same (Some given) = same given

pub same_form : {X : Type 0} (form other : Items → Option X) (nests : ℕ) (old new : List Token) (found : Option X) → ((given : Items) → form given ≡ other given) → AreRead other nests old found new → AreRead form nests old found new
same_form form other nests old new found same read = record {
  is = λ depth turns deep enough.
      same_found _ _ found new (same_converted (λ js. option_and_then form (of_items js)) (λ js. option_and_then other (of_items js)) (items (value depth) turns old) (λ js. same_on_items form other same (of_items js))) (read.is depth turns deep enough);
  shorter = read.shorter;
}

-- ---- other forms of one value

map_data : {X Y : Type 0} (f : X → Y) (form : Data → Option X) (o : Option Data) → option_and_then (λ given. option_map f (form given)) o ≡ option_map f (option_and_then form o)
map_data f form None = refl
map_data f form (Some given) = refl

pub is_read_map : {X Y : Type 0} (f : X → Y) (form : Data → Option X) (nests : ℕ) (old new : List Token) (found : Option X) → IsRead form nests old found new → IsRead (λ given. option_map f (form given)) nests old (option_map f found) new
is_read_map f form nests old new found read = record {
  is = λ depth deep.
      same_found _ _ (option_map f found) new
      (same_converted (λ j. option_and_then (λ given. option_map f (form given)) (of_json j)) (λ j. option_map f (option_and_then form (of_json j))) (value depth old) (λ j. map_data f form (of_json j))
      ∙ converted_map f (λ j. option_and_then form (of_json j)) (value depth old))
      (map_found f (read_as form depth old) found new (read.is depth deep));
  shorter = map_shorter f found old new read.shorter;
}

form_of_array : {X : Type 0} (form : Data → Option X) (inner : Items → Option X) → ((given : Items) → form (array given) ≡ inner given) → (o : Option (json.Items × List Token))
    → converted (λ j. option_and_then form (of_json j)) (parse_map json.array o) ≡ converted (λ js. option_and_then inner (of_items js)) o
form_of_array form inner same None = refl
form_of_array form inner same (Some (js, behind)) = ap (option_map (λ x. (x, behind))) (inside (of_items js))
  where
    inside : (o : Option Items) → option_and_then form (option_map array o) ≡ option_and_then inner o
    inside None = refl
    inside (Some given) = same given

-- a form that is one of items at an array
pub at_array : {X : Type 0} (form : Data → Option X) (inner : Items → Option X) (nests : ℕ) (old mid new : List Token) (found : Option X) → ((given : Items) → form (array given) ≡ inner given) → opens_array old ≡ Some mid → AreRead inner nests mid found new → IsRead form (suc nests) old found new
at_array {X} form inner nests old mid new found same opens rest = record { is = at; shorter = shorter found rest.shorter }
  where
    at : (depth : ℕ) → suc nests ≤ depth → IsFoundAs (read_as form depth old) found new
    at zero deep = absurd (omega arith)
    at (suc depth) deep =
        same_found _ _ found new
        (ap (read_as form (suc depth)) (opened old mid opens) ∙ ap (converted (λ j. option_and_then form (of_json j))) (value_is (suc depth) (Token.begin_array ∷ mid)) ∙ form_of_array form inner same (items (value depth) (length mid) mid))
        (rest.is depth (length mid) (omega arith) (omega arith))

    shorter : (o : Option X) → IfSome o (λ x. length new < length mid) → IfSome o (λ x. length new < length old)
    shorter None h = tt
    shorter (Some x) h = omega (arith, ap length (opened old mid opens))

-- and at a token that opens none by itself
module _ {X : Type 0} (form : Data → Option X) (flat : (given : Members) → form (object given) ≡ None) where
  plain_with : (a : Parse json.Items) (o : Parse json.Members) (t : Token) (new : List Token) → opens_array (t ∷ new) ≡ None → converted (λ j. option_and_then form (of_json j)) (value_with a o (t ∷ new)) ≡ option_map (λ x. (x, new)) (option_and_then form (data_at t))
  plain_with a o Token.begin_object new e = told_object form flat (o new)
  plain_with a o Token.end_object new e = refl
  plain_with a o Token.begin_array new e = absurd (let no : ⊥ = cc in no)
  plain_with a o Token.end_array new e = refl
  plain_with a o (Token.key s) new e = refl
  plain_with a o (Token.string s) new e = refl
  plain_with a o (Token.number s) new e = refl
  plain_with a o (Token.boolean b) new e = refl
  plain_with a o Token.null new e = refl
  plain_with a o Token.bad new e = refl

  plain_value : (depth : ℕ) (t : Token) (new : List Token) → opens_array (t ∷ new) ≡ None → read_as form depth (t ∷ new) ≡ option_map (λ x. (x, new)) (option_and_then form (data_at t))
  unfolding value
  plain_value zero t new e = plain_with (λ ts. None) (λ ts. None) t new e
  plain_value (suc depth) t new e = plain_with (λ ts. items (value depth) (length ts) ts) (λ ts. members (value depth) (length ts) ts) t new e

  pub plain_token_read : (nests : ℕ) (t : Token) (old new : List Token) (found : Option X) → old ≡ t ∷ new → opens_array old ≡ None → found ≡ option_and_then form (data_at t) → IsRead form nests old found new
  plain_token_read nests t old new found is plain same = record {
    is = λ depth deep. found_at _ found new (ap (read_as form depth) is ∙ plain_value depth t new (ap opens_array (sym is) ∙ plain) ∙ ap (option_map (λ x. (x, new))) (sym same));
    shorter = shorter_by_one found t old new is;
  }

-- the values of a few
pub few_given : (found : Option (Vec Value Global)) (values : Vec Value Global) → found ≡ Some values → option_map (λ v. items_view v.items) found ≡ Some (items_view values.items)
few_given found values is = ap (option_map (λ v. items_view v.items)) is

pub few_missing : (found : Option (Vec Value Global)) → found ≡ None → option_map (λ v. items_view v.items) found ≡ None
few_missing found is = ap (option_map (λ v. items_view v.items)) is

-- ---- one item, two or three, and the end behind them

once : {A X : Type 0} (make : A → X) (o : Option A) → option_map make o ≡ option_and_then (λ a. Some (make a)) o
once make None = refl
once make (Some a) = refl

never : {A X : Type 0} (o : Option A) → None ≡ option_and_then {U = X} (λ a. None) o
never None = refl
never (Some a) = refl

pub one_less : {A X : Type 0} (make : A → X) (f : Data → Option A) (given : Data) (rest : Items) → one_item make f (item given rest) ≡ option_and_then (λ a. alone (make a) rest) (f given)
one_less make f given no_items = once make (f given)
one_less make f given (item other rest) = never (f given)

both_less : {A B X : Type 0} (make : A → B → X) (a : Option A) (b : Option B) → with_both make a b ≡ option_and_then (λ x. option_map (make x) b) a
both_less make None None = refl
both_less make None (Some b) = refl
both_less make (Some a) None = refl
both_less make (Some a) (Some b) = refl

pub two_less : {A B X : Type 0} (make : A → B → X) (f : Data → Option A) (g : Data → Option B) (given : Data) (rest : Items) → two_items make f g (item given rest) ≡ option_and_then (λ a. one_item (make a) g rest) (f given)
two_less make f g given no_items = never (f given)
two_less make f g given (item b no_items) = both_less make (f given) (g b)
two_less make f g given (item b (item c rest)) = never (f given)

three_less : {A B C X : Type 0} (make : A → B → C → X) (a : Option A) (b : Option B) (c : Option C) → with_three make a b c ≡ option_and_then (λ x. with_both (make x) b c) a
three_less make None b c = refl
three_less make (Some a) None c = refl
three_less make (Some a) (Some b) None = refl
three_less make (Some a) (Some b) (Some c) = refl

pub each_less : {A B C X : Type 0} (make : A → B → C → X) (f : Data → Option A) (g : Data → Option B) (h : Data → Option C) (given : Data) (rest : Items)
    → three_items make f g h (item given rest) ≡ option_and_then (λ a. two_items (make a) g h rest) (f given)
each_less make f g h given no_items = never (f given)
each_less make f g h given (item b no_items) = never (f given)
each_less make f g h given (item b (item c no_items)) = three_less make (f given) (g b) (h c)
each_less make f g h given (item b (item c (item d rest))) = never (f given)

pub one_none : {A X : Type 0} (make : A → X) (f : Data → Option A) (nests : ℕ) (old mid new : List Token) → IsRead f nests old None mid → AreRead (one_item make f) nests old None new
one_none make f nests old mid new read = head_none (one_item make f) f (λ a. alone (make a)) (one_less make f) refl nests old mid new read

pub one_ends : {A X : Type 0} (make : A → X) (f : Data → Option A) (nests : ℕ) (old mid new : List Token) (a : A) (x : X) → IsRead f nests old (Some a) mid → after_end_array mid ≡ Some new → x ≡ make a → AreRead (one_item make f) nests old (Some x) new
one_ends make f nests old mid new a x read over is =
    head_then (one_item make f) f (λ b. alone (make b)) (one_less make f) nests nests old mid new a (Some x) (omega arith) read (end_then (alone (make a)) nests mid new (Some x) over (ap Some (sym is)))

pub one_goes_on : {A X : Type 0} (make : A → X) (f : Data → Option A) (nests : ℕ) (old mid new : List Token) (a : A) → IsRead f nests old (Some a) mid → after_end_array mid ≡ None → AreRead (one_item make f) nests old None new
one_goes_on make f nests old mid new a read going =
    head_then (one_item make f) f (λ b. alone (make b)) (one_less make f) nests nests old mid new a None (omega arith) read (end_none (alone (make a)) nests mid new going (λ given rest. refl))

pub two_none : {A B X : Type 0} (make : A → B → X) (f : Data → Option A) (g : Data → Option B) (first nests : ℕ) (old mid new : List Token) → first ≤ nests → IsRead f first old None mid → AreRead (two_items make f g) nests old None new
two_none make f g first nests old mid new less read =
    head_none (two_items make f g) f (λ a. one_item (make a) g) (two_less make f g) refl nests old mid new (deeper f first nests old mid None less read)

pub two_then : {A B X : Type 0} (make : A → B → X) (f : Data → Option A) (g : Data → Option B) (first nests : ℕ) (old mid new : List Token) (a : A) (found : Option X) → first ≤ nests → IsRead f first old (Some a) mid → AreRead (one_item (make a) g) nests mid found new → AreRead (two_items make f g) nests old found new
two_then make f g first nests old mid new a found less read rest = head_then (two_items make f g) f (λ b. one_item (make b) g) (two_less make f g) first nests old mid new a found less read rest

pub three_none : {A B C X : Type 0} (make : A → B → C → X) (f : Data → Option A) (g : Data → Option B) (h : Data → Option C) (first nests : ℕ) (old mid new : List Token) → first ≤ nests → IsRead f first old None mid → AreRead (three_items make f g h) nests old None new
three_none make f g h first nests old mid new less read =
    head_none (three_items make f g h) f (λ a. two_items (make a) g h) (each_less make f g h) refl nests old mid new (deeper f first nests old mid None less read)

pub three_then : {A B C X : Type 0} (make : A → B → C → X) (f : Data → Option A) (g : Data → Option B) (h : Data → Option C) (first nests : ℕ) (old mid new : List Token) (a : A) (found : Option X) → first ≤ nests → IsRead f first old (Some a) mid
    → AreRead (two_items (make a) g h) nests mid found new → AreRead (three_items make f g h) nests old found new
three_then make f g h first nests old mid new a found less read rest = head_then (three_items make f g h) f (λ b. two_items (make b) g h) (each_less make f g h) first nests old mid new a found less read rest

-- an array whose first item is this one is as the items behind it
pub told_at_name : {A X : Type 0} (form : Items → Option X) (head : Data → Option A) (next : A → Items → Option X) → ((given : Data) (rest : Items) → form (item given rest) ≡ option_and_then (λ a. next a rest) (head given))
    → (depth : ℕ) (old mid here : List Token) (a : A) → opens_array old ≡ Some mid → IsRead head 0 mid (Some a) here → (turns : ℕ) × (length here ≤ turns) × (read_as (array_of form) (suc depth) old ≡ rest_as (next a) depth turns here)
told_at_name {A} {X} form head next law depth old mid here a opens read = with_turns (length mid) refl
  where
    all : read_as (array_of form) (suc depth) old ≡ rest_as form depth (length mid) mid
    all = ap (read_as (array_of form) (suc depth)) (opened old mid opens) ∙ ap (converted (λ j. option_and_then (array_of form) (of_json j))) (value_is (suc depth) (Token.begin_array ∷ mid)) ∙ array_form form (items (value depth) (length mid) mid)

    first : read_as head depth mid ≡ Some (a, here)
    first = read.is depth (omega arith)

    with_turns : (n : ℕ) → length mid ≡ n → (turns : ℕ) × (length here ≤ turns) × (read_as (array_of form) (suc depth) old ≡ rest_as (next a) depth turns here)
    with_turns zero is = absurd (omega (arith, read.shorter))
    with_turns (suc n) is = (
      n,
      omega (arith, read.shorter),
      all ∙ ap (λ k. rest_as form depth k mid) is ∙ one_turn form head next law depth n mid (going_on form head next law depth mid (a, here) (after_end_array mid) refl first)
          ∙ ap (option_and_then (λ (p : A × List Token). rest_as (next p.0) depth n p.1)) first,
    )
