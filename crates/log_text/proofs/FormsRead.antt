-- The forms of a few items, read one item after another.
use Rattle.std.proofs.Common.{◌≡◌, ℕ, ◌≤◌, ◌<◌, List, length, Bool, true, false, Option, Some, None, option_map, option_and_then, refl, sym, ap, ◌∙◌, arith}
use Rattle.std.specs.Prelude.{IfSome, if◌then◌else◌}
use Rattle.json.specs.Token.{Token}
use Rattle.json.specs.Json as json
use Rattle.json.specs.Json.{after_end_array, value}
use Rattle.serde_json.specs.Data.{Data, null, boolean, number, string, array, object, Items, no_items, item}
use Rattle.serde_json.specs.Read.{of_json, converted}
use Rattle.log_text.specs.Items.{array_of, alone, one_item, two_items, three_items}
use Rattle.log_text.specs.Answers.{handed_named, handed_in}
use Rattle.log_text.specs.Refutations.{node_named, node_in}
use Rattle.log_text.specs.Numbers.{word_of}
use Rattle.log_text.specs.Streams.{few_in, is_few, TakesFew, read_as, IsFoundAs, IsRead, AreRead}
use Rattle.log_text.specs.declared.names.Names.{Names}
use Rattle.log_text.proofs.TokensRead.{head_none, head_then, end_then, end_none, deeper, is_read, one_less, two_less, each_less, found_at}

-- ---- one item read

seen_as : {A : Type 0} (f : Data → Option A) (first nests : ℕ) (old mid : List Token) (found other : Option A) → first ≤ nests → found ≡ other → IsRead f first old found mid → IsRead f nests old other mid
seen_as f first nests old mid found other less is read = deeper f first nests old mid other less (is_read f first old mid found other is read)

module _ {A X : Type 0} (make : A → X) (f : Data → Option A) where
  pub one_none : (first nests : ℕ) (old mid new : List Token) (found : Option A) → first ≤ nests → found ≡ None → IsRead f first old found mid → AreRead (one_item make f) nests old None new
  one_none first nests old mid new found less is read = head_none (one_item make f) f (λ a. alone (make a)) (one_less make f) refl nests old mid new (seen_as f first nests old mid found None less is read)

  -- and the end behind it
  pub one_over : (first nests : ℕ) (old mid new : List Token) (a : A) (found : Option A) → first ≤ nests → found ≡ Some a → IsRead f first old found mid → after_end_array mid ≡ Some new → AreRead (one_item make f) nests old (Some (make a)) new
  one_over first nests old mid new a found less is read over =
      head_then (one_item make f) f (λ a. alone (make a)) (one_less make f) nests nests old mid new a (Some (make a)) (omega arith) (seen_as f first nests old mid found (Some a) less is read)
      (end_then (alone (make a)) nests mid new (Some (make a)) over refl)

  pub one_open : (first nests : ℕ) (old mid new : List Token) (a : A) (found : Option A) → first ≤ nests → found ≡ Some a → IsRead f first old found mid → after_end_array mid ≡ None → AreRead (one_item make f) nests old None new
  one_open first nests old mid new a found less is read going =
      head_then (one_item make f) f (λ a. alone (make a)) (one_less make f) nests nests old mid new a None (omega arith) (seen_as f first nests old mid found (Some a) less is read)
      (end_none (alone (make a)) nests mid new going (λ given rest. refl))

module _ {A B X : Type 0} (make : A → B → X) (f : Data → Option A) (g : Data → Option B) where
  pub two_none : (first nests : ℕ) (old mid new : List Token) (found : Option A) → first ≤ nests → found ≡ None → IsRead f first old found mid → AreRead (two_items make f g) nests old None new
  two_none first nests old mid new found less is read = head_none (two_items make f g) f (λ a. one_item (make a) g) (two_less make f g) refl nests old mid new (seen_as f first nests old mid found None less is read)

  pub two_then : (first nests : ℕ) (old mid new : List Token) (a : A) (found : Option A) (all : Option X) → first ≤ nests → found ≡ Some a → IsRead f first old found mid → AreRead (one_item (make a) g) nests mid all new → AreRead (two_items make f g) nests old all new
  two_then first nests old mid new a found all less is read rest =
      head_then (two_items make f g) f (λ a. one_item (make a) g) (two_less make f g) nests nests old mid new a all (omega arith) (seen_as f first nests old mid found (Some a) less is read) rest

module _ {A B C X : Type 0} (make : A → B → C → X) (f : Data → Option A) (g : Data → Option B) (h : Data → Option C) where
  pub three_none : (first nests : ℕ) (old mid new : List Token) (found : Option A) → first ≤ nests → found ≡ None → IsRead f first old found mid → AreRead (three_items make f g h) nests old None new
  three_none first nests old mid new found less is read = head_none (three_items make f g h) f (λ a. two_items (make a) g h) (each_less make f g h) refl nests old mid new (seen_as f first nests old mid found None less is read)

  pub three_then : (first nests : ℕ) (old mid new : List Token) (a : A) (found : Option A) (all : Option X) → first ≤ nests → found ≡ Some a → IsRead f first old found mid → AreRead (two_items (make a) g h) nests mid all new
      → AreRead (three_items make f g h) nests old all new
  three_then first nests old mid new a found all less is read rest =
      head_then (three_items make f g h) f (λ a. two_items (make a) g h) (each_less make f g h) nests nests old mid new a all (omega arith) (seen_as f first nests old mid found (Some a) less is read) rest

-- ---- a word, and then what it names

module _ {X : Type 0} (form : Items → Option X) (named : List ℕ → Items → Option X) (law : (given : Data) (rest : Items) → form (item given rest) ≡ option_and_then (λ word. named word rest) (word_of given)) where
  pub word_none : form no_items ≡ None → (nests : ℕ) (old mid new : List Token) → IsRead word_of 0 old None mid → AreRead form nests old None new
  word_none none nests old mid new read = head_none form word_of named law none nests old mid new (deeper word_of 0 nests old mid None (omega arith) read)

  pub word_then : (nests : ℕ) (old mid new : List Token) (word : List ℕ) (found : Option X) → IsRead word_of 0 old (Some word) mid → AreRead (named word) nests mid found new → AreRead form nests old found new
  word_then nests old mid new word found read rest = head_then form word_of named law 0 nests old mid new word found (omega arith) read rest

pub node_law : (names : Names) (given : Data) (rest : Items) → node_in names (item given rest) ≡ option_and_then (λ word. node_named names word rest) (word_of given)
node_law names null rest = refl
node_law names (boolean b) rest = refl
node_law names (number n) rest = refl
node_law names (string word) rest = refl
node_law names (array given) rest = refl
node_law names (object given) rest = refl

pub handed_law : (names : Names) (given : Data) (rest : Items) → handed_in names (item given rest) ≡ option_and_then (λ word. handed_named names word rest) (word_of given)
handed_law names null rest = refl
handed_law names (boolean b) rest = refl
handed_law names (number n) rest = refl
handed_law names (string word) rest = refl
handed_law names (array given) rest = refl
handed_law names (object given) rest = refl

-- ---- changed forms

-- what comes of a value that was read
abbrev pub then_of : {A X : Type 0} → (A → Option X) → Option (A × List Token) → Option (X × List Token)
then_of next = option_and_then (λ p. option_map (λ x. (x, p.1)) (next p.0))

pub read_then : {A X : Type 0} (form : Data → Option A) (next : A → Option X) (depth : ℕ) (old : List Token) → read_as (λ given. option_and_then next (form given)) depth old ≡ then_of next (read_as form depth old)
read_then {A} {X} form next depth old = of_read (value depth old)
  where
    of_form : (found : Option A) (behind : List Token) → option_map {U = X × List Token} (λ x. (x, behind)) (option_and_then next found) ≡ then_of next (option_map {U = A × List Token} (λ a. (a, behind)) found)
    of_form None behind = refl
    of_form (Some a) behind = refl

    of_given : (given : Option Data) (behind : List Token)
        → option_map {U = X × List Token} (λ x. (x, behind)) (option_and_then (λ d. option_and_then next (form d)) given) ≡ then_of next (option_map {U = A × List Token} (λ a. (a, behind)) (option_and_then form given))
    of_given None behind = refl
    of_given (Some d) behind = of_form (form d) behind

    of_read : (o : Option (json.Json × List Token)) → converted (λ j. option_and_then (λ d. option_and_then next (form d)) (of_json j)) o ≡ then_of next (converted (λ j. option_and_then form (of_json j)) o)
    of_read None = refl
    of_read (Some p) = of_given (of_json p.0) p.1

told_as : {A : Type 0} (told : Option (A × List Token)) (found : Option A) (new : List Token) → IsFoundAs told found new → told ≡ option_map (λ a. (a, new)) found
told_as told None new is = is
told_as told (Some a) new is = is

then_found : {A X : Type 0} (next : A → Option X) (found : Option A) (new : List Token) → then_of next (option_map (λ a. (a, new)) found) ≡ option_map (λ x. (x, new)) (option_and_then next found)
then_found next None new = refl
then_found next (Some a) new = refl

shorter_then : {A X : Type 0} (next : A → Option X) (found : Option A) (old new : List Token) → IfSome found (λ a. length new < length old) → IfSome (option_and_then next found) (λ x. length new < length old)
shorter_then next None old new less = tt
shorter_then {A} {X} next (Some a) old new less = some (next a)
  where
    some : (o : Option X) → IfSome o (λ x. length new < length old)
    some None = tt
    some (Some x) = less

pub read_and_then : {A X : Type 0} (form : Data → Option A) (next : A → Option X) (nests : ℕ) (old new : List Token) (found : Option A) → IsRead form nests old found new → IsRead (λ given. option_and_then next (form given)) nests old (option_and_then next found) new
read_and_then form next nests old new found read = record {
  is = λ depth deep. found_at _ (option_and_then next found) new (read_then form next depth old ∙ ap (then_of next) (told_as _ found new (read.is depth deep)) ∙ then_found next found new);
  shorter = shorter_then next found old new read.shorter;
}

-- ---- an array of a few words and numbers

-- a form that is the same of all data
same_read : {X : Type 0} (form other : Data → Option X) (nests : ℕ) (old new : List Token) (found : Option X) → ((given : Data) → form given ≡ other given) → IsRead form nests old found new → IsRead other nests old found new
same_read {X} form other nests old new found same read = record { is = λ depth deep. found_at _ found new (sym (both (value depth old)) ∙ told_as _ found new (read.is depth deep)); shorter = read.shorter }
  where
    of_given : (o : Option Data) → option_and_then form o ≡ option_and_then other o
    of_given None = refl
    of_given (Some given) = same given

    both : (o : Option (json.Json × List Token)) → converted (λ j. option_and_then form (of_json j)) o ≡ converted (λ j. option_and_then other (of_json j)) o
    both None = refl
    both (Some p) = ap (option_map (λ x. (x, p.1))) (of_given (of_json p.0))

few_first : {X : Type 0} (form : Items → Option X) (most : ℕ) → TakesFew most form → (given : Data) → option_and_then form (array_of (few_in most) given) ≡ array_of form given
few_first form most few null = refl
few_first form most few (boolean b) = refl
few_first form most few (number n) = refl
few_first form most few (string word) = refl
few_first form most few (array given) = chosen (is_few most given) refl
  where
    chosen : (b : Bool) → is_few most given ≡ b → option_and_then form (if b then Some given else None) ≡ form given
    chosen true is = refl
    chosen false is = sym (few given is)
few_first form most few (object ms) = refl

pub few_some : {X : Type 0} (form : Items → Option X) (most nests : ℕ) (old new : List Token) (given seen : Items) (found : Option X) → TakesFew most form → IsRead (array_of (few_in most)) nests old (Some given) new → seen ≡ given → found ≡ form seen
    → IsRead (array_of form) nests old found new
few_some form most nests old new given seen found few read same is =
    is_read (array_of form) nests old new (form given) found (sym (is ∙ ap form same))
    (same_read (λ d. option_and_then form (array_of (few_in most) d)) (array_of form) nests old new (form given) (few_first form most few) (read_and_then (array_of (few_in most)) form nests old new (Some given) read))
