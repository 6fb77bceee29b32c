-- What the text of a line says, by its tokens.
use Rattle.std.proofs.Common.{◌≡◌, ℕ, List, [], ◌∷◌, Option, Some, None, option_map, option_and_then, codes, refl, sym, ap, ◌∙◌, subst, arith, inl, inr}
use Rattle.std.proofs.lemmas.Option.{none-some, some_pair_parts}
use Rattle.json.specs.Token.{Token}
use Rattle.json.specs.Lex.{tokens}
use Rattle.json.specs.Json as json
use Rattle.json.specs.Json.{items, value, if_last}
use Rattle.serde_json.specs.Data.{Data, null, boolean, number, string, array, object, Items, no_items, item}
use Rattle.serde_json.specs.Read.{of_json, of_items, converted, read}
use Rattle.log_text.specs.Answers.{IsAnswerOf}
use Rattle.log_text.specs.Items.{array_of}
use Rattle.log_text.specs.Commands.{command_in, command_named, command_of, Says, IsCommand}
use Rattle.log_text.specs.Held.{held}
use Rattle.log_text.specs.Lines.{IsWhole, IsAnsweredWith, IsTextOf}
use Rattle.log_text.specs.Numbers.{word_of}
use Rattle.log_text.specs.Shown.{IsAnswer}
use Rattle.log_text.specs.Streams.{read_as, IsRead, AreRead, opens_array}
use Rattle.log_text.specs.declared.names.Names.{Names}
use Rattle.log_text.specs.declared.shown.Shown.{Shown}
use Rattle.log_text.specs.declared.commands.Command.{Command}
use Rattle.log_text.specs.declared.commands.Command.TheVariants.{Answer}
use Rattle.log_text.proofs.AnswersRead.{answer_text}
use Rattle.log_text.proofs.TokensRead.{array_none, array_then, head_none, told_at_name}

some_empty : {X : Type 0} (x : X) (xs : List X) → x ∷ xs ≡ [] → ⊥
some_empty x xs e = let never : ⊥ = cc in never

-- ---- up to the end of the tokens

pub whole_none : {X : Type 0} (form : Items → Option X) (old new : List Token) → AreRead form 4 old None new → IsWhole form old None
whole_none form old new said depth turns deep enough x is = none-some (x, []) (sym (said.is depth turns deep enough) ∙ is)

pub whole_some : {X : Type 0} (form : Items → Option X) (old new : List Token) (x : X) → AreRead form 4 old (Some x) new → new ≡ [] → IsWhole form old (Some x)
whole_some form old new x said over depth turns deep enough = said.is depth turns deep enough ∙ ap (λ ts. Some (x, ts)) over

pub whole_more : {X : Type 0} (form : Items → Option X) (old new behind : List Token) (t : Token) (x : X) → AreRead form 4 old (Some x) new → new ≡ t ∷ behind → IsWhole form old None
whole_more form old new behind t x said more depth turns deep enough y is =
    some_empty t behind (some_pair_parts x y (t ∷ behind) [] (ap (λ ts. Some (x, ts)) (sym more) ∙ sym (said.is depth turns deep enough) ∙ is)).1

-- ---- what is read of the text

-- the data of a text, in a form
pub told_of : {X : Type 0} (form : Data → Option X) (text : List ℕ) (said : Data) → read text ≡ Some said → read_as form 127 (tokens text) ≡ option_map (λ x. (x, [])) (form said)
told_of {X} form text said reads = by (value 127 (tokens text)) reads
  where
    at : (o : Option Data) → o ≡ Some said → option_map {U = X × List Token} (λ x. (x, [])) (option_and_then form o) ≡ option_map (λ x. (x, [])) (form said)
    at o is = ap (λ d. option_map (λ x. (x, [])) (option_and_then form d)) is

    by : (o : Option (json.Json × List Token)) → option_and_then of_json (option_and_then (λ p. if_last p.0 p.1) o) ≡ Some said → converted (λ j. option_and_then form (of_json j)) o ≡ option_map (λ x. (x, [])) (form said)
    by None e = absurd (let no : ⊥ = cc in no)
    by (Some (j, [])) e = at (of_json j) e
    by (Some (j, t ∷ ts)) e = absurd (let no : ⊥ = cc in no)

abbrev Told : {X : Type 0} → (Data → Option X) → List ℕ → X → Type 0
Told form text x = (said : Data) × (read text ≡ Some said) × (form said ≡ Some x)

-- and the text whose data in a form are these, with no token behind
pub text_of : {X : Type 0} (form : Data → Option X) (text : List ℕ) (x : X) → read_as form 127 (tokens text) ≡ Some (x, []) → Told form text x
text_of {X} form text x is = by (value 127 (tokens text)) refl is
  where
    whole : (j : json.Json) (behind : List Token) (o : Option Data) → of_json j ≡ o → value 127 (tokens text) ≡ Some (j, behind) → option_map {U = X × List Token} (λ y. (y, behind)) (option_and_then form o) ≡ Some (x, []) → Told form text x
    whole j behind None of at e = absurd (let no : ⊥ = cc in no)
    whole j behind (Some said) of at e = formed (form said) refl e
      where
        formed : (p : Option X) → form said ≡ p → option_map {U = X × List Token} (λ y. (y, behind)) p ≡ Some (x, []) → Told form text x
        formed None f e = absurd (let no : ⊥ = cc in no)
        formed (Some y) f e =
            let both = some_pair_parts y x behind [] e in
            (said, ap (λ o. option_and_then of_json (option_and_then (λ p. if_last p.0 p.1) o)) (at ∙ ap (λ ts. Some (j, ts)) both.1) ∙ of, f ∙ ap Some both.0)

    by : (o : Option (json.Json × List Token)) → value 127 (tokens text) ≡ o → converted (λ j. option_and_then form (of_json j)) o ≡ Some (x, []) → Told form text x
    by None at e = absurd (let no : ⊥ = cc in no)
    by (Some (j, behind)) at e = whole j behind (of_json j) refl at e

-- ---- the name

abbrev first_word : Items → Option (List ℕ)
first_word (item (string name) rest) = Some name
first_word items = None

abbrev name_of : Data → Option (List ℕ)
name_of = array_of first_word

first_of : (given : Data) (rest : Items) → first_word (item given rest) ≡ option_and_then (λ name. Some name) (word_of given)
first_of null rest = refl
first_of (boolean b) rest = refl
first_of (number n) rest = refl
first_of (string s) rest = refl
first_of (array ds) rest = refl
first_of (object ms) rest = refl

held_first : (most : Option ℕ) (given : Data) (rest : Items) → option_map (held most) (command_in (item given rest)) ≡ option_and_then (λ name. option_map (held most) (command_named name rest)) (word_of given)
held_first most null rest = refl
held_first most (boolean b) rest = refl
held_first most (number n) rest = refl
held_first most (string s) rest = refl
held_first most (array ds) rest = refl
held_first most (object ms) rest = refl

answer_named : (names : Names) (said : Data) (shown : Shown) → IsAnswer names said shown → name_of said ≡ Some (codes "answer")
answer_named names null shown is = absurd is
answer_named names (boolean b) shown is = absurd is
answer_named names (number n) shown is = absurd is
answer_named names (string s) shown is = absurd is
answer_named names (object ms) shown is = absurd is
answer_named names (array no_items) shown is = absurd is
answer_named names (array (item a no_items)) shown is = absurd is
answer_named names (array (item a (item b no_items))) shown is = absurd is
answer_named names (array (item name (item word (item given no_items)))) shown is = ap (λ d. name_of (array (item d (item word (item given no_items))))) is.0
answer_named names (array (item a (item b (item c (item d rest))))) shown is = absurd is

command_is_named : (said : Data) (whole : Command) → command_of said ≡ Some whole → (name : List ℕ) × (parts : Items) × (said ≡ array (item (string name) parts))
command_is_named null whole is = absurd (let no : ⊥ = cc in no)
command_is_named (boolean b) whole is = absurd (let no : ⊥ = cc in no)
command_is_named (number n) whole is = absurd (let no : ⊥ = cc in no)
command_is_named (string s) whole is = absurd (let no : ⊥ = cc in no)
command_is_named (object ms) whole is = absurd (let no : ⊥ = cc in no)
command_is_named (array no_items) whole is = absurd (let no : ⊥ = cc in no)
command_is_named (array (item null parts)) whole is = absurd (let no : ⊥ = cc in no)
command_is_named (array (item (boolean b) parts)) whole is = absurd (let no : ⊥ = cc in no)
command_is_named (array (item (number n) parts)) whole is = absurd (let no : ⊥ = cc in no)
command_is_named (array (item (string name) parts)) whole is = (name, parts, refl)
command_is_named (array (item (array ds) parts)) whole is = absurd (let no : ⊥ = cc in no)
command_is_named (array (item (object ms) parts)) whole is = absurd (let no : ⊥ = cc in no)

-- data that say something have a name
pub says_named : (names : Names) (said : Data) (whole : Command) → Says names said whole → (name : List ℕ) × (name_of said ≡ Some name)
says_named names said whole (inl is) = let named = command_is_named said whole is in (named.0, ap name_of named.2)
says_named names said whole (inr is) = (codes "answer", answer_named names said is.0 is.1)

nameless : (names : Names) (most : Option ℕ) (text : List ℕ) → read_as name_of 127 (tokens text) ≡ None → IsTextOf names most text None
nameless names most text none said whole reads says =
    let named = says_named names said whole says in
    none-some (named.0, []) (sym none ∙ told_of name_of text said reads ∙ ap (option_map (λ x. (x, []))) named.1)

pub no_bracket : (names : Names) (most : Option ℕ) (text : List ℕ) → opens_array (tokens text) ≡ None → IsTextOf names most text None
no_bracket names most text none = nameless names most text ((array_none first_word 1 (tokens text) [] none).is 127 (omega arith))

pub no_name : (names : Names) (most : Option ℕ) (text : List ℕ) (mid here : List Token) → opens_array (tokens text) ≡ Some mid → IsRead word_of 0 mid None here → IsTextOf names most text None
no_name names most text mid here opens read =
    nameless names most text ((array_then first_word 0 (tokens text) mid [] None opens (head_none first_word word_of (λ name rest. Some name) first_of refl 0 mid here [] read)).is 127 (omega arith))

same_name : (name other : List ℕ) (behind : List Token) (o : Option (json.Items × List Token)) → converted (λ js. option_and_then (λ rest. Some name) (of_items js)) o ≡ Some (other, behind) → other ≡ name
same_name name other behind None e = absurd (let no : ⊥ = cc in no)
same_name name other behind (Some (js, ts)) e = at (of_items js) e
  where
    at : (p : Option Items) → option_map {U = List ℕ × List Token} (λ x. (x, ts)) (option_and_then (λ rest. Some name) p) ≡ Some (other, behind) → other ≡ name
    at None e = absurd (let no : ⊥ = cc in no)
    at (Some rest) e = sym (some_pair_parts name other ts behind e).0

-- the data of a text have no other name than the word behind the bracket
name_is : (text : List ℕ) (mid here : List Token) (name other : List ℕ) (said : Data) → opens_array (tokens text) ≡ Some mid → IsRead word_of 0 mid (Some name) here → read text ≡ Some said → name_of said ≡ Some other → other ≡ name
name_is text mid here name other said opens word reads named =
    let told = told_at_name first_word word_of (λ s rest. Some s) first_of 126 (tokens text) mid here name opens word in
    same_name name other [] (items (value 126) told.0 here) (sym told.2 ∙ told_of name_of text said reads ∙ ap (option_map (λ x. (x, []))) named)

-- ---- answers

answer_held : (most : Option ℕ) (shown : Shown) → held most (Answer shown) ≡ Answer shown
answer_held None shown = refl
answer_held (Some n) shown = refl

no_such_command : (text : List ℕ) (mid here : List Token) (said : Data) (whole : Command) → opens_array (tokens text) ≡ Some mid → IsRead word_of 0 mid (Some (codes "answer")) here → read text ≡ Some said → ¬ (command_of said ≡ Some whole)
no_such_command text mid here said whole opens word reads is =
    let named = command_is_named said whole is in
    let same : named.0 ≡ codes "answer" = name_is text mid here (codes "answer") named.0 said opens word reads (ap name_of named.2) in
    none-some whole (sym (ap (λ s. command_named s named.1) same) ∙ sym (ap command_of named.2) ∙ is)

unanswered : (names : Names) (most : Option ℕ) (text : List ℕ) (mid here : List Token) → opens_array (tokens text) ≡ Some mid → IsRead word_of 0 mid (Some (codes "answer")) here → IsAnswerOf names text None → IsTextOf names most text None
unanswered names most text mid here opens word none said whole reads (inl is) = no_such_command text mid here said whole opens word reads is
unanswered names most text mid here opens word none said whole reads (inr is) = none said is.0 reads is.1

answer_told : (names : Names) (most : Option ℕ) (text : List ℕ) (mid here : List Token) (shown : Option Shown) → opens_array (tokens text) ≡ Some mid → IsRead word_of 0 mid (Some (codes "answer")) here → IsAnswerOf names text shown → IsTextOf names most text (option_map Answer shown)
answer_told names most text mid here None opens word none = unanswered names most text mid here opens word none
answer_told names most text mid here (Some shown) opens word is = (is.0, Answer shown, is.1, inr (shown, is.2, refl), sym (answer_held most shown))

pub answered_is : (names : Names) (most : Option ℕ) (text : List ℕ) (mid here : List Token) (name : List ℕ) (found : Option Command) → name ≡ codes "answer" → opens_array (tokens text) ≡ Some mid → IsRead word_of 0 mid (Some name) here → IsAnsweredWith names here found → IsTextOf names most text found
answered_is names most text mid here name found answer opens word is =
    subst (λ o. IsTextOf names most text o) (sym is.2)
    (answer_told names most text mid here is.0 opens (subst (λ s. IsRead word_of 0 mid (Some s) here) answer word) (answer_text names text mid here name is.0 opens word answer is.1))

-- ---- other commands

abbrev held_in : Option ℕ → Items → Option Command
held_in most given = option_map (held most) (command_in given)

held_of : (most : Option ℕ) (said : Data) → array_of (held_in most) said ≡ option_map (held most) (command_of said)
held_of most null = refl
held_of most (boolean b) = refl
held_of most (number n) = refl
held_of most (string s) = refl
held_of most (array given) = refl
held_of most (object ms) = refl

kept_of : (most : Option ℕ) (o : Option Command) (given : Command) → option_map (held most) o ≡ Some given → (whole : Command) × (o ≡ Some whole) × (given ≡ held most whole)
kept_of most None given e = absurd (let no : ⊥ = cc in no)
kept_of most (Some whole) given e = (whole, refl, let same : given ≡ held most whole = cc in same)

no_command : (names : Names) (most : Option ℕ) (text : List ℕ) (mid here : List Token) (name : List ℕ) → (name ≡ codes "answer" → ⊥) → opens_array (tokens text) ≡ Some mid → IsRead word_of 0 mid (Some name) here
    → IsWhole (λ parts. option_map (held most) (command_named name parts)) here None → IsTextOf names most text None
no_command names most text mid here name other opens word none said whole reads (inl is) =
    let told = told_at_name (held_in most) word_of (λ s rest. option_map (held most) (command_named s rest)) (held_first most) 126 (tokens text) mid here name opens word in
    none 126 told.0 (omega arith) told.1 (held most whole) (sym told.2 ∙ told_of (array_of (held_in most)) text said reads ∙ ap (option_map (λ x. (x, []))) (held_of most said ∙ ap (option_map (held most)) is))
no_command names most text mid here name other opens word none said whole reads (inr is) = other (sym (name_is text mid here name (codes "answer") said opens word reads (answer_named names said is.0 is.1)))

pub command_is : (names : Names) (most : Option ℕ) (text : List ℕ) (mid here : List Token) (name : List ℕ) (found : Option Command) → (name ≡ codes "answer" → ⊥) → opens_array (tokens text) ≡ Some mid → IsRead word_of 0 mid (Some name) here
    → IsWhole (λ parts. option_map (held most) (command_named name parts)) here found → IsTextOf names most text found
command_is names most text mid here name None other opens word none = no_command names most text mid here name other opens word none
command_is names most text mid here name (Some given) other opens word is =
    let told = told_at_name (held_in most) word_of (λ s rest. option_map (held most) (command_named s rest)) (held_first most) 126 (tokens text) mid here name opens word in
    let found = text_of (array_of (held_in most)) text given (told.2 ∙ is 126 told.0 (omega arith) told.1) in
    let whole = kept_of most (command_of found.0) given (sym (held_of most found.0) ∙ found.2) in
    (found.0, whole.0, found.1, inl whole.1, whole.2)

pub no_line : (names : Names) (most : Option ℕ) (text line : List ℕ) (found : Option Command) → text ≡ line → found ≡ None → IsTextOf names most text found → (command : Command) → ¬ IsCommand names line command
no_line names most text line found same none is command says = (subst (λ o. IsTextOf names most text o) none is) says.said command (ap read same ∙ says.reads) says.is
