-- The forms that are read by a few words and numbers.
use Rattle.std.proofs.Common.{◌≡◌, ℕ, zero, suc, ◌^◌, ◌≤◌, ◌&&◌, subst, Bool, true, false, List, codes, Option, Some, None, option_map, option_and_then, refl, sym, ap, ◌∙◌, arith}
use Rattle.std.specs.Prelude.{⊤, bytes_eq, if◌then◌else◌}
use Rattle.txn.specs.declared.transactions.TxnId.{TxnId}
use Rattle.log_text.specs.declared.names.Names.{Names}
use Rattle.log_text.specs.declared.names.Names.TheVariants.{Ids, Events}
use Rattle.serde_json.specs.Data.{Data, null, boolean, number, string, array, object, unsigned, negative, float, Items, no_items, item}
use Rattle.log_text.specs.Commands.{init_of, source_in, read_in, aborted_by, aborted_in, start_in, resume_in, close_in, effort_in, waits_by, waits_in, writer_in, save_named, save_in}
use Rattle.log_text.specs.Items.{with_both, with_three, with_four, alone, one_item, two_items, three_items}
use Rattle.log_text.specs.Lines.{plain_named}
use Rattle.log_text.specs.Numbers.{whole_number, if_within, number_within, session_of, word_of}
use Rattle.log_text.specs.Named.{commit_by, commit_named, half_at, id_at, if_low, low_number}
use Rattle.log_text.specs.Refutations.{choice_with, choice_in, ends_in, keyed_ends_in, read_arc, base_arc, arc_named, arc_in, reader_with, reader_in}
use Rattle.log_text.specs.Searches.{search_in, search_of}
use Rattle.log_text.specs.Streams.{is_atom, is_few, TakesFew}
use Rattle.log_text.specs.Versions.{version_in, version_numbered, promise_of, opening_in, promise_or, promise_in, strict_in, strict_of}
use Rattle.log_text.specs.declared.versions.Opening.{Opening}
use Rattle.log_text.specs.declared.versions.Version.{Version}
use Rattle.log_text.specs.declared.commands.Command.TheVariants.{Begin, Skip, Truncate, Rebuild, Show, Resumed}

abbrev IsThere : {X : Type 0} → Option X → Type 0
IsThere None = ⊥
IsThere (Some x) = ⊤

abbrev IsAtom : Data → Type 0
IsAtom (string word) = ⊤
IsAtom (number (unsigned n)) = ⊤
IsAtom given = ⊥

abbrev AreFewAtoms : ℕ → Items → Type 0
AreFewAtoms most no_items = ⊤
AreFewAtoms zero (item given rest) = ⊥
AreFewAtoms (suc most) (item given rest) = IsAtom given × AreFewAtoms most rest

-- ---- a form that is there of a few atoms alone is none of others

atom_is : (given : Data) → IsAtom given → is_atom given ≡ true
atom_is null never = absurd never
atom_is (boolean b) never = absurd never
atom_is (number (unsigned n)) atom = refl
atom_is (number (negative z)) never = absurd never
atom_is (number (float x)) never = absurd never
atom_is (string word) atom = refl
atom_is (array items) never = absurd never
atom_is (object ms) never = absurd never

few_is : (most : ℕ) (given : Items) → AreFewAtoms most given → is_few most given ≡ true
few_is zero no_items few = refl
few_is (suc most) no_items few = refl
few_is zero (item given rest) never = absurd never
few_is (suc most) (item given rest) few = ap (λ (atom : Bool). atom && is_few most rest) (atom_is given few.0) ∙ few_is most rest few.1

of_few : {X : Type 0} (most : ℕ) (form : Items → Option X) → ((given : Items) → IsThere (form given) → AreFewAtoms most given) → TakesFew most form
of_few {X} most form few given many = none (form given) refl
  where
    none : (found : Option X) → form given ≡ found → found ≡ None
    none None is = refl
    none (Some x) is =
        let kept : is_few most given ≡ true = few_is most given (few given (subst IsThere (sym is) tt)) in
        absurd (let never : ⊥ = cc in never)

pub map_takes_few : {A X : Type 0} (make : A → X) (most : ℕ) (form : Items → Option A) → TakesFew most form → TakesFew most (λ given. option_map make (form given))
map_takes_few make most form takes given many = ap (option_map make) (takes given many)

few_and_more : (fewer more : ℕ) (given : Items) → fewer ≤ more → is_few more given ≡ false → is_few fewer given ≡ false
few_and_more zero zero given less many = many
few_and_more (suc fewer) zero given less many = absurd (omega arith)
few_and_more fewer (suc more) no_items less many = absurd (let never : ⊥ = cc in never)
few_and_more zero (suc more) (item given rest) less many = refl
few_and_more (suc fewer) (suc more) (item given rest) less many = each (is_atom given) many (few_and_more fewer more rest (omega arith))
  where
    each : (atom : Bool) → (atom && is_few more rest) ≡ false → (is_few more rest ≡ false → is_few fewer rest ≡ false) → (atom && is_few fewer rest) ≡ false
    each true many behind = behind many
    each false many behind = refl

pub takes_more : {X : Type 0} (fewer more : ℕ) (form : Items → Option X) → fewer ≤ more → TakesFew fewer form → TakesFew more form
takes_more fewer more form less takes given many = takes given (few_and_more fewer more given less many)

-- ---- parts of a form

number_atom : (given : Data) → IsThere (whole_number given) → IsAtom given
number_atom null never = absurd never
number_atom (boolean b) never = absurd never
number_atom (number (unsigned n)) there = tt
number_atom (number (negative z)) never = absurd never
number_atom (number (float x)) never = absurd never
number_atom (string word) never = absurd never
number_atom (array items) never = absurd never
number_atom (object ms) never = absurd never

init_atom : (given : Data) → IsThere (init_of given) → IsAtom given
init_atom null never = absurd never
init_atom (boolean b) never = absurd never
init_atom (number n) never = absurd never
init_atom (string word) there = tt
init_atom (array items) never = absurd never
init_atom (object ms) never = absurd never

then_there : {A X : Type 0} (next : A → Option X) (found : Option A) → IsThere (option_and_then next found) → IsThere found
then_there next None never = never
then_there next (Some a) there = tt

map_there : {A X : Type 0} (make : A → X) (found : Option A) → IsThere (option_map make found) → IsThere found
map_there make None never = never
map_there make (Some a) there = tt

within_atom : (least most : ℕ) (given : Data) → IsThere (number_within least most given) → IsAtom given
within_atom least most given there = number_atom given (then_there (if_within least most) (whole_number given) there)

session_atom : (given : Data) → IsThere (session_of given) → IsAtom given
session_atom = within_atom 0 255

both_there : {A B X : Type 0} (make : A → B → X) (a : Option A) (b : Option B) → IsThere (with_both make a b) → IsThere a × IsThere b
both_there make None None never = absurd never
both_there make None (Some b) never = absurd never
both_there make (Some a) None never = absurd never
both_there make (Some a) (Some b) there = (tt, tt)

three_there : {A B C X : Type 0} (make : A → B → C → X) (a : Option A) (b : Option B) (c : Option C) → IsThere (with_three make a b c) → IsThere a × IsThere b × IsThere c
three_there make None b c never = absurd never
three_there make (Some a) None c never = absurd never
three_there make (Some a) (Some b) None never = absurd never
three_there make (Some a) (Some b) (Some c) there = (tt, tt, tt)

four_there : {A B C D X : Type 0} (make : A → B → C → D → X) (a : Option A) (b : Option B) (c : Option C) (d : Option D) → IsThere (with_four make a b c d) → IsThere a × IsThere b × IsThere c × IsThere d
four_there make None b c d never = absurd never
four_there make (Some a) None c d never = absurd never
four_there make (Some a) (Some b) None d never = absurd never
four_there make (Some a) (Some b) (Some c) None never = absurd never
four_there make (Some a) (Some b) (Some c) (Some d) there = (tt, tt, tt, tt)

one_few : {A X : Type 0} (make : A → X) (f : Data → Option A) → ((given : Data) → IsThere (f given) → IsAtom given) → (given : Items) → IsThere (one_item make f given) → AreFewAtoms 1 given
one_few make f atom no_items never = absurd never
one_few make f atom (item a no_items) there = (atom a (map_there make (f a) there), tt)
one_few make f atom (item a (item b rest)) never = absurd never

two_few : {A B X : Type 0} (make : A → B → X) (f : Data → Option A) (g : Data → Option B) → ((given : Data) → IsThere (f given) → IsAtom given) → ((given : Data) → IsThere (g given) → IsAtom given)
    → (given : Items) → IsThere (two_items make f g given) → AreFewAtoms 2 given
two_few make f g first second no_items never = absurd never
two_few make f g first second (item a no_items) never = absurd never
two_few make f g first second (item a (item b no_items)) there = let both = both_there make (f a) (g b) there in (first a both.0, (second b both.1, tt))
two_few make f g first second (item a (item b (item c rest))) never = absurd never

three_few : {A B C X : Type 0} (make : A → B → C → X) (f : Data → Option A) (g : Data → Option B) (h : Data → Option C) → ((given : Data) → IsThere (f given) → IsAtom given) → ((given : Data) → IsThere (g given) → IsAtom given)
    → ((given : Data) → IsThere (h given) → IsAtom given) → (given : Items) → IsThere (three_items make f g h given) → AreFewAtoms 3 given
three_few make f g h first second third no_items never = absurd never
three_few make f g h first second third (item a no_items) never = absurd never
three_few make f g h first second third (item a (item b no_items)) never = absurd never
three_few make f g h first second third (item a (item b (item c no_items))) there =
    let all = three_there make (f a) (g b) (h c) there in (first a all.0, (second b all.1, (third c all.2, tt)))
three_few make f g h first second third (item a (item b (item c (item d rest)))) never = absurd never

-- whichever of the two it is, it is of few atoms
either_few : {X : Type 0} (test : Bool) (one never : Option X) (P : Type 0) → (IsThere one → P) → (IsThere never → P) → IsThere (if test then one else never) → P
either_few true one never P here there given = here given
either_few false one never P here there given = there given

-- ---- the forms of commands

alone_few : {X : Type 0} (made : X) (given : Items) → IsThere (alone made given) → AreFewAtoms 0 given
alone_few made no_items there = tt
alone_few made (item a rest) never = absurd never

pub alone_takes_few : {X : Type 0} (made : X) → TakesFew 0 (alone made)
alone_takes_few made = of_few 0 (alone made) (alone_few made)

version_few : (given : Items) → IsThere (version_in given) → AreFewAtoms 1 given
version_few no_items there = tt
version_few (item a no_items) there = (within_atom 2 3 a (map_there _ (number_within 2 3 a) there), tt)
version_few (item a (item b rest)) never = absurd never

source_few : (given : Items) → IsThere (source_in given) → AreFewAtoms 2 given
source_few no_items never = absurd never
source_few (item a no_items) there = (init_atom a there, tt)
source_few (item a (item b no_items)) there = let both = both_there _ (session_of a) (whole_number b) there in (session_atom a both.0, (number_atom b both.1, tt))
source_few (item a (item b (item c rest))) never = absurd never

read_few : (given : Items) → IsThere (read_in given) → AreFewAtoms 3 given
read_few no_items never = absurd never
read_few (item a rest) there = let both = both_there _ (whole_number a) (source_in rest) there in (number_atom a both.0, source_few rest both.1)

pub read_takes_few : TakesFew 3 read_in
read_takes_few = of_few 3 read_in read_few

promise_atom : (version : Version) (given : Data) → IsThere (promise_of given version) → IsAtom given
promise_atom version null never = absurd never
promise_atom version (boolean b) never = absurd never
promise_atom version (number n) never = absurd never
promise_atom version (string word) there = tt
promise_atom version (array items) never = absurd never
promise_atom version (object ms) never = absurd never

-- what is promised of whichever number
promised_atom : (found : Option ℕ) (given : Data) → IsThere (option_and_then (λ n. promise_of given (version_numbered n)) found) → IsAtom given
promised_atom None given never = absurd never
promised_atom (Some n) given there = promise_atom (version_numbered n) given there

opening_few : (given : Items) → IsThere (opening_in given) → AreFewAtoms 2 given
opening_few no_items there = tt
opening_few (item a no_items) there = (within_atom 2 3 a (map_there _ (number_within 2 3 a) (map_there _ (version_in (item a no_items)) there)), tt)
opening_few (item a (item b no_items)) there = (within_atom 2 3 a (then_there _ (number_within 2 3 a) there), (promised_atom (number_within 2 3 a) b there, tt))
opening_few (item a (item b (item c rest))) never = absurd never

strict_atom : (version : Version) (given : Data) → IsThere (strict_of given version) → IsAtom given
strict_atom version null never = absurd never
strict_atom version (boolean b) never = absurd never
strict_atom version (number n) never = absurd never
strict_atom version (string word) there = tt
strict_atom version (array items) never = absurd never
strict_atom version (object ms) never = absurd never

strict_by_atom : (found : Option ℕ) (given : Data) → IsThere (option_and_then (λ n. strict_of given (version_numbered n)) found) → IsAtom given
strict_by_atom None given never = absurd never
strict_by_atom (Some n) given there = strict_atom (version_numbered n) given there

strict_few : (given : Items) → IsThere (strict_in given) → AreFewAtoms 2 given
strict_few no_items never = absurd never
strict_few (item a no_items) never = absurd never
strict_few (item a (item b no_items)) there = (within_atom 2 3 a (then_there _ (number_within 2 3 a) there), (strict_by_atom (number_within 2 3 a) b there, tt))
strict_few (item a (item b (item c rest))) never = absurd never

either_there : (P : Type 0) (strict : Option Version) (opening : Option Opening) → (IsThere strict → P) → (IsThere opening → P) → IsThere (promise_or strict opening) → P
either_there P None None by or never = absurd never
either_there P None (Some opening) by or there = or tt
either_there P (Some version) opening by or there = by tt

promise_few : (given : Items) → IsThere (promise_in given) → AreFewAtoms 2 given
promise_few given there = either_there (AreFewAtoms 2 given) (strict_in given) (opening_in given) (strict_few given) (opening_few given) there

start_few : (given : Items) → IsThere (start_in given) → AreFewAtoms 4 given
start_few no_items never = absurd never
start_few (item a no_items) never = absurd never
start_few (item a (item b rest)) there = let all = three_there _ (whole_number a) (whole_number b) (promise_in rest) there in (number_atom a all.0, (number_atom b all.1, promise_few rest all.2))

pub start_takes_few : TakesFew 4 start_in
start_takes_few = of_few 4 start_in start_few

resume_few : (given : Items) → IsThere (resume_in given) → AreFewAtoms 4 given
resume_few no_items never = absurd never
resume_few (item a no_items) never = absurd never
resume_few (item a (item b rest)) there = let all = three_there _ (whole_number a) (whole_number b) (opening_in rest) there in (number_atom a all.0, (number_atom b all.1, opening_few rest all.2))

pub resume_takes_few : TakesFew 4 resume_in
resume_takes_few = of_few 4 resume_in resume_few

pub close_takes_few : TakesFew 1 close_in
close_takes_few = of_few 1 close_in (one_few _ session_of session_atom)

search_atom : (given : Data) → IsThere (search_of given) → IsAtom given
search_atom null never = absurd never
search_atom (boolean b) never = absurd never
search_atom (number n) never = absurd never
search_atom (string word) there = tt
search_atom (array items) never = absurd never
search_atom (object ms) never = absurd never

search_few : (given : Items) → IsThere (search_in given) → AreFewAtoms 1 given
search_few no_items there = tt
search_few (item a no_items) there = (search_atom a there, tt)
search_few (item a (item b rest)) never = absurd never

effort_few : (given : Items) → IsThere (effort_in given) → AreFewAtoms 4 given
effort_few no_items never = absurd never
effort_few (item a no_items) never = absurd never
effort_few (item a (item b no_items)) never = absurd never
effort_few (item a (item b (item c rest))) there =
    let all = four_there _ (number_within 1 (2 ^ 32) a) (number_within 0 6 b) (number_within 1 16 c) (search_in rest) there in
    (within_atom 1 (2 ^ 32) a all.0, (within_atom 0 6 b all.1, (within_atom 1 16 c all.2, search_few rest all.3)))

pub effort_takes_few : TakesFew 4 effort_in
effort_takes_few = of_few 4 effort_in effort_few

waits_atom : (given : Data) → IsThere (waits_by given) → IsAtom given
waits_atom null never = absurd never
waits_atom (boolean b) never = absurd never
waits_atom (number n) never = absurd never
waits_atom (string word) there = tt
waits_atom (array items) never = absurd never
waits_atom (object ms) never = absurd never

waits_few : (given : Items) → IsThere (waits_in given) → AreFewAtoms 1 given
waits_few no_items there = tt
waits_few (item a no_items) there = (waits_atom a there, tt)
waits_few (item a (item b rest)) never = absurd never

-- one item at most, of four
waits_take_few : TakesFew 4 waits_in
waits_take_few parts many = takes_more 1 4 waits_in (omega arith) (of_few 1 waits_in waits_few) parts many

pub writer_takes_few : TakesFew 3 writer_in
writer_takes_few = of_few 3 writer_in (three_few _ whole_number session_of whole_number number_atom session_atom number_atom)

-- the word, and then what it names
wanted_few : (name : List ℕ) (given : Items) → IsThere (save_named name given) → AreFewAtoms 2 given
wanted_few name given there =
    either_few (bytes_eq name (codes "marks")) _ _ (AreFewAtoms 2 given) (λ here. zero_is_two given (alone_few _ given here))
    (λ there. either_few (bytes_eq name (codes "last")) _ _ (AreFewAtoms 2 given) (λ here. one_is_two given (one_few _ whole_number number_atom given here))
    (λ there. either_few (bytes_eq name (codes "remain")) _ _ (AreFewAtoms 2 given) (λ here. two_few _ session_of whole_number session_atom number_atom given here) (λ never. absurd never) there) there) there
  where
    zero_is_two : (given : Items) → AreFewAtoms 0 given → AreFewAtoms 2 given
    zero_is_two no_items few = tt
    zero_is_two (item a rest) never = absurd never

    one_is_two : (given : Items) → AreFewAtoms 1 given → AreFewAtoms 2 given
    one_is_two no_items few = tt
    one_is_two (item a no_items) few = (few.0, tt)
    one_is_two (item a (item b rest)) few = absurd few.1

save_few : (given : Items) → IsThere (save_in given) → AreFewAtoms 3 given
save_few no_items never = absurd never
save_few (item null rest) never = absurd never
save_few (item (boolean b) rest) never = absurd never
save_few (item (number n) rest) never = absurd never
save_few (item (string word) rest) there = (tt, wanted_few word rest there)
save_few (item (array items) rest) never = absurd never
save_few (item (object ms) rest) never = absurd never

pub save_takes_few : TakesFew 3 save_in
save_takes_few = of_few 3 save_in save_few

-- ---- the forms of trees and orders

at_atoms : (a b : Data) → IsThere (id_at a b) → IsAtom a × IsAtom b
at_atoms a b there = let both = both_there _ (session_of a) (whole_number b) there in (session_atom a both.0, number_atom b both.1)

word_atom : (given : Data) → IsThere (word_of given) → IsAtom given
word_atom null never = absurd never
word_atom (boolean b) never = absurd never
word_atom (number n) never = absurd never
word_atom (string word) there = tt
word_atom (array items) never = absurd never
word_atom (object ms) never = absurd never

half_atoms : (a b c : Data) → IsThere (half_at a b c) → IsAtom a × IsAtom b × IsAtom c
half_atoms a b c there =
    let all = three_there _ (session_of a) (low_number b) (commit_by c) there in
    (session_atom a all.0, number_atom b (then_there if_low (whole_number b) all.1), word_atom c (then_there commit_named (word_of c) all.2))

parts_there : (names : Names) (reader : Option TxnId) (key : Option ℕ) (writer other : Option TxnId) → IsThere (choice_with names reader key writer other) → IsThere reader × IsThere key × IsThere writer × IsThere other
parts_there names None key writer other never = absurd never
parts_there names (Some a) None writer other never = absurd never
parts_there names (Some a) (Some b) None other never = absurd never
parts_there names (Some a) (Some b) (Some c) None never = absurd never
parts_there names (Some a) (Some b) (Some c) (Some d) there = (tt, tt, tt, tt)

choice_few : (names : Names) (given : Items) → IsThere (choice_in names given) → AreFewAtoms 10 given
choice_few Ids no_items never = absurd never
choice_few Ids (item a no_items) never = absurd never
choice_few Ids (item a (item b no_items)) never = absurd never
choice_few Ids (item a (item b (item c no_items))) never = absurd never
choice_few Ids (item a (item b (item c (item d no_items)))) never = absurd never
choice_few Ids (item a (item b (item c (item d (item e no_items))))) never = absurd never
choice_few Ids (item a (item b (item c (item d (item e (item f no_items)))))) never = absurd never
choice_few Ids (item a (item b (item c (item d (item e (item f (item g no_items))))))) there =
    let all = parts_there Ids (id_at a b) (whole_number c) (id_at d e) (id_at f g) there in
    let reader = at_atoms a b all.0 in
    let writer = at_atoms d e all.2 in
    let other = at_atoms f g all.3 in (reader.0, (reader.1, (number_atom c all.1, (writer.0, (writer.1, (other.0, (other.1, tt)))))))
choice_few Ids (item a (item b (item c (item d (item e (item f (item g (item h rest)))))))) never = absurd never
choice_few Events no_items never = absurd never
choice_few Events (item a no_items) never = absurd never
choice_few Events (item a (item b no_items)) never = absurd never
choice_few Events (item a (item b (item c no_items))) never = absurd never
choice_few Events (item a (item b (item c (item d no_items)))) never = absurd never
choice_few Events (item a (item b (item c (item d (item e no_items))))) never = absurd never
choice_few Events (item a (item b (item c (item d (item e (item f no_items)))))) never = absurd never
choice_few Events (item a (item b (item c (item d (item e (item f (item g no_items))))))) never = absurd never
choice_few Events (item a (item b (item c (item d (item e (item f (item g (item h no_items)))))))) never = absurd never
choice_few Events (item a (item b (item c (item d (item e (item f (item g (item h (item i no_items))))))))) never = absurd never
choice_few Events (item a (item b (item c (item d (item e (item f (item g (item h (item i (item j no_items)))))))))) there =
    let all = parts_there Events (half_at a b c) (whole_number d) (half_at e f g) (half_at h i j) there in
    let reader = half_atoms a b c all.0 in
    let writer = half_atoms e f g all.2 in
    let other = half_atoms h i j all.3 in (reader.0, (reader.1, (reader.2, (number_atom d all.1, (writer.0, (writer.1, (writer.2, (other.0, (other.1, (other.2, tt))))))))))
choice_few Events (item a (item b (item c (item d (item e (item f (item g (item h (item i (item j (item k rest))))))))))) never = absurd never

pub choice_takes_few : (names : Names) → TakesFew 10 (choice_in names)
choice_takes_few names = of_few 10 (choice_in names) (choice_few names)

ends_few : (names : Names) (given : Items) → IsThere (ends_in names given) → AreFewAtoms 6 given
ends_few Ids no_items never = absurd never
ends_few Ids (item a no_items) never = absurd never
ends_few Ids (item a (item b no_items)) never = absurd never
ends_few Ids (item a (item b (item c no_items))) never = absurd never
ends_few Ids (item a (item b (item c (item d no_items)))) there =
    let both = both_there _ (id_at a b) (id_at c d) there in
    let from = at_atoms a b both.0 in
    let to = at_atoms c d both.1 in (from.0, (from.1, (to.0, (to.1, tt))))
ends_few Ids (item a (item b (item c (item d (item e rest))))) never = absurd never
ends_few Events no_items never = absurd never
ends_few Events (item a no_items) never = absurd never
ends_few Events (item a (item b no_items)) never = absurd never
ends_few Events (item a (item b (item c no_items))) never = absurd never
ends_few Events (item a (item b (item c (item d no_items)))) never = absurd never
ends_few Events (item a (item b (item c (item d (item e no_items))))) never = absurd never
ends_few Events (item a (item b (item c (item d (item e (item f no_items)))))) there =
    let both = both_there _ (half_at a b c) (half_at d e f) there in
    let from = half_atoms a b c both.0 in
    let to = half_atoms d e f both.1 in (from.0, (from.1, (from.2, (to.0, (to.1, (to.2, tt))))))
ends_few Events (item a (item b (item c (item d (item e (item f (item g rest))))))) never = absurd never

keyed_few : (names : Names) (given : Items) → IsThere (keyed_ends_in names given) → AreFewAtoms 7 given
keyed_few names no_items never = absurd never
keyed_few names (item a rest) there = let both = both_there _ (whole_number a) (ends_in names rest) there in (number_atom a both.0, ends_few names rest both.1)

one_more_few : (most : ℕ) (given : Items) → AreFewAtoms most given → AreFewAtoms (suc most) given
one_more_few zero no_items few = tt
one_more_few zero (item a rest) never = absurd never
one_more_few (suc most) no_items few = tt
one_more_few (suc most) (item a rest) few = (few.0, one_more_few most rest few.1)

arc_few : (names : Names) (name : List ℕ) (given : Items) → IsThere (arc_named names name given) → AreFewAtoms 7 given
arc_few names name given there =
    either_few (bytes_eq name (codes "session")) _ _ (AreFewAtoms 7 given) (λ here. one_more_few 6 given (ends_few names given (map_there _ (ends_in names given) here)))
    (λ there. either_few (bytes_eq name (codes "read")) _ _ (AreFewAtoms 7 given) (λ here. keyed_few names given (then_there (read_arc names) (keyed_ends_in names given) here))
    (λ there. either_few (bytes_eq name (codes "base")) _ _ (AreFewAtoms 7 given) (λ here. keyed_few names given (then_there (base_arc names) (keyed_ends_in names given) here))
    (λ there. either_few (bytes_eq name (codes "taken")) _ _ (AreFewAtoms 7 given) (λ here. one_more_few 6 given (ends_few names given (map_there _ (ends_in names given) here))) (λ never. absurd never) there) there) there) there

named_few : (names : Names) (given : Items) → IsThere (arc_in names given) → AreFewAtoms 8 given
named_few names no_items never = absurd never
named_few names (item null rest) never = absurd never
named_few names (item (boolean b) rest) never = absurd never
named_few names (item (number n) rest) never = absurd never
named_few names (item (string word) rest) there = (tt, arc_few names word rest there)
named_few names (item (array items) rest) never = absurd never
named_few names (item (object ms) rest) never = absurd never

pub arc_takes_few : (names : Names) → TakesFew 8 (arc_in names)
arc_takes_few names = of_few 8 (arc_in names) (named_few names)

key_there : (names : Names) (reader : Option TxnId) (key : Option ℕ) → IsThere (reader_with names reader key) → IsThere reader × IsThere key
key_there names None key never = absurd never
key_there names (Some a) None never = absurd never
key_there names (Some a) (Some b) there = (tt, tt)

reader_few : (names : Names) (given : Items) → IsThere (reader_in names given) → AreFewAtoms 4 given
reader_few Ids no_items never = absurd never
reader_few Ids (item a no_items) never = absurd never
reader_few Ids (item a (item b no_items)) never = absurd never
reader_few Ids (item a (item b (item c no_items))) there =
    let both = key_there Ids (id_at a b) (whole_number c) there in
    let reader = at_atoms a b both.0 in (reader.0, (reader.1, (number_atom c both.1, tt)))
reader_few Ids (item a (item b (item c (item d rest)))) never = absurd never
reader_few Events no_items never = absurd never
reader_few Events (item a no_items) never = absurd never
reader_few Events (item a (item b no_items)) never = absurd never
reader_few Events (item a (item b (item c no_items))) never = absurd never
reader_few Events (item a (item b (item c (item d no_items)))) there =
    let both = key_there Events (half_at a b c) (whole_number d) there in
    let reader = half_atoms a b c both.0 in (reader.0, (reader.1, (reader.2, (number_atom d both.1, tt))))
reader_few Events (item a (item b (item c (item d (item e rest))))) never = absurd never

pub reader_takes_few : (names : Names) → TakesFew 4 (reader_in names)
reader_takes_few names = of_few 4 (reader_in names) (reader_few names)

-- ---- what stands behind a transaction's writes

aborted_atom : (given : Data) → IsThere (aborted_by given) → IsAtom given
aborted_atom null never = absurd never
aborted_atom (boolean b) never = absurd never
aborted_atom (number n) never = absurd never
aborted_atom (string word) there = tt
aborted_atom (array items) never = absurd never
aborted_atom (object ms) never = absurd never

aborted_few : (given : Items) → IsThere (aborted_in given) → AreFewAtoms 1 given
aborted_few no_items there = tt
aborted_few (item a no_items) there = (aborted_atom a there, tt)
aborted_few (item a (item b rest)) never = absurd never

pub aborted_takes_few : TakesFew 1 aborted_in
aborted_takes_few = of_few 1 aborted_in aborted_few

-- ---- commands whose parts are words and numbers

if_none : {X : Type 0} (test : Bool) (one other : Option X) → one ≡ None → other ≡ None → (if test then one else other) ≡ None
if_none true one other none never = none
if_none false one other never none = none

pub plain_takes_few : (name : List ℕ) → TakesFew 4 (plain_named name)
plain_takes_few name parts many =
    if_none (bytes_eq name (codes "open")) _ _ (start_takes_few parts many)
    (if_none (bytes_eq name (codes "close")) _ _ (takes_more 1 4 close_in (omega arith) close_takes_few parts many)
    (if_none (bytes_eq name (codes "begin")) _ _ (takes_more 0 4 (alone Begin) (omega arith) (alone_takes_few Begin) parts many)
    (if_none (bytes_eq name (codes "finish")) _ _ (map_takes_few _ 4 effort_in effort_takes_few parts many)
    (if_none (bytes_eq name (codes "round")) _ _ (map_takes_few _ 4 effort_in effort_takes_few parts many)
    (if_none (bytes_eq name (codes "search")) _ _ (map_takes_few _ 4 effort_in effort_takes_few parts many)
    (if_none (bytes_eq name (codes "collect")) _ _ (map_takes_few _ 4 waits_in waits_take_few parts many)
    (if_none (bytes_eq name (codes "skip")) _ _ (takes_more 0 4 (alone Skip) (omega arith) (alone_takes_few Skip) parts many)
    (if_none (bytes_eq name (codes "truncate")) _ _ (takes_more 0 4 (alone Truncate) (omega arith) (alone_takes_few Truncate) parts many)
    (if_none (bytes_eq name (codes "rebuild")) _ _ (takes_more 0 4 (alone Rebuild) (omega arith) (alone_takes_few Rebuild) parts many)
    (if_none (bytes_eq name (codes "show")) _ _ (takes_more 0 4 (alone Show) (omega arith) (alone_takes_few Show) parts many)
    (if_none (bytes_eq name (codes "resume")) _ _ (resume_takes_few parts many)
    (if_none (bytes_eq name (codes "resumed")) _ _ (takes_more 0 4 (alone Resumed) (omega arith) (alone_takes_few Resumed) parts many)
    (if_none (bytes_eq name (codes "save")) _ _ (takes_more 3 4 save_in (omega arith) save_takes_few parts many) refl)))))))))))))
