-- Data beside the texts that they are written as.
use Rattle.std.proofs.Common.{◌≡◌, ℕ, List, [], ◌∷◌, ◌++◌, Bool, true, false, codes, decimal, refl, sym, ap, append_assoc}
use Rattle.std.specs.List.{join_with_byte}
use Rattle.serde_json.specs.Data.{Data, boolean, number, string, array, unsigned, Items, no_items, item}
use Rattle.serde_json.specs.Written.{compact_text, items_text, items_have_float}
use Rattle.txn.specs.Refusals.{name_of}
use Rattle.txn.specs.declared.refusals.Refusal.{Refusal}
use Rattle.txn.specs.declared.refusals.Refusal.TheVariants as refusal
use Rattle.order_check.specs.declared.remainder.Kind.{Kind}
use Rattle.order_check.specs.declared.remainder.Kind.TheVariants as kind
use Rattle.serde_json.proofs.OnLiterals.{serde_json_on_literals}
use Rattle.log_text.specs.Lists.{list_text, word_text}
use Rattle.log_text.specs.Replies.{flag_text, kind_name}
use Rattle.log_text.specs.Texts.{HasText, HaveTexts}

pub number_written : (n : ℕ) → HasText (number (unsigned n)) (decimal n)
number_written n = record { no_float = refl; text_is = refl }

-- a word that needs no escape
pub word_written : (word : List ℕ) → compact_text (string word) ≡ word_text word → HasText (string word) (word_text word)
word_written word e = record { no_float = refl; text_is = e }

pub name_written : (r : Refusal) → HasText (string (name_of r)) (word_text (name_of r))
unfolding serde_json_on_literals
name_written refusal.BadLine = word_written _ refl
name_written refusal.BadSession = word_written _ refl
name_written refusal.BadTxn = word_written _ refl
name_written refusal.BadFence = word_written _ refl
name_written refusal.Gap = word_written _ refl
name_written refusal.Repeat = word_written _ refl
name_written refusal.Closed = word_written _ refl
name_written refusal.Backlog = word_written _ refl
name_written refusal.TooLong = word_written _ refl
name_written refusal.RoundOpen = word_written _ refl
name_written refusal.NoRound = word_written _ refl
name_written refusal.BadCertificate = word_written _ refl
name_written refusal.NoCut = word_written _ refl
name_written refusal.BadParts = word_written _ refl
name_written refusal.Full = word_written _ refl
name_written refusal.NoMemory = word_written _ refl
name_written refusal.NotAnchored = word_written _ refl
name_written refusal.Device = word_written _ refl

pub kind_written : (k : Kind) → HasText (string (kind_name k)) (word_text (kind_name k))
unfolding serde_json_on_literals
kind_written kind.Serial = word_written _ refl
kind_written kind.Pending = word_written _ refl
kind_written kind.Violated = word_written _ refl
kind_written kind.Spent = word_written _ refl

-- the words that replies begin with
pub ok_written : HasText (string (codes "ok")) (word_text (codes "ok"))
unfolding serde_json_on_literals
ok_written = word_written _ refl

pub searching_written : HasText (string (codes "searching")) (word_text (codes "searching"))
unfolding serde_json_on_literals
searching_written = word_written _ refl

pub no_written : HasText (string (codes "no")) (word_text (codes "no"))
unfolding serde_json_on_literals
no_written = word_written _ refl

pub report_written : HasText (string (codes "report")) (word_text (codes "report"))
unfolding serde_json_on_literals
report_written = word_written _ refl

pub cut_written : HasText (string (codes "cut")) (word_text (codes "cut"))
unfolding serde_json_on_literals
cut_written = word_written _ refl

pub show_written : HasText (string (codes "show")) (word_text (codes "show"))
unfolding serde_json_on_literals
show_written = word_written _ refl

-- the words of events
pub begin_written : HasText (string (codes "begin")) (word_text (codes "begin"))
unfolding serde_json_on_literals
begin_written = word_written _ refl

pub commit_written : HasText (string (codes "commit")) (word_text (codes "commit"))
unfolding serde_json_on_literals
commit_written = word_written _ refl

-- the words of the items of a tree, and of arcs
pub session_written : HasText (string (codes "session")) (word_text (codes "session"))
unfolding serde_json_on_literals
session_written = word_written _ refl

pub read_written : HasText (string (codes "read")) (word_text (codes "read"))
unfolding serde_json_on_literals
read_written = word_written _ refl

pub base_written : HasText (string (codes "base")) (word_text (codes "base"))
unfolding serde_json_on_literals
base_written = word_written _ refl

pub taken_written : HasText (string (codes "taken")) (word_text (codes "taken"))
unfolding serde_json_on_literals
taken_written = word_written _ refl

pub force_written : HasText (string (codes "force")) (word_text (codes "force"))
unfolding serde_json_on_literals
force_written = word_written _ refl

pub split_written : HasText (string (codes "split")) (word_text (codes "split"))
unfolding serde_json_on_literals
split_written = word_written _ refl

pub cycle_written : HasText (string (codes "cycle")) (word_text (codes "cycle"))
unfolding serde_json_on_literals
cycle_written = word_written _ refl

pub nowrite_written : HasText (string (codes "nowrite")) (word_text (codes "nowrite"))
unfolding serde_json_on_literals
nowrite_written = word_written _ refl

pub gone_written : HasText (string (codes "gone")) (word_text (codes "gone"))
unfolding serde_json_on_literals
gone_written = word_written _ refl

pub flag_written : (b : Bool) → HasText (boolean b) (flag_text b)
flag_written true = record { no_float = refl; text_is = refl }
flag_written false = record { no_float = refl; text_is = refl }

-- ---- lists

-- what stands behind the bracket, from an item on
items_joined : (d : Data) (ds : Items) (t : List ℕ) (ts : List (List ℕ)) → compact_text d ≡ t → HaveTexts ds ts → compact_text d ++ items_text true ds ≡ join_with_byte 44 (t ∷ ts) ++ 93 ∷ []
items_joined d no_items t [] e h = rw e refl
items_joined d (item e ds) t (u ∷ us) is h =
    rw (is, items_joined e ds u us h.0.text_is h.1) (sym (append_assoc t (44 ∷ join_with_byte 44 (u ∷ us)) (93 ∷ [])))
items_joined d no_items t (u ∷ us) e h = absurd h
items_joined d (item e ds) t [] is h = absurd h

all_joined : (ds : Items) (ts : List (List ℕ)) → HaveTexts ds ts → items_text false ds ≡ join_with_byte 44 ts ++ 93 ∷ []
all_joined no_items [] h = refl
all_joined (item d ds) (t ∷ ts) h = items_joined d ds t ts h.0.text_is h.1
all_joined no_items (t ∷ ts) h = absurd h
all_joined (item d ds) [] h = absurd h

no_floats : (ds : Items) (ts : List (List ℕ)) → HaveTexts ds ts → items_have_float ds ≡ false
no_floats no_items [] h = refl
no_floats (item d ds) (t ∷ ts) h = rw (h.0.no_float, no_floats ds ts h.1) refl
no_floats no_items (t ∷ ts) h = absurd h
no_floats (item d ds) [] h = absurd h

-- items with texts are written as the list of the texts
pub list_written : (ds : Items) (ts : List (List ℕ)) → HaveTexts ds ts → HasText (array ds) (list_text ts)
list_written ds ts h = record { no_float = no_floats ds ts h; text_is = ap (λ s. 91 ∷ s) (all_joined ds ts h) }
