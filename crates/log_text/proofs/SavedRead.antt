-- The data of what is given out are those of a line of a hand-over.
use Rattle.std.proofs.Common.{◌≡◌, inl, ℕ, ◌≤◌, List, [], ◌∷◌, Bool, true, false, map, nat_le, Option, Some, ◌+◌, refl, ap, ◌∙◌, arith}
use Rattle.std.specs.Prelude.{All, ⊤}
use Rattle.std.proofs.lemmas.List.Elements.{All-head, All-tail}
use Rattle.std.proofs.lemmas.Bool.Decides.{nat_tests}
use Rattle.serde_json.specs.Data.{Data, boolean, array, depth, items_depth}
use Rattle.serde_json.specs.View.{items_of}
use Rattle.txn.specs.declared.transactions.TxnId.{TxnId}
use Rattle.txn.specs.declared.transactions.Source.{Source}
use Rattle.txn.specs.declared.transactions.Source.TheVariants.{Init, By}
use Rattle.txn.specs.declared.transactions.Txn.{Txn}
use Rattle.log_text.specs.declared.replies.Reply.{Reply}
use Rattle.log_text.specs.declared.replies.Reply.TheVariants as reply
use Rattle.log_text.specs.declared.saved.Saved.{Saved}
use Rattle.log_text.specs.declared.saved.Saved.TheVariants.{Marks, MarksBegun, Last, Offer}
use Rattle.log_text.specs.Commands.{IsCommand, flag_of, writer_of, read_of, txn_of, both_lists, command_of}
use Rattle.log_text.specs.declared.commands.Command.TheVariants as command
use Rattle.log_text.specs.Items.{each_of}
use Rattle.log_text.specs.Numbers.{whole_number, session_of}
use Rattle.log_text.specs.Saved.{number_data, list_data, writer_data, read_data, txn_data, saved_data, handed_by, IsReadable, NamesSessions}
use Rattle.log_text.specs.ReadBack.{SaysReply}
use Rattle.log_text.specs.declared.names.Names.{Names}
use Rattle.log_text.specs.Told.{reply_data}

-- each of a list is read as something made of what it was
each_read_as : {X Y : Type 0} (form : Data → Option Y) (as_data : X → Data) (made : X → Y) (P : X → Type 0) → ((x : X) → P x → form (as_data x) ≡ Some (made x)) → (xs : List X) → All P xs → each_of form (items_of (map as_data xs)) ≡ Some (map made xs)
each_read_as form as_data made P reads [] all = refl
each_read_as form as_data made P reads (x ∷ xs) all =
    rw (reads x (All-head P x xs all), each_read_as form as_data made P reads xs (All-tail P x xs all)) refl

all_same : {X : Type 0} (xs : List X) → map (λ x. x) xs ≡ xs
all_same [] = refl
all_same (x ∷ xs) = ap (λ ys. x ∷ ys) (all_same xs)

-- each of a list is read as what it was
pub each_read : {X : Type 0} (form : Data → Option X) (as_data : X → Data) (P : X → Type 0) → ((x : X) → P x → form (as_data x) ≡ Some x) → (xs : List X) → All P xs → each_of form (items_of (map as_data xs)) ≡ Some xs
each_read form as_data P reads xs all = each_read_as form as_data (λ x. x) P reads xs all ∙ ap Some (all_same xs)

any : {X : Type 0} (xs : List X) → All (λ x. ⊤) xs
any xs = grind arith

number_read : (n : ℕ) → ⊤ → whole_number (number_data n) ≡ Some n
number_read n t = refl

flag_read : (b : Bool) → ⊤ → flag_of (boolean b) ≡ Some b
flag_read b t = refl

low : (n : ℕ) → n ≤ 255 → nat_le n 255 ≡ true
low n h = grind (arith, nat_tests)

from_zero : (n : ℕ) → nat_le 0 n ≡ true
from_zero n = grind (arith, nat_tests)

pub session_read : (s : ℕ) → s ≤ 255 → session_of (number_data s) ≡ Some s
session_read s h = rw (from_zero s, low s h) refl

writer_read : (entry : ℕ × TxnId) → entry.1.session ≤ 255 → writer_of (writer_data entry) ≡ Some entry
writer_read entry h = rw (session_read entry.1.session h) refl

read_read : (read : ℕ × Source) → IsReadable read.1 → read_of (read_data read) ≡ Some read
read_read (key, Init) h = refl
read_read (key, By writer) h = rw (session_read writer.session h) refl

txn_read : (txn : Txn) → All (λ read. IsReadable read.1) txn.reads → txn_of (txn_data txn) ≡ Some (txn, false)
txn_read txn h =
    rw (each_read read_of read_data (λ read. IsReadable read.1) read_read txn.reads h, each_read whole_number number_data (λ n. ⊤) number_read txn.writes (any txn.writes)) refl

-- transactions of which none is told to have aborted
none_told : (txns : List Txn) → both_lists (map (λ txn. (txn, false)) txns) ≡ (txns, map (λ txn. false) txns)
none_told [] = refl
none_told (txn ∷ txns) = ap (λ (lists : List Txn × List Bool). (txn ∷ lists.0, false ∷ lists.1)) (none_told txns)

pub saved_read : (saved : Saved) → NamesSessions saved → command_of (array (items_of (saved_data saved))) ≡ Some (handed_by saved)
saved_read (Marks marks closed) h =
    rw (each_read whole_number number_data (λ n. ⊤) number_read marks (any marks), each_read flag_of boolean (λ b. ⊤) flag_read closed (any closed)) refl
saved_read (MarksBegun marks closed begun) h =
    rw (each_read whole_number number_data (λ n. ⊤) number_read marks (any marks), each_read flag_of boolean (λ b. ⊤) flag_read closed (any closed), each_read flag_of boolean (λ b. ⊤) flag_read begun (any begun)) refl
saved_read (Last last) h = rw (each_read writer_of writer_data (λ entry. entry.1.session ≤ 255) writer_read last h) refl
saved_read (Offer fragment) h =
    rw (session_read fragment.session h.0, each_read_as txn_of txn_data (λ txn. (txn, false)) (λ txn. All (λ read. IsReadable read.1) txn.reads) txn_read fragment.txns h.1)
    (ap (λ (lists : List Txn × List Bool). Some (command.Offer (record { fragment = record { session = fragment.session; first = fragment.first; txns = lists.0 }; aborted = lists.1 }))) (none_told fragment.txns))

-- ---- how deep they are

pub each_depth : {X : Type 0} (as_data : X → Data) (n : ℕ) → ((x : X) → depth (as_data x) ≤ n) → (xs : List X) → items_depth (items_of (map as_data xs)) ≤ n
each_depth as_data n low [] = omega arith
each_depth as_data n low (x ∷ xs) = omega (arith, low x, each_depth as_data n low xs)

pub list_depth : {X : Type 0} (as_data : X → Data) (n : ℕ) → ((x : X) → depth (as_data x) ≤ n) → (xs : List X) → depth (list_data as_data xs) ≤ n + 1
list_depth as_data n low xs = omega (arith, each_depth as_data n low xs)

pub number_depth : (n : ℕ) → depth (number_data n) ≤ 0
number_depth n = omega arith

pub flag_depth : (b : Bool) → depth (boolean b) ≤ 0
flag_depth b = omega arith

pub writer_depth : (entry : ℕ × TxnId) → depth (writer_data entry) ≤ 1
writer_depth entry = list_depth number_data 0 number_depth (entry.0 ∷ entry.1.session ∷ entry.1.number ∷ [])

read_depth : (read : ℕ × Source) → depth (read_data read) ≤ 1
read_depth (key, Init) = omega arith
read_depth (key, By writer) = list_depth number_data 0 number_depth (key ∷ writer.session ∷ writer.number ∷ [])

txn_depth : (txn : Txn) → depth (txn_data txn) ≤ 3
txn_depth txn = omega (arith, list_depth read_data 1 read_depth txn.reads, list_depth number_data 0 number_depth txn.writes)

pub saved_depth : (saved : Saved) → depth (array (items_of (saved_data saved))) ≤ 127
saved_depth (Marks marks closed) = omega (arith, list_depth number_data 0 number_depth marks, list_depth boolean 0 flag_depth closed)
saved_depth (MarksBegun marks closed begun) = omega (arith, list_depth number_data 0 number_depth marks, list_depth boolean 0 flag_depth closed, list_depth boolean 0 flag_depth begun)
saved_depth (Last last) = omega (arith, list_depth writer_data 1 writer_depth last)
saved_depth (Offer fragment) = omega (arith, list_depth txn_data 3 txn_depth fragment.txns)

pub saved_is_command : (bytes : List ℕ) (given : Reply) → SaysReply bytes given → (saved : Saved) → given ≡ reply.Saved saved → NamesSessions saved → (names : Names) → IsCommand names bytes (handed_by saved)
saved_is_command bytes given says saved same named names =
    record { utf8 = says.utf8; said = array (items_of (reply_data given)); reads = says.reads; is = inl (ap (λ (r : Reply). command_of (array (items_of (reply_data r)))) same ∙ saved_read saved named) }
