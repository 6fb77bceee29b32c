-- Lists of values beside the data that they are, and the texts of these.
use Rattle.std.proofs.Common.{ℕ, List, [], ◌∷◌, ◌++◌, map, codes, decimal, refl}
use Rattle.serde_json.specs.Data.{Data, boolean, string}
use Rattle.serde_json.specs.View.{items_of}
use Rattle.serde_json.proofs.OnLiterals.{serde_json_on_literals}
use Rattle.txn.specs.declared.transactions.TxnId.{TxnId}
use Rattle.txn.specs.declared.transactions.Source.{Source}
use Rattle.txn.specs.declared.transactions.Source.TheVariants.{Init, By}
use Rattle.txn.specs.declared.transactions.Txn.{Txn}
use Rattle.log_text.specs.declared.saved.Saved.{Saved}
use Rattle.log_text.specs.declared.saved.Saved.TheVariants.{Marks, MarksBegun, Last, Offer}
use Rattle.log_text.specs.Lists.{list_text, word_text, numbers_text}
use Rattle.log_text.specs.Replies.{flag_text, writer_text, read_text, txn_text, saved_parts}
use Rattle.log_text.specs.Saved.{number_data, list_data, writer_data, read_data, txn_data, saved_data}
use Rattle.log_text.specs.Texts.{HasText, HaveTexts}
use Rattle.log_text.proofs.ValueTexts.{number_written, word_written, list_written, flag_written}

-- ---- texts

pub have_texts : {X : Type 0} (form : X → Data) (text : X → List ℕ) → ((x : X) → HasText (form x) (text x)) → (xs : List X) → HaveTexts (items_of (map form xs)) (map text xs)
have_texts form text each [] = tt
have_texts form text each (x ∷ xs) = (each x, have_texts form text each xs)

pub list_data_written : {X : Type 0} (form : X → Data) (text : X → List ℕ) → ((x : X) → HasText (form x) (text x)) → (xs : List X) → HasText (list_data form xs) (list_text (map text xs))
list_data_written form text each xs = list_written _ _ (have_texts form text each xs)

pub init_written : HasText (string (codes "init")) (word_text (codes "init"))
unfolding serde_json_on_literals
init_written = word_written _ refl

pub marks_written : HasText (string (codes "marks")) (word_text (codes "marks"))
unfolding serde_json_on_literals
marks_written = word_written _ refl

pub last_written : HasText (string (codes "last")) (word_text (codes "last"))
unfolding serde_json_on_literals
last_written = word_written _ refl

pub offer_written : HasText (string (codes "offer")) (word_text (codes "offer"))
unfolding serde_json_on_literals
offer_written = word_written _ refl

pub writer_written : (entry : ℕ × TxnId) → HasText (writer_data entry) (writer_text entry)
writer_written entry = list_data_written number_data decimal number_written (entry.0 ∷ entry.1.session ∷ entry.1.number ∷ [])

read_written : (read : ℕ × Source) → HasText (read_data read) (read_text read)
read_written (key, Init) =
    let items : HaveTexts (items_of (number_data key ∷ string (codes "init") ∷ [])) (decimal key ∷ word_text (codes "init") ∷ []) = (number_written key, (init_written, tt)) in
    list_written _ (decimal key ∷ word_text (codes "init") ∷ []) items
read_written (key, By writer) = list_data_written number_data decimal number_written (key ∷ writer.session ∷ writer.number ∷ [])

txn_written : (txn : Txn) → HasText (txn_data txn) (txn_text txn)
txn_written txn =
    let items : HaveTexts (items_of (list_data read_data txn.reads ∷ list_data number_data txn.writes ∷ [])) (list_text (map read_text txn.reads) ∷ numbers_text txn.writes ∷ []) =
    (list_data_written read_data read_text read_written txn.reads, (list_data_written number_data decimal number_written txn.writes, tt)) in
    list_written _ (list_text (map read_text txn.reads) ∷ numbers_text txn.writes ∷ []) items

pub saved_written : (saved : Saved) → HaveTexts (items_of (saved_data saved)) (saved_parts saved)
saved_written (Marks marks closed) = (marks_written, (list_data_written number_data decimal number_written marks, (list_data_written boolean flag_text flag_written closed, tt)))
saved_written (MarksBegun marks closed begun) =
    (marks_written, (list_data_written number_data decimal number_written marks, (list_data_written boolean flag_text flag_written closed, (list_data_written boolean flag_text flag_written begun, tt))))
saved_written (Last last) = (last_written, (list_data_written writer_data writer_text writer_written last, tt))
saved_written (Offer fragment) = (offer_written, (number_written fragment.session, (number_written fragment.first, (list_data_written txn_data txn_text txn_written fragment.txns, tt))))

-- values of some data have their texts, behind those that were there
pub have_both : (ds es : List Data) (ts us : List (List ℕ)) → HaveTexts (items_of ds) ts → HaveTexts (items_of es) us → HaveTexts (items_of (ds ++ es)) (ts ++ us)
have_both [] es [] us h k = k
have_both (d ∷ ds) es (t ∷ ts) us h k = (h.0, have_both ds es ts us h.1 k)
have_both [] es (t ∷ ts) us h k = absurd h
have_both (d ∷ ds) es [] us h k = absurd h
