-- The texts of the data that replies are written as.
use Rattle.std.proofs.Common.{◌≡◌, ℕ, List, [], ◌∷◌, ◌++◌, false, map, codes, decimal, sym, subst, ◌∙◌}
use Rattle.serde_json.specs.Data.{Data, boolean, string, array}
use Rattle.serde_json.specs.View.{items_of}
use Rattle.serde_json.specs.Written.{has_float, compact_text}
use Rattle.txn.specs.Refusals.{number_of}
use Rattle.txn.specs.declared.transactions.TxnId.{TxnId}
use Rattle.txn.specs.declared.choices.Arc.{Arc}
use Rattle.txn.specs.declared.choices.Arc.TheVariants.{Session, Read, Base, Taken}
use Rattle.txn.specs.declared.choices.Choice.{Choice}
use Rattle.txn.specs.declared.choices.ForceStep.{ForceStep}
use Rattle.order_check.specs.declared.remainder.Kind.{Kind}
use Rattle.order_check.specs.declared.remainder.Kind.TheVariants as kind
use Rattle.refutation.specs.declared.trees.Leaf.{Leaf}
use Rattle.refutation.specs.declared.trees.Leaf.TheVariants.{Cycle, NoWrite, Gone}
use Rattle.refutation.specs.declared.trees.Tree.{Tree, Close, Force', Split'}
use Rattle.log_text.specs.declared.replies.Reply.{Reply}
use Rattle.log_text.specs.declared.replies.Reply.TheVariants as reply
use Rattle.isolation_histories.specs.Halves.{event_at}
use Rattle.isolation_histories.specs.declared.events.Event.{Event}
use Rattle.isolation_histories.specs.declared.events.Event.TheVariants.{Begin, Commit}
use Rattle.log_text.specs.Lists.{list_text, word_text, numbers_text}
use Rattle.log_text.specs.Names.{event_texts, name_texts, key_told}
use Rattle.log_text.specs.declared.names.Names.{Names}
use Rattle.log_text.specs.declared.names.Names.TheVariants.{Ids, Events}
use Rattle.log_text.specs.Replies.{name_text, writer_text, flag_text, report_parts, parts_of, text_of}
use Rattle.log_text.specs.Saved.{number_data, list_data, writer_data}
use Rattle.log_text.specs.Texts.{HasText, HaveTexts}
use Rattle.log_text.specs.Told.{event_data, name_data, named_id_data, ends_data, keyed_data, reader_data, choice_data, arc_data, cycle_data, step_data, split_data, leaf_data, nodes_data, tree_data, report_data, reply_data}
use Rattle.log_text.specs.Trees.{ends_text, keyed_text, reader_text, choice_text, arc_text, cycle_text, side_number, step_text, split_text, leaf_text, tree_text}
use Rattle.log_text.specs.Trees as trees
use Rattle.log_text.proofs.SavedData.{have_texts, have_both, list_data_written, writer_written, saved_written}
use Rattle.log_text.proofs.ValueTexts.{number_written, flag_written, list_written, name_written, kind_written, ok_written, searching_written, no_written, report_written, begin_written, commit_written, cut_written, show_written, session_written, read_written, base_written, taken_written, force_written, split_written, cycle_written, nowrite_written, gone_written}

numbers_written : (numbers : List ℕ) → HasText (list_data number_data numbers) (numbers_text numbers)
numbers_written numbers = list_data_written number_data decimal number_written numbers

event_written : (event : Event) → HaveTexts (items_of (event_data event)) (event_texts event)
event_written (Begin id) = (number_written id.session, (number_written id.number, (begin_written, tt)))
event_written (Commit id) = (number_written id.session, (number_written id.number, (commit_written, tt)))

name_told : (names : Names) (id : TxnId) → HaveTexts (items_of (name_data names id)) (name_texts names id)
name_told Ids id = (number_written id.session, (number_written id.number, tt))
name_told Events half = event_written (event_at half)

id_written : (names : Names) (id : TxnId) → HasText (named_id_data names id) (name_text names id)
id_written names id = list_written (items_of (name_data names id)) (name_texts names id) (name_told names id)

ends_told : (names : Names) (from to : TxnId) → HaveTexts (items_of (name_data names from ++ name_data names to)) (name_texts names from ++ name_texts names to)
ends_told names from to = have_both _ _ _ _ (name_told names from) (name_told names to)

choice_written : (names : Names) (choice : Choice) → HasText (choice_data names choice) (choice_text names choice)
choice_written names choice =
    list_written (items_of (name_data names choice.reader ++ (number_data (key_told names choice.key) ∷ (name_data names choice.writer ++ name_data names choice.other)))) (name_texts names choice.reader ++ (decimal (key_told names choice.key) ∷ (name_texts names choice.writer ++ name_texts names choice.other)))
    (have_both (name_data names choice.reader) (number_data (key_told names choice.key) ∷ (name_data names choice.writer ++ name_data names choice.other)) (name_texts names choice.reader) (decimal (key_told names choice.key) ∷ (name_texts names choice.writer ++ name_texts names choice.other)) (name_told names choice.reader) (number_written (key_told names choice.key), ends_told names choice.writer choice.other))

ends_written : (names : Names) (word : List ℕ) (from to : TxnId) → HasText (string word) (word_text word) → HasText (ends_data names word from to) (ends_text names word from to)
ends_written names word from to plain =
    list_written (items_of (string word ∷ (name_data names from ++ name_data names to))) (word_text word ∷ (name_texts names from ++ name_texts names to)) (plain, ends_told names from to)

keyed_written : (names : Names) (word : List ℕ) (key : ℕ) (from to : TxnId) → HasText (string word) (word_text word) → HasText (keyed_data names word key from to) (keyed_text names word key from to)
keyed_written names word key from to plain =
    list_written (items_of (string word ∷ number_data (key_told names key) ∷ (name_data names from ++ name_data names to))) (word_text word ∷ decimal (key_told names key) ∷ (name_texts names from ++ name_texts names to)) (plain, (number_written (key_told names key), ends_told names from to))

arc_written : (names : Names) (arc : Arc) → HasText (arc_data names arc) (arc_text names arc)
arc_written names (Session from to) = ends_written names (codes "session") from to session_written
arc_written names (Read key from to) = keyed_written names (codes "read") key from to read_written
arc_written names (Base key from to) = keyed_written names (codes "base") key from to base_written
arc_written names (Taken from to) = ends_written names (codes "taken") from to taken_written

arcs_written : (names : Names) (arcs : List Arc) → HasText (cycle_data names arcs) (cycle_text names arcs)
arcs_written names arcs = list_data_written (arc_data names) (arc_text names) (arc_written names) arcs

step_written : (names : Names) (step : ForceStep) → HasText (step_data names step) (step_text names step)
step_written names step =
    let side = side_number step.side in
    let items : HaveTexts (items_of (string (codes "force") ∷ choice_data names step.choice ∷ number_data side ∷ cycle_data names step.cycle ∷ [])) (word_text (codes "force") ∷ choice_text names step.choice ∷ decimal side ∷ cycle_text names step.cycle ∷ []) =
    (force_written, (choice_written names step.choice, (number_written side, (arcs_written names step.cycle, tt)))) in
    list_written _ (word_text (codes "force") ∷ choice_text names step.choice ∷ decimal side ∷ cycle_text names step.cycle ∷ []) items

a_split_written : (names : Names) (choice : Choice) → HasText (split_data names choice) (split_text names choice)
a_split_written names choice =
    let items : HaveTexts (items_of (string (codes "split") ∷ choice_data names choice ∷ [])) (word_text (codes "split") ∷ choice_text names choice ∷ []) = (split_written, (choice_written names choice, tt)) in
    list_written _ (word_text (codes "split") ∷ choice_text names choice ∷ []) items

read_leaf_written : (names : Names) (word : List ℕ) (reader : TxnId) (key : ℕ) → HasText (string word) (word_text word) → HasText (reader_data names word reader key) (reader_text names word reader key)
read_leaf_written names word reader key plain =
    list_written (items_of (string word ∷ (name_data names reader ++ number_data (key_told names key) ∷ []))) (word_text word ∷ (name_texts names reader ++ decimal (key_told names key) ∷ []))
    (plain, have_both (name_data names reader) (number_data (key_told names key) ∷ []) (name_texts names reader) (decimal (key_told names key) ∷ []) (name_told names reader) (number_written (key_told names key), tt))

leaf_written : (names : Names) (leaf : Leaf) → HasText (leaf_data names leaf) (leaf_text names leaf)
leaf_written names (Cycle arcs) =
    let items : HaveTexts (items_of (string (codes "cycle") ∷ cycle_data names arcs ∷ [])) (word_text (codes "cycle") ∷ cycle_text names arcs ∷ []) = (cycle_written, (arcs_written names arcs, tt)) in
    list_written _ (word_text (codes "cycle") ∷ cycle_text names arcs ∷ []) items
leaf_written names (NoWrite reader key) = read_leaf_written names (codes "nowrite") reader key nowrite_written
leaf_written names (Gone reader key) = read_leaf_written names (codes "gone") reader key gone_written

nodes_written : (names : Names) (tree : Tree) → HaveTexts (items_of (nodes_data names tree)) (trees.items_of names tree)
nodes_written names (Close leaf) = (leaf_written names leaf, tt)
nodes_written names (Force' steps p rest) = have_both _ _ _ _ (have_texts (step_data names) (step_text names) (step_written names) steps) (nodes_written names rest)
nodes_written names (Split' choice p first q second) = (a_split_written names choice, have_both _ _ _ _ (nodes_written names first) (nodes_written names second))

tree_written : (names : Names) (tree : Tree) → HasText (tree_data names tree) (tree_text names tree)
tree_written names tree = list_written (items_of (nodes_data names tree)) (trees.items_of names tree) (nodes_written names tree)

-- what each report begins with, and what is behind it
reported : (round : ℕ) (kind : Kind) (counts : List ℕ) (more : List Data) (texts : List (List ℕ)) → HaveTexts (items_of more) texts → HaveTexts (items_of (report_data round kind counts ++ more)) (report_parts round kind counts ++ texts)
reported round kind counts more texts behind = (report_written, (number_written round, (kind_written kind, (numbers_written counts, behind))))

reply_written : (given : Reply) → HaveTexts (items_of (reply_data given)) (parts_of given)
reply_written reply.Done = (ok_written, tt)
reply_written (reply.No refusal) = (no_written, (number_written (number_of refusal), (name_written refusal, tt)))
reply_written (reply.Order names round kind counts order) = reported round kind counts (list_data (named_id_data names) order ∷ []) (list_text (map (name_text names) order) ∷ []) (list_data_written (named_id_data names) (name_text names) (id_written names) order, tt)
reply_written (reply.Violated names round counts tree) = reported round kind.Violated counts (tree_data names tree ∷ []) (tree_text names tree ∷ []) (tree_written names tree, tt)
reply_written (reply.Spent round counts) = reported round kind.Spent counts [] [] tt
reply_written (reply.Cut fence gone last) =
    (cut_written, (id_written Ids fence, (list_data_written (named_id_data Ids) (name_text Ids) (id_written Ids) gone, (list_data_written writer_data writer_text writer_written last, tt))))
reply_written (reply.Show marks received closed last remaining) =
    (show_written, (numbers_written marks, (numbers_written received, (list_data_written boolean flag_text flag_written closed, (list_data_written writer_data writer_text writer_written last, (number_written remaining, tt))))))
reply_written (reply.Saved given) = saved_written given
reply_written reply.Searching = (searching_written, tt)

-- the bytes of a reply's value are its text
pub reply_text : (d : Data) (bytes : List ℕ) (reply : Reply) → d ≡ array (items_of (reply_data reply)) → (has_float d ≡ false → bytes ≡ compact_text d) → bytes ≡ text_of reply
reply_text d bytes reply is text =
    let written = subst (λ e. HasText e (text_of reply)) (sym is) (list_written (items_of (reply_data reply)) (parts_of reply) (reply_written reply)) in
    text written.no_float ∙ written.text_is
