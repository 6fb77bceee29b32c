-- No brace stands in the text of a report.
use Rattle.std.proofs.Common.{◌≡◌, ℕ, zero, suc, ◌/◌, ◌%◌, ◌<◌, ◌==◌, Bool, true, false, List, [], ◌∷◌, ◌++◌, map, Option, codes, decimal, refl, sym, ap, ◌∙◌, arith}
use Rattle.std.specs.Prelude.{⊤, nat_eq, if◌then◌else◌}
use Rattle.std.specs.Fmt.{digits, digits_onto, digit_glyph}
use Rattle.std.specs.List.{join_with_byte}
use Rattle.std.proofs.lemmas.Bool.{false≢true}
use Rattle.std.proofs.lemmas.List.Folds.{list_any-append}
use Rattle.txn.specs.declared.choices.Arc.{Arc}
use Rattle.txn.specs.declared.choices.Arc.TheVariants.{Session, Read, Base, Taken}
use Rattle.txn.specs.declared.choices.Choice.{Choice}
use Rattle.txn.specs.declared.choices.ForceStep.{ForceStep}
use Rattle.txn.specs.declared.transactions.TxnId.{TxnId}
use Rattle.order_check.specs.declared.remainder.Kind.{Kind}
use Rattle.order_check.specs.declared.remainder.Kind.TheVariants as kinds
use Rattle.refutation.specs.declared.trees.Leaf.{Leaf}
use Rattle.refutation.specs.declared.trees.Leaf.TheVariants.{Cycle, NoWrite, Gone}
use Rattle.refutation.specs.declared.trees.Tree.{Tree, Close, Force', Split'}
use Rattle.log_text.specs.Lists.{list_text, word_text, numbers_text}
use Rattle.log_text.specs.Names.{event_texts, name_texts, key_told}
use Rattle.log_text.specs.Replies.{name_text, kind_name, report_parts, text_of}
use Rattle.log_text.specs.declared.names.Names.{Names}
use Rattle.log_text.specs.declared.names.Names.TheVariants.{Ids, Events}
use Rattle.isolation_histories.specs.Halves.{event_at}
use Rattle.isolation_histories.specs.declared.events.Event.{Event}
use Rattle.isolation_histories.specs.declared.events.Event.TheVariants.{Begin, Commit}
use Rattle.isolation_scripts.specs.Isolated.{halved}
use Rattle.log_text.specs.Trees.{choice_text, arc_text, cycle_text, side_number, step_text, reader_text, leaf_text, items_of, tree_text}
use Rattle.log_text.specs.declared.commands.Command.{Command}
use Rattle.round_state.specs.declared.reports.Certificate.{Certificate}
use Rattle.round_state.specs.declared.reports.Certificate.TheVariants.{Order, Refuted, Nothing}
use Rattle.round_state.specs.declared.reports.Report.{Report}
use Rattle.cobra.specs.StepReplies.{certified}
use Rattle.report_checking.specs.Isolation.{told_by}
use Rattle.report_checking.specs.Reading.{IsFair, has_brace, names_in}
use Rattle.report_checking.specs.declared.findings.Found.{Found}
use Rattle.report_checking.specs.declared.findings.Found.TheVariants as found
use Rattle.report_checking.specs.declared.open_scripts.OpenScript.{OpenScript}

abbrev HasNone : List ℕ → Type 0
HasNone text = has_brace text ≡ false

-- in none of the texts
abbrev InNone : List (List ℕ) → Type 0
InNone [] = ⊤
InNone (text ∷ texts) = HasNone text × InNone texts

both : (xs ys : List ℕ) → HasNone xs → HasNone ys → HasNone (xs ++ ys)
both xs ys p q = list_any-append (λ byte. nat_eq byte 123) xs ys ∙ rw (p, q) refl

glyph : (d : ℕ) → d < 10 → nat_eq (digit_glyph false d) 123 ≡ false
glyph d below = grind arith

chosen : (c : Bool) (xs ys : List ℕ) → HasNone xs → HasNone ys → HasNone (if c then xs else ys)
chosen true xs ys p q = p
chosen false xs ys p q = q

onto : (k n : ℕ) (acc : List ℕ) → HasNone acc → HasNone (digits_onto k 10 false n acc)
onto zero n acc h = h
onto (suc k) n acc h =
    let more : HasNone (digit_glyph false (n % 10) ∷ acc) = rw (glyph (n % 10) (omega arith), h) refl in
    chosen (n / 10 == 0) (digit_glyph false (n % 10) ∷ acc) (digits_onto k 10 false (n / 10) (digit_glyph false (n % 10) ∷ acc)) more (onto k (n / 10) (digit_glyph false (n % 10) ∷ acc) more)

in_decimal : (n : ℕ) → HasNone (decimal n)
unfolding digits
in_decimal n = onto 64 n [] refl

in_joined : (texts : List (List ℕ)) → InNone texts → HasNone (join_with_byte 44 texts)
in_joined [] h = refl
in_joined (text ∷ []) h = h.0
in_joined (text ∷ next ∷ texts) h = both text (44 ∷ join_with_byte 44 (next ∷ texts)) h.0 (in_joined (next ∷ texts) h.1)

in_list : (texts : List (List ℕ)) → InNone texts → HasNone (list_text texts)
in_list texts h = both (codes "[") (join_with_byte 44 texts ++ codes "]") refl (both (join_with_byte 44 texts) (codes "]") (in_joined texts h) refl)

in_each : {X : Type 0} (text : X → List ℕ) → ((x : X) → HasNone (text x)) → (xs : List X) → InNone (map text xs)
in_each text h [] = tt
in_each text h (x ∷ xs) = (h x, in_each text h xs)

in_numbers : (numbers : List ℕ) → HasNone (numbers_text numbers)
in_numbers numbers = in_list (map decimal numbers) (in_each decimal in_decimal numbers)

in_both : (texts more : List (List ℕ)) → InNone texts → InNone more → InNone (texts ++ more)
in_both [] more p q = q
in_both (text ∷ texts) more p q = (p.0, in_both texts more p.1 q)

-- ---- trees

in_event : (event : Event) → InNone (event_texts event)
in_event (Begin id) = (in_decimal id.session, (in_decimal id.number, (refl, tt)))
in_event (Commit id) = (in_decimal id.session, (in_decimal id.number, (refl, tt)))

in_name : (names : Names) (id : TxnId) → InNone (name_texts names id)
in_name Ids id = (in_decimal id.session, (in_decimal id.number, tt))
in_name Events half = in_event (event_at half)

in_ends : (names : Names) (from to : TxnId) → InNone (name_texts names from ++ name_texts names to)
in_ends names from to = in_both (name_texts names from) (name_texts names to) (in_name names from) (in_name names to)

in_key : (names : Names) (key : ℕ) → HasNone (decimal (key_told names key))
in_key names key = in_decimal (key_told names key)

in_choice : (names : Names) (choice : Choice) → HasNone (choice_text names choice)
in_choice names choice =
    in_list (name_texts names choice.reader ++ (decimal (key_told names choice.key) ∷ (name_texts names choice.writer ++ name_texts names choice.other)))
    (in_both (name_texts names choice.reader) (decimal (key_told names choice.key) ∷ (name_texts names choice.writer ++ name_texts names choice.other)) (in_name names choice.reader) (in_key names choice.key, in_ends names choice.writer choice.other))

in_arc : (names : Names) (arc : Arc) → HasNone (arc_text names arc)
in_arc names (Session from to) = in_list (word_text (codes "session") ∷ (name_texts names from ++ name_texts names to)) (refl, in_ends names from to)
in_arc names (Read key from to) = in_list (word_text (codes "read") ∷ decimal (key_told names key) ∷ (name_texts names from ++ name_texts names to)) (refl, (in_key names key, in_ends names from to))
in_arc names (Base key from to) = in_list (word_text (codes "base") ∷ decimal (key_told names key) ∷ (name_texts names from ++ name_texts names to)) (refl, (in_key names key, in_ends names from to))
in_arc names (Taken from to) = in_list (word_text (codes "taken") ∷ (name_texts names from ++ name_texts names to)) (refl, in_ends names from to)

in_cycle : (names : Names) (arcs : List Arc) → HasNone (cycle_text names arcs)
in_cycle names arcs = in_list (map (arc_text names) arcs) (in_each (arc_text names) (in_arc names) arcs)

in_step : (names : Names) (step : ForceStep) → HasNone (step_text names step)
in_step names step =
    in_list (word_text (codes "force") ∷ choice_text names step.choice ∷ decimal (side_number step.side) ∷ cycle_text names step.cycle ∷ []) (refl, (in_choice names step.choice, (in_decimal (side_number step.side), (in_cycle names step.cycle, tt))))

in_read : (names : Names) (word : List ℕ) → HasNone (word_text word) → (reader : TxnId) (key : ℕ) → HasNone (reader_text names word reader key)
in_read names word h reader key =
    in_list (word_text word ∷ (name_texts names reader ++ decimal (key_told names key) ∷ [])) (h, in_both (name_texts names reader) (decimal (key_told names key) ∷ []) (in_name names reader) (in_key names key, tt))

in_leaf : (names : Names) (leaf : Leaf) → HasNone (leaf_text names leaf)
in_leaf names (Cycle arcs) = in_list (word_text (codes "cycle") ∷ cycle_text names arcs ∷ []) (refl, (in_cycle names arcs, tt))
in_leaf names (NoWrite reader key) = in_read names (codes "nowrite") refl reader key
in_leaf names (Gone reader key) = in_read names (codes "gone") refl reader key

in_items : (names : Names) (tree : Tree) → InNone (items_of names tree)
in_items names (Close leaf) = (in_leaf names leaf, tt)
in_items names (Force' steps p rest) = in_both (map (step_text names) steps) (items_of names rest) (in_each (step_text names) (in_step names) steps) (in_items names rest)
in_items names (Split' choice p first q second) =
    (in_list (word_text (codes "split") ∷ choice_text names choice ∷ []) (refl, (in_choice names choice, tt)), in_both (items_of names first) (items_of names second) (in_items names first) (in_items names second))

-- ---- reports

in_kind : (kind : Kind) → HasNone (word_text (kind_name kind))
in_kind kinds.Serial = refl
in_kind kinds.Pending = refl
in_kind kinds.Violated = refl
in_kind kinds.Spent = refl

in_parts : (round : ℕ) (kind : Kind) (counts : List ℕ) → InNone (report_parts round kind counts)
in_parts round kind counts = (refl, (in_decimal round, (in_kind kind, (in_numbers counts, tt))))

in_ordered : (round : ℕ) (kind : Kind) (counts : List ℕ) (last : List ℕ) → HasNone last → HasNone (list_text (report_parts round kind counts ++ last ∷ []))
in_ordered round kind counts last h = in_list (report_parts round kind counts ++ last ∷ []) (in_both (report_parts round kind counts) (last ∷ []) (in_parts round kind counts) (h, tt))

in_named : (names : Names) (id : TxnId) → HasNone (name_text names id)
in_named names id = in_list (name_texts names id) (in_name names id)

in_order : (names : Names) (order : List TxnId) → HasNone (list_text (map (name_text names) order))
in_order names order = in_list (map (name_text names) order) (in_each (name_text names) (in_named names) order)

in_certified : (names : Names) (report : Report) (certificate : Certificate) → HasNone (text_of (told_by names (certified report certificate)))
in_certified Ids report (Order order) = in_ordered report.round report.kind report.counts (list_text (map (name_text Ids) order)) (in_order Ids order)
in_certified Ids report (Refuted tree) = in_ordered report.round kinds.Violated report.counts (tree_text Ids tree) (in_list (items_of Ids tree) (in_items Ids tree))
in_certified Ids report Nothing = in_list (report_parts report.round kinds.Spent report.counts) (in_parts report.round kinds.Spent report.counts)
in_certified Events report (Order order) = in_ordered report.round report.kind (halved report.counts) (list_text (map (name_text Events) order)) (in_order Events order)
in_certified Events report (Refuted tree) = in_ordered report.round kinds.Violated (halved report.counts) (tree_text Events tree) (in_list (items_of Events tree) (in_items Events tree))
in_certified Events report Nothing = in_list (report_parts report.round kinds.Spent (halved report.counts)) (in_parts report.round kinds.Spent (halved report.counts))

-- where one stands in the stored reply, that isn't a report's, and may be found wrong
pub brace_fair : (old : Option OpenScript) (asked : Command) (stored : List ℕ) (given : Found) → has_brace stored ≡ true → IsFair old asked stored given
brace_fair old asked stored (found.Wrong why) brace =
    λ report new earned shows same. false≢true (sym (in_certified (names_in old) report report.certificate) ∙ ap has_brace (sym same) ∙ brace)
brace_fair old asked stored (found.Right what) brace = tt
brace_fair old asked stored found.Unchecked brace = tt
