-- The data that a name or a tree is written as, by either names, are read as what it is.
use Rattle.std.proofs.Common.{◌≡◌, ℕ, ◌+◌, ◌*◌, ◌/◌, ◌%◌, ◌≤◌, ◌<◌, List, [], ◌∷◌, ◌++◌, Bool, true, false, cond, nat_eq, nat_lt, codes, map, Option, Some, None, option_map, option_and_then, refl, sym, ap, subst, ◌∙◌, arith}
use Rattle.std.specs.Prelude.{◌^◌, All, if◌then◌else◌}
use Rattle.std.proofs.lemmas.Bool.Decides.{nat_tests}
use Rattle.std.proofs.lemmas.List.Elements.{All-head, All-tail}
use Rattle.serde_json.specs.Data.{Data, string, depth, items_depth}
use Rattle.serde_json.specs.View.{items_of}
use Rattle.txn.specs.declared.transactions.TxnId.{TxnId}
use Rattle.txn.specs.declared.choices.Arc.{Arc}
use Rattle.txn.specs.declared.choices.Arc.TheVariants.{Session, Read, Base, Taken}
use Rattle.txn.specs.declared.choices.Choice.{Choice}
use Rattle.txn.specs.declared.choices.ForceStep.{ForceStep}
use Rattle.txn.specs.declared.choices.Side.{Side}
use Rattle.txn.specs.declared.choices.Side.TheVariants.{First, Second}
use Rattle.refutation.specs.declared.trees.Leaf.{Leaf}
use Rattle.refutation.specs.declared.trees.Leaf.TheVariants.{Cycle, NoWrite, Gone}
use Rattle.refutation.specs.declared.trees.Tree.{Tree, Close, Force', Split'}
use Rattle.isolation_histories.specs.Halves.{event_at}
use Rattle.isolation_histories.specs.Laws.{StarsAreOfKeys}
use Rattle.isolation_histories.specs.Split.{plain_key, star}
use Rattle.isolation_histories.specs.declared.events.Event.{Event}
use Rattle.isolation_histories.specs.declared.events.Event.TheVariants.{Begin, Commit}
use Rattle.log_text.specs.declared.tree_items.TreeItem.TheVariants as node
use Rattle.log_text.specs.Items.{each_of, list_of, with_both}
use Rattle.log_text.specs.ReadBack.{CanRead, IsNamed, NamesInChoice, NamesInArc, NamesInStep, NamesInLeaf, NamesInTree}
use Rattle.log_text.specs.Named.{event_key, half_at, key_read}
use Rattle.log_text.specs.Refutations.{choice_of, side_of, arc_of, node_of, nodes_of}
use Rattle.log_text.specs.Shown.{id_of}
use Rattle.log_text.specs.Saved.{number_data}
use Rattle.log_text.specs.Names.{key_told}
use Rattle.log_text.specs.Told.{event_data, name_data, named_id_data, choice_data, arc_data, cycle_data, step_data, split_data, leaf_data, nodes_data}
use Rattle.log_text.specs.Trees.{side_number}
use Rattle.log_text.specs.declared.names.Names.{Names}
use Rattle.log_text.specs.declared.names.Names.TheVariants.{Ids, Events}
use Rattle.log_text.proofs.SavedRead.{each_read, session_read, each_depth, list_depth}

-- ---- one list behind another

abbrev joined : {X : Type 0} → Option (List X) → Option (List X) → Option (List X)
joined = with_both (λ xs ys. xs ++ ys)

none_before : {X : Type 0} (ys : Option (List X)) → ys ≡ joined (Some []) ys
none_before None = refl
none_before (Some ys) = refl

one_before : {X : Type 0} (x : Option X) (xs ys : Option (List X)) → option_and_then (λ y. option_map (λ zs. y ∷ zs) (joined xs ys)) x ≡ joined (option_and_then (λ y. option_map (λ zs. y ∷ zs) xs) x) ys
one_before None None None = refl
one_before None None (Some ys) = refl
one_before None (Some xs) None = refl
one_before None (Some xs) (Some ys) = refl
one_before (Some x) None None = refl
one_before (Some x) None (Some ys) = refl
one_before (Some x) (Some xs) None = refl
one_before (Some x) (Some xs) (Some ys) = refl

each_of-append : {X : Type 0} (form : Data → Option X) (ds es : List Data) → each_of form (items_of (ds ++ es)) ≡ joined (each_of form (items_of ds)) (each_of form (items_of es))
each_of-append form [] es = none_before (each_of form (items_of es))
each_of-append form (d ∷ ds) es =
    ap (λ rest. option_and_then (λ x. option_map (λ xs. x ∷ xs) rest) (form d)) (each_of-append form ds es) ∙ one_before (form d) (each_of form (items_of ds)) (each_of form (items_of es))

-- ---- one name

abbrev event_word : Event → List ℕ
event_word (Begin id) = codes "begin"
event_word (Commit id) = codes "commit"

event_cases : (b : Bool) (id : TxnId) → event_data (cond b (Begin id) (Commit id)) ≡ number_data id.session ∷ number_data id.number ∷ string (event_word (cond b (Begin id) (Commit id))) ∷ []
event_cases true id = refl
event_cases false id = refl

-- the name of the event that a half stands for
named : (half : TxnId) → event_data (event_at half) ≡ number_data half.session ∷ number_data (half.number / 2) ∷ string (event_word (event_at half)) ∷ []
named half = event_cases (nat_eq (half.number % 2) 0) (record { session = half.session; number = half.number / 2 })

low : (n : ℕ) → n < 2 ^ 63 → nat_lt n (2 ^ 63) ≡ true
low n h = grind (arith, nat_tests)

half_cases : (b : Bool) (id : TxnId) (n : ℕ) → id.session ≤ 255 → id.number < 2 ^ 63 → (b ≡ true → n ≡ 2 * id.number) → (b ≡ false → n ≡ 2 * id.number + 1)
    → half_at (number_data id.session) (number_data id.number) (string (event_word (cond b (Begin id) (Commit id)))) ≡ Some (record { session = id.session; number = n })
half_cases true id n low_session below even odd = rw (session_read id.session low_session, low id.number below, even refl) refl
half_cases false id n low_session below even odd = rw (session_read id.session low_session, low id.number below, odd refl) refl

half_read : (half : TxnId) → IsNamed Events half → half_at (number_data half.session) (number_data (half.number / 2)) (string (event_word (event_at half))) ≡ Some half
half_read half h =
    half_cases (nat_eq (half.number % 2) 0) (record { session = half.session; number = half.number / 2 }) half.number h.0 (omega (arith, h.1)) (λ e. grind (arith, nat_tests)) (λ e. grind (arith, nat_tests))

pub name_read : (names : Names) (id : TxnId) → IsNamed names id → id_of names (named_id_data names id) ≡ Some id
name_read Ids id h = rw (session_read id.session h) refl
name_read Events half h = rw (named half) (half_read half h)

plain_low : (key : ℕ) → key < 2 ^ 63 → plain_key key ≡ key
plain_low key h = rw (low key h) refl

side_read : (side : Side) → side_of (number_data (side_number side)) ≡ Some side
side_read First = refl
side_read Second = refl

-- ---- what reads keys, by the law that the key of a star is the one that it is made of

module _ (stars : StarsAreOfKeys) where
  -- the key that an event reads
  event_key_read : (event : Event) (key : ℕ) → CanRead event key → (if nat_lt (plain_key key) (2 ^ 63) then Some (event_key event (plain_key key)) else None) ≡ Some key
  event_key_read (Begin id) key h = rw (plain_low key h, low key h) refl
  event_key_read (Commit id) key (plain, below, is) =
      subst (λ k. (if nat_lt (plain_key k) (2 ^ 63) then Some (star (plain_key k)) else None) ≡ Some k) (sym is) (rw (stars plain below, low plain below) refl)

  key_told_read : (half : TxnId) (key : ℕ) → CanRead (event_at half) key → key_read Events half (plain_key key) ≡ Some key
  key_told_read half key h = event_key_read (event_at half) key h

  choice_read : (names : Names) (choice : Choice) → NamesInChoice names choice → choice_of names (choice_data names choice) ≡ Some choice
  choice_read Ids choice h = rw (session_read choice.reader.session h.0, session_read choice.writer.session h.1, session_read choice.other.session h.2) refl
  choice_read Events choice h =
      rw (named choice.reader, named choice.writer, named choice.other, half_read choice.reader h.0.0, half_read choice.writer h.1, half_read choice.other h.2, key_told_read choice.reader choice.key h.0.1) refl

  arc_read : (names : Names) (arc : Arc) → NamesInArc names arc → arc_of names (arc_data names arc) ≡ Some arc
  arc_read Ids (Session from to) h = rw (session_read from.session h.0, session_read to.session h.1) refl
  arc_read Ids (Read key from to) h = rw (session_read from.session h.0, session_read to.session h.1) refl
  arc_read Ids (Base key from to) h = rw (session_read from.session h.0, session_read to.session h.1) refl
  arc_read Ids (Taken from to) h = rw (session_read from.session h.0, session_read to.session h.1) refl
  arc_read Events (Session from to) h = rw (named from, named to, half_read from h.0, half_read to h.1) refl
  arc_read Events (Read key from to) h = rw (named from, named to, half_read from h.0, half_read to h.1.0, key_told_read to key h.1.1) refl
  arc_read Events (Base key from to) h = rw (named from, named to, half_read from h.0.0, half_read to h.1, key_told_read from key h.0.1) refl
  arc_read Events (Taken from to) h = rw (named from, named to, half_read from h.0, half_read to h.1) refl

  cycle_read : (names : Names) (arcs : List Arc) → All (NamesInArc names) arcs → list_of (arc_of names) (cycle_data names arcs) ≡ Some arcs
  cycle_read names arcs h = each_read (arc_of names) (arc_data names) (NamesInArc names) (arc_read names) arcs h

  step_read : (names : Names) (step : ForceStep) → NamesInStep names step → node_of names (step_data names step) ≡ Some (node.Force step)
  step_read names step h = rw (choice_read names step.choice h.0, side_read step.side, cycle_read names step.cycle h.1) refl

  split_read : (names : Names) (choice : Choice) → NamesInChoice names choice → node_of names (split_data names choice) ≡ Some (node.Split choice)
  split_read names choice h = rw (choice_read names choice h) refl

  leaf_read : (names : Names) (leaf : Leaf) → NamesInLeaf names leaf → node_of names (leaf_data names leaf) ≡ Some (node.Close leaf)
  leaf_read names (Cycle arcs) h = rw (cycle_read names arcs h) refl
  leaf_read Ids (NoWrite reader key) h = rw (session_read reader.session h) refl
  leaf_read Ids (Gone reader key) h = rw (session_read reader.session h) refl
  leaf_read Events (NoWrite reader key) h = rw (named reader, half_read reader h.0, key_told_read reader key h.1) refl
  leaf_read Events (Gone reader key) h = rw (named reader, half_read reader h.0, key_told_read reader key h.1) refl

  steps_read : (names : Names) (steps : List ForceStep) → All (NamesInStep names) steps → each_of (node_of names) (items_of (map (step_data names) steps)) ≡ Some (map node.Force steps)
  steps_read names [] h = refl
  steps_read names (step ∷ steps) h = rw (step_read names step (All-head (NamesInStep names) step steps h), steps_read names steps (All-tail (NamesInStep names) step steps h)) refl

  pub nodes_read : (names : Names) (tree : Tree) → NamesInTree names tree → each_of (node_of names) (items_of (nodes_data names tree)) ≡ Some (nodes_of tree)
  nodes_read names (Close leaf) h = rw (leaf_read names leaf h) refl
  nodes_read names (Force' steps p rest) h =
      each_of-append (node_of names) (map (step_data names) steps) (nodes_data names rest) ∙ rw (steps_read names steps h.0, nodes_read names rest h.1) refl
  nodes_read names (Split' choice p first q second) h =
      let both : each_of (node_of names) (items_of (nodes_data names first ++ nodes_data names second)) ≡ Some (nodes_of first ++ nodes_of second) =
      each_of-append (node_of names) (nodes_data names first) (nodes_data names second) ∙ rw (nodes_read names first h.1, nodes_read names second h.2) refl in
      rw (split_read names choice h.0, both) refl

-- ---- how deep they are, by either names

event_flat : (event : Event) → items_depth (items_of (event_data event)) ≤ 0
event_flat (Begin id) = omega arith
event_flat (Commit id) = omega arith

pub name_flat : (names : Names) (id : TxnId) → items_depth (items_of (name_data names id)) ≤ 0
name_flat Ids id = omega arith
name_flat Events half = event_flat (event_at half)

both_depth : (ds es : List Data) (n : ℕ) → items_depth (items_of ds) ≤ n → items_depth (items_of es) ≤ n → items_depth (items_of (ds ++ es)) ≤ n
both_depth [] es n one two = two
both_depth (d ∷ ds) es n one two = omega (arith, one, both_depth ds es n (omega (arith, one)) two)

ends_flat : (names : Names) (from to : TxnId) → items_depth (items_of (name_data names from ++ name_data names to)) ≤ 0
ends_flat names from to = both_depth (name_data names from) (name_data names to) 0 (name_flat names from) (name_flat names to)

choice_depth : (names : Names) (choice : Choice) → depth (choice_data names choice) ≤ 1
choice_depth names choice =
    let writers = name_data names choice.writer ++ name_data names choice.other in
    omega (arith, both_depth (name_data names choice.reader) (number_data (key_told names choice.key) ∷ writers) 0 (name_flat names choice.reader) (omega (arith, ends_flat names choice.writer choice.other)))

arc_depth : (names : Names) (arc : Arc) → depth (arc_data names arc) ≤ 1
arc_depth names (Session from to) = omega (arith, ends_flat names from to)
arc_depth names (Read key from to) = omega (arith, ends_flat names from to)
arc_depth names (Base key from to) = omega (arith, ends_flat names from to)
arc_depth names (Taken from to) = omega (arith, ends_flat names from to)

step_depth : (names : Names) (step : ForceStep) → depth (step_data names step) ≤ 3
step_depth names step = omega (arith, choice_depth names step.choice, list_depth (arc_data names) 1 (arc_depth names) step.cycle)

reader_flat : (names : Names) (reader : TxnId) (key : ℕ) → items_depth (items_of (name_data names reader ++ number_data (key_told names key) ∷ [])) ≤ 0
reader_flat names reader key = both_depth (name_data names reader) (number_data (key_told names key) ∷ []) 0 (name_flat names reader) (omega arith)

leaf_depth : (names : Names) (leaf : Leaf) → depth (leaf_data names leaf) ≤ 3
leaf_depth names (Cycle arcs) = omega (arith, list_depth (arc_data names) 1 (arc_depth names) arcs)
leaf_depth names (NoWrite reader key) = omega (arith, reader_flat names reader key)
leaf_depth names (Gone reader key) = omega (arith, reader_flat names reader key)

pub nodes_depth : (names : Names) (tree : Tree) → items_depth (items_of (nodes_data names tree)) ≤ 3
nodes_depth names (Close leaf) = omega (arith, leaf_depth names leaf)
nodes_depth names (Force' steps p rest) = both_depth (map (step_data names) steps) (nodes_data names rest) 3 (each_depth (step_data names) 3 (step_depth names) steps) (nodes_depth names rest)
nodes_depth names (Split' choice p first q second) =
    omega (arith, choice_depth names choice, both_depth (nodes_data names first) (nodes_data names second) 3 (nodes_depth names first) (nodes_depth names second))
