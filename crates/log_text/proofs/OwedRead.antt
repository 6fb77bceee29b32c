-- The items of one tree, read token by token up to its last one.
use Rattle.std.proofs.Common.{◌≡◌, ℕ, zero, suc, List, [], ◌∷◌, ◌++◌, map, Bool, true, false, Option, Some, None, option_map, option_and_then, append_assoc, append-nil, refl, sym, ap, ◌∙◌, subst, arith}
use Rattle.std.specs.Prelude.{if◌then◌else◌}
use Rattle.json.specs.Token.{Token}
use Rattle.json.specs.Json.{after_end_array}
use Rattle.serde_json.specs.Data.{Data, null, boolean, number, string, array, object, Items, no_items, item}
use Rattle.txn.specs.declared.choices.ForceStep.{ForceStep}
use Rattle.refutation.specs.declared.trees.Tree.{Tree, Close, Force', Split'}
use Rattle.log_text.specs.declared.tree_items.TreeItem.{TreeItem}
use Rattle.log_text.specs.declared.tree_items.TreeItem.TheVariants as node
use Rattle.log_text.specs.Items.{each_of, list_of}
use Rattle.log_text.specs.Owed.{owed_behind, are_owed, nodes_in, tree_list, NodesSoFar}
use Rattle.log_text.specs.Refutations.{node_of, nodes_of}
use Rattle.log_text.specs.Streams.{IsRead, AreRead}
use Rattle.log_text.specs.declared.names.Names.{Names}
use Rattle.log_text.proofs.TokensRead.{head_then, end_then, end_none, item_none, are_read_map}

-- ---- the items of a tree, and no other behind them

abbrev if_owed : ℕ → List TreeItem → Option (List TreeItem)
if_owed owed nodes = if are_owed owed nodes then Some nodes else None

steps_owed : (more : ℕ) (steps : List ForceStep) (behind : List TreeItem) → are_owed (suc more) (map node.Force steps ++ behind) ≡ are_owed (suc more) behind
steps_owed more [] behind = refl
steps_owed more (step ∷ steps) behind = steps_owed more steps behind

tree_owed : (more : ℕ) (tree : Tree) (behind : List TreeItem) → are_owed (suc more) (nodes_of tree ++ behind) ≡ are_owed more behind
tree_owed more (Close leaf) behind = refl
tree_owed more (Force' steps p rest) behind = ap (are_owed (suc more)) (append_assoc (map node.Force steps) (nodes_of rest) behind) ∙ steps_owed more steps (nodes_of rest ++ behind) ∙ tree_owed more rest behind
tree_owed more (Split' choice p first q second) behind =
    ap (are_owed (suc (suc more))) (append_assoc (nodes_of first) (nodes_of second) behind) ∙ tree_owed (suc more) first (nodes_of second ++ behind) ∙ tree_owed more second behind

one_owed : (tree : Tree) → are_owed 1 (nodes_of tree) ≡ true
one_owed tree = ap (are_owed 1) (sym (append-nil (nodes_of tree))) ∙ tree_owed 0 tree []

nodes_owed : (names : Names) (owed : ℕ) (given : Items) → nodes_in names owed given ≡ option_and_then (if_owed owed) (each_of (node_of names) given)
nodes_owed names zero no_items = refl
nodes_owed names (suc more) no_items = refl
nodes_owed names zero (item given rest) = nothing (node_of names given) (each_of (node_of names) rest)
  where
    nothing : (first : Option TreeItem) (behind : Option (List TreeItem)) → None ≡ option_and_then (if_owed 0) (option_and_then (λ x. option_map (λ xs. x ∷ xs) behind) first)
    nothing None behind = refl
    nothing (Some x) None = refl
    nothing (Some x) (Some xs) = refl
nodes_owed names (suc more) (item given rest) = each (node_of names given) (λ owed. nodes_owed names owed rest)
  where
    put : (x : TreeItem) (xs : List TreeItem) (b : Bool) → option_map (λ ys. x ∷ ys) (if b then Some xs else None) ≡ (if b then Some (x ∷ xs) else None)
    put x xs true = refl
    put x xs false = refl

    behind : (x : TreeItem) (all : Option (List TreeItem)) → option_map (λ ys. x ∷ ys) (option_and_then (if_owed (owed_behind more x)) all) ≡ option_and_then (if_owed (suc more)) (option_map (λ xs. x ∷ xs) all)
    behind x None = refl
    behind x (Some xs) = put x xs (are_owed (owed_behind more x) xs)

    each : (first : Option TreeItem) → ((owed : ℕ) → nodes_in names owed rest ≡ option_and_then (if_owed owed) (each_of (node_of names) rest))
        → option_and_then (λ x. option_map (λ xs. x ∷ xs) (nodes_in names (owed_behind more x) rest)) first ≡ option_and_then (if_owed (suc more)) (option_and_then (λ x. option_map (λ xs. x ∷ xs) (each_of (node_of names) rest)) first)
    each None same = refl
    each (Some x) same = ap (option_map (λ xs. x ∷ xs)) (same (owed_behind more x)) ∙ behind x (each_of (node_of names) rest)

-- a list of a tree's items is one of the tree alone
pub tree_listed : (names : Names) (given : Data) (tree : Tree) → list_of (node_of names) given ≡ Some (nodes_of tree) → tree_list names given ≡ Some (nodes_of tree)
tree_listed names null tree e = absurd (let never : ⊥ = cc in never)
tree_listed names (boolean b) tree e = absurd (let never : ⊥ = cc in never)
tree_listed names (number n) tree e = absurd (let never : ⊥ = cc in never)
tree_listed names (string word) tree e = absurd (let never : ⊥ = cc in never)
tree_listed names (array given) tree e = nodes_owed names 1 given ∙ ap (option_and_then (if_owed 1)) e ∙ ap (λ (b : Bool). if b then Some (nodes_of tree) else None) (one_owed tree)
tree_listed names (object ms) tree e = absurd (let never : ⊥ = cc in never)

items_listed : (all : Option (List TreeItem)) (nodes : List TreeItem) → option_and_then (if_owed 1) all ≡ Some nodes → all ≡ Some nodes
items_listed None nodes e = absurd (let never : ⊥ = cc in never)
items_listed (Some all) nodes e = chosen (are_owed 1 all) e
  where
    chosen : (b : Bool) → (if b then Some all else None) ≡ Some nodes → Some all ≡ Some nodes
    chosen true e = e
    chosen false e = absurd (let never : ⊥ = cc in never)

pub all_listed : (names : Names) (given : Data) (nodes : List TreeItem) → tree_list names given ≡ Some nodes → list_of (node_of names) given ≡ Some nodes
all_listed names null nodes e = absurd (let never : ⊥ = cc in never)
all_listed names (boolean b) nodes e = absurd (let never : ⊥ = cc in never)
all_listed names (number n) nodes e = absurd (let never : ⊥ = cc in never)
all_listed names (string word) nodes e = absurd (let never : ⊥ = cc in never)
all_listed names (array given) nodes e = items_listed (each_of (node_of names) given) nodes (sym (nodes_owed names 1 given) ∙ e)
all_listed names (object ms) nodes e = absurd (let never : ⊥ = cc in never)

-- ---- an item at a time

pub nodes_more : (names : Names) (old here seen mid : List Token) (front now : List TreeItem) (was owed more : ℕ) (x : TreeItem) → was ≡ suc more → NodesSoFar names old front was here → seen ≡ here → IsRead (node_of names) 3 seen (Some x) mid → now ≡ front ++ x ∷ [] → owed ≡ owed_behind more x → NodesSoFar names old now owed mid
nodes_more names old here seen mid front now was owed more x some before still read pushed less = record {
  whole = λ found new rest.
      subst (λ o. AreRead (nodes_in names 1) 3 old o new) (same found)
      ((subst (λ n. NodesSoFar names old front n here) some before).whole (option_map (λ xs. x ∷ xs) found) new
      (head_then (nodes_in names (suc more)) (node_of names) (λ y given. option_map (λ ys. y ∷ ys) (nodes_in names (owed_behind more y) given)) (λ given behind. refl) 3 3 here mid new x (option_map (λ xs. x ∷ xs) found) (omega arith) (subst (λ ts. IsRead (node_of names) 3 ts (Some x) mid) still read)
      (are_read_map (λ xs. x ∷ xs) (nodes_in names (owed_behind more x)) 3 mid new found (subst (λ n. AreRead (nodes_in names n) 3 mid found new) less rest))));
}
  where
    same : (o : Option (List TreeItem)) → option_map (λ xs. front ++ xs) (option_map (λ xs. x ∷ xs) o) ≡ option_map (λ xs. now ++ xs) o
    same None = refl
    same (Some xs) = ap Some (sym (append_assoc front (x ∷ []) xs) ∙ ap (λ (ys : List TreeItem). ys ++ xs) (sym pushed))

pub nodes_end : (names : Names) (old here new : List Token) (front now : List TreeItem) (owed : ℕ) → NodesSoFar names old front owed here → after_end_array here ≡ Some new → now ≡ front → AreRead (nodes_in names 1) 3 old (Some now) new
nodes_end names old here new front now owed before over is =
    subst (λ xs. AreRead (nodes_in names 1) 3 old (Some xs) new) (append-nil front ∙ sym is) (before.whole (Some []) new (end_then (nodes_in names owed) 3 here new (Some []) over (none owed)))
  where
    none : (n : ℕ) → nodes_in names n no_items ≡ Some []
    none zero = refl
    none (suc n) = refl

pub nodes_none : (names : Names) (old here seen mid new : List Token) (front : List TreeItem) (was more : ℕ) → was ≡ suc more → NodesSoFar names old front was here → after_end_array here ≡ None → seen ≡ here → IsRead (node_of names) 3 seen None mid → AreRead (nodes_in names 1) 3 old None new
nodes_none names old here seen mid new front was more some before going still read =
    (subst (λ n. NodesSoFar names old front n here) some before).whole None new
    (item_none (nodes_in names (suc more)) (node_of names) (λ y given. option_map (λ ys. y ∷ ys) (nodes_in names (owed_behind more y) given)) (λ given behind. refl) 3 here mid new going (subst (λ ts. IsRead (node_of names) 3 ts None mid) still read))

-- no tree is owed, and no end stands there
pub nodes_over : (names : Names) (old here new : List Token) (front : List TreeItem) (owed : ℕ) → owed ≡ 0 → NodesSoFar names old front owed here → after_end_array here ≡ None → AreRead (nodes_in names 1) 3 old None new
nodes_over names old here new front owed none before going = (subst (λ n. NodesSoFar names old front n here) none before).whole None new (end_none (nodes_in names 0) 3 here new going (λ given rest. refl))
