-- Trees put together from the last of their items on, and how many trees items make.
use Rattle.std.proofs.Common.{◌≡◌, ◌≢◌, ℕ, suc, ◌+◌, List, [], ◌∷◌, ◌++◌, length, map, reverse, Option, Some, None, option_map, option_and_then, append_assoc, append-nil, refl, sym, ap, subst, ◌∙◌, arith}
use Rattle.std.proofs.lemmas.List.{nil_from_length}
use Rattle.txn.specs.declared.choices.Choice.{Choice}
use Rattle.txn.specs.declared.choices.ForceStep.{ForceStep}
use Rattle.refutation.specs.declared.trees.Leaf.{Leaf}
use Rattle.refutation.specs.declared.trees.Tree.{Tree, Close, Force', Split'}
use Rattle.log_text.specs.declared.tree_items.TreeItem.{TreeItem}
use Rattle.log_text.specs.declared.tree_items.TreeItem.TheVariants as node
use Rattle.log_text.specs.declared.building.Front.{Front}
use Rattle.log_text.specs.Building.{AreMerged, nodes_behind, nodes_in_front, AreBuilt, one_or_more, two_as_one, trees_in}
use Rattle.log_text.specs.Refutations.{nodes_of, IsMerged, IsNoForce, AreNodesOf}

-- ---- how many trees the items make

-- before trees, forced steps make no tree more
steps_more : (steps : List ForceStep) (more : List TreeItem) (n : ℕ) → trees_in more ≡ Some (suc n) → trees_in (map node.Force steps ++ more) ≡ Some (suc n)
steps_more [] more n h = h
steps_more (step ∷ steps) more n h = ap (option_and_then one_or_more) (steps_more steps more n h)

-- and a tree's items make one more
tree_more : (tree : Tree) (more : List TreeItem) (n : ℕ) → trees_in more ≡ Some n → trees_in (nodes_of tree ++ more) ≡ Some (suc n)
tree_more (Close leaf) more n h = ap (option_map (λ k. suc k)) h
tree_more (Force' steps p rest) more n h =
    ap trees_in (append_assoc (map node.Force steps) (nodes_of rest) more) ∙ steps_more steps (nodes_of rest ++ more) n (tree_more rest more n h)
tree_more (Split' choice p first q second) more n h =
    let both = tree_more first (nodes_of second ++ more) (suc n) (tree_more second more n h) in
    ap (λ nodes. option_and_then two_as_one (trees_in nodes)) (append_assoc (nodes_of first) (nodes_of second) more) ∙ ap (option_and_then two_as_one) both

trees_more : (trees : List Tree) (more : List TreeItem) (n : ℕ) → trees_in more ≡ Some n → trees_in (nodes_behind trees ++ more) ≡ Some (length trees + n)
trees_more [] more n h = h ∙ ap (λ (k : ℕ). Some k) (omega arith)
trees_more (tree ∷ trees) more n h =
    ap trees_in (append_assoc (nodes_behind trees) (nodes_of tree) more) ∙ trees_more trees (nodes_of tree ++ more) (suc n) (tree_more tree more n h) ∙ ap (λ (k : ℕ). Some k) (omega arith)

-- the items of one tree make one
one_tree : (tree : Tree) → trees_in (nodes_of tree) ≡ Some 1
one_tree tree = ap trees_in (sym (append-nil (nodes_of tree))) ∙ tree_more tree [] 0 refl

-- where the last items make none, all of them make none
none_before : (front back : List TreeItem) → trees_in back ≡ None → trees_in (front ++ back) ≡ None
none_before [] back h = h
none_before (node.Close leaf ∷ front) back h = ap (option_map (λ k. suc k)) (none_before front back h)
none_before (node.Force step ∷ front) back h = ap (option_and_then one_or_more) (none_before front back h)
none_before (node.Split choice ∷ front) back h = ap (option_and_then two_as_one) (none_before front back h)

-- items that make another number of trees than one are those of no tree
pub no_tree : (nodes : List TreeItem) (found : Option ℕ) → trees_in nodes ≡ found → found ≢ Some 1 → (tree : Tree) → ¬ AreNodesOf nodes tree
no_tree nodes found made other tree are = other (sym made ∙ ap trees_in are.0 ∙ one_tree tree)

pub no_tree_behind : (nodes front back : List TreeItem) → nodes ≡ front ++ back → trees_in back ≡ None → (tree : Tree) → ¬ AreNodesOf nodes tree
no_tree_behind nodes front back split none tree are =
    let all : trees_in nodes ≡ None = ap trees_in split ∙ none_before front back none in
    no_tree nodes None all (λ e. cc) tree are

-- ---- what is put together

-- ---- what is put together

nodes_behind-push : (trees : List Tree) (tree : Tree) → nodes_behind (trees ++ tree ∷ []) ≡ nodes_of tree ++ nodes_behind trees
nodes_behind-push [] tree = sym (append-nil (nodes_of tree))
nodes_behind-push (other ∷ trees) tree = ap (λ (nodes : List TreeItem). nodes ++ nodes_of other) (nodes_behind-push trees tree) ∙ append_assoc (nodes_of tree) (nodes_behind trees) (nodes_of other)

AreMerged-push : (trees : List Tree) (tree : Tree) → AreMerged trees → IsMerged tree → AreMerged (trees ++ tree ∷ [])
AreMerged-push [] tree all one = (one, tt)
AreMerged-push (other ∷ trees) tree all one = (all.0, AreMerged-push trees tree all.1 one)

AreMerged-apart : (trees : List Tree) (tree : Tree) → AreMerged (trees ++ tree ∷ []) → AreMerged trees × IsMerged tree
AreMerged-apart [] tree all = (tt, all.0)
AreMerged-apart (other ∷ trees) tree all = let rest = AreMerged-apart trees tree all.1 in ((all.0, rest.0), rest.1)

-- the tree in front was put together, and stands behind the next one
pub behind_some : (front : Front) (tree : Tree) (behind now : List Tree) (nodes : List TreeItem) → nodes_of tree ≡ map node.Force (reverse front.steps.items) ++ nodes_of front.rest → (IsNoForce front.rest → IsMerged front.rest → IsMerged tree)
    → now ≡ behind ++ tree ∷ [] → AreBuilt (Some front) behind nodes → (nodes ≡ nodes_behind now) × AreMerged now
behind_some front tree behind now nodes whole merged pushed built = (
  built.nodes_are ∙ ap (λ (ns : List TreeItem). ns ++ nodes_behind behind) (sym whole) ∙ sym (nodes_behind-push behind tree) ∙ sym (ap nodes_behind pushed),
  subst AreMerged (sym pushed) (AreMerged-push behind tree built.all_merged (merged built.in_front.0 built.in_front.1)),
)

-- a tree with no step before it is in front of all
alone_in_front : (made : Front) → made.steps.items ≡ [] → nodes_in_front (Some made) ≡ nodes_of made.rest
alone_in_front made none = ap (λ (steps : List ForceStep). map node.Force (reverse steps) ++ nodes_of made.rest) none

pub leaf_built : (leaf : Leaf) (made : Front) (behind : List Tree) (nodes : List TreeItem) → made.steps.items ≡ [] → made.rest ≡ Close leaf → (nodes ≡ nodes_behind behind) × AreMerged behind → AreBuilt (Some made) behind (node.Close leaf ∷ nodes)
leaf_built leaf made behind nodes none rest before = record {
  nodes_are = ap (λ (ns : List TreeItem). node.Close leaf ∷ ns) before.0 ∙ ap (λ (ns : List TreeItem). ns ++ nodes_behind behind) (sym (alone_in_front made none ∙ ap nodes_of rest));
  in_front = (subst IsNoForce (sym rest) tt, subst IsMerged (sym rest) tt);
  all_merged = before.1;
}

-- the tree in front and the one behind it are the halves of a split
pub split_built : (choice : Choice) (front made : Front) (first second rest : Tree) (behind now : List Tree) (nodes : List TreeItem) → nodes_of first ≡ map node.Force (reverse front.steps.items) ++ nodes_of front.rest → (IsNoForce front.rest → IsMerged front.rest → IsMerged first)
    → behind ≡ now ++ second ∷ [] → made.steps.items ≡ [] → made.rest ≡ rest → nodes_of rest ≡ node.Split choice ∷ (nodes_of first ++ nodes_of second) → IsNoForce rest → (IsMerged first → IsMerged second → IsMerged rest) → AreBuilt (Some front) behind nodes → AreBuilt (Some made) now (node.Split choice ∷ nodes)
split_built choice front made first second rest behind now nodes whole merged popped none is split plain both built =
    let parted = AreMerged-apart now second (subst AreMerged popped built.all_merged) in
    let before : nodes ≡ nodes_of first ++ (nodes_of second ++ nodes_behind now) =
    built.nodes_are ∙ ap (λ (ns : List TreeItem). ns ++ nodes_behind behind) (sym whole) ∙ ap (λ (ns : List TreeItem). nodes_of first ++ ns) (ap nodes_behind popped ∙ nodes_behind-push now second) in
    let here : nodes_in_front (Some made) ≡ node.Split choice ∷ (nodes_of first ++ nodes_of second) = alone_in_front made none ∙ ap nodes_of is ∙ split in record {
      nodes_are = ap (λ (ns : List TreeItem). node.Split choice ∷ ns) (before ∙ sym (append_assoc (nodes_of first) (nodes_of second) (nodes_behind now))) ∙ ap (λ (ns : List TreeItem). ns ++ nodes_behind now) (sym here);
      in_front = (subst IsNoForce (sym is) plain, subst IsMerged (sym is) (both (merged built.in_front.0 built.in_front.1) parted.1));
      all_merged = parted.0;
    }

-- ---- where an item may not stand

nothing_there : (behind : List Tree) (nodes : List TreeItem) → AreBuilt None behind nodes → nodes ≡ []
nothing_there behind nodes built = built.nodes_are ∙ ap nodes_behind built.in_front

-- the tree in front and those behind it
built_count : (front : Front) (behind : List Tree) (nodes : List TreeItem) → AreBuilt (Some front) behind nodes → trees_in nodes ≡ Some (suc (length behind))
built_count front behind nodes built =
    let back : trees_in (nodes_behind behind) ≡ Some (length behind) = ap trees_in (sym (append-nil (nodes_behind behind))) ∙ trees_more behind [] 0 refl ∙ ap (λ (k : ℕ). Some k) (omega arith) in
    ap trees_in (built.nodes_are ∙ append_assoc (map node.Force (reverse front.steps.items)) (nodes_of front.rest) (nodes_behind behind))
    ∙ steps_more (reverse front.steps.items) (nodes_of front.rest ++ nodes_behind behind) (length behind) (tree_more front.rest (nodes_behind behind) (length behind) back)

pub split_of_one : (choice : Choice) (front : Front) (behind : List Tree) (nodes : List TreeItem) → behind ≡ [] → AreBuilt (Some front) behind nodes → trees_in (node.Split choice ∷ nodes) ≡ None
split_of_one choice front behind nodes none built =
    ap (option_and_then two_as_one) (built_count front behind nodes built ∙ ap (λ (trees : List Tree). Some (suc (length trees))) none)

-- ---- all items

-- what was put together of the last items, and the items that are left
pub record IsBuilding (all left : List TreeItem) (front : Option Front) (behind : List Tree) : Type 0 where
  pub done : List TreeItem
  pub split : all ≡ left ++ done
  pub built : AreBuilt front behind done

one_less : (all left now done : List TreeItem) (given : TreeItem) → all ≡ left ++ done → left ≡ now ++ given ∷ [] → all ≡ now ++ given ∷ done
one_less all left now done given split popped = split ∙ ap (λ (ns : List TreeItem). ns ++ done) popped ∙ append_assoc now (given ∷ []) done

pub building_more : (all left now : List TreeItem) (given : TreeItem) (front made : Option Front) (behind after : List Tree) → IsBuilding all left front behind → left ≡ now ++ given ∷ [] → ((nodes : List TreeItem) → AreBuilt front behind nodes → AreBuilt made after (given ∷ nodes)) → IsBuilding all now made after
building_more all left now given front made behind after s popped puts = record { done = given ∷ s.done; split = one_less all left now s.done given s.split popped; built = puts s.done s.built }

pub building_stuck : (all left now : List TreeItem) (given : TreeItem) (front : Option Front) (behind : List Tree) → IsBuilding all left front behind → left ≡ now ++ given ∷ [] → ((nodes : List TreeItem) → AreBuilt front behind nodes → trees_in (given ∷ nodes) ≡ None) → (tree : Tree) → ¬ AreNodesOf all tree
building_stuck all left now given front behind s popped stuck =
    no_tree_behind all now (given ∷ s.done) (one_less all left now s.done given s.split popped) (stuck s.done s.built)

all_done : (all left done : List TreeItem) → all ≡ left ++ done → left ≡ [] → all ≡ done
all_done all left done split none = split ∙ ap (λ (ns : List TreeItem). ns ++ done) none

pub built_nothing : (all left : List TreeItem) (front : Option Front) (behind : List Tree) → front ≡ None → IsBuilding all left front behind → left ≡ [] → (tree : Tree) → ¬ AreNodesOf all tree
built_nothing all left front behind missing s none =
    let nothing = nothing_there behind s.done (subst (λ (f : Option Front). AreBuilt f behind s.done) missing s.built) in
    no_tree all (Some 0) (ap trees_in (all_done all left s.done s.split none ∙ nothing)) (λ e. cc)

pub built_many : (all left : List TreeItem) (given : Option Front) (front : Front) (behind : List Tree) → given ≡ Some front → IsBuilding all left given behind → left ≡ [] → behind ≢ [] → (tree : Tree) → ¬ AreNodesOf all tree
built_many all left given front behind is s none some =
    let count = built_count front behind s.done (subst (λ (f : Option Front). AreBuilt f behind s.done) is s.built) in
    no_tree all (Some (suc (length behind))) (ap trees_in (all_done all left s.done s.split none) ∙ count)
    (λ e. some (nil_from_length behind (let same : suc (length behind) ≡ 1 = cc in omega arith)))
