-- Trees in a line, and in a reply, which names transactions by either names: the list of a tree's items.
use Rattle.std.specs.Prelude.{◌≡◌, ◌≢◌, ℕ, ⊤, List, [], ◌∷◌, ◌++◌, Option, Some, None, bytes_eq, codes, map, nat_eq, option_and_then, option_map, if◌then◌else◌}
use Rattle.serde_json.specs.Data.{Data, string, Items, no_items, item}
use Rattle.txn.specs.declared.transactions.TxnId.{TxnId}
use Rattle.txn.specs.declared.choices.Arc.{Arc}
use Rattle.txn.specs.declared.choices.Arc.TheVariants.{Session, Read, Base, Taken}
use Rattle.txn.specs.declared.choices.Choice.{Choice}
use Rattle.txn.specs.declared.choices.ForceStep.{ForceStep}
use Rattle.txn.specs.declared.choices.Side.{Side}
use Rattle.txn.specs.declared.choices.Side.TheVariants.{First, Second}
use Rattle.refutation.specs.declared.trees.Leaf.TheVariants.{Cycle, NoWrite, Gone}
use Rattle.refutation.specs.declared.trees.Tree.{Tree, Close, Force', Split'}
use Rattle.log_text.specs.declared.tree_items.TreeItem.{TreeItem}
use Rattle.log_text.specs.declared.tree_items.TreeItem.TheVariants as node
use Rattle.log_text.specs.Items.{array_of, list_of, with_both, one_item, three_items}
use Rattle.log_text.specs.Named.{half_at, id_at, key_read}
use Rattle.log_text.specs.Numbers.{whole_number}
use Rattle.log_text.specs.declared.names.Names.{Names}
use Rattle.log_text.specs.declared.names.Names.TheVariants.{Ids, Events}

-- a choice: the reader, the key that it has read, the writer, the other writer
abbrev pub choice_with : Names → Option TxnId → Option ℕ → Option TxnId → Option TxnId → Option Choice
choice_with names (Some reader) (Some key) (Some writer) (Some other) = option_map (λ k. record { reader = reader; key = k; writer = writer; other = other }) (key_read names reader key)
choice_with names reader key writer other = None

abbrev pub choice_in : Names → Items → Option Choice
choice_in Ids (item rs (item rn (item key (item ws (item wn (item os (item on no_items))))))) = choice_with Ids (id_at rs rn) (whole_number key) (id_at ws wn) (id_at os on)
choice_in Events (item rs (item rn (item rw (item key (item ws (item wn (item ww (item os (item on (item ow no_items)))))))))) =
    choice_with Events (half_at rs rn rw) (whole_number key) (half_at ws wn ww) (half_at os on ow)
choice_in names items = None

abbrev pub choice_of : Names → Data → Option Choice
choice_of names = array_of (choice_in names)

-- a side, by its number
abbrev pub side_numbered : ℕ → Option Side
side_numbered n = if nat_eq n 1 then Some First else (if nat_eq n 2 then Some Second else None)

abbrev pub side_of : Data → Option Side
side_of given = option_and_then side_numbered (whole_number given)

-- an arc's start and end
abbrev pub ends_in : Names → Items → Option (TxnId × TxnId)
ends_in Ids (item fs (item fn (item ts (item tn no_items)))) = with_both (λ from to. (from, to)) (id_at fs fn) (id_at ts tn)
ends_in Events (item fs (item fn (item fw (item ts (item tn (item tw no_items)))))) = with_both (λ from to. (from, to)) (half_at fs fn fw) (half_at ts tn tw)
ends_in names items = None

-- the same behind a key, as it is told
abbrev pub keyed_ends_in : Names → Items → Option (ℕ × (TxnId × TxnId))
keyed_ends_in names (item key ends) = with_both (λ k e. (k, e)) (whole_number key) (ends_in names ends)
keyed_ends_in names no_items = None

-- the end of an arc has read the key from its start; or the start has read it as it was before everything that remains
abbrev pub read_arc : Names → ℕ × (TxnId × TxnId) → Option Arc
read_arc names e = option_map (λ key. Read key e.1.0 e.1.1) (key_read names e.1.1 e.0)

abbrev pub base_arc : Names → ℕ × (TxnId × TxnId) → Option Arc
base_arc names e = option_map (λ key. Base key e.1.0 e.1.1) (key_read names e.1.0 e.0)

-- the arc of this word
abbrev pub arc_named : Names → List ℕ → Items → Option Arc
arc_named names name parts =
    if bytes_eq name (codes "session") then option_map (λ (e : TxnId × TxnId). Session e.0 e.1) (ends_in names parts)
    else (if bytes_eq name (codes "read") then option_and_then (read_arc names) (keyed_ends_in names parts)
    else (if bytes_eq name (codes "base") then option_and_then (base_arc names) (keyed_ends_in names parts)
    else (if bytes_eq name (codes "taken") then option_map (λ (e : TxnId × TxnId). Taken e.0 e.1) (ends_in names parts)
    else None)))

abbrev pub arc_in : Names → Items → Option Arc
arc_in names (item (string name) parts) = arc_named names name parts
arc_in names items = None

abbrev pub arc_of : Names → Data → Option Arc
arc_of names = array_of (arc_in names)

-- a forced step: the choice, the side that is taken, and the cycle that the other one would close
abbrev pub step_in : Names → Items → Option ForceStep
step_in names = three_items (λ choice side cycle. record { choice = choice; side = side; cycle = cycle }) (choice_of names) side_of (list_of (arc_of names))

-- a reader, and the key that it has read
abbrev pub reader_with : Names → Option TxnId → Option ℕ → Option (TxnId × ℕ)
reader_with names (Some reader) (Some key) = option_map (λ k. (reader, k)) (key_read names reader key)
reader_with names reader key = None

abbrev pub reader_in : Names → Items → Option (TxnId × ℕ)
reader_in Ids (item session (item place (item key no_items))) = reader_with Ids (id_at session place) (whole_number key)
reader_in Events (item session (item place (item word (item key no_items)))) = reader_with Events (half_at session place word) (whole_number key)
reader_in names items = None

-- the item of this word
abbrev pub node_named : Names → List ℕ → Items → Option TreeItem
node_named names name parts =
    if bytes_eq name (codes "force") then option_map node.Force (step_in names parts)
    else (if bytes_eq name (codes "split") then one_item node.Split (choice_of names) parts
    else (if bytes_eq name (codes "cycle") then one_item (λ arcs. node.Close (Cycle arcs)) (list_of (arc_of names)) parts
    else (if bytes_eq name (codes "nowrite") then option_map (λ (r : TxnId × ℕ). node.Close (NoWrite r.0 r.1)) (reader_in names parts)
    else (if bytes_eq name (codes "gone") then option_map (λ (r : TxnId × ℕ). node.Close (Gone r.0 r.1)) (reader_in names parts)
    else None))))

abbrev pub node_in : Names → Items → Option TreeItem
node_in names (item (string name) parts) = node_named names name parts
node_in names items = None

abbrev pub node_of : Names → Data → Option TreeItem
node_of names = array_of (node_in names)

-- a tree's items: a leaf is one item, forced steps are one each before the rest's, and a split is one before both halves', the first half's
-- first
abbrev pub nodes_of : Tree → List TreeItem
nodes_of (Close leaf) = node.Close leaf ∷ []
nodes_of (Force' steps p rest) = map node.Force steps ++ nodes_of rest
nodes_of (Split' choice p first q second) = node.Split choice ∷ (nodes_of first ++ nodes_of second)

abbrev pub IsNoForce : Tree → Type 0
IsNoForce (Force' steps p rest) = ⊥
IsNoForce tree = ⊤

-- Forced steps that follow one another are one node: none is empty, and none stands right below another.
abbrev pub IsMerged : Tree → Type 0
IsMerged (Close leaf) = ⊤
IsMerged (Force' steps p rest) = (steps ≢ []) × IsNoForce rest × IsMerged rest
IsMerged (Split' choice p first q second) = IsMerged first × IsMerged second

-- these are the tree's items
abbrev pub AreNodesOf : List TreeItem → Tree → Type 0
AreNodesOf nodes tree = (nodes ≡ nodes_of tree) × IsMerged tree

-- the data are a list of the tree's items; the text doesn't tell how its steps were parted, and they are read as merged
pub record IsTree (names : Names) (said : Data) (tree : Tree) : Type 0 where
  pub nodes : list_of (node_of names) said ≡ Some (nodes_of tree)
  pub merged : IsMerged tree
