-- What refutes parts has nothing to do with their flags.
use Rattle.std.proofs.Common.{◌≡◌, ◌↔◌, ℕ, Bool, not, List, [], ◌∷◌, map, refl, sym, subst, IsTrue}
use Rattle.txn.specs.declared.transactions.TxnId.{TxnId}
use Rattle.txn.specs.declared.transactions.Source.{Source}
use Rattle.txn.specs.declared.transactions.Source.TheVariants.{Init, By}
use Rattle.txn.specs.declared.choices.Arc.{Arc}
use Rattle.txn.specs.declared.choices.Arc.TheVariants.{Session, Read, Base, Taken}
use Rattle.txn.specs.declared.choices.Choice.{Choice}
use Rattle.txn.specs.declared.choices.ForceStep.{ForceStep}
use Rattle.txn.specs.Arcs.{start_of, end_of}
use Rattle.txn.specs.Choices.{first_side, second_side}
use Rattle.order_check.specs.declared.remainder.Parts.{Parts}
use Rattle.order_check.specs.BadReads.{IsSilent, IsOverwritten}
use Rattle.order_check.specs.Based.{received_counts}
use Rattle.order_check.specs.CountedFronts.{AreFrontCounts, KeptFrontsAreCounted, front_at, front_of}
use Rattle.order_check.specs.Cycles.{Sides, IsArc, IsPath, IsCycle, side_taken, side_not_taken, AreForced, sides_after}
use Rattle.order_check.specs.FrontLaws.{FrontOfItself}
use Rattle.order_check.specs.Good.{IsGood}
use Rattle.order_check.specs.Known.{IsBaseSource, IsChoice}
use Rattle.refutation.specs.declared.trees.Leaf.{Leaf}
use Rattle.refutation.specs.declared.trees.Leaf.TheVariants.{Cycle, NoWrite, Gone}
use Rattle.refutation.specs.declared.trees.Tree.{Tree, Close, Force', Split'}
use Rattle.refutation.specs.Refutes.{IsClosed, Refutes, IsRefutation}

-- parts with these flags
abbrev flagged : Parts → List Bool → Parts
flagged parts closed = record parts { closed = closed }

base_flagged : (parts : Parts) (a b : List Bool) (key : ℕ) (source : Source) → IsBaseSource (flagged parts a) key source → IsBaseSource (flagged parts b) key source
base_flagged parts a b key Init is = is
base_flagged parts a b key (By writer) is = is

silent_flagged : (parts : Parts) (a b : List Bool) (key : ℕ) (source : Source) → IsSilent (flagged parts a) key source → IsSilent (flagged parts b) key source
silent_flagged parts a b key Init is = is
silent_flagged parts a b key (By writer) is = is

overwritten_flagged : (parts : Parts) (a b : List Bool) (key : ℕ) (source : Source) → IsOverwritten (flagged parts a) key source → IsOverwritten (flagged parts b) key source
overwritten_flagged parts a b key Init is = is
overwritten_flagged parts a b key (By writer) is = is

arc_flagged : (parts : Parts) (a b : List Bool) (taken : Sides) (arc : Arc) → IsArc (flagged parts a) taken arc → IsArc (flagged parts b) taken arc
arc_flagged parts a b taken (Session from to) right = right
arc_flagged parts a b taken (Read key from to) right = right
arc_flagged parts a b taken (Base key from to) ((source, reads, is), written, apart) = ((source, reads, base_flagged parts a b key source is), written, apart)
arc_flagged parts a b taken (Taken from to) right = right

path_flagged : (parts : Parts) (a b : List Bool) (taken : Sides) (start : TxnId) (arcs : List Arc) (goal : TxnId) → IsPath (flagged parts a) taken start arcs goal → IsPath (flagged parts b) taken start arcs goal
path_flagged parts a b taken start [] goal h = h
path_flagged parts a b taken start (arc ∷ arcs) goal (begins, right, rest) = (begins, arc_flagged parts a b taken arc right, path_flagged parts a b taken (end_of arc) arcs goal rest)

cycle_flagged : (parts : Parts) (a b : List Bool) (taken : Sides) (arcs : List Arc) → IsCycle (flagged parts a) taken arcs → IsCycle (flagged parts b) taken arcs
cycle_flagged parts a b taken [] h = h
cycle_flagged parts a b taken (arc ∷ arcs) h = path_flagged parts a b taken (start_of arc) (arc ∷ arcs) (start_of arc) h

choice_flagged : (parts : Parts) (a b : List Bool) (choice : Choice) → IsChoice (flagged parts a) choice → IsChoice (flagged parts b) choice
choice_flagged parts a b choice is = record { reads = is.reads; written = is.written; other = is.other; not_writer = is.not_writer; not_reader = is.not_reader }

forced_flagged : (parts : Parts) (a b : List Bool) (taken : Sides) (steps : List ForceStep) → AreForced (flagged parts a) taken steps → AreForced (flagged parts b) taken steps
forced_flagged parts a b taken [] h = h
forced_flagged parts a b taken (step ∷ steps) ((is, cycle), rest) = ((choice_flagged parts a b step.choice is, cycle_flagged parts a b (side_not_taken step ∷ taken) step.cycle cycle), forced_flagged parts a b (side_taken step ∷ taken) steps rest)

leaf_flagged : (parts : Parts) (a b : List Bool) (taken : Sides) (leaf : Leaf) → IsClosed (flagged parts a) taken leaf → IsClosed (flagged parts b) taken leaf
leaf_flagged parts a b taken (Cycle arcs) h = cycle_flagged parts a b taken arcs h
leaf_flagged parts a b taken (NoWrite reader key) (source, reads, is) = (source, reads, silent_flagged parts a b key source is)
leaf_flagged parts a b taken (Gone reader key) (source, reads, is) = (source, reads, overwritten_flagged parts a b key source is)

refutes_flagged : (parts : Parts) (a b : List Bool) (tree : Tree) (taken : Sides) → Refutes (flagged parts a) tree taken → Refutes (flagged parts b) tree taken
refutes_flagged parts a b (Close leaf) taken h = leaf_flagged parts a b taken leaf h
refutes_flagged parts a b (Force' steps p rest) taken h = (forced_flagged parts a b taken steps h.0, refutes_flagged parts a b rest (sides_after taken steps) h.1)
refutes_flagged parts a b (Split' choice p first q second) taken h = (choice_flagged parts a b choice h.0, refutes_flagged parts a b first (first_side choice ∷ taken) h.1, refutes_flagged parts a b second (second_side choice ∷ taken) h.2)

refuted_flagged : (parts : Parts) (a b : List Bool) (tree : Tree) → IsRefutation (flagged parts a) tree → IsRefutation (flagged parts b) tree
refuted_flagged parts a b tree is = record { right = refutes_flagged parts a b tree [] is.right; shallow = is.shallow }

-- whichever sessions are open in the front
pub front_refuted : (parts front : Parts) (counts : List ℕ) (tree : Tree) (found : Bool) → front ≡ front_of parts counts → IsTrue found ↔ IsRefutation front tree → (live : List Bool) → IsTrue found ↔ IsRefutation (front_at parts counts live) tree
front_refuted parts front counts tree found e is live =
    let same : IsTrue found ↔ IsRefutation (front_of parts counts) tree = subst (λ (p : Parts). IsTrue found ↔ IsRefutation p tree) e is in (
      λ h. refuted_flagged (front_of parts counts) parts.closed (map not live) tree (same.0 h),
      λ h. same.1 (refuted_flagged (front_of parts counts) (map not live) parts.closed tree h),
    )

-- the front of all that was received is the whole

pub whole_refuted : (parts : Parts) (counts : List ℕ) (tree : Tree) (found : Bool) → FrontOfItself → KeptFrontsAreCounted → IsGood parts → counts ≡ received_counts parts → ((live : List Bool) → IsTrue found ↔ IsRefutation (front_at parts counts live) tree) → IsTrue found ↔ IsRefutation parts tree
whole_refuted parts counts tree found itself counted good e is =
    subst (λ (p : Parts). IsTrue found ↔ IsRefutation p tree) (counted parts parts (itself parts) refl refl good good).same
    (subst (λ (all : List ℕ). IsTrue found ↔ IsRefutation (front_at parts all (map not parts.closed)) tree) e (is (map not parts.closed)))

pub all_counts : (parts : Parts) (counts : List ℕ) → FrontOfItself → KeptFrontsAreCounted → IsGood parts → counts ≡ received_counts parts → AreFrontCounts parts counts
all_counts parts counts itself counted good e = subst (λ (all : List ℕ). AreFrontCounts parts all) (sym e) (counted parts parts (itself parts) refl refl good good).counts
