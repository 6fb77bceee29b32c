-- Where a tree refutes parts, no order that keeps the sides taken explains them.
use Rattle.std.proofs.Common.{◌⊎◌, List, [], ◌∷◌, subst, inl, inr, zero, suc, arith}
use Rattle.list_lemmas.specs.Precedes.{Precedes}
use Rattle.txn.specs.declared.transactions.TxnId.{TxnId}
use Rattle.txn.specs.declared.choices.ForceStep.{ForceStep}
use Rattle.txn.specs.declared.choices.Side.{Side}
use Rattle.txn.specs.declared.choices.Side.TheVariants.{First, Second}
use Rattle.txn.specs.Choices.{first_side, second_side}
use Rattle.order_check.specs.declared.remainder.Parts.{Parts}
use Rattle.order_check.specs.Cycles.{Sides, side_taken, side_not_taken, AreForced, sides_after}
use Rattle.order_check.specs.Explains.{Explains}
use Rattle.order_check.specs.Known.{IsChoice}
use Rattle.order_check.specs.Based.{HasGoneBase}
use Rattle.order_check.specs.TakenSides.{KeepsSides}
use Rattle.order_check.specs.TakenLaws.{TakesSides, CycleOfArcsLeavesNone, BadReadLeavesNone}
use Rattle.refutation.specs.declared.trees.Leaf.{Leaf}
use Rattle.refutation.specs.declared.trees.Leaf.TheVariants.{Cycle, NoWrite, Gone}
use Rattle.refutation.specs.declared.trees.Tree.{Tree, Close, Force', Split'}
use Rattle.refutation.specs.Refutes.{IsClosed, Refutes}

-- the laws that the crate below shows
pub record Laws : Type 0 where
  pub sides : TakesSides
  pub cycle : CycleOfArcsLeavesNone
  pub bad_read : BadReadLeavesNone

keeps_more : (order : List TxnId) (side : TxnId × TxnId) (taken : Sides) → Precedes order side.0 side.1 → KeepsSides order taken → KeepsSides order (side ∷ taken)
keeps_more order side taken here keeps a b (zero, within, is) = subst (λ (p : TxnId × TxnId). Precedes order p.0 p.1) is here
keeps_more order side taken here keeps a b (suc k, within, is) = keeps a b (k, omega arith, is)

-- the order keeps one of the sides of a step
step_sides : (laws : Laws) (parts : Parts) (order : List TxnId) (step : ForceStep) → Explains parts order → IsChoice parts step.choice → Precedes order (side_taken step).0 (side_taken step).1 ⊎ Precedes order (side_not_taken step).0 (side_not_taken step).1
step_sides laws parts order step h is = by_side step.side (laws.sides parts order step.choice h is)
  where
    by_side : (side : Side) → Precedes order step.choice.other step.choice.writer ⊎ Precedes order step.choice.reader step.choice.other → (let s : ForceStep = record { choice = step.choice; side = side; cycle = step.cycle } in Precedes order (side_taken s).0 (side_taken s).1 ⊎ Precedes order (side_not_taken s).0 (side_not_taken s).1)
    by_side First (inl a) = inl a
    by_side First (inr b) = inr b
    by_side Second (inl a) = inr a
    by_side Second (inr b) = inl b

-- an order that keeps the sides taken keeps those that are forced
keeps_forced : (laws : Laws) (parts : Parts) (order : List TxnId) (taken : Sides) (steps : List ForceStep) → HasGoneBase parts → Explains parts order → KeepsSides order taken → AreForced parts taken steps → KeepsSides order (sides_after taken steps)
keeps_forced laws parts order taken [] gone h keeps forced = keeps
keeps_forced laws parts order taken (step ∷ steps) gone h keeps (here, more) = keeps_forced laws parts order (side_taken step ∷ taken) steps gone h (keeps_more order (side_taken step) taken takes keeps) more
  where
    by_side : Precedes order (side_taken step).0 (side_taken step).1 ⊎ Precedes order (side_not_taken step).0 (side_not_taken step).1 → Precedes order (side_taken step).0 (side_taken step).1
    by_side (inl yes') = yes'
    by_side (inr other) = absurd (laws.cycle parts (side_not_taken step ∷ taken) order step.cycle gone here.1 (keeps_more order (side_not_taken step) taken other keeps) h)

    takes : Precedes order (side_taken step).0 (side_taken step).1
    takes = by_side (step_sides laws parts order step h here.0)

leaf_none : (laws : Laws) (parts : Parts) (order : List TxnId) (taken : Sides) (leaf : Leaf) → HasGoneBase parts → KeepsSides order taken → IsClosed parts taken leaf → ¬ Explains parts order
leaf_none laws parts order taken (Cycle arcs) gone keeps closed = laws.cycle parts taken order arcs gone closed keeps
leaf_none laws parts order taken (NoWrite reader key) gone keeps closed = laws.bad_read parts order (reader, key, inl closed)
leaf_none laws parts order taken (Gone reader key) gone keeps closed = laws.bad_read parts order (reader, key, inr closed)

pub refuted_none : (laws : Laws) (parts : Parts) (order : List TxnId) (tree : Tree) (taken : Sides) → HasGoneBase parts → Refutes parts tree taken → KeepsSides order taken → ¬ Explains parts order
refuted_none laws parts order (Close leaf) taken gone right keeps h = leaf_none laws parts order taken leaf gone keeps right h
refuted_none laws parts order (Force' steps p rest) taken gone right keeps h = refuted_none laws parts order rest (sides_after taken steps) gone right.1 (keeps_forced laws parts order taken steps gone h keeps right.0) h
refuted_none laws parts order (Split' choice p first q second) taken gone right keeps h =
    by_side (laws.sides parts order choice h right.0)
    (λ keeps. refuted_none laws parts order first (first_side choice ∷ taken) gone right.1 keeps h)
    (λ keeps. refuted_none laws parts order second (second_side choice ∷ taken) gone right.2 keeps h)
  where
    by_side : Precedes order choice.other choice.writer ⊎ Precedes order choice.reader choice.other → (KeepsSides order (first_side choice ∷ taken) → ⊥) → (KeepsSides order (second_side choice ∷ taken) → ⊥) → ⊥
    by_side (inl a) one two = one (keeps_more order (first_side choice) taken a keeps)
    by_side (inr b) one two = two (keeps_more order (second_side choice) taken b keeps)
