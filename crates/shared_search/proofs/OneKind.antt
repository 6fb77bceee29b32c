-- All answers that the cubes of a problem come to are of one kind.
use Rattle.std.proofs.Common.{◌≡◌, ℕ, inl, inr, refl, []}
use Rattle.order_check.specs.Search.{Outcome, has_order, no_order, used_up}
use Rattle.order_check.specs.SearchLaws.{ScansFindOne}
use Rattle.refutation.specs.Joining.{cube_sides}
use Rattle.polygraph.specs.ProblemState.{ProblemState}
use Rattle.polygraph.specs.declared.solving.Answer.TheVariants.{Yes, No, Spent, NoMemory}
use Rattle.polygraph.specs.Outcomes.{split_choices, share_of, Finds, IsLeastYes, ComesTo}
use Rattle.shared_search.specs.Laws.{both_yes, both_no, both_spent, PickedHasOneKind}

finds_one : (law : ScansFindOne) (problem : ProblemState) (depth share cube : ℕ) (one other : Outcome) → Finds problem depth share cube one → Finds problem depth share cube other → one ≡ other
finds_one law problem depth share cube one other (left, a) (rest, b) = (law problem.known.parts (cube_sides (split_choices problem depth) cube []) share left rest one other a b).0

-- a cube with an order, where none has one
yes_or_no : (law : ScansFindOne) (problem : ProblemState) (depth share cube : ℕ) → IsLeastYes problem depth share cube → ComesTo problem depth share no_order → ⊥
yes_or_no law problem depth share cube least none = let e = finds_one law problem depth share cube has_order no_order least.found (none cube least.within) in absurd cc

-- a cube with an order, where some cube is used up and none has one
yes_or_spent : (problem : ProblemState) (depth share cube : ℕ) → IsLeastYes problem depth share cube → ComesTo problem depth share used_up → ⊥
yes_or_spent problem depth share cube least (spent, below, finds, none) = none cube least.within least.found

-- a cube that is used up, where none has an order
no_or_spent : (law : ScansFindOne) (problem : ProblemState) (depth share : ℕ) → ComesTo problem depth share no_order → ComesTo problem depth share used_up → ⊥
no_or_spent law problem depth share all (spent, below, finds, none) = let e = finds_one law problem depth share spent used_up no_order finds (all spent below) in absurd cc

pub one_kind : (law : ScansFindOne) → PickedHasOneKind
one_kind law problem budget depth NoMemory other a b = inl refl
one_kind law problem budget depth (Yes order) NoMemory a b = inr (inl refl)
one_kind law problem budget depth (No tree) NoMemory a b = inr (inl refl)
one_kind law problem budget depth Spent NoMemory a b = inr (inl refl)
one_kind law problem budget depth (Yes order) (Yes other) a b = inr (inr (both_yes order other))
one_kind law problem budget depth (No tree) (No other) a b = inr (inr (both_no tree other))
one_kind law problem budget depth Spent Spent a b = inr (inr both_spent)
one_kind law problem budget depth (Yes order) (No tree) a b = absurd (yes_or_no law problem depth (share_of problem budget depth) a.1.0 a.1.1 b.1)
one_kind law problem budget depth (No tree) (Yes order) a b = absurd (yes_or_no law problem depth (share_of problem budget depth) b.1.0 b.1.1 a.1)
one_kind law problem budget depth (Yes order) Spent a b = absurd (yes_or_spent problem depth (share_of problem budget depth) a.1.0 a.1.1 b)
one_kind law problem budget depth Spent (Yes order) a b = absurd (yes_or_spent problem depth (share_of problem budget depth) b.1.0 b.1.1 a)
one_kind law problem budget depth (No tree) Spent a b = absurd (no_or_spent law problem depth (share_of problem budget depth) a.1 b)
one_kind law problem budget depth Spent (No tree) a b = absurd (no_or_spent law problem depth (share_of problem budget depth) b.1 a)
