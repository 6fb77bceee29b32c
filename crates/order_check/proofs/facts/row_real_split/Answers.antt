use Rattle.std.proofs.Common.{List, [], ◌∷◌, refl, lit<, arith, zero, suc}
use Rattle.std.proofs.lemmas.List.Elements.{All-from_recursion}
use Rattle.txn.specs.declared.choices.Choice.{Choice}
use Rattle.txn.specs.Choices.{choice_below}
use Rattle.txn.specs.Transactions.{Rises}
use Rattle.order_check.specs.declared.remainder.Parts.{Parts}
use Rattle.order_check.specs.Known.{IsOpen}
use Rattle.order_check.specs.Rows.{id, fresh, real_split, split_choice}
use Rattle.order_check.proofs.KnownPairs.{Pairs, Covers, choice_by_test, open_by_test, open_in, no_cycle_by_test}
use Rattle.order_check.proofs.Fresh.{no_base, fresh_last, whole_refuted}
use Rattle.order_check.proofs.facts.row_real_split.Goals as goal

abbrev parts : Parts
parts = fresh real_split

-- all that is known: each writer comes before who reads from it
abbrev pairs : Pairs
pairs =
    (id 0 0, id 4 0) ∷ (id 2 0, id 4 0) ∷ (id 3 0, id 4 0)
    ∷ (id 1 0, id 5 0) ∷ (id 2 0, id 5 0) ∷ (id 3 0, id 5 0)
    ∷ (id 2 0, id 6 0) ∷ (id 0 0, id 6 0) ∷ (id 1 0, id 6 0)
    ∷ (id 3 0, id 7 0) ∷ (id 0 0, id 7 0) ∷ (id 1 0, id 7 0)
    ∷ []

covers : Covers parts no_base pairs
covers = record { gone = fresh_last real_split; session = refl; read = refl; from_base = refl; transitive = refl; forced = refl }

first : IsOpen parts [] (split_choice 4 1 0 1)
first = open_by_test parts no_base pairs covers (split_choice 4 1 0 1) (choice_by_test parts (split_choice 4 1 0 1) (0, lit< tt, refl) refl refl refl refl) refl refl refl refl

second : IsOpen parts [] (split_choice 5 1 1 0)
second = open_by_test parts no_base pairs covers (split_choice 5 1 1 0) (choice_by_test parts (split_choice 5 1 1 0) (0, lit< tt, refl) refl refl refl refl) refl refl refl refl

third : IsOpen parts [] (split_choice 6 2 2 3)
third = open_by_test parts no_base pairs covers (split_choice 6 2 2 3) (choice_by_test parts (split_choice 6 2 2 3) (0, lit< tt, refl) refl refl refl refl) refl refl refl refl

fourth : IsOpen parts [] (split_choice 7 2 3 2)
fourth = open_by_test parts no_base pairs covers (split_choice 7 2 3 2) (choice_by_test parts (split_choice 7 2 3 2) (0, lit< tt, refl) refl refl refl refl) refl refl refl refl

abbrev choices : List Choice
choices = split_choice 4 1 0 1 ∷ split_choice 5 1 1 0 ∷ split_choice 6 2 2 3 ∷ split_choice 7 2 3 2 ∷ []

rise : Rises choice_below choices
rise zero d within = refl
rise (suc zero) d within = refl
rise (suc (suc zero)) d within = refl
rise (suc (suc (suc k))) d within = absurd (omega arith)

pub returns-clause-verdict : goal.returns-clause-verdict
returns-clause-verdict c = whole_refuted real_split 9 refl

pub returns-clause-open_choices : goal.returns-clause-open_choices
returns-clause-open_choices c = record {
  rise = rise;
  each = All-from_recursion (IsOpen parts []) choices (first, (second, (third, (fourth, tt))));
  all = open_in parts choices refl;
}

pub returns-clause-no_cycle : goal.returns-clause-no_cycle
returns-clause-no_cycle c = no_cycle_by_test parts no_base pairs covers refl
