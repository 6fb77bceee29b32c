use Rattle.std.proofs.Common.{◌≡◌, true, ◌||◌, [], ◌∷◌, refl, sym, subst, lit<, arith, ◌⊎◌, inl, inr}
use Rattle.std.proofs.lemmas.Bool.{or_cases}
use Rattle.std.proofs.lemmas.List.Elements.{All-cons, All-nil}
use Rattle.txn.specs.declared.choices.Choice.{Choice}
use Rattle.order_check.specs.Known.{Known, IsOpen, by_session, forces_after, forces_before}
use Rattle.order_check.specs.Rows.{id, fresh, two_writers, two_writers_read, open_choice}
use Rattle.order_check.proofs.KnownPairs.{same_choice, same_choice_is, open_by_test, open_in, Pairs, Covers, choice_by_test, each_choice}
use Rattle.order_check.proofs.Fresh.{no_base, fresh_last}
use Rattle.order_check.proofs.facts.row_open_choice.Goals as goal

-- all that is known before 0.1 comes
pairs : Pairs
pairs = (id 0 0, id 2 0) ∷ []

covers : Covers (fresh two_writers) no_base pairs
unfolding pairs
covers = record { gone = fresh_last two_writers; session = refl; read = refl; from_base = refl; transitive = refl; forced = refl }

is_open : IsOpen (fresh two_writers) [] open_choice
unfolding pairs
is_open = open_by_test (fresh two_writers) no_base pairs covers open_choice (choice_by_test (fresh two_writers) open_choice (0, lit< tt, refl) refl refl refl refl) refl refl refl refl

pub returns-clause-open_choices : goal.returns-clause-open_choices
returns-clause-open_choices c = record {
  rise = λ k d within. absurd (omega arith);
  each = All-cons (IsOpen (fresh two_writers) []) open_choice [] is_open (All-nil (IsOpen (fresh two_writers) []));
  all = open_in (fresh two_writers) (open_choice ∷ []) refl;
}

-- the choice of who read key 5 from 1.0
abbrev forced_choice : Choice
forced_choice = record { reader = id 0 1; key = 5; writer = id 1 0; other = id 0 0 }

-- 0.0 comes before 0.1, so before 1.0
writers : Known (fresh two_writers_read) [] (id 0 0) (id 1 0)
writers =
    forces_before forced_choice (choice_by_test (fresh two_writers_read) forced_choice (0, lit< tt, refl) refl refl refl refl)
    (by_session {a = id 0 0} {b = id 0 1} refl refl refl (lit< tt))

pub returns-clause-known : goal.returns-clause-known
returns-clause-known c = forces_after open_choice (choice_by_test (fresh two_writers_read) open_choice (0, lit< tt, refl) refl refl refl refl) writers

none : (choice : Choice) → ¬ IsOpen (fresh two_writers_read) [] choice
none choice open_one = by_case (or_cases (same_choice open_choice choice) (same_choice forced_choice choice) (each_choice (fresh two_writers_read) (λ one. same_choice open_choice one || same_choice forced_choice one) refl choice open_one.choice_of))
  where
    by_case : (same_choice open_choice choice ≡ true) ⊎ (same_choice forced_choice choice ≡ true) → ⊥
    by_case (inl first) = let is = same_choice_is open_choice choice first in (subst (IsOpen (fresh two_writers_read) []) (sym is) open_one).writer_other writers
    by_case (inr second) = let is = same_choice_is forced_choice choice second in (subst (IsOpen (fresh two_writers_read) []) (sym is) open_one).other_writer writers

pub returns-clause-none_open : goal.returns-clause-none_open
returns-clause-none_open c = record {
  rise = λ k d within. absurd (omega arith);
  each = λ k d within. absurd (omega arith);
  all = λ choice open_one. absurd (none choice open_one);
}
