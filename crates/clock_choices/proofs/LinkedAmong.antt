-- Who is linked with each other one of some runs is known to come before or after each of their ids.
use Rattle.std.proofs.Common.{◌≡◌, ◌≢◌, ◌⊎◌, ◌↔◌, ℕ, ◌+◌, ◌<◌, ◌≤◌, List, [], ◌∷◌, ◌++◌, length, get_or, take, refl, sym, subst, inl, inr, arith, Contains, All}
use Rattle.std.proofs.lemmas.Bool.{cases_lt}
use Rattle.std.proofs.lemmas.List.{take_more}
use Rattle.std.proofs.lemmas.List.Elements.{All-contains, Contains-get_or, Contains-append_left, Contains-push, Contains-push_cases}
use Rattle.std.proofs.lemmas.List.Sorted.{Contains-permutation, IsPermutation-sym}
use Rattle.std.specs.List.Sorted.{IsPermutation}
use Rattle.txn.specs.declared.transactions.TxnId.{TxnId}
use Rattle.txn.proofs.Ids.{same_or_not}
use Rattle.order_check.specs.declared.remainder.Parts.{Parts}
use Rattle.order_check.specs.Based.{Remains}
use Rattle.order_check.specs.Known.{Known}
use Rattle.session_clocks.specs.Reach.{IsThere}
use Rattle.clock_choices.specs.declared.runs.Run.{Run}
use Rattle.clock_choices.specs.Adds.{Adds}
use Rattle.clock_choices.specs.Index.{IsInRuns, IsRunThere}
use Rattle.clock_choices.specs.OrderedAmong.{AreOrdered, IsOrderedAmong}
use Rattle.clock_choices.specs.Over.{IsOver}
use Rattle.clock_choices.specs.Picks.{AreRunsOfIds, IsLinkedWithAll, IsLinkedWithRun}
use Rattle.clock_choices.specs.Runs.{IsThird, IsFirstThird}
use Rattle.clock_choices.specs.Writers.{AreRuns, IsRun}
use Rattle.clock_choices.proofs.RemainingIds.{session_within}
use Rattle.clock_choices.proofs.There.{remains_there}
use Rattle.clock_choices.proofs.WriterLists.{no_runs}

-- no ids are in no runs
pub runs_of_none : AreRunsOfIds [] []
runs_of_none = record { are = no_runs; ids_in = λ id. ((λ found. absurd (omega (arith, found.1.1))), (λ there. absurd (omega (arith, there.1)))) }

-- one more id is put in
pub runs_of_more : (ids : List TxnId) (k : ℕ) (d : TxnId) (old new : List Run) → k < length ids → AreRunsOfIds (take k ids) old → AreRuns new → Adds (IsInRuns old) (IsInRuns new) (λ other. other ≡ get_or ids k d) → AreRunsOfIds (take (k + 1) ids) new
runs_of_more ids k d old new within were are adds = subst (λ (front : List TxnId). AreRunsOfIds front new) (sym (take_more ids k d within)) (record { are = are; ids_in = λ id. (down id, up id) })
  where
    one : TxnId
    one = get_or ids k d

    down : (id : TxnId) → IsInRuns new id → Contains (take k ids ++ one ∷ []) id
    down id found = elim (adds.each id found) [
      | inl was ↦ Contains-append_left (take k ids) (one ∷ []) id ((were.ids_in id).0 was)
      | inr same ↦ subst (λ (x : TxnId). Contains (take k ids ++ one ∷ []) x) (sym same) (Contains-push (take k ids) one)
    ]

    up : (id : TxnId) → Contains (take k ids ++ one ∷ []) id → IsInRuns new id
    up id there = elim (Contains-push_cases (take k ids) one id there) [
      | inl was ↦ adds.stay id ((were.ids_in id).1 was)
      | inr same ↦ adds.all id (sym same)
    ]

-- ids in another order are the same ids
pub runs_of_moved : (ids moved : List TxnId) (runs : List Run) → IsPermutation ids moved → AreRunsOfIds moved runs → AreRunsOfIds ids runs
runs_of_moved ids moved runs same of = record {
  are = of.are;
  ids_in = λ id. ((λ found. Contains-permutation moved ids id (IsPermutation-sym ids moved same) ((of.ids_in id).0 found)), (λ there. (of.ids_in id).1 (Contains-permutation ids moved id same there)));
}

-- a run's transactions, and how far they reach the one
module _ (gone received : List ℕ) (R : TxnId → TxnId → Type 0) (id : TxnId) (run : Run) (there : IsRunThere gone received run) (before : ℕ) where
  third_there : (other : TxnId) → IsThird run.session run.numbers.items id id other → IsThere gone received other
  third_there other third = subst (λ (s : ℕ). IsThere gone received (record { session = s; number = other.number })) (sym third.same) (there.there other.number third.listed)

  pub all_before : ((other : TxnId) → other.session ≡ run.session → IsThere gone received other → (other.number < before) ↔ R other id) → ((other : TxnId) → IsThird run.session run.numbers.items id id other → other.number < before) → IsLinkedWithRun R id run
  all_before reach_it low other third = inl ((reach_it other third.same (third_there other third)).0 (low other third))

  -- the first one that doesn't reach it
  module _ (after : ℕ) (reach_it : (other : TxnId) → other.session ≡ run.session → IsThere gone received other → (other.number < before) ↔ R other id)
      (are_reached : (other : TxnId) → other.session ≡ run.session → IsThere gone received other → (after ≤ other.number) ↔ R id other) (first : TxnId) (is : IsFirstThird run.session run.numbers.items id id before first) where
    pub others_behind : after ≤ first.number → IsLinkedWithRun R id run
    others_behind high other third = elim (cases_lt other.number before) [
      | inl low ↦ inl ((reach_it other third.same (third_there other third)).0 low)
      | inr up ↦ inr ((are_reached other third.same (third_there other third)).0 (let more = is.each other third up in omega (arith, more, high)))
    ]

    pub first_behind : IsLinkedWithRun R id run → after ≤ first.number
    first_behind linked = elim (linked first is.third) [
      | inl reaches ↦ let low = (reach_it first is.third.same (third_there first is.third)).1 reaches in let up = is.from in absurd (omega (arith, low, up))
      | inr reached ↦ (are_reached first is.third.same (third_there first is.third)).1 reached
    ]

-- runs of what remains are there
pub runs_there : (parts : Parts) (gone received : List ℕ) (ids : List TxnId) (runs : List Run) → IsOver parts gone received → length gone ≡ length parts.remain → AreRunsOfIds ids runs → All (Remains parts) ids → All (IsRunThere gone received) runs
runs_there parts gone received ids runs over width are remain k d within = run_there (get_or runs k d) (Contains-get_or runs k d within) (are.are.each k d within)
  where
    run_there : (run : Run) → Contains runs run → IsRun run → IsRunThere gone received run
    run_there run has of =
        let remains : (number : ℕ) → Contains run.numbers.items number → Remains parts (record { session = run.session; number = number }) = λ number listed.
        All-contains (Remains parts) ids (record { session = run.session; number = number }) remain ((are.ids_in (record { session = run.session; number = number })).0 (run, has, refl, listed)) in
        let number = get_or run.numbers.items 0 0 in
        let one = session_within parts (record { session = run.session; number = number }) (remains number (Contains-get_or run.numbers.items 0 0 of.some)) in
        record {
          session = omega (arith, one, width);
          climbs = of.climbs;
          there = λ number listed. remains_there parts gone received over (record { session = run.session; number = number }) (remains number listed);
        }

-- linked with each is ordered with each
pub linked_ordered : (parts : Parts) (R : TxnId → TxnId → Type 0) (others : List TxnId) (runs : List Run) (id : TxnId) → ((a b : TxnId) → R a b ↔ Known parts [] a b) → AreRunsOfIds others runs → IsLinkedWithAll R runs id ↔ IsOrderedAmong parts others id
linked_ordered parts R others runs id exact are = (down, up)
  where
    known : (other : TxnId) → R other id ⊎ R id other → AreOrdered parts id other
    known other (inl first) = inr (inl ((exact other id).0 first))
    known other (inr second) = inr (inr ((exact id other).0 second))

    ordered : IsLinkedWithAll R runs id → (other : TxnId) → Contains others other → AreOrdered parts id other
    ordered all other listed = elim (same_or_not id other) [
      | inl same ↦ inl same
      | inr apart ↦
          let (run, has, of, number) = (are.ids_in other).1 listed in
          known other (All-contains (IsLinkedWithRun R id) runs run all has other (record { same = sym of; listed = number; not_reader = λ same. apart (sym same); not_writer = λ same. apart (sym same) }))
    ]

    down : IsLinkedWithAll R runs id → IsOrderedAmong parts others id
    down all k d within = ordered all (get_or others k d) (Contains-get_or others k d within)

    linked : (other : TxnId) → other ≢ id → AreOrdered parts id other → R other id ⊎ R id other
    linked other apart (inl same) = absurd (apart (sym same))
    linked other apart (inr (inl first)) = inl ((exact other id).1 first)
    linked other apart (inr (inr second)) = inr ((exact id other).1 second)

    up : IsOrderedAmong parts others id → IsLinkedWithAll R runs id
    up all k d within other third =
        let listed = (are.ids_in other).0 (get_or runs k d, Contains-get_or runs k d within, sym third.same, third.listed) in
        linked other third.not_reader (All-contains (AreOrdered parts id) others other all listed)
