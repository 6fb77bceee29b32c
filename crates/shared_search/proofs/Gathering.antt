-- What is picked of what workers brought, once all of them are joined.
use Rattle.std.proofs.Common.{◌≡◌, ℕ, ◌+◌, ◌<◌, ◌≤◌, ◌⊎◌, inl, inr, ⊎_elim, sym, ap, subst, ◌∙◌, List, [], ◌∷◌, ◌++◌, map, length, get_or, set, slice_get, arith, Bool, true, false, Option, Some, None, IsSome, All, append_assoc, append-nil}
use Rattle.std.proofs.lemmas.Bool.Decides.{nat_tests}
use Rattle.std.proofs.lemmas.List.Elements.{All-head, All-tail}
use mathlib.Core.Logic.{dite}
use native.Mathlib.Decide.{dec_lt}
use Rattle.list_lemmas.specs.Counts.{times}
use Rattle.txn.specs.declared.transactions.TxnId.{TxnId}
use Rattle.refutation.specs.declared.trees.Tree.{Tree}
use Rattle.polygraph.specs.declared.solving.Cube.{Cube}
use Rattle.polygraph.specs.declared.solving.Cube.TheVariants.{Yes, No, Spent}
use Rattle.polygraph.specs.declared.solving.Answer.TheVariants as answers
use Rattle.shared_search.specs.declared.picking.Pick.{Pick}
use Rattle.shared_search.specs.declared.picking.Pick.TheVariants as picks
use Rattle.shared_search.specs.declared.words.View.{View}
use Rattle.shared_search.specs.Counts.{once_below, lowest, nothing}
use Rattle.shared_search.specs.Rule.{Whole}
use Rattle.shared_search.specs.Worked.{is_yes, numbers, found_in, IsTable, Worked}
use Rattle.shared_search.specs.Picks.{first_yes, has_spent, trees, AreOutcomes}
use Rattle.shared_search.specs.Gathered.{IsFilled, IsWalked, Gathered, GatheredOf, NoGap, HasTrees}
use Rattle.shared_search.proofs.Found.{number_at, found_some, found_may, found_yes, table_more, first_there, got_in, at_out, at_end, length-outs, yes-snoc, spent-snoc, trees-snoc, map-snoc, trees_count, lowest_there}

once_is : (x n : ℕ) → x < n → once_below x n ≡ 1
once_is x n h = grind (arith, nat_tests)

once_in : (x n : ℕ) → 0 < once_below x n → x < n
once_in x n h = grind (arith, nat_tests)

once_le : (x n : ℕ) → once_below x n ≤ 1
once_le x n = grind (arith, nat_tests)

-- a table is filled

pub filled_more : (count : ℕ) (all old rest : List (ℕ × Cube)) (e : ℕ × Cube) (table table' : List (Option Cube)) → IsFilled count all old table → old ≡ e ∷ rest → table' ≡ set table e.0 (Some e.1) → IsFilled count all rest table'
filled_more count all old rest e table table' f is more =
    let below : All (λ (d : ℕ × Cube). d.0 < count) (e ∷ rest) = subst (λ l. All (λ (d : ℕ × Cube). d.0 < count) l) is f.below in
    record {
      seen = f.seen ++ e ∷ [];
      split = f.split ∙ ap (λ l. f.seen ++ l) is ∙ sym (append_assoc f.seen (e ∷ []) rest);
      table = subst (λ t. IsTable count (f.seen ++ e ∷ []) t) (sym more) (table_more count f.seen table e f.table (All-head (λ (d : ℕ × Cube). d.0 < count) e rest below));
      below = All-tail (λ (d : ℕ × Cube). d.0 < count) e rest below;
    }

-- the table is walked

split_more : (whole old rest : List (Option Cube)) (outs : List Cube) (c : Cube) → whole ≡ map Some outs ++ old → old ≡ Some c ∷ rest → whole ≡ map Some (outs ++ c ∷ []) ++ rest
split_more whole old rest outs c split is = split ∙ ap (λ l. map Some outs ++ l) is ∙ map-snoc outs c rest

pub walked_no : (whole old rest : List (Option Cube)) (spent : Bool) (found found' : List Tree) (tree : Tree) → IsWalked whole old spent found → old ≡ Some (No tree) ∷ rest → found' ≡ found ++ tree ∷ [] → IsWalked whole rest spent found'
walked_no whole old rest spent found found' tree w is more = record {
  outcomes = w.outcomes ++ No tree ∷ [];
  split = split_more whole old rest w.outcomes (No tree) w.split is;
  none = yes-snoc w.outcomes (No tree) w.none;
  spent_is = w.spent_is ∙ sym (spent-snoc w.outcomes (No tree));
  found_is = more ∙ ap (λ l. l ++ tree ∷ []) w.found_is ∙ sym (trees-snoc w.outcomes (No tree));
}

pub walked_spent : (whole old rest : List (Option Cube)) (spent : Bool) (found : List Tree) → IsWalked whole old spent found → old ≡ Some Spent ∷ rest → IsWalked whole rest true found
walked_spent whole old rest spent found w is = record {
  outcomes = w.outcomes ++ Spent ∷ [];
  split = split_more whole old rest w.outcomes Spent w.split is;
  none = yes-snoc w.outcomes Spent w.none;
  spent_is = sym (spent-snoc w.outcomes Spent);
  found_is = w.found_is ∙ sym (append-nil (trees w.outcomes)) ∙ sym (trees-snoc w.outcomes Spent);
}

pub walked_yes : (whole old rest : List (Option Cube)) (spent : Bool) (found : List Tree) (order : List TxnId) (pick : Pick) → IsWalked whole old spent found → old ≡ Some (Yes order) ∷ rest → pick ≡ picks.Yes order → GatheredOf whole pick
walked_yes whole old rest spent found order pick w is e =
    let first = yes-snoc w.outcomes (Yes order) w.none in
    subst (λ p. GatheredOf whole p) (sym e) (w.outcomes ++ Yes order ∷ [], rest, split_more whole old rest w.outcomes (Yes order) w.split is, inr (ap is_some_of first), first)
  where
    is_some_of : Option (List TxnId) → Bool
    is_some_of (Some x) = true
    is_some_of None = false

-- what seats with all parts brought

module _ (may : ℕ → Cube → Type 0) (count parts : ℕ) (v : View) (es : List (ℕ × Cube)) (w : Worked may count parts v es) (over : 0 < v.over) (whole : Whole v) where
  drawn : (x : ℕ) → times x v.claimed ≡ once_below x count
  drawn x = whole.0 over x ∙ ap (once_below x) w.count_is

  inside : (n : ℕ) → 0 < times n (numbers es) → n < count
  inside n h = let d = drawn n in let o = w.once n in once_in n count (omega (arith, h, d, o))

  pub all_below : All (λ e. e.0 < count) es
  all_below k d within = inside (get_or es k d).0 (number_at es k d within)

  pub no_gap : (table : List (Option Cube)) → count < nothing → IsTable count es table → NoGap table
  no_gap table few t outs o rest is none =
      let i : ℕ = length outs in
      let e = at_end outs o rest in
      let len : length table ≡ length (map Some outs ++ o ∷ rest) = ap length is in
      let size = t.0 in
      let below : i < count = let s = e.1 in omega arith in
      let here : found_in i es ≡ o = sym (t.1 i below) ∙ ap (λ (l : List (Option Cube)). get_or l i None) is ∙ e.0 in
      let d = drawn i in
      let one = once_is i count below in
      ⊎_elim (λ (h : 0 < times i (numbers es)). subst (λ (p : Option Cube). IsSome p) here (found_some i es h))
      (λ (low : v.least < i). absurd (
      let y : ℕ = lowest v.found in
      let l = whole.1 in
      let small : y < i = omega arith in
      let there = lowest_there v.found (omega (arith, small, below, few)) in
      let said = w.yes y in
      let at_most : times y (numbers es) ≤ 1 = let o' = w.once y in let d' = drawn y in let q = once_le y count in omega arith in
      let f = found_yes y es at_most (omega (arith, there, said)) in
      let a = at_out outs (o ∷ rest) y small in
      let same : Some a.0 ≡ Some f.0 = sym a.2 ∙ sym (ap (λ (l : List (Option Cube)). get_or l y None) is) ∙ t.1 y (omega (arith, small, below)) ∙ f.1 in
      let same' : a.0 ≡ f.0 = cc in
      first_there outs y a.0 a.1 (ap is_yes same' ∙ f.2) none))
      (w.answered i (omega (arith, d, one)))

  size_of : (table : List (Option Cube)) (outs : List Cube) (rest : List (Option Cube)) → IsTable count es table → table ≡ map Some outs ++ rest → length outs + length rest ≡ count
  size_of table outs rest t is =
      let long = length-outs outs rest in
      let len : length table ≡ length (map Some outs ++ rest) = ap length is in
      let size = t.0 in
      omega (arith, long, len, size)

  allowed_of : (table : List (Option Cube)) (outs : List Cube) (rest : List (Option Cube)) → IsTable count es table → table ≡ map Some outs ++ rest → (i : ℕ) (cube : Cube) → slice_get outs i ≡ Some cube → may i cube
  allowed_of table outs rest t is i cube at =
      let in_outs = got_in outs i cube at in
      let a = at_out outs rest i in_outs in
      let size = size_of table outs rest t is in
      let below : i < count = omega (arith, in_outs, size) in
      let got : Some a.0 ≡ Some cube = sym a.1 ∙ at in
      let same : a.0 ≡ cube = cc in
      found_may may i es cube w.allowed (sym (t.1 i below) ∙ ap (λ (l : List (Option Cube)). get_or l i None) is ∙ a.2 ∙ ap (λ (c : Cube). Some c) same)

  ends_of : (outs : List Cube) (rest : List (Option Cube)) → length outs + length rest ≡ count → (rest ≡ []) ⊎ IsSome (first_yes outs) → length outs < count → IsSome (first_yes outs)
  ends_of outs rest size (inl none) short = absurd (let l : length rest ≡ 0 = ap length none in omega (arith, size, short, l))
  ends_of outs rest size (inr has) short = has

  pub gathers : (table : List (Option Cube)) (pick : Pick) → IsTable count es table → GatheredOf table pick → Gathered may count pick
  gathers table pick t (outs, rest, is, end, gathered) =
      let size = size_of table outs rest t is in
      (outs, record { allowed = allowed_of table outs rest t is; few = omega (arith, size); end = ends_of outs rest size end }, gathered)

-- from the pick to the answer

some_none : (o : Option (List TxnId)) → IsSome o → o ≡ None → ⊥
some_none (Some x) h e = cc
some_none None h e = cc

-- where there is no yes, there is an outcome of each cube
pub all_there : (may : ℕ → Cube → Type 0) (count : ℕ) (outs : List Cube) → AreOutcomes may count outs → first_yes outs ≡ None → length outs ≡ count
all_there may count outs are none = dite (dec_lt (length outs) count) (λ short. absurd (some_none (first_yes outs) (are.end short) none)) (λ not. let few = are.few in omega (arith, few, not))

trees_of : (may : ℕ → Cube → Type 0) (count : ℕ) (outs : List Cube) (found : List Tree) → AreOutcomes may count outs → first_yes outs ≡ None → has_spent outs ≡ false → found ≡ trees outs → length found ≡ count
trees_of may count outs found are none fine is = ap length is ∙ trees_count outs none fine ∙ all_there may count outs are none

pub has_trees : (may : ℕ → Cube → Type 0) (count : ℕ) (pick : Pick) → Gathered may count pick → HasTrees count pick
has_trees may count (picks.Yes order) g = tt
has_trees may count (picks.No found) (outs, are, (none, fine, is)) = trees_of may count outs found.items are none fine is
has_trees may count picks.Spent g = tt
