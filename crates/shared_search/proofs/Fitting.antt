-- What a seat knows fits later words of its board.
use Rattle.std.proofs.Common.{◌≡◌, ◌≢◌, ℕ, zero, suc, ◌+◌, ◌<◌, ◌≤◌, ⊎_elim, sym, subst, List, [], ◌∷◌, length, set, arith}
use mathlib.Core.Option.{some, some-ne-none}
use lib.ListN.{get_elem?}
use Rattle.atomic_table.specs.Table.{State}
use Rattle.atomic_table.proofs.Lists.{at_set}
use Rattle.shared_search.specs.declared.words.View.{View}
use Rattle.shared_search.specs.Rule.{Fits, Kept}
use Rattle.shared_search.proofs.Totals.{total_le}

abbrev pub Words : Type 0
Words = State (Unit {0}) View

-- a seat's knowledge fits later words

weaken : (cubes next least next' least' : ℕ) (v : View) → next ≤ next' → least' ≤ least → Fits cubes next least v → Fits cubes next' least' v
weaken cubes next least next' least' v up down f = record {
  cubes_are = f.cubes_are;
  room = f.room;
  ended = λ h. let e = f.ended h in omega arith;
  seen = let s = f.seen in omega arith;
  inside = f.inside;
  behind = let b = f.behind in omega arith;
  idle = f.idle;
}

pub all_fit : (cubes next least next' least' id : ℕ) (views : List View) (w : View) → next ≤ next' → least' ≤ least → ((i : ℕ) (v : View) → get_elem? views i ≡ some v → Fits cubes next least v) → Fits cubes next' least' w
    → (i : ℕ) (v : View) → get_elem? (set views id w) i ≡ some v → Fits cubes next' least' v
all_fit cubes next least next' least' id views w up down old new i v e = ⊎_elim (λ (x : (i ≡ id) × (w ≡ v)). subst (λ (u : View). Fits cubes next' least' u) x.1 new)
    (λ (x : (i ≢ id) × (get_elem? views i ≡ some v)). weaken cubes next least next' least' v up down (old i v x.1)) (at_set views id i w v e)

pub index_in : {A : Type 0} (l : List A) (i : ℕ) (a : A) → get_elem? l i ≡ some a → i < length l
index_in [] i a e = absurd (some-ne-none a (sym e))
index_in (x ∷ xs) zero a e = omega arith
index_in (x ∷ xs) (suc i) a e = let r = index_in xs i a e in omega arith

pub few_words : (cubes seats : ℕ) (s : Words) (k : Kept cubes seats s) → k.next ≤ cubes + seats
few_words cubes seats s k =
    let over = total_le (λ (v : View). v.over) (λ (v : View). v.parts) s.views (λ i v e. (k.each i v e).room) in
    let p = k.parts in
    let b = k.beyond in
    omega arith
