-- What the desk holds, after what the auditor has taken, is of each collector what it submitted, in its order.
use Rattle.std.specs.Prelude.{◌≡◌, ℕ, ◌<◌, ◌≤◌, List, [], ◌∷◌, ◌++◌, length, take, drop, filter, nat_eq, All, slice_get, Some, ⊤}
use mathlib.Core.Option.{some}
use lib.ListN.{get_elem?}
use Rattle.list_lemmas.specs.Counts.{times, total}
use Rattle.fragment_intake.specs.declared.rules.Parcel.{Parcel}
use Rattle.fragment_intake.specs.declared.rules.View.{View}

-- the parcels of collector p, in order
abbrev pub of : ℕ → List Parcel → List Parcel
of p xs = filter (λ (x : Parcel). nat_eq x.collector p) xs

-- the collectors of a pass
abbrev pub whos : List (ℕ × List Parcel) → List ℕ
whos [] = []
whos (m ∷ ms) = m.0 ∷ whos ms

-- each list is what its collector has sent
abbrev pub Tells : (ℕ → List Parcel) → List (ℕ × List Parcel) → Type 0
Tells sent [] = ⊤
Tells sent (m ∷ ms) = (m.1 ≡ sent m.0) × Tells sent ms

-- what a pass knows
abbrev pub seen : List (ℕ × List Parcel) → ℕ → List Parcel → View
seen mine audits got = record { mine = mine; audits = audits; got = got }

-- the pass of one collector
abbrev pub collector : ℕ → List Parcel → View
collector p put = seen ((p, put) ∷ []) 0 []

-- the first pass: all four collectors', and the auditor's
abbrev pub everyone : View
everyone = seen ((0, []) ∷ (1, []) ∷ (2, []) ∷ (3, []) ∷ []) 1 []

-- one collector less
abbrev pub without_first : View → View
without_first v = seen (drop 1 v.mine) v.audits v.got

abbrev pub only_first : View → View
only_first v = seen (take 1 v.mine) 0 []

-- a collector's pass taken in
abbrev pub both_of : View → View → View
both_of v w = seen (v.mine ++ w.mine) v.audits v.got

-- the pass of nobody
abbrev pub blank : View
blank = seen [] 0 []

-- The rule, for what the queue holds and what each pass knows.
pub record Delivers (items : List Parcel) (views : List View) : Type 0 where
  -- what each collector has submitted, and what was taken
  pub sent : ℕ → List Parcel
  pub got : List Parcel
  -- of each collector, taken followed by held is submitted
  pub whole : (p : ℕ) → of p (got ++ items) ≡ sent p
  -- each pass knows what its collectors submitted, and a collector has one pass
  pub puts : (port : ℕ) (v : View) → get_elem? views port ≡ some v → Tells sent v.mine
  pub once : (p : ℕ) → total (λ (v : View). times p (whos v.mine)) views ≤ 1
  -- the auditor's pass, of which there is one, knows what was taken
  pub heard : (port : ℕ) (v : View) → get_elem? views port ≡ some v → 0 < v.audits → v.got ≡ got
  pub one : total (λ (v : View). v.audits) views ≤ 1
  -- collectors are numbered below 4, and places are below 2 to the power of 48, each the parcel's place in its collector's list
  pub few : (p : ℕ) → length (sent p) ≤ 281474976710656
  pub kinds : All (λ (x : Parcel). x.collector < 4) items
  pub numbered : (p k : ℕ) (x : Parcel) → slice_get (sent p) k ≡ Some x → x.place ≡ k

-- the parcel behind what the first of these has
abbrev pub with_last : Parcel → List (ℕ × List Parcel) → List (ℕ × List Parcel)
with_last x [] = []
with_last x (m ∷ ms) = (m.0, m.1 ++ x ∷ []) ∷ ms

-- a collector's push
abbrev pub Put : View → Parcel → View → Type 0
Put v x w = w ≡ seen (with_last x v.mine) v.audits v.got

-- the auditor's pop
abbrev pub Got : View → Parcel → View → Type 0
Got v x w = (w ≡ seen v.mine v.audits (v.got ++ x ∷ [])) × (x.collector < 4) × (length (of x.collector w.got) ≤ 281474976710656) × (x.place ≡ length (of x.collector v.got))

-- what the auditor learns of what the desk holds
abbrev pub Settled : View → List Parcel → Type 0
Settled v items = Tells (λ p. of p (v.got ++ items)) v.mine

-- what a collector learns of it
abbrev pub Waits : View → List Parcel → Type 0
Waits v items = (got : List Parcel) × Tells (λ p. of p (got ++ items)) v.mine

-- what the first collector of a pass has submitted
abbrev pub put_of : List (ℕ × List Parcel) → List Parcel
put_of [] = []
put_of (m ∷ ms) = m.1
