-- Sides that arcs use, noted arc by arc.
use Rattle.std.proofs.Common.{◌≡◌, ◌≢◌, ◌⊎◌, ◌↔◌, ◌∙◌, ℕ, ◌+◌, ◌<◌, List, [], ◌∷◌, ◌++◌, length, take, get_or, Option, Some, sym, ap, subst, inl, inr, zero, suc, arith}
use Rattle.std.specs.Prelude.{Contains}
use Rattle.std.proofs.Math.Seq.{take-suc}
use Rattle.std.proofs.lemmas.List.Elements.{Contains-append_left, Contains-append_right, Contains-append_cases}
use Rattle.txn.specs.declared.transactions.TxnId.{TxnId}
use Rattle.txn.specs.declared.choices.Arc.{Arc}
use Rattle.txn.specs.declared.choices.Arc.TheVariants.{Taken}
use Rattle.refutation.specs.Pruned.{UseSide}

-- the sides besides which those of these arcs were noted, but for one that is skipped
abbrev pub Notes : List (TxnId × TxnId) → List (TxnId × TxnId) → List Arc → Option (TxnId × TxnId) → Type 0
Notes old new arcs skipped = (other : TxnId × TxnId) → Contains new other ↔ (Contains old other ⊎ (UseSide arcs other × (skipped ≢ Some other)))

pub arc_noted : (old new : List (TxnId × TxnId)) (from to : TxnId) (arc : Arc) (skipped : Option (TxnId × TxnId)) → arc ≡ Taken from to → skipped ≢ Some (from, to) →
    ((other : TxnId × TxnId) → Contains new other ↔ (Contains old other ⊎ (other ≡ (from, to)))) →
    (other : TxnId × TxnId) → Contains new other ↔ (Contains old other ⊎ ((arc ≡ Taken other.0 other.1) × (skipped ≢ Some other)))
arc_noted old new from to arc skipped is kept added other = (there, back)
  where
    there : Contains new other → Contains old other ⊎ ((arc ≡ Taken other.0 other.1) × (skipped ≢ Some other))
    there has = by_case ((added other).0 has)
      where
        by_case : Contains old other ⊎ (other ≡ (from, to)) → Contains old other ⊎ ((arc ≡ Taken other.0 other.1) × (skipped ≢ Some other))
        by_case (inl old') = inl old'
        by_case (inr same) = inr (is ∙ ap (λ (s : TxnId × TxnId). Taken s.0 s.1) (sym same), λ e. kept (e ∙ ap Some same))

    back : Contains old other ⊎ ((arc ≡ Taken other.0 other.1) × (skipped ≢ Some other)) → Contains new other
    back (inl old') = (added other).1 (inl old')
    back (inr (here, apart)) =
        let both : Taken from to ≡ Taken other.0 other.1 = sym is ∙ here in
        let one : other.0 ≡ from = cc in
        let two : other.1 ≡ to = cc in
        (added other).1 (inr (λ i. (one i, two i)))

only : {X : Type 0} (x y : X) → Contains (x ∷ []) y → x ≡ y
only x y (zero, within, is) = is
only x y (suc k, within, is) = absurd (omega arith)

-- one more arc
pub more_noted : (old between new : List (TxnId × TxnId)) (done : List Arc) (arc : Arc) (skipped : Option (TxnId × TxnId)) → Notes old between done skipped →
    ((other : TxnId × TxnId) → Contains new other ↔ (Contains between other ⊎ ((arc ≡ Taken other.0 other.1) × (skipped ≢ Some other)))) →
    Notes old new (done ++ arc ∷ []) skipped
more_noted old between new done arc skipped so_far more other = (there, back)
  where
    there : Contains new other → Contains old other ⊎ (UseSide (done ++ arc ∷ []) other × (skipped ≢ Some other))
    there has = by_case ((more other).0 has)
      where
        before : Contains old other ⊎ (UseSide done other × (skipped ≢ Some other)) → Contains old other ⊎ (UseSide (done ++ arc ∷ []) other × (skipped ≢ Some other))
        before (inl h) = inl h
        before (inr (h, apart)) = inr (Contains-append_left done (arc ∷ []) (Taken other.0 other.1) h, apart)

        by_case : Contains between other ⊎ ((arc ≡ Taken other.0 other.1) × (skipped ≢ Some other)) → Contains old other ⊎ (UseSide (done ++ arc ∷ []) other × (skipped ≢ Some other))
        by_case (inl h) = before ((so_far other).0 h)
        by_case (inr (is, apart)) = inr (Contains-append_right done (arc ∷ []) (Taken other.0 other.1) (0, omega arith, is), apart)

    back : Contains old other ⊎ (UseSide (done ++ arc ∷ []) other × (skipped ≢ Some other)) → Contains new other
    back (inl h) = (more other).1 (inl ((so_far other).1 (inl h)))
    back (inr (h, apart)) = by_case (Contains-append_cases done (arc ∷ []) (Taken other.0 other.1) h)
      where
        by_case : UseSide done other ⊎ UseSide (arc ∷ []) other → Contains new other
        by_case (inl h) = (more other).1 (inl ((so_far other).1 (inr (h, apart))))
        by_case (inr h) = (more other).1 (inr (only arc (Taken other.0 other.1) h, apart))

-- the sides besides which these were added
abbrev pub HasBoth : List (TxnId × TxnId) → List (TxnId × TxnId) → List (TxnId × TxnId) → Type 0
HasBoth old new sides = (other : TxnId × TxnId) → Contains new other ↔ (Contains old other ⊎ Contains sides other)

-- one more side
pub more_added : (old between new done : List (TxnId × TxnId)) (side : TxnId × TxnId) → HasBoth old between done →
    ((other : TxnId × TxnId) → Contains new other ↔ (Contains between other ⊎ (other ≡ side))) → HasBoth old new (done ++ side ∷ [])
more_added old between new done side so_far more other = (there, back)
  where
    there : Contains new other → Contains old other ⊎ Contains (done ++ side ∷ []) other
    there has = by_case ((more other).0 has)
      where
        before : Contains old other ⊎ Contains done other → Contains old other ⊎ Contains (done ++ side ∷ []) other
        before (inl h) = inl h
        before (inr h) = inr (Contains-append_left done (side ∷ []) other h)

        by_case : Contains between other ⊎ (other ≡ side) → Contains old other ⊎ Contains (done ++ side ∷ []) other
        by_case (inl h) = before ((so_far other).0 h)
        by_case (inr is) = inr (Contains-append_right done (side ∷ []) other (0, omega arith, sym is))

    back : Contains old other ⊎ Contains (done ++ side ∷ []) other → Contains new other
    back (inl h) = (more other).1 (inl ((so_far other).1 (inl h)))
    back (inr h) = by_case (Contains-append_cases done (side ∷ []) other h)
      where
        by_case : Contains done other ⊎ Contains (side ∷ []) other → Contains new other
        by_case (inl h) = (more other).1 (inl ((so_far other).1 (inr h)))
        by_case (inr h) = (more other).1 (inr (sym (only side other h)))

pub turn_noted : (old between new : List (TxnId × TxnId)) (arcs : List Arc) (i : ℕ) (d : Arc) (skipped : Option (TxnId × TxnId)) → i < length arcs → Notes old between (take i arcs) skipped →
    ((other : TxnId × TxnId) → Contains new other ↔ (Contains between other ⊎ ((get_or arcs i d ≡ Taken other.0 other.1) × (skipped ≢ Some other)))) →
    Notes old new (take (i + 1) arcs) skipped
turn_noted old between new arcs i d skipped within so_far more =
    let one : suc i ≡ i + 1 = omega arith in
    let e : take (i + 1) arcs ≡ take i arcs ++ get_or arcs i d ∷ [] = subst (λ n. take n arcs ≡ take i arcs ++ get_or arcs i d ∷ []) one (take-suc arcs i d within) in
    subst (λ done. Notes old new done skipped) (sym e) (more_noted old between new (take i arcs) (get_or arcs i d) skipped so_far more)
