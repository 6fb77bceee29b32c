-- Sets of sides, read by what they have.
use Rattle.std.proofs.Common.{◌≡◌, ◌≢◌, ◌⊎◌, ◌↔◌, ◌∙◌, Bool, true, false, cond, refl, sym, ap, subst, inl, inr, List}
use Rattle.std.proofs.lemmas.Bool.{false≢true}
use Rattle.std.proofs.lemmas.Cmp.{tied_itself, on_total, then_total}
use Rattle.std.proofs.lemmas.Map.Lookups.{CmpEqualImpliesEq, exact_pairs, exact_unsigned}
use Rattle.std.proofs.lemmas.Map.Views.{btree_set_contains_iff}
use Rattle.std.specs.declared.cmp.Ordering.{Ordering}
use Rattle.std.specs.declared.cmp.Ordering.TheVariants.{Less, Equal, Greater}
use Rattle.std.specs.Prelude.{Contains, IsTrue}
use Rattle.std.specs.Ordering.{nat_cmp, ordering_then}
use Rattle.std.specs.Cmp.{IsTotalOrder}
use Rattle.std.specs.BTreeMap.{is_at}
use Rattle.std.specs.BTreeSet.{BTreeSet, contains, Updates}
use Rattle.txn.specs.declared.transactions.TxnId.{TxnId}
use Rattle.txn.specs.contracts.transactions.TxnIdOrd.TheImpl.Laws.{total-law}
use Rattle.txn.proofs.Ids.{id_cmp}

-- how a set of sides compares them
abbrev pub side_cmp : TxnId × TxnId → TxnId × TxnId → Ordering
side_cmp one other = ordering_then (id_cmp one.0 other.0) (id_cmp one.1 other.1)

side_total : IsTotalOrder side_cmp
side_total = then_total (on_total (λ (side : TxnId × TxnId). side.0) total-law) (on_total (λ (side : TxnId × TxnId). side.1) total-law)

id_exact : CmpEqualImpliesEq id_cmp
id_exact one other tied =
    let same = exact_pairs nat_cmp nat_cmp exact_unsigned exact_unsigned (one.session, one.number) (other.session, other.number) tied in
    λ i. record { session = (same i).0; number = (same i).1 }

side_exact : CmpEqualImpliesEq side_cmp
side_exact = exact_pairs id_cmp id_cmp id_exact id_exact

-- a set finds what it has
found : (set : BTreeSet (TxnId × TxnId)) (side : TxnId × TxnId) → IsTrue (contains side_cmp set side) ↔ Contains set.keys side
found set side = btree_set_contains_iff side_total side_exact set side

-- the same of the list that contracts see of the set
pub found_in : (set : BTreeSet (TxnId × TxnId)) (sides : List (TxnId × TxnId)) (side : TxnId × TxnId) (has : Bool) → set.keys ≡ sides → has ≡ contains side_cmp set side → IsTrue has ↔ Contains sides side
found_in set sides side has seen is = subst (λ h. IsTrue h ↔ Contains sides side) (sym is) (subst (λ keys. IsTrue (contains side_cmp set side) ↔ Contains keys side) seen (found set side))

differ : (one other : TxnId × TxnId) (order : Ordering) → side_cmp one other ≡ order → is_at (λ (_ : TxnId × TxnId). order) other ≡ false → one ≢ other
differ one other order is none same = absurd (false≢true (sym none ∙ ap (λ (o : Ordering). is_at (λ (_ : TxnId × TxnId). o) other) (sym is ∙ ap (λ side. side_cmp side other) same ∙ tied_itself side_total other)))

-- two sides are one or not
pub same_or_not : (one other : TxnId × TxnId) → (one ≡ other) ⊎ (one ≢ other)
same_or_not one other = by_order (side_cmp one other) refl
  where
    by_order : (order : Ordering) → side_cmp one other ≡ order → (one ≡ other) ⊎ (one ≢ other)
    by_order Less is = inr (differ one other Less is refl)
    by_order Equal is = inl (side_exact one other is)
    by_order Greater is = inr (differ one other Greater is refl)

at_itself : (side : TxnId × TxnId) → is_at (side_cmp side) side ≡ true
at_itself side = ap (λ (o : Ordering). is_at (λ (_ : TxnId × TxnId). o) side) (tied_itself side_total side)

at_same : (one other : TxnId × TxnId) → is_at (side_cmp one) other ≡ true → one ≡ other
at_same one other at = by_case (same_or_not one other)
  where
    by_case : (one ≡ other) ⊎ (one ≢ other) → one ≡ other
    by_case (inl same) = same
    by_case (inr not') = by_order (side_cmp one other) refl
      where
        by_order : (order : Ordering) → side_cmp one other ≡ order → one ≡ other
        by_order Less is = absurd (false≢true (ap (λ (o : Ordering). is_at (λ (_ : TxnId × TxnId). o) other) (sym is) ∙ at))
        by_order Equal is = side_exact one other is
        by_order Greater is = absurd (false≢true (ap (λ (o : Ordering). is_at (λ (_ : TxnId × TxnId). o) other) (sym is) ∙ at))

-- a set that was given a side has it beside what it had
added : (old new : BTreeSet (TxnId × TxnId)) (side : TxnId × TxnId) → Updates side_cmp old new side true → (other : TxnId × TxnId) → Contains new.keys other ↔ (Contains old.keys other ⊎ (other ≡ side))
added old new side updates other = (there, back)
  where
    by_test : (at : Bool) → is_at (side_cmp side) other ≡ at → IsTrue (cond at true (contains side_cmp old other)) → Contains old.keys other ⊎ (other ≡ side)
    by_test true is h = inr (sym (at_same side other is))
    by_test false is h = inl ((found old other).0 h)

    there : Contains new.keys other → Contains old.keys other ⊎ (other ≡ side)
    there has = by_test (is_at (side_cmp side) other) refl (sym (updates.0 other) ∙ (found new other).1 has)

    kept : (at : Bool) → is_at (side_cmp side) other ≡ at → IsTrue (contains side_cmp old other) → IsTrue (cond at true (contains side_cmp old other))
    kept true is h = refl
    kept false is h = h

    back : Contains old.keys other ⊎ (other ≡ side) → Contains new.keys other
    back (inl has) = (found new other).0 (updates.0 other ∙ kept (is_at (side_cmp side) other) refl ((found old other).1 has))
    back (inr same) = (found new other).0 (updates.0 other ∙ ap (λ (at : Bool). cond at true (contains side_cmp old other)) (ap (is_at (side_cmp side)) same ∙ at_itself side))

pub added_to : (old new : BTreeSet (TxnId × TxnId)) (sides : List (TxnId × TxnId)) (side : TxnId × TxnId) → old.keys ≡ sides → Updates side_cmp old new side true → (other : TxnId × TxnId) → Contains new.keys other ↔ (Contains sides other ⊎ (other ≡ side))
added_to old new sides side seen updates other = subst (λ keys. Contains new.keys other ↔ (Contains keys other ⊎ (other ≡ side))) seen (added old new side updates other)

-- a set that lost a side has all others that it had
removed : (old new : BTreeSet (TxnId × TxnId)) (side : TxnId × TxnId) → Updates side_cmp old new side false → (other : TxnId × TxnId) → Contains new.keys other ↔ (Contains old.keys other × (other ≢ side))
removed old new side updates other = (there, back)
  where
    by_test : (at : Bool) → is_at (side_cmp side) other ≡ at → IsTrue (cond at false (contains side_cmp old other)) → Contains old.keys other × (other ≢ side)
    by_test true is h = absurd (false≢true h)
    by_test false is h = ((found old other).0 h, λ same. absurd (false≢true (sym is ∙ ap (is_at (side_cmp side)) same ∙ at_itself side)))

    there : Contains new.keys other → Contains old.keys other × (other ≢ side)
    there has = by_test (is_at (side_cmp side) other) refl (sym (updates.0 other) ∙ (found new other).1 has)

    kept : (at : Bool) → is_at (side_cmp side) other ≡ at → other ≢ side → IsTrue (contains side_cmp old other) → IsTrue (cond at false (contains side_cmp old other))
    kept true is differs h = absurd (differs (sym (at_same side other is)))
    kept false is differs h = h

    back : Contains old.keys other × (other ≢ side) → Contains new.keys other
    back (has, differs) = (found new other).0 (updates.0 other ∙ kept (is_at (side_cmp side) other) refl differs ((found old other).1 has))

pub removed_from : (old new : BTreeSet (TxnId × TxnId)) (sides : List (TxnId × TxnId)) (side : TxnId × TxnId) → old.keys ≡ sides → Updates side_cmp old new side false → (other : TxnId × TxnId) → Contains new.keys other ↔ (Contains sides other × (other ≢ side))
removed_from old new sides side seen updates other = subst (λ keys. Contains new.keys other ↔ (Contains keys other × (other ≢ side))) seen (removed old new side updates other)

pub either_way : {X Y : Type 0} → X ⊎ Y → Y ⊎ X
either_way (inl x) = inr x
either_way (inr y) = inl y
