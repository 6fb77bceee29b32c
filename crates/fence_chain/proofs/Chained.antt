-- Fences that are known to come before or after every other one, and how they are put in known order.
use Rattle.std.proofs.Common.{◌≡◌, ◌≢◌, ℕ, ◌+◌, ◌<◌, ◌≤◌, ◌⊎◌, true, List, [], ◌∷◌, ◌++◌, length, get_or, take, drop, refl, sym, inl, inr, subst, arith, Option, Some, None, IsSome}
use Rattle.std.specs.Prelude.{◌↔◌, All, Contains, IsSomeAnd}
use Rattle.std.specs.List.{AllPairs, AllWithin, insert}
use Rattle.std.proofs.lemmas.Bool.{cases_lt}
use Rattle.std.proofs.lemmas.List.{take_more, take_all, take-append-drop, get_or_default}
use Rattle.std.proofs.lemmas.List.Elements.{All-contains, Contains-push, Contains-push_cases, Contains-append_left, Contains-get_or}
use Rattle.txn.specs.declared.transactions.TxnId.{TxnId}
use Rattle.txn.specs.declared.transactions.Txn.{Txn}
use Rattle.txn.specs.Transactions.{id_below, IsFence}
use Rattle.txn.proofs.Ids.{same_or_not}
use Rattle.order_check.specs.declared.remainder.Parts.{Parts}
use Rattle.order_check.specs.Based.{Remains, remaining_at}
use Rattle.order_check.specs.Known.{Known, through}
use Rattle.order_check.specs.Settled.{IsBefore, InFront}
use Rattle.clock_choices.specs.OrderedAmong.{AreOrdered, IsOrderedAmong}
use Rattle.fence_chain.specs.Chains.{IsRemainingFence, IsChained, IsChain}
use Rattle.fence_chain.specs.Picked.{AreInOrder, IsBetween, IsPicked, IsPutIn, IsSorting}
use Rattle.fence_chain.proofs.Picking.{front_below, not_below_itself}
use Rattle.fence_chain.proofs.Placed.{insert_keeps, insert_has, has_insert}

fence_remains : (parts : Parts) (id : TxnId) → IsRemainingFence parts id → Remains parts id
fence_remains parts id h = by_found (remaining_at parts id) h
  where
    by_found : (found : Option Txn) → IsSomeAnd found IsFence → IsSome found
    by_found None h = absurd h
    by_found (Some txn) h = refl

-- what stands behind one that comes after the fence comes after it too
pub after_from : (parts : Parts) (fence : TxnId) (chain : List TxnId) (place : ℕ) (e : TxnId) → AllPairs (IsBefore parts) chain → place < length chain → IsBefore parts fence (get_or chain place e) → AllWithin (IsBefore parts fence) chain place (length chain)
after_from parts fence chain place e order within after k d past under = by_order (cases_lt place k)
  where
    here : IsBefore parts fence (get_or chain place d)
    here = subst (λ w. IsBefore parts fence w) (get_or_default chain place e d within) after

    by_order : (place < k) ⊎ (k ≤ place) → IsBefore parts fence (get_or chain k d)
    by_order (inl further) = through here (order place k d further under)
    by_order (inr same) = let e : place ≡ k = omega arith in subst (λ n. IsBefore parts fence (get_or chain n d)) e here

-- what stands ahead of one that comes before the fence comes before it too
pub before_to : (parts : Parts) (fence : TxnId) (chain : List TxnId) (place : ℕ) (e : TxnId) → AllPairs (IsBefore parts) chain → place < length chain → All (λ other. IsBefore parts other fence ⊎ IsBefore parts fence other) chain → ¬ IsBefore parts fence (get_or chain place e) → AllWithin (λ other. IsBefore parts other fence) chain 0 (place + 1)
before_to parts fence chain place e order within ordered not_after k d past under = by_order (cases_lt k place)
  where
    by_side : IsBefore parts (get_or chain place e) fence ⊎ IsBefore parts fence (get_or chain place e) → IsBefore parts (get_or chain place e) fence
    by_side (inl h) = h
    by_side (inr h) = absurd (not_after h)

    here : IsBefore parts (get_or chain place d) fence
    here = subst (λ w. IsBefore parts w fence) (get_or_default chain place e d within) (by_side (ordered place e within))

    by_order : (k < place) ⊎ (place ≤ k) → IsBefore parts (get_or chain k d) fence
    by_order (inl nearer) = through (order k place d nearer within) here
    by_order (inr same) = let e : place ≡ k = omega arith in subst (λ n. IsBefore parts (get_or chain n d) fence) e here

pub to_front : (parts : Parts) (fence : TxnId) (chain : List TxnId) (low high middle : ℕ) (e : TxnId) → AllPairs (IsBefore parts) chain → IsBetween parts fence chain low high → low ≤ middle → middle < high → IsBefore parts fence (get_or chain middle e) → IsBetween parts fence chain low middle
to_front parts fence chain low high middle e order between above below after = let within = between.within in record { rise = above; within = omega arith; before = between.before; after = after_from parts fence chain middle e order (omega arith) after }

pub to_back : (parts : Parts) (fence : TxnId) (chain : List TxnId) (low high middle : ℕ) (e : TxnId) → AllPairs (IsBefore parts) chain → All (λ other. IsBefore parts other fence ⊎ IsBefore parts fence other) chain → IsBetween parts fence chain low high → middle < high → ¬ IsBefore parts fence (get_or chain middle e) → IsBetween parts fence chain (middle + 1) high
to_back parts fence chain low high middle e order ordered between below not_after = let within = between.within in record { rise = omega arith; within = within; before = before_to parts fence chain middle e order (omega arith) ordered not_after; after = between.after }

pub whole_between : (parts : Parts) (fence : TxnId) (chain : List TxnId) → IsBetween parts fence chain 0 (length chain)
whole_between parts fence chain = record { rise = omega arith; within = omega arith; before = λ k d from to. absurd (omega arith); after = λ k d from to. absurd (omega arith) }

pub put_at : (parts : Parts) (fence : TxnId) (chain new : List TxnId) (place : ℕ) → AllPairs (IsBefore parts) chain → IsBetween parts fence chain place place → new ≡ insert chain place fence → IsPutIn parts fence chain new
put_at parts fence chain new place order between e =
    subst (λ xs. IsPutIn parts fence chain xs) (sym e)
    (record { members = λ id. (insert_has chain place fence id, has_insert chain place fence id); order = insert_keeps (IsBefore parts) chain place fence between.within order (λ k d first. between.before k d (omega arith) first) (λ k d past under. between.after k d past under) })

pub sorting_none : (parts : Parts) (ids : List TxnId) → IsSorting parts (take 0 ids) []
sorting_none parts ids = record { members = λ id. ((λ h. h), (λ h. h)); order = λ i j d first under. absurd (omega arith) }

-- the next fence comes before or after each that is in the chain
pub ordered_next : (parts : Parts) (ids chain : List TxnId) (k : ℕ) (d : TxnId) → k < length ids → AreInOrder ids → ((a b : TxnId) → Contains ids a → Contains ids b → AreOrdered parts a b) → IsSorting parts (take k ids) chain → All (λ other. IsBefore parts other (get_or ids k d) ⊎ IsBefore parts (get_or ids k d) other) chain
ordered_next parts ids chain k d within rise ordered so_far j e under = by_case (ordered (get_or ids k d) (get_or chain j e) (Contains-get_or ids k d within) whole)
  where
    there : Contains (take k ids) (get_or chain j e)
    there = (so_far.members (get_or chain j e)).0 (Contains-get_or chain j e under)

    whole : Contains ids (get_or chain j e)
    whole = subst (λ xs. Contains xs (get_or chain j e)) (take-append-drop k ids) (Contains-append_left (take k ids) (drop k ids) (get_or chain j e) there)

    by_case : AreOrdered parts (get_or ids k d) (get_or chain j e) → IsBefore parts (get_or chain j e) (get_or ids k d) ⊎ IsBefore parts (get_or ids k d) (get_or chain j e)
    by_case (inl same) = absurd (not_below_itself (get_or ids k d) (subst (λ w. id_below w (get_or ids k d) ≡ true) (sym same) (front_below ids k d (get_or chain j e) within rise there)))
    by_case (inr h) = h

pub sorting_next : (parts : Parts) (ids chain more : List TxnId) (k : ℕ) (d : TxnId) → k < length ids → IsSorting parts (take k ids) chain → IsPutIn parts (get_or ids k d) chain more → IsSorting parts (take (k + 1) ids) more
sorting_next parts ids chain more k d within so_far put = subst (λ front. IsSorting parts front more) (sym (take_more ids k d within)) (record { members = λ id. (into id, back id); order = put.order })
  where
    into : (id : TxnId) → Contains more id → Contains (take k ids ++ get_or ids k d ∷ []) id
    into id h = by_part ((put.members id).0 h)
      where
        by_part : Contains chain id ⊎ (get_or ids k d ≡ id) → Contains (take k ids ++ get_or ids k d ∷ []) id
        by_part (inl there) = Contains-append_left (take k ids) (get_or ids k d ∷ []) id ((so_far.members id).0 there)
        by_part (inr e) = subst (λ y. Contains (take k ids ++ get_or ids k d ∷ []) y) e (Contains-push (take k ids) (get_or ids k d))

    back : (id : TxnId) → Contains (take k ids ++ get_or ids k d ∷ []) id → Contains more id
    back id h = by_part (Contains-push_cases (take k ids) (get_or ids k d) id h)
      where
        by_part : Contains (take k ids) id ⊎ (get_or ids k d ≡ id) → Contains more id
        by_part (inl there) = (put.members id).1 (inl ((so_far.members id).1 there))
        by_part (inr e) = (put.members id).1 (inr e)

pub sorting_all : (parts : Parts) (ids chain : List TxnId) (k : ℕ) → length ids ≤ k → IsSorting parts (take k ids) chain → IsSorting parts ids chain
sorting_all parts ids chain k past so_far = subst (λ front. IsSorting parts front chain) (take_all k ids past) so_far

-- fences picked as ordered among all are ordered among themselves
pub picked_ordered : (parts : Parts) (fences chained : List TxnId) → ((id : TxnId) → Contains chained id ↔ (Contains fences id × IsOrderedAmong parts fences id)) → (a b : TxnId) → Contains chained a → Contains chained b → AreOrdered parts a b
picked_ordered parts fences chained members a b ha hb = All-contains (AreOrdered parts a) fences b ((members a).0 ha).1 ((members b).0 hb).0

pub picked_remain : (parts : Parts) (ids fences : List TxnId) → IsPicked (IsRemainingFence parts) ids fences → All (Remains parts) fences
picked_remain parts ids fences picked k d within = fence_remains parts (get_or fences k d) ((picked.members (get_or fences k d)).0 (Contains-get_or fences k d within)).1

pub is_chain : (parts : Parts) (ids fences chained chain : List TxnId) → ((id : TxnId) → Contains ids id ↔ Remains parts id) → IsPicked (IsRemainingFence parts) ids fences → ((id : TxnId) → Contains chained id ↔ (Contains fences id × IsOrderedAmong parts fences id)) → IsSorting parts chained chain → IsChain parts chain
is_chain parts ids fences chained chain listed all_fences all_chained sorting = record { members = λ id. (into id, back id); order = sorting.order }
  where
    listed_fence : (id : TxnId) → IsRemainingFence parts id → Contains fences id
    listed_fence id h = (all_fences.members id).1 ((listed id).1 (fence_remains parts id h), h)

    into : (id : TxnId) → Contains chain id → IsChained parts id
    into id h =
        let found = (all_chained id).0 ((sorting.members id).0 h) in
        record { remains = ((all_fences.members id).0 found.0).1; ordered = λ other is apart. by_case other apart (All-contains (AreOrdered parts id) fences other found.1 (listed_fence other is)) }
      where
        by_case : (other : TxnId) → other ≢ id → AreOrdered parts id other → IsBefore parts other id ⊎ IsBefore parts id other
        by_case other apart (inl same) = absurd (apart (sym same))
        by_case other apart (inr h) = h

    back : (id : TxnId) → IsChained parts id → Contains chain id
    back id chained_here = (sorting.members id).1 ((all_chained id).1 (listed_fence id chained_here.remains, each))
      where
        each : All (AreOrdered parts id) fences
        each k d within = by_case (same_or_not id (get_or fences k d))
          where
            by_case : (id ≡ get_or fences k d) ⊎ (id ≡ get_or fences k d → ⊥) → AreOrdered parts id (get_or fences k d)
            by_case (inl same) = inl same
            by_case (inr apart) = inr (chained_here.ordered (get_or fences k d) ((all_fences.members (get_or fences k d)).0 (Contains-get_or fences k d within)).1 (λ e. apart (sym e)))

-- all that stands in front of what remains is listed
pub front_is : (parts : Parts) (fence : TxnId) (ids front : List TxnId) → Remains parts fence → ((id : TxnId) → Contains ids id ↔ Remains parts id) → ((a b : TxnId) → Known parts [] a b → Contains ids a × Contains ids b) → IsPicked (InFront parts fence) ids front → (id : TxnId) → Contains front id ↔ InFront parts fence id
front_is parts fence ids front remains listed known picked id = ((λ h. ((picked.members id).0 h).1), (λ h. (picked.members id).1 (by_case h, h)))
  where
    by_case : InFront parts fence id → Contains ids id
    by_case (inl e) = subst (λ x. Contains ids x) (sym e) ((listed fence).1 remains)
    by_case (inr before) = (known id fence before).0
