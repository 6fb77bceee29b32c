-- The fence that is found is the last settled one.
use Rattle.std.proofs.Common.{◌≡◌, ◌≢◌, ◌+◌, ◌⊎◌, List, [], ◌∷◌, ◌++◌, length, get_or, refl, sym, ap, ◌∙◌, inl, inr, subst, arith, append_assoc, Option, Some, None}
use Rattle.std.specs.Prelude.{◌↔◌, All, Contains}
use Rattle.std.specs.List.{AllPairs}
use Rattle.std.proofs.Math.Seq.{get_or-append_seam}
use Rattle.std.proofs.lemmas.List.{get_or_append_left, length-append}
use Rattle.std.proofs.lemmas.List.Elements.{All-contains, All-cons, Contains-get_or, Contains-append_cases, Contains-append_left, Contains-push, Contains-push_cases}
use Rattle.txn.specs.declared.transactions.TxnId.{TxnId}
use Rattle.txn.proofs.Ids.{same_or_not}
use Rattle.order_check.specs.declared.remainder.Parts.{Parts}
use Rattle.order_check.specs.Based.{Remains}
use Rattle.order_check.specs.Settled.{IsBefore}
use Rattle.clock_choices.specs.OrderedAmong.{AreOrdered, IsOrderedAmong}
use Rattle.fence_chain.specs.Chains.{IsChain}
use Rattle.settle.specs.declared.cuts.Cut.{Cut}
use Rattle.settle.specs.Found.{IsFound}
use Rattle.settle.specs.Lines.{IsFoundAmong, IsLeft, IsOrderedChain, IsOrderedFence}
use Rattle.settle.proofs.Tested.{IsSettledNow, fence_remains}

-- what stands ahead of an element has the relation to it
ahead_of : {X : Type 0} (R : X → X → Type 0) (ahead behind : List X) (y x : X) → AllPairs R ((ahead ++ y ∷ []) ++ behind) → Contains ahead x → R x y
ahead_of {X} R ahead behind y x order (k, within, is) =
    let whole : List X = ahead ++ y ∷ behind in
    let same : (ahead ++ y ∷ []) ++ behind ≡ ahead ++ y ∷ behind = append_assoc ahead (y ∷ []) behind in
    let long : length (ahead ++ y ∷ behind) ≡ length ahead + length (y ∷ behind) = length-append ahead (y ∷ behind) in
    let here : AllPairs R (ahead ++ y ∷ behind) = subst (λ xs. AllPairs R xs) same order in
    let first : get_or (ahead ++ y ∷ behind) k x ≡ x = get_or_append_left ahead (y ∷ behind) x k within ∙ is in
    let second : get_or (ahead ++ y ∷ behind) (length ahead) x ≡ y = get_or-append_seam ahead y behind x in
    subst (λ w. R w y) first (subst (λ w. R (get_or (ahead ++ y ∷ behind) k x) w) second (here k (length ahead) x within (omega (arith, long))))

settled_ordered : (parts : Parts) (fence : TxnId) → IsSettledNow parts fence → IsOrderedFence parts fence
settled_ordered parts fence settled = record { remains = settled.remains; ordered = settled.ordered }

-- of the chain those that are ordered with all that remains
pub ordered_chain_is : (parts : Parts) (ids fences picked : List TxnId) → ((id : TxnId) → Contains ids id ↔ Remains parts id) → IsChain parts fences → ((id : TxnId) → Contains picked id ↔ (Contains fences id × IsOrderedAmong parts ids id)) → AllPairs (IsBefore parts) picked → IsOrderedChain parts picked
ordered_chain_is parts ids fences picked listed is_chain members order = record { members = λ id. (into id, back id); order = order }
  where
    into : (id : TxnId) → Contains picked id → IsOrderedFence parts id
    into id h = let (there, among) = (members id).0 h in record { remains = ((is_chain.members id).0 there).remains; ordered = λ other remains apart. by_case other apart (All-contains (AreOrdered parts id) ids other among ((listed other).1 remains)) }
      where
        by_case : (other : TxnId) → other ≢ id → AreOrdered parts id other → IsBefore parts other id ⊎ IsBefore parts id other
        by_case other apart (inl same) = absurd (apart (sym same))
        by_case other apart (inr h) = h

    back : (id : TxnId) → IsOrderedFence parts id → Contains picked id
    back id is = (members id).1 ((is_chain.members id).1 (record { remains = is.remains; ordered = λ other fence apart. is.ordered other (fence_remains parts other fence) apart }), among)
      where
        among : IsOrderedAmong parts ids id
        among k d within = by_id (same_or_not id (get_or ids k d))
          where
            by_id : (id ≡ get_or ids k d) ⊎ (id ≡ get_or ids k d → ⊥) → AreOrdered parts id (get_or ids k d)
            by_id (inl same) = inl same
            by_id (inr apart) = inr (is.ordered (get_or ids k d) ((listed (get_or ids k d)).0 (Contains-get_or ids k d within)) (λ e. apart (sym e)))

pub chain_remains : (parts : Parts) (fences : List TxnId) → IsChain parts fences → All (Remains parts) fences
chain_remains parts fences is_chain k d within = fence_remains parts (get_or fences k d) ((is_chain.members (get_or fences k d)).0 (Contains-get_or fences k d within)).remains

pub ids_remain : (parts : Parts) (ids : List TxnId) → ((id : TxnId) → Contains ids id ↔ Remains parts id) → All (Remains parts) ids
ids_remain parts ids listed k d within = (listed (get_or ids k d)).0 (Contains-get_or ids k d within)

pub found_is : (parts : Parts) (fences : List TxnId) (found : Option Cut) → IsOrderedChain parts fences → IsFoundAmong parts fences found → IsFound parts found
found_is parts fences None is_chain none = λ fence settled. All-contains (λ f. ¬ IsSettledNow parts f) fences fence none ((is_chain.members fence).1 (settled_ordered parts fence settled)) settled
found_is parts fences (Some cut) is_chain (ahead, left, settled, cut_at) = (record { settled = settled; last = last }, cut_at)
  where
    last : (other : TxnId) → IsSettledNow parts other → other ≢ cut.fence → IsBefore parts other cut.fence
    last other other_settled apart = by_part (Contains-append_cases (ahead ++ cut.fence ∷ []) left.behind other (subst (λ xs. Contains xs other) left.whole ((is_chain.members other).1 (settled_ordered parts other other_settled))))
      where
        by_front : Contains ahead other ⊎ (cut.fence ≡ other) → IsBefore parts other cut.fence
        by_front (inl there) = ahead_of (IsBefore parts) ahead left.behind cut.fence other (subst (λ xs. AllPairs (IsBefore parts) xs) left.whole is_chain.order) there
        by_front (inr same) = absurd (apart (sym same))

        by_part : Contains (ahead ++ cut.fence ∷ []) other ⊎ Contains left.behind other → IsBefore parts other cut.fence
        by_part (inl there) = by_front (Contains-push_cases ahead cut.fence other there)
        by_part (inr there) = absurd (All-contains (λ f. ¬ IsSettledNow parts f) left.behind other left.not_settled there other_settled)

pub left_all : (parts : Parts) (fences : List TxnId) → IsLeft parts fences fences
left_all parts fences = record { behind = []; whole = sym (append_none fences); not_settled = λ k d within. absurd (omega arith) }
  where
    append_none : (xs : List TxnId) → xs ++ [] ≡ xs
    append_none [] = refl
    append_none (x ∷ xs) = ap (λ ys. x ∷ ys) (append_none xs)

-- the last of what is left is one of the fences
pub left_has : (parts : Parts) (fences left rest : List TxnId) (fence : TxnId) → left ≡ rest ++ fence ∷ [] → IsLeft parts fences left → Contains fences fence
left_has parts fences left rest fence e so_far = subst (λ xs. Contains xs fence) (sym so_far.whole) (Contains-append_left left so_far.behind fence (subst (λ xs. Contains xs fence) (sym e) (Contains-push rest fence)))

pub left_less : (parts : Parts) (fences left rest : List TxnId) (fence : TxnId) → left ≡ rest ++ fence ∷ [] → IsLeft parts fences left → ¬ IsSettledNow parts fence → IsLeft parts fences rest
left_less parts fences left rest fence e so_far not_settled = record { behind = fence ∷ so_far.behind; whole = so_far.whole ∙ ap (λ xs. xs ++ so_far.behind) e ∙ append_assoc rest (fence ∷ []) so_far.behind; not_settled = All-cons (λ f. ¬ IsSettledNow parts f) fence so_far.behind not_settled so_far.not_settled }

pub left_none : (parts : Parts) (fences left : List TxnId) → left ≡ [] → IsLeft parts fences left → All (λ f. ¬ IsSettledNow parts f) fences
left_none parts fences left e so_far = subst (λ xs. All (λ f. ¬ IsSettledNow parts f) xs) (sym (so_far.whole ∙ ap (λ xs. xs ++ so_far.behind) e)) so_far.not_settled
