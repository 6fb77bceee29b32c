-- A cut keeps what parts stand for.
use Rattle.std.proofs.Common.{◌≡◌, ◌≢◌, ◌↔◌, ℕ, ◌+◌, ◌<◌, ◌≤◌, ◌⊎◌, true, false, Bool, List, [], ◌∷◌, ◌++◌, length, drop, Some, Option, refl, sym, subst, ◌∙◌, inl, inr, arith, suc, zero, ap, nat_cmp, length-set}
use Rattle.std.specs.Prelude.{IsSomeAnd, slice_get, slice_set}
use Rattle.std.specs.FinMap.{FinMap, get}
use Rattle.std.proofs.lemmas.Bool.{cases_lt, cases_eq}
use Rattle.std.proofs.lemmas.List.{drop_all, length_push}
use Rattle.list_lemmas.proofs.Places.{place_left}
use Rattle.txn.specs.declared.transactions.Txn.{Txn}
use Rattle.txn.specs.declared.transactions.TxnId.{TxnId}
use Rattle.txn.specs.declared.transactions.Fragment.{Fragment}
use Rattle.txn.specs.Transactions.{IsFence}
use Rattle.txn.specs.History.{History, session_of}
use Rattle.order_check.specs.declared.remainder.Parts.{Parts}
use Rattle.order_check.specs.declared.remainder.Kind.{Kind}
use Rattle.order_check.specs.declared.remainder.Kind.TheVariants.{Serial, Pending, Violated, Spent}
use Rattle.order_check.specs.Based.{remaining_at, remaining_of, received_count, last_gone, HasPending, HasGoneBase, Remains}
use Rattle.order_check.specs.Settled.{IsBefore, IsCutAt, IsCutOf, IsLastIn, IsPast, InFront, NoSession, count_in, or_else}
use Rattle.order_check.specs.Cuts.{IsFront, IsSettledFor}
use Rattle.order_check.specs.StandsFor.{Arrival, More, Joins, Returns, StandsFor, ComesNext, IsAnchor, IsAnchored, IsNextFragment, IsJoiningFragment, IsReturningFragment, IsOpenSession, MayCome, parts_after, parts_joined, parts_returned, parts_with, parts_then}
use Rattle.order_check.specs.Verdict.{HasOrder, IsVerdict}
use Rattle.order_check.proofs.CutAhead.{rest_behind}
use Rattle.order_check.proofs.CutCounts.{cut_looks}
use Rattle.order_check.proofs.CutReads.{CutLooks}
use Rattle.order_check.proofs.Extending.{Extends, base_grown, begins_behind, comes_behind, comes_past, extends_joined, extends_returned, extends_with, fence_writes, first_of, front_through, settled_grown}
use Rattle.order_check.proofs.Fenced.{fence_whole}
use Rattle.order_check.proofs.Joined.{opened_other}
use Rattle.order_check.proofs.OrderLaws.{writer_remains}
use Rattle.order_check.proofs.Splitting.{split_law, received_same}

-- the old parts and those that a cut of a front of them left
record Cut (front old new : Parts) (fence : TxnId) (gone : List TxnId) (last : FinMap nat_cmp TxnId) : Type 0 where
  base : HasGoneBase old
  order : HasOrder front
  is : IsFront front old
  settled : IsSettledFor front old fence
  cut : IsCutAt front fence gone last
  leaves : IsCutOf old new gone last

drop_seam : {X : Type 0} (n : ℕ) (xs ys : List X) → n ≤ length xs → drop n (xs ++ ys) ≡ drop n xs ++ ys
drop_seam zero xs ys within = refl
drop_seam (suc n) [] ys within = absurd (omega arith)
drop_seam (suc n) (x ∷ xs) ys within = drop_seam n xs ys (omega arith)

received_kept : (front old new : Parts) (fence : TxnId) (gone : List TxnId) (last : FinMap nat_cmp TxnId) → Cut front old new fence gone last → (s : ℕ) → received_count new s ≡ received_count old s
received_kept front old new fence gone last c = received_same front old new fence gone last NoSession c.is c.settled.so_far.settled c.cut c.leaves

-- no more are gone of a session than remained
few_gone : (front old new : Parts) (fence : TxnId) (gone : List TxnId) (last : FinMap nat_cmp TxnId) → Cut front old new fence gone last → (s : ℕ) → count_in gone s ≤ length (remaining_of old s)
few_gone front old new fence gone last c s = by_case (cases_lt (length (remaining_of old s)) (count_in gone s))
  where
    by_case : (length (remaining_of old s) < count_in gone s) ⊎ (count_in gone s ≤ length (remaining_of old s)) → count_in gone s ≤ length (remaining_of old s)
    by_case (inr fine) = fine
    by_case (inl many) =
        let same = received_kept front old new fence gone last c s in
        let mark = c.leaves.marks s in
        let none : length (remaining_of new s) ≡ 0 = ap length (c.leaves.remain s ∙ drop_all (count_in gone s) (remaining_of old s) (omega arith)) in
        absurd (omega (arith, same, mark, none))

looks_of : (front old new : Parts) (fence : TxnId) (gone : List TxnId) (last : FinMap nat_cmp TxnId) → Cut front old new fence gone last → CutLooks old new gone
looks_of front old new fence gone last c = cut_looks front old new fence gone last NoSession c.is c.settled.so_far.settled c.cut c.leaves

-- a fence that is an anchor after the cut remained before it, and is the cut's or comes after that
anchor_before : (front old new : Parts) (fence : TxnId) (gone : List TxnId) (last : FinMap nat_cmp TxnId) (anchor : TxnId) → Cut front old new fence gone last → IsAnchor new anchor → IsSomeAnd (remaining_at old anchor) IsFence × ((anchor ≡ fence) ⊎ IsBefore old fence anchor)
anchor_before front old new fence gone last anchor c (inl is) =
    let looks = looks_of front old new fence gone last c in
    let was = looks.new_remains anchor (writer_remains new anchor 0 (fence_writes new anchor is)) in
    (subst (λ (o : Option Txn). IsSomeAnd o IsFence) (looks.same anchor was.0 was.1) is, inr (rest_behind front old fence gone last c.is c.settled.so_far c.cut anchor was.0 was.1))
anchor_before front old new fence gone last anchor c (inr named) =
    let told : get last 0 ≡ Some fence = (c.cut.last_of 0 fence).1 fence_last in
    let e : Some anchor ≡ Some fence = sym named ∙ c.leaves.writers 0 ∙ ap (λ found. or_else found (last_gone old 0)) told in
    let same : anchor ≡ fence = cc in
    (subst (λ (x : TxnId). IsSomeAnd (remaining_at old x) IsFence) (sym same) (fence_whole front old c.is fence c.settled.so_far.settled.remains), inl same)
  where
    by_side : (other : TxnId) → InFront front fence other → other ≢ fence → IsBefore front other fence
    by_side other (inl same) apart = absurd (apart same)
    by_side other (inr before) apart = before

    fence_last : IsLastIn front fence 0 fence
    fence_last = record {
      front = inl refl;
      written = fence_writes front fence c.settled.so_far.settled.remains;
      last = λ other ahead writes apart. by_side other ahead apart;
    }

anchored_before : (front old new : Parts) (fence : TxnId) (gone : List TxnId) (last : FinMap nat_cmp TxnId) (fragment : Fragment) → Cut front old new fence gone last → IsAnchored new fragment → IsAnchored old fragment
anchored_before front old new fence gone last fragment c (anchor, is, begins) = (anchor, inl (anchor_before front old new fence gone last anchor c is).0, begins)

-- what may come after the cut might have come before it
next_before : (front old new : Parts) (fence : TxnId) (gone : List TxnId) (last : FinMap nat_cmp TxnId) (arrival : Arrival) → Cut front old new fence gone last → ComesNext new arrival → ComesNext old arrival
next_before front old new fence gone last (More fragment) c next = record {
  session = (subst (λ n. fragment.session < n) c.leaves.sessions next.session.0, λ is_closed. next.session.1 (ap (λ flags. slice_get flags fragment.session) c.leaves.closed ∙ is_closed));
  next = next.next ∙ received_kept front old new fence gone last c fragment.session;
}
next_before front old new fence gone last (Joins fragment) c next = record {
  session = next.session ∙ c.leaves.sessions;
  first = next.first;
  anchored = anchored_before front old new fence gone last fragment c next.anchored;
}
next_before front old new fence gone last (Returns fragment) c next = record {
  session = subst (λ n. fragment.session < n) c.leaves.sessions next.session;
  next = next.next ∙ received_kept front old new fence gone last c fragment.session;
  anchored = anchored_before front old new fence gone last fragment c next.anchored;
}

-- parts that grow by the same on both sides of the cut
cut_grown : (front old new whole left : Parts) (fence : TxnId) (gone : List TxnId) (last : FinMap nat_cmp TxnId) (fragment : Fragment) → Cut front old new fence gone last → Extends old whole fragment → Extends new left fragment → IsSettledFor front whole fence → length left.remain ≡ length whole.remain → length left.base.marks ≡ length whole.base.marks → left.closed ≡ whole.closed → left.most_sessions ≡ whole.most_sessions → left.limit ≡ whole.limit → Cut front whole left fence gone last
cut_grown front old new whole left fence gone last fragment c before after settled sessions marks closed most limit = record {
  base = base_grown old whole before.is c.base;
  order = c.order;
  is = front_through front old whole c.is before.is;
  settled = settled;
  cut = c.cut;
  leaves = record {
    sessions = sessions;
    remain = λ s. left_of s (cases_eq s fragment.session);
    marks_length = marks;
    marks = λ s. sym (after.is.marks s) ∙ c.leaves.marks s ∙ ap (λ n. n + count_in gone s) (before.is.marks s);
    writers = λ key. sym (ap (λ map. get map key) after.is.last) ∙ c.leaves.writers key ∙ ap (λ map. or_else (get last key) (get map key)) before.is.last;
    closed = closed;
    most_sessions = most;
    limit = limit;
  };
}
  where
    left_of : (s : ℕ) → (s ≡ fragment.session) ⊎ (¬ (s ≡ fragment.session)) → session_of left.remain s ≡ drop (count_in gone s) (session_of whole.remain s)
    left_of s (inl here) =
        let q = fragment.session in
        let few = few_gone front old new fence gone last c q in
        let e : session_of left.remain q ≡ drop (count_in gone q) (session_of whole.remain q) = after.here ∙ ap (λ txns. txns ++ fragment.txns) (c.leaves.remain q) ∙ sym (drop_seam (count_in gone q) (session_of old.remain q) fragment.txns few) ∙ ap (drop (count_in gone q)) (sym before.here) in
        rw here e
    left_of s (inr apart) = after.others s apart ∙ c.leaves.remain s ∙ ap (drop (count_in gone s)) (sym (before.others s apart))

-- the fence stays settled for what comes with an anchored fence
settled_anchored : (front old new whole : Parts) (fence : TxnId) (gone : List TxnId) (last : FinMap nat_cmp TxnId) (fragment : Fragment) → Cut front old new fence gone last → Extends old whole fragment → IsAnchored new fragment → ((s : ℕ) → ¬ (s ≡ fragment.session) → IsOpenSession whole s → IsOpenSession old s) → IsSettledFor front whole fence
settled_anchored front old new whole fence gone last fragment c extends (anchor, is, begins) others =
    settled_grown front old whole fence c.is extends.is c.settled (comes_behind old whole fence fragment extends first.0 first.1) (λ s receives. by_session_of s receives (cases_eq s fragment.session))
  where
    was : IsSomeAnd (remaining_at old anchor) IsFence × ((anchor ≡ fence) ⊎ IsBefore old fence anchor)
    was = anchor_before front old new fence gone last anchor c is

    first : Remains whole (first_of old fragment) × IsBefore whole fence (first_of old fragment)
    first = begins_behind old whole fence anchor fragment extends was.0 was.1 begins

    by_session_of : (s : ℕ) → IsOpenSession whole s → (s ≡ fragment.session) ⊎ (¬ (s ≡ fragment.session)) → IsOpenSession old s ⊎ IsPast whole fence s
    by_session_of s receives (inl here) = inr (first_of old fragment, sym here, first.0, inr first.1)
    by_session_of s receives (inr apart) = inl (others s apart receives)

-- one more arrival on both sides
cut_after : (front old new : Parts) (fence : TxnId) (gone : List TxnId) (last : FinMap nat_cmp TxnId) (arrival : Arrival) → Cut front old new fence gone last → ComesNext new arrival → Cut front (parts_after old arrival) (parts_after new arrival) fence gone last
cut_after front old new fence gone last (More fragment) c next =
    let before : IsNextFragment old fragment = next_before front old new fence gone last (More fragment) c next in
    let extends = extends_with old fragment before.session.0 in
    let settled = settled_grown front old (parts_with old fragment) fence c.is extends.is c.settled (comes_past old (parts_with old fragment) fence fragment extends (c.settled.past fragment.session before.session))
    (λ s receives. inl (subst (λ n. s < n) (length-set old.remain fragment.session _) receives.0, receives.1)) in
    cut_grown front old new (parts_with old fragment) (parts_with new fragment) fence gone last fragment c extends (extends_with new fragment next.session.0) settled
    (length-set new.remain fragment.session _ ∙ c.leaves.sessions ∙ sym (length-set old.remain fragment.session _)) c.leaves.marks_length c.leaves.closed c.leaves.most_sessions c.leaves.limit
cut_after front old new fence gone last (Joins fragment) c next =
    let before : IsJoiningFragment old fragment = next_before front old new fence gone last (Joins fragment) c next in
    let extends = extends_joined old fragment before.session in
    let settled = settled_anchored front old new (parts_joined old fragment) fence gone last fragment c extends next.anchored (λ s apart receives. was_open s apart receives before.session) in
    cut_grown front old new (parts_joined old fragment) (parts_joined new fragment) fence gone last fragment c extends (extends_joined new fragment next.session) settled
    (length_push new.remain fragment.txns ∙ ap (λ n. n + 1) c.leaves.sessions ∙ sym (length_push old.remain fragment.txns))
    (length_push new.base.marks 0 ∙ ap (λ n. n + 1) c.leaves.marks_length ∙ sym (length_push old.base.marks 0))
    (ap (λ (flags : List Bool). flags ++ false ∷ []) c.leaves.closed) c.leaves.most_sessions c.leaves.limit
  where
    was_open : (s : ℕ) → ¬ (s ≡ fragment.session) → IsOpenSession (parts_joined old fragment) s → fragment.session ≡ length old.remain → IsOpenSession old s
    was_open s apart receives new_one = (
      (let more = length_push old.remain fragment.txns in let not_last : ¬ (s ≡ length old.remain) = λ same. apart (same ∙ sym new_one) in omega (arith, more, receives.0, not_last)),
      λ closed. receives.1 (place_left old.closed (false ∷ []) s true closed),
    )
cut_after front old new fence gone last (Returns fragment) c next =
    let before : IsReturningFragment old fragment = next_before front old new fence gone last (Returns fragment) c next in
    let extends = extends_returned old fragment before.session in
    let settled = settled_anchored front old new (parts_returned old fragment) fence gone last fragment c extends next.anchored was_open in
    cut_grown front old new (parts_returned old fragment) (parts_returned new fragment) fence gone last fragment c extends (extends_returned new fragment next.session) settled
    (length-set new.remain fragment.session _ ∙ c.leaves.sessions ∙ sym (length-set old.remain fragment.session _)) c.leaves.marks_length
    (ap (λ (flags : List Bool). slice_set flags fragment.session false) c.leaves.closed) c.leaves.most_sessions c.leaves.limit
  where
    was_open : (s : ℕ) → ¬ (s ≡ fragment.session) → IsOpenSession (parts_returned old fragment) s → IsOpenSession old s
    was_open s apart receives = (subst (λ n. s < n) (length-set old.remain fragment.session _) receives.0, λ closed. receives.1 (opened_other old.closed fragment.session s apart closed))

verdict_kept : (front old new : Parts) (fence : TxnId) (gone : List TxnId) (last : FinMap nat_cmp TxnId) (kind : Kind) → Cut front old new fence gone last → IsVerdict old kind ↔ IsVerdict new kind
verdict_kept front old new fence gone last kind c = by_kind kind
  where
    same : (HasOrder old ↔ HasOrder new) × (HasPending old ↔ HasPending new)
    same = split_law front old new gone last c.base c.order (record { fence = fence; is_front = c.is; settled = c.settled.so_far; cut = c.cut; leaves = c.leaves })

    by_kind : (kind : Kind) → IsVerdict old kind ↔ IsVerdict new kind
    by_kind Violated = (λ none some. none (same.0.1 some), λ none some. none (same.0.0 some))
    by_kind Pending = (λ h. (same.0.0 h.0, same.1.0 h.1), λ h. (same.0.1 h.0, same.1.1 h.1))
    by_kind Serial = (λ h. (same.0.0 h.0, λ p. h.1 (same.1.1 p)), λ h. (same.0.1 h.0, λ p. h.1 (same.1.0 p)))
    by_kind Spent = (λ h. h, λ h. h)

future_kept : (front old new : Parts) (fence : TxnId) (gone : List TxnId) (last : FinMap nat_cmp TxnId) (more : List Arrival) (kind : Kind) → Cut front old new fence gone last → MayCome new more → MayCome old more × (IsVerdict (parts_then old more) kind ↔ IsVerdict (parts_then new more) kind)
future_kept front old new fence gone last [] kind c come = (tt, verdict_kept front old new fence gone last kind c)
future_kept front old new fence gone last (arrival ∷ more) kind c come =
    let rest = future_kept front (parts_after old arrival) (parts_after new arrival) fence gone last more kind (cut_after front old new fence gone last arrival c come.0) come.1 in
    ((next_before front old new fence gone last arrival c come.0, rest.0), rest.1)

pub cut_stands : (front old new : Parts) (history : History) (fence : TxnId) (gone : List TxnId) (last : FinMap nat_cmp TxnId) → HasGoneBase old → StandsFor old history → HasOrder front → IsFront front old → IsSettledFor front old fence → IsCutAt front fence gone last → IsCutOf old new gone last → StandsFor new history
cut_stands front old new history fence gone last base stands order is settled cut leaves =
    let c : Cut front old new fence gone last = record { base = base; order = order; is = is; settled = settled; cut = cut; leaves = leaves } in
    record {
      sessions = stands.sessions ∙ sym leaves.sessions;
      received = λ s. received_kept front old new fence gone last c s ∙ stands.received s;
      future = λ more come kind.
          let kept = future_kept front old new fence gone last more kind c come in
          let told = stands.future more kept.0 kind in
          (λ h. kept.1.0 (told.0 h), λ h. told.1 (kept.1.1 h));
    }
