-- Orders of parts that have grown behind a front, and a fence that is settled in the front.
use Rattle.std.proofs.Common.{◌≡◌, ℕ, ◌+◌, ◌-◌, ◌<◌, ◌≤◌, ◌⊎◌, true, List, [], ◌∷◌, ◌++◌, length, Some, None, Option, refl, sym, subst, ◌∙◌, inl, inr, arith, suc, ap, IsSome}
use Rattle.std.specs.Prelude.{Contains, IsSomeAnd}
use Rattle.std.specs.List.{slice_get}
use Rattle.std.proofs.lemmas.Bool.{false≢true, cases_lt}
use Rattle.std.proofs.lemmas.Option.{slice_get_within, slice_get_read}
use Rattle.list_lemmas.proofs.Places.{at_filter, place_left, place_right, split_at, IsAt, within_some}
use Rattle.list_lemmas.specs.Precedes.{Precedes}
use Rattle.txn.specs.declared.transactions.TxnId.{TxnId}
use Rattle.txn.specs.declared.transactions.Txn.{Txn}
use Rattle.txn.specs.declared.transactions.Source.{Source}
use Rattle.txn.specs.declared.transactions.Source.TheVariants.{Init, By}
use Rattle.txn.specs.declared.choices.Choice.{Choice}
use Rattle.txn.specs.Transactions.{IsFence}
use Rattle.txn.specs.History.{writes_key, in_session}
use Rattle.order_check.specs.declared.remainder.Parts.{Parts}
use Rattle.order_check.specs.Based.{mark_of, remaining_of, remaining_ids, remaining_at, Remains, HasGoneBase}
use Rattle.order_check.specs.Explains.{Explains}
use Rattle.order_check.specs.Known.{Known, IsChoice, ReadsKey, WritesKey, IsBaseSource, by_session, by_read, by_base, by_taken, through, forces_after, forces_before}
use Rattle.order_check.specs.Settled.{IsBefore, InFront}
use Rattle.order_check.specs.CutLaws.{SplitsAt}
use Rattle.order_check.specs.Cuts.{IsFront, GoesOn, IsSettledBehind}
use Rattle.order_check.proofs.KeepingLaws.{kept_never_twice, one_way}
use Rattle.order_check.proofs.OrderLaws.{stands, in_own_session}
use Rattle.order_check.proofs.Received.{look_up}
use Rattle.order_check.proofs.Remaining.{remaining_place}
use Rattle.order_check.proofs.SessionIds.{id_at_place}
use Rattle.order_check.proofs.TakenLaws.{keeps_taken}

-- the marks of a front are those of the whole
pub mark_same : (front whole : Parts) → IsFront front whole → (s : ℕ) → mark_of front s ≡ mark_of whole s
mark_same front whole is s = is.marks s

-- what remains of the front remains of the whole
pub still_remains : (front whole : Parts) → IsFront front whole → (id : TxnId) (txn : Txn) → remaining_at front id ≡ Some txn → remaining_at whole id ≡ Some txn
still_remains front whole is id txn at =
    let place = remaining_place front id txn at in
    let mark = mark_same front whole is id.session in
    let more = is.remain id.session in
    look_up whole id (omega (arith, place.0, mark)) ∙ sym (ap (λ m. slice_get (remaining_of whole id.session) (id.number - m)) mark)
    ∙ ap (λ txns. slice_get txns (id.number - mark_of front id.session)) more.1
    ∙ place_left (remaining_of front id.session) more.0 (id.number - mark_of front id.session) txn place.1

-- a fact about a transaction of the front is one about that of the whole
at_whole : (front whole : Parts) → IsFront front whole → (id : TxnId) (P : Option Txn → Type 0) → ((none : None ≡ remaining_at front id) → P None → ⊥) → P (remaining_at front id) → P (remaining_at whole id)
at_whole front whole is id P no_none h = by_found (remaining_at front id) refl h
  where
    by_found : (found : Option Txn) → remaining_at front id ≡ found → P found → P (remaining_at whole id)
    by_found None e h = absurd (no_none (sym e) h)
    by_found (Some txn) e h = subst P (sym (still_remains front whole is id txn e)) h

pub remains_whole : (front whole : Parts) → IsFront front whole → (id : TxnId) → Remains front id → Remains whole id
remains_whole front whole is id h = at_whole front whole is id (λ o. IsSome o) (λ _ none. false≢true none) h

pub reads_whole : (front whole : Parts) → IsFront front whole → (id : TxnId) (key : ℕ) (source : Source) → ReadsKey front id key source → ReadsKey whole id key source
reads_whole front whole is id key source h = at_whole front whole is id (λ o. IsSomeAnd o (λ txn. Contains txn.reads (key, source))) (λ _ none. none) h

pub writes_whole : (front whole : Parts) → IsFront front whole → (id : TxnId) (key : ℕ) → WritesKey front id key → WritesKey whole id key
writes_whole front whole is id key h = at_whole front whole is id (λ o. writes_key o key ≡ true) (λ _ none. false≢true none) h

-- a fence of the front is one of the whole
pub fence_whole : (front whole : Parts) → IsFront front whole → (id : TxnId) → IsSomeAnd (remaining_at front id) IsFence → IsSomeAnd (remaining_at whole id) IsFence
fence_whole front whole is id h = at_whole front whole is id (λ o. IsSomeAnd o IsFence) (λ _ none. none) h

base_whole : (front whole : Parts) → IsFront front whole → (key : ℕ) (source : Source) → IsBaseSource front key source → IsBaseSource whole key source
base_whole front whole is key Init h = sym (ap (λ last. Rattle.std.specs.FinMap.get last key) is.last) ∙ h
base_whole front whole is key (By writer) h = sym (ap (λ last. Rattle.std.specs.FinMap.get last key) is.last) ∙ h

choice_whole : (front whole : Parts) → IsFront front whole → (choice : Choice) → IsChoice front choice → IsChoice whole choice
choice_whole front whole is choice h = record {
  reads = reads_whole front whole is choice.reader choice.key (By choice.writer) h.reads;
  written = writes_whole front whole is choice.writer choice.key h.written;
  other = writes_whole front whole is choice.other choice.key h.other;
  not_writer = h.not_writer;
  not_reader = h.not_reader;
}

-- what is known of the front is known of the whole
pub known_whole : (front whole : Parts) → IsFront front whole → (a b : TxnId) → Known front [] a b → Known whole [] a b
known_whole front whole is a b (by_session ra rb same below) = by_session (remains_whole front whole is a ra) (remains_whole front whole is b rb) same below
known_whole front whole is a b (by_read key reads writes) = by_read key (reads_whole front whole is b key (By a) reads) (writes_whole front whole is a key writes)
known_whole front whole is a b (by_base key (source, reads, of) writes apart) = by_base key (source, reads_whole front whole is a key source reads, base_whole front whole is key source of) (writes_whole front whole is b key writes) apart
known_whole front whole is a b (by_taken (k, within, at)) = absurd (omega arith)
known_whole front whole is a b (through {b = m} first second) = through (known_whole front whole is a m first) (known_whole front whole is m b second)
known_whole front whole is a b (forces_after choice c known) = forces_after choice (choice_whole front whole is choice c) (known_whole front whole is choice.writer choice.other known)
known_whole front whole is a b (forces_before choice c known) = forces_before choice (choice_whole front whole is choice c) (known_whole front whole is choice.other choice.reader known)

-- what remains of the whole remains of the front, or its session goes on past the front, and it stands behind all of the front
pub in_front_or_behind : (front whole : Parts) → IsFront front whole → (id : TxnId) → Remains whole id → Remains front id ⊎ (GoesOn front whole id.session × ((other : TxnId) → other.session ≡ id.session → Remains front other → other.number < id.number))
in_front_or_behind front whole is id remains = by_place (cases_lt (id.number - mark) (length (remaining_of front id.session)))
  where
    mark : ℕ
    mark = mark_of whole id.session

    place : (mark ≤ id.number) × (id.number - mark < length (remaining_of whole id.session))
    place = by_found (remaining_at whole id) refl remains
      where
        by_found : (found : Option Txn) → remaining_at whole id ≡ found → IsSome found → (mark ≤ id.number) × (id.number - mark < length (remaining_of whole id.session))
        by_found None e some = absurd (false≢true some)
        by_found (Some txn) e some = let at = remaining_place whole id txn e in (at.0, slice_get_within (remaining_of whole id.session) (id.number - mark) txn at.1)

    below : (other : TxnId) → Remains front other → (mark_of front other.session ≤ other.number) × (other.number - mark_of front other.session < length (remaining_of front other.session))
    below other r = by_found (remaining_at front other) refl r
      where
        by_found : (found : Option Txn) → remaining_at front other ≡ found → IsSome found → (mark_of front other.session ≤ other.number) × (other.number - mark_of front other.session < length (remaining_of front other.session))
        by_found None e some = absurd (false≢true some)
        by_found (Some txn) e some = let at = remaining_place front other txn e in (at.0, slice_get_within (remaining_of front other.session) (other.number - mark_of front other.session) txn at.1)

    by_place : (id.number - mark < length (remaining_of front id.session)) ⊎ (length (remaining_of front id.session) ≤ id.number - mark) → Remains front id ⊎ (GoesOn front whole id.session × ((other : TxnId) → other.session ≡ id.session → Remains front other → other.number < id.number))
    by_place (inl within) =
        let same = mark_same front whole is id.session in
        let here : IsSome (slice_get (remaining_of front id.session) (id.number - mark_of front id.session)) = within_some (remaining_of front id.session) (id.number - mark_of front id.session) (omega (arith, same)) in
        inl (subst (λ o. IsSome o) (sym (look_up front id (omega (arith, same, place.0)))) here)
    by_place (inr past) = inr (
      omega (arith, place.1),
      λ other session r.
          let b = below other r in
          let marks : mark_of front other.session ≡ mark = ap (mark_of front) session ∙ mark_same front whole is id.session in
          let lengths : length (remaining_of front other.session) ≡ length (remaining_of front id.session) = ap (λ s. length (remaining_of front s)) session in
          omega (arith, b.0, b.1, marks, lengths, place.0),
    )

-- what stands in a list stands at a place
pub at_place : (ids : List TxnId) (id : TxnId) → Contains ids id → IsAt ids id
at_place ids id (k, within, is) = (k, slice_get_read ids (length ids) k id refl within (sym is))

-- what stands in an order that explains parts remains of them
pub order_remains : (parts : Parts) (order : List TxnId) (id : TxnId) → Explains parts order → IsAt order id → Remains parts id
order_remains parts order id h at = by_place (subst (λ ids. IsAt ids id) (h.sessions id.session) (at_filter (in_session id.session) order id (in_own_session id) at))
  where
    by_place : IsAt (remaining_ids parts id.session) id → Remains parts id
    by_place (k, here) =
        let place = id_at_place id.session (mark_of parts id.session) (remaining_of parts id.session) k id here in
        subst (λ o. IsSome o) (sym (look_up parts id (omega (arith, place.2)))) (within_some (remaining_of parts id.session) (id.number - mark_of parts id.session) (omega (arith, place.0, place.2)))

-- an order that explains the whole is split by the fence
pub fence_splits : (front whole : Parts) (fence : TxnId) (order : List TxnId) → HasGoneBase whole → IsFront front whole → IsSettledBehind front whole fence → Explains whole order → SplitsAt front fence order
fence_splits front whole fence order gone is settled h = by_place (stands whole order fence h fence_remains)
  where
    fence_remains : Remains whole fence
    fence_remains = remains_whole front whole is fence (by_found (remaining_at front fence) settled.settled.remains)
      where
        by_found : (found : Option Txn) → IsSomeAnd found IsFence → IsSome found
        by_found None some = absurd some
        by_found (Some txn) some = refl

    known_of_whole : (a b : TxnId) → Known whole [] a b → Precedes order a b
    known_of_whole a b k = keeps_taken whole [] order gone h (λ x y (k, within, at). absurd (omega arith)) a b k

    known : (a b : TxnId) → Known front [] a b → Precedes order a b
    known a b k = known_of_whole a b (known_whole front whole is a b k)

    by_place : IsAt order fence → SplitsAt front fence order
    by_place (i, at) = by_split (split_at order i fence at)
      where
        by_split : (before after : List TxnId) × (order ≡ before ++ fence ∷ after) × (length before ≡ i) → SplitsAt front fence order
        by_split (before, after, split, long) = (before, after, split, in_before, in_after)
          where
            stands_before : (id : TxnId) → Contains before id → Precedes order id fence
            stands_before id has =
                let (k, here) = at_place before id has in
                let within = slice_get_within before k id here in
                (k, i, omega arith, subst (λ ids. slice_get ids k ≡ Some id) (sym split) (place_left before (fence ∷ after) k id here), at)

            stands_after : (id : TxnId) → Contains after id → Precedes order fence id
            stands_after id has =
                let (k, here) = at_place after id has in
                (i, length before + suc k, omega arith, at, subst (λ ids. slice_get ids (length before + suc k) ≡ Some id) (sym split) (place_right before (fence ∷ after) (suc k) id here))

            in_after : (id : TxnId) → Contains after id → ¬ InFront front fence id
            in_after id has (inl same) = kept_never_twice whole order fence h.sessions (subst (λ x. Precedes order fence x) same (stands_after id has))
            in_after id has (inr before_fence) = one_way whole order fence id h.sessions (stands_after id has) (known id fence before_fence)

            -- what stands in front of the fence doesn't stand behind it
            not_after : (id : TxnId) → Contains before id → ¬ Precedes order fence id
            not_after id has p = one_way whole order fence id h.sessions p (stands_before id has)

            by_kind : (id : TxnId) → Contains before id → Remains whole id → Remains front id ⊎ (GoesOn front whole id.session × ((other : TxnId) → other.session ≡ id.session → Remains front other → other.number < id.number)) → InFront front fence id
            by_kind id has remains (inl here) = by_side (settled.settled.ordered id here (λ same. kept_never_twice whole order fence h.sessions (subst (λ x. Precedes order x fence) same (stands_before id has))))
              where
                by_side : IsBefore front id fence ⊎ IsBefore front fence id → InFront front fence id
                by_side (inl b) = inr b
                by_side (inr a) = absurd (not_after id has (known fence id a))
            by_kind id has remains (inr (goes, below)) = absurd (not_after id has (known_of_whole fence id (settled.behind id remains (λ here. let less = below id refl here in omega arith))))

            in_before : (id : TxnId) → Contains before id → InFront front fence id
            in_before id has =
                let (k, here) = at_place before id has in
                let remains = order_remains whole order id h (k, subst (λ ids. slice_get ids k ≡ Some id) (sym split) (place_left before (fence ∷ after) k id here)) in
                by_kind id has remains (in_front_or_behind front whole is id remains)
