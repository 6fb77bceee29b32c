-- Parts to which a fragment has come, and what it leaves of a settled fence.
use Rattle.std.proofs.Common.{◌≡◌, ℕ, ◌+◌, ◌-◌, ◌<◌, ◌≤◌, ◌⊎◌, true, List, [], ◌++◌, length, Option, Some, None, refl, sym, subst, ap, ◌∙◌, arith, inl, inr, append_assoc}
use Rattle.std.specs.Prelude.{Contains, IsSomeAnd}
use Rattle.std.specs.List.{slice_get, list_any}
use Rattle.std.specs.FinMap.{get}
use Rattle.std.proofs.Common.{nat_eq}
use Rattle.std.proofs.lemmas.Bool.{cases_lt, cases_eq}
use Rattle.std.proofs.lemmas.List.{length_push}
use Rattle.list_lemmas.proofs.Places.{place_right}
use Rattle.txn.specs.declared.transactions.TxnId.{TxnId}
use Rattle.txn.specs.declared.transactions.Txn.{Txn}
use Rattle.txn.specs.declared.transactions.Fragment.{Fragment}
use Rattle.txn.specs.declared.transactions.Source.{Source}
use Rattle.txn.specs.declared.transactions.Source.TheVariants.{By}
use Rattle.txn.specs.Transactions.{IsFence}
use Rattle.txn.specs.History.{writes_key}
use Rattle.order_check.specs.declared.remainder.Parts.{Parts}
use Rattle.order_check.specs.Based.{mark_of, received_count, remaining_of, remaining_at, last_gone, Remains, IsGone, HasGoneBase}
use Rattle.order_check.specs.Known.{Known, ReadsKey, WritesKey, by_session, by_read, through}
use Rattle.order_check.specs.Settled.{IsBefore, IsPast}
use Rattle.order_check.specs.Cuts.{IsFront, GoesOn, IsSettledFor}
use Rattle.order_check.specs.StandsFor.{IsOpenSession, IsFenceFrom, parts_with, parts_joined, parts_returned}
use Rattle.order_check.proofs.Fenced.{in_front_or_behind, known_whole, remains_whole, writes_whole}
use Rattle.order_check.proofs.Joined.{marks_more, session_here, session_old}
use Rattle.order_check.proofs.KeptFronts.{front_itself, front_with, known_past, past_whole, with_other, with_same}
use Rattle.order_check.proofs.Received.{gone_past, look_up, received_cases}

-- the whole has what the old parts have, and the fragment at the end of its session
pub record Extends (old whole : Parts) (fragment : Fragment) : Type 0 where
  pub is : IsFront old whole
  pub here : remaining_of whole fragment.session ≡ remaining_of old fragment.session ++ fragment.txns
  pub others : (s : ℕ) → ¬ (s ≡ fragment.session) → remaining_of whole s ≡ remaining_of old s

pub extends_with : (parts : Parts) (fragment : Fragment) → fragment.session < length parts.remain → Extends parts (parts_with parts fragment) fragment
extends_with parts fragment within = record {
  is = front_with parts parts fragment (front_itself parts) within;
  here = with_same parts.remain fragment within;
  others = with_other parts.remain fragment;
}

pub extends_returned : (parts : Parts) (fragment : Fragment) → fragment.session < length parts.remain → Extends parts (parts_returned parts fragment) fragment
extends_returned parts fragment within =
    let is = front_with parts parts fragment (front_itself parts) within in
    record {
      is = record { last = refl; marks = λ s. refl; sessions = is.sessions; remain = is.remain };
      here = with_same parts.remain fragment within;
      others = with_other parts.remain fragment;
    }

pub extends_joined : (parts : Parts) (fragment : Fragment) → fragment.session ≡ length parts.remain → Extends parts (parts_joined parts fragment) fragment
extends_joined parts fragment new = record {
  is = record {
    last = refl;
    marks = λ s. sym (marks_more parts.base.marks s);
    sessions = omega (arith, length_push parts.remain fragment.txns);
    remain = λ s. by_case s (cases_eq s (length parts.remain));
  };
  here = session_here parts.remain fragment fragment.session new;
  others = λ s apart. session_old parts.remain fragment s (λ same. apart (same ∙ sym new));
}
  where
    by_case : (s : ℕ) → (s ≡ length parts.remain) ⊎ (¬ (s ≡ length parts.remain)) → (later : List Txn) × (remaining_of (parts_joined parts fragment) s ≡ remaining_of parts s ++ later)
    by_case s (inl here) = (fragment.txns, session_here parts.remain fragment s here)
    by_case s (inr apart) = ([], session_old parts.remain fragment s apart ∙ sym (Rattle.std.proofs.Common.append-nil (remaining_of parts s)))

-- a front of a front is a front
pub front_through : (one two three : Parts) → IsFront one two → IsFront two three → IsFront one three
front_through one two three first second = record {
  last = first.last ∙ second.last;
  marks = λ s. first.marks s ∙ second.marks s;
  sessions = omega (arith, first.sessions, second.sessions);
  remain = λ s.
      let (more, is) = first.remain s in
      let (later, is_later) = second.remain s in
      (more ++ later, is_later ∙ ap (λ (txns : List Txn). txns ++ later) is ∙ append_assoc (remaining_of one s) more later);
}

pub base_grown : (old whole : Parts) → IsFront old whole → HasGoneBase old → HasGoneBase whole
base_grown old whole is base key writer e =
    let same : last_gone old key ≡ Some writer = ap (λ last. get last key) is.last ∙ e in
    let gone = base key writer same in
    let mark = is.marks writer.session in
    omega arith

-- what has come is of the fragment's session, and numbered from what was received of it
pub has_come : (old whole : Parts) (fragment : Fragment) (id : TxnId) → Extends old whole fragment → Remains whole id → (¬ Remains old id) → (id.session ≡ fragment.session) × (received_count old id.session ≤ id.number)
has_come old whole fragment id extends remains out = (by_session_of (cases_eq id.session fragment.session) (in_front_or_behind old whole extends.is id remains), by_number (cases_lt id.number (received_count old id.session)))
  where
    by_session_of : (id.session ≡ fragment.session) ⊎ (¬ (id.session ≡ fragment.session)) → Remains old id ⊎ (GoesOn old whole id.session × ((other : TxnId) → other.session ≡ id.session → Remains old other → other.number < id.number)) → id.session ≡ fragment.session
    by_session_of (inl same) place = same
    by_session_of (inr apart) (inl here) = absurd (out here)
    by_session_of (inr apart) (inr (goes, below)) = let long = ap length (extends.others id.session apart) in absurd (omega (arith, goes, long))

    by_kind : IsGone old id ⊎ Remains old id → ⊥
    by_kind (inl gone) = gone_past whole id (let mark = extends.is.marks id.session in omega (arith, gone, mark)) remains
    by_kind (inr here) = out here

    by_number : (id.number < received_count old id.session) ⊎ (received_count old id.session ≤ id.number) → received_count old id.session ≤ id.number
    by_number (inl low) = absurd (by_kind (received_cases old id low))
    by_number (inr fine) = fine

-- A settled fence stays settled, where what has come comes after it, and each session that may go on could before or is past it.
pub settled_grown : (front old whole : Parts) (fence : TxnId) → IsFront front old → IsFront old whole → IsSettledFor front old fence → ((id : TxnId) → Remains whole id → (¬ Remains old id) → IsBefore whole fence id) → ((s : ℕ) → IsOpenSession whole s → IsOpenSession old s ⊎ IsPast whole fence s) → IsSettledFor front whole fence
settled_grown front old whole fence is grows settled come open_then = record {
  so_far = record { settled = settled.so_far.settled; behind = λ id remains out. by_place id remains out (in_front_or_behind old whole grows id remains) };
  past = λ s receives. by_open s (open_then s receives);
}
  where
    by_place : (id : TxnId) → Remains whole id → (¬ Remains front id) → Remains old id ⊎ (GoesOn old whole id.session × ((other : TxnId) → other.session ≡ id.session → Remains old other → other.number < id.number)) → IsBefore whole fence id
    by_place id remains out (inl here) = known_whole old whole grows fence id (settled.so_far.behind id here out)
    by_place id remains out (inr (goes, below)) = come id remains (λ here. let less = below id refl here in omega arith)

    by_open : (s : ℕ) → IsOpenSession old s ⊎ IsPast whole fence s → IsPast whole fence s
    by_open s (inl was) = past_whole old whole grows fence s (settled.past s was)
    by_open s (inr past) = past

-- what comes in a session that is past the fence comes after the fence
pub comes_past : (old whole : Parts) (fence : TxnId) (fragment : Fragment) → Extends old whole fragment → IsPast old fence fragment.session → (id : TxnId) → Remains whole id → (¬ Remains old id) → IsBefore whole fence id
comes_past old whole fence fragment extends (first, same, there, later) id remains out = by_place (in_front_or_behind old whole extends.is id remains)
  where
    by_side : (first ≡ fence) ⊎ IsBefore old fence first → Known whole [] first id → IsBefore whole fence id
    by_side (inl is_fence) step = known_past whole fence first id (inl is_fence) step
    by_side (inr before) step = known_past whole fence first id (inr (known_whole old whole extends.is fence first before)) step

    by_place : Remains old id ⊎ (GoesOn old whole id.session × ((other : TxnId) → other.session ≡ id.session → Remains old other → other.number < id.number)) → IsBefore whole fence id
    by_place (inl here) = absurd (out here)
    by_place (inr (goes, below)) =
        let session : first.session ≡ id.session = same ∙ sym (has_come old whole fragment id extends remains out).0 in
        by_side later (by_session (remains_whole old whole extends.is first there) remains session (below first session there))

-- a fence writes the epoch key
pub fence_writes : (parts : Parts) (id : TxnId) → IsSomeAnd (remaining_at parts id) IsFence → WritesKey parts id 0
fence_writes parts id is = by_found (remaining_at parts id) is
  where
    by_found : (found : Option Txn) → IsSomeAnd found IsFence → writes_key found 0 ≡ true
    by_found None none = absurd none
    by_found (Some txn) (source, reads, writes) = ap (list_any (nat_eq 0)) writes

-- the id of the fragment's first transaction
abbrev pub first_of : Parts → Fragment → TxnId
first_of old fragment = record { session = fragment.session; number = received_count old fragment.session }

-- that is where it stands
pub first_at : (old whole : Parts) (fragment : Fragment) (txn : Txn) → Extends old whole fragment → slice_get fragment.txns 0 ≡ Some txn → remaining_at whole (first_of old fragment) ≡ Some txn
first_at old whole fragment txn extends at =
    let s = fragment.session in
    let id = first_of old fragment in
    let mark = extends.is.marks s in
    let place : id.number - mark_of whole s ≡ length (remaining_of old s) + 0 = omega (arith, mark) in
    look_up whole id (omega (arith, mark)) ∙ ap (slice_get (remaining_of whole s)) place ∙ ap (λ (txns : List Txn). slice_get txns (length (remaining_of old s) + 0)) extends.here ∙ place_right (remaining_of old s) fragment.txns 0 txn at

-- where the first is a fence that reads from one that is the settled fence or comes after it, all comes after the fence
pub begins_behind : (old whole : Parts) (fence anchor : TxnId) (fragment : Fragment) → Extends old whole fragment → IsSomeAnd (remaining_at old anchor) IsFence → (anchor ≡ fence) ⊎ IsBefore old fence anchor → IsSomeAnd (slice_get fragment.txns 0) (IsFenceFrom anchor) → Remains whole (first_of old fragment) × IsBefore whole fence (first_of old fragment)
begins_behind old whole fence anchor fragment extends is_fence later begins = by_first (slice_get fragment.txns 0) refl begins
  where
    first : TxnId
    first = first_of old fragment

    by_side : (anchor ≡ fence) ⊎ IsBefore old fence anchor → (anchor ≡ fence) ⊎ IsBefore whole fence anchor
    by_side (inl same) = inl same
    by_side (inr before) = inr (known_whole old whole extends.is fence anchor before)

    by_first : (found : Option Txn) → slice_get fragment.txns 0 ≡ found → IsSomeAnd found (IsFenceFrom anchor) → Remains whole first × IsBefore whole fence first
    by_first None at none = absurd none
    by_first (Some txn) at (reads, writes) =
        let there : remaining_at whole first ≡ Some txn = first_at old whole fragment txn extends at in
        let reads_it : ReadsKey whole first 0 (By anchor) = subst (λ (o : Option Txn). IsSomeAnd o (λ (t : Txn). Contains t.reads (0, By anchor))) (sym there) (subst (λ (list : List (ℕ × Source)). Contains list (0, By anchor)) (sym reads) (0, omega arith, refl)) in
        let step : Known whole [] anchor first = by_read 0 reads_it (writes_whole old whole extends.is anchor 0 (fence_writes old anchor is_fence)) in
        (ap Rattle.std.specs.Option.is_some there, known_past whole fence anchor first (by_side later) step)

-- so does all that comes with it
pub comes_behind : (old whole : Parts) (fence : TxnId) (fragment : Fragment) → Extends old whole fragment → Remains whole (first_of old fragment) → IsBefore whole fence (first_of old fragment) → (id : TxnId) → Remains whole id → (¬ Remains old id) → IsBefore whole fence id
comes_behind old whole fence fragment extends there before id remains out = by_place (cases_lt (received_count old fragment.session) id.number)
  where
    come : (id.session ≡ fragment.session) × (received_count old id.session ≤ id.number)
    come = has_come old whole fragment id extends remains out

    counts : received_count old id.session ≡ received_count old fragment.session
    counts = ap (received_count old) come.0

    by_place : (received_count old fragment.session < id.number) ⊎ (id.number ≤ received_count old fragment.session) → IsBefore whole fence id
    by_place (inl above) = through before (by_session there remains (sym come.0) above)
    by_place (inr low) =
        let number : received_count old fragment.session ≡ id.number = omega (arith, low, come.1, counts) in
        let same : first_of old fragment ≡ id = λ i. record { session = sym come.0 i; number = number i } in
        subst (λ (x : TxnId). IsBefore whole fence x) same before
