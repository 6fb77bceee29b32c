-- Fronts that are kept while their parts go on.
use Rattle.std.proofs.Common.{◌≡◌, ℕ, ◌<◌, ◌⊎◌, List, [], ◌++◌, length, refl, sym, subst, ◌∙◌, inl, inr, arith, ap, append_assoc, append-nil, length-set, get_or-set_same, get_or-set_other}
use Rattle.std.proofs.lemmas.Bool.{cases_eq}
use Rattle.txn.specs.declared.transactions.TxnId.{TxnId}
use Rattle.txn.specs.declared.transactions.Txn.{Txn}
use Rattle.txn.specs.declared.transactions.Fragment.{Fragment}
use Rattle.txn.specs.History.{History, session_of}
use Rattle.order_check.specs.declared.remainder.Parts.{Parts}
use Rattle.order_check.specs.Based.{remaining_of, Remains}
use Rattle.order_check.specs.Cuts.{IsFront, GoesOn, MayGoOn, IsKeptFront, IsSettledFor}
use Rattle.order_check.specs.Known.{Known, by_session, through}
use Rattle.order_check.specs.Settled.{IsBefore, IsPast, IsSettled}
use Rattle.order_check.specs.StandsFor.{IsOpenSession, parts_closed, parts_with, with_fragment}
use Rattle.order_check.proofs.Closing.{stays_closed}
use Rattle.order_check.proofs.Fenced.{in_front_or_behind, known_whole, remains_whole}

pub with_same : (remain : History) (fragment : Fragment) → fragment.session < length remain → session_of (with_fragment remain fragment) fragment.session ≡ session_of remain fragment.session ++ fragment.txns
with_same remain fragment within = get_or-set_same remain fragment.session (session_of remain fragment.session ++ fragment.txns) [] within

pub with_other : (remain : History) (fragment : Fragment) (s : ℕ) → ¬ (s ≡ fragment.session) → session_of (with_fragment remain fragment) s ≡ session_of remain s
with_other remain fragment s apart = get_or-set_other remain fragment.session s (session_of remain fragment.session ++ fragment.txns) [] apart

-- a front of parts is one of the parts with a fragment
pub front_with : (front parts : Parts) (fragment : Fragment) → IsFront front parts → fragment.session < length parts.remain → IsFront front (parts_with parts fragment)
front_with front parts fragment is within = record {
  last = is.last;
  marks = is.marks;
  sessions = omega (arith, is.sessions, length-set parts.remain fragment.session (session_of parts.remain fragment.session ++ fragment.txns));
  remain = λ s. grown s (cases_eq s fragment.session);
}
  where
    grown : (s : ℕ) → (s ≡ fragment.session) ⊎ (¬ (s ≡ fragment.session)) → (later : List Txn) × (remaining_of (parts_with parts fragment) s ≡ remaining_of front s ++ later)
    grown s (inl here) =
        let more = is.remain fragment.session in
        let e : remaining_of (parts_with parts fragment) fragment.session ≡ remaining_of front fragment.session ++ (more.0 ++ fragment.txns) = with_same parts.remain fragment within ∙ ap (λ txns. txns ++ fragment.txns) more.1 ∙ append_assoc (remaining_of front fragment.session) more.0 fragment.txns in
        (more.0 ++ fragment.txns, rw here e)
    grown s (inr apart) = let more = is.remain s in (more.0, with_other parts.remain fragment s apart ∙ more.1)

-- who may go on with the fragment might before it came
pub may_before : (front parts : Parts) (fragment : Fragment) → IsOpenSession parts fragment.session → (s : ℕ) → MayGoOn front (parts_with parts fragment) s → MayGoOn front parts s
may_before front parts fragment session s (inl open') = inl (subst (λ n. s < n) (length-set parts.remain fragment.session _) open'.0, open'.1)
may_before front parts fragment session s (inr goes) = by_case (cases_eq s fragment.session)
  where
    by_case : (s ≡ fragment.session) ⊎ (¬ (s ≡ fragment.session)) → MayGoOn front parts s
    by_case (inl here) = inl (subst (λ q. IsOpenSession parts q) (sym here) session)
    by_case (inr apart) = inr (subst (λ txns. length (remaining_of front s) < length txns) (with_other parts.remain fragment s apart) goes)

-- parts are a front of themselves
pub front_itself : (front : Parts) → IsFront front front
front_itself front = record { last = refl; marks = λ s. refl; sessions = omega arith; remain = λ s. ([], sym (append-nil (remaining_of front s))) }

pub itself : (parts : Parts) → IsKeptFront parts parts
itself parts = record { base = refl; sessions = refl; is_front = front_itself parts; open_there = λ s may. still s may }
  where
    still : (s : ℕ) → MayGoOn parts parts s → IsOpenSession parts s
    still s (inl open') = open'
    still s (inr goes) = absurd (omega arith)

pub kept_with : (front parts : Parts) (fragment : Fragment) → IsKeptFront front parts → IsOpenSession parts fragment.session → IsKeptFront front (parts_with parts fragment)
kept_with front parts fragment kept session = record {
  base = kept.base;
  sessions = kept.sessions ∙ sym (length-set parts.remain fragment.session _);
  is_front = front_with front parts fragment kept.is_front session.0;
  open_there = λ s may. kept.open_there s (may_before front parts fragment session s may);
}

pub kept_closed : (front parts : Parts) (s : ℕ) → IsKeptFront front parts → IsKeptFront front (parts_closed parts s)
kept_closed front parts s kept = record {
  base = kept.base;
  sessions = kept.sessions;
  is_front = record { last = kept.is_front.last; marks = kept.is_front.marks; sessions = kept.is_front.sessions; remain = kept.is_front.remain };
  open_there = λ q may. kept.open_there q (open_before q may);
}
  where
    open_before : (q : ℕ) → MayGoOn front (parts_closed parts s) q → MayGoOn front parts q
    open_before q (inr goes) = inr goes
    open_before q (inl open') = inl (open'.0, λ is_closed. open'.1 (stays_closed parts.closed s q is_closed))

-- a session that is past a fence of a front is past it in the whole
pub past_whole : (front whole : Parts) → IsFront front whole → (fence : TxnId) (s : ℕ) → IsPast front fence s → IsPast whole fence s
past_whole front whole is fence s (id, session, there, later) = (id, session, remains_whole front whole is id there, by_side later)
  where
    by_side : (id ≡ fence) ⊎ IsBefore front fence id → (id ≡ fence) ⊎ IsBefore whole fence id
    by_side (inl same) = inl same
    by_side (inr before) = inr (known_whole front whole is fence id before)

-- what comes in a session that is past the fence comes after it
pub known_past : (parts : Parts) (fence other id : TxnId) → (other ≡ fence) ⊎ IsBefore parts fence other → Known parts [] other id → IsBefore parts fence id
known_past parts fence other id (inl same) known = subst (λ x. Known parts [] x id) same known
known_past parts fence other id (inr before) known = through before known

pub settled_still : (front parts : Parts) (fence : TxnId) → IsKeptFront front parts → IsSettled front (IsOpenSession front) fence → IsSettledFor front parts fence
settled_still front parts fence kept settled = record {
  so_far = record {
    settled = record {
      remains = settled.remains;
      ordered = settled.ordered;
      past = λ s within none. absurd none;
      nothing_pending = settled.nothing_pending;
      last_writers = settled.last_writers;
    };
    behind = λ id remains out. by_place id remains out (in_front_or_behind front parts is id remains);
  };
  past = λ s receives. past_whole front parts is fence s (there s (inl receives));
}
  where
    is : IsFront front parts
    is = kept.is_front

    there : (s : ℕ) → MayGoOn front parts s → IsPast front fence s
    there s may = let is_open = kept.open_there s may in settled.past s is_open.0 is_open

    by_place : (id : TxnId) → Remains parts id → (¬ Remains front id) → Remains front id ⊎ (GoesOn front parts id.session × ((other : TxnId) → other.session ≡ id.session → Remains front other → other.number < id.number)) → IsBefore parts fence id
    by_place id remains out (inl here) = absurd (out here)
    by_place id remains out (inr (goes, below)) =
        let (first, same, inside, side) = there id.session (inr goes) in
        let step : Known parts [] first id = by_session (remains_whole front parts is first inside) remains same (below first same inside) in
        by_side first side step
      where
        by_side : (first : TxnId) → (first ≡ fence) ⊎ IsBefore front fence first → Known parts [] first id → IsBefore parts fence id
        by_side first (inl same) step = known_past parts fence first id (inl same) step
        by_side first (inr before) step = known_past parts fence first id (inr (known_whole front parts is fence first before)) step
