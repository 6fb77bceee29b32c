-- Parts to which something has arrived, and what a cut leaves of them.
use Rattle.std.proofs.Common.{◌≡◌, ℕ, zero, suc, ◌+◌, ◌<◌, ◌≤◌, ◌⊎◌, false, Bool, List, [], ◌∷◌, ◌++◌, length, drop, refl, sym, ap, subst, ◌∙◌, inl, inr, ⊎_elim, arith, length-append, length-set, append-nil, nat_cmp}
use Rattle.std.specs.Prelude.{slice_set}
use Rattle.std.specs.FinMap.{FinMap}
use Rattle.std.proofs.lemmas.Bool.{cases_lt, cases_eq}
use Rattle.std.proofs.lemmas.List.{length_push}
use Rattle.txn.specs.declared.transactions.TxnId.{TxnId}
use Rattle.txn.specs.declared.transactions.Txn.{Txn}
use Rattle.txn.specs.declared.transactions.Fragment.{Fragment}
use Rattle.txn.specs.History.{History, session_of}
use Rattle.order_check.specs.declared.remainder.Parts.{Parts}
use Rattle.order_check.specs.Based.{remaining_of}
use Rattle.order_check.specs.Cuts.{IsFront}
use Rattle.order_check.specs.Settled.{IsCutOf, count_in}
use Rattle.order_check.specs.StandsFor.{Arrival, More, Joins, Returns, parts_after, parts_then, with_fragment, with_session}
use Rattle.order_check.proofs.Extending.{extends_joined, front_through}
use Rattle.order_check.proofs.Joined.{marks_more, session_here, session_old}
use Rattle.order_check.proofs.KeptFronts.{front_itself, front_with, with_other, with_same}

-- a list isn't changed past its end
set_past : {X : Type 0} (xs : List X) (n : ℕ) (x : X) → length xs ≤ n → slice_set xs n x ≡ xs
set_past [] n x past = refl
set_past (y ∷ ys) zero x past = absurd (omega (arith, past))
set_past (y ∷ ys) (suc n) x past = ap (λ zs. y ∷ zs) (set_past ys n x (omega (arith, past)))

drop_seam : {X : Type 0} (n : ℕ) (xs ys : List X) → n ≤ length xs → drop n (xs ++ ys) ≡ drop n xs ++ ys
drop_seam zero xs ys within = refl
drop_seam (suc n) [] ys within = absurd (omega (arith, within))
drop_seam (suc n) (x ∷ xs) ys within = drop_seam n xs ys (omega (arith, within))

-- what remained is in front of what has arrived in its session
with_front : (parts : Parts) (fragment : Fragment) (s : ℕ) → (later : List Txn) × (session_of (with_fragment parts.remain fragment) s ≡ remaining_of parts s ++ later)
with_front parts fragment s = ⊎_elim (λ within. (front_with parts parts fragment (front_itself parts) within).remain s) out (cases_lt fragment.session (length parts.remain))
  where
    out : length parts.remain ≤ fragment.session → (later : List Txn) × (session_of (with_fragment parts.remain fragment) s ≡ remaining_of parts s ++ later)
    out past = ([], ap (λ (remain : History). session_of remain s) (set_past parts.remain fragment.session (session_of parts.remain fragment.session ++ fragment.txns) past) ∙ sym (append-nil (remaining_of parts s)))

pub grows : (parts : Parts) (arrival : Arrival) → IsFront parts (parts_after parts arrival)
grows parts (More fragment) = record {
  last = refl;
  marks = λ s. refl;
  sessions = (let same = length-set parts.remain fragment.session (session_of parts.remain fragment.session ++ fragment.txns) in omega (arith, same));
  remain = with_front parts fragment;
}
grows parts (Joins fragment) = (extends_joined parts (record fragment { session = length parts.remain }) refl).is
grows parts (Returns fragment) = record {
  last = refl;
  marks = λ s. refl;
  sessions = (let same = length-set parts.remain fragment.session (session_of parts.remain fragment.session ++ fragment.txns) in omega (arith, same));
  remain = with_front parts fragment;
}

pub grown : (parts : Parts) (more : List Arrival) → IsFront parts (parts_then parts more)
grown parts [] = front_itself parts
grown parts (arrival ∷ more) = front_through parts (parts_after parts arrival) (parts_then (parts_after parts arrival) more) (grows parts arrival) (grown (parts_after parts arrival) more)

-- ---- cuts

-- no more are gone of a session than remained
abbrev pub Few : Parts → List TxnId → Type 0
Few parts gone = (s : ℕ) → count_in gone s ≤ length (remaining_of parts s)

few_grown : (old whole : Parts) (gone : List TxnId) → IsFront old whole → Few old gone → Few whole gone
few_grown old whole gone is few s =
    let more = is.remain s in
    let long : length (remaining_of whole s) ≡ length (remaining_of old s) + length more.0 = ap length more.1 ∙ length-append (remaining_of old s) more.0 in
    omega (arith, few s, long)

-- what has arrived stands behind what the cut leaves
behind_cut : (old new : Parts) (gone : List TxnId) (last : FinMap nat_cmp TxnId) (fragment : Fragment) → IsCutOf old new gone last → Few old gone → (s : ℕ) → session_of (with_fragment new.remain fragment) s ≡ drop (count_in gone s) (session_of (with_fragment old.remain fragment) s)
behind_cut old new gone last fragment cut few s = ⊎_elim within past (cases_lt fragment.session (length old.remain))
  where
    q : ℕ
    q = fragment.session

    within : q < length old.remain → session_of (with_fragment new.remain fragment) s ≡ drop (count_in gone s) (session_of (with_fragment old.remain fragment) s)
    within less = by_case (cases_eq s q)
      where
        less_new : q < length new.remain
        less_new = omega (arith, less, cut.sessions)

        here : session_of (with_fragment new.remain fragment) q ≡ drop (count_in gone q) (session_of (with_fragment old.remain fragment) q)
        here =
            with_same new.remain fragment less_new
            ∙ ap (λ (txns : List Txn). txns ++ fragment.txns) (cut.remain q)
            ∙ sym (drop_seam (count_in gone q) (session_of old.remain q) fragment.txns (few q))
            ∙ ap (drop (count_in gone q)) (sym (with_same old.remain fragment less))

        by_case : (s ≡ q) ⊎ (¬ (s ≡ q)) → session_of (with_fragment new.remain fragment) s ≡ drop (count_in gone s) (session_of (with_fragment old.remain fragment) s)
        by_case (inl same) = subst (λ t. session_of (with_fragment new.remain fragment) t ≡ drop (count_in gone t) (session_of (with_fragment old.remain fragment) t)) (sym same) here
        by_case (inr apart) = with_other new.remain fragment s apart ∙ cut.remain s ∙ ap (drop (count_in gone s)) (sym (with_other old.remain fragment s apart))

    past : length old.remain ≤ q → session_of (with_fragment new.remain fragment) s ≡ drop (count_in gone s) (session_of (with_fragment old.remain fragment) s)
    past more =
        ap (λ (remain : History). session_of remain s) (set_past new.remain q (session_of new.remain q ++ fragment.txns) (omega (arith, more, cut.sessions)))
        ∙ cut.remain s
        ∙ ap (λ (remain : History). drop (count_in gone s) (session_of remain s)) (sym (set_past old.remain q (session_of old.remain q ++ fragment.txns) more))

joined_cut : (old new : Parts) (gone : List TxnId) (last : FinMap nat_cmp TxnId) (fragment : Fragment) → IsCutOf old new gone last → Few old gone → (s : ℕ) → session_of (with_session new.remain fragment) s ≡ drop (count_in gone s) (session_of (with_session old.remain fragment) s)
joined_cut old new gone last fragment cut few s = by_case (cases_eq s (length old.remain))
  where
    by_case : (s ≡ length old.remain) ⊎ (¬ (s ≡ length old.remain)) → session_of (with_session new.remain fragment) s ≡ drop (count_in gone s) (session_of (with_session old.remain fragment) s)
    by_case (inl here) =
        session_here new.remain fragment s (here ∙ sym cut.sessions)
        ∙ ap (λ (txns : List Txn). txns ++ fragment.txns) (cut.remain s)
        ∙ sym (drop_seam (count_in gone s) (session_of old.remain s) fragment.txns (few s))
        ∙ ap (drop (count_in gone s)) (sym (session_here old.remain fragment s here))
    by_case (inr apart) = session_old new.remain fragment s (λ same. apart (same ∙ cut.sessions)) ∙ cut.remain s ∙ ap (drop (count_in gone s)) (sym (session_old old.remain fragment s apart))

cut_after : (old new : Parts) (gone : List TxnId) (last : FinMap nat_cmp TxnId) (arrival : Arrival) → IsCutOf old new gone last → Few old gone → IsCutOf (parts_after old arrival) (parts_after new arrival) gone last
cut_after old new gone last (More fragment) cut few = record {
  sessions = length-set new.remain fragment.session _ ∙ cut.sessions ∙ sym (length-set old.remain fragment.session _);
  remain = behind_cut old new gone last fragment cut few;
  marks_length = cut.marks_length;
  marks = cut.marks;
  writers = cut.writers;
  closed = cut.closed;
  most_sessions = cut.most_sessions;
  limit = cut.limit;
}
cut_after old new gone last (Joins fragment) cut few = record {
  sessions = length_push new.remain fragment.txns ∙ ap (λ n. n + 1) cut.sessions ∙ sym (length_push old.remain fragment.txns);
  remain = joined_cut old new gone last fragment cut few;
  marks_length = length_push new.base.marks 0 ∙ ap (λ n. n + 1) cut.marks_length ∙ sym (length_push old.base.marks 0);
  marks = λ s. marks_more new.base.marks s ∙ cut.marks s ∙ ap (λ n. n + count_in gone s) (sym (marks_more old.base.marks s));
  writers = cut.writers;
  closed = ap (λ (flags : List Bool). flags ++ false ∷ []) cut.closed;
  most_sessions = cut.most_sessions;
  limit = cut.limit;
}
cut_after old new gone last (Returns fragment) cut few = record {
  sessions = length-set new.remain fragment.session _ ∙ cut.sessions ∙ sym (length-set old.remain fragment.session _);
  remain = behind_cut old new gone last fragment cut few;
  marks_length = cut.marks_length;
  marks = cut.marks;
  writers = cut.writers;
  closed = ap (λ (flags : List Bool). slice_set flags fragment.session false) cut.closed;
  most_sessions = cut.most_sessions;
  limit = cut.limit;
}

pub cut_then : (old new : Parts) (gone : List TxnId) (last : FinMap nat_cmp TxnId) (more : List Arrival) → IsCutOf old new gone last → Few old gone → IsCutOf (parts_then old more) (parts_then new more) gone last
cut_then old new gone last [] cut few = cut
cut_then old new gone last (arrival ∷ more) cut few =
    cut_then (parts_after old arrival) (parts_after new arrival) gone last more (cut_after old new gone last arrival cut few) (few_grown old (parts_after old arrival) gone (grows old arrival) few)
