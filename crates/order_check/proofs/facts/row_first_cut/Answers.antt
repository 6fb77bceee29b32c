use Rattle.std.proofs.Common.{◌≡◌, ◌≢◌, ℕ, ◌<◌, ◌⊎◌, Bool, true, false, ◌||◌, [], ◌∷◌, refl, sym, ap, subst, lit<, arith, inl, inr, zero, suc, length, nat_eq}
use Rattle.std.proofs.Common.{◌∙◌, ◌+◌, subst₂, drop, cond, Option, Some, None, Contains, IsSome, IsSomeAnd, nat_cmp}
use Rattle.std.specs.Ordering.{eq_by_cmp}
use Rattle.std.specs.Cmp.{Equal-is}
use Rattle.std.proofs.lemmas.Bool.{ne_eqb}
use Rattle.txn.proofs.Ids.{same_id_is}
use Rattle.order_check.specs.StandsFor.{IsOpenSession}
use Rattle.std.proofs.lemmas.Option.{same_Some}
use Rattle.std.proofs.lemmas.List.{drop_all}
use Rattle.txn.specs.History.{session_of}
use Rattle.txn.specs.Transactions.{Rises, id_below}
use Rattle.order_check.specs.Based.{mark_of}
use Rattle.order_check.specs.Settled.{IsSettled, or_else, count_in}
use Rattle.std.specs.FinMap.{nat_cmp-IsAntisymmetric, get, insert, empty, get-insert, get-empty}
use Rattle.std.proofs.lemmas.Cmp.{nat_cmp_total}
use Rattle.txn.specs.declared.transactions.Txn.{Txn}
use Rattle.txn.specs.Transactions.{IsFence}
use Rattle.order_check.specs.Based.{remaining_at}
use Rattle.std.proofs.lemmas.Bool.{false≢true, and_parts, or_cases, eqb-true, ltb-true}
use Rattle.txn.specs.declared.transactions.TxnId.{TxnId}
use Rattle.txn.specs.declared.transactions.Source.TheVariants.{Init, By}
use Rattle.txn.specs.Transactions.{same_id}
use Rattle.order_check.specs.declared.remainder.Parts.{Parts}
use Rattle.order_check.specs.Based.{Remains, received_count}
use Rattle.order_check.specs.Known.{WritesKey, by_session, by_read}
use Rattle.order_check.specs.Settled.{IsBefore, IsPast, InFront, IsLastIn}
use Rattle.order_check.specs.Rows.{id, fresh, first_cut, cut_gone, cut_writers, cut_rest}
use Rattle.order_check.proofs.EachRemaining.{each_remains, each_read_at}
use Rattle.order_check.proofs.KnownPairs.{Pairs, Covers, known_has, has, same_pair}
use Rattle.order_check.proofs.Fresh.{no_base, fresh_last, comes}
use Rattle.order_check.proofs.facts.row_first_cut.Goals as goal

abbrev parts : Parts
parts = fresh first_cut

-- all that is known
abbrev pairs : Pairs
pairs = (id 0 0, id 0 1) ∷ (id 0 0, id 1 0) ∷ (id 0 1, id 1 0) ∷ []

covers : Covers parts no_base pairs
covers = record { gone = fresh_last first_cut; session = refl; read = refl; from_base = refl; transitive = refl; forced = refl }

known_pair : (a b : TxnId) → IsBefore parts a b → has pairs a b ≡ true
known_pair a b known = known_has parts no_base pairs covers a b known

or_false : (b : Bool) → (b || false) ≡ true → b ≡ true
or_false true e = refl
or_false false e = e

-- the three that remain
which : (i : TxnId) → Remains parts i → (i ≡ id 0 0) ⊎ ((i ≡ id 0 1) ⊎ (i ≡ id 1 0))
which i remains = by_case (or_cases (same_id i (id 0 0)) (same_id i (id 0 1) || same_id i (id 1 0)) (each_remains (λ j. same_id j (id 0 0) || (same_id j (id 0 1) || same_id j (id 1 0))) parts refl i remains))
  where
    by_case : (same_id i (id 0 0) ≡ true) ⊎ ((same_id i (id 0 1) || same_id i (id 1 0)) ≡ true) → (i ≡ id 0 0) ⊎ ((i ≡ id 0 1) ⊎ (i ≡ id 1 0))
    by_case (inl first) = inl (same_id_is i (id 0 0) first)
    by_case (inr others) = elim (or_cases (same_id i (id 0 1)) (same_id i (id 1 0)) others) [ inl second ↦ inr (inl (same_id_is i (id 0 1) second)) | inr third ↦ inr (inr (same_id_is i (id 1 0) third)) ]

writer_first : IsBefore parts (id 0 0) (id 0 1)
writer_first = by_session {a = id 0 0} {b = id 0 1} refl refl refl (lit< tt)

fence_next : IsBefore parts (id 0 1) (id 1 0)
fence_next = by_read {reader = id 1 0} {writer = id 0 1} 0 (0, lit< tt, refl) refl

ordered : (i : TxnId) → Remains parts i → i ≢ id 0 1 → IsBefore parts i (id 0 1) ⊎ IsBefore parts (id 0 1) i
ordered i remains apart = by_case (which i remains)
  where
    by_case : (i ≡ id 0 0) ⊎ ((i ≡ id 0 1) ⊎ (i ≡ id 1 0)) → IsBefore parts i (id 0 1) ⊎ IsBefore parts (id 0 1) i
    by_case (inl is) = inl (subst (λ j. IsBefore parts j (id 0 1)) (sym is) writer_first)
    by_case (inr (inl is)) = absurd (apart is)
    by_case (inr (inr is)) = inr (subst (IsBefore parts (id 0 1)) (sym is) fence_next)

past : (s : ℕ) → s < length parts.remain → IsPast parts (id 0 1) s
past zero within = (id 0 1, refl, refl, inl refl)
past (suc zero) within = (id 1 0, refl, refl, inr fence_next)
past (suc (suc s)) within = absurd (omega arith)

-- in front of the fence stands 0.0
in_front : (i : TxnId) → InFront parts (id 0 1) i → (i ≡ id 0 0) ⊎ (i ≡ id 0 1)
in_front i (inl is) = inr is
in_front i (inr known) = by_case (or_cases (same_pair (i, id 0 1) (id 0 0, id 0 1)) (same_pair (i, id 0 1) (id 0 0, id 1 0) || (same_pair (i, id 0 1) (id 0 1, id 1 0) || false)) (known_pair i (id 0 1) known))
  where
    rest : (same_pair (i, id 0 1) (id 0 0, id 1 0) ≡ true) ⊎ ((same_pair (i, id 0 1) (id 0 1, id 1 0) || false) ≡ true) → (i ≡ id 0 0) ⊎ (i ≡ id 0 1)
    rest (inl second) = absurd (false≢true (and_parts (same_id i (id 0 0)) false second).1)
    rest (inr third) = absurd (false≢true (and_parts (same_id i (id 0 1)) false (or_false (same_pair (i, id 0 1) (id 0 1, id 1 0)) third)).1)

    by_case : (same_pair (i, id 0 1) (id 0 0, id 0 1) ≡ true) ⊎ ((same_pair (i, id 0 1) (id 0 0, id 1 0) || (same_pair (i, id 0 1) (id 0 1, id 1 0) || false)) ≡ true) → (i ≡ id 0 0) ⊎ (i ≡ id 0 1)
    by_case (inl first) = inl (same_id_is i (id 0 0) (and_parts (same_id i (id 0 0)) true first).0)
    by_case (inr others) = rest (or_cases (same_pair (i, id 0 1) (id 0 0, id 1 0)) (same_pair (i, id 0 1) (id 0 1, id 1 0) || false) others)

-- 0.0 is the last writer of key 5 there, and the fence of key 0
last_of_5 : IsLastIn parts (id 0 1) 5 (id 0 0)
last_of_5 = record { front = inr writer_first; written = refl; last = λ other front written apart. absurd (by_case other written apart (in_front other front)) }
  where
    by_case : (other : TxnId) → WritesKey parts other 5 → other ≢ id 0 0 → (other ≡ id 0 0) ⊎ (other ≡ id 0 1) → ⊥
    by_case other written apart (inl is) = apart is
    by_case other written apart (inr is) = false≢true (subst (λ j. WritesKey parts j 5) is written)

last_of_0 : IsLastIn parts (id 0 1) 0 (id 0 1)
last_of_0 = record { front = inl refl; written = refl; last = λ other front written apart. absurd (by_case other written apart (in_front other front)) }
  where
    by_case : (other : TxnId) → WritesKey parts other 0 → other ≢ id 0 1 → (other ≡ id 0 0) ⊎ (other ≡ id 0 1) → ⊥
    by_case other written apart (inl is) = false≢true (subst (λ j. WritesKey parts j 0) is written)
    by_case other written apart (inr is) = apart is

last_writers : (i : TxnId) (key : ℕ) → InFront parts (id 0 1) i → WritesKey parts i key → (writer : TxnId) × IsLastIn parts (id 0 1) key writer
last_writers i key front written = by_case (in_front i front)
  where
    by_case : (i ≡ id 0 0) ⊎ (i ≡ id 0 1) → (writer : TxnId) × IsLastIn parts (id 0 1) key writer
    by_case (inl is) =
        let key_is = eqb-true key 5 (or_false (nat_eq key 5) (subst (λ j. WritesKey parts j key) is written)) in
        (id 0 0, subst (λ k. IsLastIn parts (id 0 1) k (id 0 0)) (sym key_is) last_of_5)
    by_case (inr is) =
        let key_is = eqb-true key 0 (or_false (nat_eq key 0) (subst (λ j. WritesKey parts j key) is written)) in
        (id 0 1, subst (λ k. IsLastIn parts (id 0 1) k (id 0 1)) (sym key_is) last_of_0)

fence_settled : IsSettled parts (IsOpenSession parts) (id 0 1)
fence_settled = record {
  remains = (Init, refl, refl);
  ordered = ordered;
  past = λ s within _. past s within;
  nothing_pending = λ i writer key front reads. ltb-true writer.number (received_count parts writer.session) (each_read_at (comes parts) parts refl i key (By writer) reads);
  last_writers = last_writers;
}

pub returns-clause-settled : goal.returns-clause-settled
returns-clause-settled c = fence_settled

not_past : ¬ IsSettled parts (IsOpenSession parts) (id 1 0)
not_past settled = by_case (settled.past 0 (lit< tt) (lit< tt, λ e. cc))
  where
    by_case : IsPast parts (id 1 0) 0 → ⊥
    by_case (i, session, remains, inl is) = let other : i.session ≡ 1 = ap (λ (j : TxnId). j.session) is in absurd (omega arith)
    by_case (i, session, remains, inr known) = false≢true (known_pair (id 1 0) i known)

pub returns-clause-not_past : goal.returns-clause-not_past
returns-clause-not_past c = not_past

some_remaining : (i : TxnId) → IsSomeAnd (remaining_at parts i) IsFence → Remains parts i
some_remaining i = by_case (remaining_at parts i)
  where
    by_case : (o : Option Txn) → IsSomeAnd o IsFence → IsSome o
    by_case None is = absurd is
    by_case (Some txn) is = refl

no_fence : ¬ IsSomeAnd (remaining_at parts (id 0 0)) IsFence
no_fence (source, reads, writes) = absurd (cc)

pub returns-clause-last : goal.returns-clause-last
returns-clause-last c = record {
  settled = fence_settled;
  last = λ other settled apart. absurd (by_case other settled apart (which other (some_remaining other settled.remains)));
}
  where
    by_case : (other : TxnId) → IsSettled parts (IsOpenSession parts) other → other ≢ id 0 1 → (other ≡ id 0 0) ⊎ ((other ≡ id 0 1) ⊎ (other ≡ id 1 0)) → ⊥
    by_case other settled apart (inl is) = no_fence (subst (λ j. IsSomeAnd (remaining_at parts j) IsFence) is settled.remains)
    by_case other settled apart (inr (inl is)) = apart is
    by_case other settled apart (inr (inr is)) = not_past (subst (IsSettled parts (IsOpenSession parts)) is settled)

gone_in_front : (i : TxnId) → Contains cut_gone i → InFront parts (id 0 1) i
gone_in_front i (zero, within, is) = inr (subst (λ j. IsBefore parts j (id 0 1)) is writer_first)
gone_in_front i (suc zero, within, is) = inl (sym is)
gone_in_front i (suc (suc k), within, is) = absurd (omega arith)

front_gone : (i : TxnId) → InFront parts (id 0 1) i → Contains cut_gone i
front_gone i front = elim (in_front i front) [ inl is ↦ (0, lit< tt, sym is) | inr is ↦ (1, lit< tt, sym is) ]

-- the last writers of the cut, key by key
writer_at : ℕ → Option TxnId
writer_at key = cond (eq_by_cmp nat_cmp key 5) (Some (id 0 0)) (cond (eq_by_cmp nat_cmp key 0) (Some (id 0 1)) None)

writers_are : (key : ℕ) → get cut_writers key ≡ writer_at key
unfolding writer_at
writers_are key = get-insert nat_cmp_total (insert empty 0 (id 0 1)) 5 (id 0 0) key
    ∙ ap (cond (eq_by_cmp nat_cmp key 5) (Some (id 0 0))) (get-insert nat_cmp_total empty 0 (id 0 1) key ∙ ap (cond (eq_by_cmp nat_cmp key 0) (Some (id 0 1))) (get-empty nat_cmp key))

tie_is : (key k : ℕ) → eq_by_cmp nat_cmp key k ≡ true → key ≡ k
tie_is key k tie = nat_cmp-IsAntisymmetric key k ((Equal-is (nat_cmp key k)).0 tie)

either : {X : Type 0} (b : Bool) (x y : X) (rest : Option X) → cond b (Some x) rest ≡ Some y → ((b ≡ true) × (x ≡ y)) ⊎ (rest ≡ Some y)
either true x y rest is = inl (refl, same_Some x y is)
either false x y rest is = inr is

told_last : (key : ℕ) (writer : TxnId) → writer_at key ≡ Some writer → IsLastIn parts (id 0 1) key writer
unfolding writer_at
told_last key writer told = by_case (either (eq_by_cmp nat_cmp key 5) (id 0 0) writer (cond (eq_by_cmp nat_cmp key 0) (Some (id 0 1)) None) told)
  where
    of_0 : ((eq_by_cmp nat_cmp key 0 ≡ true) × (id 0 1 ≡ writer)) ⊎ (None ≡ Some writer) → IsLastIn parts (id 0 1) key writer
    of_0 (inl (tie, is)) = subst₂ (IsLastIn parts (id 0 1)) (sym (tie_is key 0 tie)) is last_of_0
    of_0 (inr none) = absurd (cc)

    by_case : ((eq_by_cmp nat_cmp key 5 ≡ true) × (id 0 0 ≡ writer)) ⊎ (cond (eq_by_cmp nat_cmp key 0) (Some (id 0 1)) None ≡ Some writer) → IsLastIn parts (id 0 1) key writer
    by_case (inl (tie, is)) = subst₂ (IsLastIn parts (id 0 1)) (sym (tie_is key 5 tie)) is last_of_5
    by_case (inr more) = of_0 (either (eq_by_cmp nat_cmp key 0) (id 0 1) writer None more)

last_told : (key : ℕ) (writer : TxnId) → IsLastIn parts (id 0 1) key writer → writer_at key ≡ Some writer
unfolding writer_at
last_told key writer last = by_case (in_front writer last.front)
  where
    by_case : (writer ≡ id 0 0) ⊎ (writer ≡ id 0 1) → writer_at key ≡ Some writer
    by_case (inl is) =
        let key_is = eqb-true key 5 (or_false (nat_eq key 5) (subst (λ j. WritesKey parts j key) is last.written)) in
        rw (key_is, is) refl
    by_case (inr is) =
        let key_is = eqb-true key 0 (or_false (nat_eq key 0) (subst (λ j. WritesKey parts j key) is last.written)) in
        rw (key_is, is) refl

none_else : (o : Option TxnId) → o ≡ or_else o None
none_else None = refl
none_else (Some x) = refl

rest_remain : (s : ℕ) → session_of cut_rest.remain s ≡ drop (count_in cut_gone s) (session_of parts.remain s)
rest_remain zero = refl
rest_remain (suc zero) = refl
rest_remain (suc (suc s)) = sym (drop_all (count_in cut_gone (suc (suc s))) [] (omega arith))

rest_marks : (s : ℕ) → mark_of cut_rest s ≡ mark_of parts s + count_in cut_gone s
rest_marks zero = refl
rest_marks (suc zero) = refl
rest_marks (suc (suc s)) =
    let other : nat_eq (suc (suc s)) 0 ≡ false = ne_eqb (suc (suc s)) 0 (λ e. absurd (omega arith)) in
    rw other refl

rise : Rises id_below cut_gone
rise zero d within = refl
rise (suc k) d within = absurd (omega arith)

pub returns-clause-cut : goal.returns-clause-cut
returns-clause-cut c = record {
  rise = rise;
  front = λ i. (gone_in_front i, front_gone i);
  last_of = λ key writer. (λ told. told_last key writer (sym (writers_are key) ∙ told), λ last. writers_are key ∙ last_told key writer last);
}

pub returns-clause-rest : goal.returns-clause-rest
returns-clause-rest c = record {
  sessions = refl;
  remain = rest_remain;
  marks_length = refl;
  marks = rest_marks;
  writers = λ key. none_else (get cut_writers key) ∙ ap (or_else (get cut_writers key)) (sym (get-empty nat_cmp key));
  closed = refl;
  most_sessions = refl;
  limit = refl;
}
