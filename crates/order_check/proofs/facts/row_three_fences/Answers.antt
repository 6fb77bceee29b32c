use Rattle.std.proofs.Common.{◌≡◌, ◌≢◌, ℕ, ◌<◌, ◌⊎◌, Bool, true, false, ◌||◌, [], ◌∷◌, refl, sym, ap, subst, lit<, arith, inl, inr, zero, suc, length, nat_eq, IsSomeAnd}
use Rattle.std.proofs.lemmas.Bool.{false≢true, or_cases, eqb-true, ltb-true}
use Rattle.txn.specs.declared.transactions.TxnId.{TxnId}
use Rattle.txn.specs.declared.transactions.Source.TheVariants.{Init, By}
use Rattle.txn.specs.Transactions.{same_id, IsFence}
use Rattle.txn.proofs.Ids.{same_id_is}
use Rattle.order_check.specs.declared.remainder.Parts.{Parts}
use Rattle.order_check.specs.Based.{Remains, received_count, remaining_at}
use Rattle.order_check.specs.Known.{WritesKey, by_session, by_read, through}
use Rattle.order_check.specs.Settled.{IsSettled, IsBefore, IsPast, InFront, IsLastIn}
use Rattle.order_check.specs.StandsFor.{IsOpenSession}
use Rattle.order_check.specs.Rows.{id, fresh, three_fences}
use Rattle.order_check.proofs.CutCounts.{fronts_remain}
use Rattle.order_check.proofs.EachRemaining.{each_remains, each_read_at}
use Rattle.order_check.proofs.KnownPairs.{Pairs, Covers, known_has, has}
use Rattle.order_check.proofs.Fresh.{no_base, fresh_last, comes}
use Rattle.order_check.proofs.facts.row_three_fences.Goals as goal

abbrev parts : Parts
parts = fresh three_fences

-- all that is known
abbrev pairs : Pairs
pairs = (id 0 0, id 0 1) ∷ (id 0 0, id 1 0) ∷ (id 0 1, id 1 0) ∷ []

covers : Covers parts no_base pairs
covers = record { gone = fresh_last three_fences; session = refl; read = refl; from_base = refl; transitive = refl; forced = refl }

known_pair : (a b : TxnId) → IsBefore parts a b → has pairs a b ≡ true
known_pair a b known = known_has parts no_base pairs covers a b known

-- one of the three fences
abbrev IsOne : TxnId → Type 0
IsOne i = (i ≡ id 0 0) ⊎ ((i ≡ id 0 1) ⊎ (i ≡ id 1 0))

which : (i : TxnId) → Remains parts i → IsOne i
which i remains = by_case (or_cases (same_id i (id 0 0)) (same_id i (id 0 1) || same_id i (id 1 0)) (each_remains (λ j. same_id j (id 0 0) || (same_id j (id 0 1) || same_id j (id 1 0))) parts refl i remains))
  where
    by_case : (same_id i (id 0 0) ≡ true) ⊎ ((same_id i (id 0 1) || same_id i (id 1 0)) ≡ true) → IsOne i
    by_case (inl first) = inl (same_id_is i (id 0 0) first)
    by_case (inr others) = elim (or_cases (same_id i (id 0 1)) (same_id i (id 1 0)) others) [ inl second ↦ inr (inl (same_id_is i (id 0 1) second)) | inr third ↦ inr (inr (same_id_is i (id 1 0) third)) ]

first_second : IsBefore parts (id 0 0) (id 0 1)
first_second = by_session {a = id 0 0} {b = id 0 1} refl refl refl (lit< tt)

second_third : IsBefore parts (id 0 1) (id 1 0)
second_third = by_read {reader = id 1 0} {writer = id 0 1} 0 (0, lit< tt, refl) refl

first_third : IsBefore parts (id 0 0) (id 1 0)
first_third = through first_second second_third

-- each writes key 0 alone
key_is : (i : TxnId) (key : ℕ) → Remains parts i → WritesKey parts i key → key ≡ 0
key_is i key remains written = by_case (which i remains)
  where
    or_false : (b : Bool) → (b || false) ≡ true → b ≡ true
    or_false true e = refl
    or_false false e = e

    by_case : IsOne i → key ≡ 0
    by_case (inl is) = eqb-true key 0 (or_false (nat_eq key 0) (subst (λ j. WritesKey parts j key) is written))
    by_case (inr (inl is)) = eqb-true key 0 (or_false (nat_eq key 0) (subst (λ j. WritesKey parts j key) is written))
    by_case (inr (inr is)) = eqb-true key 0 (or_false (nat_eq key 0) (subst (λ j. WritesKey parts j key) is written))

-- each fence is the last writer of its key in front of it
last_of : (one : TxnId) → WritesKey parts one 0 → IsLastIn parts one 0 one
last_of one written = record { front = inl refl; written = written; last = λ other front also apart. by_front other apart front }
  where
    by_front : (other : TxnId) → other ≢ one → InFront parts one other → IsBefore parts other one
    by_front other apart (inl same) = absurd (apart same)
    by_front other apart (inr known) = known

-- a fence that the others come before or after is settled, where both sessions are past it
settled_if : (one : TxnId) → IsSomeAnd (remaining_at parts one) IsFence → WritesKey parts one 0 → ((i : TxnId) → IsOne i → i ≢ one → IsBefore parts i one ⊎ IsBefore parts one i) → IsPast parts one 0 → IsPast parts one 1 → IsSettled parts (IsOpenSession parts) one
settled_if one fence written ordered past_0 past_1 = record {
  remains = fence;
  ordered = λ i remains apart. ordered i (which i remains) apart;
  past = λ s within is_open. past s within;
  nothing_pending = λ i writer key front reads. ltb-true writer.number (received_count parts writer.session) (each_read_at (comes parts) parts refl i key (By writer) reads);
  last_writers = λ i key front also.
      let zero_is = key_is i key (fronts_remain parts one i fence front) also in
      (one, subst (λ k. IsLastIn parts one k one) (sym zero_is) (last_of one written));
}
  where
    past : (s : ℕ) → s < length parts.remain → IsPast parts one s
    past zero within = past_0
    past (suc zero) within = past_1
    past (suc (suc s)) within = absurd (omega arith)

first_settled : IsSettled parts (IsOpenSession parts) (id 0 0)
first_settled = settled_if (id 0 0) (Init, refl, refl) refl ordered (id 0 0, refl, refl, inl refl) (id 1 0, refl, refl, inr first_third)
  where
    ordered : (i : TxnId) → IsOne i → i ≢ id 0 0 → IsBefore parts i (id 0 0) ⊎ IsBefore parts (id 0 0) i
    ordered i (inl is) apart = absurd (apart is)
    ordered i (inr (inl is)) apart = inr (subst (IsBefore parts (id 0 0)) (sym is) first_second)
    ordered i (inr (inr is)) apart = inr (subst (IsBefore parts (id 0 0)) (sym is) first_third)

second_settled : IsSettled parts (IsOpenSession parts) (id 0 1)
second_settled = settled_if (id 0 1) (By (id 0 0), refl, refl) refl ordered (id 0 1, refl, refl, inl refl) (id 1 0, refl, refl, inr second_third)
  where
    ordered : (i : TxnId) → IsOne i → i ≢ id 0 1 → IsBefore parts i (id 0 1) ⊎ IsBefore parts (id 0 1) i
    ordered i (inl is) apart = inl (subst (λ j. IsBefore parts j (id 0 1)) (sym is) first_second)
    ordered i (inr (inl is)) apart = absurd (apart is)
    ordered i (inr (inr is)) apart = inr (subst (IsBefore parts (id 0 1)) (sym is) second_third)

not_past : ¬ IsSettled parts (IsOpenSession parts) (id 1 0)
not_past settled = by_case (settled.past 0 (lit< tt) (lit< tt, λ e. cc))
  where
    by_case : IsPast parts (id 1 0) 0 → ⊥
    by_case (i, session, remains, inl is) = let other : i.session ≡ 1 = ap (λ (j : TxnId). j.session) is in absurd (omega arith)
    by_case (i, session, remains, inr known) = false≢true (known_pair (id 1 0) i known)

pub returns-clause-first : goal.returns-clause-first
returns-clause-first c = first_settled

pub returns-clause-last : goal.returns-clause-last
returns-clause-last c = record {
  settled = second_settled;
  last = λ other settled apart. by_case other settled apart (which other (fronts_remain parts other other settled.remains (inl refl)));
}
  where
    by_case : (other : TxnId) → IsSettled parts (IsOpenSession parts) other → other ≢ id 0 1 → IsOne other → IsBefore parts other (id 0 1)
    by_case other settled apart (inl is) = subst (λ j. IsBefore parts j (id 0 1)) (sym is) first_second
    by_case other settled apart (inr (inl is)) = absurd (apart is)
    by_case other settled apart (inr (inr is)) = absurd (not_past (subst (IsSettled parts (IsOpenSession parts)) is settled))

pub returns-clause-not_past : goal.returns-clause-not_past
returns-clause-not_past c = not_past
