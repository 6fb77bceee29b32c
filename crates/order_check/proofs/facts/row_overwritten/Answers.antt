use Rattle.std.proofs.Common.{◌≡◌, ◌≢◌, ℕ, ◌<◌, ◌⊎◌, Bool, true, false, ◌&&◌, ◌||◌, [], ◌∷◌, refl, sym, ap, subst, lit<, arith, inl, inr, zero, suc, length, nat_eq}
use Rattle.std.proofs.Common.{◌∙◌, ◌+◌, subst₂, drop, cond, Option, Some, None, Contains, nat_cmp}
use Rattle.std.specs.Ordering.{eq_by_cmp}
use Rattle.std.specs.Cmp.{Equal-is}
use Rattle.std.proofs.lemmas.Bool.{ne_eqb}
use Rattle.std.proofs.lemmas.Option.{same_Some}
use Rattle.std.proofs.lemmas.List.{drop_all}
use Rattle.txn.specs.History.{session_of}
use Rattle.txn.specs.Transactions.{Rises, id_below}
use Rattle.txn.proofs.Ids.{same_id_is}
use Rattle.order_check.specs.Based.{mark_of}
use Rattle.order_check.specs.Settled.{or_else, count_in}
use Rattle.std.specs.FinMap.{nat_cmp-IsAntisymmetric, get, insert, empty, get-insert, get-empty}
use Rattle.std.proofs.lemmas.Cmp.{nat_cmp_total}
use Rattle.std.proofs.lemmas.Bool.{false≢true, or_cases, eqb-true, ltb-true}
use Rattle.txn.specs.declared.transactions.TxnId.{TxnId}
use Rattle.txn.specs.declared.transactions.Source.TheVariants.{Init, By}
use Rattle.txn.specs.Transactions.{same_id}
use Rattle.order_check.specs.declared.remainder.Parts.{Parts}
use Rattle.order_check.specs.Based.{Remains, received_count}
use Rattle.order_check.specs.Known.{WritesKey, by_session, by_read}
use Rattle.order_check.specs.Settled.{IsBefore, IsPast, InFront, IsLastIn}
use Rattle.order_check.specs.Rows.{id, fresh, overwritten, overwritten_read, overwritten_gone, overwritten_writers, overwritten_rest, gone_read}
use Rattle.order_check.proofs.EachRemaining.{each_remains, each_read_at, apart_by_test}
use Rattle.order_check.proofs.KnownPairs.{Pairs, Covers, known_has, has}
use Rattle.order_check.proofs.Fresh.{no_base, fresh_last, comes}
use Rattle.order_check.proofs.facts.row_overwritten.Goals as goal

abbrev parts : Parts
parts = fresh overwritten

-- all that is known
abbrev pairs : Pairs
pairs = (id 0 0, id 0 1) ∷ (id 0 0, id 0 2) ∷ (id 0 0, id 1 0) ∷ (id 0 1, id 0 2) ∷ (id 0 1, id 1 0) ∷ (id 0 2, id 1 0) ∷ []

covers : Covers parts no_base pairs
covers = record { gone = fresh_last overwritten; session = refl; read = refl; from_base = refl; transitive = refl; forced = refl }

known_pair : (a b : TxnId) → IsBefore parts a b → has pairs a b ≡ true
known_pair a b known = known_has parts no_base pairs covers a b known

or_false : (b : Bool) → (b || false) ≡ true → b ≡ true
or_false true e = refl
or_false false e = e

-- 0.0, 0.1 or the fence
abbrev IsFirst : TxnId → Type 0
IsFirst i = (i ≡ id 0 0) ⊎ ((i ≡ id 0 1) ⊎ (i ≡ id 0 2))

-- the four that remain
which : (i : TxnId) → Remains parts i → IsFirst i ⊎ (i ≡ id 1 0)
which i remains = by_case (or_cases (same_id i (id 0 0)) (same_id i (id 0 1) || (same_id i (id 0 2) || same_id i (id 1 0))) (each_remains (λ j. same_id j (id 0 0) || (same_id j (id 0 1) || (same_id j (id 0 2) || same_id j (id 1 0)))) parts refl i remains))
  where
    last_case : (same_id i (id 0 2) ≡ true) ⊎ (same_id i (id 1 0) ≡ true) → IsFirst i ⊎ (i ≡ id 1 0)
    last_case (inl third) = inl (inr (inr (same_id_is i (id 0 2) third)))
    last_case (inr fourth) = inr (same_id_is i (id 1 0) fourth)

    next_case : (same_id i (id 0 1) ≡ true) ⊎ ((same_id i (id 0 2) || same_id i (id 1 0)) ≡ true) → IsFirst i ⊎ (i ≡ id 1 0)
    next_case (inl second) = inl (inr (inl (same_id_is i (id 0 1) second)))
    next_case (inr others) = last_case (or_cases (same_id i (id 0 2)) (same_id i (id 1 0)) others)

    by_case : (same_id i (id 0 0) ≡ true) ⊎ ((same_id i (id 0 1) || (same_id i (id 0 2) || same_id i (id 1 0))) ≡ true) → IsFirst i ⊎ (i ≡ id 1 0)
    by_case (inl first) = inl (inl (same_id_is i (id 0 0) first))
    by_case (inr others) = next_case (or_cases (same_id i (id 0 1)) (same_id i (id 0 2) || same_id i (id 1 0)) others)

first_then_second : IsBefore parts (id 0 0) (id 0 1)
first_then_second = by_session {a = id 0 0} {b = id 0 1} refl refl refl (lit< tt)

first_then_fence : IsBefore parts (id 0 0) (id 0 2)
first_then_fence = by_session {a = id 0 0} {b = id 0 2} refl refl refl (lit< tt)

second_then_fence : IsBefore parts (id 0 1) (id 0 2)
second_then_fence = by_session {a = id 0 1} {b = id 0 2} refl refl refl (lit< tt)

fence_next : IsBefore parts (id 0 2) (id 1 0)
fence_next = by_read {reader = id 1 0} {writer = id 0 2} 0 (0, lit< tt, refl) refl

ordered : (i : TxnId) → Remains parts i → i ≢ id 0 2 → IsBefore parts i (id 0 2) ⊎ IsBefore parts (id 0 2) i
ordered i remains apart = by_case (which i remains)
  where
    by_case : IsFirst i ⊎ (i ≡ id 1 0) → IsBefore parts i (id 0 2) ⊎ IsBefore parts (id 0 2) i
    by_case (inl (inl is)) = inl (subst (λ j. IsBefore parts j (id 0 2)) (sym is) first_then_fence)
    by_case (inl (inr (inl is))) = inl (subst (λ j. IsBefore parts j (id 0 2)) (sym is) second_then_fence)
    by_case (inl (inr (inr is))) = absurd (apart is)
    by_case (inr is) = inr (subst (IsBefore parts (id 0 2)) (sym is) fence_next)

past : (s : ℕ) → s < length parts.remain → IsPast parts (id 0 2) s
past zero within = (id 0 2, refl, refl, inl refl)
past (suc zero) within = (id 1 0, refl, refl, inr fence_next)
past (suc (suc s)) within = absurd (omega arith)

-- of the pairs, two end at the fence
told : (first second fence : Bool) → ((first && false) || ((first && true) || ((first && false) || ((second && true) || ((second && false) || ((fence && false) || false)))))) ≡ true → (first || second) ≡ true
told true second fence e = refl
told false true fence e = refl
told false false true e = e
told false false false e = e

-- in front of the fence stand 0.0 and 0.1
in_front : (i : TxnId) → InFront parts (id 0 2) i → IsFirst i
in_front i (inl is) = inr (inr is)
in_front i (inr known) = by_case (or_cases (same_id i (id 0 0)) (same_id i (id 0 1)) (told (same_id i (id 0 0)) (same_id i (id 0 1)) (same_id i (id 0 2)) (known_pair i (id 0 2) known)))
  where
    by_case : (same_id i (id 0 0) ≡ true) ⊎ (same_id i (id 0 1) ≡ true) → IsFirst i
    by_case (inl first) = inl (same_id_is i (id 0 0) first)
    by_case (inr second) = inr (inl (same_id_is i (id 0 1) second))

-- 0.1 is the last writer of key 5 there, and the fence of key 0
last_of_5 : IsLastIn parts (id 0 2) 5 (id 0 1)
last_of_5 = record { front = inr second_then_fence; written = refl; last = λ other front written apart. by_case other written apart (in_front other front) }
  where
    by_case : (other : TxnId) → WritesKey parts other 5 → other ≢ id 0 1 → IsFirst other → IsBefore parts other (id 0 1)
    by_case other written apart (inl is) = subst (λ j. IsBefore parts j (id 0 1)) (sym is) first_then_second
    by_case other written apart (inr (inl is)) = absurd (apart is)
    by_case other written apart (inr (inr is)) = absurd (false≢true (subst (λ j. WritesKey parts j 5) is written))

last_of_0 : IsLastIn parts (id 0 2) 0 (id 0 2)
last_of_0 = record { front = inl refl; written = refl; last = λ other front written apart. absurd (by_case other written apart (in_front other front)) }
  where
    by_case : (other : TxnId) → WritesKey parts other 0 → other ≢ id 0 2 → IsFirst other → ⊥
    by_case other written apart (inl is) = false≢true (subst (λ j. WritesKey parts j 0) is written)
    by_case other written apart (inr (inl is)) = false≢true (subst (λ j. WritesKey parts j 0) is written)
    by_case other written apart (inr (inr is)) = apart is

key_5 : (i : TxnId) (key : ℕ) → (i ≡ id 0 0) ⊎ (i ≡ id 0 1) → WritesKey parts i key → key ≡ 5
key_5 i key (inl is) written = eqb-true key 5 (or_false (nat_eq key 5) (subst (λ j. WritesKey parts j key) is written))
key_5 i key (inr is) written = eqb-true key 5 (or_false (nat_eq key 5) (subst (λ j. WritesKey parts j key) is written))

key_0 : (i : TxnId) (key : ℕ) → i ≡ id 0 2 → WritesKey parts i key → key ≡ 0
key_0 i key is written = eqb-true key 0 (or_false (nat_eq key 0) (subst (λ j. WritesKey parts j key) is written))

last_writers : (i : TxnId) (key : ℕ) → InFront parts (id 0 2) i → WritesKey parts i key → (writer : TxnId) × IsLastIn parts (id 0 2) key writer
last_writers i key front written = by_case (in_front i front)
  where
    of_5 : key ≡ 5 → (writer : TxnId) × IsLastIn parts (id 0 2) key writer
    of_5 is = (id 0 1, subst (λ k. IsLastIn parts (id 0 2) k (id 0 1)) (sym is) last_of_5)

    by_case : IsFirst i → (writer : TxnId) × IsLastIn parts (id 0 2) key writer
    by_case (inl is) = of_5 (key_5 i key (inl is) written)
    by_case (inr (inl is)) = of_5 (key_5 i key (inr is) written)
    by_case (inr (inr is)) = (id 0 2, subst (λ k. IsLastIn parts (id 0 2) k (id 0 2)) (sym (key_0 i key is written)) last_of_0)

pub returns-clause-settled : goal.returns-clause-settled
returns-clause-settled c = record {
  remains = (Init, refl, refl);
  ordered = ordered;
  past = λ s within _. past s within;
  nothing_pending = λ i writer key front reads. ltb-true writer.number (received_count parts writer.session) (each_read_at (comes parts) parts refl i key (By writer) reads);
  last_writers = last_writers;
}

gone_in_front : (i : TxnId) → Contains overwritten_gone i → InFront parts (id 0 2) i
gone_in_front i (zero, within, is) = inr (subst (λ j. IsBefore parts j (id 0 2)) is first_then_fence)
gone_in_front i (suc zero, within, is) = inr (subst (λ j. IsBefore parts j (id 0 2)) is second_then_fence)
gone_in_front i (suc (suc zero), within, is) = inl (sym is)
gone_in_front i (suc (suc (suc k)), within, is) = absurd (omega arith)

front_gone : (i : TxnId) → InFront parts (id 0 2) i → Contains overwritten_gone i
front_gone i front = by_case (in_front i front)
  where
    by_case : IsFirst i → Contains overwritten_gone i
    by_case (inl is) = (0, lit< tt, sym is)
    by_case (inr (inl is)) = (1, lit< tt, sym is)
    by_case (inr (inr is)) = (2, lit< tt, sym is)

-- the last writers of the cut, key by key
writer_at : ℕ → Option TxnId
writer_at key = cond (eq_by_cmp nat_cmp key 5) (Some (id 0 1)) (cond (eq_by_cmp nat_cmp key 0) (Some (id 0 2)) None)

writers_are : (key : ℕ) → get overwritten_writers key ≡ writer_at key
unfolding writer_at
writers_are key = get-insert nat_cmp_total (insert empty 0 (id 0 2)) 5 (id 0 1) key
    ∙ ap (cond (eq_by_cmp nat_cmp key 5) (Some (id 0 1))) (get-insert nat_cmp_total empty 0 (id 0 2) key ∙ ap (cond (eq_by_cmp nat_cmp key 0) (Some (id 0 2))) (get-empty nat_cmp key))

tie_is : (key k : ℕ) → eq_by_cmp nat_cmp key k ≡ true → key ≡ k
tie_is key k tie = nat_cmp-IsAntisymmetric key k ((Equal-is (nat_cmp key k)).0 tie)

either : {X : Type 0} (b : Bool) (x y : X) (rest : Option X) → cond b (Some x) rest ≡ Some y → ((b ≡ true) × (x ≡ y)) ⊎ (rest ≡ Some y)
either true x y rest is = inl (refl, same_Some x y is)
either false x y rest is = inr is

told_last : (key : ℕ) (writer : TxnId) → writer_at key ≡ Some writer → IsLastIn parts (id 0 2) key writer
unfolding writer_at
told_last key writer told = by_case (either (eq_by_cmp nat_cmp key 5) (id 0 1) writer (cond (eq_by_cmp nat_cmp key 0) (Some (id 0 2)) None) told)
  where
    of_0 : ((eq_by_cmp nat_cmp key 0 ≡ true) × (id 0 2 ≡ writer)) ⊎ (None ≡ Some writer) → IsLastIn parts (id 0 2) key writer
    of_0 (inl (tie, is)) = subst₂ (IsLastIn parts (id 0 2)) (sym (tie_is key 0 tie)) is last_of_0
    of_0 (inr none) = absurd (cc)

    by_case : ((eq_by_cmp nat_cmp key 5 ≡ true) × (id 0 1 ≡ writer)) ⊎ (cond (eq_by_cmp nat_cmp key 0) (Some (id 0 2)) None ≡ Some writer) → IsLastIn parts (id 0 2) key writer
    by_case (inl (tie, is)) = subst₂ (IsLastIn parts (id 0 2)) (sym (tie_is key 5 tie)) is last_of_5
    by_case (inr more) = of_0 (either (eq_by_cmp nat_cmp key 0) (id 0 2) writer None more)

-- 0.0 isn't the last writer of its key
not_the_first : ¬ IsBefore parts (id 0 1) (id 0 0)
not_the_first known = false≢true (known_pair (id 0 1) (id 0 0) known)

apart_01 : id 0 1 ≢ id 0 0
apart_01 = apart_by_test (id 0 1) (id 0 0) refl

last_told : (key : ℕ) (writer : TxnId) → IsLastIn parts (id 0 2) key writer → writer_at key ≡ Some writer
unfolding writer_at
last_told key writer last = by_case (in_front writer last.front)
  where
    by_case : IsFirst writer → writer_at key ≡ Some writer
    by_case (inl is) =
        let key_is = key_5 writer key (inl is) last.written in
        let first : IsLastIn parts (id 0 2) 5 (id 0 0) = subst₂ (IsLastIn parts (id 0 2)) key_is is last in
        absurd (not_the_first (first.last (id 0 1) (inr second_then_fence) refl apart_01))
    by_case (inr (inl is)) =
        let key_is = key_5 writer key (inr is) last.written in
        rw (key_is, is) refl
    by_case (inr (inr is)) =
        let key_is = key_0 writer key is last.written in
        rw (key_is, is) refl

none_else : (o : Option TxnId) → o ≡ or_else o None
none_else None = refl
none_else (Some x) = refl

rise : Rises id_below overwritten_gone
rise zero d within = refl
rise (suc zero) d within = refl
rise (suc (suc k)) d within = absurd (omega arith)

pub returns-clause-cut : goal.returns-clause-cut
returns-clause-cut c = record {
  rise = rise;
  front = λ i. (gone_in_front i, front_gone i);
  last_of = λ key writer. (λ told. told_last key writer (sym (writers_are key) ∙ told), λ last. writers_are key ∙ last_told key writer last);
}

marks_of : (s : ℕ) → mark_of overwritten_rest s ≡ mark_of parts s + count_in overwritten_gone s
marks_of zero = refl
marks_of (suc zero) = refl
marks_of (suc (suc s)) =
    let other : nat_eq (suc (suc s)) 0 ≡ false = ne_eqb (suc (suc s)) 0 (λ e. absurd (omega arith)) in
    rw other refl

rest_remain : (s : ℕ) → session_of overwritten_rest.remain s ≡ drop (count_in overwritten_gone s) (session_of parts.remain s)
rest_remain zero = refl
rest_remain (suc zero) = refl
rest_remain (suc (suc s)) = sym (drop_all (count_in overwritten_gone (suc (suc s))) [] (omega arith))

pub returns-clause-rest : goal.returns-clause-rest
returns-clause-rest c = record {
  sessions = refl;
  remain = rest_remain;
  marks_length = refl;
  marks = marks_of;
  writers = λ key. none_else (get overwritten_writers key) ∙ ap (or_else (get overwritten_writers key)) (sym (get-empty nat_cmp key));
  closed = refl;
  most_sessions = refl;
  limit = refl;
}

read_remain : (s : ℕ) → session_of gone_read.remain s ≡ drop (count_in overwritten_gone s) (session_of overwritten_read s)
read_remain zero = refl
read_remain (suc zero) = refl
read_remain (suc (suc s)) = sym (drop_all (count_in overwritten_gone (suc (suc s))) [] (omega arith))

pub returns-clause-read : goal.returns-clause-read
returns-clause-read c = record {
  sessions = refl;
  remain = read_remain;
  marks_length = refl;
  marks = marks_of;
  writers = λ key. none_else (get overwritten_writers key) ∙ ap (or_else (get overwritten_writers key)) (sym (get-empty nat_cmp key));
  closed = refl;
  most_sessions = refl;
  limit = refl;
}
