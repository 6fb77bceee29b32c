-- Ids are told apart by their numbers.
use Rattle.std.proofs.Common.{◌≡◌, ◌≢◌, ◌<◌, ◌⊎◌, ◌&&◌, true, false, not, nat_eq, nat_lt, refl, sym, ap, ◌∙◌, inl, inr}
use Rattle.std.proofs.lemmas.Bool.{and_from, and_parts, eq-eqb, eqb-true, false_from_ne_true, ltb-true, not_from_false, or_cases}
use Rattle.std.proofs.lemmas.Bool.Decides.{eqb_tells}
use Rattle.std.specs.declared.cmp.Ordering.{Ordering}
use Rattle.txn.specs.declared.transactions.TxnId.{TxnId}
use Rattle.txn.specs.contracts.transactions.TxnIdOrd.TheImpl as id_ord
use Rattle.txn.specs.Transactions.{id_below, same_id}

-- what `cmp` answers
abbrev pub id_cmp : TxnId → TxnId → Ordering
id_cmp = (id_ord.ghosts).cmp

-- two with one session and one number are the same
pub same_numbers : (a b : TxnId) → a.session ≡ b.session → a.number ≡ b.number → a ≡ b
same_numbers a b session number = λ i. record { session = session i; number = number i }

pub same_id_is : (a b : TxnId) → same_id a b ≡ true → a ≡ b
same_id_is a b same =
    let both = and_parts (nat_eq a.session b.session) (nat_eq a.number b.number) same in
    same_numbers a b (eqb-true a.session b.session both.0) (eqb-true a.number b.number both.1)

pub same_id_itself : (a : TxnId) → same_id a a ≡ true
same_id_itself a = and_from (nat_eq a.session a.session) (nat_eq a.number a.number) (eq-eqb a.session a.session refl) (eq-eqb a.number a.number refl)

pub same_id_from : (a b : TxnId) → a ≡ b → same_id a b ≡ true
same_id_from a b is = ap (same_id a) (sym is) ∙ same_id_itself a

pub apart_test : (a b : TxnId) → a ≢ b → not (same_id a b) ≡ true
apart_test a b apart = not_from_false (same_id a b) (false_from_ne_true (same_id a b) (λ same. apart (same_id_is a b same)))

-- ids are one, or they are not
pub same_or_not : (a b : TxnId) → (a ≡ b) ⊎ (a ≡ b → ⊥)
same_or_not a b = by_fields (eqb_tells a.session b.session) (eqb_tells a.number b.number)
  where
    by_fields : ((nat_eq a.session b.session ≡ true) × (a.session ≡ b.session)) ⊎ ((nat_eq a.session b.session ≡ false) × (a.session ≡ b.session → ⊥)) → ((nat_eq a.number b.number ≡ true) × (a.number ≡ b.number)) ⊎ ((nat_eq a.number b.number ≡ false) × (a.number ≡ b.number → ⊥)) → (a ≡ b) ⊎ (a ≡ b → ⊥)
    by_fields (inl (t, session)) (inl (u, number)) = inl (same_numbers a b session number)
    by_fields (inl (t, session)) (inr (u, apart)) = inr (λ e. apart (ap (λ (id : TxnId). id.number) e))
    by_fields (inr (t, apart)) other = inr (λ e. apart (ap (λ (id : TxnId). id.session) e))

-- how one id is below another
pub below_is : (a b : TxnId) → id_below a b ≡ true → (a.session < b.session) ⊎ ((a.session ≡ b.session) × (a.number < b.number))
below_is a b h = by_part (or_cases (nat_lt a.session b.session) (nat_eq a.session b.session && nat_lt a.number b.number) h)
  where
    by_part : (nat_lt a.session b.session ≡ true) ⊎ ((nat_eq a.session b.session && nat_lt a.number b.number) ≡ true) → (a.session < b.session) ⊎ ((a.session ≡ b.session) × (a.number < b.number))
    by_part (inl l) = inl (ltb-true a.session b.session l)
    by_part (inr r) = let parts = and_parts (nat_eq a.session b.session) (nat_lt a.number b.number) r in inr (eqb-true a.session b.session parts.0, ltb-true a.number b.number parts.1)
