-- Flags of sessions, and lists of transactions that are noted.
use Rattle.std.proofs.Common.{◌≡◌, ◌⊎◌, ℕ, zero, suc, ◌+◌, ◌<◌, ◌≤◌, Bool, true, false, List, [], ◌∷◌, ◌++◌, Vec, Global, length, get_or, set, take, replicate, refl, sym, ap, subst, ◌∙◌, inl, inr, arith, Contains}
use Rattle.std.proofs.lemmas.Bool.{false≢true}
use Rattle.std.proofs.lemmas.List.{take_more}
use Rattle.std.proofs.lemmas.List.Elements.{Contains-append_left, Contains-push, Contains-push_cases}
use Rattle.txn.specs.declared.transactions.TxnId.{TxnId}
use Rattle.clock_choices.specs.Due.{flag_at, AreListed, IsNoted, AreNoted}

-- the flag of a line that is read
pub flag_at-get : (flags : List (Vec Bool Global)) (session place : ℕ) (d : Vec Bool Global) → session < length flags → get_or (get_or flags session d).items place false ≡ flag_at flags session place
flag_at-get [] session place d within = absurd (omega arith)
flag_at-get (line ∷ flags) zero place d within = refl
flag_at-get (line ∷ flags) (suc session) place d within = flag_at-get flags session place d (omega arith)

pub flag_at-past : (flags : List (Vec Bool Global)) (session place : ℕ) → length flags ≤ session → flag_at flags session place ≡ false
flag_at-past [] session place past = refl
flag_at-past (line ∷ flags) zero place past = absurd (omega arith)
flag_at-past (line ∷ flags) (suc session) place past = flag_at-past flags session place (omega arith)

-- one more line
pub flag_at-push : (flags : List (Vec Bool Global)) (line : Vec Bool Global) (session place : ℕ) → flag_at (flags ++ line ∷ []) session place ≡ true → (flag_at flags session place ≡ true) ⊎ (get_or line.items place false ≡ true)
flag_at-push [] line zero place is = inr is
flag_at-push [] line (suc session) place is = absurd (false≢true is)
flag_at-push (first ∷ flags) line zero place is = inl is
flag_at-push (first ∷ flags) line (suc session) place is = flag_at-push flags line session place is

-- a line that is written
pub flag_at-set : (flags : List (Vec Bool Global)) (i : ℕ) (line : Vec Bool Global) (session place : ℕ) → flag_at (set flags i line) session place ≡ true → ((session ≡ i) × (get_or line.items place false ≡ true)) ⊎ (flag_at flags session place ≡ true)
flag_at-set [] i line session place is = inr is
flag_at-set (first ∷ flags) zero line zero place is = inl (refl, is)
flag_at-set (first ∷ flags) zero line (suc session) place is = inr is
flag_at-set (first ∷ flags) (suc i) line zero place is = inr is
flag_at-set (first ∷ flags) (suc i) line (suc session) place is = elim (flag_at-set flags i line session place is) [
  | inl both ↦ inl (ap suc both.0, both.1)
  | inr was ↦ inr was
]

pub noted_there : (old : List TxnId) (id : TxnId) → Contains old id → IsNoted old old id
noted_there old id there = record { here = there; stay = λ other is. is; only = λ other is. inl is }

pub noted_push : (old : List TxnId) (id : TxnId) → IsNoted old (old ++ id ∷ []) id
noted_push old id = record {
  here = Contains-push old id;
  stay = λ other is. Contains-append_left old (id ∷ []) other is;
  only = λ other is. elim (Contains-push_cases old id other is) [ inl was ↦ inl was | inr same ↦ inr (sym same) ];
}

pub listed_more : (gone : List ℕ) (flags : List (Vec Bool Global)) (ids : List TxnId) (id : TxnId) → AreListed gone flags ids → AreListed gone flags (ids ++ id ∷ [])
listed_more gone flags ids id are session place is = Contains-append_left ids (id ∷ []) _ (are session place is)

-- a flag is set of the one that is put behind
pub listed_set : (gone : List ℕ) (flags new : List (Vec Bool Global)) (ids : List TxnId) (id : TxnId) (place : ℕ) → get_or gone id.session 0 + place ≡ id.number → AreListed gone flags ids
    → ((s p : ℕ) → flag_at new s p ≡ true → (flag_at flags s p ≡ true) ⊎ ((s ≡ id.session) × (p ≡ place))) → AreListed gone new (ids ++ id ∷ [])
listed_set gone flags new ids id place number are only session p is = elim (only session p is) [
  | inl was ↦ listed_more gone flags ids id are session p was
  | inr both ↦
      let e : get_or gone session 0 + p ≡ id.number = ap (λ (s : ℕ). get_or gone s 0 + p) both.0 ∙ ap (λ (n : ℕ). get_or gone id.session 0 + n) both.1 ∙ number in
      subst (λ (other : TxnId). Contains (ids ++ id ∷ []) other) (λ i. record { session = sym both.0 i; number = sym e i }) (Contains-push ids id)
]

-- the one whose flag is set is listed
pub listed_is : (gone : List ℕ) (flags : List (Vec Bool Global)) (ids : List TxnId) (id : TxnId) (place : ℕ) → get_or gone id.session 0 + place ≡ id.number → AreListed gone flags ids → flag_at flags id.session place ≡ true → Contains ids id
listed_is gone flags ids id place number are is = subst (λ (n : ℕ). Contains ids (record { session = id.session; number = n })) number (are id.session place is)

pub all_noted_none : (old : List TxnId) → AreNoted old old []
all_noted_none old = record { here = λ id is. absurd (omega (arith, is.1)); stay = λ id is. is; only = λ id is. inl is }

pub all_noted_more : (old mid new ids : List TxnId) (k : ℕ) (d : TxnId) → k < length ids → AreNoted old mid (take k ids) → IsNoted mid new (get_or ids k d) → AreNoted old new (take (k + 1) ids)
all_noted_more old mid new ids k d within are is =
    let id = get_or ids k d in
    let more : take (k + 1) ids ≡ take k ids ++ id ∷ [] = take_more ids k d within in
    subst (λ (some : List TxnId). AreNoted old new some) (sym more) record {
      here = λ other there. elim (Contains-push_cases (take k ids) id other there) [
        | inl before ↦ is.stay other (are.here other before)
        | inr same ↦ subst (λ (x : TxnId). Contains new x) same is.here
      ];
      stay = λ other there. is.stay other (are.stay other there);
      only = λ other there. elim (is.only other there) [
        | inr same ↦ inr (subst (λ (x : TxnId). Contains (take k ids ++ id ∷ []) x) (sym same) (Contains-push (take k ids) id))
        | inl between ↦ elim (are.only other between) [
          | inl was ↦ inl was
          | inr before ↦ inr (Contains-append_left (take k ids) (id ∷ []) other before)
        ]
      ];
    }

pub not_flagged : (n p : ℕ) → get_or (replicate n false) p false ≡ true → ⊥
not_flagged zero p is = false≢true is
not_flagged (suc n) zero is = false≢true is
not_flagged (suc n) (suc p) is = not_flagged n p is

abbrev none_set : List Bool
none_set = []

take_none : (n : ℕ) → take n none_set ≡ none_set
take_none zero = refl
take_none (suc n) = refl

pub not_flagged_behind : (xs : List Bool) (n m p : ℕ) → xs ≡ [] → get_or (take n xs ++ replicate m false) p false ≡ true → ⊥
not_flagged_behind xs n m p none is = not_flagged m p (ap (λ (some : List Bool). get_or (some ++ replicate m false) p false) (sym (ap (λ (ys : List Bool). take n ys) none ∙ take_none n)) ∙ is)

-- one that has a flag is listed
pub listed_has : (gone : List ℕ) (flags : List (Vec Bool Global)) (ids : List TxnId) (id : TxnId) (place : ℕ) → get_or gone id.session 0 + place ≡ id.number → AreListed gone flags ids → flag_at flags id.session place ≡ true → Contains ids id
listed_has gone flags ids id place number are is = subst (λ (other : TxnId). Contains ids other) (λ i. record { session = id.session; number = number i }) (are id.session place is)
