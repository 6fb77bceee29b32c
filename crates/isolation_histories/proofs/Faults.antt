-- Why a fragment can't be offered.
use Rattle.std.proofs.Common.{◌≡◌, ℕ, ◌+◌, ◌<◌, ◌≤◌, ◌⊎◌, length, get_or, Some, refl, sym, subst, inl, inr, arith, below_more, MatchResult, Result, Ok, Err}
use Rattle.std.specs.List.{slice_get}
use Rattle.std.proofs.lemmas.Option.{slice_get_read}
use Rattle.std.proofs.lemmas.Bool.{cases_lt}
use Rattle.std.proofs.lemmas.List.{get_or_default}
use Rattle.txn.specs.declared.refusals.Refusal.{Refusal}
use Rattle.txn.specs.declared.refusals.Refusal.TheVariants.{BadSession, BadTxn, BadFence, TooLong}
use Rattle.txn.specs.declared.transactions.TxnId.{TxnId}
use Rattle.txn.specs.declared.transactions.Txn.{Txn}
use Rattle.txn.specs.declared.transactions.Fragment.{Fragment}
use Rattle.txn.specs.Transactions.{HasGoodLengths, IsWellFormed, IsWellFormedBelow, IsWellFormedFragment, TxnFault, FirstFault, FragmentFault, id_in}
use Rattle.isolation_histories.specs.Splittable.{HasLowNumbers}
use Rattle.isolation_histories.specs.Offered.{HasOfferedLengths, CanBeOffered, AreOfferedBelow, OfferedTxnFault, FirstOfferedFault, OfferedFault}

-- one more that can be offered
pub offered_more : (sessions : ℕ) (f : Fragment) (place : ℕ) (txn : Txn) → AreOfferedBelow sessions f place → place < length f.txns → txn ≡ get_or f.txns place txn → IsWellFormed sessions (id_in f place) txn → HasLowNumbers txn → AreOfferedBelow sessions f (place + 1)
offered_more sessions f place txn below within is formed low =
    let P : ℕ → Type 0 = λ n. (t : Txn) → slice_get f.txns n ≡ Some t → IsWellFormed sessions (id_in f n) t × HasLowNumbers t in
    let at : P place = λ t got. let read = slice_get_read f.txns (length f.txns) place txn refl within is in let e : t ≡ txn = cc in subst (λ x. IsWellFormed sessions (id_in f place) x × HasLowNumbers x) (sym e) (formed, low) in
    let all : (n : ℕ) → n < place + 1 → P n = below_more P place (λ n lt t got. below n t lt got) at in
    λ n t lt got. all n lt t got

-- lengths that are good for an offer are good
good_lengths : (f : Fragment) → HasOfferedLengths f → HasGoodLengths f
good_lengths f lengths = record {
  some = lengths.some;
  few = let few = lengths.few in omega (arith, few);
  numbers = let numbers = lengths.numbers in omega (arith, numbers);
  each = lengths.each;
}

-- all can be offered
pub all_offered : (sessions : ℕ) (f : Fragment) (place : ℕ) → f.session < sessions → HasOfferedLengths f → AreOfferedBelow sessions f place → length f.txns ≤ place → CanBeOffered sessions f
all_offered sessions f place session lengths below past = record {
  splittable = record {
    well_formed = record {
      session = session;
      lengths = good_lengths f lengths;
      txns = λ n txn within got. (below n txn (omega (arith, within, past)) got).0;
    };
    numbers = lengths.numbers;
    each = λ k d within. (below k (get_or f.txns k d) (omega (arith, within, past)) (slice_get_read f.txns (length f.txns) k (get_or f.txns k d) refl within (get_or_default f.txns k d (get_or f.txns k d) within))).1;
  };
  few = lengths.few;
}

-- a transaction whose keys or numbers aren't low
pub high_fault : (sessions : ℕ) (f : Fragment) (place : ℕ) (txn : Txn) → f.session < sessions → HasOfferedLengths f → AreOfferedBelow sessions f place → place < length f.txns → txn ≡ get_or f.txns place txn → ¬ HasLowNumbers txn → OfferedFault sessions f BadTxn
high_fault sessions f place txn session lengths below within is high = (session, lengths, (place, txn, slice_get_read f.txns (length f.txns) place txn refl within is, below, λ both. high both.1))

-- the first that isn't well formed is at this place
same_place : (sessions : ℕ) (f : Fragment) (place other : ℕ) (txn found : Txn) → AreOfferedBelow sessions f place → slice_get f.txns place ≡ Some txn → ¬ IsWellFormed sessions (id_in f place) txn → IsWellFormedBelow sessions f other → slice_get f.txns other ≡ Some found → ¬ IsWellFormed sessions (id_in f other) found → other ≡ place
same_place sessions f place other txn found below at ill front got fault = by_first (cases_lt place other) (cases_lt other place)
  where
    by_first : (place < other) ⊎ (other ≤ place) → (other < place) ⊎ (place ≤ other) → other ≡ place
    by_first (inl less) _ = absurd (ill (front place txn less at))
    by_first (inr _) (inl less) = absurd (fault (below other found less got).0)
    by_first (inr more) (inr less) = omega (arith, more, less)

not_formed : (sessions : ℕ) (id : TxnId) (txn : Txn) (refusal : Refusal) → TxnFault sessions id txn refusal → ¬ IsWellFormed sessions id txn
not_formed sessions id txn BadTxn fault formed = fault formed.lists
not_formed sessions id txn BadFence fault formed = fault.1 formed.epoch
not_formed sessions id txn refusal fault formed = absurd fault

with_low : (sessions : ℕ) (id : TxnId) (txn : Txn) (refusal : Refusal) → HasLowNumbers txn → TxnFault sessions id txn refusal → OfferedTxnFault sessions id txn refusal
with_low sessions id txn BadTxn low fault = λ both. fault both.0
with_low sessions id txn BadFence low fault = (fault.0, low, fault.1)
with_low sessions id txn refusal low fault = absurd fault

first_fault : (sessions : ℕ) (f : Fragment) (place : ℕ) (txn : Txn) (refusal : Refusal) → AreOfferedBelow sessions f place → slice_get f.txns place ≡ Some txn → HasLowNumbers txn → ¬ IsWellFormed sessions (id_in f place) txn → FirstFault sessions f refusal → FirstOfferedFault sessions f refusal
first_fault sessions f place txn refusal below at low ill (other, found, got, front, fault) =
    let e : other ≡ place = same_place sessions f place other txn found below at ill front got (not_formed sessions (id_in f other) found refusal fault) in
    let here : slice_get f.txns place ≡ Some found = subst (λ n. slice_get f.txns n ≡ Some found) e got in
    let one : found ≡ txn = cc in
    (place, txn, at, below, with_low sessions (id_in f place) txn refusal low (subst (λ t. TxnFault sessions (id_in f place) t refusal) one (subst (λ n. TxnFault sessions (id_in f n) found refusal) e fault)))

-- a transaction that isn't well formed: it is refused as it is by itself
ill_fault : (sessions : ℕ) (f : Fragment) (place : ℕ) (txn : Txn) (refusal : Refusal) → f.session < sessions → HasOfferedLengths f → AreOfferedBelow sessions f place → slice_get f.txns place ≡ Some txn → HasLowNumbers txn → ¬ IsWellFormed sessions (id_in f place) txn → FragmentFault sessions f refusal → OfferedFault sessions f refusal
ill_fault sessions f place txn BadSession session lengths below at low ill fault = fault
ill_fault sessions f place txn TooLong session lengths below at low ill fault = absurd (fault.1 (good_lengths f lengths))
ill_fault sessions f place txn refusal session lengths below at low ill fault = (session, lengths, first_fault sessions f place txn refusal below at low ill fault.2)

pub ill_judged : {X : Type 0} (sessions : ℕ) (f : Fragment) (place : ℕ) (txn : Txn) (judged : Result X Refusal) → f.session < sessions → HasOfferedLengths f → AreOfferedBelow sessions f place → place < length f.txns → txn ≡ get_or f.txns place txn → HasLowNumbers txn → ¬ IsWellFormed sessions (id_in f place) txn → MatchResult judged (λ _. IsWellFormedFragment sessions f) (FragmentFault sessions f) → MatchResult judged (λ _. CanBeOffered sessions f) (OfferedFault sessions f)
ill_judged sessions f place txn (Ok x) session lengths below within is low ill formed = absurd (ill (formed.txns place txn within (slice_get_read f.txns (length f.txns) place txn refl within is)))
ill_judged sessions f place txn (Err refusal) session lengths below within is low ill fault = ill_fault sessions f place txn refusal session lengths below (slice_get_read f.txns (length f.txns) place txn refl within is) low ill fault
