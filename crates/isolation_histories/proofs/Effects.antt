-- What a fragment did, split, is what the split fragment did; and it can be split.
use Rattle.std.proofs.Common.{◌≡◌, ℕ, zero, suc, ◌+◌, ◌*◌, ◌<◌, ◌≤◌, ◌⊎◌, Bool, true, false, List, [], ◌∷◌, length, Some, refl, sym, ap, subst, inl, inr, arith}
use Rattle.std.specs.Prelude.{All}
use Rattle.std.specs.List.{slice_get}
use Rattle.std.proofs.lemmas.List.Elements.{All-cons, All-head, All-tail}
use Rattle.txn.specs.declared.transactions.TxnId.{TxnId}
use Rattle.txn.specs.declared.transactions.Txn.{Txn}
use Rattle.txn.specs.Transactions.{IsShort, IsWellFormed, id_in}
use Rattle.logged_fragments.specs.Effects.{idle, effects_of, effects}
use Rattle.logged_fragments.specs.declared.logged.LoggedFragment.{LoggedFragment}
use Rattle.isolation_histories.specs.Split.{begin_txn, commit_txn, split_txns, split_of}
use Rattle.isolation_histories.specs.Splittable.{HasLowNumbers, IsSplittable}
use Rattle.isolation_histories.specs.Logged.{doubled, split_logged}

split_effects_of : (flags : List Bool) (s number : ℕ) (txns : List Txn) → effects_of (doubled flags) (split_txns s number txns) ≡ split_txns s number (effects_of flags txns)
split_effects_of [] s number txns = refl
split_effects_of (flag ∷ flags) s number [] = refl
split_effects_of (true ∷ flags) s number (txn ∷ txns) = ap (λ rest. idle ∷ idle ∷ rest) (split_effects_of flags s (number + 1) txns)
split_effects_of (false ∷ flags) s number (txn ∷ txns) = ap (λ rest. begin_txn txn ∷ commit_txn (record { session = s; number = number }) txn ∷ rest) (split_effects_of flags s (number + 1) txns)

pub split_effects : (logged : LoggedFragment) → effects (split_logged logged) ≡ split_of (effects logged)
split_effects logged =
    ap (λ txns. record { session = logged.fragment.session; first = 2 * logged.fragment.first; txns = txns }) (split_effects_of logged.aborted logged.fragment.session logged.fragment.first logged.fragment.txns)

effects_length : (flags : List Bool) (txns : List Txn) → length (effects_of flags txns) ≡ length txns
effects_length [] txns = refl
effects_length (flag ∷ flags) [] = refl
effects_length (true ∷ flags) (txn ∷ txns) = ap suc (effects_length flags txns)
effects_length (false ∷ flags) (txn ∷ txns) = ap suc (effects_length flags txns)

-- an idle one, or the one that stood there
effects_at : (flags : List Bool) (txns : List Txn) (n : ℕ) (txn : Txn) → slice_get (effects_of flags txns) n ≡ Some txn → (idle ≡ txn) ⊎ (slice_get txns n ≡ Some txn)
effects_at [] txns n txn at = inr at
effects_at (flag ∷ flags) [] n txn at = inr at
effects_at (true ∷ flags) (one ∷ txns) zero txn at = inl (let same : idle ≡ txn = cc in same)
effects_at (false ∷ flags) (one ∷ txns) zero txn at = inr at
effects_at (true ∷ flags) (one ∷ txns) (suc n) txn at = effects_at flags txns n txn at
effects_at (false ∷ flags) (one ∷ txns) (suc n) txn at = effects_at flags txns n txn at

all_effects : (P : Txn → Type 0) → P idle → (flags : List Bool) (txns : List Txn) → All P txns → All P (effects_of flags txns)
all_effects P none [] txns all = all
all_effects P none (flag ∷ flags) [] all = all
all_effects P none (true ∷ flags) (txn ∷ txns) all = All-cons P idle (effects_of flags txns) none (all_effects P none flags txns (All-tail P txn txns all))
all_effects P none (false ∷ flags) (txn ∷ txns) all = All-cons P txn (effects_of flags txns) (All-head P txn txns all) (all_effects P none flags txns (All-tail P txn txns all))

idle_is_short : IsShort idle
idle_is_short = record { reads = omega arith; writes = omega arith }

idle_is_low : HasLowNumbers idle
idle_is_low = record { reads = λ k d within. absurd (omega (arith, within)); writes = λ k d within. absurd (omega (arith, within)) }

idle_is_formed : (sessions : ℕ) (id : TxnId) → IsWellFormed sessions id idle
idle_is_formed sessions id = record {
  lists = record { reads_rise = λ k d within. absurd (omega (arith, within)); writes_rise = λ k d within. absurd (omega (arith, within)); sources = λ k d within. absurd (omega (arith, within)) };
  epoch = inr (record { reads = λ k d within. absurd (omega (arith, within)); writes = λ k d within. absurd (omega (arith, within)) });
}

pub effects_splittable : (sessions : ℕ) (logged : LoggedFragment) → IsSplittable sessions logged.fragment → IsSplittable sessions (effects logged)
effects_splittable sessions logged can =
    let fragment = logged.fragment in
    let size : length (effects_of logged.aborted fragment.txns) ≡ length fragment.txns = effects_length logged.aborted fragment.txns in
    let lengths = can.well_formed.lengths in
    record {
      well_formed = record {
        session = can.well_formed.session;
        lengths = record {
          some = subst (λ n. 1 ≤ n) (sym size) lengths.some;
          few = subst (λ n. n ≤ 256) (sym size) lengths.few;
          numbers = subst (λ n. fragment.first + n ≤ 281474976710656) (sym size) lengths.numbers;
          each = all_effects IsShort idle_is_short logged.aborted fragment.txns lengths.each;
        };
        txns = λ n txn within at. formed n txn (subst (λ m. n < m) size within) (effects_at logged.aborted fragment.txns n txn at);
      };
      numbers = subst (λ n. fragment.first + n ≤ 140737488355328) (sym size) can.numbers;
      each = all_effects HasLowNumbers idle_is_low logged.aborted fragment.txns can.each;
    }
  where
    formed : (n : ℕ) (txn : Txn) → n < length logged.fragment.txns → (idle ≡ txn) ⊎ (slice_get logged.fragment.txns n ≡ Some txn) → IsWellFormed sessions (id_in logged.fragment n) txn
    formed n txn within (inl none) = subst (IsWellFormed sessions (id_in logged.fragment n)) none (idle_is_formed sessions (id_in logged.fragment n))
    formed n txn within (inr at) = can.well_formed.txns n txn within at
