-- What a well-formed fragment did is well formed.
use Rattle.std.proofs.Common.{◌≡◌, ℕ, zero, suc, ◌+◌, ◌^◌, ◌<◌, ◌≤◌, ◌⊎◌, Bool, true, false, List, [], ◌∷◌, length, refl, sym, ap, subst, ◌∙◌, inl, inr, arith}
use Rattle.std.specs.Prelude.{Some, slice_get, slice_index_or, All}
use Rattle.txn.specs.declared.transactions.TxnId.{TxnId}
use Rattle.txn.specs.declared.transactions.Txn.{Txn}
use Rattle.txn.specs.declared.transactions.Fragment.{Fragment}
use Rattle.txn.specs.Transactions.{IsShort, IsWellFormed, IsWellFormedBelow, IsWellFormedFragment, id_in}
use Rattle.logged_fragments.specs.Effects.{idle, effects_of}
use Rattle.logged_fragments.proofs.Idling.{effects_of_length}

idle_is_short : IsShort idle
idle_is_short = record { reads = omega arith; writes = omega arith }

idle_is_formed : (sessions : ℕ) (id : TxnId) → IsWellFormed sessions id idle
idle_is_formed sessions id = record {
  lists = record { reads_rise = λ k d within. absurd (omega (arith, within)); writes_rise = λ k d within. absurd (omega (arith, within)); sources = λ k d within. absurd (omega (arith, within)) };
  epoch = inr (record { reads = λ k d within. absurd (omega (arith, within)); writes = λ k d within. absurd (omega (arith, within)) });
}

-- at each place stands an idle one, or the one that stood there
at_index : (flags : List Bool) (txns : List Txn) (n : ℕ) (d : Txn) → n < length txns → (slice_index_or (effects_of flags txns) n d ≡ idle) ⊎ (slice_index_or (effects_of flags txns) n d ≡ slice_index_or txns n d)
at_index [] txns n d within = inr refl
at_index (flag ∷ flags) [] n d within = absurd (omega (arith, within))
at_index (true ∷ flags) (txn ∷ txns) zero d within = inl refl
at_index (false ∷ flags) (txn ∷ txns) zero d within = inr refl
at_index (true ∷ flags) (txn ∷ txns) (suc n) d within = at_index flags txns n d (omega (arith, within))
at_index (false ∷ flags) (txn ∷ txns) (suc n) d within = at_index flags txns n d (omega (arith, within))

at_place : (flags : List Bool) (txns : List Txn) (n : ℕ) (txn : Txn) → slice_get (effects_of flags txns) n ≡ Some txn → (txn ≡ idle) ⊎ (slice_get txns n ≡ Some txn)
at_place [] txns n txn found = inr found
at_place (flag ∷ flags) [] n txn found = inr found
at_place (true ∷ flags) (one ∷ txns) zero txn found = inl (grind (arith, found))
at_place (false ∷ flags) (one ∷ txns) zero txn found = inr found
at_place (true ∷ flags) (one ∷ txns) (suc n) txn found = at_place flags txns n txn found
at_place (false ∷ flags) (one ∷ txns) (suc n) txn found = at_place flags txns n txn found

short_or_idle : (one txn : Txn) → IsShort txn → (one ≡ idle) ⊎ (one ≡ txn) → IsShort one
short_or_idle one txn short (inl same) = subst IsShort (sym same) idle_is_short
short_or_idle one txn short (inr same) = subst IsShort (sym same) short

formed_or_idle : (sessions : ℕ) (fragment : Fragment) (n : ℕ) (txn : Txn) → n < length fragment.txns → IsWellFormedBelow sessions fragment (length fragment.txns) → (txn ≡ idle) ⊎ (slice_get fragment.txns n ≡ Some txn) → IsWellFormed sessions (id_in fragment n) txn
formed_or_idle sessions fragment n txn within formed (inl same) = subst (IsWellFormed sessions (id_in fragment n)) (sym same) (idle_is_formed sessions (id_in fragment n))
formed_or_idle sessions fragment n txn within formed (inr found) = formed n txn within found

pub effects_formed : (sessions : ℕ) (fragment : Fragment) (flags : List Bool) (txns : List Txn) → txns ≡ effects_of flags fragment.txns → IsWellFormedFragment sessions fragment → IsWellFormedFragment sessions (record fragment { txns = txns })
effects_formed sessions fragment flags txns is formed = record {
  session = formed.session;
  lengths = record {
    some = subst (λ size. 1 ≤ size) (sym size) formed.lengths.some;
    few = subst (λ size. size ≤ 256) (sym size) formed.lengths.few;
    numbers = subst (λ size. fragment.first + size ≤ 2 ^ 48) (sym size) formed.lengths.numbers;
    each = subst (All IsShort) (sym is) (λ k d within. short_or_idle (slice_index_or (effects_of flags fragment.txns) k d) (slice_index_or fragment.txns k d) (formed.lengths.each k d (inside k within)) (at_index flags fragment.txns k d (inside k within)));
  };
  txns = λ n txn within found. formed_or_idle sessions fragment n txn (subst (λ size. n < size) size within) formed.txns (at_place flags fragment.txns n txn (subst (λ list. slice_get list n ≡ Some txn) is found));
}
  where
    size : length txns ≡ length fragment.txns
    size = ap length is ∙ effects_of_length flags fragment.txns

    inside : (k : ℕ) → k < length (effects_of flags fragment.txns) → k < length fragment.txns
    inside k within = subst (λ size. k < size) (effects_of_length flags fragment.txns) within
