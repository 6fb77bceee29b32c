-- Why a command is refused before it is split is one thing.
use Rattle.std.proofs.Common.{◌≡◌, ℕ, ◌<◌, ◌≤◌, Some, slice_get, refl, sym, ◌∙◌, subst, arith, inl, inr}
use Rattle.std.specs.Prelude.{◌⊎◌}
use Rattle.std.proofs.lemmas.Bool.{cases_order}
use Rattle.std.proofs.lemmas.List.Elements.{All-get_or}
use Rattle.std.proofs.lemmas.Option.{slice_get_within, get_or_from_slice_get}
use Rattle.txn.specs.declared.transactions.Fragment.{Fragment}
use Rattle.txn.specs.declared.transactions.Txn.{Txn}
use Rattle.txn.specs.declared.transactions.TxnId.{TxnId}
use Rattle.txn.specs.declared.refusals.Refusal.{Refusal}
use Rattle.txn.specs.declared.refusals.Refusal.TheVariants.{BadSession, BadTxn, BadFence, TooLong}
use Rattle.txn.specs.Transactions.{IsWellFormed, id_in}
use Rattle.log_text.specs.declared.commands.Command.{Command}
use Rattle.log_text.specs.declared.commands.Command.TheVariants as command
use Rattle.isolation_histories.specs.Offered.{HasOfferedLengths, CanBeOffered, OfferedTxnFault, FirstOfferedFault, OfferedFault}
use Rattle.isolation_histories.specs.Splittable.{HasLowNumbers}
use Rattle.isolation_scripts.specs.Splitting.{CanBeAsked, IsAskedFault}

no_txn_fault : (most : ℕ) (id : TxnId) (txn : Txn) (r : Refusal) → IsWellFormed most id txn → HasLowNumbers txn → OfferedTxnFault most id txn r → ⊥
no_txn_fault most id txn BadTxn well low is = is (well.lists, low)
no_txn_fault most id txn BadFence well low is = is.2 well.epoch
no_txn_fault most id txn r well low is = is

same_txn_fault : (most : ℕ) (id : TxnId) (txn : Txn) (r q : Refusal) → OfferedTxnFault most id txn r → OfferedTxnFault most id txn q → r ≡ q
same_txn_fault most id txn BadTxn BadTxn a b = refl
same_txn_fault most id txn BadTxn BadFence a b = absurd (a (b.0, b.1))
same_txn_fault most id txn BadTxn q a b = absurd b
same_txn_fault most id txn BadFence BadTxn a b = absurd (b (a.0, a.1))
same_txn_fault most id txn BadFence BadFence a b = refl
same_txn_fault most id txn BadFence q a b = absurd b
same_txn_fault most id txn r q a b = absurd a

-- the first fault of one place stands behind no other
fault_behind : (most : ℕ) (f : Fragment) (r q : Refusal) (a : FirstOfferedFault most f r) (b : FirstOfferedFault most f q) → a.0 < b.0 → ⊥
fault_behind most f r q a b before =
    let well = b.3 a.0 a.1 before a.2 in
    no_txn_fault most (id_in f a.0) a.1 r well.0 well.1 a.4

same_place : (most : ℕ) (f : Fragment) (r q : Refusal) (k n : ℕ) (x y : Txn) → k ≡ n → slice_get f.txns k ≡ Some x → slice_get f.txns n ≡ Some y → OfferedTxnFault most (id_in f k) x r → OfferedTxnFault most (id_in f n) y q → r ≡ q
same_place most f r q k n x y at one two a b =
    let other : slice_get f.txns k ≡ Some y = subst (λ m. slice_get f.txns m ≡ Some y) (sym at) two in
    let same : Some x ≡ Some y = sym one ∙ other in
    let equal : x ≡ y = cc in
    same_txn_fault most (id_in f k) x r q a (subst (λ t. OfferedTxnFault most (id_in f k) t q) (sym equal) (subst (λ m. OfferedTxnFault most (id_in f m) y q) (sym at) b))

same_first : (most : ℕ) (f : Fragment) (r q : Refusal) → FirstOfferedFault most f r → FirstOfferedFault most f q → r ≡ q
same_first most f r q a b = by_place (cases_order a.0 b.0)
  where
    by_place : (a.0 ≡ b.0) ⊎ ((a.0 < b.0) ⊎ (b.0 < a.0)) → r ≡ q
    by_place (inl at) = same_place most f r q a.0 b.0 a.1 b.1 at a.2 b.2 a.4 b.4
    by_place (inr (inl before)) = absurd (fault_behind most f r q a b before)
    by_place (inr (inr after)) = absurd (fault_behind most f q r b a after)

-- the faults of a fragment, one after another
abbrev Faulty : ℕ → Fragment → Refusal → Type 0
Faulty most f r = ((r ≡ BadSession) × (most ≤ f.session)) ⊎ (((r ≡ TooLong) × (f.session < most) × (¬ HasOfferedLengths f)) ⊎ ((f.session < most) × HasOfferedLengths f × FirstOfferedFault most f r))

faulty : (most : ℕ) (f : Fragment) (r : Refusal) → OfferedFault most f r → Faulty most f r
faulty most f BadSession is = inl (refl, is)
faulty most f TooLong is = inr (inl (refl, is.0, is.1))
faulty most f r is = inr (inr is)

lengths_of : (most : ℕ) (f : Fragment) → CanBeOffered most f → HasOfferedLengths f
lengths_of most f can =
    let lengths = can.splittable.well_formed.lengths in
    record { some = lengths.some; few = can.few; numbers = can.splittable.numbers; each = lengths.each }

low_at : (most : ℕ) (f : Fragment) (place : ℕ) (txn : Txn) → CanBeOffered most f → slice_get f.txns place ≡ Some txn → HasLowNumbers txn
low_at most f place txn can got =
    subst HasLowNumbers (get_or_from_slice_get f.txns place txn txn got) (All-get_or HasLowNumbers f.txns place txn (slice_get_within f.txns place txn got) can.splittable.each)

no_faulty : (most : ℕ) (f : Fragment) (r : Refusal) → CanBeOffered most f → Faulty most f r → ⊥
no_faulty most f r can (inl is) = omega (arith, can.splittable.well_formed.session, is.1)
no_faulty most f r can (inr (inl is)) = is.2 (lengths_of most f can)
no_faulty most f r can (inr (inr is)) =
    let first = is.2 in
    no_txn_fault most (id_in f first.0) first.1 r (can.splittable.well_formed.txns first.0 first.1 (slice_get_within f.txns first.0 first.1 first.2) first.2) (low_at most f first.0 first.1 can first.2) first.4

no_fault : (most : ℕ) (f : Fragment) (r : Refusal) → CanBeOffered most f → OfferedFault most f r → ⊥
no_fault most f r can is = no_faulty most f r can (faulty most f r is)

same_faulty : (most : ℕ) (f : Fragment) (r q : Refusal) → Faulty most f r → Faulty most f q → r ≡ q
same_faulty most f r q (inl a) (inl b) = a.0 ∙ sym b.0
same_faulty most f r q (inl a) (inr (inl b)) = absurd (omega (arith, a.1, b.1))
same_faulty most f r q (inl a) (inr (inr b)) = absurd (omega (arith, a.1, b.0))
same_faulty most f r q (inr (inl a)) (inl b) = absurd (omega (arith, a.1, b.1))
same_faulty most f r q (inr (inl a)) (inr (inl b)) = a.0 ∙ sym b.0
same_faulty most f r q (inr (inl a)) (inr (inr b)) = absurd (a.2 b.1)
same_faulty most f r q (inr (inr a)) (inl b) = absurd (omega (arith, a.0, b.1))
same_faulty most f r q (inr (inr a)) (inr (inl b)) = absurd (b.2 a.1)
same_faulty most f r q (inr (inr a)) (inr (inr b)) = same_first most f r q a.2 b.2

same_fault : (most : ℕ) (f : Fragment) (r q : Refusal) → OfferedFault most f r → OfferedFault most f q → r ≡ q
same_fault most f r q a b = same_faulty most f r q (faulty most f r a) (faulty most f q b)

-- ---- of a command

pub no_asked_fault : (most : ℕ) (asked : Command) (r : Refusal) → CanBeAsked most asked → IsAskedFault most asked r → ⊥
no_asked_fault most (command.Offer logged) r can is = no_fault most logged.fragment r can is
no_asked_fault most (command.Join logged) r can is = no_fault most logged.fragment r can is
no_asked_fault most asked r can is = is

pub same_asked_fault : (most : ℕ) (asked : Command) (r q : Refusal) → IsAskedFault most asked r → IsAskedFault most asked q → r ≡ q
same_asked_fault most (command.Offer logged) r q a b = same_fault most logged.fragment r q a b
same_asked_fault most (command.Join logged) r q a b = same_fault most logged.fragment r q a b
same_asked_fault most asked r q a b = absurd a
