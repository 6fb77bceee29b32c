-- Which fragments can be offered where transactions are split, and why another is refused: as any other fragment, but that it has half as
-- many transactions, that these are numbered below 2^47 and read from such, and that keys are below 2^63.
use Rattle.std.specs.Prelude.{◌≡◌, ℕ, ◌+◌, ◌<◌, ◌≤◌, ◌^◌, length, slice_get, Some, All}
use Rattle.txn.specs.declared.transactions.TxnId.{TxnId}
use Rattle.txn.specs.declared.transactions.Txn.{Txn}
use Rattle.txn.specs.declared.transactions.Fragment.{Fragment}
use Rattle.txn.specs.declared.refusals.Refusal.{Refusal}
use Rattle.txn.specs.declared.refusals.Refusal.TheVariants.{BadSession, BadTxn, BadFence, TooLong}
use Rattle.txn.specs.Transactions.{IsShort, HasGoodLists, KeepsEpoch, IsWellFormed, id_in}
use Rattle.isolation_histories.specs.Splittable.{HasLowNumbers, IsSplittable}

-- 1 to 128 short transactions, numbered below 2^47
pub record HasOfferedLengths (fragment : Fragment) : Type 0 where
  pub some : 1 ≤ length fragment.txns
  pub few : length fragment.txns ≤ 128
  pub numbers : fragment.first + length fragment.txns ≤ 2 ^ 47
  pub each : All IsShort fragment.txns

-- it can be split, where there may be so many sessions, and what it is split into isn't too long
pub record CanBeOffered (sessions : ℕ) (fragment : Fragment) : Type 0 where
  pub splittable : IsSplittable sessions fragment
  pub few : length fragment.txns ≤ 128

-- the transactions before this place are well formed, and have low keys and numbers
abbrev pub AreOfferedBelow : ℕ → Fragment → ℕ → Type 0
AreOfferedBelow sessions fragment place = (n : ℕ) (txn : Txn) → n < place → slice_get fragment.txns n ≡ Some txn → IsWellFormed sessions (id_in fragment n) txn × HasLowNumbers txn

-- what is wrong with a transaction: its lists, keys and numbers are judged first
abbrev pub OfferedTxnFault : ℕ → TxnId → Txn → Refusal → Type 0
OfferedTxnFault sessions id txn BadTxn = ¬ (HasGoodLists sessions id txn × HasLowNumbers txn)
OfferedTxnFault sessions id txn BadFence = HasGoodLists sessions id txn × HasLowNumbers txn × (¬ KeepsEpoch txn)
OfferedTxnFault sessions id txn refusal = ⊥

-- the first transaction that can't be offered has this fault
abbrev pub FirstOfferedFault : ℕ → Fragment → Refusal → Type 0
FirstOfferedFault sessions fragment refusal = (place : ℕ) × (txn : Txn) × (slice_get fragment.txns place ≡ Some txn) × AreOfferedBelow sessions fragment place × OfferedTxnFault sessions (id_in fragment place) txn refusal

-- why a fragment is refused, where there may be so many sessions: its session, then its lengths, then its transactions in order
abbrev pub OfferedFault : ℕ → Fragment → Refusal → Type 0
OfferedFault sessions fragment BadSession = sessions ≤ fragment.session
OfferedFault sessions fragment TooLong = (fragment.session < sessions) × (¬ HasOfferedLengths fragment)
OfferedFault sessions fragment refusal = (fragment.session < sessions) × HasOfferedLengths fragment × FirstOfferedFault sessions fragment refusal
