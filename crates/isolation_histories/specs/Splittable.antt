-- Fragments that can be split: whose keys and numbers leave room.
use Rattle.std.specs.Prelude.{ℕ, ◌+◌, ◌<◌, ◌≤◌, ◌^◌, ⊤, length, All}
use Rattle.txn.specs.declared.transactions.Source.{Source}
use Rattle.txn.specs.declared.transactions.Source.TheVariants.{Init, By}
use Rattle.txn.specs.declared.transactions.Txn.{Txn}
use Rattle.txn.specs.declared.transactions.Fragment.{Fragment}
use Rattle.txn.specs.Transactions.{IsWellFormedFragment}
use Rattle.order_check.specs.StandsFor.{Arrival, More, Joins, Returns}

-- the writer is numbered below 2^47
abbrev pub IsLowSource : Source → Type 0
IsLowSource Init = ⊤
IsLowSource (By writer) = writer.number < 2 ^ 47

-- the key is below 2^63, and the writer numbered below 2^47
abbrev pub IsLowRead : ℕ × Source → Type 0
IsLowRead read = (read.0 < 2 ^ 63) × IsLowSource read.1

-- each key is below 2^63, and each writer that is read from numbered below 2^47
pub record HasLowNumbers (txn : Txn) : Type 0 where
  pub reads : All IsLowRead txn.reads
  pub writes : All (λ key. key < 2 ^ 63) txn.writes

-- low numbers throughout
pub record HasRoomToSplit (fragment : Fragment) : Type 0 where
  pub numbers : fragment.first + length fragment.txns ≤ 2 ^ 47
  pub each : All HasLowNumbers fragment.txns

-- a well-formed fragment with low numbers throughout, where there may be so many sessions
pub record IsSplittable (sessions : ℕ) (fragment : Fragment) : Type 0 where
  pub well_formed : IsWellFormedFragment sessions fragment
  pub numbers : fragment.first + length fragment.txns ≤ 2 ^ 47
  pub each : All HasLowNumbers fragment.txns

-- the fragment that arrives
abbrev pub fragment_of : Arrival → Fragment
fragment_of (More fragment) = fragment
fragment_of (Joins fragment) = fragment
fragment_of (Returns fragment) = fragment
