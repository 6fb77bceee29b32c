-- Laws of fronts that are kept while their parts go on.
use Rattle.std.specs.Prelude.{ℕ}
use Rattle.txn.specs.declared.transactions.Fragment.{Fragment}
use Rattle.txn.specs.declared.transactions.TxnId.{TxnId}
use Rattle.order_check.specs.declared.remainder.Parts.{Parts}
use Rattle.order_check.specs.Cuts.{IsKeptFront, IsSettledFor}
use Rattle.order_check.specs.Settled.{IsSettled}
use Rattle.order_check.specs.StandsFor.{IsOpenSession, parts_closed, parts_with}

-- Parts are a front of themselves.
abbrev pub FrontOfItself : Type 0
FrontOfItself = (parts : Parts) → IsKeptFront parts parts

-- A front stays one when an open session receives a fragment.
abbrev pub FragmentKeepsFront : Type 0
FragmentKeepsFront = (front parts : Parts) (fragment : Fragment) → IsKeptFront front parts → IsOpenSession parts fragment.session → IsKeptFront front (parts_with parts fragment)

-- A front stays one when a session is closed.
abbrev pub CloseKeepsFront : Type 0
CloseKeepsFront = (front parts : Parts) (s : ℕ) → IsKeptFront front parts → IsKeptFront front (parts_closed parts s)

-- A fence that is settled in a front with the sessions that are open there has all the rest behind it, and all that may still
-- come.
abbrev pub SettledStaysSettled : Type 0
SettledStaysSettled = (front parts : Parts) (fence : TxnId) → IsKeptFront front parts → IsSettled front (IsOpenSession front) fence → IsSettledFor front parts fence
