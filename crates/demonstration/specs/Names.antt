-- The names of faults and of reports' kinds, as they are read and written.
use Rattle.std.specs.Prelude.{ℕ, List, Option, Some, None, codes}
use Rattle.demo_store.specs.declared.requests.Fault.{Fault}
use Rattle.demo_store.specs.declared.requests.Fault.TheVariants as fault
use Rattle.order_check.specs.declared.remainder.Kind.{Kind}
use Rattle.order_check.specs.declared.remainder.Kind.TheVariants.{Serial, Pending, Violated, Spent}

abbrev pub fault_name : Fault → List ℕ
fault_name fault.None = codes "none"
fault_name fault.StaleRead = codes "stale-read"
fault_name fault.LostUpdate = codes "lost-update"
fault_name fault.SplitRead = codes "split-read"
fault_name fault.SessionBack = codes "session-back"
fault_name fault.DirtyRead = codes "dirty-read"

-- a kind's name, and "none" where there is no report
abbrev pub kind_name : Option Kind → List ℕ
kind_name (Some Serial) = codes "serial"
kind_name (Some Pending) = codes "pending"
kind_name (Some Violated) = codes "violated"
kind_name (Some Spent) = codes "spent"
kind_name None = codes "none"
