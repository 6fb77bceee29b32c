-- What a fragment that tells aborted transactions did to the store.
use Rattle.std.specs.Prelude.{Bool, true, false, List, [], ◌∷◌}
use Rattle.txn.specs.declared.transactions.Txn.{Txn}
use Rattle.txn.specs.declared.transactions.Fragment.{Fragment}
use Rattle.logged_fragments.specs.declared.logged.LoggedFragment.{LoggedFragment}

-- a transaction that reads nothing and writes nothing
abbrev pub idle : Txn
idle = record { reads = []; writes = [] }

-- what transactions did to the store, where the flags say in order which of them aborted: those did nothing. Those behind the last flag committed
abbrev pub effects_of : List Bool → List Txn → List Txn
effects_of [] txns = txns
effects_of (aborted ∷ flags) [] = []
effects_of (true ∷ flags) (txn ∷ txns) = idle ∷ effects_of flags txns
effects_of (false ∷ flags) (txn ∷ txns) = txn ∷ effects_of flags txns

-- what a fragment did to the store: it keeps its session and its numbers
abbrev pub effects : LoggedFragment → Fragment
effects logged = record logged.fragment { txns = effects_of logged.aborted logged.fragment.txns }
