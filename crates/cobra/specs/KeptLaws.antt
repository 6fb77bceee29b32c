-- What an engine keeps, told of the whole history alone, follows from how it holds that.
use Rattle.std.specs.Prelude.{List}
use Rattle.txn.specs.declared.transactions.TxnId.{TxnId}
use Rattle.txn.specs.History.{History}
use Rattle.order_check.specs.StandsFor.{StandsFor}
use Rattle.round_state.specs.EngineState.{EngineState}
use Rattle.engine_pasts.specs.Holding.{HoldsBehind}
use Rattle.cobra.specs.TrueReports.{KeepsRest}

-- An engine whose parts stand for a whole history, and that stands behind what is gone of it, keeps the rest.
abbrev pub HeldIsKept : Type 0
HeldIsKept = (gone : List TxnId) (engine : EngineState) (whole asked : History) → StandsFor engine.parts whole → HoldsBehind gone engine whole asked → KeepsRest gone engine whole asked
