-- Orders where sides of choices are taken.
use Rattle.std.specs.Prelude.{List, Contains}
use Rattle.list_lemmas.specs.Precedes.{Precedes}
use Rattle.txn.specs.declared.transactions.TxnId.{TxnId}
use Rattle.order_check.specs.declared.remainder.Parts.{Parts}
use Rattle.order_check.specs.Cycles.{Sides}
use Rattle.order_check.specs.Known.{Known}

-- the order has the start of each side taken before its end
abbrev pub KeepsSides : List TxnId → Sides → Type 0
KeepsSides order taken = (a b : TxnId) → Contains taken (a, b) → Precedes order a b

-- the order keeps what is known where these sides are taken
abbrev pub KeepsAllKnown : Parts → Sides → List TxnId → Type 0
KeepsAllKnown parts taken order = (a b : TxnId) → Known parts taken a b → Precedes order a b
