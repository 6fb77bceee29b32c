use Rattle.std.proofs.Common.{◌≡◌, map, take}
use Rattle.serde_json.specs.View.{view}
use Rattle.log_text.specs.Saved.{txn_data}
use Rattle.log_text.proofs.saved.txns_value.Given as goal

abbrev pub invariant-loop-txn : goal.invariant-loop-txn
invariant-loop-txn l = map view l.list.items ≡ map txn_data (take l.txn-index l.txns)
