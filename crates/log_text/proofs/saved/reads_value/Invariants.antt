use Rattle.std.proofs.Common.{◌≡◌, map, take}
use Rattle.serde_json.specs.View.{view}
use Rattle.log_text.specs.Saved.{read_data}
use Rattle.log_text.proofs.saved.reads_value.Given as goal

abbrev pub invariant-loop-read : goal.invariant-loop-read
invariant-loop-read l = map view l.list.items ≡ map read_data (take l.read-index l.reads)
