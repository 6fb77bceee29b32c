use Rattle.std.proofs.Common.{◌≡◌, map, take}
use Rattle.serde_json.specs.View.{view}
use Rattle.log_text.specs.Saved.{writer_data}
use Rattle.log_text.proofs.lists.push_writers.Given as goal

abbrev pub invariant-loop-key : goal.invariant-loop-key
invariant-loop-key l = map view l.list.items ≡ map writer_data (take l.key-index l.writers)
