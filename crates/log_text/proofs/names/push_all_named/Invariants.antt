use Rattle.std.proofs.Common.{◌≡◌, map, take}
use Rattle.serde_json.specs.View.{view}
use Rattle.log_text.specs.Told.{named_id_data}
use Rattle.log_text.proofs.names.push_all_named.Given as goal

abbrev pub invariant-loop-id : goal.invariant-loop-id
invariant-loop-id l = map view l.list.items ≡ map (named_id_data l.names) (take l.id-index l.ids)
