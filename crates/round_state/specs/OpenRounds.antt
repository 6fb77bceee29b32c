-- For private clauses: what an engine holds of an open round, and the snapshot that this stands for.
use Rattle.std.specs.Prelude.{◌≡◌, Option, map, not}
use Rattle.std.specs.Option.{option_map}
use Rattle.order_check.specs.declared.remainder.Parts.{Parts}
use Rattle.order_check.specs.Based.{received_counts}
use Rattle.order_check.specs.CountedFronts.{AreFrontCounts, front_at}
use Rattle.order_check.specs.Good.{IsGood}
use Rattle.round_state.specs.declared.snapshots.OpenRound.{OpenRound}

-- the snapshot of the open round: the front of the parts that has what had been received, where who was open is open
abbrev pub snapshot_in : Parts → Option OpenRound → Option Parts
snapshot_in parts asked = option_map (λ (one : OpenRound). front_at parts one.counts one.live) asked

-- a round was opened on these parts, which keep their rules
pub record IsOpenOn (front : Parts) (one : OpenRound) : Type 0 where
  pub good : IsGood front
  pub counts : one.counts ≡ received_counts front
  pub live : one.live ≡ map not front.closed

-- in good parts this is the snapshot of the round
pub record IsSnapshotOf (parts : Parts) (one : OpenRound) (snapshot : Parts) : Type 0 where
  pub good : IsGood parts
  pub counts : AreFrontCounts parts one.counts
  pub same : front_at parts one.counts one.live ≡ snapshot
  pub received : one.counts ≡ received_counts snapshot
