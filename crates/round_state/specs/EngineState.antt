-- What contracts see of an engine.
use Rattle.std.specs.Prelude.{ℕ, Option, None}
use Rattle.order_check.specs.declared.remainder.Parts.{Parts}
use Rattle.settle.specs.declared.cuts.Cut.{Cut}

pub record EngineState : Type 0 where
  -- what is kept of the history
  pub parts : Parts
  -- the open round's snapshot of the parts, where a round is open
  pub asked : Option Parts
  -- the cut that the last yes found, or that there is none
  pub held : Option Cut
  -- the number of the last finished round
  pub rounds : ℕ

-- an engine that has these parts and nothing else: no round is open, no cut is held, and no round was finished
abbrev pub engine_over : Parts → EngineState
engine_over parts = record { parts = parts; asked = None; held = None; rounds = 0 }
