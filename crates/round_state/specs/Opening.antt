-- A fresh engine: what it is, and when none is given.
use Rattle.std.specs.Prelude.{ℕ, ◌≤◌, [], false, replicate}
use Rattle.std.specs.FinMap as map
use Rattle.txn.specs.declared.refusals.Refusal.{Refusal}
use Rattle.txn.specs.declared.refusals.Refusal.TheVariants.{BadSession, TooLong, BadParts, NoMemory}
use Rattle.txn.specs.History.{History}
use Rattle.order_check.specs.declared.remainder.Parts.{Parts}
use Rattle.order_check.specs.Good.{IsGood}
use Rattle.round_state.specs.EngineState.{EngineState, engine_over}
use Rattle.round_state.specs.Legal.{State}

-- so many sessions in which nothing was received
abbrev pub no_history : ℕ → History
no_history sessions = replicate sessions []

-- parts of which nothing is gone and nothing remains, with so many sessions, all of them open, and these bounds: how many sessions there
-- may be, and how many transactions may remain
abbrev pub empty_parts : ℕ → ℕ → ℕ → Parts
empty_parts most sessions limit = record {
  base = record { last = map.empty; marks = replicate sessions 0 };
  remain = no_history sessions;
  closed = replicate sessions false;
  most_sessions = most;
  limit = limit;
}

-- a fresh engine: it has empty parts and nothing else
abbrev pub fresh : ℕ → ℕ → ℕ → EngineState
fresh most sessions limit = engine_over (empty_parts most sessions limit)

-- the state of a fresh engine: nothing has been received
abbrev pub fresh_state : ℕ → ℕ → ℕ → State
fresh_state most sessions limit = record { engine = fresh most sessions limit; whole = no_history sessions; asked = no_history sessions }

-- An audit may begin with so many sessions, where there may be at most this many; it may never have more than 256.
abbrev pub IsSessions : ℕ → ℕ → Type 0
IsSessions most sessions = (1 ≤ sessions) × (sessions ≤ most) × (most ≤ 256)

-- so many transactions may be let remain
abbrev pub IsLimit : ℕ → Type 0
IsLimit limit = (1 ≤ limit) × (limit ≤ 1048576)

-- Why no engine is given: the number of sessions is judged before the limit, and memory is asked for last.
abbrev pub IsOpenRefusal : ℕ → ℕ → ℕ → Refusal → Type 0
IsOpenRefusal most sessions limit BadSession = ¬ IsSessions most sessions
IsOpenRefusal most sessions limit TooLong = IsSessions most sessions × (¬ IsLimit limit)
IsOpenRefusal most sessions limit NoMemory = IsSessions most sessions × IsLimit limit
IsOpenRefusal most sessions limit refusal = ⊥

-- Why no engine is made of parts: they break a rule; memory is asked for last.
abbrev pub IsPartsRefusal : Parts → Refusal → Type 0
IsPartsRefusal parts BadParts = ¬ IsGood parts
IsPartsRefusal parts NoMemory = IsGood parts
IsPartsRefusal parts refusal = ⊥
