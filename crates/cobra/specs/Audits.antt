-- What is open once a script has opened an engine.
use Rattle.std.specs.Prelude.{◌≡◌, Option, Some, None, IfSome, MatchOption}
use Rattle.order_check.specs.declared.remainder.Parts.{Parts}
use Rattle.round_state.specs.EngineState.{EngineState}
use Rattle.background_search.specs.UnderWay.{SearchOf}
use Rattle.log_text.specs.declared.commands.Effort.{Effort}

-- An engine, and what the search was given that was begun beside the script for the round that is open, where one was and isn't collected yet.
pub record AuditState : Type 0 where
  pub engine : EngineState
  pub search : Option Effort

-- no search was begun
abbrev pub unsearched : EngineState → AuditState
unsearched engine = record { engine = engine; search = None }

-- what a search was given
abbrev pub effort_of : SearchOf → Effort
effort_of of = of.effort

-- For private clauses: a search is about the round that is open.
abbrev pub IsAboutRound : Option SearchOf → Option Parts → Type 0
IsAboutRound search asked = IfSome search (λ of. asked ≡ Some of.parts)

-- and goes on for as long as that is open
abbrev pub IsWhileOpen : Option Parts → Option SearchOf → Option SearchOf → Type 0
IsWhileOpen asked old new = MatchOption asked (new ≡ None) (λ parts. new ≡ old)
