-- Orders of what is gone, where one is known: what a step puts behind them.
use Rattle.std.proofs.Common.{◌≡◌, List, [], ◌++◌, Option, Some, None, refl, ap, ◌∙◌, append-nil}
use Rattle.std.specs.Prelude.{⊤, IfSome, option_map}
use Rattle.txn.specs.declared.transactions.TxnId.{TxnId}
use Rattle.txn.specs.History.{History}
use Rattle.round_state.specs.EngineState.{EngineState}
use Rattle.round_state.specs.Legal.{whole_after, asked_after}
use Rattle.round_state.specs.Steps.{StepsTo}
use Rattle.round_state.specs.declared.steps.Step.{Step}
use Rattle.round_state.specs.declared.steps.StepReply.{StepReply}
use Rattle.round_state.specs.declared.steps.StepReply.TheVariants as reply
use Rattle.engine_pasts.specs.Holding.{HoldsBehind, MovesOn}
use Rattle.engine_pasts.specs.Laws.{StepsHoldBehind}

pub some_map : (past : Option (List TxnId)) (P Q : List TxnId → Type 0) → ((gone : List TxnId) → P gone → Q gone) → IfSome past P → IfSome past Q
some_map None P Q f h = tt
some_map (Some gone) P Q f h = f gone h

pub with_nothing : (past : Option (List TxnId)) → option_map (λ (gone : List TxnId). gone ++ []) past ≡ past
with_nothing None = refl
with_nothing (Some gone) = ap (λ (ids : List TxnId). Some ids) (append-nil gone)

-- the reply isn't a cut
abbrev pub IsNoCut : StepReply → Type 0
IsNoCut (reply.Cut cut) = ⊥
IsNoCut said = ⊤

-- such a reply puts nothing behind what is gone
nothing_ahead : (said : StepReply) (ahead : List TxnId) → IsNoCut said → MovesOn said ahead → ahead ≡ []
nothing_ahead (reply.Cut cut) ahead quiet moves = absurd quiet
nothing_ahead said ahead quiet moves = moves

pub still : (past : Option (List TxnId)) (said : StepReply) (ahead : List TxnId) → IsNoCut said → IfSome past (λ gone. MovesOn said ahead) → option_map (λ (gone : List TxnId). gone ++ ahead) past ≡ past
still None said ahead quiet moves = refl
still (Some gone) said ahead quiet moves = ap (λ (more : List TxnId). Some (gone ++ more)) (nothing_ahead said ahead quiet moves) ∙ ap (λ (ids : List TxnId). Some ids) (append-nil gone)

-- what a step puts behind what is gone, and what the engine then holds
pub record GoesBehind (past : Option (List TxnId)) (said : StepReply) (new : EngineState) (whole begun : History) : Type 0 where
  pub ahead : List TxnId
  pub moves : IfSome past (λ gone. MovesOn said ahead)
  pub holds : IfSome (option_map (λ (gone : List TxnId). gone ++ ahead) past) (λ gone. HoldsBehind gone new whole begun)

pub goes_behind : StepsHoldBehind → (past : Option (List TxnId)) (old new : EngineState) (whole begun : History) (asked : Step) (said : StepReply) → StepsTo old asked said new → IfSome past (λ gone. HoldsBehind gone old whole begun)
    → GoesBehind past said new (whole_after (record { engine = old; whole = whole; asked = begun }) asked said) (asked_after (record { engine = old; whole = whole; asked = begun }) asked said)
goes_behind law None old new whole begun asked said right holds = record { ahead = []; moves = tt; holds = tt }
goes_behind law (Some gone) old new whole begun asked said right holds = let next = law gone old new whole begun asked said right holds in record { ahead = next.0; moves = next.1; holds = next.2 }
