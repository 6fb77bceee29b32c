-- For private clauses: how much of a command is held while it is answered.
use Rattle.std.specs.Prelude.{◌≡◌, ◌≤◌, ℕ, ⊤, List, length, Option, Some, None}
use Rattle.log_text.specs.declared.commands.Command.{Command}
use Rattle.log_text.specs.declared.commands.Command.TheVariants.{Offer, OfferTimed, Join}
use Rattle.log_text.specs.declared.names.Names.{Names}
use Rattle.log_text.specs.declared.replies.Reply.{Reply}
use Rattle.log_text.specs.Held.{held}
use Rattle.cobra.specs.Outputs.{Asks}
use Rattle.cobra.specs.Scripts.{Answers}
use Rattle.cobra.specs.declared.stages.Stage.{Stage}
use Rattle.cobra.specs.declared.stages.Stage.TheVariants as stage

-- parts are handed over
abbrev pub IsHanding : Stage → Type 0
IsHanding (stage.Handing handed opening) = ⊤
IsHanding other = ⊥

-- With this bound enough of each command is held: the reply to what is held, and what that leads to, are right for the whole command.
abbrev pub IsEnough : Stage → Option ℕ → Type 0
IsEnough old most = (command : Command) (answer : Reply) (new : Stage) → Answers old (held most command) answer new → Answers old command answer new

-- this is what is held of a command that the line asks for
abbrev pub AsksWithin : Names → Option ℕ → List ℕ → Command → Type 0
AsksWithin names most line command = (whole : Command) × Asks names line whole × (command ≡ held most whole)

-- an offer or a join of no more than so many transactions, where a number is given; or another command
abbrev pub HasAtMost : Option ℕ → Command → Type 0
HasAtMost None command = ⊤
HasAtMost (Some most) (Offer logged) = length logged.fragment.txns ≤ most
HasAtMost (Some most) (OfferTimed logged began ended) = length logged.fragment.txns ≤ most
HasAtMost (Some most) (Join logged) = length logged.fragment.txns ≤ most
HasAtMost (Some most) command = ⊤

-- unless parts are handed over, the command has no more transactions than one more than a fragment may have
abbrev pub IsLight : Stage → Command → Type 0
IsLight (stage.Handing handed opening) command = ⊤
IsLight old command = HasAtMost (Some 257) command
