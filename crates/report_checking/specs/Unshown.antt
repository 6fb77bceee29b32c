-- What a stored reply shows, where the check says that it doesn't show enough.
use Rattle.std.specs.Prelude.{ℕ, ⊤, List, Option, Some, None, IsSomeAnd}
use Rattle.txn.specs.declared.transactions.TxnId.{TxnId}
use Rattle.order_check.specs.Explains.{Explains}
use Rattle.order_check.specs.declared.remainder.Parts.{Parts}
use Rattle.refutation.specs.Refutes.{IsRefutation}
use Rattle.refutation.specs.declared.trees.Tree.{Tree}
use Rattle.log_text.specs.declared.commands.Command.{Command}
use Rattle.log_text.specs.declared.commands.Command.TheVariants.{Start, Finish, Round, Collect, Resume}
use Rattle.log_text.specs.declared.names.Names.{Names}
use Rattle.log_text.specs.declared.shown.Shown.TheVariants as shown
use Rattle.round_state.specs.EngineState.{EngineState}
use Rattle.round_state.specs.Steps.{StepsTo}
use Rattle.round_state.specs.declared.steps.Step.TheVariants as step
use Rattle.round_state.specs.declared.steps.StepReply.TheVariants as reply
use Rattle.cobra.specs.Outputs.{Asks}
use Rattle.log_text.specs.Versions.{names_of}
use Rattle.log_text.specs.declared.versions.Promise.TheVariants.{Strict}
use Rattle.log_text.specs.Shown.{IsShownIn}
use Rattle.report_checking.specs.OwedLines.{ScriptState, names_told}
use Rattle.report_checking.specs.declared.findings.Unshown.{Unshown}
use Rattle.report_checking.specs.declared.findings.Unshown.TheVariants as unshown

-- The stored reply shows by these names an order that doesn't explain the snapshot, or a tree that doesn't refute it.
abbrev pub ShowsWrong : Names → List ℕ → Parts → Unshown → Type 0
ShowsWrong names stored parts unshown.Order = (order : List TxnId) × IsShownIn names stored (Some (shown.Order order)) × (¬ Explains parts order)
ShowsWrong names stored parts unshown.Refutation = (tree : Tree) × IsShownIn names stored (Some (shown.Refuted tree)) × (¬ IsRefutation parts tree)
ShowsWrong names stored parts unshown.Beginning = ⊥
ShowsWrong names stored parts unshown.Strict = ⊥

-- the same of the snapshot of an open round
abbrev pub ShowsWrongOf : Names → List ℕ → Option Parts → Unshown → Type 0
ShowsWrongOf names stored asked why = IsSomeAnd asked (λ parts. ShowsWrong names stored parts why)

-- the same of the round that a command ends, which may be one that it begins itself
abbrev pub EndsWrong : Names → EngineState → Command → List ℕ → Unshown → Type 0
EndsWrong names engine (Finish budget depth workers search) stored why = ShowsWrongOf names stored engine.asked why
EndsWrong names engine (Collect waits) stored why = ShowsWrongOf names stored engine.asked why
EndsWrong names engine (Round budget depth workers search) stored why = (begun : EngineState) × StepsTo engine step.Begin reply.Done begun × ShowsWrongOf names stored begun.asked why
EndsWrong names engine command stored why = ⊥

-- What the stored reply to a command doesn't show: a script that resumes another can't show what had gone before, and one that asks for strict
-- serializability isn't checked.
abbrev pub IsUnshownTo : Option ScriptState → Command → List ℕ → Unshown → Type 0
IsUnshownTo None (Resume sessions limit opening) stored unshown.Beginning = ⊤
IsUnshownTo None (Start sessions limit (Strict version)) stored unshown.Strict = ⊤
IsUnshownTo None command stored why = ⊥
IsUnshownTo (Some old) command stored why = EndsWrong (names_of old.opening) old.state.engine command stored why

-- the same of a line
pub record IsUnshown (old : Option ScriptState) (line stored : List ℕ) (why : Unshown) : Type 0 where
  pub command : Command
  pub asks : Asks (names_told old) line command
  pub is : IsUnshownTo old command stored why
