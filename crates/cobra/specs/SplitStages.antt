-- A script that asks for snapshot isolation keeps parts of split transactions, so that whatever it gives out is taken where it is handed over.
use Rattle.std.specs.Prelude.{ℕ}
use Rattle.log_text.specs.declared.commands.Command.{Command}
use Rattle.log_text.specs.declared.replies.Reply.{Reply}
use Rattle.log_text.specs.declared.versions.Version.{Version}
use Rattle.round_state.specs.Opening.{fresh}
use Rattle.isolation_scripts.specs.SplitParts.{IsSplitEngine}
use Rattle.cobra.specs.Audits.{AuditState}
use Rattle.cobra.specs.Scripts.{AnswersIsolated}

-- a fresh engine has no others, and each command leaves it such
pub record IsolatedStays : Type 0 where
  pub opened : (most sessions limit : ℕ) → IsSplitEngine (fresh most sessions limit)
  pub answered : (version : Version) (old new : AuditState) (command : Command) (answer : Reply) → AnswersIsolated version old command answer new → IsSplitEngine old.engine → IsSplitEngine new.engine
