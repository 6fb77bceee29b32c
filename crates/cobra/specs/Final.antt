-- A violation is final, by each promise: what a script has accepted, once it breaks the promise, breaks it still after any command and reply.
use Rattle.std.specs.Prelude.{IfSome, Some}
use Rattle.order_check.specs.declared.remainder.Kind.TheVariants.{Violated}
use Rattle.order_check.specs.Whole.{IsVerdictWhole}
use Rattle.isolation_histories.specs.Snapshot.{IsSnapshotVerdict}
use Rattle.strict_histories.specs.Strict.{TimedHistory, IsStrictVerdict}
use Rattle.log_text.specs.declared.commands.Command.{Command}
use Rattle.log_text.specs.declared.replies.Reply.{Reply}
use Rattle.cobra.specs.StrictReports.{timed_after}
use Rattle.cobra.specs.TrueReports.{Accepted, accepted_more}

pub record ViolationsAreFinal : Type 0 where
  -- by some order
  pub ordered : (old : Accepted) (command : Command) (answer : Reply) → IsVerdictWhole old.whole Violated → IsVerdictWhole (accepted_more old command answer).whole Violated
  -- by snapshot isolation
  pub isolated : (old : Accepted) (command : Command) (answer : Reply) → IsSnapshotVerdict old.whole Violated → IsSnapshotVerdict (accepted_more old command answer).whole Violated
  -- by strict serializability, whatever times are told of what is accepted later
  pub strict : (old : TimedHistory) (command : Command) (answer : Reply) → IsStrictVerdict old Violated → IfSome (timed_after (Some old) command answer) (λ new. IsStrictVerdict new Violated)
