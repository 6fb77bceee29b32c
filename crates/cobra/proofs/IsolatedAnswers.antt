-- Answers of scripts whose transactions are split.
use Rattle.std.proofs.Common.{◌≡◌, ℕ, Result, Ok, Err, IfOk, subst, inr}
use Rattle.log_text.specs.declared.commands.Command.{Command}
use Rattle.log_text.specs.declared.replies.Reply.{Reply}
use Rattle.log_text.specs.declared.versions.Version.{Version}
use Rattle.log_text.specs.Versions.{most_sessions}
use Rattle.isolation_scripts.specs.Isolated.{isolated_of}
use Rattle.isolation_scripts.specs.Splitting.{CanBeAsked, split_command}
use Rattle.cobra.specs.Audits.{AuditState}
use Rattle.cobra.specs.Scripts.{AnswersBeside, AnswersIsolated}

-- what is replied to the split command is told
pub told_isolated : {E : Type 0} (version : Version) (most : ℕ) (old new : AuditState) (command split : Command) (inner : Reply) (result : Result Reply E) → most ≡ most_sessions version → CanBeAsked most command × (split ≡ split_command command) → AnswersBeside version old split inner new → IfOk result (λ answer. answer ≡ isolated_of inner) → IfOk result (λ answer. AnswersIsolated version old command answer new)
told_isolated version most old new command split inner (Ok answer) many asked beside is =
    inr (subst (λ (n : ℕ). CanBeAsked n command) many asked.0, inner, subst (λ (given : Command). AnswersBeside version old given inner new) asked.1 beside, is)
told_isolated version most old new command split inner (Err error) many asked beside is = tt
