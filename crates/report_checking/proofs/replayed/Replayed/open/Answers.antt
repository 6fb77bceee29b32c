use Rattle.std.proofs.Common.{ap, ◌∙◌}
use Rattle.std.proofs.lemmas.Result.{IfErr-weaker, IfOk-weaker}
use Rattle.round_state.specs.Opening.{IsOpenRefusal, fresh_state}
use Rattle.round_state.specs.Runs.{Holds}
use Rattle.log_text.specs.Versions.{most_sessions}
use Rattle.cobra.specs.Scripts.{IsBeginningRefusal, opened_state}
use Rattle.cobra.proofs.Openings.{opening_refusal}
use Rattle.report_checking.specs.Reading.{HoldsIn}
use Rattle.report_checking.proofs.SplitReplies.{fresh_holds}
use Rattle.report_checking.proofs.replayed.Replayed.open.Goals as goal

pub returns-clause-holds : goal.returns-clause-holds
returns-clause-holds c =
    IfOk-weaker c.fresh.result (λ engine. Holds engine (fresh_state c.most_sessions-most.result c.args.sessions c.room_of.result)) (λ engine. HoldsIn c.args.opening engine (opened_state c.args.opening c.args.sessions c.args.limit))
    (λ engine. fresh_holds c.fresh_engines_are_split.ensures c.args.opening engine c.most_sessions-most.result c.args.sessions c.args.limit c.room_of.result (c.most_sessions-most.ensures ∙ ap most_sessions c.version.ensures) c.room_of.ensures) c.fresh.ensures.holds

pub returns-clause-err : goal.returns-clause-err
returns-clause-err c =
    IfErr-weaker c.fresh.result (IsOpenRefusal c.most_sessions-most.result c.args.sessions c.room_of.result) (IsBeginningRefusal c.args.opening c.args.sessions c.args.limit)
    (λ refusal. opening_refusal c.args.opening c.most_sessions-most.result c.args.sessions c.args.limit c.room_of.result refusal (c.most_sessions-most.ensures ∙ ap most_sessions c.version.ensures) c.room_of.ensures c.in_ok-may_begin.ensures.ok) c.fresh.ensures.err
