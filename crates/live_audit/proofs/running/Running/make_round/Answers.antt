use Rattle.std.proofs.Common.{◌∷◌}
use Rattle.std.specs.Option.{option_to_list}
use Rattle.live_audit.proofs.Rounds.{asked_lawful, round_moves, round_told}
use Rattle.live_audit.proofs.running.Running.make_round.Goals as goal

pub returns-in-Ok-clause-moves : goal.returns-in-Ok-clause-moves
returns-in-Ok-clause-moves g c =
    round_moves c.args.self.now.core c.begin.new.self c.answered.new.self (c.answered.result.0 ∷ option_to_list c.answered.result.1) c.in-Ok.ensures.moves c.in-Ok.ensures.same.0 c.answered.ensures.moves

pub returns-in-Ok-clause-told : goal.returns-in-Ok-clause-told
returns-in-Ok-clause-told g c =
    round_told c.args.self.now.core c.begin.new.self c.answered.new.self c.answered.result.0 c.answered.result.1
    c.in-Ok.ensures.legal c.in-Ok.ensures.same.0 c.in-Ok.ensures.same.1 c.answered.ensures.told c.answered.ensures.more c.answered.ensures.moves

pub answered-requires : goal.answered-requires
answered-requires g c =
    asked_lawful c.begin.new.self c.in-Ok.problem.known.parts c.search-budget.result.0 c.search-budget.result.1 c.solved-answer.result c.in-Ok.ensures.asked c.search-budget.ensures.0 c.search-budget.ensures.1 c.solved-answer.ensures
