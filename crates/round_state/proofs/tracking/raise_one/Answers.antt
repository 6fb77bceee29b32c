use Rattle.std.proofs.Common.{◌≡◌, ◌-◌, arith}
use Rattle.session_marks.specs.Marks.{mark_at}
use Rattle.order_check.specs.Based.{mark_of}
use Rattle.round_state.proofs.Raised.{raised_one}
use Rattle.round_state.proofs.tracking.raise_one.Goals as goal

pub raise-requires-clause-numbers : goal.raise-requires-clause-numbers
raise-requires-clause-numbers c =
    omega (arith, c.requires.good.numbers c.args.session, c.mark_of.ensures, c.gone.ensures, c.requires.before.low c.args.session)

pub returns : goal.returns
returns c =
    let more : c.mark_of.result - c.gone.result ≡ mark_of c.args.parts.now c.args.session - (mark_at c.args.marks.now c.args.session).gone = cc (c.mark_of.ensures, c.gone.ensures) in
    raised_one c.args.marks.now c.raise.new.self c.args.parts.now c.args.session (c.mark_of.result - c.gone.result) c.raise.ensures more c.requires.there c.requires.before
