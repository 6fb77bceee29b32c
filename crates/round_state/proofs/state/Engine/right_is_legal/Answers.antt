use Rattle.round_state.proofs.Replies.{legal_of}
use Rattle.round_state.proofs.state.Engine.right_is_legal.Goals as goal

pub returns : goal.returns
returns c step reply new right =
    legal_of c.args.self.now new step reply
    (record { offers = c.offer_keeps_stands_for.ensures; joins = c.join_keeps_stands_for.ensures; returns = c.return_keeps_stands_for.ensures; closes = c.close_keeps_stands_for.ensures; verdicts = c.verdict_as_stood_for.ensures; refuted = c.refuted_has_no_order.ensures; snapshot = c.has_good_snapshot.ensures; cut = c.has_fitting_cut.ensures })
    right
