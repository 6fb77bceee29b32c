use Rattle.std.proofs.Common.{◌∙◌, List, sym, ap, subst}
use Rattle.order_check.specs.Good.{IsGood}
use Rattle.strict_histories.specs.declared.timed.TimedTxn.{TimedTxn}
use Rattle.strict_histories.specs.Rewriting.{HasRoomForTimes}
use Rattle.strict_offers.specs.Offers.{strict_parts}
use Rattle.strict_offers.proofs.offers.Offered.parts.Goals as goal

pub parts_of-requires : goal.parts_of-requires
parts_of-requires c =
    let o = c.self.inside in
    subst HasRoomForTimes (sym c.as_slice.ensures) (c.rounds_are_of_good_parts.ensures.room (record { timed = o.sessions; most_sessions = o.most_sessions; limit = o.limit; rounds = o.rounds }) c.self.invariant)

pub returns-clause-value : goal.returns-clause-value
returns-clause-value c =
    let o = c.self.inside in
    c.in_ok-parts.ensures ∙ ap (λ (timed : List (List TimedTxn)). strict_parts (record { timed = timed; most_sessions = o.most_sessions; limit = o.limit; rounds = o.rounds })) c.as_slice.ensures ∙ ap strict_parts c.self.view_is

pub returns-clause-good : goal.returns-clause-good
returns-clause-good c =
    let o = c.self.inside in
    let same = c.in_ok-parts.ensures ∙ ap (λ (timed : List (List TimedTxn)). strict_parts (record { timed = timed; most_sessions = o.most_sessions; limit = o.limit; rounds = o.rounds })) c.as_slice.ensures in
    subst IsGood (sym same) (c.rounds_are_of_good_parts.ensures.good (record { timed = o.sessions; most_sessions = o.most_sessions; limit = o.limit; rounds = o.rounds }) c.self.invariant)
