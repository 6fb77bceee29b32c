use Rattle.std.proofs.Common.{List, length, subst}
use Rattle.std.specs.Prelude.{◌↔◌, IsTrue}
use Rattle.strict_histories.specs.declared.timed.TimedTxn.{TimedTxn}
use Rattle.strict_offers.specs.Offers.{HaveGoodTimes}
use Rattle.strict_offers.proofs.Timed.{session_read}
use Rattle.strict_offers.proofs.offers.can_take.Goals as goal

pub returns : goal.returns
returns c =
    let same = session_read c.args.sessions.now c.args.session c.from-place.result c.index-sessions-place.result c.as_slice.result.now c.requires.there c.from-place.ensures c.index-sessions-place.is c.as_slice.ensures in
    subst (λ (earlier : List TimedTxn). IsTrue c.have_good_times.result ↔ HaveGoodTimes (length c.args.sessions.now) earlier c.args.given.now) same c.have_good_times.ensures
