use Rattle.std.proofs.Common.{◌≡◌, true, refl}
use Rattle.strict_offers.proofs.LatestBegins.{latest_behind}
use Rattle.strict_offers.proofs.Timed.{fits_all, fits_more, fits_shown}
use Rattle.strict_offers.proofs.fitting.have_good_times.Goals as goal

pub loop-timed-preserved : goal.loop-timed-preserved
loop-timed-preserved c =
    let sessions = c.args.sessions in
    let earlier = c.args.earlier.now in
    let given = c.args.given.now in
    let place = c.loop-timed.timed-index in
    let timed = c.timed-item.result in
    let yes : c.fits_behind.result ≡ true = cc in
    let fits = c.fits_behind.ensures.0 yes in
    let sides = (c.loop-timed.invariant.latest timed.span.ended).0 fits.1 in
    record {
      fit = fits_more sessions earlier given place c.loop-timed.invariant.fit (fits_shown sessions earlier given place timed c.loop-timed-test.true c.timed-item.is fits.0 sides.0 sides.1);
      latest = latest_behind earlier given place timed c.loop-timed.latest c.later-latest.result c.loop-timed-test.true c.timed-item.is c.loop-timed.invariant.latest c.later-latest.ensures;
    }

pub returns : goal.returns
returns c = (λ _. fits_all c.args.sessions c.args.earlier.now c.args.given.now c.loop-timed.timed-index c.loop-timed-test.false c.loop-timed.invariant.fit, λ _. refl)
