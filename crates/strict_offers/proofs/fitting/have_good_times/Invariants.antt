use Rattle.std.proofs.Common.{ℕ, ◌<◌, take}
use Rattle.strict_offers.specs.Latest.{IsLatestOfBoth}
use Rattle.strict_offers.specs.Offers.{FitsAt}
use Rattle.strict_offers.proofs.fitting.have_good_times.Given as goal

abbrev pub invariant-loop-timed : goal.invariant-loop-timed
invariant-loop-timed l = record { fit : (place : ℕ) → place < l.timed-index → FitsAt l.sessions l.earlier l.given place; latest : IsLatestOfBoth l.earlier (take l.timed-index l.given) l.latest }
