use Rattle.strict_offers.proofs.OffersKept.{stay}
use Rattle.strict_offers.proofs.laws.offers_stay_good.Goals as goal

pub returns : goal.returns
returns c = stay
