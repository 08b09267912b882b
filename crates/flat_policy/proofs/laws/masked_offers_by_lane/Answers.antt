use Rattle.flat_policy.proofs.MaskedOffers.{masked_by_lane}
use Rattle.flat_policy.proofs.laws.masked_offers_by_lane.Goals as goal

pub returns : goal.returns
returns c = masked_by_lane
