use Rattle.flat_policy.proofs.RefreshedBuckets.{refreshes_by_bucket_is}
use Rattle.flat_policy.proofs.laws.refreshes_by_bucket.Goals as goal

pub returns : goal.returns
returns c = refreshes_by_bucket_is
