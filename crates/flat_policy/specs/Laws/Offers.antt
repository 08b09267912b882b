-- Laws of offers: what is offered may be taken and stands in the queue, and something is offered where some entry may be taken.
use Rattle.std.specs.List.{list_any}
use Rattle.std.specs.Prelude.{Contains, None, Some, false, filter, is_some, true, ℕ, ◌<◌, ◌≡◌}
use Rattle.sched_base.specs.Bucket.{index}
use Rattle.sched_base.specs.declared.Bucket.{Bucket}
use Rattle.flat_policy.specs.Laws.Choice.{OrdersMembers}
use Rattle.flat_policy.specs.Policy.Offer.{MayTake, foreign_before, is_masked, mask_between, masked_before, may_take, offered_between, offered_masked, prefers}
use Rattle.flat_policy.specs.Policy.Precedence.{precedes_in_lane}
use Rattle.flat_policy.specs.Policy.Queue.{Flat, Queued, has_entries, lane, lane_entries}
use Rattle.flat_policy.specs.Policy.Setup.{SetupParts, mask_has, migrates}
use Rattle.flat_policy.specs.Policy.Unpreceded.{unpreceded}
use Rattle.flat_policy.specs.Policy.WellFormed.{WellFormed}

-- an offered entry stands in the queue, and the other cluster may take it; one is offered exactly where some entry may be taken
pub record OffersRightly (setup : SetupParts) (from to : ℕ) (s : Flat) : Type 0 where
  pub stands : (e : Queued) → offered_between setup from to s ≡ Some e → Contains s.entries e
  pub may : (e : Queued) → offered_between setup from to s ≡ Some e → MayTake setup from to s e.facts
  pub there : is_some (offered_between setup from to s)
      ≡ list_any (λ (e : Queued). may_take to (migrates setup from to) (mask_between setup from to s.on) e.facts) s.entries

-- every well-formed queue offers so
abbrev pub OffersWhatMayBeTaken : Type 0
OffersWhatMayBeTaken = (groups : ℕ) (setup : SetupParts) (from to : ℕ) (s : Flat) → WellFormed groups s → OffersRightly setup from to s

-- both choices of an offer go by a strict order of the entries that they are made from
pub record OffersInOrder (to mask : ℕ) (s : Flat) : Type 0 where
  pub foreign : OrdersMembers foreign_before (filter (λ (e : Queued). prefers to e.facts) s.entries)
  pub masked : OrdersMembers (masked_before s) (filter (λ (e : Queued). is_masked mask e.facts) s.entries)

-- so each offer of a well-formed queue has one answer
abbrev pub OffersAreOne : Type 0
OffersAreOne = (groups to mask : ℕ) (s : Flat) → WellFormed groups s → OffersInOrder to mask s

-- a bucket is the lowest by index of those in a mask that have unbound entries
pub record IsLowestMasked (mask : ℕ) (s : Flat) (b : Bucket) : Type 0 where
  pub masked : mask_has mask b ≡ true
  pub filled : has_entries s (lane b false) ≡ true
  pub lowest : (d : Bucket) → index d < index b → mask_has mask d ≡ true → has_entries s (lane d false) ≡ false

-- the entry offered by the mask is the first of the unbound lane of that bucket, and none where no bucket of the mask has unbound entries
pub record MaskedByLane (mask : ℕ) (s : Flat) : Type 0 where
  pub first : (b : Bucket) → IsLowestMasked mask s b → offered_masked mask s ≡ unpreceded (precedes_in_lane s) (lane_entries s (lane b false))
  pub none : ((b : Bucket) → mask_has mask b ≡ true → has_entries s (lane b false) ≡ false) → offered_masked mask s ≡ None

-- every well-formed queue offers so by the mask
abbrev pub MaskedOffersByLane : Type 0
MaskedOffersByLane = (groups mask : ℕ) (s : Flat) → WellFormed groups s → MaskedByLane mask s
