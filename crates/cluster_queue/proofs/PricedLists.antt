-- Lists of entries priced anew: members, and the entries of a lane.
use Rattle.std.proofs.Common.{◌≡◌, ◌≢◌, ℕ, ◌+◌, Bool, Contains, List, is_some, filter, length, map, sym, ap, ◌∙◌}
use Rattle.std.proofs.lemmas.List.{length-map}
use Rattle.sched_base.specs.Bucket.{index}
use Rattle.sched_base.specs.declared.Bucket.{Bucket}
use Rattle.sched_base.specs.declared.Bucket.TheVariants.{Ui}
use Rattle.flat_policy.specs.Policy.Queue.{Flat, Queued, in_lane, lane, lane_entries}
use Rattle.flat_policy.specs.Policy.Refresh.{repriced}
use Rattle.cluster_queue.specs.Refreshing.{is_done, priced_upto}
use Rattle.cluster_queue.proofs.Buckets.{parts_of_lane}
use Rattle.cluster_queue.proofs.PricedEntries.{lane_stays, own_done, own_not_done, priced_not, priced_now, priced_same}
use Rattle.cluster_queue.proofs.Members.{filter_of_map, kept_member, map_agrees, map_keeps}

-- an entry of a lane: its parts
pub lane_parts : (s : Flat) (b : Bucket) (bound : Bool) (e : Queued) → Contains (lane_entries s (lane b bound)) e → (e.facts.bucket ≡ b) × (is_some e.facts.bound ≡ bound)
lane_parts s b bound e c = parts_of_lane b bound e (kept_member (in_lane (lane b bound)) s.entries e c).1

-- the entries of a lane before its bucket's turn comes, and after; those of the other lanes stay
pub lane_before : (s : Flat) (now : ℕ) (b : Bucket) (bound : Bool) → map (priced_upto s now (index b)) (lane_entries s (lane b bound)) ≡ lane_entries s (lane b bound)
lane_before s now b bound =
    map_keeps (priced_upto s now (index b)) (lane_entries s (lane b bound))
    (λ e c. priced_not s now (index b) e (ap (is_done (index b)) (lane_parts s b bound e c).0 ∙ own_not_done b))

pub lane_after : (s : Flat) (now : ℕ) (b : Bucket) (bound : Bool) → b ≢ Ui → map (priced_upto s now (index b + 1)) (lane_entries s (lane b bound)) ≡ map (repriced s now) (lane_entries s (lane b bound))
lane_after s now b bound n =
    map_agrees (priced_upto s now (index b + 1)) (repriced s now) (lane_entries s (lane b bound))
    (λ e c. priced_now s now (index b + 1) e (ap (is_done (index b + 1)) (lane_parts s b bound e c).0 ∙ own_done b n))

pub lane_beside : (s : Flat) (now : ℕ) (b c : Bucket) (bound : Bool) → c ≢ b → map (priced_upto s now (index b)) (lane_entries s (lane c bound)) ≡ map (priced_upto s now (index b + 1)) (lane_entries s (lane c bound))
lane_beside s now b c bound n =
    map_agrees (priced_upto s now (index b)) (priced_upto s now (index b + 1)) (lane_entries s (lane c bound))
    (λ e m. sym (priced_same s now b e (λ is. n (sym (lane_parts s c bound e m).0 ∙ is))))

-- a lane of a queue whose entries are priced anew has as many
pub lane_length : (s p : Flat) (now : ℕ) (b : Bucket) (bound : Bool) → p.entries ≡ map (repriced s now) s.entries → length (lane_entries p (lane b bound)) ≡ length (lane_entries s (lane b bound))
lane_length s p now b bound entries =
    ap (λ (es : List Queued). length (filter (in_lane (lane b bound)) es)) entries
    ∙ (ap (λ (es : List Queued). length es) (filter_of_map (in_lane (lane b bound)) (repriced s now) (lane_stays s now b bound) s.entries) ∙ length-map (lane_entries s (lane b bound)) (repriced s now))
