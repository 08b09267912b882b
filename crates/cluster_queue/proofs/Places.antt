-- Lanes and bound queues by bucket, where one of them is set.
use Rattle.std.proofs.Common.{◌≡◌, ◌≢◌, ℕ, ◌<◌, sym, ap, ◌∙◌, subst}
use Rattle.std.specs.Prelude.{slice_index_or, slice_set}
use Rattle.std.proofs.lemmas.List.{get_or-set_other, get_or-set_same, get_or_default}
use Rattle.sched_base.specs.Bucket.{index}
use Rattle.sched_base.specs.declared.Bucket.{Bucket}
use Rattle.thread_queue.specs.Queue.{Queue}
use Rattle.clutch_bucket.specs.Lane.{Lane, no_queue}
use Rattle.cluster_queue.specs.Heaps.{AreSix, bound_at, lane_at, no_lane}
use Rattle.cluster_queue.specs.declared.heaps.Heaps.{Heaps}
use Rattle.cluster_queue.proofs.Buckets.{bucket_by_index, index_below}

pub index_differs : (b c : Bucket) → b ≢ c → index b ≢ index c
index_differs b c n = λ e. n (bucket_by_index b c e)

-- the lane that is set, and each other
pub lane_here : (heaps : Heaps) (b : Bucket) (l : Lane) → AreSix heaps → lane_at (record heaps { lanes = slice_set heaps.lanes (index b) l }) b ≡ l
lane_here heaps b l six = get_or-set_same heaps.lanes (index b) l no_lane (subst (λ (n : ℕ). index b < n) (sym six.lanes) (index_below b))

pub lane_there : (heaps : Heaps) (b c : Bucket) (l : Lane) → b ≢ c → lane_at (record heaps { lanes = slice_set heaps.lanes (index b) l }) c ≡ lane_at heaps c
lane_there heaps b c l n = get_or-set_other heaps.lanes (index b) (index c) l no_lane (λ e. index_differs b c n (sym e))

-- the bound queue that is set, and each other
pub bound_here : (heaps : Heaps) (b : Bucket) (q : Queue) → AreSix heaps → bound_at (record heaps { bound = slice_set heaps.bound (index b) q }) b ≡ q
bound_here heaps b q six = get_or-set_same heaps.bound (index b) q no_queue (subst (λ (n : ℕ). index b < n) (sym six.bound) (index_below b))

pub bound_there : (heaps : Heaps) (b c : Bucket) (q : Queue) → b ≢ c → bound_at (record heaps { bound = slice_set heaps.bound (index b) q }) c ≡ bound_at heaps c
bound_there heaps b c q n = get_or-set_other heaps.bound (index b) (index c) q no_queue (λ e. index_differs b c n (sym e))

-- what is read at a bucket's index
pub lane_read : (heaps : Heaps) (b : Bucket) (i : ℕ) (d : Lane) → AreSix heaps → i ≡ index b → slice_index_or heaps.lanes i d ≡ lane_at heaps b
lane_read heaps b i d six at =
    ap (λ (j : ℕ). slice_index_or heaps.lanes j d) at
    ∙ get_or_default heaps.lanes (index b) d no_lane (subst (λ (n : ℕ). index b < n) (sym six.lanes) (index_below b))

pub bound_read : (heaps : Heaps) (b : Bucket) (i : ℕ) (d : Queue) → AreSix heaps → i ≡ index b → slice_index_or heaps.bound i d ≡ bound_at heaps b
bound_read heaps b i d six at =
    ap (λ (j : ℕ). slice_index_or heaps.bound j d) at
    ∙ get_or_default heaps.bound (index b) d no_queue (subst (λ (n : ℕ). index b < n) (sym six.bound) (index_below b))
