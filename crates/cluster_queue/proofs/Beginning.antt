-- Heaps without slots follow the empty queue.
use Rattle.std.proofs.Common.{◌≡◌, ℕ, ◌<◌, List, [], replicate, ap, subst, ◌∙◌, arith}
use Rattle.std.proofs.lemmas.List.{length-replicate}
use Rattle.std.specs.Prelude.{None}
use Rattle.sched_base.specs.declared.Bucket.{Bucket}
use Rattle.sched_base.specs.declared.Bucket.TheVariants.{Bg, Df, Fg, Ini, Ui, Ut}
use Rattle.flat_policy.specs.Policy.Queue.{empty_flat, no_spans}
use Rattle.link_arena.specs.Arena.{Arena, links_at, unlinked}
use Rattle.pairing_heap.specs.Heap.{times_of}
use Rattle.thread_queue.specs.Queue.{HasSlot, Queue, StandsIn, members}
use Rattle.thread_queue.specs.declared.item.Item.{Item}
use Rattle.thread_queue.specs.declared.item.ItemKey.{ItemKey}
use Rattle.clutch_bucket.specs.Lane.{Follows, Lane, groups, no_queue}
use Rattle.cluster_queue.specs.Heaps.{BoundFollows, LaneFollows}

-- what holds of each of the six buckets
pub by_bucket : (P : Bucket → Type 0) → P Ui → P Fg → P Ini → P Df → P Ut → P Bg → (b : Bucket) → P b
by_bucket P ui fg ini df ut bg Ui = ui
by_bucket P ui fg ini df ut bg Fg = fg
by_bucket P ui fg ini df ut bg Ini = ini
by_bucket P ui fg ini df ut bg Df = df
by_bucket P ui fg ini df ut bg Ut = ut
by_bucket P ui fg ini df ut bg Bg = bg

pub lane_begins : (arena : Arena Item) (at : Lane) (count : ℕ) (b : Bucket)
    → at ≡ record { bucket = b; queues = replicate count no_queue; spans = replicate count no_spans; ranks = replicate count None; len = 0 }
    → Follows arena at (empty_flat count) → LaneFollows arena at count b (empty_flat count)
lane_begins arena at count b is follows = record {
  bucket = ap (λ (l : Lane). l.bucket) is;
  groups = ap groups is ∙ length-replicate count no_queue;
  follows = follows;
}

none_held : (arena : Arena Item) (queue : Queue) (slot : ℕ) → members arena queue ≡ [] → HasSlot arena queue slot → ⊥
none_held arena queue slot none has =
    let some : 0 < times_of {X = ItemKey} [] slot = subst (λ (ms : List (ItemKey × ℕ)). 0 < times_of ms slot) none has in
    omega (arith, some)

pub bound_begins : (arena : Arena Item) (queue : Queue) → queue ≡ no_queue → StandsIn arena queue → members arena queue ≡ [] → BoundFollows arena queue []
bound_begins arena queue is stands none = record {
  stands = stands;
  entries = record {
    there = λ slot item has stored. absurd (none_held arena queue slot none has);
    back = λ e c. absurd (omega (arith, c.1));
  };
  count = ap (λ (q : Queue). q.count) is;
  apart = λ slot other item rival has rest here there alike. absurd (none_held arena queue slot none has);
}

-- the links of an arena without slots lead nowhere
pub loose_begins : (arena : Arena Item) → arena ≡ record { nodes = []; spare = 0 } → (k slot : ℕ) → links_at arena k slot ≡ unlinked
loose_begins arena is k slot = ap (λ (a : Arena Item). links_at a k slot) is
