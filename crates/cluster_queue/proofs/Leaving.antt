-- What a removal promises, from what its calls did at the places of the item's bucket.
use Rattle.std.proofs.Common.{◌≡◌, ℕ, Bool, true, false, Contains, List, Some, is_some, refl, sym, ap, ◌∙◌, subst}
use Rattle.std.specs.Prelude.{slice_index_or, slice_set}
use Rattle.std.proofs.lemmas.Bool.{cond-false}
use Rattle.sched_base.specs.Bucket.{index}
use Rattle.sched_base.specs.declared.Facts.{Facts}
use Rattle.flat_policy.specs.Policy.Moves.{without}
use Rattle.flat_policy.specs.Policy.Queue.{Flat, Queued}
use Rattle.link_arena.specs.Arena.{Arena, value_at}
use Rattle.thread_queue.specs.Item.{entry_of}
use Rattle.thread_queue.specs.Queue.{Queue, Removes}
use Rattle.thread_queue.specs.declared.item.Item.{Item}
use Rattle.clutch_bucket.specs.Lane.{Lane, without_unit_entry}
use Rattle.stealing.specs.Foreign.{OffersEntries, Removes as ForeignRemoves, Roots}
use Rattle.cluster_queue.specs.Heaps.{HeapsFollow, lane_at}
use Rattle.cluster_queue.specs.Moves.{CanLeave, Leaves, without_item}
use Rattle.cluster_queue.specs.declared.heaps.Heaps.{Heaps}
use Rattle.cluster_queue.proofs.BoundLeaves.{leaves_bound}
use Rattle.cluster_queue.proofs.LeaveLaws.{LeaveLaws}
use Rattle.cluster_queue.proofs.Places.{bound_read, lane_read}
use Rattle.cluster_queue.proofs.Slots.{one_item}
use Rattle.cluster_queue.proofs.UnboundLeaves.{LaneLeaves, heaps_left, own_left}

-- the facts that were read are those of the item
pub facts_are : (arena : Arena Item) (slot : ℕ) (read item : Item) (facts : Facts) → facts ≡ read.thread → value_at arena slot ≡ Some read → value_at arena slot ≡ Some item → facts ≡ item.thread
facts_are arena slot read item facts is there stored = is ∙ ap (λ (i : Item). i.thread) (one_item arena slot read item there stored)

pub removes_bound : LeaveLaws → (old new : Arena Item) (before : Heaps) (slot i : ℕ) (read queue : Queue) (picked : Bool) (turns : ℕ) (can : CanLeave old before slot) → i ≡ index can.item.thread.bucket → is_some can.item.thread.bound ≡ true
    → Removes old new (slice_index_or before.bound i read) queue slot → Leaves old new before (record before { bound = slice_set before.bound i queue }) slot picked turns turns
removes_bound laws old new before slot i read queue picked turns can is bound removes =
    subst (λ (n : ℕ). Leaves old new before (record before { bound = slice_set before.bound n queue }) slot picked turns turns) (sym is)
    (leaves_bound laws old new before slot queue picked turns can bound
    (subst (λ (q : Queue). Removes old new q queue slot) (bound_read before can.item.thread.bucket i read can.follows.six is) removes))

-- each list of entries that the heaps of foreign threads stood for lost the item's
abbrev pub OffersLess : Arena Item → Arena Item → Roots → Roots → ℕ → Type 0
OffersLess old new foreign later slot = (entries : List Queued) (item : Item) → value_at old slot ≡ Some item → OffersEntries old foreign entries → OffersEntries new later (without item.arrival entries)

pub leaves_unbound : LeaveLaws → (old mid new : Arena Item) (before : Heaps) (foreign : Roots) (slot : ℕ) (at : Lane) (picked : Bool) (turns turned : ℕ) (can : CanLeave old before slot) → is_some can.item.thread.bound ≡ false
    → ForeignRemoves old mid before.foreign foreign slot → OffersLess old mid before.foreign foreign slot → LaneLeaves mid new (lane_at before can.item.thread.bucket) at slot picked turns turned
    → Leaves old new before (record before { lanes = slice_set before.lanes (index can.item.thread.bucket) at; foreign = foreign }) slot picked turns turned
leaves_unbound laws old mid new before foreign slot at picked turns turned can free removes offers leaves =
    let item = can.item in
    let later : Heaps = record before { lanes = slice_set before.lanes (index item.thread.bucket) at; foreign = foreign } in
    let left : (s : Flat) → without_unit_entry picked item s ≡ without_item picked item s
    = λ s. sym (cond-false (is_some item.thread.bound) (record s { entries = without item.arrival s.entries }) (without_unit_entry picked item s) free) in
    let one : (other : CanLeave old before slot) → item ≡ other.item = λ other. one_item old slot item other.item can.stored other.stored in
    let listed : (other : CanLeave old before slot) → Contains other.s.entries (entry_of item) = λ other. subst (λ (i : Item). Contains other.s.entries (entry_of i)) (sym (one other)) other.listed in
    record {
      follows = λ other same.
          subst (λ (i : Item). HeapsFollow new later other.count (without_item picked i other.s)) (one other)
          (subst (HeapsFollow new later other.count) (left other.s)
          (heaps_left laws old mid new before foreign slot item at picked turns turned free can.stored removes leaves other.count other.s other.formed other.follows (listed other) same
          (offers other.s.entries item can.stored other.follows.foreign)));
      turn = λ other same.
          (own_left laws old mid new before foreign slot item at picked turns turned free can.stored removes leaves other.count other.s other.formed other.follows (listed other) same).1
          ∙ ap (λ (x : Flat). x.next_turn) (left other.s ∙ ap (λ (i : Item). without_item picked i other.s) (one other));
      first = leaves.free;
      second = leaves.arena.second slot ∙ removes.free;
      values = λ t. leaves.arena.values t ∙ removes.kept.values t;
      spare = leaves.arena.spare ∙ removes.kept.spare;
      room = refl;
    }

pub removes_unbound : LeaveLaws → (old mid new : Arena Item) (before : Heaps) (foreign : Roots) (slot i : ℕ) (read at : Lane) (picked : Bool) (turns turned : ℕ) (can : CanLeave old before slot) → i ≡ index can.item.thread.bucket → is_some can.item.thread.bound ≡ false
    → ForeignRemoves old mid before.foreign foreign slot → OffersLess old mid before.foreign foreign slot → LaneLeaves mid new (slice_index_or before.lanes i read) at slot picked turns turned
    → Leaves old new before (record before { lanes = slice_set before.lanes i at; foreign = foreign }) slot picked turns turned
removes_unbound laws old mid new before foreign slot i read at picked turns turned can is free removes offers leaves =
    subst (λ (n : ℕ). Leaves old new before (record before { lanes = slice_set before.lanes n at; foreign = foreign }) slot picked turns turned) (sym is)
    (leaves_unbound laws old mid new before foreign slot at picked turns turned can free removes offers
    (subst (λ (l : Lane). LaneLeaves mid new l at slot picked turns turned) (lane_read before can.item.thread.bucket i read can.follows.six is) leaves))
