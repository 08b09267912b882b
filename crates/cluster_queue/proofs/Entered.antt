-- What an enter promises of an unbound thread's slot, from what its two parts did.
use Rattle.std.proofs.Common.{◌≡◌, ℕ, false, List, [], ◌∷◌, ◌++◌, Some, is_some, refl, sym, ap, ◌∙◌, subst}
use Rattle.std.specs.Prelude.{slice_index_or, slice_set}
use Rattle.sched_base.specs.Bucket.{index}
use Rattle.flat_policy.specs.Policy.Queue.{Flat, Queued}
use Rattle.link_arena.specs.Arena.{Arena, value_at}
use Rattle.pairing_heap.specs.Laws.{HeldAreLive}
use Rattle.thread_queue.specs.Item.{entry_of, key_of_item, key_precedes}
use Rattle.thread_queue.specs.Laws.{StaysWhereOtherSetChanges}
use Rattle.thread_queue.specs.declared.item.Item.{Item}
use Rattle.clutch_bucket.specs.Lane.{Follows, IsNew, Lane, OnlyQueuesChange, OtherQueuesStayBut, SameGroups, with_unit_entry}
use Rattle.clutch_bucket.specs.Laws.{LanesStay}
use Rattle.stealing.specs.Foreign.{IsNewArrival, OffersEntries, Pushes, Roots}
use Rattle.stealing.specs.Laws.{LacksNewArrival, StaysWhereSlotsStay}
use Rattle.stealing.specs.Foreign as foreign
use Rattle.cluster_queue.specs.Heaps.{HeapsFollow}
use Rattle.cluster_queue.specs.Moves.{CanEnter, Enters}
use Rattle.cluster_queue.specs.declared.heaps.Heaps.{Heaps}
use Rattle.cluster_queue.proofs.EnteredUnbound.{EntersBoth, foreign_stays, unbound_follows}
use Rattle.cluster_queue.proofs.OneMore.{with_unbound}
use Rattle.cluster_queue.proofs.Places.{lane_read}
use Rattle.cluster_queue.proofs.Slots.{one_item}

-- what LaneUnits::enter says of every queue that the lane follows
abbrev pub LaneEnters : Arena Item → Arena Item → Lane → Lane → ℕ → ℕ → ℕ → ℕ → ℕ → Type 0
LaneEnters old mid before at slot ran blocked turns turned =
    (s : Flat) (item : Item) → value_at old slot ≡ Some item → turns ≡ s.next_turn → IsNew s item → Follows old before s
    → Follows mid at (with_unit_entry ran blocked item s) × (turned ≡ (with_unit_entry ran blocked item s).next_turn)

-- what Foreign::push says of every list that the heaps stand for
abbrev pub ForeignEnters : Arena Item → Arena Item → Roots → Roots → ℕ → Type 0
ForeignEnters mid new roots later slot =
    (entries : List Queued) (item : Item) → value_at mid slot ≡ Some item → IsNewArrival entries item.arrival → OffersEntries mid roots entries
    → OffersEntries new later (entries ++ entry_of item ∷ [])

-- the heaps of foreign threads stand, without the slot, once it came into its lane
pub foreign_stands : StaysWhereSlotsStay → (old mid : Arena Item) (before : Heaps) (slot : ℕ) → OnlyQueuesChange old mid → CanEnter old before slot → foreign.StandsIn mid before.foreign
foreign_stands alike old mid before slot arena can = (foreign_stays alike old mid before.foreign arena can.follows.foreign.stands).stands

pub foreign_lacks : StaysWhereSlotsStay → LacksNewArrival → (old mid : Arena Item) (before : Heaps) (slot : ℕ) → OnlyQueuesChange old mid → CanEnter old before slot → foreign.LacksSlot mid before.foreign slot
foreign_lacks alike lacks old mid before slot arena can =
    let offers = (foreign_stays alike old mid before.foreign arena can.follows.foreign.stands).offers can.s.entries can.follows.foreign in
    lacks mid before.foreign can.s.entries slot can.item offers (arena.values slot ∙ can.stored) can.fresh

-- by the item that was read, and the lane at its bucket's index
pub unbound_enters : HeldAreLive 0 key_of_item key_precedes → StaysWhereOtherSetChanges → LanesStay → StaysWhereSlotsStay → (old mid new : Arena Item) (before : Heaps) (i slot ran blocked turns turned : ℕ) (d at : Lane) (roots : Roots) (read : Item)
    → value_at old slot ≡ Some read → i ≡ index read.thread.bucket → is_some read.thread.bound ≡ false → SameGroups (slice_index_or before.lanes i d) at → OnlyQueuesChange old mid
    → OtherQueuesStayBut old mid (slice_index_or before.lanes i d) at slot → LaneEnters old mid (slice_index_or before.lanes i d) at slot ran blocked turns turned
    → Pushes mid new before.foreign roots slot → ForeignEnters mid new before.foreign roots slot
    → Enters old new before (record before { lanes = slice_set before.lanes i at; foreign = roots }) slot ran blocked turns turned
unbound_enters live beside stay alike old mid new before i slot ran blocked turns turned d at roots read stored at_index unbound groups arena queues enters pushes pushed =
    let flag = λ (can : CanEnter old before slot). ap (λ (x : Item). is_some x.thread.bound) (one_item old slot can.item read can.stored stored) ∙ unbound in
    let place = λ (can : CanEnter old before slot). at_index ∙ ap (λ (x : Item). index x.thread.bucket) (one_item old slot read can.item stored can.stored) in
    let lane_is = λ (can : CanEnter old before slot). lane_read before can.item.thread.bucket i d can.follows.six (place can) in
    let entered = λ (can : CanEnter old before slot) (same : turns ≡ can.s.next_turn). enters can.s can.item can.stored same can.fresh
    (subst (λ (l : Lane). Follows old l can.s) (sym (lane_is can)) (can.follows.lanes can.item.thread.bucket).follows) in
    record {
      follows = λ can same. (
          let b = can.item.thread.bucket in
          let both : EntersBoth old mid new before b at roots slot = record {
            groups = subst (λ (l : Lane). SameGroups l at) (lane_is can) groups;
            arena = arena;
            queues = subst (λ (l : Lane). OtherQueuesStayBut old mid l at slot) (lane_is can) queues;
            pushes = pushes;
          } in
          let offers = pushed can.s.entries can.item (arena.values slot ∙ can.stored) can.fresh
          ((foreign_stays alike old mid before.foreign arena can.follows.foreign.stands).offers can.s.entries can.follows.foreign) in
          subst (HeapsFollow new (record before { lanes = slice_set before.lanes i at; foreign = roots }) can.count) (sym (with_unbound ran blocked can.item can.s (flag can)))
          (subst (λ (j : ℕ). HeapsFollow new (record before { lanes = slice_set before.lanes j at; foreign = roots }) can.count (with_unit_entry ran blocked can.item can.s)) (sym (place can))
          (unbound_follows live beside stay alike old mid new before can.count can.s b at roots slot ran blocked can.item can.follows can.stored can.fresh refl (flag can) both (entered can same).0 offers)));
      turn = λ can same. (entered can same).1 ∙ ap (λ (x : Flat). x.next_turn) (sym (with_unbound ran blocked can.item can.s (flag can)));
      values = λ other. pushes.kept.values other ∙ arena.values other;
      spare = pushes.kept.spare ∙ arena.spare;
      room = refl;
    }
