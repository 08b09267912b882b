-- The heaps follow still where the arena changes elsewhere, and they say what the cluster's queue is.
use Rattle.std.proofs.Common.{◌≡◌, ℕ, ◌<◌, Contains, true, Option, Some, None, sym, ap, ◌∙◌, subst, inl, inr, arith}
use Rattle.std.proofs.lemmas.Bool.{cases_eq}
use Rattle.sched_base.specs.declared.Bucket.{Bucket}
use Rattle.flat_policy.specs.Policy.Offer.{prefers}
use Rattle.flat_policy.specs.Policy.Queue.{Flat, Queued, in_clutch, in_lane, lane}
use Rattle.link_arena.specs.Arena.{Arena, Inserts, Removes, SameMap, links_at, node_at, value_at}
use Rattle.pairing_heap.specs.Laws.{HeldAreLive}
use Rattle.thread_queue.specs.Item.{entry_of, key_of_item, key_precedes}
use Rattle.thread_queue.specs.Laws.{StaysWhereInserted, StaysWhereRemoved, StaysWhereReserved}
use Rattle.thread_queue.specs.Queue.{HasSlot, LacksSlot, Queue, StandsIn}
use Rattle.thread_queue.specs.declared.item.Item.{Item}
use Rattle.clutch_bucket.specs.Lane.{groups, queue_at, unit_of}
use Rattle.clutch_bucket.specs.Laws.{LanesStay}
use Rattle.stealing.specs.Foreign.{LacksSlot as LacksForeign}
use Rattle.stealing.specs.Laws.{StaysWhereInserted as ForeignWhereInserted, StaysWhereRemoved as ForeignWhereRemoved, StaysWhereReserved as ForeignWhereReserved}
use Rattle.cluster_queue.specs.Heaps.{AreItems, HeapsFollow, ItemFits, bound_at, lane_at, spans_in, turns_in}
use Rattle.cluster_queue.specs.Queues.{flat_of}
use Rattle.cluster_queue.specs.declared.heaps.Heaps.{Heaps}
use Rattle.cluster_queue.specs.declared.queue.Queue.{Queue as Whole}
use Rattle.cluster_queue.proofs.ByPlace.{spans_by_place, turns_by_place}
use Rattle.cluster_queue.proofs.SameParts.{flat_by, heaps_of_parts}
use Rattle.cluster_queue.proofs.Staying.{KeepsItems, PartsStay, heaps_stay}
use Rattle.cluster_queue.proofs.Members.{kept_member}
use Rattle.cluster_queue.proofs.Slots.{has_after, lacks_where_not, one_item}
use Rattle.cluster_queue.proofs.ForeignCleared.{lacks_where, no_links}

-- only entries, spans and turns matter
pub follows_parts : (arena : Arena Item) (heaps : Heaps) (count : ℕ) (s next : Flat) → HeapsFollow arena heaps count s → next.entries ≡ s.entries → next.spans ≡ s.spans → next.turns ≡ s.turns → HeapsFollow arena heaps count next
follows_parts arena heaps count s next f entries spans turns = heaps_of_parts s next entries spans turns arena heaps count f

-- the queues of the heaps stand
stands_in_lane : (arena : Arena Item) (heaps : Heaps) (count : ℕ) (s : Flat) → HeapsFollow arena heaps count s → (b : Bucket) (g : ℕ) → g < groups (lane_at heaps b) → StandsIn arena (queue_at (lane_at heaps b) g)
stands_in_lane arena heaps count s f b g within = ((f.lanes b).follows.stands.units.each g within).stands

-- an item comes into the arena
keeps_inserted : StaysWhereInserted → (old new : Arena Item) (slot : ℕ) (item : Item) → Inserts old new slot item → (queue : Queue) → StandsIn old queue → KeepsItems old new queue
keeps_inserted law old new slot item inserts queue stands =
    let w = law old new slot item inserts queue stands in
    record {
      stays = w.stays;
      values = λ other has. (
          let still : HasSlot new queue other = has_after old new queue other w.stays has in
          let lacks : LacksSlot new queue slot = w.lacks in
          inserts.elsewhere.values other (λ same. omega (arith, subst (λ (n : ℕ). HasSlot new queue n) same still, lacks)));
    }

pub follows_inserted : StaysWhereInserted → ForeignWhereInserted → LanesStay → (old new : Arena Item) (heaps : Heaps) (count slot : ℕ) (item : Item) (s : Flat) → HeapsFollow old heaps count s → Inserts old new slot item → HeapsFollow new heaps count s
follows_inserted queues foreign stay old new heaps count slot item s f inserts =
    let w = foreign old new slot item inserts heaps.foreign f.foreign.stands in
    let parts : PartsStay old new heaps = record {
      lanes = λ b g within. keeps_inserted queues old new slot item inserts (queue_at (lane_at heaps b) g) (stands_in_lane old heaps count s f b g within);
      bound = λ b. keeps_inserted queues old new slot item inserts (bound_at heaps b) (f.bound b).stands;
      foreign = w.stays;
      loose = λ other lacks was. elim (cases_eq other slot) [
        | inl same ↦ ap (links_at new 1) same ∙ inserts.unlinked 1
        | inr n ↦ inserts.elsewhere.links 1 other n ∙ was
      ];
    } in
    heaps_stay stay old new heaps count s parts f

-- an item that is no entry goes out of the arena
keeps_removed : StaysWhereRemoved → (old new : Arena Item) (slot : ℕ) → Removes old new slot → (queue : Queue) → StandsIn old queue → LacksSlot old queue slot → KeepsItems old new queue
keeps_removed law old new slot removes queue stands lacks = record {
  stays = law old new slot removes queue stands lacks;
  values = λ other has. removes.elsewhere.values other (λ same. omega (arith, subst (λ (n : ℕ). HasSlot old queue n) same has, lacks));
}

pub follows_removed : StaysWhereRemoved → ForeignWhereRemoved → LanesStay → HeldAreLive 0 key_of_item key_precedes → (old new : Arena Item) (heaps : Heaps) (count slot : ℕ) (item : Item) (s : Flat) → HeapsFollow old heaps count s → Removes old new slot → value_at old slot ≡ Some item → ¬ Contains s.entries (entry_of item) → HeapsFollow new heaps count s
follows_removed queues foreign stay live old new heaps count slot item s f removes stored gone =
    let lacks : LacksForeign old heaps.foreign slot = lacks_where old heaps.foreign slot (λ to has.
    gone (kept_member (λ (e : Queued). prefers to e.facts) s.entries (entry_of item) (f.foreign.there to slot item has stored)).0) in
    let parts : PartsStay old new heaps = record {
      lanes = λ b g within. (
          let queue : Queue = queue_at (lane_at heaps b) g in
          let unit = (f.lanes b).follows.units.each g within in
          keeps_removed queues old new slot removes queue (stands_in_lane old heaps count s f b g within)
          (lacks_where_not old queue slot (λ has. gone (kept_member (in_clutch (unit_of (lane_at heaps b) g)) s.entries (entry_of item) (unit.entries.there slot item has stored)).0)));
      bound = λ b. (
          let queue : Queue = bound_at heaps b in
          keeps_removed queues old new slot removes queue (f.bound b).stands
          (lacks_where_not old queue slot (λ has. gone (kept_member (in_lane (lane b true)) s.entries (entry_of item) ((f.bound b).entries.there slot item has stored)).0)));
      foreign = foreign old new slot removes heaps.foreign f.foreign.stands lacks;
      loose = λ other lacked was. elim (cases_eq other slot) [
        | inl same ↦ ap (links_at new 1) same ∙ no_links 1 (node_at new slot) removes.free
        | inr n ↦ removes.elsewhere.links 1 other n ∙ was
      ];
    } in
    heaps_stay stay old new heaps count s parts f

-- the arena gets room
pub follows_reserved : StaysWhereReserved → ForeignWhereReserved → LanesStay → (old new : Arena Item) (heaps : Heaps) (count : ℕ) (s : Flat) → HeapsFollow old heaps count s → SameMap old new → HeapsFollow new heaps count s
follows_reserved queues foreign stay old new heaps count s f same =
    let parts : PartsStay old new heaps = record {
      lanes = λ b g within. record {
        stays = queues old new same (queue_at (lane_at heaps b) g) (stands_in_lane old heaps count s f b g within);
        values = λ slot has. same.values slot;
      };
      bound = λ b. record {
        stays = queues old new same (bound_at heaps b) (f.bound b).stands;
        values = λ slot has. same.values slot;
      };
      foreign = foreign old new same heaps.foreign f.foreign.stands;
      loose = λ slot lacks was. same.links 1 slot ∙ was;
    } in
    heaps_stay stay old new heaps count s parts f

-- spans and turns are those of the queue that the heaps follow
pub spans_are : (arena : Arena Item) (heaps : Heaps) (count : ℕ) (s : Flat) → HeapsFollow arena heaps count s → spans_in heaps count ≡ s.spans
spans_are arena heaps count s f = spans_by_place arena heaps count s f

pub turns_are : (arena : Arena Item) (heaps : Heaps) (count : ℕ) (s : Flat) → HeapsFollow arena heaps count s → turns_in heaps count ≡ s.turns
turns_are arena heaps count s f = turns_by_place arena heaps count s f

-- so the queue in code is that, where the rest is, too
pub flat_is : (q : Whole) (s : Flat) → HeapsFollow q.arena q.heaps q.groups s → (flat_of q).entries ≡ s.entries → q.windows.lanes ≡ s.lanes → q.last ≡ s.last → q.next_arrival ≡ s.next_arrival → q.next_turn ≡ s.next_turn → q.on ≡ s.on → flat_of q ≡ s
flat_is q s f entries lanes last arrival turn on =
    flat_by (flat_of q) s entries (spans_are q.arena q.heaps q.groups s f) (turns_are q.arena q.heaps q.groups s f) lanes last arrival turn on

-- items are in range still
pub items_inserted : (old new : Arena Item) (count slot : ℕ) (item : Item) → AreItems old count → ItemFits count item → Inserts old new slot item → AreItems new count
items_inserted old new count slot item fits here inserts = λ other rival stored. elim (cases_eq other slot) [
  | inl same ↦ subst (ItemFits count) (one_item new slot item rival inserts.stored (ap (value_at new) (sym same) ∙ stored)) here
  | inr n ↦ fits other rival (sym (inserts.elsewhere.values other n) ∙ stored)
]

pub items_removed : (old new : Arena Item) (count slot : ℕ) → AreItems old count → Removes old new slot → AreItems new count
items_removed old new count slot fits removes = λ other rival stored. elim (cases_eq other slot) [
  | inl same ↦ (
      let e : ◌≡◌ {A = Option Item} None (Some rival) = sym removes.free ∙ (ap (value_at new) (sym same) ∙ stored) in
      absurd (cc e))
  | inr n ↦ fits other rival (sym (removes.elsewhere.values other n) ∙ stored)
]
