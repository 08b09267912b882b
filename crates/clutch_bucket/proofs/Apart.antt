-- What stays of other queues where one unit of a lane changes.
use Rattle.std.proofs.Common.{◌≡◌, ◌≢◌, ℕ, ◌<◌, Option, Some, None, refl, sym, ap, ◌∙◌, subst, inl, inr}
use Rattle.std.proofs.lemmas.Bool.{cases_eq}
use Rattle.sched_base.specs.declared.Bucket.{Bucket}
use Rattle.flat_policy.specs.Policy.Usage.{Spans}
use Rattle.link_arena.specs.Arena.{Arena, value_at}
use Rattle.pairing_heap.specs.Laws.{HeldAreLive}
use Rattle.thread_queue.specs.Item.{entry_of, key_of_item, key_precedes}
use Rattle.thread_queue.specs.Laws.{QueuesApart, StaysApart, StaysIn}
use Rattle.thread_queue.specs.Queue.{LacksSlot, Queue, StandsIn}
use Rattle.thread_queue.specs.declared.item.Item.{Item}
use Rattle.clutch_bucket.specs.Lane.{IsApartFrom, Lane, LacksLaneSlot, StaysFrom, UnitsStand, groups, item_top, queue_at, slot_top, spans_at, top_at, unit_of}
use Rattle.clutch_bucket.proofs.Clutches.{parts_of_clutch}
use Rattle.clutch_bucket.proofs.Lanes.{changed_at, groups_changed, queue_here, queue_other, spans_other}
use Rattle.clutch_bucket.proofs.Tops.{item_from}
use Rattle.clutch_bucket.proofs.Units.{had, has_or_lacks, lacks_still, not_both}

-- two units of a lane share no slot, since an item is of one group
pub apart_within : HeldAreLive 0 key_of_item key_precedes → (arena : Arena Item) (at : Lane) (g h : ℕ) → UnitsStand arena at → g < groups at → h < groups at → h ≢ g → QueuesApart arena (queue_at at g) (queue_at at h)
apart_within live arena at g h stands wg wh n = λ slot has.
    elim (has_or_lacks arena (queue_at at h) slot) [
      | inl both ↦ (
          let one = stands.each g wg in
          let two = stands.each h wh in
          let valued = item_from (value_at arena slot) (live arena (queue_at at g).root slot one.stands.heap has) in
          let here = parts_of_clutch (unit_of at g) (entry_of valued.0) (one.each slot valued.0 has valued.1).within in
          let there = parts_of_clutch (unit_of at h) (entry_of valued.0) (two.each slot valued.0 both valued.1).within in
          absurd (n (sym there.1.0 ∙ here.1.0)))
      | inr lacks ↦ lacks
    ]

-- what a change of a queue keeps of the queues that share no slot with it and have P
abbrev pub ApartStay : (Queue → Type 0) → Arena Item → Arena Item → Queue → Queue → Type 0
ApartStay P old new queue later = (other : Queue) → P other → StandsIn old other → QueuesApart old queue other → StaysApart old new later other

-- the lane's other queues
pub others_stay : (P : Queue → Type 0) (old new : Arena Item) (before : Lane) (g : ℕ) (queue : Queue) → HeldAreLive 0 key_of_item key_precedes → UnitsStand old before → g < groups before → ApartStay P old new (queue_at before g) queue
    → ((h : ℕ) → h < groups before → P (queue_at before h)) → (h : ℕ) → h < groups before → h ≢ g → StaysIn old new (queue_at before h)
others_stay P old new before g queue live stands within law each h inside n =
    (law (queue_at before h) (each h inside) (stands.each h inside).stands (apart_within live old before g h stands within inside n)).stays

-- a slot that no queue has, once one changed
pub lacks_changed : (new : Arena Item) (before : Lane) (g : ℕ) (queue : Queue) (used : Spans) (n slot : ℕ) → g < groups before → LacksSlot new queue slot → ((h : ℕ) → h < groups before → h ≢ g → LacksSlot new (queue_at before h) slot)
    → LacksLaneSlot new (changed_at before g queue used n) slot
lacks_changed new before g queue used n slot within here others = λ h inside.
    let later = changed_at before g queue used n in
    elim (cases_eq h g) [
      | inl e ↦ subst (λ (i : ℕ). LacksSlot new (queue_at later i) slot) (sym e) (subst (λ (q : Queue). LacksSlot new q slot) (sym (queue_here before g queue used n within)) here)
      | inr other ↦ subst (λ (q : Queue). LacksSlot new q slot) (sym (queue_other before g h queue used n other)) (others h (subst (λ (m : ℕ). h < m) (groups_changed before g queue used n) inside) other)
    ]

-- a queue that is apart from the lane
pub stays_from : (P : Queue → Type 0) (old new : Arena Item) (before : Lane) (g : ℕ) (queue : Queue) (used : Spans) (n : ℕ) → HeldAreLive 0 key_of_item key_precedes → UnitsStand old before → g < groups before → ApartStay P old new (queue_at before g) queue
    → ((h : ℕ) → h < groups before → P (queue_at before h)) → (other : Queue) → P other → StandsIn old other → IsApartFrom old before other → StaysFrom old new (changed_at before g queue used n) other
stays_from P old new before g queue used n live stands within law each other fits there apart =
    let free : QueuesApart old (queue_at before g) other = λ slot has. (
    elim (has_or_lacks old other slot) [
      | inl both ↦ absurd (not_both old (queue_at before g) slot has (apart slot both g within))
      | inr lacks ↦ lacks
    ]) in
    let kept = law other fits there free in
    record {
      stays = kept.stays;
      apart = λ slot has. lacks_changed new before g queue used n slot within (kept.back slot has)
          (λ h inside differ. lacks_still old new (queue_at before h) slot (others_stay P old new before g queue live stands within law each h inside differ)
          (apart slot (had old new other slot kept.stays has) h inside));
    }

-- priorities go by values
pub top_stays : (old new : Arena Item) (b : Bucket) (used : Spans) (root : Option ℕ) → ((slot : ℕ) → value_at new slot ≡ value_at old slot) → slot_top new b used root ≡ slot_top old b used root
top_stays old new b used None values = refl
top_stays old new b used (Some slot) values = ap (item_top b used) (values slot)

pub other_top : (old new : Arena Item) (before : Lane) (g h : ℕ) (queue : Queue) (used : Spans) (n : ℕ) → ((slot : ℕ) → value_at new slot ≡ value_at old slot) → h ≢ g → top_at new (changed_at before g queue used n) h ≡ top_at old before h
other_top old new before g h queue used n values other =
    ap (λ (q : Queue). slot_top new before.bucket (spans_at (changed_at before g queue used n) h) q.root) (queue_other before g h queue used n other)
    ∙ (ap (λ (u : Spans). slot_top new before.bucket u (queue_at before h).root) (spans_other before g h queue used n other)
    ∙ top_stays old new before.bucket (spans_at before h) (queue_at before h).root values)
