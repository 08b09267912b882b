-- A lane where the slots of one unit are priced anew.
use Rattle.std.proofs.Common.{◌≡◌, ◌≢◌, ℕ, ◌≤◌, ◌<◌, List, set, refl, sym, ap, subst, arith}
use Rattle.std.proofs.lemmas.List.{set-get_or}
use Rattle.flat_policy.specs.Policy.Queue.{Clutch, no_spans}
use Rattle.flat_policy.specs.Policy.Usage.{Spans}
use Rattle.link_arena.specs.Arena.{Arena, value_at}
use Rattle.pairing_heap.specs.Laws.{HeldAreLive}
use Rattle.thread_queue.specs.Item.{key_of_item, key_precedes}
use Rattle.thread_queue.specs.Laws.{StaysIn}
use Rattle.thread_queue.specs.Queue.{HasSlot, Queue}
use Rattle.thread_queue.specs.declared.item.Item.{Item}
use Rattle.clutch_bucket.specs.Lane.{Lane, OtherQueuesStay, UnitItem, UnitStands, UnitsStand, groups, queue_at, spans_at, unit_of}
use Rattle.clutch_bucket.specs.Repricing.{Reprices, repriced_item}
use Rattle.clutch_bucket.proofs.Apart.{ApartStay, apart_within, others_stay, stays_from}
use Rattle.clutch_bucket.proofs.Lanes.{changed_at, groups_changed, units_changed}
use Rattle.clutch_bucket.proofs.Tops.{item_from}
use Rattle.clutch_bucket.proofs.Units.{ValuesStay, one_item, unit_stays}

-- the lane with another queue of a group
abbrev pub requeued : Lane → ℕ → Queue → Lane
requeued before g queue = changed_at before g queue (spans_at before g) before.len

pub requeued_is : (before : Lane) (g : ℕ) (queue : Queue) → record before { queues = set before.queues g queue } ≡ requeued before g queue
requeued_is before g queue = ap (λ (us : List Spans). record before { queues = set before.queues g queue; spans = us }) (sym (set-get_or before.spans g no_spans))

-- an item priced anew stands where it stood
pub fits_repriced : (k : Clutch) (count now : ℕ) (item : Item) → UnitItem k item → (repriced_item count now item).pri ≤ 127 → UnitItem k (repriced_item count now item)
fits_repriced k count now item fits small = record { within = fits.within; small = small; ran = refl; blocked = refl }

-- a unit of the lane is priced anew
pub record PricesUnit (old new : Arena Item) (before : Lane) (g : ℕ) (queue : Queue) (now : ℕ) : Type 0 where
  pub held : HeldAreLive 0 key_of_item key_precedes
  pub stands : UnitsStand old before
  pub within : g < groups before
  pub reprices : Reprices old new (queue_at before g) queue now

module _ (old new : Arena Item) (before : Lane) (g : ℕ) (queue : Queue) (now : ℕ) (e : PricesUnit old new before g queue now) where
  pub priced_law : ApartStay (λ other. Unit {0}) old new (queue_at before g) queue
  priced_law = λ other any there apart. e.reprices.queues other there apart

  pub priced_others : (h : ℕ) → h < groups before → h ≢ g → StaysIn old new (queue_at before h)
  priced_others = others_stay (λ other. Unit {0}) old new before g queue e.held e.stands e.within priced_law (λ h inside. tt)

  pub priced_values : (h : ℕ) → h < groups before → h ≢ g → ValuesStay old new (queue_at before h)
  priced_values h inside n = λ slot has. e.reprices.others slot (apart_within e.held old before h g e.stands inside e.within (λ same. n (sym same)) slot has)

  priced_here : UnitStands new (unit_of before g) queue
  priced_here = record {
    stands = e.reprices.stands;
    each = λ slot item has stored. (
        let was : HasSlot old (queue_at before g) slot = subst (λ (n : ℕ). 0 < n) (e.reprices.slots slot) has in
        let unit = e.stands.each g e.within in
        let valued = item_from (value_at old slot) (e.held old (queue_at before g).root slot unit.stands.heap was) in
        let count = (queue_at before g).count in
        let is = one_item new slot (repriced_item count now valued.0) item (e.reprices.values slot valued.0 was valued.1) stored in
        subst (UnitItem (unit_of before g)) is (fits_repriced (unit_of before g) count now valued.0 (unit.each slot valued.0 was valued.1) (e.reprices.small slot valued.0 was valued.1)));
  }

  pub priced_units : UnitsStand new (requeued before g queue)
  priced_units =
      let count = e.reprices.count in
      units_changed old new before g queue (spans_at before g) before.len e.stands e.within priced_here
      (λ h inside n. unit_stays old new (unit_of before h) (queue_at before h) (priced_others h inside n) (priced_values h inside n) (e.stands.each h inside))
      (omega (arith, count))

  pub inside_requeued : g < groups (requeued before g queue)
  inside_requeued = subst (λ (m : ℕ). g < m) (sym (groups_changed before g queue (spans_at before g) before.len)) e.within

  pub priced_queues : OtherQueuesStay old new before (requeued before g queue)
  priced_queues = λ other there apart.
      let kept = stays_from (λ q. Unit {0}) old new before g queue (spans_at before g) before.len e.held e.stands e.within priced_law (λ h inside. tt) other tt there apart in
      record { stays = kept.stays; apart = kept.apart }
