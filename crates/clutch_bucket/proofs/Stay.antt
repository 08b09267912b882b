-- A lane stays where its slots do.
use Rattle.std.proofs.Common.{◌≡◌, ℕ, ◌<◌, Option, Some, None, refl, sym, ap, ◌∙◌, subst}
use Rattle.std.specs.Prelude.{IfSome}
use Rattle.flat_policy.specs.Policy.Usage.{Spans}
use Rattle.sched_base.specs.declared.Bucket.{Bucket}
use Rattle.link_arena.specs.Arena.{Arena}
use Rattle.pairing_heap.specs.Laws.{FirstIsLeast}
use Rattle.thread_queue.specs.Item.{key_of_item, key_precedes}
use Rattle.thread_queue.specs.Queue.{HasSlot, Queue, StandsIn}
use Rattle.thread_queue.specs.declared.item.Item.{Item}
use Rattle.clutch_bucket.specs.Lane.{Lane, groups, item_top, queue_at, slot_top, spans_at, unit_of}
use Rattle.clutch_bucket.specs.Laws.{LanesStand, LanesStay, SlotsStay}
use Rattle.clutch_bucket.proofs.Units.{ValuesStay, follows_still, unit_stays}

top_kept : FirstIsLeast 0 key_of_item key_precedes → (old new : Arena Item) (b : Bucket) (used : Spans) (queue : Queue) (root : Option ℕ) → queue.root ≡ root → StandsIn old queue → ValuesStay old new queue → slot_top old b used root ≡ slot_top new b used root
top_kept least old new b used queue None is stands values = refl
top_kept least old new b used queue (Some slot) is stands values =
    let held : HasSlot old queue slot = subst (λ (r : Option ℕ). IfSome r (λ x. HasSlot old queue x)) is (least old queue.root stands.heap).held in
    ap (item_top b used) (sym (values slot held))

values_of : (old new : Arena Item) (at : Lane) (stay : SlotsStay old new at) (h : ℕ) → h < groups at → ValuesStay old new (queue_at at h)
values_of old new at stay h within = λ slot has. stay.values slot (h, (within, has))

pub lanes_stand : FirstIsLeast 0 key_of_item key_precedes → LanesStand
lanes_stand least = λ old new at stands stay. record {
  units = record {
    spans = stands.units.spans;
    ranks = stands.units.ranks;
    each = λ h within. unit_stays old new (unit_of at h) (queue_at at h) (stay.queues h within) (values_of old new at stay h within) (stands.units.each h within);
    counted = stands.units.counted;
  };
  ranks = λ h within.
      stands.ranks h within
      ∙ top_kept least old new at.bucket (spans_at at h) (queue_at at h) (queue_at at h).root refl (stands.units.each h within).stands (values_of old new at stay h within);
}

pub lanes_stay : FirstIsLeast 0 key_of_item key_precedes → LanesStay
lanes_stay least = λ old new at s next follows stay same. record {
  stands = lanes_stand least old new at follows.stands stay;
  units = record {
    each = λ h within. (
        let alike = same.each h within in
        follows_still old new (queue_at at h) (spans_at at h) s next (unit_of at h) (stay.queues h within) (values_of old new at stay h within) alike.entries alike.spans (follows.units.each h within));
    len = follows.units.len ∙ sym same.len;
    span_places = same.span_places ∙ follows.units.span_places;
    turn_places = same.turn_places ∙ follows.units.turn_places;
  };
  turns = λ h within. (same.each h within).turn ∙ follows.turns h within;
}
