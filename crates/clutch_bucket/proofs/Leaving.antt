-- A lane that an entry left.
use Rattle.std.proofs.Common.{◌≡◌, ◌≢◌, ℕ, ◌+◌, ◌<◌, Bool, true, false, cond, Contains, Option, Some, refl, sym, ap, ◌∙◌, subst, arith}
use Rattle.flat_policy.specs.Policy.Moves.{turn_on_leaving, turn_on_selection, without}
use Rattle.flat_policy.specs.Policy.Queue.{Clutch, Flat, Queued, clutch_entries, clutch_of, in_clutch, in_lane, lane}
use Rattle.flat_policy.specs.Policy.WellFormed.{ArrivalsRise}
use Rattle.link_arena.specs.Arena.{Arena, value_at}
use Rattle.pairing_heap.specs.Laws.{FirstIsLeast, HeldAreLive}
use Rattle.thread_queue.specs.Item.{entry_of, key_of_item, key_precedes}
use Rattle.thread_queue.specs.Laws.{RemovedIsLacked, RemovedStaysApart, StaysIn}
use Rattle.thread_queue.specs.Queue.{HasSlot, LacksSlot, Queue, Removes}
use Rattle.thread_queue.specs.declared.item.Item.{Item}
use Rattle.clutch_bucket.specs.Lane.{Follows, LacksLaneSlot, Lane, LaneStands, UnitsFollow, UnitsStand, groups, queue_at, rank_at, rank_pri, spans_at, top_at, unit_of, without_unit_entry}
use Rattle.clutch_bucket.specs.Renewing.{top_of, turned, with_renewed}
use Rattle.clutch_bucket.proofs.Apart.{ApartStay, apart_within, lacks_changed, other_top, others_stay}
use Rattle.clutch_bucket.proofs.Arrivals.{one_less, others_stay as other_entries_stay}
use Rattle.clutch_bucket.proofs.Clutches.{lane_of_clutch}
use Rattle.clutch_bucket.proofs.Entering.{in_one_clutch}
use Rattle.clutch_bucket.proofs.Lanes.{changed_at, follow_changed, follows_renewed, groups_changed, lane_renewed, units_changed}
use Rattle.clutch_bucket.proofs.Members.{filter_member, some_passes}
use Rattle.clutch_bucket.proofs.Removed.{follows_removed}
use Rattle.clutch_bucket.proofs.Tops.{unit_top}
use Rattle.clutch_bucket.proofs.Turns.{leaving, selecting}
use Rattle.clutch_bucket.proofs.Units.{follows_still, lacks_still, unit_removed, unit_stays}

-- an item goes out of the queue of its group, which becomes this one
pub record Leaves (old new : Arena Item) (before : Lane) (g slot : ℕ) (queue : Queue) : Type 0 where
  pub held : HeldAreLive 0 key_of_item key_precedes
  pub first : FirstIsLeast 0 key_of_item key_precedes
  pub law : RemovedStaysApart
  pub gone : RemovedIsLacked
  pub stands : LaneStands old before
  pub within : g < groups before
  pub has : HasSlot old (queue_at before g) slot
  pub removes : Removes old new (queue_at before g) queue slot

-- the lane then, with so many slots
abbrev pub left_lane : Lane → ℕ → Queue → ℕ → Lane
left_lane before g queue n = changed_at before g queue (spans_at before g) n

abbrev pub AnyQueue : Queue → Type 0
AnyQueue queue = Unit {0}

module _ (old new : Arena Item) (before : Lane) (g slot : ℕ) (queue : Queue) (n : ℕ) (e : Leaves old new before g slot queue) where
  pub remove_law : ApartStay AnyQueue old new (queue_at before g) queue
  remove_law = λ other any there apart. e.law old new (queue_at before g) queue slot (e.stands.units.each g e.within).stands e.removes other there apart

  pub left_others : (h : ℕ) → h < groups before → h ≢ g → StaysIn old new (queue_at before h)
  left_others = others_stay AnyQueue old new before g queue e.held e.stands.units e.within remove_law (λ h inside. tt)

  pub slot_gone : LacksSlot new queue slot
  slot_gone = e.gone old new (queue_at before g) queue slot (e.stands.units.each g e.within).stands e.removes

  pub left_lacks : LacksLaneSlot new (left_lane before g queue n) slot
  left_lacks = lacks_changed new before g queue (spans_at before g) n slot e.within slot_gone
      (λ h inside other. lacks_still old new (queue_at before h) slot (left_others h inside other) (apart_within e.held old before g h e.stands.units e.within inside other slot e.has))

  pub left_units : n + 1 ≡ before.len → UnitsStand new (left_lane before g queue n)
  left_units less =
      let count = e.removes.count in
      units_changed old new before g queue (spans_at before g) n e.stands.units e.within
      (unit_removed old new (unit_of before g) (queue_at before g) queue slot e.removes (e.stands.units.each g e.within))
      (λ h inside other. unit_stays old new (unit_of before h) (queue_at before h) (left_others h inside other) (λ s has. e.removes.takes.kept.values s) (e.stands.units.each h inside))
      (omega (arith, count, less))

  left_ranks : (h : ℕ) → h < groups (left_lane before g queue n) → h ≢ g → rank_pri (rank_at before h) ≡ top_at new (left_lane before g queue n) h
  left_ranks h inside other =
      e.stands.ranks h (subst (λ (m : ℕ). h < m) (groups_changed before g queue (spans_at before g) n) inside)
      ∙ sym (other_top old new before g h queue (spans_at before g) n e.removes.takes.kept.values other)

  pub left_inside : g < groups (left_lane before g queue n)
  left_inside = subst (λ (m : ℕ). g < m) (sym (groups_changed before g queue (spans_at before g) n)) e.within

  pub left_stands : n + 1 ≡ before.len → (picked : Bool) (turn : ℕ) → LaneStands new (with_renewed new picked turn g (left_lane before g queue n))
  left_stands less picked turn = lane_renewed new picked turn g (left_lane before g queue n) (left_units less) left_inside left_ranks

-- the cluster's queue without the entries of an arrival, before the turn
abbrev pub shrunk : ℕ → Flat → Flat
shrunk arrival s = record s { entries = without arrival s.entries }

-- the rule of turns of a removal
abbrev pub turn_on_removal : Bool → Flat → Clutch → Flat → Flat
turn_on_removal picked s k x = cond picked (turn_on_selection k x) (turn_on_leaving s k x)

module _ (old new : Arena Item) (before : Lane) (g slot : ℕ) (queue : Queue) (n : ℕ) (less : n + 1 ≡ before.len) (item : Item) (stored : value_at old slot ≡ Some item) (e : Leaves old new before g slot queue) (s : Flat) (f : Follows old before s) (rise : ArrivalsRise s.entries) where
  mine : Contains (clutch_entries s (unit_of before g)) (entry_of item)
  mine = (f.units.each g e.within).entries.there slot item e.has stored

  here : in_clutch (unit_of before g) (entry_of item) ≡ true
  here = ((e.stands.units.each g e.within).each slot item e.has stored).within

  there : Contains s.entries (entry_of item)
  there = (filter_member (in_clutch (unit_of before g)) s.entries (entry_of item) mine).0

  pub left_follow : UnitsFollow new (left_lane before g queue n) (shrunk item.arrival s)
  left_follow =
      let x = shrunk item.arrival s in
      follow_changed new before g queue (spans_at before g) n x e.stands.units.spans e.within
      (follows_removed old new (queue_at before g) queue (spans_at before g) slot item s x (unit_of before g) e.removes (slot_gone old new before g slot queue n e) e.has stored rise refl refl (f.units.each g e.within))
      (λ h inside other.
      follows_still old new (queue_at before h) (spans_at before h) s x (unit_of before h) (left_others old new before g slot queue n e h inside other) (λ t has. e.removes.takes.kept.values t)
      (other_entries_stay (in_clutch (unit_of before h)) s.entries rise (entry_of item) there (in_one_clutch before g h (entry_of item) here other))
      refl (f.units.each h inside))
      (let fewer = one_less (in_lane (lane before.bucket false)) s.entries rise (entry_of item) there (lane_of_clutch g before.bucket (entry_of item) here) in
      let was = f.units.len in
      omega (arith, fewer, was, less))
      f.units.span_places
      f.units.turn_places

  left_top : top_at new (left_lane before g queue n) g ≡ top_of (shrunk item.arrival s) (unit_of before g)
  left_top =
      let later = left_lane before g queue n in
      let inside = left_inside old new before g slot queue n e in
      let is = left_follow.each g inside in
      unit_top e.held e.first new (queue_at later g) (shrunk item.arrival s) (unit_of before g) (spans_at later g) ((left_units old new before g slot queue n e less).each g inside).stands is.entries is.spans

  pub left_turn : (picked : Bool) → turn_on_removal picked s (unit_of before g) (shrunk item.arrival s) ≡ turned picked (rank_at before g) (top_at new (left_lane before g queue n) g) (unit_of before g) (shrunk item.arrival s)
  left_turn true = selecting (rank_at before g) (shrunk item.arrival s) (unit_of before g) ∙ ap (λ (t : Option ℕ). turned true (rank_at before g) t (unit_of before g) (shrunk item.arrival s)) (sym left_top)
  left_turn false =
      let was = f.units.each g e.within in
      let old_top = e.stands.ranks g e.within ∙ unit_top e.held e.first old (queue_at before g) s (unit_of before g) (spans_at before g) (e.stands.units.each g e.within).stands was.entries was.spans in
      leaving (rank_at before g) s (shrunk item.arrival s) (unit_of before g) old_top (some_passes (λ (y : Queued). true) (clutch_entries s (unit_of before g)) (entry_of item) mine refl)
      ∙ ap (λ (t : Option ℕ). turned false (rank_at before g) t (unit_of before g) (shrunk item.arrival s)) (sym left_top)

  pub left_follows : (picked : Bool) → Follows new (with_renewed new picked s.next_turn g (left_lane before g queue n)) (turned picked (rank_at before g) (top_at new (left_lane before g queue n) g) (unit_of before g) (shrunk item.arrival s))
  left_follows picked =
      follows_renewed new picked g (left_lane before g queue n) (shrunk item.arrival s) (left_stands old new before g slot queue n e less picked s.next_turn)
      (e.stands.units.ranks ∙ sym (groups_changed before g queue (spans_at before g) n)) left_follow (left_inside old new before g slot queue n e)
      (λ h inside. f.turns h (subst (λ (m : ℕ). h < m) (groups_changed before g queue (spans_at before g) n) inside))

-- the queue after the item left, by the lane's own words
pub removal_is : (picked : Bool) (item : Item) (s : Flat) (k : Clutch) → clutch_of item.thread ≡ k → without_unit_entry picked item s ≡ turn_on_removal picked s k (shrunk item.arrival s)
removal_is picked item s k is = ap (λ (c : Clutch). turn_on_removal picked s c (shrunk item.arrival s)) is
