-- What a removal promises, from what its two parts did.
use Rattle.std.proofs.Common.{◌≡◌, ℕ, ◌+◌, Bool, List, Some, set, sym, ap, ◌∙◌, subst, arith}
use Rattle.std.proofs.lemmas.List.{set-get_or}
use Rattle.flat_policy.specs.Policy.Queue.{Flat, no_spans}
use Rattle.flat_policy.specs.Policy.Usage.{Spans}
use Rattle.flat_policy.specs.Policy.WellFormed.{ArrivalsRise}
use Rattle.link_arena.specs.Arena.{Arena, value_at}
use Rattle.thread_queue.specs.Item.{entry_of}
use Rattle.thread_queue.specs.declared.item.Item.{Item}
use Rattle.clutch_bucket.specs.Lane.{Follows, HasLaneSlot, LacksLaneSlot, Lane, LaneStands, OnlyQueuesChange, OtherQueuesStay, SameGroups, StaysFrom, UnitsStand, groups, rank_at, spans_at, top_at, unit_of, without_unit_entry}
use Rattle.clutch_bucket.specs.Renewing.{TakesSlot, renewed_turn, turned, with_renewed}
use Rattle.clutch_bucket.proofs.Apart.{stays_from}
use Rattle.clutch_bucket.proofs.Clutches.{own_clutch, parts_of_clutch}
use Rattle.clutch_bucket.proofs.Lanes.{groups_changed}
use Rattle.clutch_bucket.proofs.Leaving.{AnyQueue, Leaves, left_follows, left_lacks, left_lane, left_stands, left_turn, left_units, remove_law, removal_is, shrunk}
use Rattle.clutch_bucket.proofs.Turns.{only_turns}

-- the lane after its queue lost a slot, in the words of a changed lane
pub left_is : (old new : Arena Item) (before later : Lane) (g slot : ℕ) → (takes : TakesSlot old new before later g slot) → later ≡ left_lane before g takes.queue later.len
left_is old new before later g slot takes =
    ap (λ (l : Lane). record l { len = later.len }) takes.same
    ∙ ap (λ (us : List Spans). record before { queues = set before.queues g takes.queue; spans = us; len = later.len }) (sym (set-get_or before.spans g no_spans))

-- the group that has the slot is that of its item
pub group_of_slot : (arena : Arena Item) (at : Lane) (slot g : ℕ) (item : Item) → LaneStands arena at → value_at arena slot ≡ Some item → (has : HasLaneSlot arena at slot) → g ≡ item.thread.group → has.0 ≡ g
group_of_slot arena at slot g item stands stored has is =
    sym (is ∙ (parts_of_clutch (unit_of at has.0) (entry_of item) ((stands.units.each has.0 has.1.0).each slot item has.1.1 stored).within).1.0)

pub left_units_are : (old new : Arena Item) (before later : Lane) (g slot : ℕ) (takes : TakesSlot old new before later g slot) → Leaves old new before g slot takes.queue → UnitsStand new later
left_units_are old new before later g slot takes e = subst (UnitsStand new) (sym (left_is old new before later g slot takes)) (left_units old new before g slot takes.queue later.len e takes.len)

module _ (old new : Arena Item) (before later last : Lane) (g slot : ℕ) (picked : Bool) (turn : ℕ) (takes : TakesSlot old new before later g slot) (e : Leaves old new before g slot takes.queue) (renewed : last ≡ with_renewed new picked turn g later) where
  abbrev mid : Lane
  mid = left_lane before g takes.queue later.len

  last_is : last ≡ with_renewed new picked turn g mid
  last_is = renewed ∙ ap (with_renewed new picked turn g) (left_is old new before later g slot takes)

  pub remove_stands : LaneStands new last
  remove_stands = subst (LaneStands new) (sym last_is) (left_stands old new before g slot takes.queue later.len e takes.len picked turn)

  pub remove_lacks : LacksLaneSlot new last slot
  remove_lacks = subst (λ (l : Lane). LacksLaneSlot new l slot) (sym last_is) (left_lacks old new before g slot takes.queue later.len e)

  pub remove_len : last.len + 1 ≡ before.len
  remove_len = ap (λ (l : Lane). l.len + 1) last_is ∙ takes.len

  pub remove_groups : SameGroups before last
  remove_groups = record {
    bucket = ap (λ (l : Lane). l.bucket) last_is;
    groups = ap groups last_is ∙ groups_changed before g takes.queue (spans_at before g) later.len;
  }

  pub remove_arena : OnlyQueuesChange old new
  remove_arena = record {
    values = e.removes.takes.kept.values;
    second = λ s. e.removes.takes.kept.other_set 1 s (λ same. omega (arith, same));
    spare = e.removes.takes.kept.spare;
  }

  pub remove_queues : OtherQueuesStay old new before last
  remove_queues = λ other there apart.
      let kept = stays_from AnyQueue old new before g takes.queue (spans_at before g) later.len e.held e.stands.units e.within (remove_law old new before g slot takes.queue later.len e) (λ h inside. tt) other tt there apart in
      subst (λ (l : Lane). StaysFrom old new l other) (sym last_is) (record { stays = kept.stays; apart = kept.apart })

  pub remove_follows : (s : Flat) (item : Item) (after : ℕ) → value_at old slot ≡ Some item → turn ≡ s.next_turn → after ≡ renewed_turn picked turn (rank_at later g) (top_at new later g) → ArrivalsRise s.entries → Follows old before s
      → Follows new last (without_unit_entry picked item s) × (after ≡ (without_unit_entry picked item s).next_turn)
  remove_follows s item after stored same rises rise f =
      let k = unit_of before g in
      let x = shrunk item.arrival s in
      let flat = turned picked (rank_at before g) (top_at new mid g) k x in
      let own = own_clutch k (entry_of item) ((e.stands.units.each g e.within).each slot item e.has stored).within in
      let is : without_unit_entry picked item s ≡ flat = removal_is picked item s k own ∙ left_turn old new before g slot takes.queue later.len takes.len item stored e s f rise picked in
      let follows = subst (λ (t : ℕ). Follows new (with_renewed new picked t g mid) flat) (sym same) (left_follows old new before g slot takes.queue later.len takes.len item stored e s f rise picked) in (
        subst (λ (y : Flat). Follows new last y) (sym is) (subst (λ (l : Lane). Follows new l flat) (sym last_is) follows),
        rises ∙ (ap (λ (l : Lane). renewed_turn picked turn (rank_at l g) (top_at new l g)) (left_is old new before later g slot takes)
            ∙ (ap (λ (t : ℕ). renewed_turn picked t (rank_at before g) (top_at new mid g)) same
            ∙ (sym (only_turns picked (rank_at before g) (top_at new mid g) k x).next ∙ ap (λ (y : Flat). y.next_turn) (sym is)))),
      )
