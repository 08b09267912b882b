-- The first unit of a lane is the first clutch bucket, and its first entry the first of the lane.
use Rattle.std.proofs.Common.{◌≡◌, ℕ, ◌<◌, ◌==◌, Bool, true, false, List, Option, Some, None, filter, is_some, refl, sym, ap, ap₂, ◌∙◌, subst, inl, inr, arith}
use Rattle.std.specs.List.{list_any}
use Rattle.std.specs.Prelude.{nat_lt, ◌&&◌, ◌||◌}
use Rattle.std.proofs.lemmas.Bool.{cases_Bool, cond-true, cond-false, false≢true, ltb-false, or_parts}
use Rattle.flat_policy.specs.Laws.Choice.{OrdersMembers}
use Rattle.flat_policy.specs.Laws.Picks.{PrecedesOrders}
use Rattle.flat_policy.specs.Laws.Units.{FirstStandsInClutch, IsFirstClutch}
use Rattle.flat_policy.specs.Policy.Moves.{clutch_has_entries}
use Rattle.flat_policy.specs.Policy.Precedence.{clutch_precedes, clutch_priority, precedes, turn_before}
use Rattle.flat_policy.specs.Policy.Queue.{Clutch, Flat, Queued, clutch_entries, has_entries, in_clutch, in_lane, lane, turn_of}
use Rattle.flat_policy.specs.Policy.WellFormed.{WellFormed}
use Rattle.link_arena.specs.Arena.{Arena}
use Rattle.pairing_heap.specs.Laws.{FirstIsLeast, HeldAreLive}
use Rattle.thread_queue.specs.Item.{key_of_item, key_precedes}
use Rattle.thread_queue.specs.Laws.{FirstIsChosen}
use Rattle.thread_queue.specs.Queue.{IsFirst}
use Rattle.thread_queue.specs.declared.item.Item.{Item}
use Rattle.clutch_bucket.specs.Lane.{Follows, IsBest, Lane, groups, queue_at, rank_at, rank_pri, rank_turn, slot_top, spans_at, top_at, unit_of}
use Rattle.clutch_bucket.specs.Ranks.{IsFirstUnit, unit_key_precedes}
use Rattle.clutch_bucket.specs.Renewing.{top_of}
use Rattle.clutch_bucket.specs.declared.ranks.UnitKey.{UnitKey}
use Rattle.clutch_bucket.proofs.Arrivals.{each_of}
use Rattle.clutch_bucket.proofs.Clutches.{clutch_by, clutch_in_lane, lane_of_clutch, parts_of_clutch}
use Rattle.clutch_bucket.proofs.Members.{filter_member, member_of_filter, none_passes, passing_member, some_passes}
use Rattle.clutch_bucket.proofs.Tops.{unit_top}

-- a filter has members where some pass
filled_from : (s : Flat) (k : Clutch) → clutch_has_entries s k ≡ true → list_any (in_clutch k) s.entries ≡ true
filled_from s k h =
    let m = passing_member (λ (e : Queued). true) (clutch_entries s k) h in
    let member = filter_member (in_clutch k) s.entries m.0 m.1.0 in
    some_passes (in_clutch k) s.entries m.0 member.0 member.1

filled_to : (s : Flat) (k : Clutch) → list_any (in_clutch k) s.entries ≡ true → clutch_has_entries s k ≡ true
filled_to s k h =
    let m = passing_member (in_clutch k) s.entries h in
    some_passes (λ (e : Queued). true) (clutch_entries s k) m.0 (member_of_filter (in_clutch k) s.entries m.0 m.1.0 m.1.1) refl

-- a key is that of a clutch bucket with entries
pub record IsKeyOf (s : Flat) (k : Clutch) (key : UnitKey) : Type 0 where
  pub has : clutch_has_entries s k ≡ true
  pub pri : clutch_priority s k ≡ key.pri
  pub turn : turn_of s k ≡ Some key.turn

key_by : (s : Flat) (k : Clutch) (key : UnitKey) (b : Bool) → clutch_has_entries s k ≡ b → Some key.pri ≡ top_of s k → turn_of s k ≡ Some key.turn → IsKeyOf s k key
key_by s k key true has pri turn =
    let e : ◌≡◌ {A = Option ℕ} (Some key.pri) (Some (clutch_priority s k)) = pri ∙ cond-true (clutch_has_entries s k) (Some (clutch_priority s k)) None has in
    record { has = has; pri = grind (arith, e); turn = turn }
key_by s k key false has pri turn =
    let e : ◌≡◌ {A = Option ℕ} (Some key.pri) None = pri ∙ cond-false (clutch_has_entries s k) (Some (clutch_priority s k)) None has in
    absurd (grind (arith, e))

no_key_by : (s : Flat) (k : Clutch) (b : Bool) → clutch_has_entries s k ≡ b → None ≡ top_of s k → clutch_has_entries s k ≡ false
no_key_by s k true has pri =
    let e : ◌≡◌ {A = Option ℕ} None (Some (clutch_priority s k)) = pri ∙ cond-true (clutch_has_entries s k) (Some (clutch_priority s k)) None has in
    absurd (grind (arith, e))
no_key_by s k false has pri = has

module _ (held : HeldAreLive 0 key_of_item key_precedes) (least : FirstIsLeast 0 key_of_item key_precedes) (arena : Arena Item) (at : Lane) (s : Flat) (f : Follows arena at s) (formed : WellFormed (groups at) s) where
  top_is : (h : ℕ) → h < groups at → rank_pri (rank_at at h) ≡ top_of s (unit_of at h)
  top_is h within =
      let unit = f.units.each h within in
      f.stands.ranks h within ∙ unit_top held least arena (queue_at at h) s (unit_of at h) (spans_at at h) (f.stands.units.each h within).stands unit.entries unit.spans

  pub key_is : (h : ℕ) → h < groups at → (key : UnitKey) → rank_at at h ≡ Some key → IsKeyOf s (unit_of at h) key
  key_is h within key is = key_by s (unit_of at h) key (clutch_has_entries s (unit_of at h)) refl (sym (ap rank_pri is) ∙ top_is h within) (f.turns h within ∙ ap rank_turn is)

  none_is : (h : ℕ) → h < groups at → rank_at at h ≡ None → clutch_has_entries s (unit_of at h) ≡ false
  none_is h within is = no_key_by s (unit_of at h) (clutch_has_entries s (unit_of at h)) refl (sym (ap rank_pri is) ∙ top_is h within)

  -- a clutch bucket of the lane with entries is that of a group
  group_within : (l : Clutch) → list_any (in_clutch l) s.entries ≡ true → l.group < groups at
  group_within l filled =
      let m = passing_member (in_clutch l) s.entries filled in
      subst (λ (g : ℕ). g < groups at) (parts_of_clutch l m.0 m.1.1).1.0 (each_of (λ (e : Queued). e.facts.group < groups at) s.entries formed.groups_below m.0 m.1.0)

  rival_by : (g h : ℕ) (key : UnitKey) (rank : Option UnitKey) → rank_at at h ≡ rank → h < groups at → clutch_has_entries s (unit_of at h) ≡ true → IsKeyOf s (unit_of at g) key
      → ((rival : UnitKey) → rank_at at h ≡ Some rival → unit_key_precedes rival key ≡ false) → clutch_precedes s (unit_of at h) (unit_of at g) ≡ false
  rival_by g h key None is within has mine first = absurd (false≢true (sym (none_is h within is) ∙ has))
  rival_by g h key (Some rival) is within has mine first =
      let theirs = key_is h within rival is in
      ap₂ (λ (p q : ℕ). nat_lt p q || ((q == p) && turn_before (turn_of s (unit_of at h)) (turn_of s (unit_of at g)))) mine.pri theirs.pri
      ∙ (ap₂ (λ (t u : Option ℕ). nat_lt key.pri rival.pri || ((rival.pri == key.pri) && turn_before t u)) theirs.turn mine.turn
      ∙ first rival is)

  pub first_clutch : (g : ℕ) → g < groups at → (first : IsFirstUnit at.ranks g) → IsFirstClutch s (lane at.bucket false) (unit_of at g)
  first_clutch g within first =
      let mine = key_is g within first.key first.stands in
      record {
        bucket = refl;
        filled = filled_from s (unit_of at g) mine.has;
        first = λ l bucket filled. (
            let same = clutch_by l.group l.group l.bucket at.bucket refl bucket in
            let inside = group_within l filled in
            subst (λ (c : Clutch). clutch_precedes s c (unit_of at g) ≡ false) (sym same)
            (rival_by g l.group first.key (rank_at at l.group) refl inside
            (subst (λ (c : Clutch). clutch_has_entries s c ≡ true) same (filled_to s l filled)) mine (first.unpreceded l.group)));
      }

  -- the priority of the first clutch bucket is that in the first key
  pub top_of_first : (g : ℕ) → g < groups at → (first : IsFirstUnit at.ranks g) → (k : Clutch) → IsFirstClutch s (lane at.bucket false) k → clutch_priority s k ≡ first.key.pri
  top_of_first g within first k other =
      let mine = key_is g within first.key first.stands in
      let own = first_clutch g within first in
      let low = ltb-false (clutch_priority s k) (clutch_priority s (unit_of at g))
      (or_parts (nat_lt (clutch_priority s k) (clutch_priority s (unit_of at g))) ((clutch_priority s (unit_of at g) == clutch_priority s k) && turn_before (turn_of s (unit_of at g)) (turn_of s k)) (other.first (unit_of at g) refl own.filled)).0 in
      let high = ltb-false (clutch_priority s (unit_of at g)) (clutch_priority s k)
      (or_parts (nat_lt (clutch_priority s (unit_of at g)) (clutch_priority s k)) ((clutch_priority s k == clutch_priority s (unit_of at g)) && turn_before (turn_of s k) (turn_of s (unit_of at g))) (own.first k other.bucket other.filled)).0 in
      let pri = mine.pri in
      omega (arith, low, high, pri)

  -- where no group has a key the lane has no entries, and where one has it has some
  pub lane_empty : ((h : ℕ) → rank_at at h ≡ None) → has_entries s (lane at.bucket false) ≡ false
  lane_empty none =
      none_passes (in_lane (lane at.bucket false)) s.entries (λ e c.
      elim (cases_Bool (in_lane (lane at.bucket false) e)) [
        | inl there ↦ (
            let within = each_of (λ (x : Queued). x.facts.group < groups at) s.entries formed.groups_below e c in
            let member = clutch_in_lane at.bucket e there in
            absurd (false≢true (sym (none_is e.facts.group within (none e.facts.group)) ∙ filled_to s (unit_of at e.facts.group) (some_passes (in_clutch (unit_of at e.facts.group)) s.entries e c member))))
        | inr away ↦ away
      ])

  pub lane_filled : (g : ℕ) → g < groups at → (key : UnitKey) → rank_at at g ≡ Some key → has_entries s (lane at.bucket false) ≡ true
  lane_filled g within key is =
      let m = passing_member (in_clutch (unit_of at g)) s.entries (filled_from s (unit_of at g) (key_is g within key is).has) in
      some_passes (in_lane (lane at.bucket false)) s.entries m.0 m.1.0 (lane_of_clutch g at.bucket m.0 m.1.1)

-- a strict order of members is one of those that pass a test
orders_fewer : {X : Type 0} (before : X → X → Bool) (p : X → Bool) (xs : List X) → OrdersMembers before xs → OrdersMembers before (filter p xs)
orders_fewer before p xs o = record {
  irreflexive = λ x c. o.irreflexive x (filter_member p xs x c).0;
  transitive = λ x y z c d e. o.transitive x y z (filter_member p xs x c).0 (filter_member p xs y d).0 (filter_member p xs z e).0;
  total = λ x y c d. o.total x y (filter_member p xs x c).0 (filter_member p xs y d).0;
}

-- the first slot of the first unit holds the first entry of the lane
pub best_slot : HeldAreLive 0 key_of_item key_precedes → FirstIsLeast 0 key_of_item key_precedes → FirstIsChosen → FirstStandsInClutch → PrecedesOrders → (arena : Arena Item) (at : Lane) (s : Flat) → Follows arena at s → WellFormed (groups at) s
    → (g slot : ℕ) → g < groups at → IsFirstUnit at.ranks g → IsFirst arena (queue_at at g) slot → IsBest arena at s slot
best_slot held least chosen stands orders arena at s f formed g slot within unit first =
    let k = unit_of at g in
    record {
      held = (g, (within, first.held));
      item = first.item;
      stored = first.stored;
      best = stands (groups at) s (lane at.bucket false) k formed refl (first_clutch held least arena at s f formed g within unit)
          ∙ (chosen arena (queue_at at g) (clutch_entries s k) slot (f.units.each g within).entries first).chosen (orders_fewer precedes (in_clutch k) s.entries (orders (groups at) s formed));
    }

-- a unit with a key has a first slot
pub root_there : (arena : Arena Item) (at : Lane) (g : ℕ) (key : UnitKey) (root : Option ℕ) → rank_at at g ≡ Some key → rank_pri (rank_at at g) ≡ top_at arena at g → root ≡ (queue_at at g).root → is_some root ≡ true
root_there arena at g key None is same root =
    let e : ◌≡◌ {A = Option ℕ} (Some key.pri) None = sym (ap rank_pri is) ∙ (same ∙ ap (slot_top arena at.bucket (spans_at at g)) (sym root)) in
    absurd (grind (arith, e))
root_there arena at g key (Some slot) is same root = refl
