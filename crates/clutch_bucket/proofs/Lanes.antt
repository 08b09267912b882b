-- A lane whose unit of one group changed, and a lane whose key of one group was renewed.
use Rattle.std.proofs.Common.{◌≡◌, ◌≢◌, ℕ, ◌+◌, ◌*◌, ◌<◌, Bool, false, None, List, filter, length, get_or, set, sym, ap, ◌∙◌, subst, inl, inr, arith}
use Rattle.std.proofs.lemmas.Bool.{cases_eq}
use Rattle.std.proofs.lemmas.List.{get_or-set_other, get_or-set_same, length-set}
use Rattle.std.proofs.lemmas.List.Sums.{sum_by-set}
use Rattle.flat_policy.specs.Policy.Queue.{Flat, Queued, clutch_place, in_clutch, in_lane, lane, lane_entries, no_spans, turn_of}
use Rattle.flat_policy.specs.Policy.Usage.{Spans}
use Rattle.link_arena.specs.Arena.{Arena}
use Rattle.thread_queue.specs.Laws.{AreEntries}
use Rattle.thread_queue.specs.Queue.{Queue}
use Rattle.thread_queue.specs.declared.item.Item.{Item}
use Rattle.clutch_bucket.specs.Lane.{Follows, Lane, LaneStands, UnitFollows, UnitStands, UnitsFollow, UnitsStand, groups, no_queue, queue_at, rank_at, rank_pri, rank_turn, spans_at, top_at, unit_of}
use Rattle.clutch_bucket.specs.Renewing.{renewed_rank, turned, with_renewed}
use Rattle.clutch_bucket.proofs.Clutches.{place_within, places_differ}
use Rattle.clutch_bucket.proofs.Turns.{only_turns, other_turn, renewed_pri, renewed_turn_is}

-- the lane with another queue and other spans at a group, and so many slots
abbrev pub changed_at : Lane → ℕ → Queue → Spans → ℕ → Lane
changed_at before g queue used n = record before { queues = set before.queues g queue; spans = set before.spans g used; len = n }

pub groups_changed : (before : Lane) (g : ℕ) (queue : Queue) (used : Spans) (n : ℕ) → groups (changed_at before g queue used n) ≡ groups before
groups_changed before g queue used n = length-set before.queues g queue

pub queue_here : (before : Lane) (g : ℕ) (queue : Queue) (used : Spans) (n : ℕ) → g < groups before → queue_at (changed_at before g queue used n) g ≡ queue
queue_here before g queue used n within = get_or-set_same before.queues g queue no_queue within

pub queue_other : (before : Lane) (g h : ℕ) (queue : Queue) (used : Spans) (n : ℕ) → h ≢ g → queue_at (changed_at before g queue used n) h ≡ queue_at before h
queue_other before g h queue used n other = get_or-set_other before.queues g h queue no_queue other

pub spans_here : (before : Lane) (g : ℕ) (queue : Queue) (used : Spans) (n : ℕ) → g < length before.spans → spans_at (changed_at before g queue used n) g ≡ used
spans_here before g queue used n within = get_or-set_same before.spans g used no_spans within

pub spans_other : (before : Lane) (g h : ℕ) (queue : Queue) (used : Spans) (n : ℕ) → h ≢ g → spans_at (changed_at before g queue used n) h ≡ spans_at before h
spans_other before g h queue used n other = get_or-set_other before.spans g h used no_spans other

-- the units stand where the changed one does, and the others do
pub units_changed : (old new : Arena Item) (before : Lane) (g : ℕ) (queue : Queue) (used : Spans) (n : ℕ) → UnitsStand old before → g < groups before → UnitStands new (unit_of before g) queue
    → ((h : ℕ) → h < groups before → h ≢ g → UnitStands new (unit_of before h) (queue_at before h)) → n + (queue_at before g).count ≡ before.len + queue.count → UnitsStand new (changed_at before g queue used n)
units_changed old new before g queue used n stands within here others count =
    let later = changed_at before g queue used n in
    let sums = sum_by-set (λ (q : Queue). q.count) before.queues g queue no_queue within in
    let counted = stands.counted in
    record {
      spans = length-set before.spans g used ∙ (stands.spans ∙ sym (groups_changed before g queue used n));
      ranks = stands.ranks ∙ sym (groups_changed before g queue used n);
      each = λ h inside. elim (cases_eq h g) [
        | inl e ↦ subst (λ (i : ℕ). UnitStands new (unit_of before i) (queue_at later i)) (sym e)
            (subst (λ (q : Queue). UnitStands new (unit_of before g) q) (sym (queue_here before g queue used n within)) here)
        | inr other ↦ subst (λ (q : Queue). UnitStands new (unit_of before h) q) (sym (queue_other before g h queue used n other))
            (others h (subst (λ (m : ℕ). h < m) (groups_changed before g queue used n) inside) other)
      ];
      counted = omega (arith, count, counted, sums);
    }

-- and follow where the changed one does, and the others do
pub follow_changed : (new : Arena Item) (before : Lane) (g : ℕ) (queue : Queue) (used : Spans) (n : ℕ) (x : Flat) → length before.spans ≡ groups before → g < groups before → UnitFollows new queue used x (unit_of before g)
    → ((h : ℕ) → h < groups before → h ≢ g → UnitFollows new (queue_at before h) (spans_at before h) x (unit_of before h)) → n ≡ length (lane_entries x (lane before.bucket false))
    → length x.spans ≡ groups before * 6 → length x.turns ≡ groups before * 6 → UnitsFollow new (changed_at before g queue used n) x
follow_changed new before g queue used n x long within here others len spans turns =
    let later = changed_at before g queue used n in
    let wide = subst (λ (m : ℕ). g < m) (sym long) within in
    record {
      each = λ h inside. elim (cases_eq h g) [
        | inl e ↦ subst (λ (i : ℕ). UnitFollows new (queue_at later i) (spans_at later i) x (unit_of before i)) (sym e)
            (subst (λ (q : Queue). UnitFollows new q (spans_at later g) x (unit_of before g)) (sym (queue_here before g queue used n within))
            (subst (λ (u : Spans). UnitFollows new queue u x (unit_of before g)) (sym (spans_here before g queue used n wide)) here))
        | inr other ↦ subst (λ (q : Queue). UnitFollows new q (spans_at later h) x (unit_of before h)) (sym (queue_other before g h queue used n other))
            (subst (λ (u : Spans). UnitFollows new (queue_at before h) u x (unit_of before h)) (sym (spans_other before g h queue used n other))
            (others h (subst (λ (m : ℕ). h < m) (groups_changed before g queue used n) inside) other))
      ];
      len = len;
      span_places = spans ∙ ap (λ (m : ℕ). m * 6) (sym (groups_changed before g queue used n));
      turn_places = turns ∙ ap (λ (m : ℕ). m * 6) (sym (groups_changed before g queue used n));
    }

-- the key at the group, and at others
pub rank_here : (arena : Arena Item) (picked : Bool) (turn g : ℕ) (lane : Lane) → g < length lane.ranks → rank_at (with_renewed arena picked turn g lane) g ≡ renewed_rank picked turn (rank_at lane g) (top_at arena lane g)
rank_here arena picked turn g lane within = get_or-set_same lane.ranks g (renewed_rank picked turn (rank_at lane g) (top_at arena lane g)) None within

pub rank_other : (arena : Arena Item) (picked : Bool) (turn g h : ℕ) (lane : Lane) → h ≢ g → rank_at (with_renewed arena picked turn g lane) h ≡ rank_at lane h
rank_other arena picked turn g h lane other = get_or-set_other lane.ranks g h (renewed_rank picked turn (rank_at lane g) (top_at arena lane g)) None other

-- units stand as before where a key is renewed
pub units_renewed : (arena : Arena Item) (picked : Bool) (turn g : ℕ) (lane : Lane) → UnitsStand arena lane → UnitsStand arena (with_renewed arena picked turn g lane)
units_renewed arena picked turn g lane stands = record {
  spans = stands.spans;
  ranks = length-set lane.ranks g (renewed_rank picked turn (rank_at lane g) (top_at arena lane g)) ∙ stands.ranks;
  each = stands.each;
  counted = stands.counted;
}

pub lane_renewed : (arena : Arena Item) (picked : Bool) (turn g : ℕ) (lane : Lane) → UnitsStand arena lane → g < groups lane → ((h : ℕ) → h < groups lane → h ≢ g → rank_pri (rank_at lane h) ≡ top_at arena lane h)
    → LaneStands arena (with_renewed arena picked turn g lane)
lane_renewed arena picked turn g lane stands within others =
    let later = with_renewed arena picked turn g lane in
    record {
      units = units_renewed arena picked turn g lane stands;
      ranks = λ h inside. elim (cases_eq h g) [
        | inl e ↦ subst (λ (i : ℕ). rank_pri (rank_at later i) ≡ top_at arena lane i) (sym e)
            (ap rank_pri (rank_here arena picked turn g lane (subst (λ (m : ℕ). g < m) (sym stands.ranks) within))
            ∙ renewed_pri picked turn (rank_at lane g) (top_at arena lane g))
        | inr other ↦ ap rank_pri (rank_other arena picked turn g h lane other) ∙ others h inside other
      ];
    }

-- what depends on entries and spans alone follows another queue of the same
pub follow_alike : (arena : Arena Item) (at : Lane) (x y : Flat) → y.entries ≡ x.entries → y.spans ≡ x.spans → length y.turns ≡ length x.turns → UnitsFollow arena at x → UnitsFollow arena at y
follow_alike arena at x y entries spans turns follow = record {
  each = λ h inside. (
      let unit = follow.each h inside in
      record {
        entries = subst (λ (es : List Queued). AreEntries arena (queue_at at h) (filter (in_clutch (unit_of at h)) es)) (sym entries) unit.entries;
        count = unit.count ∙ ap (λ (es : List Queued). length (filter (in_clutch (unit_of at h)) es)) (sym entries);
        apart = unit.apart;
        spans = ap (λ (us : List Spans). get_or us (clutch_place (unit_of at h)) no_spans) spans ∙ unit.spans;
      });
  len = follow.len ∙ ap (λ (es : List Queued). length (filter (in_lane (lane at.bucket false)) es)) (sym entries);
  span_places = ap (λ (us : List Spans). length us) spans ∙ follow.span_places;
  turn_places = turns ∙ follow.turn_places;
}

-- the turns of a lane whose keys follow but for one group, once that is renewed
pub turns_renewed : (arena : Arena Item) (picked : Bool) (g : ℕ) (at : Lane) (x : Flat) → length at.ranks ≡ groups at → length x.turns ≡ groups at * 6 → g < groups at → turn_of x (unit_of at g) ≡ rank_turn (rank_at at g)
    → (h : ℕ) → (h ≢ g → turn_of x (unit_of at h) ≡ rank_turn (rank_at at h))
    → turn_of (turned picked (rank_at at g) (top_at arena at g) (unit_of at g) x) (unit_of at h) ≡ rank_turn (rank_at (with_renewed arena picked x.next_turn g at) h)
turns_renewed arena picked g at x long places within here h others =
    let rank = rank_at at g in
    let top = top_at arena at g in
    let k = unit_of at g in
    let y = turned picked rank top k x in
    let later = with_renewed arena picked x.next_turn g at in
    elim (cases_eq h g) [
      | inl e ↦ subst (λ (i : ℕ). turn_of y (unit_of at i) ≡ rank_turn (rank_at later i)) (sym e)
          (renewed_turn_is picked rank top k x (subst (λ (m : ℕ). clutch_place k < m) (sym places) (place_within (groups at) g at.bucket within)) here
          ∙ ap rank_turn (sym (rank_here arena picked x.next_turn g at (subst (λ (m : ℕ). g < m) (sym long) within))))
      | inr other ↦ other_turn picked rank top k (unit_of at h) x (places_differ g h at.bucket other)
          ∙ (others other ∙ ap rank_turn (sym (rank_other arena picked x.next_turn g h at other)))
    ]

-- a lane that follows but for the key of one group follows, once that is renewed
pub follows_renewed : (arena : Arena Item) (picked : Bool) (g : ℕ) (at : Lane) (x : Flat) → LaneStands arena (with_renewed arena picked x.next_turn g at) → length at.ranks ≡ groups at → UnitsFollow arena at x → g < groups at
    → ((h : ℕ) → h < groups at → turn_of x (unit_of at h) ≡ rank_turn (rank_at at h))
    → Follows arena (with_renewed arena picked x.next_turn g at) (turned picked (rank_at at g) (top_at arena at g) (unit_of at g) x)
follows_renewed arena picked g at x stands long follow within turns =
    let y = turned picked (rank_at at g) (top_at arena at g) (unit_of at g) x in
    let only = only_turns picked (rank_at at g) (top_at arena at g) (unit_of at g) x in
    let units = follow_alike arena at x y only.entries only.spans only.places follow in
    record {
      stands = stands;
      units = record { each = units.each; len = units.len; span_places = units.span_places; turn_places = units.turn_places };
      turns = λ h inside. turns_renewed arena picked g at x long follow.turn_places within (turns g within) h (λ other. turns h inside);
    }
