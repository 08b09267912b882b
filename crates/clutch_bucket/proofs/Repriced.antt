-- A lane whose units are priced anew follows the cluster's queue priced anew.
use Rattle.std.proofs.Common.{◌≡◌, ◌≢◌, ℕ, ◌+◌, ◌*◌, ◌<◌, true, false, Contains, List, [], ◌∷◌, Some, is_some, length, map, get_or, refl, sym, ap, ap₂, ◌∙◌, subst, inl, inr}
use Rattle.std.specs.List.{list_any}
use Rattle.std.proofs.lemmas.Bool.{cond-false, false≢true}
use Rattle.std.proofs.lemmas.List.{length-map}
use Rattle.sched_base.specs.declared.Bucket.{Bucket}
use Rattle.sched_base.specs.declared.Bucket.TheVariants.{Bg, Df, Fg, Ini, Ui, Ut}
use Rattle.sched_base.specs.declared.Facts.{Facts}
use Rattle.flat_policy.specs.Policy.Precedence.{greatest_pri}
use Rattle.flat_policy.specs.Policy.Queue.{Clutch, Flat, Queued, clutch_entries, clutch_of, clutch_place, no_spans, spans_of, unit_entries}
use Rattle.flat_policy.specs.Policy.Refresh.{is_ui, repriced}
use Rattle.flat_policy.specs.Policy.Usage.{Spans, score}
use Rattle.link_arena.specs.Arena.{Arena, value_at}
use Rattle.pairing_heap.specs.Laws.{FirstIsLeast, HeldAreLive}
use Rattle.thread_queue.specs.Item.{entry_of, key_of_item, key_precedes}
use Rattle.thread_queue.specs.Laws.{AreEntries}
use Rattle.thread_queue.specs.Queue.{HasSlot, Queue, StandsIn}
use Rattle.thread_queue.specs.declared.item.Item.{Item}
use Rattle.clutch_bucket.specs.Lane.{ArrivalsDiffer, Follows, HasLaneSlot, HoldsRepriced, Lane, LanePriced, UnitFollows, UnitItem, UnitStands, UnitsFollow, groups, queue_at, spans_at, unit_of}
use Rattle.clutch_bucket.specs.Renewing.{KeysAreOf}
use Rattle.clutch_bucket.specs.Repricing.{IsPriced, PricedUpTo, pri_at, repriced_item, usage_at}
use Rattle.clutch_bucket.proofs.Clutches.{own_clutch, parts_of_clutch}
use Rattle.clutch_bucket.proofs.Members.{first_member, later_member, member_cases, no_member}
use Rattle.clutch_bucket.proofs.Tops.{item_from, unit_top}
use Rattle.clutch_bucket.proofs.Units.{one_item}

not_ui : (b : Bucket) → b ≢ Ui → is_ui b ≡ false
not_ui Ui n = absurd (n refl)
not_ui Fg n = refl
not_ui Ini n = refl
not_ui Df n = refl
not_ui Ut n = refl
not_ui Bg n = refl

-- an item without pending spans, priced anew among as many entries as its unit has, is its entry priced anew
pub entry_priced : (s : Flat) (count now : ℕ) (item : Item) → item.thread.bucket ≢ Ui → item.thread.pending_ran ≡ 0 → item.thread.pending_blocked ≡ 0 → count ≡ length (unit_entries s item.thread) → entry_of (repriced_item count now item) ≡ repriced s now (entry_of item)
entry_priced s count now item bucket ran blocked is =
    let e : Queued = entry_of item in
    let t : Facts = record item.thread { usage = usage_at now item; seen = now } in
    let n = length (unit_entries s item.thread) in
    let pending : record t { pending_ran = 0; pending_blocked = 0 } ≡ t = ap₂ (λ (a b : ℕ). record t { pending_ran = a; pending_blocked = b }) (sym ran) (sym blocked) in
    ap (λ (f : Facts). record e { facts = f; pri = pri_at count now item }) pending
    ∙ (ap (λ (m : ℕ). record e { facts = t; pri = pri_at m now item }) is
    ∙ sym (cond-false (is_ui item.thread.bucket) e (record e { facts = t; pri = pri_at n now item }) (not_ui item.thread.bucket bucket)))

-- so is an item of a clutch bucket
entry_repriced : (s : Flat) (k : Clutch) (count now : ℕ) (item : Item) → UnitItem k item → k.bucket ≢ Ui → count ≡ length (clutch_entries s k) → entry_of (repriced_item count now item) ≡ repriced s now (entry_of item)
entry_repriced s k count now item fits bucket is =
    let e : Queued = entry_of item in
    let parts = parts_of_clutch k e fits.within in
    entry_priced s count now item (λ same. bucket (sym parts.1.1 ∙ same)) fits.ran fits.blocked
    (is ∙ (ap (λ (c : Clutch). length (clutch_entries s c)) (sym (own_clutch k e fits.within))
    ∙ sym (ap (λ (es : List Queued). length es) (cond-false (is_some item.thread.bound) _ (clutch_entries s (clutch_of item.thread)) parts.0))))

-- the item of each slot of a queue, priced anew, is its entry priced anew
abbrev pub PricedAsEntries : Arena Item → Queue → ℕ → Flat → Type 0
PricedAsEntries arena queue now s =
    (slot : ℕ) (item : Item) → HasSlot arena queue slot → value_at arena slot ≡ Some item → entry_of (repriced_item queue.count now item) ≡ repriced s now (entry_of item)

pub unit_as_entries : (arena : Arena Item) (queue : Queue) (now : ℕ) (used : Spans) (s : Flat) (k : Clutch) → k.bucket ≢ Ui → UnitStands arena k queue → UnitFollows arena queue used s k → PricedAsEntries arena queue now s
unit_as_entries arena queue now used s k bucket stands follows = λ slot item has stored. entry_repriced s k queue.count now item (stands.each slot item has stored) bucket follows.count

pub map_member : {X Y : Type 0} (f : X → Y) (xs : List X) (x : X) → Contains xs x → Contains (map f xs) (f x)
map_member f [] x c = absurd (no_member x c)
map_member f (y ∷ ys) x c =
    elim (member_cases y ys x c) [
      | inl is ↦ subst (λ z. Contains (f y ∷ map f ys) z) (ap f is) (first_member (f y) (map f ys))
      | inr d ↦ later_member (f y) (map f ys) (f x) (map_member f ys x d)
    ]

pub member_of_map : {X Y : Type 0} (f : X → Y) (xs : List X) (y : Y) → Contains (map f xs) y → (x : X) × (Contains xs x × (f x ≡ y))
member_of_map f [] y c = absurd (no_member y c)
member_of_map f (x ∷ xs) y c =
    elim (member_cases (f x) (map f xs) y c) [
      | inl is ↦ (x, (first_member x xs, is))
      | inr d ↦ (let m = member_of_map f xs y d in (m.0, (later_member x xs m.0 m.1.0, m.1.1)))
    ]

-- a queue of some entries, priced anew
module _ (live : HeldAreLive 0 key_of_item key_precedes) (old new : Arena Item) (queue later : Queue) (now : ℕ) (s : Flat) (es : List Queued) (stands : StandsIn old queue) (are : AreEntries old queue es) (as_entries : PricedAsEntries old queue now s) (priced : IsPriced old new queue later now) where
  -- what a slot held
  held_before : (slot : ℕ) (item : Item) → HasSlot new later slot → value_at new slot ≡ Some item → (was : Item) × (HasSlot old queue slot × ((value_at old slot ≡ Some was) × (item ≡ repriced_item queue.count now was)))
  held_before slot item has stored =
      let before : HasSlot old queue slot = subst (λ (n : ℕ). 0 < n) (priced.slots slot) has in
      let valued = item_from (value_at old slot) (live old queue.root slot stands.heap before) in
      (valued.0, (before, (valued.1, one_item new slot item (repriced_item queue.count now valued.0) stored (priced.values slot valued.0 before valued.1))))

  -- its slots hold the entries priced anew
  pub entries_priced : AreEntries new later (map (repriced s now) es)
  entries_priced = record {
    there = λ slot item has stored. (
        let from = held_before slot item has stored in
        let member = map_member (repriced s now) es (entry_of from.0) (are.there slot from.0 from.1.0 from.1.1.0) in
        subst (λ (e : Queued). Contains (map (repriced s now) es) e) (sym (ap entry_of from.1.1.1 ∙ as_entries slot from.0 from.1.0 from.1.1.0)) member);
    back = λ entry c. (
        let m = member_of_map (repriced s now) es entry c in
        let from = are.back m.0 m.1.0 in
        let has : HasSlot new later from.0 = subst (λ (n : ℕ). 0 < n) (sym (priced.slots from.0)) from.2.0 in (
          from.0,
          repriced_item queue.count now from.1,
          (has, priced.values from.0 from.1 from.2.0 from.2.1, as_entries from.0 from.1 from.2.0 from.2.1 ∙ (ap (repriced s now) from.2.2 ∙ m.1.1)),
        ));
  }

  -- and their arrivals differ still
  pub apart_priced : ArrivalsDiffer old queue → ArrivalsDiffer new later
  apart_priced apart = λ slot other item rival has rest here there alike. (
      let a = held_before slot item has here in
      let b = held_before other rival rest there in
      apart slot other a.0 b.0 a.1.0 b.1.0 a.1.1.0 b.1.1.0
      (sym (ap (λ (i : Item). i.arrival) a.1.1.1) ∙ (alike ∙ ap (λ (i : Item). i.arrival) b.1.1.1)))

-- a unit's queue priced anew
module _ (live : HeldAreLive 0 key_of_item key_precedes) (old new : Arena Item) (queue later : Queue) (now : ℕ) (used : Spans) (s p : Flat) (k : Clutch) (bucket : k.bucket ≢ Ui) (stands : UnitStands old k queue) (follows : UnitFollows old queue used s k) (priced : IsPriced old new queue later now) where
  as_unit : PricedAsEntries old queue now s
  as_unit = unit_as_entries old queue now used s k bucket stands follows

  pub unit_repriced : clutch_entries p k ≡ map (repriced s now) (clutch_entries s k) → spans_of p k ≡ spans_of s k → UnitFollows new later used p k
  unit_repriced entries spans = record {
    entries = subst (λ (es : List Queued). AreEntries new later es) (sym entries) (entries_priced live old new queue later now s (clutch_entries s k) stands.stands follows.entries as_unit priced);
    count = priced.count ∙ (follows.count ∙ (sym (length-map (clutch_entries s k) (repriced s now)) ∙ ap (λ (es : List Queued). length es) (sym entries)));
    apart = apart_priced live old new queue later now s (clutch_entries s k) stands.stands follows.entries as_unit priced follows.apart;
    spans = spans ∙ follows.spans;
  }

any_map : (f : Queued → Queued) (es : List Queued) → list_any (λ (e : Queued). true) (map f es) ≡ list_any (λ (e : Queued). true) es
any_map f [] = refl
any_map f (e ∷ es) = refl

none_left : (es : List Queued) → list_any (λ (e : Queued). true) es ≡ false → es ≡ []
none_left [] h = refl
none_left (e ∷ es) h = absurd (false≢true (sym h))

module _ (live : HeldAreLive 0 key_of_item key_precedes) (first : FirstIsLeast 0 key_of_item key_precedes) (old new : Arena Item) (before mid : Lane) (now : ℕ) (s p : Flat) (bucket : before.bucket ≢ Ui) (f : Follows old before s) (r : PricedUpTo old new before mid (groups before) now)
    (priced : LanePriced (groups before) now s p before.bucket) where
  abbrev at : Lane
  at = record before { queues = mid.queues }

  inside : (g : ℕ) → g < groups at → g < groups before
  inside g below = subst (λ (m : ℕ). g < m) r.alike below

  spans_same : (g : ℕ) → spans_of p (unit_of before g) ≡ spans_of s (unit_of before g)
  spans_same g = ap (λ (us : List Spans). get_or us (clutch_place (unit_of before g)) no_spans) priced.spans

  follow_now : UnitsFollow new at p
  follow_now = record {
    each = λ g below. (
        let within = inside g below in
        unit_repriced live old new (queue_at before g) (queue_at at g) now (spans_at before g) s p (unit_of before g) bucket (f.stands.units.each g within) (f.units.each g within) (r.done g within within)
        (priced.entries g within) (spans_same g));
    len = f.units.len ∙ sym priced.len;
    span_places = ap (λ (us : List Spans). length us) priced.spans ∙ (f.units.span_places ∙ ap (λ (m : ℕ). m * 6) (sym r.alike));
    turn_places = priced.turn_places ∙ (f.units.turn_places ∙ ap (λ (m : ℕ). m * 6) (sym r.alike));
  }

  keys_now : KeysAreOf new at s p
  keys_now = record {
    follow = follow_now;
    ranks = λ g below. (
        let within = inside g below in
        let unit = f.units.each g within in
        f.stands.ranks g within ∙ unit_top live first old (queue_at before g) s (unit_of before g) (spans_at before g) (f.stands.units.each g within).stands unit.entries unit.spans);
    turns = λ g below. priced.turns g (inside g below) ∙ f.turns g (inside g below);
    kept = λ g below. ap (λ (es : List Queued). list_any (λ (e : Queued). true) es) (priced.entries g (inside g below)) ∙ any_map (repriced s now) (clutch_entries s (unit_of before g));
    empty = λ g below none. (
        let k = unit_of before g in
        let was = none_left (clutch_entries s k) none in
        let is : clutch_entries p k ≡ [] = priced.entries g (inside g below) ∙ ap (map (repriced s now)) was in
        ap₂ (λ (es : List Queued) (u : Spans). greatest_pri es + score u.used u.blocked k.bucket) (was ∙ sym is) (sym (spans_same g)));
  }

  pub keys_priced : KeysAreOf new mid s p
  keys_priced = subst (λ (l : Lane). KeysAreOf new l s p) (sym r.same) keys_now

-- each slot of the lane holds its entry priced anew
pub holds_repriced : (old new : Arena Item) (before mid : Lane) (now : ℕ) (s : Flat) → before.bucket ≢ Ui → Follows old before s → PricedUpTo old new before mid (groups before) now → (slot : ℕ) (item : Item) → HasLaneSlot old before slot → value_at old slot ≡ Some item
    → HoldsRepriced new s now slot item
holds_repriced old new before mid now s bucket f r slot item has stored =
    let g = has.0 in
    let within = has.1.0 in
    let count = (queue_at before g).count in (
      repriced_item count now item,
      (
        (r.done g within within).values slot item has.1.1 stored,
        unit_as_entries old (queue_at before g) now _ s (unit_of before g) bucket (f.stands.units.each g within) (f.units.each g within) slot item has.1.1 stored,
      ),
    )
