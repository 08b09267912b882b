-- A lane that an entry entered.
use Rattle.std.proofs.Common.{◌≡◌, ◌≢◌, ℕ, ◌+◌, ◌<◌, Bool, true, false, Contains, List, [], ◌∷◌, ◌++◌, Option, Some, filter, length, length-append, set, refl, sym, ap, ◌∙◌, subst, arith}
use Rattle.std.proofs.lemmas.Bool.{cond-true, cond-false, false_from_ne_true}
use Rattle.std.proofs.lemmas.List.{append-nil, get_or-set_other, get_or-set_same, length-set}
use Rattle.std.proofs.lemmas.List.Elements.{Contains-push, filter-append}
use Rattle.flat_policy.specs.Policy.Moves.{turn_on_entering}
use Rattle.flat_policy.specs.Policy.Queue.{Clutch, Flat, Queued, clutch_entries, clutch_of, clutch_place, in_clutch, in_lane, lane, lane_entries, no_spans, spans_of}
use Rattle.flat_policy.specs.Policy.Usage.{Spans, with_spans}
use Rattle.link_arena.specs.Arena.{Arena, IsLive, value_at}
use Rattle.pairing_heap.specs.Laws.{FirstIsLeast, HeldAreLive}
use Rattle.thread_queue.specs.Item.{entry_of, key_of_item, key_precedes}
use Rattle.thread_queue.specs.Laws.{PushedStaysApart, StaysIn}
use Rattle.thread_queue.specs.Queue.{LacksSlot, Pushes, Queue}
use Rattle.thread_queue.specs.declared.item.Item.{Item}
use Rattle.clutch_bucket.specs.Lane.{Follows, IsNew, LacksLaneSlot, Lane, LaneStands, UnitItem, UnitsFollow, UnitsStand, groups, queue_at, rank_at, rank_pri, spans_at, top_at, unit_of, with_unit_entry}
use Rattle.clutch_bucket.specs.Renewing.{turned, with_renewed}
use Rattle.clutch_bucket.proofs.Apart.{ApartStay, other_top, others_stay}
use Rattle.clutch_bucket.proofs.Clutches.{lane_of_clutch, parts_of_clutch, place_within, places_differ}
use Rattle.clutch_bucket.proofs.Lanes.{changed_at, follow_changed, follows_renewed, groups_changed, lane_renewed, units_changed}
use Rattle.clutch_bucket.proofs.Members.{filter_member, some_passes}
use Rattle.clutch_bucket.proofs.Tops.{unit_top}
use Rattle.clutch_bucket.proofs.Turns.{entering}
use Rattle.clutch_bucket.proofs.Units.{follows_pushed, follows_still, unit_pushed, unit_stays}

-- an item comes into the queue of its group, which becomes this one
pub record Enters (old new : Arena Item) (before : Lane) (g slot : ℕ) (item : Item) (queue : Queue) : Type 0 where
  pub held : HeldAreLive 0 key_of_item key_precedes
  pub first : FirstIsLeast 0 key_of_item key_precedes
  pub law : PushedStaysApart
  pub stands : LaneStands old before
  pub within : g < groups before
  pub live : IsLive old slot
  pub stored : value_at old slot ≡ Some item
  pub fits : UnitItem (unit_of before g) item
  pub lacks : LacksLaneSlot old before slot
  pub pushes : Pushes old new (queue_at before g) queue slot

-- the lane then, with these spans of the group
abbrev pub entered_lane : Lane → ℕ → Queue → Spans → Lane
entered_lane before g queue used = changed_at before g queue used (before.len + 1)

module _ (old new : Arena Item) (before : Lane) (g slot : ℕ) (item : Item) (queue : Queue) (used : Spans) (e : Enters old new before g slot item queue) where
  pub push_law : ApartStay (λ (other : Queue). LacksSlot old other slot) old new (queue_at before g) queue
  push_law = λ other lacks there apart. e.law old new (queue_at before g) queue slot e.live (e.stands.units.each g e.within).stands e.pushes other there apart lacks

  pub entered_others : (h : ℕ) → h < groups before → h ≢ g → StaysIn old new (queue_at before h)
  entered_others = others_stay (λ (other : Queue). LacksSlot old other slot) old new before g queue e.held e.stands.units e.within push_law e.lacks

  pub entered_units : UnitsStand new (entered_lane before g queue used)
  entered_units =
      let count = e.pushes.count in
      units_changed old new before g queue used (before.len + 1) e.stands.units e.within
      (unit_pushed old new (unit_of before g) (queue_at before g) queue slot item e.pushes e.stored e.fits (e.stands.units.each g e.within))
      (λ h inside n. unit_stays old new (unit_of before h) (queue_at before h) (entered_others h inside n) (λ s has. e.pushes.adds.kept.values s) (e.stands.units.each h inside))
      (omega (arith, count))

  entered_ranks : (h : ℕ) → h < groups (entered_lane before g queue used) → h ≢ g → rank_pri (rank_at before h) ≡ top_at new (entered_lane before g queue used) h
  entered_ranks h inside n =
      e.stands.ranks h (subst (λ (m : ℕ). h < m) (groups_changed before g queue used (before.len + 1)) inside)
      ∙ sym (other_top old new before g h queue used (before.len + 1) e.pushes.adds.kept.values n)

  pub inside_later : g < groups (entered_lane before g queue used)
  inside_later = subst (λ (m : ℕ). g < m) (sym (groups_changed before g queue used (before.len + 1))) e.within

  pub entered_stands : (picked : Bool) (turn : ℕ) → LaneStands new (with_renewed new picked turn g (entered_lane before g queue used))
  entered_stands picked turn = lane_renewed new picked turn g (entered_lane before g queue used) entered_units inside_later entered_ranks

-- the cluster's queue with an entry and spans, before the turn
abbrev pub grown : Clutch → Queued → Spans → Flat → Flat
grown k entry used s = record s { entries = s.entries ++ entry ∷ []; spans = set s.spans (clutch_place k) used }

-- a test that the entry passes, and one that it fails
grows : (p : Queued → Bool) (es : List Queued) (x : Queued) → p x ≡ true → filter p (es ++ x ∷ []) ≡ filter p es ++ x ∷ []
grows p es x h = filter-append p es (x ∷ []) ∙ ap (λ (ys : List Queued). filter p es ++ ys) (cond-true (p x) (x ∷ []) [] h)

stays_so : (p : Queued → Bool) (es : List Queued) (x : Queued) → p x ≡ false → filter p (es ++ x ∷ []) ≡ filter p es
stays_so p es x h = filter-append p es (x ∷ []) ∙ (ap (λ (ys : List Queued). filter p es ++ ys) (cond-false (p x) (x ∷ []) [] h) ∙ append-nil (filter p es))

pub in_one_clutch : (at : Lane) (g h : ℕ) (x : Queued) → in_clutch (unit_of at g) x ≡ true → h ≢ g → in_clutch (unit_of at h) x ≡ false
in_one_clutch at g h x here n = false_from_ne_true (in_clutch (unit_of at h) x) (λ there. n (sym (parts_of_clutch (unit_of at h) x there).1.0 ∙ (parts_of_clutch (unit_of at g) x here).1.0))

module _ (old new : Arena Item) (before : Lane) (g slot : ℕ) (item : Item) (queue : Queue) (used : Spans) (e : Enters old new before g slot item queue) (s : Flat) (f : Follows old before s) (fresh : IsNew s item) where
  more_len : before.len + 1 ≡ length (lane_entries (grown (unit_of before g) (entry_of item) used s) (lane before.bucket false))
  more_len =
      let p = in_lane (lane before.bucket false) in
      let more = ap (λ (es : List Queued). length es) (grows p s.entries (entry_of item) (lane_of_clutch g before.bucket (entry_of item) e.fits.within)) in
      let sum = length-append (filter p s.entries) (entry_of item ∷ []) in
      let was = f.units.len in
      omega (arith, more, sum, was)

  pub entered_follow : UnitsFollow new (entered_lane before g queue used) (grown (unit_of before g) (entry_of item) used s)
  entered_follow =
      let k = unit_of before g in
      let x = grown k (entry_of item) used s in
      let place = subst (λ (m : ℕ). clutch_place k < m) (sym f.units.span_places) (place_within (groups before) g before.bucket e.within) in
      follow_changed new before g queue used (before.len + 1) x e.stands.units.spans e.within
      (follows_pushed old new (queue_at before g) queue (spans_at before g) used slot item s x k e.pushes e.stored
      (λ y c. fresh y (filter_member (in_clutch k) s.entries y c).0)
      (grows (in_clutch k) s.entries (entry_of item) e.fits.within)
      (get_or-set_same s.spans (clutch_place k) used no_spans place) (f.units.each g e.within))
      (λ h inside n.
      follows_still old new (queue_at before h) (spans_at before h) s x (unit_of before h) (entered_others old new before g slot item queue used e h inside n) (λ t has. e.pushes.adds.kept.values t)
      (stays_so (in_clutch (unit_of before h)) s.entries (entry_of item) (in_one_clutch before g h (entry_of item) e.fits.within n))
      (get_or-set_other s.spans (clutch_place k) (clutch_place (unit_of before h)) used no_spans (places_differ g h before.bucket n))
      (f.units.each h inside))
      more_len
      (length-set s.spans (clutch_place k) used ∙ f.units.span_places)
      f.units.turn_places

  -- the rule of turns, by the key
  pub entered_turn : turn_on_entering s (unit_of before g) (grown (unit_of before g) (entry_of item) used s) ≡ turned false (rank_at before g) (top_at new (entered_lane before g queue used) g) (unit_of before g) (grown (unit_of before g) (entry_of item) used s)
  entered_turn =
      let k = unit_of before g in
      let x = grown k (entry_of item) used s in
      let later = entered_lane before g queue used in
      let was = f.units.each g e.within in
      let is = entered_follow.each g (inside_later old new before g slot item queue used e) in
      let old_top = e.stands.ranks g e.within ∙ unit_top e.held e.first old (queue_at before g) s k (spans_at before g) (e.stands.units.each g e.within).stands was.entries was.spans in
      let new_top = unit_top e.held e.first new (queue_at later g) x k (spans_at later g) ((entered_units old new before g slot item queue used e).each g (inside_later old new before g slot item queue used e)).stands is.entries is.spans in
      let has = some_passes (λ (y : Queued). true) (clutch_entries x k) (entry_of item)
      (subst (λ (es : List Queued). Contains es (entry_of item)) (sym (grows (in_clutch k) s.entries (entry_of item) e.fits.within)) (Contains-push (clutch_entries s k) (entry_of item))) refl in
      entering (rank_at before g) s x k old_top has
      ∙ ap (λ (t : Option ℕ). turned false (rank_at before g) t k x) (sym new_top)

  pub entered_follows : Follows new (with_renewed new false s.next_turn g (entered_lane before g queue used)) (turned false (rank_at before g) (top_at new (entered_lane before g queue used) g) (unit_of before g) (grown (unit_of before g) (entry_of item) used s))
  entered_follows =
      let k = unit_of before g in
      let x = grown k (entry_of item) used s in
      let later = entered_lane before g queue used in
      follows_renewed new false g later x (entered_stands old new before g slot item queue used e false s.next_turn) (e.stands.units.ranks ∙ sym (groups_changed before g queue used (before.len + 1))) entered_follow (inside_later old new before g slot item queue used e)
      (λ h inside. f.turns h (subst (λ (m : ℕ). h < m) (groups_changed before g queue used (before.len + 1)) inside))

-- the queue after the item entered, by the lane's own words
pub entry_is : (ran blocked : ℕ) (item : Item) (s : Flat) (k : Clutch) → clutch_of item.thread ≡ k
    → with_unit_entry ran blocked item s ≡ turn_on_entering s k (grown k (entry_of item) (with_spans (spans_of s k) ran blocked) s)
entry_is ran blocked item s k is = ap (λ (c : Clutch). turn_on_entering s c (grown c (entry_of item) (with_spans (spans_of s c) ran blocked) s)) is
