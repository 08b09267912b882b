-- Which slot goes first in a lane, and what the greatest unit priority of a lane is.
use Rattle.std.proofs.Common.{◌≡◌, ◌↔◌, ℕ, ◌<◌, ◌+◌, ◌≤◌, Bool, true, false, List, [], Option, Some, None, length, not, ◌==◌, get_or, option_map, Contains, refl, sym, ap, ◌∙◌, subst, inl, inr, arith}
use Rattle.std.specs.Prelude.{IfSome, IsNone}
use Rattle.std.proofs.lemmas.Bool.{cases_Bool, false≢true}
use Rattle.std.proofs.lemmas.List.{get_or_default, nil_from_length}
use Rattle.sched_base.specs.declared.Bucket.{Bucket}
use Rattle.sched_base.specs.declared.Bucket.TheVariants.{Bg, Df, Fg, Ini, Ui, Ut}
use Rattle.bound_buckets.specs.Tops.{top_of}
use Rattle.bound_buckets.specs.Units.{TopsAreOfUnits}
use Rattle.flat_policy.specs.Laws.Choice.{OrdersMembers}
use Rattle.flat_policy.specs.Laws.Offers.{OffersAreOne}
use Rattle.flat_policy.specs.Laws.Picks.{PrecedesOrders}
use Rattle.flat_policy.specs.Laws.Units.{FilledLaneHasFirstClutch, FirstHasGreatestPriority, FirstOfBoundLane, IsFirstClutch}
use Rattle.flat_policy.specs.Policy.Offer.{foreign_before, offered_foreign}
use Rattle.flat_policy.specs.Policy.Precedence.{clutch_priority, precedes, precedes_in_lane}
use Rattle.flat_policy.specs.Policy.Queue.{Clutch, Flat, Queued, has_entries, in_lane, lane, lane_entries}
use Rattle.flat_policy.specs.Policy.Unpreceded.{unpreceded}
use Rattle.flat_policy.specs.Policy.Usage.{bound_score}
use Rattle.flat_policy.specs.Policy.WellFormed.{WellFormed}
use Rattle.sched_base.specs.Limits.{most_base}
use Rattle.link_arena.specs.Arena.{Arena, value_at}
use Rattle.thread_queue.specs.Item.{entry_of}
use Rattle.thread_queue.specs.Laws.{FirstIsChosen}
use Rattle.thread_queue.specs.Queue.{IsFirst}
use Rattle.thread_queue.specs.declared.item.Item.{Item}
use Rattle.clutch_bucket.specs.Lane.{Follows, IsBest, Lane, groups}
use Rattle.stealing.specs.Foreign.{IsBest as IsBestForeign, OffersEntries, wanting}
use Rattle.cluster_queue.specs.Heaps.{HeapsFollow, LaneFollows, bound_at}
use Rattle.cluster_queue.specs.Moves.{entry_in}
use Rattle.cluster_queue.specs.declared.heaps.Heaps.{Heaps}
use Rattle.cluster_queue.proofs.Passing.{any_passes, none_pass, orders_part, some_pass}
use Rattle.cluster_queue.proofs.Members.{fact_of_member, kept_member}

-- the entry in a slot by its item
entry_there : (arena : Arena Item) (slot : ℕ) (item : Item) → value_at arena slot ≡ Some item → entry_in arena (Some slot) ≡ Some (entry_of item)
entry_there arena slot item is = ap (λ (o : Option Item). option_map entry_of o) is

none_first : (before : Queued → Queued → Bool) (es : List Queued) → es ≡ [] → unpreceded before es ≡ None
none_first before es is = ap (unpreceded before) is

-- an element of a list, read with other defaults
pub read_at : {X : Type 0} (xs : List X) (i j : ℕ) (x d : X) → i ≡ j → i < length xs → get_or xs j d ≡ get_or xs i x
read_at xs i j x d same within = ap (λ k. get_or xs k d) (sym same) ∙ get_or_default xs i d x within

pub from_some : {X : Type 0} (P : X → Type 0) (o : Option X) (x : X) → o ≡ Some x → IfSome o P → P x
from_some P o x is h = subst (λ p. IfSome p P) is h

pub score_small : (b : Bucket) → bound_score b ≤ 16
score_small Ui = omega arith
score_small Fg = omega arith
score_small Ini = omega arith
score_small Df = omega arith
score_small Ut = omega arith
score_small Bg = omega arith

pub unbound_not : (b : Bool) → not b ≡ true → false ≡ b
unbound_not true h = absurd (false≢true h)
unbound_not false h = refl

pub bound_not : (b : Bool) → not b ≡ false → true ≡ b
bound_not true h = refl
bound_not false h = absurd (false≢true (sym h))

module _ (arena : Arena Item) (heaps : Heaps) (count : ℕ) (s : Flat) (formed : WellFormed count s) (f : HeapsFollow arena heaps count s) (b : Bucket) where
  orders_lane : PrecedesOrders → OrdersMembers precedes (lane_entries s (lane b true))
  orders_lane orders = orders_part precedes s.entries (lane_entries s (lane b true)) (λ e c. (kept_member (in_lane (lane b true)) s.entries e c).0) (orders count s formed)

  module _ (chosen : FirstIsChosen) (orders : PrecedesOrders) where
    -- the first slot of a bound lane holds the one that no other precedes
    pub bound_unpreceded : (slot : ℕ) (first : IsFirst arena (bound_at heaps b) slot) → unpreceded precedes (lane_entries s (lane b true)) ≡ Some (entry_of first.item)
    bound_unpreceded slot first = (chosen arena (bound_at heaps b) (lane_entries s (lane b true)) slot (f.bound b).entries first).chosen (orders_lane orders)

    pub bound_first : FirstOfBoundLane → (o : Option ℕ) → IfSome o (λ slot. IsFirst arena (bound_at heaps b) slot) → (IsNone o ↔ ((bound_at heaps b).count ≡ 0)) → entry_in arena o ≡ unpreceded (precedes_in_lane s) (lane_entries s (lane b true))
    bound_first bound None h none = sym (none_first (precedes_in_lane s) (lane_entries s (lane b true)) (nil_from_length (lane_entries s (lane b true)) (sym (f.bound b).count ∙ none.0 refl)))
    bound_first bound (Some slot) first none = entry_there arena slot first.item first.stored ∙ (sym (bound_unpreceded slot first) ∙ sym (bound count s (lane b true) formed refl))

  -- the slot that a lane's units give is that of the lane's first entry
  pub lane_first : (at : Lane) → LaneFollows arena at count b s → (o : Option ℕ)
      → ((t : Flat) → Follows arena at t → WellFormed (groups at) t → IfSome o (λ slot. IsBest arena at t slot))
      → ((t : Flat) → Follows arena at t → WellFormed (groups at) t → IsNone o ↔ (has_entries t (lane at.bucket false) ≡ false))
      → entry_in arena o ≡ unpreceded (precedes_in_lane s) (lane_entries s (lane b false))
  lane_first at l o best none = by_slot o (best s l.follows formed_at) (none s l.follows formed_at)
    where
      formed_at : WellFormed (groups at) s
      formed_at = subst (λ (n : ℕ). WellFormed n s) (sym l.groups) formed

      by_slot : (o : Option ℕ) → IfSome o (λ slot. IsBest arena at s slot) → (IsNone o ↔ (has_entries s (lane at.bucket false) ≡ false)) → entry_in arena o ≡ unpreceded (precedes_in_lane s) (lane_entries s (lane b false))
      by_slot None h none =
          sym (none_first (precedes_in_lane s) (lane_entries s (lane b false)) (none_pass (in_lane (lane b false)) s.entries (ap (λ (d : Bucket). has_entries s (lane d false)) (sym l.bucket) ∙ none.0 refl)))
      by_slot (Some slot) best none =
          entry_there arena slot best.item best.stored
          ∙ (sym best.best ∙ ap (λ (d : Bucket). unpreceded (precedes_in_lane s) (lane_entries s (lane d false))) l.bucket)

  -- the greatest unit priority of a lane, as its units give it
  pub lane_top : TopsAreOfUnits → FilledLaneHasFirstClutch → (at : Lane) → LaneFollows arena at count b s → (o : Option ℕ)
      → ((a : Arena Item) (t : Flat) → Follows a at t → WellFormed (groups at) t → IfSome o (λ top. (k : Clutch) → IsFirstClutch t (lane at.bucket false) k → clutch_priority t k ≡ top))
      → ((a : Arena Item) (t : Flat) → Follows a at t → WellFormed (groups at) t → IsNone o ↔ (has_entries t (lane at.bucket false) ≡ false))
      → o ≡ top_of s (lane b false)
  lane_top tops clutch at l o top none = by_top o (top arena s l.follows formed_at) (none arena s l.follows formed_at)
    where
      formed_at : WellFormed (groups at) s
      formed_at = subst (λ (n : ℕ). WellFormed n s) (sym l.groups) formed

      by_top : (o : Option ℕ) → IfSome o (λ top. (k : Clutch) → IsFirstClutch s (lane at.bucket false) k → clutch_priority s k ≡ top) → (IsNone o ↔ (has_entries s (lane at.bucket false) ≡ false)) → o ≡ top_of s (lane b false)
      by_top None h none = sym ((tops count s formed).empty (lane b false) (ap (λ (d : Bucket). has_entries s (lane d false)) (sym l.bucket) ∙ none.0 refl))
      by_top (Some top) is none =
          elim (cases_Bool (has_entries s (lane b false))) [
            | inl h ↦ (
                let k = clutch count s (lane b false) formed refl h in
                let first : IsFirstClutch s (lane at.bucket false) k.0 = subst (λ (d : Bucket). IsFirstClutch s (lane d false) k.0) (sym l.bucket) k.1 in
                ap (λ (n : ℕ). Some n) (sym (is k.0 first)) ∙ sym ((tops count s formed).unbound b k.0 k.1))
            | inr h ↦ absurd (false≢true (sym (none.1 (ap (λ (d : Bucket). has_entries s (lane d false)) l.bucket ∙ h))))
          ]

  -- a lane without units that have entries has none, nor has one whose bound queue is empty
  pub lane_empty : (at : Lane) → LaneFollows arena at count b s → (o : Option ℕ)
      → ((t : Flat) → Follows arena at t → WellFormed (groups at) t → IsNone o ↔ (has_entries t (lane at.bucket false) ≡ false)) → IsNone o → has_entries s (lane b false) ≡ false
  lane_empty at l o tells none =
      ap (λ (d : Bucket). has_entries s (lane d false)) (sym l.bucket) ∙ (tells s l.follows (subst (λ (n : ℕ). WellFormed n s) (sym l.groups) formed)).0 none

  pub bound_empty : (bound_at heaps b).count ≡ 0 → has_entries s (lane b true) ≡ false
  bound_empty none =
      let is = nil_from_length (lane_entries s (lane b true)) (sym (f.bound b).count ∙ none) in
      sym (any_passes (in_lane (lane b true)) s.entries) ∙ ap (λ (es : List Queued). not (length es == 0)) is

  -- the greatest unit priority of a bound lane, by its first slot
  pub bound_none : TopsAreOfUnits → (bound_at heaps b).count ≡ 0 → None ≡ top_of s (lane b true)
  bound_none tops none = sym ((tops count s formed).empty (lane b true) (bound_empty none))

  pub bound_member : (slot : ℕ) (first : IsFirst arena (bound_at heaps b) slot) → Contains (lane_entries s (lane b true)) (entry_of first.item)
  bound_member slot first = (f.bound b).entries.there slot first.item first.held first.stored

  pub bound_top : TopsAreOfUnits → FirstIsChosen → PrecedesOrders → FirstHasGreatestPriority → (slot : ℕ) (first : IsFirst arena (bound_at heaps b) slot) → Some (first.item.pri + bound_score b) ≡ top_of s (lane b true)
  bound_top tops chosen orders greatest slot first =
      let es = lane_entries s (lane b true) in
      let c = bound_member slot first in
      let filled : has_entries s (lane b true) ≡ true = some_pass (in_lane (lane b true)) s.entries (entry_of first.item) c in
      let most = greatest es (entry_of first.item) (bound_unpreceded chosen orders slot first) in
      ap (λ (n : ℕ). Some (n + bound_score b)) (sym most) ∙ sym ((tops count s formed).bound b filled)

  pub bound_small : (slot : ℕ) (first : IsFirst arena (bound_at heaps b) slot) → first.item.pri ≤ 127
  bound_small slot first =
      fact_of_member (λ (e : Queued). e.pri ≤ most_base) s.entries (entry_of first.item) formed.priorities_within
      (kept_member (in_lane (lane b true)) s.entries (entry_of first.item) (bound_member slot first)).0

-- the first of those that prefer another cluster
pub foreign_first : OffersAreOne → (arena : Arena Item) (heaps : Heaps) (count : ℕ) (s : Flat) → WellFormed count s → HeapsFollow arena heaps count s → (to : ℕ) (o : Option ℕ)
    → ((a : Arena Item) (entries : List Queued) → OffersEntries a heaps.foreign entries → IfSome o (λ slot. IsBestForeign a heaps.foreign to entries slot))
    → ((a : Arena Item) (entries : List Queued) → OffersEntries a heaps.foreign entries → IsNone o ↔ (wanting to entries ≡ []))
    → entry_in arena o ≡ offered_foreign to s
foreign_first offers arena heaps count s formed f to o best none = by_slot o (best arena s.entries f.foreign) (none arena s.entries f.foreign)
  where
    by_slot : (o : Option ℕ) → IfSome o (λ slot. IsBestForeign arena heaps.foreign to s.entries slot) → (IsNone o ↔ (wanting to s.entries ≡ [])) → entry_in arena o ≡ offered_foreign to s
    by_slot None h none = sym (none_first foreign_before (wanting to s.entries) (none.0 refl))
    by_slot (Some slot) best none = entry_there arena slot best.item best.stored ∙ sym (best.chosen (offers count to 0 s formed).foreign)
