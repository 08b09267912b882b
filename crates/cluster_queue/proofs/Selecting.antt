-- The pick, which is the first of the chosen lane, and the queue once it left.
use Rattle.std.proofs.Common.{◌≡◌, ℕ, ◌<◌, ◌+◌, Bool, true, false, cond, List, [], ◌∷◌, length, Option, Some, None, is_some, option_and_then, refl, sym, ap, ap₂, ◌∙◌, arith}
use Rattle.std.proofs.lemmas.Bool.{false≢true}
use Rattle.bucket_tables.specs.declared.Lane.{Lane}
use Rattle.flat_policy.specs.declared.lanes.Kind.{Kind}
use Rattle.flat_policy.specs.declared.setup.Times.{Times}
use Rattle.flat_policy.specs.Laws.Choice.{has_member}
use Rattle.flat_policy.specs.Laws.Picks.{PickIsOne}
use Rattle.flat_policy.specs.Laws.Units.{PickStandsInLane}
use Rattle.flat_policy.specs.Policy.Clusters.{slots_without}
use Rattle.flat_policy.specs.Policy.Moves.{clutch_has_entries, pick, pick_in, removed_by_selection, selected, selected_by, with_next_turn, without_entry, without_turn}
use Rattle.flat_policy.specs.Policy.Precedence.{precedes_in_lane}
use Rattle.flat_policy.specs.Policy.Queue.{Flat, Queued, clutch_of, lane_entries}
use Rattle.flat_policy.specs.Policy.Unpreceded.{unpreceded}
use Rattle.flat_policy.specs.Policy.Windows.{Choice, chosen, expired, windows_after}
use Rattle.cluster_queue.specs.Queues.{IsChosen, IsQueue, StaysWith, TakesOut, flat_of, slots_of}
use Rattle.cluster_queue.specs.declared.queue.Queue.{Queue}
use Rattle.cluster_queue.proofs.Picking.{some_member}
use Rattle.cluster_queue.proofs.Windowed.{IsExpired, nested_at}

no_member : {X : Type 0} (xs : List X) → length xs ≡ 0 → has_member xs ≡ false
no_member [] h = refl
no_member (x ∷ xs) h = absurd (omega (arith, h))

none_from : {X : Type 0} (o : Option X) → is_some o ≡ false → o ≡ None
none_from None h = refl
none_from (Some x) h = absurd (false≢true (sym h))

-- there is a pick exactly where entries are counted
pub picks_some : PickIsOne → (q : Queue) (now : ℕ) → IsQueue q → 0 < q.len → is_some (pick q.windows.times now (flat_of q)) ≡ true
picks_some one q now k some = (one q.groups q.windows.times now (flat_of q) k.formed).there ∙ some_member (flat_of q).entries (omega (arith, some, k.nested.stored.len))

pub picks_none : PickIsOne → (q : Queue) (now : ℕ) → IsQueue q → q.len ≡ 0 → pick q.windows.times now (flat_of q) ≡ None
picks_none one q now k none = none_from (pick q.windows.times now (flat_of q)) ((one q.groups q.windows.times now (flat_of q) k.formed).there ∙ no_member (flat_of q).entries (sym k.nested.stored.len ∙ none))

-- which entry of a lane goes first doesn't go by windows
first_alike : (ts : List Times) (now : ℕ) (kind : Option Kind) (at l : Lane) (x : Flat)
    → unpreceded (precedes_in_lane (windows_after ts now kind at x)) (lane_entries (windows_after ts now kind at x) l) ≡ unpreceded (precedes_in_lane x) (lane_entries x l)
first_alike ts now None at l x = refl
first_alike ts now (Some kind) at l x = refl

through : (f : Flat → Flat) (b : Bool) (x y : Flat) → f (cond b x y) ≡ cond b (f x) (f y)
through f true x y = refl
through f false x y = refl

-- an entry leaves alike before and after the windows of the choice change
leaves_alike : (ts : List Times) (now : ℕ) (kind : Option Kind) (at : Lane) (e : Queued) (x : Flat)
    → removed_by_selection e now (windows_after ts now kind at x) ≡ windows_after ts now kind at (removed_by_selection e now x)
leaves_alike ts now None at e x = refl
leaves_alike ts now (Some kind) at e x =
    let f : Flat → Flat = windows_after ts now (Some kind) at in
    let y = without_entry e now x in
    let k = clutch_of e.facts in
    sym (through f (is_some e.facts.bound) y (cond (clutch_has_entries y k) (with_next_turn k y) (without_turn k y))
    ∙ ap (λ z. cond (is_some e.facts.bound) (f y) z) (through f (clutch_has_entries y k) (with_next_turn k y) (without_turn k y)))

-- where nothing is picked nothing but the last moment changes
none_selected : (ts : List Times) (now : ℕ) (x : Flat) (o : Option Choice) → selected_by ts now x o None ≡ record x { last = now }
none_selected ts now x None = refl
none_selected ts now x (Some c) = refl

pub stays_expired : (q x : Queue) (now : ℕ) → IsExpired q x now → pick q.windows.times now (flat_of q) ≡ None → StaysWith q (record x { last = now }) (selected q.windows.times now (flat_of q))
stays_expired q x now e none =
    let ts = q.windows.times in
    let y = expired ts (flat_of q) now in
    record {
      flat = ap (λ (z : Flat). record z { last = now }) e.flat ∙ sym (ap (λ o. selected_by ts now y (chosen ts y) o) none ∙ none_selected ts now y (chosen ts y));
      slots = ap slots_of e.same;
      spare = ap (λ (m : Queue). m.spare) e.same;
      nested = nested_at x now e.queue.nested;
      setting = record { groups = ap (λ (m : Queue). m.groups) e.same; times = e.times };
    }

-- windows expired, and then a lane was chosen
module _ (q x n : Queue) (now : ℕ) (at : Lane) (e : IsExpired q x now) (c : IsChosen x n now at) where
  choice_is : chosen q.windows.times (flat_of x) ≡ Some c.choice
  choice_is = ap (λ (ts : List Times). chosen ts (flat_of x)) (sym e.times) ∙ c.chosen

  flat_is : flat_of n ≡ windows_after q.windows.times now c.choice.kind c.choice.lane (flat_of x)
  flat_is = c.flat ∙ ap (λ (ts : List Times). windows_after ts now c.choice.kind c.choice.lane (flat_of x)) e.times

  -- the pick is the first of the lane
  pub pick_is_first : PickStandsInLane → unpreceded (precedes_in_lane (flat_of n)) (lane_entries (flat_of n) at) ≡ pick q.windows.times now (flat_of q)
  pick_is_first law =
      let ts = q.windows.times in
      sym (ap (λ y. option_and_then (λ (d : Choice). pick_in y d.lane) (chosen ts y)) (sym e.flat)
      ∙ (ap (option_and_then (λ (d : Choice). pick_in (flat_of x) d.lane)) choice_is
      ∙ (ap (pick_in (flat_of x)) c.lane
      ∙ (law x.groups (flat_of x) at e.queue.formed c.filled
      ∙ (sym (first_alike ts now c.choice.kind c.choice.lane at (flat_of x))
      ∙ ap (λ y. unpreceded (precedes_in_lane y) (lane_entries y at)) (sym flat_is))))))

  -- the queue after it
  selected_is : (d : Queued) → pick q.windows.times now (flat_of q) ≡ Some d → removed_by_selection d now (flat_of n) ≡ selected q.windows.times now (flat_of q)
  selected_is d picked =
      let ts = q.windows.times in
      ap (removed_by_selection d now) flat_is
      ∙ (leaves_alike ts now c.choice.kind c.choice.lane d (flat_of x)
      ∙ sym (ap₂ (λ y o. selected_by ts now y (chosen ts y) o) (sym e.flat) picked
      ∙ ap (λ o. selected_by ts now (flat_of x) o (Some d)) choice_is))

  unchanged : {Y : Type 0} (f : Queue → Y) → ((m : Queue) → f (record m { windows = x.windows }) ≡ f m) → ((m : Queue) → f (record m { windows = n.windows }) ≡ f m) → f n ≡ f q
  unchanged f expires chooses = ap f c.same ∙ (chooses x ∙ (ap f e.same ∙ expires q))

  pub selects : (left : Queue) (d : Queued) → pick q.windows.times now (flat_of q) ≡ Some d → TakesOut n left d (removed_by_selection d now (flat_of n)) → TakesOut q left d (selected q.windows.times now (flat_of q))
  selects left d picked t = record {
    flat = t.flat ∙ selected_is d picked;
    slots = t.slots ∙ unchanged (λ (m : Queue). slots_without d.arrival (flat_of m).entries (slots_of m)) (λ m. refl) (λ m. refl);
    spare = t.spare ∙ unchanged (λ (m : Queue). m.spare + 1) (λ m. refl) (λ m. refl);
    nested = t.nested;
    setting = record {
      groups = t.setting.groups ∙ unchanged (λ (m : Queue). m.groups) (λ m. refl) (λ m. refl);
      times = t.setting.times ∙ (c.times ∙ e.times);
    };
  }
