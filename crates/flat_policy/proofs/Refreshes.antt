-- Selecting from a queue and refreshing it keep it well-formed.
use Rattle.std.proofs.Common.{◌≡◌, ℕ, suc, zero, ◌+◌, ◌<◌, ◌≤◌, Contains, List, [], ◌∷◌, fold, flat_map, length, Option, Some, None, refl, ap, ◌∙◌, inl, inr, arith}
use Rattle.std.proofs.lemmas.Bool.{cond_both}
use Rattle.std.proofs.lemmas.List.Elements.{Contains-append_cases}
use Rattle.sched_base.specs.Limits.{most_base}
use Rattle.sched_base.specs.declared.Facts.{Facts}
use Rattle.bucket_tables.specs.declared.Lane.{Lane}
use Rattle.flat_policy.specs.declared.lanes.Kind.{Kind}
use Rattle.flat_policy.specs.declared.setup.Times.{Times}
use Rattle.flat_policy.specs.Policy.Moves.{removed_by_selection, selected_by}
use Rattle.flat_policy.specs.Policy.Queue.{Clutch, Flat, Queued, unit_entries}
use Rattle.flat_policy.specs.Policy.Refresh.{all_clutches, clutches_of, is_ui, repriced}
use Rattle.flat_policy.specs.Policy.Setup.{all_buckets, numbers_below, numbers_from}
use Rattle.flat_policy.specs.Policy.Usage.{decay, priority}
use Rattle.flat_policy.specs.Policy.Windows.{Choice, window_after, windows_after}
use Rattle.flat_policy.proofs.Chosen.{member_of_map}
use Rattle.flat_policy.proofs.KeptLanes.{at_lane_keeps, window_keeps}
use Rattle.flat_policy.proofs.Leaves.{removed_by_selection_fits}
use Rattle.flat_policy.proofs.Members.{contains_cases, contains_here, contains_later, contains_none}
use Rattle.flat_policy.proofs.Parts.{KeepsPlace, PartsOf}
use Rattle.flat_policy.proofs.Usage.{priority_within}

-- the windows of a choice change no more than the lanes' times
windows_fit : (groups : ℕ) (ts : List Times) (now : ℕ) (kind : Option Kind) (at : Lane) (s : Flat) → PartsOf groups s → PartsOf groups (windows_after ts now kind at s)
windows_fit groups ts now None at s p = p
windows_fit groups ts now (Some kind) at s p = record {
  entries_fit = p.entries_fit;
  turns_fit = p.turns_fit;
  turns_stand = p.turns_stand;
  spans_fit = p.spans_fit;
  ten = at_lane_keeps at (window_after ts now kind) (window_keeps ts now kind) s.lanes ∙ p.ten;
}

pub selected_by_fits : (groups : ℕ) (ts : List Times) (now : ℕ) (s : Flat) (o : Option Choice) (picked : Option Queued) → PartsOf groups s → ((e : Queued) → picked ≡ Some e → Contains s.entries e) → PartsOf groups (selected_by ts now s o picked)
selected_by_fits groups ts now s (Some c) (Some e) p among =
    windows_fit groups ts now c.kind c.lane (removed_by_selection e now s) (removed_by_selection_fits groups e now s p (among e refl))
selected_by_fits groups ts now s (Some c) None p among = p
selected_by_fits groups ts now s None picked p among = p

-- what each step of a fold keeps, the fold keeps
pub fold_keeps : {A B : Type 0} (f : B → A → B) (P : B → Type 0) (xs : List A) → ((b : B) (x : A) → Contains xs x → P b → P (f b x)) → (b : B) → P b → P (fold f b xs)
fold_keeps f P [] h b p = p
fold_keeps f P (x ∷ xs) h b p = fold_keeps f P xs (λ c y d. h c y (contains_later x xs y d)) (f b x) (h b x (contains_here x xs) p)

-- the members of a list joined from lists
member_of_flat_map : {X Y : Type 0} (f : X → List Y) (xs : List X) (y : Y) → Contains (flat_map f xs) y → (x : X) × Contains (f x) y
member_of_flat_map f [] y c = absurd (contains_none y c)
member_of_flat_map f (x ∷ xs) y c =
    elim (Contains-append_cases (f x) (flat_map f xs) y c) [
      | inl d ↦ (x, d)
      | inr d ↦ member_of_flat_map f xs y d
    ]

-- the clutch buckets that a refresh passes are those of its groups
pub number_below : (first count n : ℕ) → Contains (numbers_from first count) n → n < first + count
number_below first zero n c = absurd (contains_none n c)
number_below first (suc count) n c =
    elim (contains_cases first (numbers_from (suc first) count) n c) [
      | inl is ↦ omega (arith, is)
      | inr d ↦ omega (arith, number_below (suc first) count n d)
    ]

pub clutch_grouped : (groups : ℕ) (k : Clutch) → Contains (all_clutches groups) k → k.group < groups
clutch_grouped groups k c =
    let m = member_of_flat_map (clutches_of groups) all_buckets k c in
    let n = member_of_map (λ g. record { group = g; bucket = m.0 }) (numbers_below groups) k m.1 in
    let below = number_below 0 groups n.0 n.1 in
    let is : n.0 ≡ k.group = ap (λ (l : Clutch). l.group) n.2 in
    omega (arith, below, is)

-- a new price leaves where an entry stands
pub repriced_facts : (s : Flat) (now : ℕ) (e : Queued) → (P : Queued → Type 0) → P e → ((t : Facts) (pri : ℕ) → t ≡ record e.facts { usage = t.usage; seen = t.seen } → P (record e { facts = t; pri = pri })) → P (repriced s now e)
repriced_facts s now e P same other =
    let t : Facts = record e.facts { usage = decay e.facts.usage e.facts.seen now; seen = now } in
    cond_both (is_ui e.facts.bucket) e (record e { facts = t; pri = priority t.base t.bucket t.usage (length (unit_entries s e.facts)) }) P
    (λ h. same) (λ h. other t (priority t.base t.bucket t.usage (length (unit_entries s e.facts))) refl)

repriced_price : (s : Flat) (now : ℕ) (e : Queued) → e.facts.base ≤ most_base → e.pri ≤ most_base → (repriced s now e).pri ≤ most_base
repriced_price s now e based priced =
    let t : Facts = record e.facts { usage = decay e.facts.usage e.facts.seen now; seen = now } in
    let n : ℕ = length (unit_entries s e.facts) in
    cond_both (is_ui e.facts.bucket) e (record e { facts = t; pri = priority t.base t.bucket t.usage n }) (λ (f : Queued). f.pri ≤ most_base)
    (λ h. priced) (λ h. omega (arith, based, priority_within t.base t.bucket t.usage n))

pub repriced_keeps : (s : Flat) (now : ℕ) → KeepsPlace (repriced s now)
repriced_keeps s now = record {
  arrival = λ e. repriced_facts s now e (λ f. f.arrival ≡ e.arrival) refl (λ t pri h. refl);
  order = λ e. repriced_facts s now e (λ f. f.order ≡ e.order) refl (λ t pri h. refl);
  group = λ e. repriced_facts s now e (λ f. f.facts.group ≡ e.facts.group) refl (λ t pri h. ap (λ (u : Facts). u.group) h);
  base = λ e. repriced_facts s now e (λ f. f.facts.base ≡ e.facts.base) refl (λ t pri h. ap (λ (u : Facts). u.base) h);
  priority = repriced_price s now;
}
