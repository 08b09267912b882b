-- Which lanes have entries after each step.
use Rattle.std.proofs.Common.{◌≡◌, ℕ, Bool, true, false, ◌||◌, Contains, List, [], ◌∷◌, map, Option, Some, None, option_and_then, refl, sym, ap, ◌∙◌}
use Rattle.std.specs.List.{list_any}
use Rattle.std.proofs.lemmas.Bool.{false≢true}
use Rattle.std.proofs.lemmas.Option.{none-some}
use Rattle.std.proofs.lemmas.List.Folds.{list_any-append}
use Rattle.sched_base.specs.declared.Facts.{Facts}
use Rattle.bucket_tables.specs.declared.Lane.{Lane}
use Rattle.flat_policy.specs.declared.setup.Times.{Times}
use Rattle.flat_policy.specs.Policy.Moves.{entered, goes_before, new_entry, pick, pick_in, removed, selected, selected_by, settled_thread, without}
use Rattle.flat_policy.specs.Policy.Queue.{Flat, Queued, has_entries, in_lane, lane_of, same_lane}
use Rattle.flat_policy.specs.Policy.Refresh.{refreshed, repriced}
use Rattle.flat_policy.specs.Policy.WellFormed.{ArrivalsRise, WellFormed}
use Rattle.flat_policy.specs.Policy.Windows.{Choice, chosen, expired}
use Rattle.flat_policy.proofs.After.{entered_entries, removed_entries, selected_by_entries}
use Rattle.flat_policy.proofs.Choice.{is_unpreceded}
use Rattle.flat_policy.proofs.Leaves.{same_bool, stays, stood}
use Rattle.flat_policy.proofs.Members.{any_from_member, member_from_any}
use Rattle.flat_policy.proofs.Refreshed.{refreshed_entries}
use Rattle.flat_policy.proofs.Refreshes.{repriced_facts}
use Rattle.windows.specs.Steps.{LanesWithEntries}

or_last : (a b : Bool) → (a || (b || false)) ≡ (a || b)
or_last true b = refl
or_last false true = refl
or_last false false = refl

pub has_entered : (ts : List Times) (t : Facts) (head : Bool) (now : ℕ) (s : Flat) (l : Lane) → has_entries (entered ts t head now s) l ≡ (has_entries s l || same_lane (lane_of t) l)
has_entered ts t head now s l =
    ap (list_any (in_lane l)) (entered_entries ts t head now s)
    ∙ list_any-append (in_lane l) s.entries (new_entry s (settled_thread now t) head ∷ [])
    ∙ or_last (has_entries s l) (same_lane (lane_of t) l)

-- an entry less leaves the lanes that it did not stand in as they were
pub has_without : (es : List Queued) → ArrivalsRise es → (e : Queued) → Contains es e → (l : Lane) → in_lane l e ≡ false → list_any (in_lane l) (without e.arrival es) ≡ list_any (in_lane l) es
has_without es rise e c l out =
    same_bool (list_any (in_lane l) (without e.arrival es)) (list_any (in_lane l) es)
    (λ t. let m = member_from_any (in_lane l) (without e.arrival es) t in
    any_from_member (in_lane l) es m.0 (stood es e.arrival m.0 m.1) m.2)
    (λ t. let m = member_from_any (in_lane l) es t in
    any_from_member (in_lane l) (without e.arrival es) m.0
    (stays es rise e m.0 c m.1 (λ is. false≢true (sym out ∙ (ap (in_lane l) (sym is) ∙ m.2)))) m.2)

-- a refresh leaves each entry in its lane
repriced_lane : (s : Flat) (now : ℕ) (l : Lane) (e : Queued) → in_lane l (repriced s now e) ≡ in_lane l e
repriced_lane s now l e = repriced_facts s now e (λ (f : Queued). in_lane l f ≡ in_lane l e) refl (λ t pri is. ap (λ (u : Facts). same_lane (lane_of u) l) is)

any_map : {X : Type 0} (p : X → Bool) (f : X → X) → ((x : X) → p (f x) ≡ p x) → (xs : List X) → list_any p (map f xs) ≡ list_any p xs
any_map p f same [] = refl
any_map p f same (x ∷ xs) = ap (λ b. b || list_any p (map f xs)) (same x) ∙ ap (λ b. p x || b) (any_map p f same xs)

pub has_refreshed : (groups : ℕ) (s : Flat) (now : ℕ) (l : Lane) → has_entries (refreshed groups s now) l ≡ has_entries s l
has_refreshed groups s now l =
    ap (list_any (in_lane l)) (refreshed_entries groups s now) ∙ any_map (in_lane l) (repriced s now) (repriced_lane s now l) s.entries

pub has_removed : (s : Flat) → ArrivalsRise s.entries → (e : Queued) (now : ℕ) (l : Lane) → Contains s.entries e → in_lane l e ≡ false → has_entries (removed e now s) l ≡ has_entries s l
has_removed s rise e now l c out = ap (list_any (in_lane l)) (removed_entries e now s) ∙ has_without s.entries rise e c l out

pub has_selected : (ts : List Times) (now : ℕ) (s : Flat) → ArrivalsRise s.entries → (e : Queued) (l : Lane) → pick ts now s ≡ Some e → in_lane l e ≡ false
    → has_entries (selected ts now s) l ≡ has_entries s l
has_selected ts now s rise e l picked out = by_choice (chosen ts (expired ts s now)) picked
  where
    by_choice : (o : Option Choice) → option_and_then (λ (c : Choice). pick_in (expired ts s now) c.lane) o ≡ Some e
        → has_entries (selected_by ts now (expired ts s now) o (option_and_then (λ (c : Choice). pick_in (expired ts s now) c.lane) o)) l ≡ has_entries s l
    by_choice None p = absurd (none-some e p)
    by_choice (Some c) p =
        let among = (is_unpreceded (goes_before (expired ts s now) c.lane) s.entries e p).member in
        ap (λ o. has_entries (selected_by ts now (expired ts s now) (Some c) o) l) p
        ∙ ap (list_any (in_lane l)) (selected_by_entries ts now (expired ts s now) (Some c) (Some e) (λ none. absurd (none-some c (sym none))))
        ∙ has_without s.entries rise e among l out

pub entries_follow : (groups : ℕ) (s : Flat) → WellFormed groups s → LanesWithEntries s
entries_follow groups s well = record {
  entering = λ ts t head now l. has_entered ts t head now s l;
  leaving = λ e now l c out. has_removed s well.arrivals_rise e now l c out;
  selecting = λ ts now e l picked out. has_selected ts now s well.arrivals_rise e l picked out;
  refreshing = λ groups now l. has_refreshed groups s now l;
}
