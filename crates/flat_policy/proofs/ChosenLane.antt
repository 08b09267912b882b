-- The chosen lane: there is one exactly where there are entries, and it has entries.
use Rattle.std.proofs.Common.{◌≡◌, Bool, true, false, not, ◌||◌, nat_le, cond, Contains, List, [], ◌∷◌, filter, map, Option, Some, None, is_some, option_map, refl, sym, ap, ◌∙◌, subst, inl, inr, arith, nat_lt}
use Rattle.std.specs.List.{list_any}
use Rattle.std.proofs.lemmas.Bool.{cases_Bool, false≢true, and_parts}
use Rattle.std.proofs.lemmas.Option.{same_Some}
use Rattle.sched_base.specs.Bucket.{index}
use Rattle.sched_base.specs.declared.Bucket.TheVariants.{Fg, Ui}
use Rattle.flat_policy.specs.declared.setup.Times.{Times}
use Rattle.flat_policy.specs.Laws.Choice.{has_member}
use Rattle.flat_policy.specs.Laws.Picks.{ChoosesFilled}
use Rattle.flat_policy.specs.Policy.Queue.{Flat, LaneState, Queued, has_entries, in_lane, timeshare_lanes}
use Rattle.flat_policy.specs.Policy.Windows.{Choice, better_ui_lane, bucket_has_entries, bucket_priority, chosen, choice_against, chosen_behind, chosen_by_deadline, chosen_under, due_before, earliest_of, filled_lanes, higher_of, may_pass, passing_of, some_higher, stands_higher, ui_goes_first}
use Rattle.flat_policy.proofs.Choice.{is_unpreceded, there_under_strict}
use Rattle.flat_policy.proofs.Chosen.{better_ui_has, due_strict, filled_entry, filled_from_entry, has_from_member}
use Rattle.flat_policy.proofs.Greatest.{filter_none}
use Rattle.flat_policy.proofs.Members.{contains_here, member_from_any, member_of_filter, none_from_each}

-- whichever lane is chosen against the earliest, it is the earliest or one that may pass it
against_behind : (s : Flat) (b : Bool) (e : LaneState) → has_entries s e.lane ≡ true → has_entries s (chosen_behind b e).lane ≡ true
against_behind s true e h = h
against_behind s false e h = h

against_filled : (ts : List Times) (s : Flat) (e : LaneState) → has_entries s e.lane ≡ true → (o : Option LaneState) → passing_of ts (filled_lanes s) e ≡ o → has_entries s (choice_against o (filled_lanes s) e).lane ≡ true
against_filled ts s e h (Some l) p =
    let among = (is_unpreceded (λ (x y : LaneState). stands_higher x.lane y.lane) (filter (may_pass ts) (higher_of (filled_lanes s) e)) l p).member in
    let higher = (member_of_filter (may_pass ts) (higher_of (filled_lanes s) e) l among).0 in
    filled_entry s l (member_of_filter (λ (m : LaneState). nat_lt (index m.lane.bucket) (index e.lane.bucket)) (filled_lanes s) l higher).0
against_filled ts s e h None p = against_behind s (some_higher (higher_of (filled_lanes s) e)) e h

-- the choice by deadlines, by the earliest lane
by_deadline_filled : (ts : List Times) (s : Flat) (o : Option LaneState) → earliest_of (filled_lanes s) ≡ o → (c : Choice) → option_map (λ (e : LaneState). choice_against (passing_of ts (filled_lanes s) e) (filled_lanes s) e) o ≡ Some c → has_entries s c.lane ≡ true
by_deadline_filled ts s None e c h = absurd (false≢true (ap is_some h))
by_deadline_filled ts s (Some l) e c h =
    let same : choice_against (passing_of ts (filled_lanes s) l) (filled_lanes s) l ≡ c = grind (arith, h) in
    subst (λ (d : Choice). has_entries s d.lane ≡ true) same
    (against_filled ts s l (filled_entry s l (is_unpreceded due_before (filled_lanes s) l e).member) (passing_of ts (filled_lanes s) l) refl)

by_deadline_there : (o : Option LaneState) (f : LaneState → Choice) → is_some (option_map f o) ≡ is_some o
by_deadline_there None f = refl
by_deadline_there (Some l) f = refl

-- a queue without entries has no filled lane
none_filled : (s : Flat) → s.entries ≡ [] → filled_lanes s ≡ []
none_filled s e =
    filter_none (λ (l : LaneState). has_entries s l.lane) s.lanes
    (none_from_each (λ (l : LaneState). has_entries s l.lane) s.lanes (λ l c. ap (list_any (in_lane l.lane)) e))

filled_is : (s : Flat) → map (λ (l : LaneState). l.lane) s.lanes ≡ timeshare_lanes → ui_goes_first s ≡ false → (es : List Queued) → s.entries ≡ es → has_member (filled_lanes s) ≡ has_member es
filled_is s ten h [] e = ap (λ ls. has_member ls) (none_filled s e)
filled_is s ten h (q ∷ qs) e = filled_from_entry s ten h q (subst (λ es. Contains es q) (sym e) (contains_here q qs))

ui_from_first : (s : Flat) → ui_goes_first s ≡ true → bucket_has_entries s Ui ≡ true
ui_from_first s h = (and_parts (bucket_has_entries s Ui) (not (bucket_has_entries s Fg) || nat_le (bucket_priority s Fg) (bucket_priority s Ui)) h).0

same_choice : {c d : Choice} → ◌≡◌ {A = Option Choice} (Some c) (Some d) → c ≡ d
same_choice {c} {d} h = same_Some c d h

-- where a UI lane goes first
first_by_ui : (ts : List Times) (s : Flat) → ui_goes_first s ≡ true → ChoosesFilled ts s
first_by_ui ts s h =
    let is : chosen ts s ≡ Some (record { lane = better_ui_lane s; kind = None }) =
    ap (λ b. chosen_under (cond b (Some (better_ui_lane s)) None) ts s) h in
    let has = better_ui_has s (ui_from_first s h) in
    let m = member_from_any (in_lane (better_ui_lane s)) s.entries has in
    record {
      there = ap is_some is ∙ sym (has_from_member s.entries m.0 m.1);
      filled = λ c e. subst (λ (d : Choice). has_entries s d.lane ≡ true) (same_choice (sym is ∙ e)) has;
    }

first_by_deadline : (ts : List Times) (s : Flat) → map (λ (l : LaneState). l.lane) s.lanes ≡ timeshare_lanes → ui_goes_first s ≡ false → ChoosesFilled ts s
first_by_deadline ts s ten h =
    let is : chosen ts s ≡ chosen_by_deadline ts s = ap (λ b. chosen_under (cond b (Some (better_ui_lane s)) None) ts s) h in
    record {
      there = ap is_some is ∙ (by_deadline_there (earliest_of (filled_lanes s)) (λ (e : LaneState). choice_against (passing_of ts (filled_lanes s) e) (filled_lanes s) e)
          ∙ (there_under_strict due_before (filled_lanes s) (due_strict (filled_lanes s)) ∙ filled_is s ten h s.entries refl));
      filled = λ c e. by_deadline_filled ts s (earliest_of (filled_lanes s)) refl c (sym is ∙ e);
    }

pub chooses_filled : (ts : List Times) (s : Flat) → map (λ (l : LaneState). l.lane) s.lanes ≡ timeshare_lanes → ChoosesFilled ts s
chooses_filled ts s ten =
    elim (cases_Bool (ui_goes_first s)) [
      | inl e ↦ first_by_ui ts s e
      | inr e ↦ first_by_deadline ts s ten e
    ]
