-- What every run keeps of one lane: a fact of its state, and what each event owes to it.
use Rattle.std.proofs.Common.{◌≡◌, ℕ, List, [], ◌∷◌, Option, Some, None, refl, subst}
use Rattle.bucket_tables.specs.declared.Lane.{Lane}
use Rattle.flat_policy.specs.declared.journal.Line.{Line}
use Rattle.flat_policy.specs.Laws.Windows.{IsTimeshare, WindowEvent, lane_state, window_event}
use Rattle.flat_policy.specs.Policy.Queue.{Flat, LaneState, empty_flat, new_lane, same_lane, timeshare_lanes}
use Rattle.flat_policy.specs.Policy.Setup.{SetupParts, cluster_times, group_count}
use Rattle.flat_policy.specs.Runs.Histories.{CRun, CRunFrom, flat_after}
use Rattle.flat_policy.proofs.Chosen.{member_of_map}
use Rattle.flat_policy.proofs.Members.{find_finds}
use Rattle.windows.proofs.Events.{HasTenLanes, lanes_by, ten_by}
use Rattle.windows.proofs.LaneStates.{has_state, state_after, state_by}

-- a rule of one lane: what fits its state, by the first choice of a kind since a renewal; what an event owes; and that first choice after it
pub record Rule : Type 1 where
  pub Fits : Option ℕ → LaneState → Type 0
  pub Keeps : Flat → Flat → Option ℕ → WindowEvent → Type 0
  pub after : Flat → Option ℕ → WindowEvent → Option ℕ

-- each event keeps the rule, and what it leaves fits
abbrev pub EventsKeep : SetupParts → ℕ → Lane → Rule → Type 0
EventsKeep setup c at r =
    (s next : Flat) (first : Option ℕ) (e : WindowEvent) (l : LaneState) → HasTenLanes s → lane_state s at ≡ Some l
    → lane_state next at ≡ Some (state_by (cluster_times setup c) s at e l) → r.Fits first l
    → r.Keeps s next first e × r.Fits (r.after s first e) (state_by (cluster_times setup c) s at e l)

-- what is said of runs holds of no line, and of one more line whose event keeps the rule
pub record SaysOfRuns (setup : SetupParts) (c : ℕ) (r : Rule) (Kept : Option ℕ → Flat → List Line → Type 0) : Type 0 where
  pub none : (first : Option ℕ) (s : Flat) → Kept first s []
  pub more : (first : Option ℕ) (s : Flat) (l : Line) (ls : List Line) → r.Keeps s (flat_after setup c s l) first (window_event s l)
      → Kept (r.after s first (window_event s l)) (flat_after setup c s l) ls → Kept first s (l ∷ ls)

kept_from : (setup : SetupParts) (c : ℕ) (at : Lane) (r : Rule) (Kept : Option ℕ → Flat → List Line → Type 0) → SaysOfRuns setup c r Kept → EventsKeep setup c at r
    → (first : Option ℕ) (s end : Flat) (l : LaneState) (ls : List Line) → HasTenLanes s → lane_state s at ≡ Some l → r.Fits first l
    → CRunFrom setup c s ls end → Kept first s ls
kept_from setup c at r Kept says keep first s end l [] ten is fits run = says.none first s
kept_from setup c at r Kept says keep first s end l (line ∷ ls) ten is fits run =
    let e = window_event s line in
    let next = flat_after setup c s line in
    let by = lanes_by setup c s line run.0 in
    let state = state_after (cluster_times setup c) s next at e l ten by is in
    let kept = keep s next first e l ten is state fits in
    says.more first s line ls kept.0
    (kept_from setup c at r Kept says keep (r.after s first e) next end (state_by (cluster_times setup c) s at e l) ls
    (ten_by (cluster_times setup c) s next e ten by) state kept.1 run.1)

-- so it holds of every run from the empty queue, where a new lane fits
pub kept_in_runs : (setup : SetupParts) (c : ℕ) (at : Lane) (r : Rule) (Kept : Option ℕ → Flat → List Line → Type 0) → SaysOfRuns setup c r Kept → EventsKeep setup c at r
    → ((x : Lane) → r.Fits None (new_lane x)) → (ls : List Line) (end : Flat) → IsTimeshare at → CRun setup c ls end
    → Kept None (empty_flat (group_count setup)) ls
kept_in_runs setup c at r Kept says keep new ls end among run =
    let s = empty_flat (group_count setup) in
    let found = has_state s at refl among in
    let made = member_of_map new_lane timeshare_lanes found.0 (find_finds (λ (m : LaneState). same_lane m.lane at) s.lanes found.0 found.1).0 in
    kept_from setup c at r Kept says keep None s end found.0 ls refl found.1 (subst (r.Fits None) made.2 (new made.0)) run
