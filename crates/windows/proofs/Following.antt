-- Flags that follow a test of each lane.
use Rattle.std.proofs.Common.{◌≡◌, Bool, true, false, cond, List, [], ◌∷◌, map, filter, refl, ap, ◌∙◌}
use Rattle.bucket_tables.specs.declared.Lane.{Lane}
use Rattle.flat_policy.specs.declared.setup.Times.{Times}
use Rattle.flat_policy.specs.Policy.Queue.{Flat, LaneState, has_entries, same_lane}
use Rattle.flat_policy.specs.Policy.Windows.{chosen_by_deadline, chosen_of}
use Rattle.root_deadlines.specs.Lanes.{filled_among}
use Rattle.windows.specs.Flags.{AreWindowsOf}
use Rattle.windows.specs.WindowStates.{WindowState, filled_of, with_flag}

-- those whose flag is set, where the flag is a test, are those that pass it
pub flagged_is : {X : Type 0} (test : X → Bool) (xs : List X) → filled_among (map test xs) xs ≡ filter test xs
flagged_is test [] = refl
flagged_is test (x ∷ xs) =
    elim (test x) as (λ b. filled_among (b ∷ map test xs) (x ∷ xs) ≡ cond b (x ∷ filter test xs) (filter test xs)) [
      | true ↦ ap (λ ys. x ∷ ys) (flagged_is test xs)
      | false ↦ flagged_is test xs
    ]

pub agrees : (ts : List Times) (s : Flat) (w : WindowState) → AreWindowsOf ts s w → chosen_of w.times (filled_of w) ≡ chosen_by_deadline ts s
agrees ts s w are =
    ap (λ us. chosen_of us (filled_of w)) are.times
    ∙ ap (λ ls. chosen_of ts (filled_among w.filled ls)) are.lanes
    ∙ ap (λ fs. chosen_of ts (filled_among fs s.lanes)) are.filled
    ∙ ap (chosen_of ts) (flagged_is (λ (l : LaneState). has_entries s l.lane) s.lanes)

pub follows : (test : Lane → Bool) (at : Lane) (filled : Bool) (ls : List LaneState)
    → with_flag at filled ls (map (λ (l : LaneState). test l.lane) ls) ≡ map (λ (l : LaneState). cond (same_lane l.lane at) filled (test l.lane)) ls
follows test at filled [] = refl
follows test at filled (l ∷ ls) = ap (λ fs. cond (same_lane l.lane at) filled (test l.lane) ∷ fs) (follows test at filled ls)
