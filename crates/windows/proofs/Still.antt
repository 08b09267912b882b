-- Windows that no expiry changes.
use Rattle.std.proofs.Common.{◌≡◌, ℕ, Bool, false, true, cond, List, [], ◌∷◌, map, refl, ap, sym, ◌∙◌}
use Rattle.std.proofs.lemmas.Bool.{cond-false, or_parts}
use Rattle.bucket_tables.specs.declared.Lane.{Lane}
use Rattle.flat_policy.specs.declared.lanes.Starved.{Starved}
use Rattle.flat_policy.specs.declared.lanes.Starved.TheVariants.{No, Since}
use Rattle.flat_policy.specs.declared.lanes.Warp.{Warp}
use Rattle.flat_policy.specs.declared.lanes.Warp.TheVariants.{Spent, Until, Unused}
use Rattle.flat_policy.specs.declared.setup.Times.{Times}
use Rattle.flat_policy.specs.Policy.Queue.{LaneState}
use Rattle.flat_policy.specs.Policy.Setup.{times_for}
use Rattle.flat_policy.specs.Policy.Windows.{expired_warp, expired_window, renewed_deadline, window_over}
use Rattle.windows.specs.declared.choice.Marks.{Marks}
use Rattle.windows.specs.OneLane.{is_running, starves, warp_runs}
use Rattle.windows.specs.Views.{beside, runs}
use Rattle.windows.proofs.EachLane.{changed_where}

warp_rests : (now : ℕ) (w : Warp) → warp_runs w ≡ false → expired_warp now w ≡ w
warp_rests now Unused h = refl
warp_rests now (Until end) h = absurd cc
warp_rests now Spent h = refl

none_over : (quantum now : ℕ) (s : Starved) → starves s ≡ false → window_over quantum now s ≡ false
none_over quantum now No h = refl
none_over quantum now (Since start) h = absurd cc

-- a lane of which nothing runs
not_running : (ts : List Times) (now : ℕ) (l : LaneState) → is_running l.warp l.starved ≡ false → expired_window ts now l ≡ l
not_running ts now l h =
    let parts = or_parts (warp_runs l.warp) (starves l.starved) h in
    let quantum = (times_for ts l.lane.bucket).quantum in
    let warped : LaneState = record l { warp = expired_warp now l.warp } in
    cond-false (window_over quantum now l.starved) (renewed_deadline ts now warped) warped (none_over quantum now l.starved parts.1)
    ∙ ap (λ w. record { lane = l.lane; deadline = l.deadline; warp = w; starved = l.starved }) (warp_rests now l.warp parts.0)

-- the windows that run are all that expire
pub running_alone : (ts : List Times) (now : ℕ) (ls : List Lane) (ds : List ℕ) (ms : List Marks)
    → changed_where (map runs ms) (expired_window ts now) (beside ls ds ms) ≡ map (expired_window ts now) (beside ls ds ms)
running_alone ts now [] ds [] = refl
running_alone ts now [] ds (m ∷ ms) = refl
running_alone ts now (l ∷ ls) [] [] = refl
running_alone ts now (l ∷ ls) [] (m ∷ ms) = refl
running_alone ts now (l ∷ ls) (d ∷ ds) [] = refl
running_alone ts now (l ∷ ls) (d ∷ ds) (m ∷ ms) =
    let w : LaneState = record { lane = l; deadline = d; warp = m.warp; starved = m.starved } in
    ap (λ v. v ∷ changed_where (map runs ms) (expired_window ts now) (beside ls ds ms)) (here (runs m) refl)
    ∙ ap (λ vs. expired_window ts now w ∷ vs) (running_alone ts now ls ds ms)
  where
    here : (b : Bool) → runs m ≡ b → cond b (expired_window ts now (record { lane = l; deadline = d; warp = m.warp; starved = m.starved })) (record { lane = l; deadline = d; warp = m.warp; starved = m.starved })
        ≡ expired_window ts now (record { lane = l; deadline = d; warp = m.warp; starved = m.starved })
    here true is = refl
    here false is = sym (not_running ts now (record { lane = l; deadline = d; warp = m.warp; starved = m.starved }) is)
