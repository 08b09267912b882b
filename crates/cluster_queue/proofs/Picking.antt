-- The lane that is chosen.
use Rattle.std.proofs.Common.{◌≡◌, ◌≢◌, ℕ, ◌<◌, Bool, true, cond, List, [], ◌∷◌, length, Some, None, is_some, refl, sym, ap, ◌∙◌, arith}
use Rattle.std.proofs.lemmas.Bool.{false≢true}
use Rattle.bucket_tables.specs.declared.Lane.{Lane}
use Rattle.sched_base.specs.declared.Bucket.TheVariants.{Ui}
use Rattle.flat_policy.specs.declared.lanes.Kind.{Kind}
use Rattle.flat_policy.specs.Laws.Choice.{has_member}
use Rattle.flat_policy.specs.Laws.Picks.{ChoosesAFilledLane}
use Rattle.flat_policy.specs.Policy.Queue.{LaneState, lane, same_lane}
use Rattle.flat_policy.specs.Policy.Windows.{Choice, above_ui, at_lane, chosen, chosen_of, chosen_under, window_after}
use Rattle.windows.specs.Flags.{ChoicesAgree}
use Rattle.windows.specs.WindowStates.{filled_of}
use Rattle.cluster_queue.specs.Queues.{IsChosen, IsQueue, flat_of}
use Rattle.cluster_queue.specs.declared.queue.Queue.{Queue}
use Rattle.cluster_queue.proofs.Windowed.{chosen_names, queue_with}

pub some_member : {X : Type 0} (xs : List X) → 0 < length xs → has_member xs ≡ true
some_member [] h = absurd (omega (arith, h))
some_member (x ∷ xs) h = refl

-- a choice of lanes needs lanes
pub some_filled : ChoosesAFilledLane → ChoicesAgree → (q : Queue) → IsQueue q → above_ui (flat_of q) ≡ None → has_member (flat_of q).entries ≡ true → filled_of q.windows ≢ []
some_filled chooses agree q k below some none =
    let ts = q.windows.times in
    let by : chosen ts (flat_of q) ≡ None =
    ap (λ o. chosen_under o ts (flat_of q)) below ∙ (sym (agree ts (flat_of q) q.windows k.nested.windows) ∙ ap (chosen_of ts) none) in
    false≢true (ap is_some (sym by) ∙ ((chooses q.groups ts (flat_of q) k.formed).there ∙ some))

-- a lane of UI is chosen
pub chosen_ui : ChoosesAFilledLane → (q : Queue) (now : ℕ) (bound : Bool) → IsQueue q → above_ui (flat_of q) ≡ Some (lane Ui bound) → IsChosen q q now (lane Ui bound)
chosen_ui chooses q now bound k above =
    let c : Choice = record { lane = lane Ui bound; kind = None } in
    let is : chosen q.windows.times (flat_of q) ≡ Some c = ap (λ o. chosen_under o q.windows.times (flat_of q)) above in
    record {
      choice = c;
      chosen = is;
      lane = refl;
      filled = (chooses q.groups q.windows.times (flat_of q) k.formed).filled c is;
      flat = refl;
      same = refl;
      queue = k;
      times = refl;
    }

-- a lane is chosen by its deadline
pub chosen_lane : ChoosesAFilledLane → ChoicesAgree → (q : Queue) (now : ℕ) (at : Lane) (kind : Kind) → IsQueue q → above_ui (flat_of q) ≡ None
    → chosen_of q.windows.times (filled_of q.windows) ≡ Some (record { lane = at; kind = Some kind })
    → IsChosen q (record q { windows = record q.windows { lanes = at_lane at (window_after q.windows.times now kind) q.windows.lanes } }) now at
chosen_lane chooses agree q now at kind k below by =
    let ts = q.windows.times in
    let c : Choice = record { lane = at; kind = Some kind } in
    let is : chosen ts (flat_of q) ≡ Some c =
    ap (λ o. chosen_under o ts (flat_of q)) below ∙ (sym (agree ts (flat_of q) q.windows k.nested.windows) ∙ by) in
    record {
      choice = c;
      chosen = is;
      lane = refl;
      filled = (chooses q.groups ts (flat_of q) k.formed).filled c is;
      flat = refl;
      same = refl;
      queue = queue_with q (λ (l : LaneState). cond (same_lane l.lane at) (window_after ts now kind l) l) k (chosen_names ts now kind at);
      times = refl;
    }
