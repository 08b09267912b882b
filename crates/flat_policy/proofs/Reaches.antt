-- The last moment, the next arrival and the next turn after each step at a cluster.
use Rattle.std.proofs.Common.{◌≡◌, ℕ, suc, zero, ◌+◌, ◌*◌, ◌≤◌, ◌==◌, Bool, List, [], ◌∷◌, fold, length, Option, Some, None, refl, ◌∙◌, arith}
use Rattle.std.proofs.lemmas.Bool.{cond_both}
use Rattle.std.proofs.lemmas.List.{length-map}
use Rattle.std.proofs.lemmas.List.Concat.{length-flat_map}
use Rattle.sched_base.specs.declared.Answer.TheVariants as answers
use Rattle.sched_base.specs.declared.Bucket.{Bucket}
use Rattle.sched_base.specs.declared.Bucket.TheVariants.{Bg, Df, Fg, Ini, Ui, Ut}
use Rattle.sched_base.specs.declared.Facts.{Facts}
use Rattle.bucket_tables.specs.declared.Lane.{Lane}
use Rattle.flat_policy.specs.declared.lanes.Kind.{Kind}
use Rattle.flat_policy.specs.declared.setup.Times.{Times}
use Rattle.flat_policy.specs.Laws.Kept.{RisesBy, StepRises}
use Rattle.flat_policy.specs.Policy.ClusterSteps.{Event, facts_of, flat_after_offer, got, select_event, touched}
use Rattle.flat_policy.specs.Policy.Moves.{entered, pick, removed, removed_by_selection, selected, selected_by, with_next_turn}
use Rattle.flat_policy.specs.Policy.Offer.{offered_between}
use Rattle.flat_policy.specs.Policy.Precedence.{clutch_priority}
use Rattle.flat_policy.specs.Policy.Queue.{Clutch, Flat, Queued}
use Rattle.flat_policy.specs.Policy.Refresh.{all_clutches, clutches_of, refreshed, turn_on_refresh, with_new_prices}
use Rattle.flat_policy.specs.Policy.Setup.{SetupParts, all_buckets, cluster_times, group_count, numbers_below, numbers_from}
use Rattle.flat_policy.specs.Policy.Windows.{Choice, chosen, expired, windows_after}
use Rattle.flat_policy.proofs.After.{after_entering, after_removal, after_selection}

-- a queue has a moment as its last, and its next arrival and turn rose by at most these numbers
pub record Reaches (now arrivals turns : ℕ) (s next : Flat) : Type 0 where
  pub last : next.last ≡ now
  pub rises : RisesBy arrivals turns s next

-- only the last moment changes
pub touched_reaches : (now : ℕ) (s : Flat) → Reaches now 0 0 s (touched now s)
touched_reaches now s = record { last = refl; rises = record { arrival = omega arith; turn = omega arith } }

pub entered_reaches : (ts : List Times) (t : Facts) (head : Bool) (now : ℕ) (s : Flat) → Reaches now 1 1 s (entered ts t head now s)
entered_reaches ts t head now s =
    after_entering ts t head now s (Reaches now 1 1 s)
    (record { last = refl; rises = record { arrival = omega arith; turn = omega arith } })
    (record { last = refl; rises = record { arrival = omega arith; turn = omega arith } })

pub removed_reaches : (e : Queued) (now : ℕ) (s : Flat) → Reaches now 0 1 s (removed e now s)
removed_reaches e now s =
    after_removal e now s (Reaches now 0 1 s)
    (record { last = refl; rises = record { arrival = omega arith; turn = omega arith } })
    (record { last = refl; rises = record { arrival = omega arith; turn = omega arith } })
    (record { last = refl; rises = record { arrival = omega arith; turn = omega arith } })

taken_reaches : (e : Queued) (now : ℕ) (s : Flat) → Reaches now 0 1 s (removed_by_selection e now s)
taken_reaches e now s =
    after_selection e now s (Reaches now 0 1 s)
    (record { last = refl; rises = record { arrival = omega arith; turn = omega arith } })
    (record { last = refl; rises = record { arrival = omega arith; turn = omega arith } })
    (record { last = refl; rises = record { arrival = omega arith; turn = omega arith } })

-- what rose by at most some turns rose by at most more of them
weaker : (now arrivals turns more : ℕ) (s next : Flat) → turns ≤ more → Reaches now arrivals turns s next → Reaches now arrivals more s next
weaker now arrivals turns more s next h r = record { last = r.last; rises = record { arrival = r.rises.arrival; turn = omega (arith, h, r.rises.turn) } }

windows_reach : (ts : List Times) (now : ℕ) (kind : Option Kind) (at : Lane) (s next : Flat) → Reaches now 0 1 s next → Reaches now 0 1 s (windows_after ts now kind at next)
windows_reach ts now None at s next r = r
windows_reach ts now (Some kind) at s next r = record { last = r.last; rises = record { arrival = r.rises.arrival; turn = r.rises.turn } }

selected_by_reaches : (ts : List Times) (now : ℕ) (s : Flat) (o : Option Choice) (picked : Option Queued) → Reaches now 0 1 s (selected_by ts now s o picked)
selected_by_reaches ts now s (Some c) (Some e) = windows_reach ts now c.kind c.lane s (removed_by_selection e now s) (taken_reaches e now s)
selected_by_reaches ts now s (Some c) None = weaker now 0 0 1 s (touched now s) (omega arith) (touched_reaches now s)
selected_by_reaches ts now s None picked = weaker now 0 0 1 s (touched now s) (omega arith) (touched_reaches now s)

pub selected_reaches : (ts : List Times) (now : ℕ) (s : Flat) → Reaches now 0 1 s (selected ts now s)
selected_reaches ts now s =
    let r = selected_by_reaches ts now (expired ts s now) (chosen ts (expired ts s now)) (pick ts now s) in
    record { last = r.last; rises = record { arrival = r.rises.arrival; turn = r.rises.turn } }

pub select_reaches : (setup : SetupParts) (s : Flat) (c now : ℕ) → Reaches now 0 1 s (select_event setup c now s).flat
select_reaches setup s c now =
    let ts = cluster_times setup c in
    let on : Event = record { answer = got (pick ts now s); thread = facts_of (pick ts now s); flat = selected ts now s } in
    cond_both s.on on (record { answer = answers.Off; thread = None; flat = touched now s }) (λ (v : Event). Reaches now 0 1 s v.flat)
    (λ h. selected_reaches ts now s)
    (λ h. weaker now 0 0 1 s (touched now s) (omega arith) (touched_reaches now s))

pub offer_reaches : (now : ℕ) (s : Flat) (o : Option Queued) → Reaches now 0 1 s (flat_after_offer now s o)
offer_reaches now s None = weaker now 0 0 1 s (touched now s) (omega arith) (touched_reaches now s)
offer_reaches now s (Some e) = removed_reaches e now s

-- each clutch bucket that a refresh passes takes one turn at most
turns_reach : (before : Flat) (now turns most : ℕ) (s : Flat) (ks : List Clutch) (b : Flat) → turns + length ks ≤ most → Reaches now 0 turns s b → Reaches now 0 most s (fold (turn_on_refresh before) b ks)
turns_reach before now turns most s [] b few r = weaker now 0 turns most s b (omega (arith, few)) r
turns_reach before now turns most s (k ∷ ks) b few r =
    turns_reach before now (turns + 1) most s ks (turn_on_refresh before b k) (omega (arith, few))
    (cond_both (clutch_priority before k == clutch_priority b k) b (with_next_turn k b) (Reaches now 0 (turns + 1) s)
    (λ h. weaker now 0 turns (turns + 1) s b (omega arith) r)
    (λ h. record { last = r.last; rises = record { arrival = r.rises.arrival; turn = omega (arith, r.rises.turn) } }))

count_from : (first count : ℕ) → length (numbers_from first count) ≡ count
count_from first zero = refl
count_from first (suc count) = omega (arith, count_from (suc first) count)

count_of_bucket : (groups : ℕ) (b : Bucket) → length (clutches_of groups b) ≡ groups
count_of_bucket groups b = length-map (numbers_below groups) (λ g. record { group = g; bucket = b }) ∙ count_from 0 groups

count_of_clutches : (groups : ℕ) → length (all_clutches groups) ≡ groups * 6
count_of_clutches groups =
    omega (
      arith,
      length-flat_map (clutches_of groups) all_buckets,
      count_of_bucket groups Ui,
      count_of_bucket groups Fg,
      count_of_bucket groups Ini,
      count_of_bucket groups Df,
      count_of_bucket groups Ut,
      count_of_bucket groups Bg,
    )

pub refresh_reaches : (groups : ℕ) (s : Flat) (now : ℕ) → Reaches now 0 (groups * 6) s (refreshed groups s now)
refresh_reaches groups s now =
    turns_reach s now 0 (groups * 6) s (all_clutches groups) (with_new_prices s now) (omega (arith, count_of_clutches groups))
    (record { last = refl; rises = record { arrival = omega arith; turn = omega arith } })

pub step_rises : (setup : SetupParts) (s : Flat) → StepRises setup s
step_rises setup s = record {
  entering = λ c t head now. (entered_reaches (cluster_times setup c) t head now s).rises;
  selecting = λ c now. (select_reaches setup s c now).rises;
  offering = λ from to now. (offer_reaches now s (offered_between setup from to s)).rises;
  pulling = λ e now. (removed_reaches e now s).rises;
  looking = λ c b now. record { arrival = omega arith; turn = omega arith };
  refreshing = λ now. (refresh_reaches (group_count setup) s now).rises;
  powering = λ on now. record { arrival = omega arith; turn = omega arith };
}
