-- There is one pick where there are entries, and none where there are none.
use Rattle.std.proofs.Common.{◌≡◌, ℕ, true, List, Option, Some, None, is_some, option_and_then, refl, sym, ap, ◌∙◌, subst}
use Rattle.std.proofs.lemmas.Bool.{false≢true}
use Rattle.std.proofs.lemmas.Option.{same_Some, option_and_then_some}
use Rattle.bucket_tables.specs.declared.Lane.{Lane}
use Rattle.flat_policy.specs.declared.setup.Times.{Times}
use Rattle.flat_policy.specs.Laws.Picks.{ChoosesFilled, IsPick, PicksOne}
use Rattle.flat_policy.specs.Policy.Moves.{goes_before, pick, pick_in}
use Rattle.flat_policy.specs.Policy.Queue.{Flat, Queued, has_entries, in_lane, lane_entries}
use Rattle.flat_policy.specs.Policy.Unpreceded.{IsUnpreceded, unpreceded}
use Rattle.flat_policy.specs.Policy.WellFormed.{WellFormed}
use Rattle.flat_policy.specs.Policy.Windows.{Choice, chosen, expired}
use Rattle.flat_policy.proofs.Choice.{chosen_from_unpreceded, is_unpreceded, only_one, strict_from_order, there_under_strict}
use Rattle.flat_policy.proofs.Chosen.{has_from_member}
use Rattle.flat_policy.proofs.ChosenLane.{chooses_filled}
use Rattle.flat_policy.proofs.InLane.{goes_order}
use Rattle.flat_policy.proofs.KeptLanes.{expired_fits}
use Rattle.flat_policy.proofs.Members.{filter_has, member_from_any}
use Rattle.flat_policy.proofs.Picks.{first_in_lane, first_of_lane, stands_in_lane}

pub some_of : {X : Type 0} (o : Option X) → is_some o ≡ true → (x : X) × (o ≡ Some x)
some_of None h = absurd (false≢true h)
some_of (Some x) h = (x, refl)

-- a lane with entries has one that goes first
pub pick_in_there : (groups : ℕ) (s : Flat) → WellFormed groups s → (at : Lane) → has_entries s at ≡ true → (e : Queued) × (pick_in s at ≡ Some e)
pick_in_there groups s w at h =
    let m = member_from_any (in_lane at) s.entries h in
    let has = has_from_member (lane_entries s at) m.0 (filter_has (in_lane at) s.entries m.0 m.1 m.2) in
    let order = goes_order groups s w at in
    let best = some_of (unpreceded (goes_before s at) (lane_entries s at))
    (there_under_strict (goes_before s at) (lane_entries s at) (strict_from_order (goes_before s at) (lane_entries s at) order) ∙ has) in
    chosen_from_unpreceded (goes_before s at) s.entries best.0
    (first_of_lane s at best.0 (is_unpreceded (goes_before s at) (lane_entries s at) best.0 best.1))

-- what is picked is the pick, as long as the chosen lane has entries
pub to_pick : (ts : List Times) (now : ℕ) (s : Flat) → ChoosesFilled ts (expired ts s now) → (e : Queued) → pick ts now s ≡ Some e → IsPick ts now s e
to_pick ts now s filled e h =
    option_and_then_some (λ (c : Choice). pick_in (expired ts s now) c.lane) (chosen ts (expired ts s now)) e h (λ c is at.
    let first = is_unpreceded (goes_before (expired ts s now) c.lane) s.entries e at in
    record {
      choice = c;
      is_chosen = is;
      in_chosen = stands_in_lane (expired ts s now) c.lane e (filled.filled c is) first;
      first = first;
    })

one_pick : (groups : ℕ) (ts : List Times) (now : ℕ) (s : Flat) → WellFormed groups (expired ts s now) → (e f : Queued) → IsPick ts now s e → IsPick ts now s f → e ≡ f
one_pick groups ts now s w e f p q =
    let same : q.choice ≡ p.choice = same_Some q.choice p.choice (sym q.is_chosen ∙ p.is_chosen) in
    let x = expired ts s now in
    let at = p.choice.lane in
    only_one (goes_before x at) (lane_entries x at) (goes_order groups x w at) e f
    (first_in_lane x at e p.in_chosen p.first)
    (first_in_lane x at f
    (subst (λ (c : Choice). in_lane c.lane f ≡ true) same q.in_chosen)
    (subst (λ (c : Choice). IsUnpreceded (goes_before x c.lane) s.entries f) same q.first))

from_pick : (groups : ℕ) (ts : List Times) (now : ℕ) (s : Flat) → WellFormed groups (expired ts s now) → ChoosesFilled ts (expired ts s now) → (e : Queued) → IsPick ts now s e → pick ts now s ≡ Some e
from_pick groups ts now s w filled e p =
    let x = expired ts s now in
    let found = chosen_from_unpreceded (goes_before x p.choice.lane) s.entries e p.first in
    let is : pick ts now s ≡ Some found.0 = ap (option_and_then (λ (c : Choice). pick_in x c.lane)) p.is_chosen ∙ found.1 in
    is ∙ ap (λ (q : Queued). Some q) (one_pick groups ts now s w found.0 e (to_pick ts now s filled found.0 is) p)

there_by : (groups : ℕ) (ts : List Times) (x : Flat) → WellFormed groups x → ChoosesFilled ts x → (o : Option Choice) → chosen ts x ≡ o → is_some (option_and_then (λ (c : Choice). pick_in x c.lane) o) ≡ is_some o
there_by groups ts x w filled None h = refl
there_by groups ts x w filled (Some c) h = ap is_some (pick_in_there groups x w c.lane (filled.filled c h)).1

pub pick_is_one_is : (groups : ℕ) (ts : List Times) (now : ℕ) (s : Flat) → WellFormed groups s → PicksOne ts now s
pick_is_one_is groups ts now s v =
    let x = expired ts s now in
    let w : WellFormed groups x = expired_fits groups ts s now v in
    let filled : ChoosesFilled ts x = chooses_filled ts x w.ten_lanes in
    record {
      there = there_by groups ts x w filled (chosen ts x) refl ∙ filled.there;
      picked = λ e. (to_pick ts now s filled e, from_pick groups ts now s w filled e);
      only = one_pick groups ts now s w;
    }
