-- One line of a history: the machine replies it, and what is left of each run goes on from the state after it.
use Rattle.std.proofs.Common.{◌≡◌, ℕ, ◌<◌, ◌≤◌, ◌==◌, Bool, true, false, cond, List, ◌∷◌, count_by, map, set, get_or, Option, Some, None, refl, sym, ap, ◌∙◌, subst, arith}
use Rattle.std.specs.Prelude.{IsTrue}
use Rattle.std.specs.List.{list_any}
use Rattle.std.specs.Option.{option_map_or}
use Rattle.sched_base.specs.declared.Spot.{Spot}
use Rattle.sched_base.specs.declared.Spot.TheVariants as spots
use Rattle.flat_policy.specs.declared.journal.Line.{Line}
use Rattle.flat_policy.specs.Laws.Counts.{EachNameOnce, StepsKeepCounts}
use Rattle.flat_policy.specs.Laws.Sound.{Sound, StepsKeepSound}
use Rattle.flat_policy.specs.Policy.ClusterSteps.{Event}
use Rattle.flat_policy.specs.Policy.Machine.{Hand, MachineState, fits_step, no_hand, spot_of}
use Rattle.flat_policy.specs.Policy.Queue.{Flat, empty_flat}
use Rattle.flat_policy.specs.Policy.Setup.{SetupParts, actor_count, cluster_count}
use Rattle.flat_policy.specs.Runs.Hands.{Allows, HandEvent, hand_after, hand_event}
use Rattle.flat_policy.specs.Runs.Histories.{CStep, RunYard, YRunFrom, YStep, YardEvent, act_of, actor_of, cluster_event, flat_after, yard_after, yard_event}
use Rattle.flat_policy.specs.Runs.Interleaving.{EachLine, IsGivenSpot, is_spot_of, is_yard, yard_lines}
use Rattle.composition.specs.Joined.{machine_of, without_due}
use Rattle.composition.proofs.ClusterActs.{cluster_comes}
use Rattle.composition.proofs.HandActs.{hand_comes}
use Rattle.composition.proofs.Replies.{Replies, replies}
use Rattle.composition.proofs.Restricted.{FlatsAhead, HandsAhead, flat_here, flats_after, flats_elsewhere, hand_here, hands_after, spot_by, yard_elsewhere, yard_here}
use Rattle.composition.proofs.Sleepers.{has_name}
use Rattle.composition.proofs.YardActs.{yard_comes}

-- a line is of an actor and of a place that are there
pub record IsThere (setup : SetupParts) (home : ℕ → ℕ) (l : Line) : Type 0 where
  pub actor : actor_of l < actor_count setup
  pub spot : IsGivenSpot (cluster_count setup) (spot_by home l)

-- the two laws of single steps that the history rests on
pub record StepLaws : Type 0 where
  pub sound : StepsKeepSound
  pub counts : StepsKeepCounts

-- a state from which the lines that are left lead each place and each hand to its end
pub record Ahead (setup : SetupParts) (home : ℕ → ℕ) (fs : List Flat) (hs : List Hand) (y : RunYard) (ls : List Line) (ends : List Flat) (left : List Hand) (end : RunYard) : Type 0 where
  pub sound : Sound setup (machine_of fs hs y)
  pub once : EachNameOnce (machine_of fs hs y)
  pub flats : FlatsAhead setup (spot_by home) fs ls ends
  pub hands : HandsAhead setup hs ls left
  pub yard : YRunFrom setup y (yard_lines (spot_by home) ls) end
  pub there : EachLine (IsThere setup home) ls

-- the first line happens, and the others are ahead
pub record Goes (setup : SetupParts) (home : ℕ → ℕ) (g : MachineState) (l : Line) (ls : List Line) (ends : List Flat) (left : List Hand) (end : RunYard) : Type 0 where
  pub flats : List Flat
  pub hands : List Hand
  pub yard : RunYard
  pub fits : IsTrue (fits_step setup l.entry.step)
  pub replies : Replies setup g l (machine_of flats hands yard)
  pub spot : spot_by home l ≡ spot_of setup l.entry.step
  pub ahead : Ahead setup home flats hands yard ls ends left end

-- what is kept from one state to the next by the two laws
pub record Kept (setup : SetupParts) (g : MachineState) : Type 0 where
  pub sound : Sound setup g
  pub once : EachNameOnce g

keeps : (laws : StepLaws) (setup : SetupParts) (g next : MachineState) (l : Line) → Kept setup g → IsTrue (fits_step setup l.entry.step) → Replies setup g l next → Kept setup next
keeps laws setup g next l kept fits r =
    subst (Kept setup) r.leads (record {
      sound = laws.sound setup g l.entry.step kept.sound fits;
      once = laws.counts setup g l.entry.step kept.sound kept.once fits;
    })

-- an event is what comes after it
flat_is : (setup : SetupParts) (c : ℕ) (s : Flat) (l : Line) (e : Event) → cluster_event setup c s l ≡ Some e → flat_after setup c s l ≡ e.flat
flat_is setup c s l e happens = ap (λ (o : Option Event). option_map_or (λ (v : Event). v.flat) o s) happens

pub yard_is : (setup : SetupParts) (y : RunYard) (l : Line) (e : YardEvent) → yard_event setup y l ≡ Some e → yard_after setup y l ≡ e.yard
yard_is setup y l e happens = ap (λ (o : Option YardEvent). option_map_or (λ (v : YardEvent). v.yard) o y) happens

pub hand_is : (setup : SetupParts) (h : Hand) (l : Line) (e : HandEvent) → hand_event setup h l ≡ Some e → hand_after setup h l ≡ e.hand
hand_is setup h l e happens = ap (λ (o : Option HandEvent). option_map_or (λ (v : HandEvent). v.hand) o h) happens

-- a line at a cluster
at_cluster : (laws : StepLaws) (setup : SetupParts) (home : ℕ → ℕ) (fs : List Flat) (hs : List Hand) (y : RunYard) (l : Line) (ls : List Line) (ends : List Flat) (left : List Hand) (end : RunYard) → Ahead setup home fs hs y (l ∷ ls) ends left end
    → (c : ℕ) → spot_by home l ≡ Some (spots.Cluster c) → c < cluster_count setup → Goes setup home (machine_of fs hs y) l ls ends left end
at_cluster laws setup home fs hs y l ls ends left end ahead c spot within =
    let a : ℕ = actor_of l in
    let h : Hand = get_or hs a no_hand in
    let s : Flat = get_or fs c (empty_flat 0) in
    let allows : Allows setup a h l = (hand_here setup h l ls (get_or left a no_hand) (ahead.hands a ahead.there.0.actor)).0 in
    let step : CStep setup c s l (flat_after setup c s l) = (flat_here setup (spot_by home) fs l ls ends c ahead.flats spot within).0 in
    let comes = cluster_comes setup (machine_of fs hs y) h l c step.event allows.event step.told allows.told (act_of l) step.happens allows.happens in
    let r = replies setup (machine_of fs hs y) l (Some (spots.Cluster c)) (machine_of (set fs c step.event.flat) (set hs a allows.event.hand) y) comes allows.not_before step.not_before in
    let next : Replies setup (machine_of fs hs y) l (machine_of (set fs c (flat_after setup c s l)) (set hs a (hand_after setup h l)) y) =
    subst (λ k. Replies setup (machine_of fs hs y) l (machine_of (set fs c (flat_after setup c s l)) (set hs a k) y)) (sym (hand_is setup h l allows.event allows.happens))
    (subst (λ k. Replies setup (machine_of fs hs y) l (machine_of (set fs c k) (set hs a allows.event.hand) y)) (sym (flat_is setup c s l step.event step.happens)) r) in
    let kept = keeps laws setup (machine_of fs hs y) (machine_of (set fs c (flat_after setup c s l)) (set hs a (hand_after setup h l)) y) l (record { sound = ahead.sound; once = ahead.once }) allows.fits.step next in
    record {
      flats = set fs c (flat_after setup c s l);
      hands = set hs a (hand_after setup h l);
      yard = y;
      fits = allows.fits.step;
      replies = next;
      spot = spot ∙ sym comes.at;
      ahead = record {
        sound = kept.sound;
        once = kept.once;
        flats = flats_after setup (spot_by home) fs l ls ends c ahead.flats spot within (subst (λ n. c < n) (sym ahead.sound.flats_length) within);
        hands = hands_after setup hs l ls left ahead.hands ahead.there.0.actor (subst (λ n. a < n) (sym ahead.sound.hands_length) ahead.there.0.actor);
        yard = yard_elsewhere setup (spot_by home) y l ls end ahead.yard (ap is_yard spot);
        there = ahead.there.1;
      };
    }

-- a name stands among the blocked threads as often as in the yard at most, and there at most once
one_expected : (b : Bool) → cond b 1 0 ≤ 1
one_expected true = omega arith
one_expected false = omega arith

few_blocked : (fs : List Flat) (hs : List Hand) (y : RunYard) → EachNameOnce (machine_of fs hs y) → (n : ℕ) → count_by (has_name n) (map without_due y.blocked) ≤ 1
few_blocked fs hs y once n = omega (arith, once n, one_expected (list_any (λ m. m == n) y.made))

-- a line in the yard
in_the_yard : (laws : StepLaws) (setup : SetupParts) (home : ℕ → ℕ) (fs : List Flat) (hs : List Hand) (y : RunYard) (l : Line) (ls : List Line) (ends : List Flat) (left : List Hand) (end : RunYard) → Ahead setup home fs hs y (l ∷ ls) ends left end
    → spot_by home l ≡ Some spots.Yard → Goes setup home (machine_of fs hs y) l ls ends left end
in_the_yard laws setup home fs hs y l ls ends left end ahead spot =
    let a : ℕ = actor_of l in
    let h : Hand = get_or hs a no_hand in
    let allows : Allows setup a h l = (hand_here setup h l ls (get_or left a no_hand) (ahead.hands a ahead.there.0.actor)).0 in
    let run = yard_here setup (spot_by home) y l ls end ahead.yard spot in
    let step : YStep setup y l (yard_after setup y l) = run.0 in
    let comes = yard_comes setup fs hs y h l step.event allows.event (few_blocked fs hs y ahead.once) step.told allows.told (act_of l) step.happens allows.happens in
    let r = replies setup (machine_of fs hs y) l (Some spots.Yard) (machine_of fs (set hs a allows.event.hand) step.event.yard) comes allows.not_before step.not_before in
    let next : Replies setup (machine_of fs hs y) l (machine_of fs (set hs a (hand_after setup h l)) (yard_after setup y l)) =
    subst (λ k. Replies setup (machine_of fs hs y) l (machine_of fs (set hs a k) (yard_after setup y l))) (sym (hand_is setup h l allows.event allows.happens))
    (subst (λ k. Replies setup (machine_of fs hs y) l (machine_of fs (set hs a allows.event.hand) k)) (sym (yard_is setup y l step.event step.happens)) r) in
    let kept = keeps laws setup (machine_of fs hs y) (machine_of fs (set hs a (hand_after setup h l)) (yard_after setup y l)) l (record { sound = ahead.sound; once = ahead.once }) allows.fits.step next in
    record {
      flats = fs;
      hands = set hs a (hand_after setup h l);
      yard = yard_after setup y l;
      fits = allows.fits.step;
      replies = next;
      spot = spot ∙ sym comes.at;
      ahead = record {
        sound = kept.sound;
        once = kept.once;
        flats = flats_elsewhere setup (spot_by home) fs l ls ends ahead.flats (λ c. ap (is_spot_of c) spot);
        hands = hands_after setup hs l ls left ahead.hands ahead.there.0.actor (subst (λ n. a < n) (sym ahead.sound.hands_length) ahead.there.0.actor);
        yard = run.1;
        there = ahead.there.1;
      };
    }

-- a line in the hand alone
in_a_hand : (laws : StepLaws) (setup : SetupParts) (home : ℕ → ℕ) (fs : List Flat) (hs : List Hand) (y : RunYard) (l : Line) (ls : List Line) (ends : List Flat) (left : List Hand) (end : RunYard) → Ahead setup home fs hs y (l ∷ ls) ends left end
    → spot_by home l ≡ None → Goes setup home (machine_of fs hs y) l ls ends left end
in_a_hand laws setup home fs hs y l ls ends left end ahead spot =
    let a : ℕ = actor_of l in
    let h : Hand = get_or hs a no_hand in
    let allows : Allows setup a h l = (hand_here setup h l ls (get_or left a no_hand) (ahead.hands a ahead.there.0.actor)).0 in
    let comes = hand_comes setup (machine_of fs hs y) h l allows.event (home a) allows.told (act_of l) spot allows.happens in
    let r = replies setup (machine_of fs hs y) l None (machine_of fs (set hs a allows.event.hand) y) comes allows.not_before (omega arith) in
    let next : Replies setup (machine_of fs hs y) l (machine_of fs (set hs a (hand_after setup h l)) y) =
    subst (λ k. Replies setup (machine_of fs hs y) l (machine_of fs (set hs a k) y)) (sym (hand_is setup h l allows.event allows.happens)) r in
    let kept = keeps laws setup (machine_of fs hs y) (machine_of fs (set hs a (hand_after setup h l)) y) l (record { sound = ahead.sound; once = ahead.once }) allows.fits.step next in
    record {
      flats = fs;
      hands = set hs a (hand_after setup h l);
      yard = y;
      fits = allows.fits.step;
      replies = next;
      spot = spot ∙ sym comes.at;
      ahead = record {
        sound = kept.sound;
        once = kept.once;
        flats = flats_elsewhere setup (spot_by home) fs l ls ends ahead.flats (λ c. ap (is_spot_of c) spot);
        hands = hands_after setup hs l ls left ahead.hands ahead.there.0.actor (subst (λ n. a < n) (sym ahead.sound.hands_length) ahead.there.0.actor);
        yard = yard_elsewhere setup (spot_by home) y l ls end ahead.yard (ap is_yard spot);
        there = ahead.there.1;
      };
    }

-- by the spot of the line
goes_by : (laws : StepLaws) (setup : SetupParts) (home : ℕ → ℕ) (fs : List Flat) (hs : List Hand) (y : RunYard) (l : Line) (ls : List Line) (ends : List Flat) (left : List Hand) (end : RunYard) → Ahead setup home fs hs y (l ∷ ls) ends left end
    → (spot : Option Spot) → spot_by home l ≡ spot → Goes setup home (machine_of fs hs y) l ls ends left end
goes_by laws setup home fs hs y l ls ends left end ahead None is = in_a_hand laws setup home fs hs y l ls ends left end ahead is
goes_by laws setup home fs hs y l ls ends left end ahead (Some (spots.Cluster c)) is =
    at_cluster laws setup home fs hs y l ls ends left end ahead c is (subst (IsGivenSpot (cluster_count setup)) is ahead.there.0.spot)
goes_by laws setup home fs hs y l ls ends left end ahead (Some spots.Yard) is = in_the_yard laws setup home fs hs y l ls ends left end ahead is

pub goes : (laws : StepLaws) (setup : SetupParts) (home : ℕ → ℕ) (fs : List Flat) (hs : List Hand) (y : RunYard) (l : Line) (ls : List Line) (ends : List Flat) (left : List Hand) (end : RunYard) → Ahead setup home fs hs y (l ∷ ls) ends left end → Goes setup home (machine_of fs hs y) l ls ends left end
goes laws setup home fs hs y l ls ends left end ahead = goes_by laws setup home fs hs y l ls ends left end ahead (spot_by home l) refl
