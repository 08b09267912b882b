-- Journals and logs whose lines are put into one order: a history of the machine.
use Rattle.std.proofs.Common.{◌≡◌, ℕ, ◌<◌, List, [], ◌∷◌, length, get_or, refl, sym, ap, ◌∙◌, subst}
use Rattle.std.proofs.lemmas.List.{ext_get_or, get_or-map, get_or-replicate, length-map}
use Rattle.flat_policy.specs.declared.journal.Line.{Line}
use Rattle.flat_policy.specs.Laws.Counts.{RunsKeepCounts}
use Rattle.flat_policy.specs.Laws.Sound.{EmptyIsSound}
use Rattle.flat_policy.specs.Policy.Machine.{Hand, MachineState, RunsFrom, empty_hand, empty_machine, no_hand, spot_of}
use Rattle.flat_policy.specs.Policy.Queue.{Flat, empty_flat}
use Rattle.flat_policy.specs.Policy.Setup.{SetupParts, actor_count, cluster_count, group_count}
use Rattle.flat_policy.specs.Runs.Hands.{Own, hand_after_all}
use Rattle.flat_policy.specs.Runs.Histories.{CRunFrom, RunYard, YRunFrom, empty_run_yard, entries_of}
use Rattle.flat_policy.specs.Runs.Interleaving.{EachLine, Interleaves, IsGiven, IsGivenSpot, home_by_journals, lines_at, spot_by_journals}
use Rattle.composition.specs.Joined.{RunApart, hands_left, machine_of}
use Rattle.composition.proofs.Ahead.{Ahead, IsThere, StepLaws, goes}
use Rattle.composition.proofs.Restricted.{HandAhead, spot_by}

-- the ends of the places and the hands, one for each
pub record EndsFit (setup : SetupParts) (ends : List Flat) (left : List Hand) : Type 0 where
  pub flats : length ends ≡ cluster_count setup
  pub hands : length left ≡ actor_count setup

-- where no line is left, each place is at its end
ends_are : (setup : SetupParts) (home : ℕ → ℕ) (fs : List Flat) (hs : List Hand) (y : RunYard) (ends : List Flat) (left : List Hand) (end : RunYard) → EndsFit setup ends left → Ahead setup home fs hs y [] ends left end → machine_of ends left end ≡ machine_of fs hs y
ends_are setup home fs hs y ends left end fit ahead =
    let flats : ends ≡ fs = ext_get_or (empty_flat 0) ends fs (fit.flats ∙ sym ahead.sound.flats_length) (λ c below. ahead.flats c (subst (λ n. c < n) fit.flats below)) in
    let hands : left ≡ hs = ext_get_or no_hand left hs (fit.hands ∙ sym ahead.sound.hands_length) (λ a below. (ahead.hands a (subst (λ n. a < n) fit.hands below)).leads) in
    ap (λ (k : List Flat). machine_of k left end) flats
    ∙ (ap (λ (k : List Hand). machine_of fs k end) hands ∙ ap (λ (k : RunYard). machine_of fs hs k) ahead.yard)

-- a history of the machine, in which each line has the spot that the setup gives it
pub record Joined (setup : SetupParts) (home : ℕ → ℕ) (g : MachineState) (ls : List Line) (end : MachineState) : Type 0 where
  pub runs : RunsFrom setup g (entries_of ls) end
  pub spots : EachLine (λ l. spot_by home l ≡ spot_of setup l.entry.step) ls

joined_from : (laws : StepLaws) (setup : SetupParts) (home : ℕ → ℕ) (ends : List Flat) (left : List Hand) (end : RunYard) (fs : List Flat) (hs : List Hand) (y : RunYard) (ls : List Line) → EndsFit setup ends left → Ahead setup home fs hs y ls ends left end
    → Joined setup home (machine_of fs hs y) ls (machine_of ends left end)
joined_from laws setup home ends left end fs hs y [] fit ahead = record { runs = ends_are setup home fs hs y ends left end fit ahead; spots = tt }
joined_from laws setup home ends left end fs hs y (l ∷ ls) fit ahead =
    let go = goes laws setup home fs hs y l ls ends left end ahead in
    let rest = joined_from laws setup home ends left end go.flats go.hands go.yard ls fit go.ahead in
    record {
      runs = (go.fits, go.replies.itself, subst (λ g. RunsFrom setup g (entries_of ls) (machine_of ends left end)) (sym go.replies.leads) rest.runs);
      spots = (go.spot, rest.spots);
    }

-- each line of an interleaving is of an actor and a place that are there
are_there : (setup : SetupParts) (clusters logs : List (List Line)) (ls : List Line) → length clusters ≡ cluster_count setup → length logs ≡ actor_count setup → EachLine (IsGiven clusters logs) ls → EachLine (IsThere setup (home_by_journals clusters)) ls
are_there setup clusters logs [] journals hands given = tt
are_there setup clusters logs (l ∷ ls) journals hands given = (
  record {
    actor = subst (λ n. l.entry.step.actor < n) hands given.0.0;
    spot = subst (λ n. IsGivenSpot n (spot_by_journals clusters l)) journals given.0.1;
  },
  are_there setup clusters logs ls journals hands given.1,
)

-- the two laws of the empty machine
pub record EmptyLaws : Type 0 where
  pub sound : EmptyIsSound
  pub counts : RunsKeepCounts

-- the machine before any line, from which each journal and log goes on
begins : (laws : EmptyLaws) (setup : SetupParts) (clusters : List (List Line)) (yard : List Line) (logs : List (List Line)) (flats : List Flat) (end : RunYard) (history : List Line) → RunApart setup clusters yard logs flats end → Interleaves clusters yard logs history
    → Ahead setup (home_by_journals clusters) (empty_machine setup).flats (empty_machine setup).hands empty_run_yard history flats (hands_left setup logs) end
begins laws setup clusters yard logs flats end history apart whole =
    let spot = spot_by (home_by_journals clusters) in
    record {
      sound = laws.sound setup;
      once = laws.counts setup [] (empty_machine setup) refl;
      flats = λ c below. subst (λ s. CRunFrom setup c s (lines_at spot c history) (get_or flats c (empty_flat 0)))
          (sym (get_or-replicate (cluster_count setup) c (empty_flat (group_count setup)) (empty_flat 0) below))
          (subst (λ ls. CRunFrom setup c (empty_flat (group_count setup)) ls (get_or flats c (empty_flat 0)))
          (sym (whole.at_clusters c (subst (λ n. c < n) (sym apart.as_many_journals) below))) (apart.at_clusters c below));
      hands = λ a below. (
          let log = whole.of_actors a (subst (λ n. a < n) (sym apart.as_many_logs) below) in
          subst (λ h. HandAhead setup a h history (get_or (hands_left setup logs) a no_hand)) (sym (get_or-replicate (actor_count setup) a (empty_hand setup 0) no_hand below))
          (record {
            own = subst (Own setup a) (sym log) (apart.of_actors a below);
            leads = get_or-map (hand_after_all setup (empty_hand setup 0)) logs a [] no_hand (subst (λ n. a < n) (sym apart.as_many_logs) below)
                ∙ ap (hand_after_all setup (empty_hand setup 0)) (sym log);
          }));
      yard = subst (λ ls. YRunFrom setup empty_run_yard ls end) (sym whole.in_yard) apart.in_yard;
      there = are_there setup clusters logs history apart.as_many_journals apart.as_many_logs whole.given;
    }

-- all the laws that the history rests on
pub record FlatLaws : Type 0 where
  pub steps : StepLaws
  pub empty : EmptyLaws

pub joined : (laws : FlatLaws) (setup : SetupParts) (clusters : List (List Line)) (yard : List Line) (logs : List (List Line)) (flats : List Flat) (end : RunYard) (history : List Line) → RunApart setup clusters yard logs flats end → Interleaves clusters yard logs history
    → Joined setup (home_by_journals clusters) (empty_machine setup) history (machine_of flats (hands_left setup logs) end)
joined laws setup clusters yard logs flats end history apart whole =
    joined_from laws.steps setup (home_by_journals clusters) flats (hands_left setup logs) end (empty_machine setup).flats (empty_machine setup).hands empty_run_yard history
    (record { flats = apart.as_many_ends; hands = length-map logs (hand_after_all setup (empty_hand setup 0)) ∙ apart.as_many_logs })
    (begins laws.empty setup clusters yard logs flats end history apart whole)
