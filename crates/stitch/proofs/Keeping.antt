-- What each step of the code keeps: its counts, its homes and that it takes the lowest.
use Rattle.std.proofs.Common.{◌≡◌, ℕ, ◌+◌, ◌^◌, ◌<◌, ◌≤◌, List, [], ◌∷◌, ◌++◌, length, set, replicate, take, map, Option, Some, None, IfSome, sym, ap, ◌∙◌, subst, refl, arith}
use Rattle.std.specs.Prelude.{slice_index}
use Rattle.std.proofs.lemmas.List.{length-set}
use Rattle.flat_policy.specs.declared.journal.Line.{Line}
use Rattle.flat_policy.specs.Policy.Machine.{site_of, spot_from}
use Rattle.flat_policy.specs.Runs.Histories.{act_of, actor_of}
use Rattle.flat_policy.specs.Runs.Interleaving.{spot_by_journals}
use Rattle.flat_policy.specs.Runs.Journals.{JournalParts}
use Rattle.stitch.specs.Cursors.{LowestReady, NoneReady, counted, place_by}
use Rattle.stitch.specs.Stops.{LogsAreOfActors}
use Rattle.stitch.specs.Taking.{CanTake, IsTaking, TakesLowest, clusters_of, lines_of, yard_of}
use Rattle.stitch.proofs.Counts.{Counts, HomesAre, actor_count_short, counts_more, counts_none, lowest_takes, none_takes, of_its_actor, place_count_short, spot_is}
use Rattle.stitch.proofs.Takings.{takes_more}

-- what is asked of the lists
pub record Asked (journals logs : List JournalParts) : Type 0 where
  pub cluster : 2 ≤ length journals
  pub clusters : length journals ≤ 9
  pub few : length logs ≤ 16
  pub owned : LogsAreOfActors (lines_of logs)

pub record Keeps (journals logs : List JournalParts) (homes places actors : List ℕ) (history : List Line) : Type 0 where
  pub counts : Counts journals logs places actors history
  pub are : HomesAre journals homes
  pub taking : IsTaking (clusters_of journals) (yard_of journals) (lines_of logs) history
  pub nine : length places ≡ 9
  pub sixteen : length actors ≡ 16

pub keeps_none : (journals logs : List JournalParts) (homes places actors : List ℕ) (history : List Line) → HomesAre journals homes → places ≡ replicate 9 0 → actors ≡ replicate 16 0 → history ≡ [] → Keeps journals logs homes places actors history
keeps_none journals logs homes places actors history are no_places no_actors none =
    subst (λ (ps : List ℕ). Keeps journals logs homes ps actors history) (sym no_places)
    (subst (λ (xs : List ℕ). Keeps journals logs homes (replicate 9 0) xs history) (sym no_actors)
    (subst (Keeps journals logs homes (replicate 9 0) (replicate 16 0)) (sym none)
    (record { counts = counts_none journals logs 9 16; are = are; taking = tt; nine = refl; sixteen = refl })))

pub actor_low : (journals logs : List JournalParts) (homes places actors : List ℕ) (l : Line) → LogsAreOfActors (lines_of logs) → LowestReady journals logs homes places actors l → actor_of l < length logs
actor_low journals logs homes places actors l owned r =
    let same : actor_of l ≡ r.actor = of_its_actor logs owned r.actor (slice_index actors r.actor) l r.ready.next in
    omega (arith, r.within)

pub takes : (journals logs : List JournalParts) (homes places actors : List ℕ) (history : List Line) → Asked journals logs → Keeps journals logs homes places actors history → (l : Line) → LowestReady journals logs homes places actors l
    → TakesLowest (clusters_of journals) (yard_of journals) (lines_of logs) history l
takes journals logs homes places actors history asked keeps l r =
    lowest_takes journals logs homes places actors history keeps.counts keeps.are asked.few asked.owned l r

pub stuck : (journals logs : List JournalParts) (homes places actors : List ℕ) (history : List Line) → Asked journals logs → Keeps journals logs homes places actors history → NoneReady journals logs homes places actors (length logs)
    → (l : Line) → CanTake (clusters_of journals) (yard_of journals) (lines_of logs) history l → ⊥
stuck journals logs homes places actors history asked keeps none =
    none_takes journals logs homes places actors history keeps.counts keeps.are asked.few none

length_counted : (counts : List ℕ) (o : Option ℕ) → length (counted counts o) ≡ length counts
length_counted counts None = refl
length_counted counts (Some p) = length-set counts p (slice_index counts p + 1)

-- the place of the line that is taken, by the actor's home
abbrev pub place_of_line : List JournalParts → List ℕ → Line → Option ℕ
place_of_line journals homes l = place_by (length journals) (spot_from (slice_index homes (actor_of l)) (site_of (act_of l)))

place_of_line_is : (journals logs : List JournalParts) (homes places actors : List ℕ) (history : List Line) → Asked journals logs → Keeps journals logs homes places actors history → (l : Line) → actor_of l < length logs
    → place_of_line journals homes l ≡ place_by (length journals) (spot_by_journals (clusters_of journals) l)
place_of_line_is journals logs homes places actors history asked keeps l low =
    ap (place_by (length journals)) (spot_is journals homes keeps.are l (omega (arith, asked.few)))

-- a line is taken and counted
pub keeps_more : (journals logs : List JournalParts) (homes places actors : List ℕ) (history : List Line) → Asked journals logs → Keeps journals logs homes places actors history → (l : Line) → LowestReady journals logs homes places actors l
    → (places2 actors2 : List ℕ) (history2 : List Line) → places2 ≡ counted places (place_of_line journals homes l) → actors2 ≡ set actors (actor_of l) (slice_index actors (actor_of l) + 1) → history2 ≡ history ++ l ∷ []
    → Keeps journals logs homes places2 actors2 history2
keeps_more journals logs homes places actors history asked keeps l r places2 actors2 history2 e f g =
    let taken = takes journals logs homes places actors history asked keeps l r in
    let place = place_of_line_is journals logs homes places actors history asked keeps l (actor_low journals logs homes places actors l asked.owned r) in
    let more = counts_more journals logs places actors history keeps.counts (omega (arith, asked.cluster)) (omega (arith, asked.clusters, keeps.nine)) (omega (arith, asked.few, keeps.sixteen)) l taken.can in
    record {
      counts =
          subst (λ (ps : List ℕ). Counts journals logs ps actors2 history2) (sym (e ∙ ap (counted places) place))
          (subst (λ (xs : List ℕ). Counts journals logs (counted places (place_by (length journals) (spot_by_journals (clusters_of journals) l))) xs history2) (sym f)
          (subst (Counts journals logs (counted places (place_by (length journals) (spot_by_journals (clusters_of journals) l))) (set actors (actor_of l) (slice_index actors (actor_of l) + 1))) (sym g) more));
      are = keeps.are;
      taking = subst (IsTaking (clusters_of journals) (yard_of journals) (lines_of logs)) (sym g) (takes_more (clusters_of journals) (yard_of journals) (lines_of logs) [] history l keeps.taking taken);
      nine = ap length e ∙ length_counted places (place_of_line journals homes l) ∙ keeps.nine;
      sixteen = ap length f ∙ length-set actors (actor_of l) (slice_index actors (actor_of l) + 1) ∙ keeps.sixteen;
    }

-- there is room to count one more
pub place_room : (journals logs : List JournalParts) (homes places actors : List ℕ) (history : List Line) → Asked journals logs → Keeps journals logs homes places actors history → (l : Line) → LowestReady journals logs homes places actors l
    → length history < 2 ^ 40 → (o : Option ℕ) → o ≡ place_of_line journals homes l → IfSome o (λ p. slice_index places p < 2 ^ 63)
place_room journals logs homes places actors history asked keeps l r small None e = tt
place_room journals logs homes places actors history asked keeps l r small (Some p) e =
    let low : actor_of l < length logs = actor_low journals logs homes places actors l asked.owned r in
    let short : slice_index places p ≤ length history = place_count_short journals logs places actors history keeps.counts (spot_by_journals (clusters_of journals) l) p
    (sym (e ∙ place_of_line_is journals logs homes places actors history asked keeps l low)) in
    omega arith

pub actor_room : (journals logs : List JournalParts) (homes places actors : List ℕ) (history : List Line) → Asked journals logs → Keeps journals logs homes places actors history → (l : Line) → LowestReady journals logs homes places actors l
    → length history < 2 ^ 40 → slice_index actors (actor_of l) < 2 ^ 63
actor_room journals logs homes places actors history asked keeps l r small =
    let low : actor_of l < length logs = actor_low journals logs homes places actors l asked.owned r in
    let short : slice_index actors (actor_of l) ≤ length history = actor_count_short journals logs places actors history keeps.counts (actor_of l) low in
    omega arith
