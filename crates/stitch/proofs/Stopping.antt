-- What is told of a stop by numbers is what is told of it by the lines taken.
use Rattle.std.proofs.Common.{◌≡◌, ◌⊎◌, ℕ, ◌+◌, ◌-◌, ◌<◌, ◌≤◌, ◌==◌, nat_lt, Bool, true, false, cond, List, [], ◌∷◌, length, Option, Some, None, refl, sym, ap, ◌∙◌, subst, inl, inr, arith, eq-eqb, eqb-true, lt-ltb, ltb-true}
use Rattle.std.specs.List.{slice_get}
use Rattle.std.specs.Prelude.{slice_index, slice_index_or}
use Rattle.std.proofs.lemmas.Bool.{cases_Bool, cases_lt, cond-true, cond-false, false≢true}
use Rattle.std.proofs.lemmas.List.{get_or_past}
use Rattle.std.proofs.lemmas.Option.{cond_some, none-some, same_Some}
use Rattle.sched_base.specs.declared.Spot.{Spot}
use Rattle.sched_base.specs.declared.Spot.TheVariants as spots
use Rattle.flat_policy.specs.declared.journal.Line.{Line}
use Rattle.flat_policy.specs.Policy.Machine.{site_of, spot_from}
use Rattle.flat_policy.specs.Runs.Histories.{act_of, actor_of}
use Rattle.flat_policy.specs.Runs.Interleaving.{lines_of_actor, spot_by_journals}
use Rattle.flat_policy.specs.Runs.Journals.{JournalParts}
use Rattle.stitch.specs.declared.Astray.{Astray}
use Rattle.stitch.specs.Cursors.{next_in, next_log, place_in}
use Rattle.stitch.specs.Left.{AllInHand, FirstLeftAt, FirstLeftOf, NoneLeftAt, length_in, spot_at}
use Rattle.stitch.specs.Stops.{ComesBefore, GoAstray, LogsAreOfActors, StopsAtActor, StopsAtSpot}
use Rattle.stitch.specs.Taking.{CanTake, IsNextAt, IsTaking, clusters_of, journal_at, lines_of, next_at, next_of, yard_of}
use Rattle.stitch.proofs.Counts.{Counts, HomesAre, journal_of, length_lines, next_is, next_of_is, no_journal, of_its_actor, place_within, spot_is}
use Rattle.stitch.proofs.Takings.{left_at_is_astray, left_of_is_astray}

below_last : (n p : ℕ) → p < n → (p == n - 1) ≡ false → p < n - 1
below_last n p within e =
    elim (cases_lt p (n - 1)) [
      | inl low ↦ low
      | inr high ↦ (let last : p ≡ n - 1 = omega arith in absurd (false≢true (sym e ∙ eq-eqb p (n - 1) last)))
    ]

place_of_spot : (n p : ℕ) → p < n → place_in n (spot_at n p) ≡ Some p
place_of_spot n p within =
    elim (cases_Bool (p == n - 1)) [
      | inl e ↦ ap (place_in n) (cond-true (p == n - 1) spots.Yard (spots.Cluster p) e) ∙ ap (λ (i : ℕ). Some i) (sym (eqb-true p (n - 1) e))
      | inr e ↦ (let low : p < n - 1 = below_last n p within e in
          ap (place_in n) (cond-false (p == n - 1) spots.Yard (spots.Cluster p) e) ∙ cond-true (nat_lt p (n - 1)) (Some p) None (lt-ltb p (n - 1) low))
    ]

cluster_is : (n c p : ℕ) → place_in n (spots.Cluster c) ≡ Some p → (nat_lt c (n - 1) ≡ true) × (c ≡ p)
cluster_is n c p e = cond_some (nat_lt c (n - 1)) c p e

before_place : (n : ℕ) (s t : Spot) (p q : ℕ) → ComesBefore s t → place_in n s ≡ Some q → place_in n t ≡ Some p → q < p
before_place n (spots.Cluster c) (spots.Cluster d) p q before e f = (let h = cluster_is n c q e in let k = cluster_is n d p f in omega (arith, before, h.1, k.1))
before_place n (spots.Cluster c) spots.Yard p q before e f =
    (let h = cluster_is n c q e in let low : c < n - 1 = ltb-true c (n - 1) h.0 in let last : n - 1 ≡ p = same_Some (n - 1) p f in omega (arith, h.1))
before_place n spots.Yard t p q before e f = absurd before

-- no journal before a place has a line left
none_by : (journals logs : List JournalParts) (places actors : List ℕ) (history : List Line) → Counts journals logs places actors history → (count : ℕ) → NoneLeftAt journals places count
    → (s : Spot) (o : Option ℕ) → place_in (length journals) s ≡ o → ((p : ℕ) → o ≡ Some p → p < count) → next_at (clusters_of journals) (yard_of journals) history s ≡ None
none_by journals logs places actors history counts count none s None e low =
    sym (next_is journals logs places actors history counts s) ∙ ap (next_in journals places) e
none_by journals logs places actors history counts count none s (Some p) e low =
    sym (next_is journals logs places actors history counts s) ∙ ap (next_in journals places) e ∙ none p (low p refl)

-- all journals are used up
pub used_up : (journals logs : List JournalParts) (places actors : List ℕ) (history : List Line) → Counts journals logs places actors history → 1 ≤ length journals → NoneLeftAt journals places (length journals)
    → (s : Spot) → next_at (clusters_of journals) (yard_of journals) history s ≡ None
used_up journals logs places actors history counts some none s =
    none_by journals logs places actors history counts (length journals) none s (place_in (length journals) s) refl
    (λ p e. place_within (length journals) s p some e)

stop_at_spot : (journals logs : List JournalParts) (places actors : List ℕ) (history : List Line) → Counts journals logs places actors history → (stop : Astray) → FirstLeftAt journals logs places actors stop
    → StopsAtSpot (clusters_of journals) (yard_of journals) (lines_of logs) history stop
stop_at_spot journals logs places actors history counts stop left =
    let at : place_in (length journals) stop.spot ≡ Some left.place = ap (place_in (length journals)) left.leaves.spot ∙ place_of_spot (length journals) left.place left.within in
    record {
      line = left.leaves.line;
      here = left.leaves.here;
      next = sym (next_is journals logs places actors history counts stop.spot) ∙ ap (next_in journals places) at ∙ left.leaves.next;
      first = λ s before.
          none_by journals logs places actors history counts left.place left.first s (place_in (length journals) s) refl
          (λ q e. before_place (length journals) s stop.spot left.place q before e at);
      index = left.leaves.index ∙ counts.at_spots stop.spot left.place at;
      actor = left.leaves.actor;
      there = left.leaves.there ∙ next_of_is journals logs places actors history counts stop.actor;
    }

-- a line left of a spot, where no line can be taken
pub astray_at_spot : (journals logs : List JournalParts) (places actors : List ℕ) (history : List Line) → Counts journals logs places actors history
    → IsTaking (clusters_of journals) (yard_of journals) (lines_of logs) history → ((l : Line) → CanTake (clusters_of journals) (yard_of journals) (lines_of logs) history l → ⊥)
    → (stop : Astray) → FirstLeftAt journals logs places actors stop → GoAstray (clusters_of journals) (yard_of journals) (lines_of logs) stop
astray_at_spot journals logs places actors history counts taking stuck stop left =
    let stops = stop_at_spot journals logs places actors history counts stop left in
    record {
      none = left_at_is_astray (clusters_of journals) (yard_of journals) (lines_of logs) history taking stuck stop.spot stops.line stops.next;
      taken = history;
      taking = taking;
      stuck = stuck;
      stops = inl stops;
    }

-- the next line of an actor has a spot, where no line can be taken
in_hand_is_none : (journals logs : List JournalParts) (homes places actors : List ℕ) (history : List Line) → Counts journals logs places actors history → HomesAre journals homes → LogsAreOfActors (lines_of logs) → length logs ≤ 16
    → ((l : Line) → CanTake (clusters_of journals) (yard_of journals) (lines_of logs) history l → ⊥) → (count : ℕ) → count ≤ length logs → AllInHand logs homes actors count
    → (a : ℕ) → a < count → (o : Option Line) → next_of (lines_of logs) history a ≡ o → o ≡ None
in_hand_is_none journals logs homes places actors history counts are owned few stuck count most hand a low None e = refl
in_hand_is_none journals logs homes places actors history counts are owned few stuck count most hand a low (Some l) e =
    let next : next_log logs actors a ≡ Some l = next_of_is journals logs places actors history counts a ∙ e in
    let same : actor_of l ≡ a = of_its_actor logs owned a (slice_index actors a) l next in
    let away : spot_from (slice_index homes (actor_of l)) (site_of (act_of l)) ≡ None = ap (λ (b : ℕ). spot_from (slice_index homes b) (site_of (act_of l))) same ∙ hand a low l next in
    let nowhere : spot_by_journals (clusters_of journals) l ≡ None = sym (spot_is journals homes are l (omega arith)) ∙ away in
    absurd (stuck l (record {
      of_actor = ap (next_of (lines_of logs) history) same ∙ e;
      at_spot = subst (IsNextAt (clusters_of journals) (yard_of journals) history l) (sym nowhere) tt;
    }))

-- no actor has a line left
pub all_taken : (journals logs : List JournalParts) (homes places actors : List ℕ) (history : List Line) → Counts journals logs places actors history → HomesAre journals homes → LogsAreOfActors (lines_of logs) → length logs ≤ 16
    → ((l : Line) → CanTake (clusters_of journals) (yard_of journals) (lines_of logs) history l → ⊥) → AllInHand logs homes actors (length logs) → (a : ℕ) → next_of (lines_of logs) history a ≡ None
all_taken journals logs homes places actors history counts are owned few stuck hand a =
    elim (cases_lt a (length logs)) [
      | inl low ↦ in_hand_is_none journals logs homes places actors history counts are owned few stuck (length logs) (omega arith) hand a low (next_of (lines_of logs) history a) refl
      | inr high ↦ ap (λ (ls : List Line). slice_get ls (length (lines_of_actor a history))) (get_or_past (lines_of logs) a [] (omega (arith, length_lines logs)))
    ]

length_by : (journals : List JournalParts) (s : Spot) (o : Option ℕ) → place_in (length journals) s ≡ o → length_in journals o ≡ length (journal_at (clusters_of journals) (yard_of journals) s)
length_by journals s None e = sym (ap length (no_journal journals s e))
length_by journals s (Some p) e = ap length (journal_of journals s p e)

stop_of_actor : (journals logs : List JournalParts) (homes places actors : List ℕ) (history : List Line) → Counts journals logs places actors history → HomesAre journals homes → LogsAreOfActors (lines_of logs) → length logs ≤ 16
    → ((l : Line) → CanTake (clusters_of journals) (yard_of journals) (lines_of logs) history l → ⊥) → ((s : Spot) → next_at (clusters_of journals) (yard_of journals) history s ≡ None)
    → (stop : Astray) → FirstLeftOf journals logs homes actors stop → StopsAtActor (clusters_of journals) (yard_of journals) (lines_of logs) history stop
stop_of_actor journals logs homes places actors history counts are owned few stuck used stop left =
    let l : Line = left.leaves.line in
    let next : next_log logs actors left.owner ≡ Some l = left.leaves.next in
    let same : actor_of l ≡ left.owner = of_its_actor logs owned left.owner (slice_index actors left.owner) l next in
    let low : left.owner < length logs = left.within in
    record {
      line = l;
      used_up = used;
      here = left.leaves.here;
      there = left.leaves.there;
      next = ap (next_of (lines_of logs) history) left.leaves.actor ∙ sym (next_of_is journals logs places actors history counts left.owner) ∙ next;
      first = λ a before.
          in_hand_is_none journals logs homes places actors history counts are owned few stuck left.owner (omega arith) left.first a (omega (arith, left.leaves.actor)) (next_of (lines_of logs) history a) refl;
      spot = sym (spot_is journals homes are l (omega arith)) ∙ ap (λ (b : ℕ). spot_from (slice_index homes b) (site_of (act_of l))) same ∙ left.leaves.spot;
      index = left.leaves.index ∙ length_by journals stop.spot (place_in (length journals) stop.spot) refl;
    }

-- a line left of an actor, where all journals are used up and no line can be taken
pub astray_of_actor : (journals logs : List JournalParts) (homes places actors : List ℕ) (history : List Line) → Counts journals logs places actors history → HomesAre journals homes → LogsAreOfActors (lines_of logs) → length logs ≤ 16
    → IsTaking (clusters_of journals) (yard_of journals) (lines_of logs) history → ((l : Line) → CanTake (clusters_of journals) (yard_of journals) (lines_of logs) history l → ⊥)
    → ((s : Spot) → next_at (clusters_of journals) (yard_of journals) history s ≡ None) → (stop : Astray) → FirstLeftOf journals logs homes actors stop
    → GoAstray (clusters_of journals) (yard_of journals) (lines_of logs) stop
astray_of_actor journals logs homes places actors history counts are owned few taking stuck used stop left =
    let stops = stop_of_actor journals logs homes places actors history counts are owned few stuck used stop left in
    record {
      none = left_of_is_astray (clusters_of journals) (yard_of journals) (lines_of logs) history taking stuck stop.actor stops.line stops.next;
      taken = history;
      taking = taking;
      stuck = stuck;
      stops = inr stops;
    }
