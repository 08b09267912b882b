-- Takings: they go on to every interleaving, and one that no line can follow is an interleaving or there is none.
use Rattle.std.proofs.Common.{◌≡◌, ◌⊎◌, ℕ, ◌+◌, ◌<◌, ◌==◌, zero, suc, Bool, true, false, List, [], ◌∷◌, ◌++◌, length, Option, Some, None, filter, refl, sym, ap, ◌∙◌, subst, inl, inr, arith, append_assoc, append-nil, eq-eqb, eqb-true}
use Rattle.std.specs.List.{slice_get}
use Rattle.std.specs.Prelude.{slice_index_or}
use Rattle.std.proofs.lemmas.Bool.{false≢true}
use Rattle.std.proofs.lemmas.Option.{none-some, slice_get_past}
use Rattle.sched_base.specs.declared.Spot.{Spot}
use Rattle.sched_base.specs.declared.Spot.TheVariants as spots
use Rattle.flat_policy.specs.declared.journal.Line.{Line}
use Rattle.flat_policy.specs.Runs.Histories.{actor_of}
use Rattle.flat_policy.specs.Runs.Interleaving.{EachLine, Interleaves, IsGiven, IsGivenSpot, is_spot_of, is_yard, lines_at_cluster, lines_in_yard, lines_of_actor, spot_by_journals}
use Rattle.stitch.specs.Taking.{CanTake, IsNextAt, IsTaking, TakesFrom, TakesLowest, next_at, next_of}
use Rattle.stitch.proofs.Moves.{IsFront, IsNext, Weaves, each_both, front_grows, front_is_whole, goes_on, nothing_left}

-- the parts of an interleaving: the clusters' journals, the yard's, and the actors' logs
pub data Part (clusters logs : ℕ) : Type 0 where
  at_cluster : (c : ℕ) → c < clusters → Part clusters logs
  in_yard : Part clusters logs
  of_actor : (a : ℕ) → a < logs → Part clusters logs

abbrev pub PartOf : List (List Line) → List (List Line) → Type 0
PartOf clusters logs = Part (length clusters) (length logs)

abbrev pub belongs : (clusters logs : List (List Line)) → PartOf clusters logs → Line → Bool
belongs clusters logs (at_cluster c h) = λ (l : Line). is_spot_of c (spot_by_journals clusters l)
belongs clusters logs in_yard = λ (l : Line). is_yard (spot_by_journals clusters l)
belongs clusters logs (of_actor a h) = λ (l : Line). actor_of l == a

abbrev pub part_of : (clusters : List (List Line)) → List Line → (logs : List (List Line)) → PartOf clusters logs → List Line
part_of clusters yard logs (at_cluster c h) = slice_index_or clusters c []
part_of clusters yard logs in_yard = yard
part_of clusters yard logs (of_actor a h) = slice_index_or logs a []

abbrev Whole : List (List Line) → List Line → List (List Line) → List Line → Type 0
Whole clusters yard logs history = Weaves (PartOf clusters logs) (belongs clusters logs) (part_of clusters yard logs) (IsGiven clusters logs) history

abbrev Next : List (List Line) → List Line → List (List Line) → List Line → Line → Type 0
Next clusters yard logs history l = IsNext (PartOf clusters logs) (belongs clusters logs) (part_of clusters yard logs) (IsGiven clusters logs) history l

parts_from : (clusters : List (List Line)) (yard : List Line) (logs : List (List Line)) (history : List Line) → Interleaves clusters yard logs history → (i : PartOf clusters logs) → filter (belongs clusters logs i) history ≡ part_of clusters yard logs i
parts_from clusters yard logs history w (at_cluster c h) = w.at_clusters c h
parts_from clusters yard logs history w in_yard = w.in_yard
parts_from clusters yard logs history w (of_actor a h) = w.of_actors a h

whole_from : (clusters : List (List Line)) (yard : List Line) (logs : List (List Line)) (history : List Line) → Interleaves clusters yard logs history → Whole clusters yard logs history
whole_from clusters yard logs history w = record { parts = parts_from clusters yard logs history w; given = w.given }

from_whole : (clusters : List (List Line)) (yard : List Line) (logs : List (List Line)) (history : List Line) → Whole clusters yard logs history → Interleaves clusters yard logs history
from_whole clusters yard logs history w = record {
  at_clusters = λ c h. w.parts (at_cluster c h);
  in_yard = w.parts in_yard;
  of_actors = λ a h. w.parts (of_actor a h);
  given = w.given;
}

-- a list that has a line is one of those given
pub given_list : (lists : List (List Line)) (i k : ℕ) (l : Line) → slice_get (slice_index_or lists i []) k ≡ Some l → i < length lists
given_list [] i k l h = absurd (none-some l h)
given_list (xs ∷ lists) zero k l h = omega arith
given_list (xs ∷ lists) (suc i) k l h = (let later : i < length lists = given_list lists i k l h in omega arith)

given_spot : (clusters : List (List Line)) (yard history : List Line) (l : Line) (o : Option Spot) → IsNextAt clusters yard history l o → IsGivenSpot (length clusters) o
given_spot clusters yard history l None h = tt
given_spot clusters yard history l (Some (spots.Cluster c)) h = given_list clusters c (length (lines_at_cluster clusters c history)) l h
given_spot clusters yard history l (Some spots.Yard) h = tt

next_at_cluster : (clusters : List (List Line)) (yard history : List Line) (l : Line) (c : ℕ) (o : Option Spot) → IsNextAt clusters yard history l o → is_spot_of c o ≡ true → next_at clusters yard history (spots.Cluster c) ≡ Some l
next_at_cluster clusters yard history l c None h t = absurd (false≢true t)
next_at_cluster clusters yard history l c (Some (spots.Cluster d)) h t =
    subst (λ (e : ℕ). next_at clusters yard history (spots.Cluster e) ≡ Some l) (eqb-true d c t) h
next_at_cluster clusters yard history l c (Some spots.Yard) h t = absurd (false≢true t)

next_in_yard : (clusters : List (List Line)) (yard history : List Line) (l : Line) (o : Option Spot) → IsNextAt clusters yard history l o → is_yard o ≡ true → next_at clusters yard history spots.Yard ≡ Some l
next_in_yard clusters yard history l None h t = absurd (false≢true t)
next_in_yard clusters yard history l (Some (spots.Cluster d)) h t = absurd (false≢true t)
next_in_yard clusters yard history l (Some spots.Yard) h t = h

next_of_part : (clusters : List (List Line)) (yard : List Line) (logs : List (List Line)) (history : List Line) (l : Line) → CanTake clusters yard logs history l
    → (i : PartOf clusters logs) → belongs clusters logs i l ≡ true → slice_get (part_of clusters yard logs i) (length (filter (belongs clusters logs i) history)) ≡ Some l
next_of_part clusters yard logs history l can (at_cluster c h) t = next_at_cluster clusters yard history l c (spot_by_journals clusters l) can.at_spot t
next_of_part clusters yard logs history l can in_yard t = next_in_yard clusters yard history l (spot_by_journals clusters l) can.at_spot t
next_of_part clusters yard logs history l can (of_actor a h) t =
    subst (λ (b : ℕ). next_of logs history b ≡ Some l) (eqb-true (actor_of l) a t) can.of_actor

-- a line that can be taken is the next of each of its parts
next_from : (clusters : List (List Line)) (yard : List Line) (logs : List (List Line)) (history : List Line) (l : Line) → CanTake clusters yard logs history l → Next clusters yard logs history l
next_from clusters yard logs history l can = record {
  next = next_of_part clusters yard logs history l can;
  given = (given_list logs (actor_of l) (length (lines_of_actor (actor_of l) history)) l can.of_actor, given_spot clusters yard history l (spot_by_journals clusters l) can.at_spot);
}

spot_from_next : (clusters : List (List Line)) (yard : List Line) (logs : List (List Line)) (history : List Line) (l : Line) → Next clusters yard logs history l → (o : Option Spot) → spot_by_journals clusters l ≡ o → IsGivenSpot (length clusters) o → IsNextAt clusters yard history l o
spot_from_next clusters yard logs history l n None e g = tt
spot_from_next clusters yard logs history l n (Some (spots.Cluster c)) e g = n.next (at_cluster c g) (ap (is_spot_of c) e ∙ eq-eqb c c refl)
spot_from_next clusters yard logs history l n (Some spots.Yard) e g = n.next in_yard (ap is_yard e)

-- and the other way round
can_from : (clusters : List (List Line)) (yard : List Line) (logs : List (List Line)) (history : List Line) (l : Line) → Next clusters yard logs history l → CanTake clusters yard logs history l
can_from clusters yard logs history l n = record {
  of_actor = n.next (of_actor (actor_of l) n.given.0) (eq-eqb (actor_of l) (actor_of l) refl);
  at_spot = spot_from_next clusters yard logs history l n (spot_by_journals clusters l) refl n.given.1;
}

-- wherever lines that were taken go on to an interleaving, they do so with those taken further
taking_goes_on : (clusters : List (List Line)) (yard : List Line) (logs : List (List Line)) (before ls : List Line) → TakesFrom clusters yard logs before ls → (left : List Line) × Interleaves clusters yard logs (before ++ left)
    → (left : List Line) × Interleaves clusters yard logs ((before ++ ls) ++ left)
taking_goes_on clusters yard logs before [] t w =
    (w.0, subst (λ (xs : List Line). Interleaves clusters yard logs (xs ++ w.0)) (sym (append-nil before)) w.1)
taking_goes_on clusters yard logs before (l ∷ ls) t w =
    let n = next_from clusters yard logs before l t.0.can in
    let step = goes_on (PartOf clusters logs) (belongs clusters logs) (part_of clusters yard logs) (IsGiven clusters logs) before w.0 l (of_actor (actor_of l) n.given.0) (eq-eqb (actor_of l) (actor_of l) refl) n (whole_from clusters yard logs (before ++ w.0) w.1) in
    let further = taking_goes_on clusters yard logs (before ++ l ∷ []) ls t.1
    (step.0, subst (Interleaves clusters yard logs) (sym (append_assoc before (l ∷ []) step.0)) (from_whole clusters yard logs (before ++ l ∷ step.0) step.1)) in
    (further.0, subst (λ (xs : List Line). Interleaves clusters yard logs (xs ++ further.0)) (append_assoc before (l ∷ []) ls) further.1)

-- what was taken is the front of each part, and each line of it is given
taking_is_front : (clusters : List (List Line)) (yard : List Line) (logs : List (List Line)) (before ls : List Line) → TakesFrom clusters yard logs before ls → (i : PartOf clusters logs)
    → IsFront (PartOf clusters logs) (belongs clusters logs) (part_of clusters yard logs) before i → IsFront (PartOf clusters logs) (belongs clusters logs) (part_of clusters yard logs) (before ++ ls) i
taking_is_front clusters yard logs before [] t i front =
    subst (λ (xs : List Line). IsFront (PartOf clusters logs) (belongs clusters logs) (part_of clusters yard logs) xs i) (sym (append-nil before)) front
taking_is_front clusters yard logs before (l ∷ ls) t i front =
    subst (λ (xs : List Line). IsFront (PartOf clusters logs) (belongs clusters logs) (part_of clusters yard logs) xs i) (append_assoc before (l ∷ []) ls)
    (taking_is_front clusters yard logs (before ++ l ∷ []) ls t.1 i
    (front_grows (PartOf clusters logs) (belongs clusters logs) (part_of clusters yard logs) (IsGiven clusters logs) before l i front (next_from clusters yard logs before l t.0.can)))

taking_is_given : (clusters : List (List Line)) (yard : List Line) (logs : List (List Line)) (before ls : List Line) → TakesFrom clusters yard logs before ls → EachLine (IsGiven clusters logs) ls
taking_is_given clusters yard logs before [] t = tt
taking_is_given clusters yard logs before (l ∷ ls) t =
    ((next_from clusters yard logs before l t.0.can).given, taking_is_given clusters yard logs (before ++ l ∷ []) ls t.1)

none_of_part : (clusters : List (List Line)) (yard : List Line) (logs : List (List Line)) (history : List Line) → ((s : Spot) → next_at clusters yard history s ≡ None) → ((a : ℕ) → next_of logs history a ≡ None)
    → (i : PartOf clusters logs) → slice_get (part_of clusters yard logs i) (length (filter (belongs clusters logs i) history)) ≡ None
none_of_part clusters yard logs history at of (at_cluster c h) = at (spots.Cluster c)
none_of_part clusters yard logs history at of in_yard = at spots.Yard
none_of_part clusters yard logs history at of (of_actor a h) = of a

-- a taking that leaves no line is an interleaving
pub taking_is_whole : (clusters : List (List Line)) (yard : List Line) (logs : List (List Line)) (history : List Line) → IsTaking clusters yard logs history
    → ((s : Spot) → next_at clusters yard history s ≡ None) → ((a : ℕ) → next_of logs history a ≡ None) → Interleaves clusters yard logs history
taking_is_whole clusters yard logs history t at of =
    from_whole clusters yard logs history (record {
      parts = λ i.
          let front = taking_is_front clusters yard logs [] history t i (part_of clusters yard logs i, refl) in
          front_is_whole (filter (belongs clusters logs i) history) (part_of clusters yard logs i) front.0 front.1 (none_of_part clusters yard logs history at of i);
      given = taking_is_given clusters yard logs [] history t;
    })

-- a taking that no line can follow is an interleaving, wherever there is one
stuck_is_whole : (clusters : List (List Line)) (yard : List Line) (logs : List (List Line)) (history : List Line) → IsTaking clusters yard logs history → ((l : Line) → CanTake clusters yard logs history l → ⊥)
    → (other : List Line) → Interleaves clusters yard logs other → Interleaves clusters yard logs history
stuck_is_whole clusters yard logs history t stuck other w =
    let further = taking_goes_on clusters yard logs [] history t (other, w) in
    let none : further.0 ≡ [] = nothing_left (PartOf clusters logs) (belongs clusters logs) (part_of clusters yard logs) (IsGiven clusters logs) history further.0 (whole_from clusters yard logs (history ++ further.0) further.1) (λ l n. stuck l (can_from clusters yard logs history l n)) in
    subst (Interleaves clusters yard logs) (ap (λ (xs : List Line). history ++ xs) none ∙ append-nil history) further.1

none_behind : (xs ys : List Line) (l : Line) → xs ≡ ys → slice_get ys (length xs) ≡ Some l → ⊥
none_behind xs ys l e h =
    none-some l (sym (slice_get_past ys (length xs) (omega (arith, ap length e))) ∙ h)

whole_leaves_none_at : (clusters : List (List Line)) (yard : List Line) (logs : List (List Line)) (history : List Line) → Interleaves clusters yard logs history → (s : Spot) (l : Line) → next_at clusters yard history s ≡ Some l → ⊥
whole_leaves_none_at clusters yard logs history w (spots.Cluster c) l h =
    none_behind (lines_at_cluster clusters c history) (slice_index_or clusters c []) l (w.at_clusters c (given_list clusters c (length (lines_at_cluster clusters c history)) l h)) h
whole_leaves_none_at clusters yard logs history w spots.Yard l h = none_behind (lines_in_yard clusters history) yard l w.in_yard h

whole_leaves_none_of : (clusters : List (List Line)) (yard : List Line) (logs : List (List Line)) (history : List Line) → Interleaves clusters yard logs history → (a : ℕ) (l : Line) → next_of logs history a ≡ Some l → ⊥
whole_leaves_none_of clusters yard logs history w a l h =
    none_behind (lines_of_actor a history) (slice_index_or logs a []) l (w.of_actors a (given_list logs a (length (lines_of_actor a history)) l h)) h

-- where a taking that no line can follow leaves a line of a spot, there is no interleaving
pub left_at_is_astray : (clusters : List (List Line)) (yard : List Line) (logs : List (List Line)) (history : List Line) → IsTaking clusters yard logs history → ((l : Line) → CanTake clusters yard logs history l → ⊥)
    → (s : Spot) (l : Line) → next_at clusters yard history s ≡ Some l → (other : List Line) → Interleaves clusters yard logs other → ⊥
left_at_is_astray clusters yard logs history t stuck s l h other w =
    whole_leaves_none_at clusters yard logs history (stuck_is_whole clusters yard logs history t stuck other w) s l h

-- nor is there one where it leaves a line of an actor
pub left_of_is_astray : (clusters : List (List Line)) (yard : List Line) (logs : List (List Line)) (history : List Line) → IsTaking clusters yard logs history → ((l : Line) → CanTake clusters yard logs history l → ⊥)
    → (a : ℕ) (l : Line) → next_of logs history a ≡ Some l → (other : List Line) → Interleaves clusters yard logs other → ⊥
left_of_is_astray clusters yard logs history t stuck a l h other w =
    whole_leaves_none_of clusters yard logs history (stuck_is_whole clusters yard logs history t stuck other w) a l h

-- a taking goes on by a line of the lowest actor that can
pub takes_more : (clusters : List (List Line)) (yard : List Line) (logs : List (List Line)) (before ls : List Line) (l : Line) → TakesFrom clusters yard logs before ls → TakesLowest clusters yard logs (before ++ ls) l → TakesFrom clusters yard logs before (ls ++ l ∷ [])
takes_more clusters yard logs before [] l t h =
    (subst (λ (xs : List Line). TakesLowest clusters yard logs xs l) (append-nil before) h, tt)
takes_more clusters yard logs before (m ∷ ls) l t h =
    (t.0, takes_more clusters yard logs (before ++ m ∷ []) ls l t.1 (subst (λ (xs : List Line). TakesLowest clusters yard logs xs l) (sym (append_assoc before (m ∷ []) ls)) h))
