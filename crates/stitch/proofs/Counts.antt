-- Takings by numbers: what is next by the lines counted is what is next by the lines taken.
use Rattle.std.proofs.Common.{◌≡◌, ◌⊎◌, ℕ, zero, suc, ◌+◌, ◌-◌, ◌<◌, ◌≤◌, ◌==◌, nat_lt, Bool, true, false, cond, List, [], ◌∷◌, ◌++◌, length, get_or, set, take, replicate, filter, Option, Some, None, min, refl, sym, ap, ◌∙◌, subst, inl, inr, arith, eq-eqb, eqb-true, ne_eqb, ltb-true, ltb-false, get_or-set_same, get_or-set_other, length-append}
use Rattle.std.specs.List.{slice_get}
use Rattle.std.specs.Prelude.{slice_index, slice_index_or}
use Rattle.std.proofs.lemmas.Bool.{cases_Bool, cases_lt, cond-true, cond-false, false≢true}
use Rattle.std.proofs.lemmas.List.{get_or-take, get_or_past, length-map, length-take}
use Rattle.std.proofs.lemmas.Option.{cond_some, none-some, same_Some}
use Rattle.sched_base.specs.declared.Spot.{Spot}
use Rattle.sched_base.specs.declared.Spot.TheVariants as spots
use Rattle.flat_policy.specs.declared.journal.Line.{Line}
use Rattle.flat_policy.specs.Policy.Machine.{site_of, spot_from}
use Rattle.flat_policy.specs.Runs.Histories.{act_of, actor_of}
use Rattle.flat_policy.specs.Runs.Interleaving.{EachLine, home_by_journals, is_spot_of, is_yard, lines_of_actor, spot_by_journals}
use Rattle.flat_policy.specs.Runs.Journals.{JournalParts}
use Rattle.stitch.specs.Cursors.{FitsSpot, IsReadyOf, LowestReady, NoneReady, counted, next_in, next_log, place_by, place_in}
use Rattle.stitch.specs.Stops.{LogsAreOfActors}
use Rattle.stitch.specs.Taking.{CanTake, IsNextAt, TakesLowest, clusters_of, journal_at, lines_at_spot, lines_of, next_at, next_of, yard_of}
use Rattle.stitch.proofs.Parts.{more_fails, more_passes}
use Rattle.stitch.proofs.Takings.{given_list}

-- the counts are those of the lines taken
pub record Counts (journals logs : List JournalParts) (places actors : List ℕ) (history : List Line) : Type 0 where
  pub at_spots : (s : Spot) (p : ℕ) → place_in (length journals) s ≡ Some p → slice_index places p ≡ length (lines_at_spot (clusters_of journals) s history)
  pub of_actors : (a : ℕ) → a < length logs → slice_index actors a ≡ length (lines_of_actor a history)

-- the homes are those that the journals tell
abbrev pub HomesAre : List JournalParts → List ℕ → Type 0
HomesAre journals homes = (a : ℕ) → a < 16 → slice_index homes a ≡ home_by_journals (clusters_of journals) a

pub length_lines : (journals : List JournalParts) → length (lines_of journals) ≡ length journals
length_lines journals = length-map journals (λ (j : JournalParts). j.lines)

place_is : (n c p : ℕ) → place_in n (spots.Cluster c) ≡ Some p → (c < n - 1) × (c ≡ p)
place_is n c p e = (let h = cond_some (nat_lt c (n - 1)) c p e in (ltb-true c (n - 1) h.0, h.1))

pub place_within : (n : ℕ) (s : Spot) (p : ℕ) → 1 ≤ n → place_in n s ≡ Some p → p < n
place_within n (spots.Cluster c) p some e = (let h = place_is n c p e in omega arith)
place_within n spots.Yard p some e = (let h : n - 1 ≡ p = same_Some (n - 1) p e in omega arith)

-- the journal at the place of a spot is the spot's
pub journal_of : (journals : List JournalParts) (s : Spot) (p : ℕ) → place_in (length journals) s ≡ Some p → slice_index_or (lines_of journals) p [] ≡ journal_at (clusters_of journals) (yard_of journals) s
journal_of journals (spots.Cluster c) p e =
    let h = place_is (length journals) c p e in
    ap (λ (i : ℕ). slice_index_or (lines_of journals) i []) (sym h.1) ∙ sym (get_or-take (length journals - 1) (lines_of journals) c [] h.0)
journal_of journals spots.Yard p e = ap (λ (i : ℕ). slice_index_or (lines_of journals) i []) (sym (same_Some (length journals - 1) p e))

pub no_journal : (journals : List JournalParts) (s : Spot) → place_in (length journals) s ≡ None → journal_at (clusters_of journals) (yard_of journals) s ≡ []
no_journal journals (spots.Cluster c) e =
    elim (cases_Bool (nat_lt c (length journals - 1))) [
      | inl t ↦ absurd (none-some c (sym e ∙ cond-true (nat_lt c (length journals - 1)) (Some c) None t))
      | inr f ↦ (let past : length journals - 1 ≤ c = ltb-false c (length journals - 1) f in
          get_or_past (clusters_of journals) c [] (omega (arith, length-take (length journals - 1) (lines_of journals))))
    ]
no_journal journals spots.Yard e = absurd (none-some (length journals - 1) (sym e))

next_by : (journals logs : List JournalParts) (places actors : List ℕ) (history : List Line) → Counts journals logs places actors history → (s : Spot) (o : Option ℕ) → place_in (length journals) s ≡ o
    → next_in journals places o ≡ next_at (clusters_of journals) (yard_of journals) history s
next_by journals logs places actors history counts s None e =
    sym (ap (λ (ls : List Line). slice_get ls (length (lines_at_spot (clusters_of journals) s history))) (no_journal journals s e))
next_by journals logs places actors history counts s (Some p) e =
    ap (λ (ls : List Line). slice_get ls (slice_index places p)) (journal_of journals s p e)
    ∙ ap (λ (k : ℕ). slice_get (journal_at (clusters_of journals) (yard_of journals) s) k) (counts.at_spots s p e)

-- what is next at a spot
pub next_is : (journals logs : List JournalParts) (places actors : List ℕ) (history : List Line) → Counts journals logs places actors history → (s : Spot)
    → next_in journals places (place_in (length journals) s) ≡ next_at (clusters_of journals) (yard_of journals) history s
next_is journals logs places actors history counts s = next_by journals logs places actors history counts s (place_in (length journals) s) refl

-- what is next of an actor
pub next_of_is : (journals logs : List JournalParts) (places actors : List ℕ) (history : List Line) → Counts journals logs places actors history → (a : ℕ) → next_log logs actors a ≡ next_of (lines_of logs) history a
next_of_is journals logs places actors history counts a =
    elim (cases_lt a (length logs)) [
      | inl low ↦ ap (λ (k : ℕ). slice_get (slice_index_or (lines_of logs) a []) k) (counts.of_actors a low)
      | inr high ↦ (let none : slice_index_or (lines_of logs) a [] ≡ [] = get_or_past (lines_of logs) a [] (omega (arith, length_lines logs)) in
          ap (λ (ls : List Line). slice_get ls (slice_index actors a)) none
          ∙ sym (ap (λ (ls : List Line). slice_get ls (length (lines_of_actor a history))) none))
    ]

fits_to : (journals logs : List JournalParts) (places actors : List ℕ) (history : List Line) → Counts journals logs places actors history → (l : Line) (o : Option Spot) → FitsSpot journals places l o → IsNextAt (clusters_of journals) (yard_of journals) history l o
fits_to journals logs places actors history counts l None h = tt
fits_to journals logs places actors history counts l (Some s) h = sym (next_is journals logs places actors history counts s) ∙ h

fits_from : (journals logs : List JournalParts) (places actors : List ℕ) (history : List Line) → Counts journals logs places actors history → (l : Line) (o : Option Spot) → IsNextAt (clusters_of journals) (yard_of journals) history l o → FitsSpot journals places l o
fits_from journals logs places actors history counts l None h = tt
fits_from journals logs places actors history counts l (Some s) h = next_is journals logs places actors history counts s ∙ h

pub spot_is : (journals : List JournalParts) (homes : List ℕ) → HomesAre journals homes → (l : Line) → actor_of l < 16 → spot_from (slice_index homes (actor_of l)) (site_of (act_of l)) ≡ spot_by_journals (clusters_of journals) l
spot_is journals homes are l low = ap (λ (home : ℕ). spot_from home (site_of (act_of l))) (are (actor_of l) low)

-- what holds of each line holds of the line at a place
pub each_at : (P : Line → Type 0) (ls : List Line) (k : ℕ) (l : Line) → EachLine P ls → slice_get ls k ≡ Some l → P l
each_at P [] k l each h = absurd (none-some l h)
each_at P (m ∷ ls) zero l each h = subst P (same_Some m l h) each.0
each_at P (m ∷ ls) (suc k) l each h = each_at P ls k l each.1 h

-- the line of a log at a place is of the log's actor
pub of_its_actor : (logs : List JournalParts) → LogsAreOfActors (lines_of logs) → (a k : ℕ) (l : Line) → slice_get (slice_index_or (lines_of logs) a []) k ≡ Some l → actor_of l ≡ a
of_its_actor logs owned a k l h =
    each_at (λ (m : Line). actor_of m ≡ a) (slice_index_or (lines_of logs) a []) k l (owned a (given_list (lines_of logs) a k l h)) h

-- a line that can be taken is ready
pub ready_from : (journals logs : List JournalParts) (homes places actors : List ℕ) (history : List Line) → Counts journals logs places actors history → HomesAre journals homes → length logs ≤ 16
    → (l : Line) → CanTake (clusters_of journals) (yard_of journals) (lines_of logs) history l → (actor_of l < length logs) × IsReadyOf journals logs homes places actors (actor_of l) l
ready_from journals logs homes places actors history counts are few l can =
    let given : actor_of l < length (lines_of logs) = given_list (lines_of logs) (actor_of l) (length (lines_of_actor (actor_of l) history)) l can.of_actor in
    let within : actor_of l < length logs = omega (arith, length_lines logs) in (
      within,
      record {
        next = next_of_is journals logs places actors history counts (actor_of l) ∙ can.of_actor;
        fits = subst (FitsSpot journals places l) (sym (spot_is journals homes are l (omega arith)))
            (fits_from journals logs places actors history counts l (spot_by_journals (clusters_of journals) l) can.at_spot);
      },
    )

-- and a ready one can be taken
pub can_take : (journals logs : List JournalParts) (homes places actors : List ℕ) (history : List Line) → Counts journals logs places actors history → HomesAre journals homes → length logs ≤ 16
    → (l : Line) → actor_of l < length logs → IsReadyOf journals logs homes places actors (actor_of l) l → CanTake (clusters_of journals) (yard_of journals) (lines_of logs) history l
can_take journals logs homes places actors history counts are few l within r = record {
  of_actor = sym (next_of_is journals logs places actors history counts (actor_of l)) ∙ r.next;
  at_spot = fits_to journals logs places actors history counts l (spot_by_journals (clusters_of journals) l)
      (subst (FitsSpot journals places l) (spot_is journals homes are l (omega arith)) r.fits);
}

-- the lowest ready line is the one that the taking takes
pub lowest_takes : (journals logs : List JournalParts) (homes places actors : List ℕ) (history : List Line) → Counts journals logs places actors history → HomesAre journals homes → length logs ≤ 16 → LogsAreOfActors (lines_of logs)
    → (l : Line) → LowestReady journals logs homes places actors l → TakesLowest (clusters_of journals) (yard_of journals) (lines_of logs) history l
lowest_takes journals logs homes places actors history counts are few owned l r =
    let same : actor_of l ≡ r.actor = of_its_actor logs owned r.actor (slice_index actors r.actor) l r.ready.next in
    record {
      can = can_take journals logs homes places actors history counts are few l (omega (arith, r.within))
          (subst (λ (a : ℕ). IsReadyOf journals logs homes places actors a l) (sym same) r.ready);
      lowest = λ m can.
          let ready = ready_from journals logs homes places actors history counts are few m can in
          elim (cases_lt (actor_of m) r.actor) [
            | inl lower ↦ absurd (r.lowest (actor_of m) m lower ready.1)
            | inr high ↦ omega arith
          ];
    }

-- where none is ready, none can be taken
pub none_takes : (journals logs : List JournalParts) (homes places actors : List ℕ) (history : List Line) → Counts journals logs places actors history → HomesAre journals homes → length logs ≤ 16
    → NoneReady journals logs homes places actors (length logs) → (l : Line) → CanTake (clusters_of journals) (yard_of journals) (lines_of logs) history l → ⊥
none_takes journals logs homes places actors history counts are few none l can =
    let ready = ready_from journals logs homes places actors history counts are few l can in
    none (actor_of l) l ready.0 ready.1

-- a line happens at a spot
abbrev is_at : Spot → Option Spot → Bool
is_at (spots.Cluster c) o = is_spot_of c o
is_at spots.Yard o = is_yard o

none_at : (s : Spot) → is_at s None ≡ false
none_at (spots.Cluster c) = refl
none_at spots.Yard = refl

-- two spots are one where their places are
same_place : (n : ℕ) (s t : Spot) (p q : ℕ) → 1 ≤ n → place_in n s ≡ Some p → place_in n t ≡ Some q → is_at s (Some t) ≡ (q == p)
same_place n (spots.Cluster c) (spots.Cluster d) p q some e f =
    ap (λ (i : ℕ). i == c) (place_is n d q f).1 ∙ ap (λ (i : ℕ). q == i) (place_is n c p e).1
same_place n (spots.Cluster c) spots.Yard p q some e f =
    let low = place_is n c p e in
    let last : n - 1 ≡ q = same_Some (n - 1) q f in
    sym (ne_eqb q p (λ h. omega arith))
same_place n spots.Yard (spots.Cluster d) p q some e f =
    let low = place_is n d q f in
    let last : n - 1 ≡ p = same_Some (n - 1) p e in
    sym (ne_eqb q p (λ h. omega arith))
same_place n spots.Yard spots.Yard p q some e f = sym (eq-eqb q p (sym (same_Some (n - 1) q f) ∙ same_Some (n - 1) p e))

-- 1 where a test holds, and 0 elsewhere
abbrev one_if : Bool → ℕ
one_if true = 1
one_if false = 0

more_counted : (q : Line → Bool) (history : List Line) (l : Line) → length (filter q (history ++ l ∷ [])) ≡ length (filter q history) + one_if (q l)
more_counted q history l =
    elim (cases_Bool (q l)) [
      | inl e ↦ ap length (more_passes q history l e) ∙ length-append (filter q history) (l ∷ []) ∙ ap (λ (k : ℕ). length (filter q history) + k) (sym (ap one_if e))
      | inr e ↦ (let none : one_if (q l) ≡ 0 = ap one_if e in
          let same : length (filter q (history ++ l ∷ [])) ≡ length (filter q history) = ap length (more_fails q history l e) in
          omega arith)
    ]

more_at : (clusters : List (List Line)) (s : Spot) (history : List Line) (l : Line) → length (lines_at_spot clusters s (history ++ l ∷ [])) ≡ length (lines_at_spot clusters s history) + one_if (is_at s (spot_by_journals clusters l))
more_at clusters (spots.Cluster c) history l = more_counted (λ (m : Line). is_spot_of c (spot_by_journals clusters m)) history l
more_at clusters spots.Yard history l = more_counted (λ (m : Line). is_yard (spot_by_journals clusters m)) history l

one_more : (counts : List ℕ) (q p : ℕ) → q < length counts → slice_index (set counts q (slice_index counts q + 1)) p ≡ slice_index counts p + one_if (q == p)
one_more counts q p within =
    elim (cases_Bool (q == p)) [
      | inl e ↦ (let same : q ≡ p = eqb-true q p e in
          subst (λ (i : ℕ). slice_index (set counts q (slice_index counts q + 1)) i ≡ slice_index counts i + one_if (q == i)) same
          (get_or-set_same counts q (slice_index counts q + 1) 0 within ∙ ap (λ (k : ℕ). slice_index counts q + k) (sym (ap one_if (eq-eqb q q refl)))))
      | inr e ↦ (let none : one_if (q == p) ≡ 0 = ap one_if e in
          let stays : slice_index (set counts q (slice_index counts q + 1)) p ≡ slice_index counts p = get_or-set_other counts q p (slice_index counts q + 1) 0 (λ h. false≢true (sym e ∙ eq-eqb q p (sym h))) in
          omega arith)
    ]

option_cases : {X : Type 0} (o : Option X) → (o ≡ None) ⊎ ((x : X) × (o ≡ Some x))
option_cases None = inl refl
option_cases (Some x) = inr (x, refl)

counted_at : (journals logs : List JournalParts) (places actors : List ℕ) (history : List Line) → Counts journals logs places actors history → 1 ≤ length journals → length journals ≤ length places
    → (l : Line) (o : Option Spot) → IsNextAt (clusters_of journals) (yard_of journals) history l o → (s : Spot) (p : ℕ) → place_in (length journals) s ≡ Some p
    → slice_index (counted places (place_by (length journals) o)) p ≡ length (lines_at_spot (clusters_of journals) s history) + one_if (is_at s o)
counted_at journals logs places actors history counts some room l None next s p e =
    let none : one_if (is_at s None) ≡ 0 = ap one_if (none_at s) in
    let before : slice_index places p ≡ length (lines_at_spot (clusters_of journals) s history) = counts.at_spots s p e in
    omega arith
counted_at journals logs places actors history counts some room l (Some t) next s p e =
    elim (option_cases (place_in (length journals) t)) [
      | inl none ↦ absurd (none-some l (sym (ap (λ (ls : List Line). slice_get ls (length (lines_at_spot (clusters_of journals) t history))) (no_journal journals t none)) ∙ next))
      | inr found ↦ (let within : found.0 < length journals = place_within (length journals) t found.0 some found.1 in
          ap (λ (q : Option ℕ). slice_index (counted places q) p) found.1
          ∙ one_more places found.0 p (omega arith)
          ∙ ap (λ (k : ℕ). k + one_if (found.0 == p)) (counts.at_spots s p e)
          ∙ ap (λ (b : Bool). length (lines_at_spot (clusters_of journals) s history) + one_if b) (sym (same_place (length journals) s t p found.0 some e found.1)))
    ]

-- the counts with a line more
pub counts_more : (journals logs : List JournalParts) (places actors : List ℕ) (history : List Line) → Counts journals logs places actors history → 1 ≤ length journals → length journals ≤ length places → length logs ≤ length actors
    → (l : Line) → CanTake (clusters_of journals) (yard_of journals) (lines_of logs) history l
    → Counts journals logs (counted places (place_by (length journals) (spot_by_journals (clusters_of journals) l))) (set actors (actor_of l) (slice_index actors (actor_of l) + 1)) (history ++ l ∷ [])
counts_more journals logs places actors history counts some room actor_room l can =
    let given : actor_of l < length (lines_of logs) = given_list (lines_of logs) (actor_of l) (length (lines_of_actor (actor_of l) history)) l can.of_actor in
    record {
      at_spots = λ s p e.
          counted_at journals logs places actors history counts some room l (spot_by_journals (clusters_of journals) l) can.at_spot s p e
          ∙ sym (more_at (clusters_of journals) s history l);
      of_actors = λ a low.
          one_more actors (actor_of l) a (omega (arith, length_lines logs))
          ∙ ap (λ (k : ℕ). k + one_if (actor_of l == a)) (counts.of_actors a low)
          ∙ sym (more_counted (λ (m : Line). actor_of m == a) history l);
    }

none_taken_at : (clusters : List (List Line)) (s : Spot) → length (lines_at_spot clusters s []) ≡ 0
none_taken_at clusters (spots.Cluster c) = refl
none_taken_at clusters spots.Yard = refl

zeros : (n p : ℕ) → slice_index (replicate n 0) p ≡ 0
zeros zero p = refl
zeros (suc n) zero = refl
zeros (suc n) (suc p) = zeros n p

-- no line is taken at first
pub counts_none : (journals logs : List JournalParts) (n m : ℕ) → Counts journals logs (replicate n 0) (replicate m 0) []
counts_none journals logs n m = record {
  at_spots = λ s p e. zeros n p ∙ sym (none_taken_at (clusters_of journals) s);
  of_actors = λ a low. zeros m a;
}

filter_short : (q : Line → Bool) (ls : List Line) → length (filter q ls) ≤ length ls
filter_short q [] = omega arith
filter_short q (l ∷ ls) =
    let rest : length (filter q ls) ≤ length ls = filter_short q ls in
    elim (cases_Bool (q l)) [
      | inl e ↦ (let more : length (filter q (l ∷ ls)) ≡ length (l ∷ filter q ls) = ap length (cond-true (q l) (l ∷ filter q ls) (filter q ls) e) in omega arith)
      | inr e ↦ (let same : length (filter q (l ∷ ls)) ≡ length (filter q ls) = ap length (cond-false (q l) (l ∷ filter q ls) (filter q ls) e) in omega arith)
    ]

at_spot_short : (clusters : List (List Line)) (s : Spot) (history : List Line) → length (lines_at_spot clusters s history) ≤ length history
at_spot_short clusters (spots.Cluster c) history = filter_short (λ (l : Line). is_spot_of c (spot_by_journals clusters l)) history
at_spot_short clusters spots.Yard history = filter_short (λ (l : Line). is_yard (spot_by_journals clusters l)) history

-- no count is more than the number of all lines taken
pub place_count_short : (journals logs : List JournalParts) (places actors : List ℕ) (history : List Line) → Counts journals logs places actors history → (o : Option Spot) (p : ℕ) → place_by (length journals) o ≡ Some p → slice_index places p ≤ length history
place_count_short journals logs places actors history counts None p e = absurd (none-some p e)
place_count_short journals logs places actors history counts (Some s) p e =
    let here : slice_index places p ≡ length (lines_at_spot (clusters_of journals) s history) = counts.at_spots s p e in
    let short : length (lines_at_spot (clusters_of journals) s history) ≤ length history = at_spot_short (clusters_of journals) s history in
    omega arith

pub actor_count_short : (journals logs : List JournalParts) (places actors : List ℕ) (history : List Line) → Counts journals logs places actors history → (a : ℕ) → a < length logs → slice_index actors a ≤ length history
actor_count_short journals logs places actors history counts a low =
    let here : slice_index actors a ≡ length (lines_of_actor a history) = counts.of_actors a low in
    let short : length (lines_of_actor a history) ≤ length history = filter_short (λ (l : Line). actor_of l == a) history in
    omega arith
