-- What is left of the runs of the places and the actors, where lines are left in one order.
use Rattle.std.proofs.Common.{◌≡◌, ◌≢◌, ℕ, ◌<◌, ◌==◌, Bool, true, false, List, ◌∷◌, filter, length, set, get_or, Option, Some, refl, sym, ap, ◌∙◌, subst, inl, inr, eq-eqb, ne_eqb}
use Rattle.std.proofs.lemmas.Bool.{cases_eq, cond-false, cond-true}
use Rattle.std.proofs.lemmas.List.{get_or-set_other, get_or-set_same}
use Rattle.sched_base.specs.declared.Spot.{Spot}
use Rattle.sched_base.specs.declared.Spot.TheVariants as spots
use Rattle.flat_policy.specs.declared.journal.Line.{Line}
use Rattle.flat_policy.specs.Policy.Machine.{Hand, no_hand, site_of, spot_from}
use Rattle.flat_policy.specs.Policy.Queue.{Flat, empty_flat}
use Rattle.flat_policy.specs.Policy.Setup.{SetupParts, actor_count, cluster_count}
use Rattle.flat_policy.specs.Runs.Hands.{Allows, OwnFrom, hand_after, hand_after_all}
use Rattle.flat_policy.specs.Runs.Histories.{CRunFrom, RunYard, YRunFrom, act_of, actor_of, flat_after}
use Rattle.flat_policy.specs.Runs.Interleaving.{is_spot_of, is_yard, lines_at, lines_of_actor, yard_lines}

-- the spot of a line, where each actor has a home
abbrev pub spot_by : (ℕ → ℕ) → Line → Option Spot
spot_by home l = spot_from (home (actor_of l)) (site_of (act_of l))

pub filter_takes : {X : Type 0} (p : X → Bool) (x : X) (xs : List X) → p x ≡ true → filter p (x ∷ xs) ≡ x ∷ filter p xs
filter_takes p x xs h = cond-true (p x) (x ∷ filter p xs) (filter p xs) h

pub filter_drops : {X : Type 0} (p : X → Bool) (x : X) (xs : List X) → p x ≡ false → filter p (x ∷ xs) ≡ filter p xs
filter_drops p x xs h = cond-false (p x) (x ∷ filter p xs) (filter p xs) h

-- what holds at each index holds after one element changed, if it holds of the new one
each_after : {X : Type 0} (R : ℕ → X → Type 0) (d : X) (n : ℕ) (xs : List X) (i : ℕ) (x : X) → i < length xs → ((j : ℕ) → j < n → j ≢ i → R j (get_or xs j d)) → R i x → (j : ℕ) → j < n → R j (get_or (set xs i x) j d)
each_after R d n xs i x within others here j below =
    elim (cases_eq j i) [
      | inl e ↦ subst (λ k. R k (get_or (set xs i x) k d)) (sym e) (subst (R i) (sym (get_or-set_same xs i x d within)) here)
      | inr other ↦ subst (R j) (sym (get_or-set_other xs i j x d other)) (others j below other)
    ]

-- each queue runs by its part of the lines to its end
abbrev pub FlatsAhead : SetupParts → (Line → Option Spot) → List Flat → List Line → List Flat → Type 0
FlatsAhead setup spot fs ls ends = (c : ℕ) → c < cluster_count setup → CRunFrom setup c (get_or fs c (empty_flat 0)) (lines_at spot c ls) (get_or ends c (empty_flat 0))

-- the line is the next of its cluster
pub flat_here : (setup : SetupParts) (spot : Line → Option Spot) (fs : List Flat) (l : Line) (ls : List Line) (ends : List Flat) (c : ℕ) → FlatsAhead setup spot fs (l ∷ ls) ends → spot l ≡ Some (spots.Cluster c) → c < cluster_count setup
    → CRunFrom setup c (get_or fs c (empty_flat 0)) (l ∷ lines_at spot c ls) (get_or ends c (empty_flat 0))
flat_here setup spot fs l ls ends c ahead is within =
    subst (λ ks. CRunFrom setup c (get_or fs c (empty_flat 0)) ks (get_or ends c (empty_flat 0)))
    (filter_takes (λ (k : Line). is_spot_of c (spot k)) l ls (ap (is_spot_of c) is ∙ eq-eqb c c refl)) (ahead c within)

pub flats_after : (setup : SetupParts) (spot : Line → Option Spot) (fs : List Flat) (l : Line) (ls : List Line) (ends : List Flat) (c : ℕ) → FlatsAhead setup spot fs (l ∷ ls) ends → spot l ≡ Some (spots.Cluster c) → c < cluster_count setup → c < length fs
    → FlatsAhead setup spot (set fs c (flat_after setup c (get_or fs c (empty_flat 0)) l)) ls ends
flats_after setup spot fs l ls ends c ahead is within there =
    each_after (λ d s. CRunFrom setup d s (lines_at spot d ls) (get_or ends d (empty_flat 0))) (empty_flat 0) (cluster_count setup) fs c (flat_after setup c (get_or fs c (empty_flat 0)) l) there
    (λ d below other. subst (λ ks. CRunFrom setup d (get_or fs d (empty_flat 0)) ks (get_or ends d (empty_flat 0)))
    (filter_drops (λ (k : Line). is_spot_of d (spot k)) l ls (ap (is_spot_of d) is ∙ ne_eqb c d (λ e. other (sym e)))) (ahead d below))
    (flat_here setup spot fs l ls ends c ahead is within).1

-- the line is of no cluster
pub flats_elsewhere : (setup : SetupParts) (spot : Line → Option Spot) (fs : List Flat) (l : Line) (ls : List Line) (ends : List Flat) → FlatsAhead setup spot fs (l ∷ ls) ends → ((c : ℕ) → is_spot_of c (spot l) ≡ false) → FlatsAhead setup spot fs ls ends
flats_elsewhere setup spot fs l ls ends ahead none c below =
    subst (λ ks. CRunFrom setup c (get_or fs c (empty_flat 0)) ks (get_or ends c (empty_flat 0))) (filter_drops (λ (k : Line). is_spot_of c (spot k)) l ls (none c)) (ahead c below)

-- the line is the next of the yard
pub yard_here : (setup : SetupParts) (spot : Line → Option Spot) (y : RunYard) (l : Line) (ls : List Line) (end : RunYard) → YRunFrom setup y (yard_lines spot (l ∷ ls)) end → spot l ≡ Some spots.Yard → YRunFrom setup y (l ∷ yard_lines spot ls) end
yard_here setup spot y l ls end ahead is =
    subst (λ ks. YRunFrom setup y ks end) (filter_takes (λ (k : Line). is_yard (spot k)) l ls (ap is_yard is)) ahead

-- the line is not of the yard
pub yard_elsewhere : (setup : SetupParts) (spot : Line → Option Spot) (y : RunYard) (l : Line) (ls : List Line) (end : RunYard) → YRunFrom setup y (yard_lines spot (l ∷ ls)) end → is_yard (spot l) ≡ false → YRunFrom setup y (yard_lines spot ls) end
yard_elsewhere setup spot y l ls end ahead other =
    subst (λ ks. YRunFrom setup y ks end) (filter_drops (λ (k : Line). is_yard (spot k)) l ls other) ahead

-- a hand allows its part of the lines, which lead it to its end
pub record HandAhead (setup : SetupParts) (a : ℕ) (h : Hand) (ls : List Line) (end : Hand) : Type 0 where
  pub own : OwnFrom setup a h (lines_of_actor a ls)
  pub leads : end ≡ hand_after_all setup h (lines_of_actor a ls)

abbrev pub HandsAhead : SetupParts → List Hand → List Line → List Hand → Type 0
HandsAhead setup hs ls left = (a : ℕ) → a < actor_count setup → HandAhead setup a (get_or hs a no_hand) ls (get_or left a no_hand)

-- the line is the next of its actor
pub hand_here : (setup : SetupParts) (h : Hand) (l : Line) (ls : List Line) (end : Hand) → HandAhead setup (actor_of l) h (l ∷ ls) end → Allows setup (actor_of l) h l × HandAhead setup (actor_of l) (hand_after setup h l) ls end
hand_here setup h l ls end ahead =
    let next = filter_takes (λ (k : Line). actor_of k == actor_of l) l ls (eq-eqb (actor_of l) (actor_of l) refl) in
    let own = subst (OwnFrom setup (actor_of l) h) next ahead.own in
    (own.0, record { own = own.1; leads = ahead.leads ∙ ap (hand_after_all setup h) next })

pub hands_after : (setup : SetupParts) (hs : List Hand) (l : Line) (ls : List Line) (left : List Hand) → HandsAhead setup hs (l ∷ ls) left → actor_of l < actor_count setup → actor_of l < length hs
    → HandsAhead setup (set hs (actor_of l) (hand_after setup (get_or hs (actor_of l) no_hand) l)) ls left
hands_after setup hs l ls left ahead within there =
    each_after (λ a h. HandAhead setup a h ls (get_or left a no_hand)) no_hand (actor_count setup) hs (actor_of l) (hand_after setup (get_or hs (actor_of l) no_hand) l) there
    (λ a below other.
    let skips = filter_drops (λ (k : Line). actor_of k == a) l ls (ne_eqb (actor_of l) a (λ e. other (sym e))) in
    record {
      own = subst (OwnFrom setup a (get_or hs a no_hand)) skips (ahead a below).own;
      leads = (ahead a below).leads ∙ ap (hand_after_all setup (get_or hs a no_hand)) skips;
    })
    (hand_here setup (get_or hs (actor_of l) no_hand) l ls (get_or left (actor_of l) no_hand) (ahead (actor_of l) within)).1
