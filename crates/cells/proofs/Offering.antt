-- Offering from a held cluster: the step that its line makes, what it keeps, and the thread that leaves.
use Rattle.std.proofs.Common.{◌≡◌, ◌≢◌, ℕ, ◌<◌, ◌≤◌, ◌==◌, nat_lt, ◌&&◌, not, Bool, true, List, None, refl, sym, ap, ◌∙◌, subst, arith}
use Rattle.std.specs.Prelude.{IfSome, is_none}
use Rattle.std.proofs.lemmas.Bool.{and_from, eq-eqb, lt-ltb, ne_eqb}
use Rattle.rights.specs.Values.{DeskId}
use Rattle.sched_base.specs.Limits.{moment_limit}
use Rattle.sched_base.specs.declared.Act.TheVariants as acts
use Rattle.sched_base.specs.declared.Facts.{Facts}
use Rattle.flat_policy.specs.Policy.Clusters.{ClusterView, IsCluster, SameRoom, after_offer, moment_at, offer_of}
use Rattle.flat_policy.specs.Policy.ClusterSteps.{Event, flat_after_offer, offer_event}
use Rattle.flat_policy.specs.Policy.Offer.{mask_between}
use Rattle.flat_policy.specs.Policy.Queue.{Flat, Queued}
use Rattle.flat_policy.specs.Policy.Setup.{SetupParts, actor_count, cluster_count, home_of, migrates}
use Rattle.flat_policy.specs.Policy.WellFormed.{EachQueued}
use Rattle.flat_policy.specs.Runs.Histories.{CStep, where_true}
use Rattle.flat_policy.specs.Runs.Worker.{Program}
use Rattle.flat_policy.proofs.Entries.{each_member}
use Rattle.flat_policy.proofs.Kept.{after_offer_entries, offered_stands}
use Rattle.cells.specs.Courses.{OnCourse}
use Rattle.cells.specs.Held.{HeldParts, Keeps, entry_of, gives_none, offer_entry, offering_at, stepped, unmarked}
use Rattle.cells.proofs.Keeping.{kept_place, stepped_keeps}
use Rattle.cells.proofs.Leaving.{got_none, left_each, of_facts, without_some_flat, without_some_place}
use Rattle.cells.proofs.Stepping.{place_step}

offer_step_home : (setup : SetupParts) (c : ℕ) (s : Flat) (moment actor : ℕ) → c < cluster_count setup → moment < moment_limit → actor < actor_count setup → s.last ≤ moment → home_of setup actor ≢ c
    → CStep setup c s (unmarked (entry_of moment actor (acts.Offer c) (offer_event setup c (home_of setup actor) moment s))) (offer_event setup c (home_of setup actor) moment s).flat
offer_step_home setup c s moment actor there soon known later other =
    let home : ℕ = home_of setup actor in
    let event : Event = offer_event setup c home moment s in
    let test : ((c == c) && not (home == c)) ≡ true = and_from (c == c) (not (home == c)) (eq-eqb c c refl) (ap not (ne_eqb home c other)) in
    place_step setup c s moment actor (acts.Offer c) None event there soon known later
    (and_from (nat_lt c (cluster_count setup)) true (lt-ltb c (cluster_count setup) there) refl) refl tt
    (ap (λ (b : Bool). where_true b event) test)

pub offer_step : (setup : SetupParts) (c : ℕ) (s : Flat) (moment actor to : ℕ) → c < cluster_count setup → moment < moment_limit → actor < actor_count setup → s.last ≤ moment → home_of setup actor ≡ to → to ≢ c
    → CStep setup c s (unmarked (entry_of moment actor (acts.Offer c) (offer_event setup c to moment s))) (offer_event setup c to moment s).flat
offer_step setup c s moment actor to there soon known later home other =
    subst (λ (d : ℕ). CStep setup c s (unmarked (entry_of moment actor (acts.Offer c) (offer_event setup c d moment s))) (offer_event setup c d moment s).flat) home
    (offer_step_home setup c s moment actor there soon known later (λ e. other (sym home ∙ e)))

pub offering_flat : (v : ClusterView) (to now : ℕ) → (after_offer v to now).flat ≡ (offering_at v to now).flat
offering_flat v to now = without_some_flat (offer_of v to) (flat_after_offer (moment_at v now) v.flat (offer_of v to)) v

pub offering_place : (v : ClusterView) (to now : ℕ) → ((after_offer v to now).setup ≡ v.setup) × ((after_offer v to now).number ≡ v.number)
offering_place v to now = without_some_place (offer_of v to) (flat_after_offer (moment_at v now) v.flat (offer_of v to)) v

-- the answer tells whether no thread leaves
pub offering_none : (v : ClusterView) (to now : ℕ) → is_none (offering_at v to now).thread ≡ gives_none (offering_at v to now).answer
offering_none v to now = got_none (offer_of v to)

-- what holds of each entry holds of those that remain
pub offering_each : (P : Queued → Type 0) (v : ClusterView) (to now : ℕ) → EachQueued P v.flat.entries → EachQueued P (offering_at v to now).flat.entries
offering_each P v to now each =
    subst (EachQueued P) (sym (after_offer_entries (moment_at v now) v.flat (offer_of v to))) (left_each P (offer_of v to) v.flat.entries each)

-- and of the one that left
pub offering_one : (P : Facts → Type 0) (v : ClusterView) (to now : ℕ) → EachQueued (λ (e : Queued). P e.facts) v.flat.entries → IfSome (offering_at v to now).thread P
offering_one P v to now each =
    of_facts P (offer_of v to) (λ e is. each_member (λ (q : Queued). P q.facts) v.flat.entries each e
    (offered_stands to (migrates v.setup v.number to) (mask_between v.setup v.number to v.flat.on) v.flat e is).0)

module _ (setup : SetupParts) (programs : List Program) (desks : List DeskId) (c : ℕ) (h : HeldParts) (k : Keeps setup programs desks c h) where
  -- what is kept after an offering
  pub offers_keeps : (to now actor : ℕ) → IsCluster h.cluster → actor < actor_count setup → home_of setup actor ≡ to → to ≢ c → now < moment_limit → SameRoom h.cluster (after_offer h.cluster to now)
      → Keeps setup programs desks c (stepped (unmarked (offer_entry c actor h.cluster to now)) (after_offer h.cluster to now) h)
  offers_keeps to now actor is known home other soon room =
      let s : Flat = h.cluster.flat in
      let v : ClusterView = after_offer h.cluster to now in
      let moment : ℕ = moment_at h.cluster now in
      let place = offering_place h.cluster to now in
      let event_is : offering_at h.cluster to now ≡ offer_event setup c to moment s = λ i. offer_event (k.setup_is i) (k.number_is i) to moment s in
      let e : Event = offering_at h.cluster to now in
      let step : CStep setup c s (unmarked (entry_of moment actor (acts.Offer c) e)) e.flat =
      subst (λ (e : Event). CStep setup c s (unmarked (entry_of moment actor (acts.Offer c) e)) e.flat) (sym event_is)
      (offer_step setup c s moment actor to (kept_place setup programs desks c h k is) (omega (arith, soon, is.fits.last)) known (omega arith) home other) in
      stepped_keeps setup programs desks c h k (unmarked (offer_entry c actor h.cluster to now)) v place.0 place.1 room
      (subst (CStep setup c s (unmarked (entry_of moment actor (acts.Offer c) e))) (sym (offering_flat h.cluster to now)) step)
      (subst (λ (u : Flat). EachQueued (λ (q : Queued). OnCourse setup programs q.facts) u.entries) (sym (offering_flat h.cluster to now))
      (offering_each (λ (q : Queued). OnCourse setup programs q.facts) h.cluster to now k.course))
