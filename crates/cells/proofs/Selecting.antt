-- Selecting from a held cluster: the step that its line makes, what it keeps, and the thread that leaves.
use Rattle.std.proofs.Common.{◌≡◌, ℕ, ◌<◌, ◌≤◌, Bool, true, false, List, cond, None, refl, sym, ap, subst, arith}
use Rattle.std.specs.Prelude.{IfSome, is_none}
use Rattle.std.proofs.lemmas.Bool.{cond_both, eq-eqb}
use Rattle.rights.specs.Values.{DeskId}
use Rattle.sched_base.specs.Limits.{moment_limit}
use Rattle.sched_base.specs.declared.Act.TheVariants as acts
use Rattle.sched_base.specs.declared.Answer.TheVariants as answers
use Rattle.sched_base.specs.declared.Facts.{Facts}
use Rattle.flat_policy.specs.Policy.Clusters.{ClusterView, IsCluster, SameRoom, after_select, after_touch, moment_at, pick_of}
use Rattle.flat_policy.specs.Policy.ClusterSteps.{Event, facts_of, got, select_event, touched}
use Rattle.flat_policy.specs.Policy.Moves.{selected}
use Rattle.flat_policy.specs.Policy.Queue.{Flat, Queued}
use Rattle.flat_policy.specs.Policy.Setup.{SetupParts, actor_count, cluster_count, cluster_times, home_of}
use Rattle.flat_policy.specs.Policy.WellFormed.{EachQueued}
use Rattle.flat_policy.specs.Runs.Histories.{CStep, where_true}
use Rattle.flat_policy.specs.Runs.Worker.{Program}
use Rattle.flat_policy.proofs.Entries.{each_member}
use Rattle.flat_policy.proofs.Kept.{pick_stands, selected_entries}
use Rattle.cells.specs.Courses.{OnCourse}
use Rattle.cells.specs.Held.{HeldParts, Keeps, after_selecting, answer_told, entry_of, gives_none, select_entry, selecting_at, stepped, unmarked}
use Rattle.cells.proofs.Keeping.{kept_place, stepped_keeps}
use Rattle.cells.proofs.Leaving.{got_is, got_none, left_each, of_facts, without_some_flat, without_some_place}
use Rattle.cells.proofs.Stepping.{place_step}

pub select_step : (setup : SetupParts) (c : ℕ) (s : Flat) (moment actor : ℕ) → c < cluster_count setup → moment < moment_limit → actor < actor_count setup → s.last ≤ moment → home_of setup actor ≡ c
    → CStep setup c s (unmarked (entry_of moment actor acts.Select (select_event setup c moment s))) (select_event setup c moment s).flat
select_step setup c s moment actor there soon known later home =
    place_step setup c s moment actor acts.Select None (select_event setup c moment s) there soon known later refl refl tt
    (ap (λ (b : Bool). where_true b (select_event setup c moment s)) (eq-eqb (home_of setup actor) c home))

-- what a selection comes to where the cluster is on, and where it is off
abbrev when_on : ClusterView → ℕ → Event
when_on v now = record { answer = got (pick_of v now); thread = facts_of (pick_of v now); flat = selected (cluster_times v.setup v.number) (moment_at v now) v.flat }

abbrev when_off : ClusterView → ℕ → Event
when_off v now = record { answer = answers.Off; thread = None; flat = touched (moment_at v now) v.flat }

-- what holds of both choices holds of each
both : {A B : Type 0} (R : A → B → Type 0) (b : Bool) (x y : A) (u w : B) → R x u → R y w → R (cond b x y) (cond b u w)
both R true x y u w p q = p
both R false x y u w p q = q

pub selecting_flat : (v : ClusterView) (now : ℕ) → (after_selecting v now).flat ≡ (selecting_at v now).flat
selecting_flat v now =
    both (λ (w : ClusterView) (e : Event). w.flat ≡ e.flat) v.flat.on (after_select v now) (after_touch v now) (when_on v now) (when_off v now)
    (without_some_flat (pick_of v now) (selected (cluster_times v.setup v.number) (moment_at v now) v.flat) v) refl

pub selecting_place : (v : ClusterView) (now : ℕ) → ((after_selecting v now).setup ≡ v.setup) × ((after_selecting v now).number ≡ v.number)
selecting_place v now =
    cond_both v.flat.on (after_select v now) (after_touch v now) (λ (w : ClusterView). (w.setup ≡ v.setup) × (w.number ≡ v.number))
    (λ e. without_some_place (pick_of v now) (selected (cluster_times v.setup v.number) (moment_at v now) v.flat) v) (λ e. (refl, refl))

told_by : (b : Bool) (on off : Event) → answer_told true on.thread ≡ on.answer → answer_told false off.thread ≡ off.answer → answer_told b (cond b on off).thread ≡ (cond b on off).answer
told_by true on off p q = p
told_by false on off p q = q

-- the answer by the thread that left
pub selecting_answer : (v : ClusterView) (now : ℕ) → answer_told v.flat.on (selecting_at v now).thread ≡ (selecting_at v now).answer
selecting_answer v now = told_by v.flat.on (when_on v now) (when_off v now) (got_is (pick_of v now)) refl

-- and whether there is none
pub selecting_none : (v : ClusterView) (now : ℕ) → is_none (selecting_at v now).thread ≡ gives_none (selecting_at v now).answer
selecting_none v now =
    cond_both v.flat.on (when_on v now) (when_off v now) (λ (e : Event). is_none e.thread ≡ gives_none e.answer)
    (λ on. got_none (pick_of v now)) (λ off. refl)

-- what holds of each entry holds of those that remain
pub selecting_each : (P : Queued → Type 0) (v : ClusterView) (now : ℕ) → EachQueued P v.flat.entries → EachQueued P (selecting_at v now).flat.entries
selecting_each P v now each =
    cond_both v.flat.on (when_on v now) (when_off v now) (λ (e : Event). EachQueued P e.flat.entries)
    (λ e. subst (EachQueued P) (sym (selected_entries (cluster_times v.setup v.number) (moment_at v now) v.flat)) (left_each P (pick_of v now) v.flat.entries each))
    (λ e. each)

-- and of the one that left
pub selecting_one : (P : Facts → Type 0) (v : ClusterView) (now : ℕ) → EachQueued (λ (e : Queued). P e.facts) v.flat.entries → IfSome (selecting_at v now).thread P
selecting_one P v now each =
    cond_both v.flat.on (when_on v now) (when_off v now) (λ (e : Event). IfSome e.thread P)
    (λ on. of_facts P (pick_of v now) (λ e is. each_member (λ (q : Queued). P q.facts) v.flat.entries each e (pick_stands (cluster_times v.setup v.number) (moment_at v now) v.flat e is)))
    (λ off. tt)

module _ (setup : SetupParts) (programs : List Program) (desks : List DeskId) (c : ℕ) (h : HeldParts) (k : Keeps setup programs desks c h) where
  -- what is kept after a selection
  pub selects_keeps : (now actor : ℕ) → IsCluster h.cluster → actor < actor_count setup → home_of setup actor ≡ c → now < moment_limit → SameRoom h.cluster (after_selecting h.cluster now)
      → Keeps setup programs desks c (stepped (unmarked (select_entry actor h.cluster now)) (after_selecting h.cluster now) h)
  selects_keeps now actor is known home soon room =
      let s : Flat = h.cluster.flat in
      let v : ClusterView = after_selecting h.cluster now in
      let moment : ℕ = moment_at h.cluster now in
      let place = selecting_place h.cluster now in
      let event_is : selecting_at h.cluster now ≡ select_event setup c moment s = λ i. select_event (k.setup_is i) (k.number_is i) moment s in
      let e : Event = selecting_at h.cluster now in
      let step : CStep setup c s (unmarked (entry_of moment actor acts.Select e)) e.flat =
      subst (λ (e : Event). CStep setup c s (unmarked (entry_of moment actor acts.Select e)) e.flat) (sym event_is)
      (select_step setup c s moment actor (kept_place setup programs desks c h k is) (omega (arith, soon, is.fits.last)) known (omega arith) home) in
      stepped_keeps setup programs desks c h k (unmarked (select_entry actor h.cluster now)) v place.0 place.1 room
      (subst (CStep setup c s (unmarked (entry_of moment actor acts.Select e))) (sym (selecting_flat h.cluster now)) step)
      (subst (λ (u : Flat). EachQueued (λ (q : Queued). OnCourse setup programs q.facts) u.entries) (sym (selecting_flat h.cluster now))
      (selecting_each (λ (q : Queued). OnCourse setup programs q.facts) h.cluster now k.course))
