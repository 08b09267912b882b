-- What a held cluster keeps over a step.
use Rattle.std.proofs.Common.{◌≡◌, ℕ, ◌+◌, ◌<◌, ◌≤◌, ◌^◌, Bool, List, length, refl, sym, ap, ◌∙◌, subst, arith}
use Rattle.std.proofs.lemmas.List.{length_push}
use Rattle.rights.specs.Values.{DeskId}
use Rattle.sched_base.specs.Limits.{moment_limit, most_groups, most_threads}
use Rattle.sched_base.specs.declared.Act.TheVariants as acts
use Rattle.sched_base.specs.declared.Facts.{Facts}
use Rattle.flat_policy.specs.declared.journal.Line.{Line}
use Rattle.flat_policy.specs.Policy.Aim.{MayEnter}
use Rattle.flat_policy.specs.Policy.Clusters.{ClusterView, HasNumbers, IsCluster, entered_in, moment_at}
use Rattle.flat_policy.specs.Policy.ClusterSteps.{Event, enter_event}
use Rattle.flat_policy.specs.Policy.Moves.{new_entry, settled_thread}
use Rattle.flat_policy.specs.Policy.Queue.{Flat, Queued}
use Rattle.flat_policy.specs.Policy.Setup.{SetupParts, actor_count, cluster_count, cluster_times, group_count}
use Rattle.flat_policy.specs.Policy.WellFormed.{EachQueued}
use Rattle.flat_policy.specs.Runs.Histories.{CStep}
use Rattle.flat_policy.specs.Runs.Worker.{Program}
use Rattle.flat_policy.proofs.After.{entered_entries}
use Rattle.cells.specs.Courses.{OnCourse}
use Rattle.cells.specs.Held.{AreSmall, HeldParts, Keeps, entering_at, entry_of, stepped, unmarked}
use Rattle.cells.specs.Packs.{amounts_but}
use Rattle.cells.proofs.Entering.{enter_step, entered_course}
use Rattle.cells.proofs.Numbers.{are_small, has_numbers}
use Rattle.cells.proofs.Runs.{run_pushed}

-- two held clusters with the same parts are the same
pub same_parts : (x y : HeldParts) → x.cluster ≡ y.cluster → x.journal ≡ y.journal → x.slots ≡ y.slots → x.lines ≡ y.lines → x.others ≡ y.others → x ≡ y
same_parts x y p q r s t = λ i. record { cluster = p i; journal = q i; slots = r i; lines = s i; others = t i }

module _ (setup : SetupParts) (programs : List Program) (desks : List DeskId) (c : ℕ) (h : HeldParts) (k : Keeps setup programs desks c h) where
  -- the numbers of a kept cluster are far from the end of their type
  pub kept_numbers : IsCluster h.cluster → length h.journal.lines < 2 ^ 40 → HasNumbers h.cluster.flat
  kept_numbers is short =
      has_numbers setup c h.journal.lines h.cluster.flat (subst (λ s. group_count s ≤ most_groups) k.setup_is is.setup.groups_most) short k.history

  pub kept_small : IsCluster h.cluster → length h.journal.lines < 2 ^ 40 → AreSmall h.cluster.flat
  kept_small is short =
      are_small setup c h.journal.lines h.cluster.flat (subst (λ s. group_count s ≤ most_groups) k.setup_is is.setup.groups_most) short k.history

  -- what is kept with more room
  pub roomier_keeps : (v : ClusterView) → v ≡ record h.cluster { spare = v.spare } → h.cluster.spare ≤ v.spare → Keeps setup programs desks c (record h { cluster = v })
  roomier_keeps v is more =
      subst (λ (w : ClusterView). Keeps setup programs desks c (record h { cluster = w })) (sym is)
      (record {
        setup_is = k.setup_is;
        number_is = k.number_is;
        history = k.history;
        course = k.course;
        slots_of = k.slots_of;
        lines_of = k.lines_of;
        parked = k.parked;
        few = k.few;
        spare = omega (arith, k.spare, more);
        room = k.room;
        others_are = k.others_are;
      })

  -- a kept cluster is one of the setup
  pub kept_place : IsCluster h.cluster → c < cluster_count setup
  kept_place is = subst (λ s. c < cluster_count s) k.setup_is (subst (λ d. d < cluster_count h.cluster.setup) k.number_is is.number)

  -- what is kept after a step that its line makes, where the room is as it was, or a right was parked
  pub stepped_keeps : (l : Line) (v : ClusterView) → v.setup ≡ h.cluster.setup → v.number ≡ h.cluster.number → v.spare + length v.flat.entries ≡ h.cluster.spare + length h.cluster.flat.entries
      → CStep setup c h.cluster.flat l v.flat → EachQueued (λ (e : Queued). OnCourse setup programs e.facts) v.flat.entries → Keeps setup programs desks c (stepped l v h)
  stepped_keeps l v same_setup same_number room step course = record {
    setup_is = same_setup ∙ k.setup_is;
    number_is = same_number ∙ k.number_is;
    history = run_pushed setup c h.journal.lines h.cluster.flat l v.flat k.history step;
    course = course;
    slots_of = k.slots_of;
    lines_of = k.lines_of;
    parked = refl;
    few = k.few;
    spare = omega (arith, k.spare, k.parked, room);
    room = omega (arith, k.room);
    others_are = ap (λ (d : ℕ). amounts_but d 0 (length v.flat.entries)) (same_number ∙ k.number_is);
  }

  -- what an entering comes to in a kept cluster
  pub entering_is : (t : Facts) (head : Bool) (now : ℕ) → entering_at h.cluster t head now ≡ enter_event setup c t head (moment_at h.cluster now) h.cluster.flat
  entering_is t head now i = enter_event (k.setup_is i) (k.number_is i) t head (moment_at h.cluster now) h.cluster.flat

  -- one entry more
  pub one_more : (t : Facts) (head : Bool) (now : ℕ) → length (entering_at h.cluster t head now).flat.entries ≡ length h.cluster.flat.entries + 1
  one_more t head now =
      ap length (entered_entries (cluster_times h.cluster.setup h.cluster.number) t head (moment_at h.cluster now) h.cluster.flat)
      ∙ length_push h.cluster.flat.entries (new_entry h.cluster.flat (settled_thread (moment_at h.cluster now) t) head)

  -- what is kept after a thread entered
  pub enters_keeps : (t : Facts) (head : Bool) (now actor slot : ℕ) → IsCluster h.cluster → OnCourse setup programs t → MayEnter setup t c → actor < actor_count setup → now < moment_limit → h.slots.parked + 1 ≤ h.slots.minted
      → Keeps setup programs desks c (stepped (unmarked (entry_of (moment_at h.cluster now) actor (acts.Enter c head) (entering_at h.cluster t head now))) (entered_in h.cluster t head now slot) h)
  enters_keeps t head now actor slot is on may known soon room =
      let s : Flat = h.cluster.flat in
      let moment : ℕ = moment_at h.cluster now in
      let few : length s.entries < most_threads = omega (arith, k.parked, room, k.few) in
      stepped_keeps (unmarked (entry_of moment actor (acts.Enter c head) (entering_at h.cluster t head now))) (entered_in h.cluster t head now slot) refl refl
      (omega (arith, one_more t head now, k.spare, room, k.parked))
      (subst (λ (e : Event). CStep setup c s (unmarked (entry_of moment actor (acts.Enter c head) e)) e.flat) (sym (entering_is t head now))
      (enter_step setup c s t head moment actor (kept_place is) (omega (arith, soon, is.fits.last)) known (omega arith) few on.fits.thread may))
      (subst (λ (e : Event). EachQueued (λ (q : Queued). OnCourse setup programs q.facts) e.flat.entries) (sym (entering_is t head now)) (entered_course setup programs c t head moment s k.course on))
