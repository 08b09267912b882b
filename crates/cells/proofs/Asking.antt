-- Steps of a held cluster that move no thread: the steps that the lines of a look and of a turn make, and what is kept.
use Rattle.std.proofs.Common.{◌≡◌, ℕ, ◌-◌, ◌<◌, ◌≤◌, ◌==◌, nat_lt, Bool, true, false, List, length, Some, None, is_some, option_and_then, refl, sym, ap, ◌∙◌, subst, arith}
use Rattle.std.specs.Option.{option_map}
use Rattle.std.proofs.lemmas.Bool.{and_from, cond-true, eq-eqb, lt-ltb}
use Rattle.rights.specs.Values.{DeskId}
use Rattle.sched_base.specs.Bucket.{index}
use Rattle.sched_base.specs.Limits.{moment_limit}
use Rattle.sched_base.specs.declared.Act.TheVariants as acts
use Rattle.sched_base.specs.declared.Answer.TheVariants as answers
use Rattle.sched_base.specs.declared.Bucket.{Bucket}
use Rattle.sched_base.specs.declared.Bucket.TheVariants.{Bg, Df, Fg, Ini, Ui, Ut}
use Rattle.flat_policy.specs.declared.journal.Line.{Line}
use Rattle.flat_policy.specs.Policy.Aim.{load}
use Rattle.flat_policy.specs.Policy.Clusters.{ClusterView, IsCluster, after_touch, after_turn, moment_at}
use Rattle.flat_policy.specs.Policy.ClusterSteps.{Event, look_event, power_event}
use Rattle.flat_policy.specs.Policy.Queue.{Flat}
use Rattle.flat_policy.specs.Policy.Setup.{SetupParts, actor_count, cluster_count, cluster_times, cpus_of, times_for}
use Rattle.flat_policy.specs.Runs.Histories.{CStep, bucket_of_index, where_true}
use Rattle.flat_policy.specs.Runs.Journals.{pushed}
use Rattle.flat_policy.specs.Runs.Worker.{Program}
use Rattle.cells.specs.Held.{HeldParts, Keeps, answer_of_load, entry_of, look_entry, looking_at, marked, power_act, stepped, turn_entry, unmarked}
use Rattle.cells.specs.Packs.{amounts_but}
use Rattle.cells.proofs.Keeping.{kept_place, same_parts, stepped_keeps}
use Rattle.cells.proofs.Stepping.{place_step}

-- a bucket is found by its index
bucket_found : (b : Bucket) → bucket_of_index (index b) ≡ Some b
bucket_found Ui = refl
bucket_found Fg = refl
bucket_found Ini = refl
bucket_found Df = refl
bucket_found Ut = refl
bucket_found Bg = refl

pub look_step : (setup : SetupParts) (c : ℕ) (s : Flat) (b : Bucket) (moment actor : ℕ) → c < cluster_count setup → moment < moment_limit → actor < actor_count setup → s.last ≤ moment
    → CStep setup c s (marked (index b) (entry_of moment actor (acts.Look c) (look_event setup c b moment s))) (look_event setup c b moment s).flat
look_step setup c s b moment actor there soon known later =
    let looking : Bucket → Event = λ d. look_event setup c d moment s in
    place_step setup c s moment actor (acts.Look c) (Some (index b)) (looking b) there soon known later
    (and_from (nat_lt c (cluster_count setup)) true (lt-ltb c (cluster_count setup) there) refl) (ap is_some (bucket_found b)) tt
    (cond-true (c == c) (option_map looking (option_and_then bucket_of_index (Some (index b)))) None (eq-eqb c c refl) ∙ ap (option_map looking) (bucket_found b))

-- the load of a cluster that is on is what a look is answered
pub load_told : (v : ClusterView) (b : Bucket) (now n : ℕ) → v.flat.on ≡ true → n ≡ load (times_for (cluster_times v.setup v.number) b) (cpus_of v.setup v.number) v.flat b → answer_of_load (Some n) ≡ (looking_at v b now).answer
load_told v b now n on is =
    ap answers.Load is ∙ sym (cond-true v.flat.on (answers.Load (load (times_for (cluster_times v.setup v.number) b) (cpus_of v.setup v.number) v.flat b)) answers.Off on)

pub turn_step : (setup : SetupParts) (c : ℕ) (s : Flat) (on : Bool) (moment actor : ℕ) → c < cluster_count setup → moment < moment_limit → actor < actor_count setup → s.last ≤ moment
    → CStep setup c s (unmarked (entry_of moment actor (power_act c on) (power_event on moment s))) (power_event on moment s).flat
turn_step setup c s true moment actor there soon known later =
    place_step setup c s moment actor (acts.On c) None (power_event true moment s) there soon known later
    (and_from (nat_lt c (cluster_count setup)) true (lt-ltb c (cluster_count setup) there) refl) refl tt
    (ap (λ (b : Bool). where_true b (power_event true moment s)) (eq-eqb c c refl))
turn_step setup c s false moment actor there soon known later =
    place_step setup c s moment actor (acts.Off c) None (power_event false moment s) there soon known later
    (and_from (nat_lt c (cluster_count setup)) true (lt-ltb c (cluster_count setup) there) refl) refl tt
    (ap (λ (b : Bool). where_true b (power_event false moment s)) (eq-eqb c c refl))

module _ (setup : SetupParts) (programs : List Program) (desks : List DeskId) (c : ℕ) (h : HeldParts) (k : Keeps setup programs desks c h) where
  -- what is kept after a look
  pub looks_keeps : (b : Bucket) (now actor : ℕ) → IsCluster h.cluster → actor < actor_count setup → now < moment_limit
      → Keeps setup programs desks c (stepped (marked (index b) (look_entry c actor h.cluster b now)) (after_touch h.cluster now) h)
  looks_keeps b now actor is known soon =
      let s : Flat = h.cluster.flat in
      let moment : ℕ = moment_at h.cluster now in
      let event_is : looking_at h.cluster b now ≡ look_event setup c b moment s = λ i. look_event (k.setup_is i) (k.number_is i) b moment s in
      stepped_keeps setup programs desks c h k (marked (index b) (look_entry c actor h.cluster b now)) (after_touch h.cluster now) refl refl refl
      (subst (λ (e : Event). CStep setup c s (marked (index b) (entry_of moment actor (acts.Look c) e)) e.flat) (sym event_is)
      (look_step setup c s b moment actor (kept_place setup programs desks c h k is) (omega (arith, soon, is.fits.last)) known (omega arith)))
      k.course

  -- what is kept after a turn on or off
  pub turns_keeps : (on : Bool) (now actor : ℕ) → IsCluster h.cluster → actor < actor_count setup → now < moment_limit
      → Keeps setup programs desks c (stepped (unmarked (turn_entry c actor h.cluster on now)) (after_turn h.cluster on now) h)
  turns_keeps on now actor is known soon =
      stepped_keeps setup programs desks c h k (unmarked (turn_entry c actor h.cluster on now)) (after_turn h.cluster on now) refl refl refl
      (turn_step setup c h.cluster.flat on (moment_at h.cluster now) actor (kept_place setup programs desks c h k is) (omega (arith, soon, is.fits.last)) known (omega arith))
      k.course

  -- a held cluster of which a line was added and paid, and whose entries stay as many
  pub paid_parts : (l : Line) (is : HeldParts) (v : ClusterView) → is.cluster ≡ v → v.number ≡ h.cluster.number → length v.flat.entries ≡ length h.cluster.flat.entries
      → is.journal ≡ pushed l h.journal → is.slots ≡ h.slots → is.lines ≡ record h.lines { minted = h.lines.minted - 1 } → is.others ≡ h.others → is ≡ stepped l v h
  paid_parts l is v view number as_many journal slots lines others =
      same_parts is (stepped l v h) view journal
      (slots ∙ ap (λ (m : ℕ). record h.slots { parked = m }) (k.parked ∙ sym as_many))
      lines
      (others ∙ k.others_are ∙ (λ i. amounts_but (sym (number ∙ k.number_is) i) 0 (sym as_many i)))
