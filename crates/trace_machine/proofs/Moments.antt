-- The effective moment of a step.
use Rattle.std.proofs.Common.{◌≡◌, ℕ, ◌<◌, ◌&&◌, IsTrue, Bool, true, false, Option, Some, length, max, nat_lt, sym, ap, ap₂, ◌∙◌, subst, ltb-true}
use Rattle.std.proofs.lemmas.Bool.{and_parts, false≢true}
use Rattle.std.proofs.lemmas.Option.{none-some}
use Rattle.std.proofs.lemmas.List.{length-map}
use Rattle.sched_base.specs.Limits.{moment_limit}
use Rattle.sched_base.specs.declared.Act.{Act}
use Rattle.sched_base.specs.declared.Act.TheVariants as acts
use Rattle.sched_base.specs.declared.Spot.{Spot}
use Rattle.sched_base.specs.declared.Spot.TheVariants as spots
use Rattle.sched_base.specs.declared.Step.{Step}
use Rattle.flat_policy.specs.Policy.Clusters.{ClusterView}
use Rattle.flat_policy.specs.Policy.Machine.{Yard, effective_moment, fits_act, fits_step, last_at, numbers_fit, site_of, spot_from, spot_of}
use Rattle.flat_policy.specs.Policy.Setup.{SetupParts, actor_count, cluster_count}
use Rattle.trace_machine.specs.Acting.{KeepsOn}
use Rattle.trace_machine.specs.Machines.{MachineView}
use Rattle.trace_machine.specs.Parts.{hand_of, state_of}

-- what a step that fits says
pub record StepParts (setup : SetupParts) (s : Step) : Type 0 where
  pub soon : s.moment < moment_limit
  pub actor : s.actor < actor_count setup
  pub act : IsTrue (fits_act setup s.act)
  pub numbers : IsTrue (numbers_fit s.act)

pub step_parts : (setup : SetupParts) (s : Step) → IsTrue (fits_step setup s) → StepParts setup s
step_parts setup s fits =
    let one = and_parts (nat_lt s.moment moment_limit) (nat_lt s.actor (actor_count setup) && (fits_act setup s.act && numbers_fit s.act)) fits in
    let two = and_parts (nat_lt s.actor (actor_count setup)) (fits_act setup s.act && numbers_fit s.act) one.1 in
    let three = and_parts (fits_act setup s.act) (numbers_fit s.act) two.1 in
    record { soon = ltb-true s.moment moment_limit one.0; actor = ltb-true s.actor (actor_count setup) two.0; act = three.0; numbers = three.1 }

-- the number of a cluster, and none of another place
number_of : Option Spot → ℕ
number_of (Some (spots.Cluster c)) = c
number_of _ = 0

same_spot : (k c : ℕ) → Some (spots.Cluster k) ≡ Some (spots.Cluster c) → k ≡ c
unfolding number_of
same_spot k c is = ap number_of is

is_yard : Option Spot → Bool
is_yard (Some spots.Yard) = true
is_yard _ = false

other_spot : {c : ℕ} → Some spots.Yard ≡ Some (spots.Cluster c) → ⊥
unfolding is_yard
other_spot is = false≢true (sym (ap is_yard is))

-- the cluster of an act that fits is there
pub spot_there : (setup : SetupParts) (home : ℕ) (act : Act) (c : ℕ) → home < cluster_count setup → IsTrue (fits_act setup act) → spot_from home (site_of act) ≡ Some (spots.Cluster c) → c < cluster_count setup
spot_there setup home (acts.Make name group bucket base bound) c below fits is = absurd (other_spot is)
spot_there setup home (acts.Enter k head) c below fits is = subst (λ n. n < cluster_count setup) (same_spot k c is) (ltb-true k (cluster_count setup) fits)
spot_there setup home acts.Select c below fits is = subst (λ n. n < cluster_count setup) (same_spot home c is) below
spot_there setup home (acts.Offer k) c below fits is = subst (λ n. n < cluster_count setup) (same_spot k c is) (ltb-true k (cluster_count setup) fits)
spot_there setup home (acts.Pull name) c below fits is = subst (λ n. n < cluster_count setup) (same_spot home c is) below
spot_there setup home (acts.Look k) c below fits is = subst (λ n. n < cluster_count setup) (same_spot k c is) (ltb-true k (cluster_count setup) fits)
spot_there setup home acts.Aim c below fits is = absurd (none-some (spots.Cluster c) is)
spot_there setup home (acts.Ran us) c below fits is = absurd (none-some (spots.Cluster c) is)
spot_there setup home acts.Sleep c below fits is = absurd (other_spot is)
spot_there setup home (acts.Wake name) c below fits is = absurd (other_spot is)
spot_there setup home acts.End c below fits is = absurd (other_spot is)
spot_there setup home acts.Blocked c below fits is = absurd (other_spot is)
spot_there setup home acts.Refresh c below fits is = subst (λ n. n < cluster_count setup) (same_spot home c is) below
spot_there setup home (acts.Off k) c below fits is = subst (λ n. n < cluster_count setup) (same_spot k c is) (ltb-true k (cluster_count setup) fits)
spot_there setup home (acts.On k) c below fits is = subst (λ n. n < cluster_count setup) (same_spot k c is) (ltb-true k (cluster_count setup) fits)

-- a machine that means something has a cluster for each number and a hand for each actor
pub clusters_there : (v : MachineView) (y : Yard) → KeepsOn v y → length v.parts.clusters ≡ cluster_count v.parts.setup
clusters_there v y keeps = sym (length-map v.parts.clusters (λ (w : ClusterView). w.flat)) ∙ keeps.before.sound.flats_length

pub hands_there : (v : MachineView) (y : Yard) → KeepsOn v y → length v.parts.hands ≡ actor_count v.parts.setup
hands_there v y keeps = keeps.before.sound.hands_length

-- the greatest of the step's moment, the actor's last and the place's last is the effective moment
pub moment_is : (v : MachineView) (y : Yard) (s : Step) (hand own spot now : ℕ) → hand ≡ (hand_of v.parts s.actor).last → own ≡ max s.moment hand
    → spot ≡ last_at (state_of v.parts y) (spot_of v.parts.setup s) → now ≡ max own spot → now ≡ effective_moment v.parts.setup (state_of v.parts y) s
moment_is v y s hand own spot now is_hand is_own is_spot is_now =
    is_now ∙ ap₂ max (is_own ∙ ap (max s.moment) is_hand) is_spot
