-- A machine in code before any step, and at its end.
use Rattle.std.proofs.Common.{◌≡◌, ℕ, ◌≤◌, ◌^◌, [], None, length, refl, sym, ap, ◌∙◌, subst, arith}
use Rattle.std.proofs.lemmas.List.{length-map}
use Rattle.std.proofs.lemmas.Option.{none-some}
use Rattle.link_arena.specs.Arena.{live_count, value_at}
use Rattle.flat_policy.specs.Policy.BuiltSetups.{IsSetup}
use Rattle.flat_policy.specs.Policy.Clusters.{ClusterView}
use Rattle.flat_policy.specs.Policy.Machine.{Yard, empty_machine, empty_yard}
use Rattle.flat_policy.specs.Policy.Setup.{SetupParts, cluster_count}
use Rattle.trace_machine.specs.Acting.{KeepsOn}
use Rattle.trace_machine.specs.Machines.{IsMachine, MachineView, Means, MeansOver, StandsThere}
use Rattle.trace_machine.specs.Parts.{AllServe, cluster_at, state_of}
use Rattle.trace_machine.specs.Yards.{standing_of}
use Rattle.trace_machine.proofs.Setting.{serves_longer}

-- a machine of new parts, with an empty yard and no names, means the state before any step
pub new_means : (v : MachineView) (setup : SetupParts) → v.parts.setup ≡ setup → IsSetup v.parts.setup → state_of v.parts empty_yard ≡ empty_machine setup
    → AllServe 0 v.parts → setup.threads ≤ v.yard.sleepers.spare → ((slot : ℕ) → value_at v.yard.sleepers slot ≡ None) → live_count v.yard.sleepers ≡ 0
    → v.yard.live ≡ 0 → v.yard.last ≡ 0 → ((name : ℕ) → standing_of v.names name ≡ None) → v.steps ≡ 0 → Means v (empty_machine setup)
new_means v setup of built state serve room none count live last unnamed steps = (
  empty_yard,
  sym state,
  record {
    setup = built;
    serve = subst (λ n. AllServe n v.parts) (sym steps) serve;
    yard = record {
      last = last;
      live = live;
      count = count;
      blocked = λ slot w is. absurd (none-some w (sym (none slot) ∙ is));
      named = λ slot w is. absurd (none-some w (sym (none slot) ∙ is));
      room = omega (arith, room, ap (λ (s : SetupParts). s.threads) of);
    };
    names = λ name. subst (StandsThere v empty_yard name) (sym (unnamed name)) refl;
    history = ([], state ∙ ap empty_machine (sym of), omega arith);
  },
)

-- at its end a machine has a cluster for each number, and each serves
pub ends_with : (v : MachineView) → IsMachine v → ((y : Yard) → MeansOver v y → KeepsOn v y) → length v.parts.clusters ≡ cluster_count v.parts.setup
ends_with v machine stays =
    let means = machine.1 in
    sym (length-map v.parts.clusters (λ (w : ClusterView). w.flat)) ∙ (stays means.0 means.2).before.sound.flats_length

pub ends_serving : (v : MachineView) → IsMachine v → v.steps ≤ 2 ^ 50 → AllServe (2 ^ 50) v.parts
ends_serving v machine few c below =
    serves_longer v.parts.setup v.steps (2 ^ 50) c (cluster_at v.parts c) few (machine.1.2.serve c below)
