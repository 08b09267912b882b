-- A run of a cluster with one line more.
use Rattle.std.proofs.Common.{◌≡◌, ℕ, List, [], ◌∷◌, ◌++◌, sym, ap, ◌∙◌, subst}
use Rattle.std.specs.Option.{option_map_or}
use Rattle.flat_policy.specs.declared.journal.Line.{Line}
use Rattle.flat_policy.specs.Policy.ClusterSteps.{Event}
use Rattle.flat_policy.specs.Policy.Queue.{Flat, empty_flat}
use Rattle.flat_policy.specs.Policy.Setup.{SetupParts, group_count}
use Rattle.flat_policy.specs.Runs.Histories.{CRun, CRunFrom, CStep, flat_after}

-- where a line leads by its step is where it leads
pub step_after : (setup : SetupParts) (c : ℕ) (s : Flat) (l : Line) (next : Flat) → CStep setup c s l next → flat_after setup c s l ≡ next
step_after setup c s l next step = ap (λ o. option_map_or (λ (e : Event). e.flat) o s) step.happens ∙ sym step.leads

pub run_from_pushed : (setup : SetupParts) (c : ℕ) (s : Flat) (ls : List Line) (mid : Flat) (l : Line) (next : Flat) → CRunFrom setup c s ls mid → CStep setup c mid l next → CRunFrom setup c s (ls ++ l ∷ []) next
run_from_pushed setup c s [] mid l next run step =
    let here : CStep setup c s l next = subst (λ u. CStep setup c u l next) run step in
    let to : flat_after setup c s l ≡ next = step_after setup c s l next here in
    (subst (CStep setup c s l) (sym to) here, sym to)
run_from_pushed setup c s (k ∷ ls) mid l next run step = (run.0, run_from_pushed setup c (flat_after setup c s k) ls mid l next run.1 step)

-- a run and one step more are a run
pub run_pushed : (setup : SetupParts) (c : ℕ) (ls : List Line) (mid : Flat) (l : Line) (next : Flat) → CRun setup c ls mid → CStep setup c mid l next → CRun setup c (ls ++ l ∷ []) next
run_pushed setup c ls mid l next run step = run_from_pushed setup c (empty_flat (group_count setup)) ls mid l next run step
