-- A history put together from logs by the worker rule is a whole run.
use Rattle.std.proofs.Common.{◌≡◌, ℕ, ◌<◌, Bool, cond, Contains, List, [], ◌∷◌, filter, get_or, Option, refl, sym, ap, ◌∙◌, subst}
use Rattle.sched_base.specs.declared.Spot.{Spot}
use Rattle.flat_policy.specs.declared.journal.Line.{Line}
use Rattle.flat_policy.specs.Policy.Machine.{GRun}
use Rattle.flat_policy.specs.Policy.Queue.{Flat, empty_flat}
use Rattle.flat_policy.specs.Policy.Setup.{actor_count}
use Rattle.flat_policy.specs.Runs.Histories.{CRun, RunYard, YRun, entries_of}
use Rattle.flat_policy.specs.Runs.Interleaving.{EachLine, Interleaves, is_spot_of, is_yard, spot_by_journals}
use Rattle.flat_policy.specs.Runs.WholeRuns.{EndsAmong, IsWholeRun, spot_by_setup}
use Rattle.flat_policy.specs.Runs.Worker.{IsWorked, Program, RunParts, Worked}
use Rattle.composition.specs.Joined.{RunApart, hands_left, machine_of}

-- lines restricted by spots that are alike
same_lines : (here : Option Spot → Bool) (spot to : Line → Option Spot) (ls : List Line) → EachLine (λ l. spot l ≡ to l) ls → filter (λ (l : Line). here (spot l)) ls ≡ filter (λ (l : Line). here (to l)) ls
same_lines here spot to [] each = refl
same_lines here spot to (l ∷ ls) each =
    ap (λ b. cond b (l ∷ filter (λ (k : Line). here (spot k)) ls) (filter (λ (k : Line). here (spot k)) ls)) (ap here each.0)
    ∙ ap (λ ks. cond (here (to l)) (l ∷ ks) ks) (same_lines here spot to ls each.1)

pub whole : (run : RunParts) (clusters : List (List Line)) (yard : List Line) (logs : List (List Line)) (flats : List Flat) (end : RunYard) (history : List Line) → RunApart run.setup clusters yard logs flats end → Interleaves clusters yard logs history
    → GRun run.setup (entries_of history) (machine_of flats (hands_left run.setup logs) end) → EachLine (λ (l : Line). spot_by_journals clusters l ≡ spot_by_setup run.setup l) history
    → ((a : ℕ) → a < actor_count run.setup → IsWorked run a (get_or logs a []))
    → ((p : Program) → Contains run.programs p → EndsAmong history p)
    → IsWholeRun run history (machine_of flats (hands_left run.setup logs) end) end
whole run clusters yard logs flats end history apart one runs spots worked ends =
    let spot = spot_by_journals clusters in
    let by_setup = spot_by_setup run.setup in
    record {
      machine = runs;
      clusters = λ c below. subst (λ ls. CRun run.setup c ls (get_or flats c (empty_flat 0)))
          (sym (one.at_clusters c (subst (λ n. c < n) (sym apart.as_many_journals) below)) ∙ same_lines (is_spot_of c) spot by_setup history spots)
          (apart.at_clusters c below);
      in_yard = subst (λ ls. YRun run.setup ls end) (sym one.in_yard ∙ same_lines is_yard spot by_setup history spots) apart.in_yard;
      actors = λ a below. subst (Worked run a) (sym (one.of_actors a (subst (λ n. a < n) (sym apart.as_many_logs) below)))
          (record { own = apart.of_actors a below; rule = worked a below });
      programs = ends;
    }
