-- Histories by computing: each line passes a test, and what it comes to has its answer and its thread.
use Rattle.std.proofs.Common.{◌≡◌, ℕ, ◌<◌, ◌==◌, ◌^◌, nat_le, nat_lt, Bool, true, false, ◌&&◌, List, [], ◌∷◌, Option, Some, None, refl, subst, ap}
use Rattle.std.specs.Option.{option_map_or}
use Rattle.std.proofs.lemmas.Bool.{and_parts, eqb-true, false≢true, leb-true, ltb-true}
use Rattle.std.proofs.lemmas.Option.{none-some, same_Some}
use Rattle.sched_base.specs.Limits.{most_base}
use Rattle.sched_base.specs.declared.Act.{Act}
use Rattle.sched_base.specs.declared.Act.TheVariants as acts
use Rattle.sched_base.specs.declared.Answer.{Answer}
use Rattle.sched_base.specs.declared.Facts.{Facts}
use Rattle.flat_policy.specs.declared.journal.Line.{Line}
use Rattle.flat_policy.specs.Policy.ClusterSteps.{Event}
use Rattle.flat_policy.specs.Policy.Machine.{Hand, empty_hand, fits_step}
use Rattle.flat_policy.specs.Policy.Queue.{Flat, empty_flat}
use Rattle.flat_policy.specs.Policy.Setup.{SetupParts, actor_count, cluster_count, group_count}
use Rattle.flat_policy.specs.Policy.Threads.{ThreadFits, preference}
use Rattle.flat_policy.specs.Runs.Hands.{Allows, HandEvent, Own, OwnFrom, hand_after, hand_event}
use Rattle.flat_policy.specs.Runs.Histories.{CRun, CRunFrom, CStep, Carries, EntersFitting, LineFits, RunYard, YRun, YRunFrom, YStep, YardEvent, act_of, actor_of, cluster_event, empty_run_yard, flat_after, has_mark, moment_of, yard_after, yard_event}
use Rattle.worked_examples.proofs.Same.{same_answer, same_answer_is, same_thread, same_thread_is}

-- whether a line has an answer and a thread
abbrev has_told : Line → Answer → Option Facts → Bool
has_told l answer thread = same_answer l.entry.answer answer && same_thread l.entry.thread thread

carries : (l : Line) (answer : Answer) (thread : Option Facts) → has_told l answer thread ≡ true → Carries l answer thread
carries l answer thread h =
    let p = and_parts (same_answer l.entry.answer answer) (same_thread l.entry.thread thread) h
    in record { answer = same_answer_is l.entry.answer answer p.0; thread = same_thread_is l.entry.thread thread p.1 }

-- what every line passes
abbrev pub line_test : SetupParts → Line → Bool
line_test setup l = fits_step setup l.entry.step && has_mark (act_of l) l.mark

line_fits : (setup : SetupParts) (l : Line) → line_test setup l ≡ true → LineFits setup l
line_fits setup l h =
    let p = and_parts (fits_step setup l.entry.step) (has_mark (act_of l) l.mark) h
    in record { step = p.0; mark = p.1 }

-- a line in a hand: the actor is there and the line's, the line fits, and its moment is not before the last
abbrev hand_test : SetupParts → ℕ → Hand → Line → Bool
hand_test setup a h l = (nat_lt a (actor_count setup) && (actor_of l == a)) && (line_test setup l && nat_le h.last (moment_of l))

abbrev hand_told : Line → Option HandEvent → Bool
hand_told l None = false
hand_told l (Some e) = has_told l e.answer e.thread

hand_step : (setup : SetupParts) (a : ℕ) (h : Hand) (l : Line) → hand_test setup a h l ≡ true → (x : Option HandEvent) → hand_event setup h l ≡ x → hand_told l x ≡ true → Allows setup a h l
hand_step setup a h l passes None is told = absurd (false≢true told)
hand_step setup a h l passes (Some e) is told =
    let p = and_parts (nat_lt a (actor_count setup) && (actor_of l == a)) (line_test setup l && nat_le h.last (moment_of l)) passes in
    let q = and_parts (nat_lt a (actor_count setup)) (actor_of l == a) p.0 in
    let r = and_parts (line_test setup l) (nat_le h.last (moment_of l)) p.1
    in record {
      there = ltb-true a (actor_count setup) q.0;
      actor = eqb-true (actor_of l) a q.1;
      fits = line_fits setup l r.0;
      not_before = leb-true h.last (moment_of l) r.1;
      event = e;
      happens = is;
      told = carries l e.answer e.thread told;
    }

-- all lines pass in a hand
abbrev pub hand_passes : SetupParts → ℕ → Hand → List Line → Bool
hand_passes setup a h [] = true
hand_passes setup a h (l ∷ ls) = (hand_test setup a h l && hand_told l (hand_event setup h l)) && hand_passes setup a (hand_after setup h l) ls

own_from : (setup : SetupParts) (a : ℕ) (h : Hand) (ls : List Line) → hand_passes setup a h ls ≡ true → OwnFrom setup a h ls
own_from setup a h [] pass = tt
own_from setup a h (l ∷ ls) pass =
    let p = and_parts (hand_test setup a h l && hand_told l (hand_event setup h l)) (hand_passes setup a (hand_after setup h l) ls) pass in
    let q = and_parts (hand_test setup a h l) (hand_told l (hand_event setup h l)) p.0
    in (hand_step setup a h l q.0 (hand_event setup h l) refl q.1, own_from setup a (hand_after setup h l) ls p.1)

-- an actor's hand allows lines that pass
pub own_by_tests : (setup : SetupParts) (a : ℕ) (ls : List Line) → hand_passes setup a (empty_hand setup 0) ls ≡ true → Own setup a ls
own_by_tests setup a ls pass = own_from setup a (empty_hand setup 0) ls pass

-- a thread is one of the setup
abbrev thread_test : SetupParts → Facts → Bool
thread_test setup t =
    ((nat_lt t.group (group_count setup) && nat_le t.base most_base)
    && (option_map_or (λ c. nat_lt c (cluster_count setup)) t.bound true && (t.prefer == preference setup t.group t.bucket t.bound)))
    && ((nat_lt t.name (2 ^ 32) && nat_lt t.usage (2 ^ 32)) && (nat_lt t.pending_ran (2 ^ 32) && nat_lt t.pending_blocked (2 ^ 32)))

bound_fits : (n c : ℕ) (bound : Option ℕ) → option_map_or (λ d. nat_lt d n) bound true ≡ true → bound ≡ Some c → c < n
bound_fits n c None h e = absurd (none-some c e)
bound_fits n c (Some b) h e = subst (λ d. d < n) (same_Some b c e) (ltb-true b n h)

thread_fits : (setup : SetupParts) (t : Facts) → thread_test setup t ≡ true → ThreadFits setup t
thread_fits setup t h =
    let in_range = nat_lt t.group (group_count setup) && nat_le t.base most_base in
    let bound = option_map_or (λ c. nat_lt c (cluster_count setup)) t.bound true in
    let prefers = t.prefer == preference setup t.group t.bucket t.bound in
    let small = nat_lt t.name (2 ^ 32) && nat_lt t.usage (2 ^ 32) in
    let pending = nat_lt t.pending_ran (2 ^ 32) && nat_lt t.pending_blocked (2 ^ 32) in
    let halves = and_parts (in_range && (bound && prefers)) (small && pending) h in
    let first = and_parts in_range (bound && prefers) halves.0 in
    let second = and_parts small pending halves.1 in
    let p = and_parts (nat_lt t.group (group_count setup)) (nat_le t.base most_base) first.0 in
    let q = and_parts bound prefers first.1 in
    let r = and_parts (nat_lt t.name (2 ^ 32)) (nat_lt t.usage (2 ^ 32)) second.0 in
    let s = and_parts (nat_lt t.pending_ran (2 ^ 32)) (nat_lt t.pending_blocked (2 ^ 32)) second.1
    in record {
      group = ltb-true t.group (group_count setup) p.0;
      base = leb-true t.base most_base p.1;
      bound = λ c e. bound_fits (cluster_count setup) c t.bound q.0 e;
      prefer = eqb-true t.prefer (preference setup t.group t.bucket t.bound) q.1;
      name = ltb-true t.name (2 ^ 32) r.0;
      usage = ltb-true t.usage (2 ^ 32) r.1;
      pending_ran = ltb-true t.pending_ran (2 ^ 32) s.0;
      pending_blocked = ltb-true t.pending_blocked (2 ^ 32) s.1;
    }

abbrev entering_test : SetupParts → Act → Option Facts → Bool
entering_test setup (acts.Enter at head) (Some t) = thread_test setup t
entering_test setup _ _ = true

enters_fitting : (setup : SetupParts) (act : Act) (o : Option Facts) → entering_test setup act o ≡ true → EntersFitting setup act o
enters_fitting setup (acts.Enter at head) (Some t) h = thread_fits setup t h
enters_fitting setup _ _ h = tt

-- a line at a cluster: the cluster is there, a thread that enters is one of the setup, the line fits, and its moment is not before the last
abbrev cluster_test : SetupParts → ℕ → Flat → Line → Bool
cluster_test setup c s l =
    (nat_lt c (cluster_count setup) && entering_test setup (act_of l) l.entry.thread) && (line_test setup l && nat_le s.last (moment_of l))

abbrev cluster_told : Line → Option Event → Bool
cluster_told l None = false
cluster_told l (Some e) = has_told l e.answer e.thread

cluster_step : (setup : SetupParts) (c : ℕ) (s : Flat) (l : Line) → cluster_test setup c s l ≡ true → (x : Option Event) → cluster_event setup c s l ≡ x → cluster_told l x ≡ true → CStep setup c s l (flat_after setup c s l)
cluster_step setup c s l passes None is told = absurd (false≢true told)
cluster_step setup c s l passes (Some e) is told =
    let p = and_parts (nat_lt c (cluster_count setup) && entering_test setup (act_of l) l.entry.thread) (line_test setup l && nat_le s.last (moment_of l)) passes in
    let q = and_parts (nat_lt c (cluster_count setup)) (entering_test setup (act_of l) l.entry.thread) p.0 in
    let r = and_parts (line_test setup l) (nat_le s.last (moment_of l)) p.1
    in record {
      there = ltb-true c (cluster_count setup) q.0;
      fits = line_fits setup l r.0;
      not_before = leb-true s.last (moment_of l) r.1;
      entering = enters_fitting setup (act_of l) l.entry.thread q.1;
      event = e;
      happens = is;
      told = carries l e.answer e.thread told;
      leads = ap (λ x. option_map_or (λ (e : Event). e.flat) x s) is;
    }

-- all lines pass at a cluster
abbrev pub cluster_passes : SetupParts → ℕ → Flat → List Line → Bool
cluster_passes setup c s [] = true
cluster_passes setup c s (l ∷ ls) = (cluster_test setup c s l && cluster_told l (cluster_event setup c s l)) && cluster_passes setup c (flat_after setup c s l) ls

-- the queue after lines
abbrev pub flat_after_all : SetupParts → ℕ → Flat → List Line → Flat
flat_after_all setup c s [] = s
flat_after_all setup c s (l ∷ ls) = flat_after_all setup c (flat_after setup c s l) ls

cluster_from : (setup : SetupParts) (c : ℕ) (s : Flat) (ls : List Line) (end : Flat) → cluster_passes setup c s ls ≡ true → end ≡ flat_after_all setup c s ls → CRunFrom setup c s ls end
cluster_from setup c s [] end pass is = is
cluster_from setup c s (l ∷ ls) end pass is =
    let p = and_parts (cluster_test setup c s l && cluster_told l (cluster_event setup c s l)) (cluster_passes setup c (flat_after setup c s l) ls) pass in
    let q = and_parts (cluster_test setup c s l) (cluster_told l (cluster_event setup c s l)) p.0
    in (cluster_step setup c s l q.0 (cluster_event setup c s l) refl q.1, cluster_from setup c (flat_after setup c s l) ls end p.1 is)

abbrev pub flat_of : SetupParts → Flat
flat_of setup = empty_flat (group_count setup)

-- lines that pass lead the empty queue to the one after them
pub cluster_by_tests : (setup : SetupParts) (c : ℕ) (ls : List Line) (end : Flat) → cluster_passes setup c (flat_of setup) ls ≡ true → end ≡ flat_after_all setup c (flat_of setup) ls → CRun setup c ls end
cluster_by_tests setup c ls end pass is = cluster_from setup c (flat_of setup) ls end pass is

-- a line in the yard: it fits, and its moment is not before the last
abbrev yard_test : SetupParts → RunYard → Line → Bool
yard_test setup y l = line_test setup l && nat_le y.last (moment_of l)

abbrev yard_told : Line → Option YardEvent → Bool
yard_told l None = false
yard_told l (Some e) = has_told l e.answer e.thread

yard_step : (setup : SetupParts) (y : RunYard) (l : Line) → yard_test setup y l ≡ true → (x : Option YardEvent) → yard_event setup y l ≡ x → yard_told l x ≡ true → YStep setup y l (yard_after setup y l)
yard_step setup y l passes None is told = absurd (false≢true told)
yard_step setup y l passes (Some e) is told =
    let p = and_parts (line_test setup l) (nat_le y.last (moment_of l)) passes
    in record {
      fits = line_fits setup l p.0;
      not_before = leb-true y.last (moment_of l) p.1;
      event = e;
      happens = is;
      told = carries l e.answer e.thread told;
      leads = ap (λ x. option_map_or (λ (e : YardEvent). e.yard) x y) is;
    }

-- all lines pass in the yard
abbrev pub yard_passes : SetupParts → RunYard → List Line → Bool
yard_passes setup y [] = true
yard_passes setup y (l ∷ ls) = (yard_test setup y l && yard_told l (yard_event setup y l)) && yard_passes setup (yard_after setup y l) ls

-- the yard after lines
abbrev pub yard_after_all : SetupParts → RunYard → List Line → RunYard
yard_after_all setup y [] = y
yard_after_all setup y (l ∷ ls) = yard_after_all setup (yard_after setup y l) ls

yard_from : (setup : SetupParts) (y : RunYard) (ls : List Line) (end : RunYard) → yard_passes setup y ls ≡ true → end ≡ yard_after_all setup y ls → YRunFrom setup y ls end
yard_from setup y [] end pass is = is
yard_from setup y (l ∷ ls) end pass is =
    let p = and_parts (yard_test setup y l && yard_told l (yard_event setup y l)) (yard_passes setup (yard_after setup y l) ls) pass in
    let q = and_parts (yard_test setup y l) (yard_told l (yard_event setup y l)) p.0
    in (yard_step setup y l q.0 (yard_event setup y l) refl q.1, yard_from setup (yard_after setup y l) ls end p.1 is)

-- lines that pass lead the empty yard to the one after them
pub yard_by_tests : (setup : SetupParts) (ls : List Line) (end : RunYard) → yard_passes setup empty_run_yard ls ≡ true → end ≡ yard_after_all setup empty_run_yard ls → YRun setup ls end
yard_by_tests setup ls end pass is = yard_from setup empty_run_yard ls end pass is
