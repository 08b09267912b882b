-- Where nothing is left over every program has its end line.
use Rattle.std.proofs.Common.{◌≡◌, ℕ, suc, ◌<◌, ◌≤◌, ◌==◌, ◌||◌, Bool, true, cond, Contains, List, [], ◌∷◌, ◌++◌, count_by, length, map, get_or, sum_by, Option, Some, None, refl, sym, ap, ◌∙◌, subst, inl, inr, arith, eqb-true, eq-eqb}
use Rattle.std.specs.List.{list_any, slice_get}
use Rattle.std.specs.Option.{option_map_or}
use Rattle.std.proofs.lemmas.Bool.{cases_Bool, false≢true}
use Rattle.std.proofs.lemmas.List.{get_or-map, length-map}
use Rattle.std.proofs.lemmas.List.Elements.{Contains-append_left, Contains-append_right}
use Rattle.std.proofs.lemmas.List.Sums.{sum_by-cons}
use Rattle.std.proofs.lemmas.Option.{get_or_from_slice_get, same_Some, slice_get_within}
use Rattle.sched_base.specs.declared.Act.TheVariants as acts
use Rattle.sched_base.specs.declared.Facts.{Facts}
use Rattle.flat_policy.specs.declared.journal.Line.{Line}
use Rattle.flat_policy.specs.Laws.Counts.{EachNameOnce}
use Rattle.flat_policy.specs.Policy.BuiltSetups.{IsCluster, IsSetup}
use Rattle.flat_policy.specs.Policy.Machine.{Hand, Sleeper, count_held, count_queued, empty_hand, holds, no_hand, site_of, spot_from}
use Rattle.flat_policy.specs.Policy.Queue.{Flat, Queued, empty_flat}
use Rattle.flat_policy.specs.Policy.Setup.{ClusterParts, SetupParts, actor_count, cluster_count, home_of, rate_of}
use Rattle.flat_policy.specs.Runs.Hands.{hand_after_all}
use Rattle.flat_policy.specs.Runs.Histories.{RunYard, act_of, actor_of, empty_run_yard}
use Rattle.flat_policy.specs.Runs.Interleaving.{EachLine, Interleaves, IsGiven, home_by_journals, is_yard, spot_by_journals}
use Rattle.flat_policy.specs.Runs.WholeRuns.{EndsAmong, HasFinished}
use Rattle.flat_policy.specs.Runs.Worker.{IsWorked, Opening, Opens, Program, RunParts, last_target, stages}
use Rattle.flat_policy.proofs.Members.{contains_cases, contains_here, contains_none, filter_has, find_finds, member_of_filter}
use Rattle.composition.specs.Joined.{HaveOwnNames, NothingLeft, RunApart, hands_left, machine_of, without_due}
use Rattle.composition.proofs.Finished.{AllDone, EndsDone, worked_done}
use Rattle.composition.proofs.Names.{EndedBy, ended_by, made_among}

-- a rate is a unit of work for each microsecond at most
rate_within : (cs : List ClusterParts) (c : ℕ) → ((k : ℕ) (d : ClusterParts) → k < length cs → IsCluster (get_or cs k d)) → (o : Option ClusterParts) → slice_get cs c ≡ o → option_map_or (λ (k : ClusterParts). k.rate) o 0 ≤ 1000
rate_within cs c each None is = omega arith
rate_within cs c each (Some k) is =
    (subst IsCluster (get_or_from_slice_get cs c k k is) (each c k (slice_get_within cs c k is))).rate_most

rate_slow : (setup : SetupParts) (c : ℕ) → IsSetup setup → rate_of setup c ≤ 1000
rate_slow setup c built = rate_within setup.clusters c built.clusters (slice_get setup.clusters c) refl

sum_zero : {X : Type 0} (f : X → ℕ) (d : X) (xs : List X) → ((i : ℕ) → i < length xs → f (get_or xs i d) ≡ 0) → sum_by f xs ≡ 0
sum_zero f d [] each = refl
sum_zero f d (x ∷ xs) each =
    omega (arith, sum_by-cons f x xs, each 0 (omega arith), sum_zero f d xs (λ i below. each (suc i) (omega arith)))

-- a count above 0 has a member
counted : {X : Type 0} (p : X → Bool) (xs : List X) → 1 ≤ count_by p xs → list_any p xs ≡ true
counted p [] h = absurd (omega (arith, h))
counted p (x ∷ xs) h =
    elim (cases_Bool (p x)) [
      | inl e ↦ ap (λ b. b || list_any p xs) e
      | inr e ↦ ap (λ b. b || list_any p xs) e
          ∙ counted p xs (omega (arith, h, sum_by-cons (λ y. cond (p y) 1 0) x xs, ap {B = ℕ} (λ b. cond b 1 0) e))
    ]

-- a name that was made is among those ended, where nothing is left over
made_ended : (setup : SetupParts) (logs : List (List Line)) (flats : List Flat) (end : RunYard) (name : ℕ) → length flats ≡ cluster_count setup → length logs ≡ actor_count setup → NothingLeft setup logs flats end → EachNameOnce (machine_of flats (hands_left setup logs) end)
    → list_any (λ n. n == name) end.made ≡ true → list_any (λ n. n == name) end.ended ≡ true
made_ended setup logs flats end name queues hands left once made =
    let none_queued : sum_by (count_queued name) flats ≡ 0 =
    sum_zero (count_queued name) (empty_flat 0) flats (λ c below. ap (count_by (λ (e : Queued). e.facts.name == name)) (left.queues c (subst (λ n. c < n) queues below))) in
    let none_held : sum_by (count_held name) (hands_left setup logs) ≡ 0 =
    sum_zero (count_held name) no_hand (hands_left setup logs) (λ a below.
    let within : a < length logs = subst (λ n. a < n) (length-map logs (hand_after_all setup (empty_hand setup 0))) below in
    ap (λ (h : Hand). cond (holds name h.thread) 1 0) (get_or-map (hand_after_all setup (empty_hand setup 0)) logs a [] no_hand within)
    ∙ ap (λ (o : Option Facts). cond (holds name o) 1 0) (left.hands a (subst (λ n. a < n) hands within))) in
    let none_blocked : count_by (λ (w : Sleeper). w.facts.name == name) (map without_due end.blocked) ≡ 0 = ap (λ ws. count_by (λ (w : Sleeper). w.facts.name == name) (map without_due ws)) left.blocked in
    counted (λ n. n == name) end.ended (omega (arith, once name, none_queued, none_held, none_blocked, ap {B = ℕ} (λ b. cond b 1 0) made))

-- a line makes the thread of a program
pub record MadeBy (ls : List Line) (p : Program) : Type 0 where
  pub line : Line
  pub member : Contains ls line
  pub makes : act_of line ≡ acts.Make p.name p.group p.bucket p.base p.bound

opens_makes : (run : RunParts) (p : Program) (ls : List Line) → Opens run p ls → MadeBy ls p
opens_makes run p [] opens = absurd opens
opens_makes run p (l ∷ ls) opens = record { line = l; member = contains_here l ls; makes = opens.0 }

-- the opening makes the thread of each program
opening_makes : (run : RunParts) (ps : List Program) (ls : List Line) (p : Program) → Contains ps p → Opening run ps ls → MadeBy ls p
opening_makes run [] ls p member opening = absurd (contains_none p member)
opening_makes run (q ∷ qs) ls p member opening =
    elim (contains_cases q qs p member) [
      | inl is ↦ (
          let m = opens_makes run p opening.0 (subst (λ (r : Program). Opens run r opening.0) is opening.3) in
          record { line = m.line; member = subst (λ ks. Contains ks m.line) (sym opening.2) (Contains-append_left opening.0 opening.1 m.line m.member); makes = m.makes })
      | inr later ↦ (
          let m = opening_makes run qs opening.1 p later opening.4 in
          record { line = m.line; member = subst (λ ks. Contains ks m.line) (sym opening.2) (Contains-append_right opening.0 opening.1 m.line m.member); makes = m.makes })
    ]

worked_makes : (run : RunParts) (ls : List Line) (p : Program) → Contains run.programs p → IsWorked run 0 ls → MadeBy ls p
worked_makes run ls p member w =
    let m = opening_makes run run.programs w.opening p member w.opens in
    record {
      line = m.line;
      member = subst (λ ks. Contains ks m.line) (sym w.whole)
          (Contains-append_left ((w.opening ++ w.numbered) ++ w.on) w.rounds m.line
          (Contains-append_left (w.opening ++ w.numbered) w.on m.line (Contains-append_left w.opening w.numbered m.line m.member)));
      makes = m.makes;
    }

-- what holds of each line holds of a member
each_line : (P : Line → Type 0) (ls : List Line) (l : Line) → EachLine P ls → Contains ls l → P l
each_line P [] l each c = absurd (contains_none l c)
each_line P (k ∷ ks) l each c = elim (contains_cases k ks l c) [ inl is ↦ subst P is each.0 | inr later ↦ each_line P ks l each.1 later ]

-- a line that ends the thread of a program ends it with its work done
ends_finished : (run : RunParts) (ls : List Line) (p : Program) → HaveOwnNames run.programs → Contains run.programs p → (by : EndedBy ls p.name) → EndsDone run by.line → EndsAmong ls p
ends_finished run ls p own member by done =
    let d = done by.is in
    let same : d.thread ≡ by.thread = same_Some d.thread by.thread (sym d.moved ∙ by.moved) in
    let named : d.thread.name ≡ p.name = ap (λ (t : Facts). t.name) same ∙ by.named in
    let found = find_finds (λ (q : Program). q.name == d.thread.name) run.programs d.program d.named in
    let is : d.program ≡ p = own d.program p found.0 member (eqb-true d.program.name d.thread.name found.1 ∙ named) in
    record {
      line = by.line;
      member = by.member;
      ends = by.is;
      finished = subst (HasFinished p) (sym d.moved) (named, d.work ∙ ap (λ (q : Program). last_target (stages q)) is);
    }

-- every program has its end line
pub program_ends : (run : RunParts) (clusters : List (List Line)) (yard : List Line) (logs : List (List Line)) (flats : List Flat) (end : RunYard) (history : List Line) → IsSetup run.setup → HaveOwnNames run.programs → RunApart run.setup clusters yard logs flats end
    → Interleaves clusters yard logs history → ((a : ℕ) → a < actor_count run.setup → IsWorked run a (get_or logs a [])) → NothingLeft run.setup logs flats end → EachNameOnce (machine_of flats (hands_left run.setup logs) end)
    → (p : Program) → Contains run.programs p → EndsAmong history p
program_ends run clusters yard logs flats end history built own apart one worked left once p member =
    let some : 0 < actor_count run.setup = omega (arith, built.actors_least) in
    let m = worked_makes run (get_or logs 0 []) p member (worked 0 some) in
    let log = one.of_actors 0 (subst (λ n. 0 < n) (sym apart.as_many_logs) some) in
    let there = (member_of_filter (λ (l : Line). actor_of l == 0) history m.line (subst (λ ks. Contains ks m.line) (sym log) m.member)).0 in
    let in_yard : is_yard (spot_by_journals clusters m.line) ≡ true = ap (λ act. is_yard (spot_from (home_by_journals clusters (actor_of m.line)) (site_of act))) m.makes in
    let among : Contains yard m.line = subst (λ ks. Contains ks m.line) one.in_yard (filter_has (λ (l : Line). is_yard (spot_by_journals clusters l)) history m.line there in_yard) in
    let made = made_among run.setup empty_run_yard yard end m.line p.name p.group p.bucket p.base p.bound apart.in_yard among m.makes in
    let ended = made_ended run.setup logs flats end p.name apart.as_many_ends apart.as_many_logs left once made in
    elim (ended_by run.setup empty_run_yard yard end p.name apart.in_yard ended) [
      | inl before ↦ absurd (false≢true before)
      | inr by ↦ (
          let whole = (member_of_filter (λ (l : Line). is_yard (spot_by_journals clusters l)) history by.line (subst (λ ks. Contains ks by.line) (sym one.in_yard) by.member)).0 in
          let a : ℕ = actor_of by.line in
          let given : a < length logs = (each_line (IsGiven clusters logs) history by.line one.given whole).0 in
          let within : a < actor_count run.setup = subst (λ n. a < n) apart.as_many_logs given in
          let logged : Contains (get_or logs a []) by.line = subst (λ ks. Contains ks by.line) (one.of_actors a given)
          (filter_has (λ (l : Line). actor_of l == a) history by.line whole (eq-eqb a a refl)) in
          let all : AllDone run (get_or logs a []) = worked_done run a (get_or logs a []) (rate_slow run.setup (home_of run.setup a) built) (apart.of_actors a within) (worked a within) in
          ends_finished run history p own member (record { line = by.line; member = whole; is = by.is; thread = by.thread; moved = by.moved; named = by.named })
          (each_line (EndsDone run) (get_or logs a []) by.line all logged))
    ]
