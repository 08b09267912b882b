-- A thread that is made of a program of a run is on course.
use Rattle.std.proofs.Common.{◌≡◌, ℕ, zero, suc, ◌+◌, ◌%◌, ◌<◌, ◌==◌, ◌≢◌, nat_lt, true, List, [], ◌∷◌, filter, get_or, length, Option, Some, refl, sym, ap, ◌∙◌, subst, arith}
use Rattle.std.specs.List.{All, AllPairs, Contains}
use Rattle.std.specs.Option.{option_map_or}
use Rattle.std.proofs.lemmas.Bool.{and_parts, cond-false, cond-true, eq-eqb, ltb-true, ne_eqb}
use Rattle.std.proofs.lemmas.List.Elements.{All-contains, All-tail}
use Rattle.flat_policy.specs.Policy.Setup.{SetupParts, cluster_count, group_count}
use Rattle.flat_policy.specs.Policy.Threads.{made_thread}
use Rattle.flat_policy.specs.Runs.Worker.{Program, last_target, stages_from}
use Rattle.trace_text.specs.Runs.{SpanFits}
use Rattle.cells.specs.Courses.{OnCourse}
use Rattle.cells.specs.Frames.{AreRunnable, FitsSetup}

-- two programs have different names
abbrev Differ : Program → Program → Type 0
Differ p q = p.name ≢ q.name

-- where no program has a name, none is found
none_named : (ps : List Program) (name : ℕ) → ((k : ℕ) (d : Program) → k < length ps → (get_or ps k d).name ≢ name) → filter (λ (q : Program). q.name == name) ps ≡ []
none_named [] name h = refl
none_named (p ∷ ps) name h =
    cond-false (p.name == name) (p ∷ filter (λ (q : Program). q.name == name) ps) (filter (λ (q : Program). q.name == name) ps) (ne_eqb p.name name (h 0 p (omega arith)))
    ∙ none_named ps name (λ k d below. h (suc k) d (omega (arith, below)))

-- no two have one name: so it is of the rest, the first has another name than each of the rest, and exactly one has the name of each
others_differ : (p : Program) (ps : List Program) → AllPairs Differ (p ∷ ps) → AllPairs Differ ps
others_differ p ps differ = λ i j d less below. differ (suc i) (suc j) d (omega (arith, less)) (omega (arith, below))

one_named : (ps : List Program) (p : Program) (k : ℕ) → AllPairs Differ ps → k < length ps → get_or ps k p ≡ p → filter (λ (q : Program). q.name == p.name) ps ≡ p ∷ []
one_named [] p k differ below here = absurd (omega (arith, below))
one_named (q ∷ ps) p zero differ below here =
    cond-true (q.name == p.name) (q ∷ filter (λ (r : Program). r.name == p.name) ps) (filter (λ (r : Program). r.name == p.name) ps) (eq-eqb q.name p.name (ap (λ (r : Program). r.name) here))
    ∙ ap (λ (rs : List Program). q ∷ rs)
    (none_named ps p.name (λ i d within e. differ 0 (suc i) d (omega arith) (omega (arith, within)) (ap (λ (r : Program). r.name) here ∙ sym e)))
    ∙ ap (λ (r : Program). r ∷ []) here
one_named (q ∷ ps) p (suc k) differ below here =
    cond-false (q.name == p.name) (q ∷ filter (λ (r : Program). r.name == p.name) ps) (filter (λ (r : Program). r.name == p.name) ps)
    (ne_eqb q.name p.name (λ e. differ 0 (suc k) p (omega arith) below (e ∙ sym (ap (λ (r : Program). r.name) here))))
    ∙ one_named ps p k (others_differ q ps differ) (omega (arith, below)) here

-- the last target of an odd number of spans, each at least 1, is positive
last_positive : (before : ℕ) (spans : List ℕ) → All SpanFits spans → length spans % 2 ≡ 1 → 0 < last_target (stages_from before spans)
last_positive before [] fit odd = absurd (omega (arith, odd))
last_positive before (run ∷ []) fit odd = omega (arith, (fit 0 0 (omega arith)).0)
last_positive before (run ∷ sleep ∷ []) fit odd = absurd (omega (arith, odd))
last_positive before (run ∷ sleep ∷ last ∷ []) fit odd = omega (arith, (fit 2 0 (omega arith)).0)
last_positive before (run ∷ sleep ∷ next ∷ nap ∷ rest) fit odd =
    last_positive (before + run) (next ∷ nap ∷ rest)
    (All-tail SpanFits sleep (next ∷ nap ∷ rest) (All-tail SpanFits run (sleep ∷ next ∷ nap ∷ rest) fit)) (omega (arith, odd))

-- a bound cluster that passes the test is there
bound_there : (count : ℕ) (bound : Option ℕ) (c : ℕ) → option_map_or (λ d. nat_lt d count) bound true ≡ true → bound ≡ Some c → c < count
bound_there count bound c test e = ltb-true c count (subst (λ (o : Option ℕ). option_map_or (λ d. nat_lt d count) o true ≡ true) e test)

pub made_on_course : (setup : SetupParts) (ps : List Program) (p : Program) (moment : ℕ) → AreRunnable setup ps → Contains ps p
    → OnCourse setup ps (made_thread setup p.name p.group p.bucket p.base p.bound moment)
made_on_course setup ps p moment can there =
    let fit : FitsSetup setup p = All-contains (FitsSetup setup) ps p can.each there in
    let parts = and_parts (nat_lt p.group (group_count setup)) (option_map_or (λ c. nat_lt c (cluster_count setup)) p.bound true) fit.there in
    record {
      fits = record {
        program = p;
        one = one_named ps p there.0 can.differ there.1 there.2;
        fitting = fit.there;
        of_it = record { name = refl; group = refl; bucket = refl; base = refl; bound = refl };
        thread = record {
          group = ltb-true p.group (group_count setup) parts.0;
          base = fit.numbers.base;
          bound = λ c e. bound_there (cluster_count setup) p.bound c parts.1 e;
          prefer = refl;
          name = fit.numbers.name;
          usage = omega arith;
          pending_ran = omega arith;
          pending_blocked = omega arith;
        };
      };
      left = last_positive 0 p.spans fit.numbers.spans fit.numbers.odd;
    }
