-- The work of a thread that a charge brings to the target of its stage: that target exactly.
use Rattle.std.proofs.Common.{◌≡◌, ℕ, ◌*◌, ◌+◌, ◌-◌, ◌/◌, ◌<◌, ◌≤◌, min, nat_lt, false, Contains, List, [], ◌∷◌, Option, Some, None, refl, sym, ap, ◌∙◌, inl, inr, arith}
use Rattle.std.proofs.Math.Nat.{div-mul-le_self, mul-le-mul_right}
use Rattle.std.proofs.lemmas.Bool.{ltb-false, ltb-true}
use Rattle.std.proofs.lemmas.Option.{none-some}
use Rattle.sched_base.specs.Facts.{charged}
use Rattle.sched_base.specs.declared.Facts.{Facts}
use Rattle.flat_policy.specs.Runs.Worker.{Program, Stage, last_target, stage_at, stages, stages_from, time_for}
use Rattle.flat_policy.proofs.Members.{contains_cases, contains_none, find_finds}

done_by : (done work : ℕ) → done ≤ work * 1000 + 999 → done / 1000 ≤ work
done_by done work h = omega arith

-- a charge of no more than the time for an amount of work does no more than that
charge_does : (rate us work : ℕ) → rate ≤ 1000 → us ≤ time_for rate work → us * rate / 1000 ≤ work
charge_does rate us work slow short =
    let most : time_for rate work * rate ≤ work * 1000 + (rate - 1) = div-mul-le_self (work * 1000 + (rate - 1)) rate in
    let product : us * rate ≤ time_for rate work * rate = mul-le-mul_right rate short in
    done_by (us * rate) work (omega (arith, most, product, slow))

-- a charge that reaches the target comes to it exactly
reaches : (t : Facts) (rate quantum target : ℕ) → rate ≤ 1000 → t.work < target → nat_lt (charged (min quantum (time_for rate (target - t.work))) rate t).work target ≡ false
    → (charged (min quantum (time_for rate (target - t.work))) rate t).work ≡ target
reaches t rate quantum target slow short reached =
    let us : ℕ = min quantum (time_for rate (target - t.work)) in
    let within : us ≤ time_for rate (target - t.work) = omega arith in
    omega (arith, charge_does rate us (target - t.work) slow within, ltb-false (charged us rate t).work target reached, short)

-- a stage by its first target and the sleep after it
abbrev first_of : ℕ → ℕ → Option ℕ → Stage
first_of before run sleep = record { target = before + run; sleep = sleep }

last_skips : (x s : Stage) (ss : List Stage) → Contains ss s → last_target (x ∷ ss) ≡ last_target ss
last_skips x s [] c = absurd (contains_none s c)
last_skips x s (t ∷ ss) c = refl

-- a stage without a sleep is the last one
last_rests : (before : ℕ) (spans : List ℕ) (s : Stage) → Contains (stages_from before spans) s → s.sleep ≡ None → s.target ≡ last_target (stages_from before spans)
last_rests before [] s c e = absurd (contains_none s c)
last_rests before (run ∷ []) s c e =
    elim (contains_cases (first_of before run None) [] s c) [
      | inl is ↦ ap (λ (v : Stage). v.target) (sym is)
      | inr d ↦ absurd (contains_none s d)
    ]
last_rests before (run ∷ sleep ∷ rest) s c e =
    elim (contains_cases (first_of before run (Some sleep)) (stages_from (before + run) rest) s c) [
      | inl is ↦ absurd (none-some sleep (sym e ∙ ap (λ (v : Stage). v.sleep) (sym is)))
      | inr d ↦ last_rests (before + run) rest s d e ∙ sym (last_skips (first_of before run (Some sleep)) s (stages_from (before + run) rest) d)
    ]

-- a thread whose charge reaches the target of a stage without a sleep has done the work of its program
pub work_done : (p : Program) (s : Stage) (t : Facts) (rate quantum : ℕ) → rate ≤ 1000 → stage_at p t.work ≡ Some s → nat_lt (charged (min quantum (time_for rate (s.target - t.work))) rate t).work s.target ≡ false → s.sleep ≡ None
    → (charged (min quantum (time_for rate (s.target - t.work))) rate t).work ≡ last_target (stages p)
work_done p s t rate quantum slow at reached rests =
    let found = find_finds (λ (x : Stage). nat_lt t.work x.target) (stages p) s at in
    reaches t rate quantum s.target slow (ltb-true t.work s.target found.1) reached ∙ last_rests 0 p.spans s found.0 rests
