-- Why something is not so: unlike acts, and lists too short.
use Rattle.std.proofs.Common.{◌≡◌, ℕ, ◌==◌, Bool, true, false, cond, List, [], ◌∷◌, filter, length, ◌+◌, sym, ◌∙◌, ap, subst, arith}
use Rattle.std.proofs.lemmas.Bool.{eq-eqb, false≢true}
use Rattle.std.proofs.lemmas.List.{length-append}
use Rattle.sched_base.specs.declared.Act.{Act}
use Rattle.sched_base.specs.declared.Act.TheVariants as acts
use Rattle.sched_base.specs.declared.Facts.{Facts}
use Rattle.flat_policy.specs.Policy.Setup.{SetupParts}
use Rattle.flat_policy.specs.Runs.Worker.{Placing}

-- a number for each kind of act
abbrev pub kind_number : Act → ℕ
kind_number (acts.Make name group bucket base bound) = 0
kind_number (acts.Enter c head) = 1
kind_number acts.Select = 2
kind_number (acts.Offer c) = 3
kind_number (acts.Pull name) = 4
kind_number (acts.Look c) = 5
kind_number acts.Aim = 6
kind_number (acts.Ran us) = 7
kind_number acts.Sleep = 8
kind_number (acts.Wake name) = 9
kind_number acts.End = 10
kind_number acts.Blocked = 11
kind_number acts.Refresh = 12
kind_number (acts.Off c) = 13
kind_number (acts.On c) = 14

-- acts of unlike kinds are not the same
pub acts_differ : (x y : Act) → x ≡ y → (kind_number x == kind_number y) ≡ false → ⊥
acts_differ x y same unlike = false≢true (sym unlike ∙ eq-eqb (kind_number x) (kind_number y) (ap kind_number same))

-- a placing has an aim and an enter at least
pub not_placed : (setup : SetupParts) (t : Facts) → Placing setup t [] → ⊥
not_placed setup t p =
    let few : 0 ≡ length p.looks + 2 = ap length p.whole ∙ length-append p.looks (p.aimed ∷ p.enters ∷ [])
    in omega (arith, few)

-- the first of a list
abbrev pub first_or : {X : Type 0} → X → List X → X
first_or d [] = d
first_or d (x ∷ xs) = x

-- the first of a list that passes a test is the first of those that pass it
pub first_kept : {X : Type 0} (test : X → Bool) (x : X) (xs : List X) (y : X) (ys : List X) → test x ≡ true → filter test (x ∷ xs) ≡ y ∷ ys → x ≡ y
first_kept test x xs y ys passes is =
    ap (first_or x) (subst (λ b. cond b (x ∷ filter test xs) (filter test xs) ≡ y ∷ ys) passes is)
