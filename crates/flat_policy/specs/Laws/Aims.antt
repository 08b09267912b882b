-- Laws of aims: an aim is a cluster that the thread may enter, or the lowest cluster that has to be looked at first.
use Rattle.std.specs.List.{list_any}
use Rattle.std.specs.Prelude.{Bool, Contains, Err, List, None, Ok, Option, filter, is_err, is_none, nat_lt, ℕ, ◌&&◌, ◌-◌, ◌==◌, ◌||◌, ◌≡◌, ◌≤◌}
use Rattle.sched_base.specs.declared.Facts.{Facts}
use Rattle.flat_policy.specs.Policy.Aim.{Look, MayEnter, Target, aim, lighter, look_at, needed}
use Rattle.flat_policy.specs.Policy.Unpreceded.{unpreceded}
use Rattle.flat_policy.specs.Policy.Setup.{SetupParts}

-- c is the lowest cluster that the aim needs and that was not looked at
pub record IsLowestUnseen (setup : SetupParts) (looks : List (Option Look)) (t : Facts) (c : ℕ) : Type 0 where
  pub is_needed : Contains (needed setup t) c
  pub unseen : look_at looks c ≡ None
  pub lowest : (d : ℕ) → Contains (needed setup t) d → look_at looks d ≡ None → c ≤ d

-- an aim may be entered; it is refused exactly where a needed cluster was not looked at, and then it names the lowest
pub record AimsRight (setup : SetupParts) (looks : List (Option Look)) (t : Facts) : Type 0 where
  pub enters : (c : ℕ) → aim setup looks t ≡ Ok c → MayEnter setup t c
  pub looks_first : (c : ℕ) → aim setup looks t ≡ Err c → IsLowestUnseen setup looks t c
  pub refused : is_err (aim setup looks t) ≡ list_any (λ c. is_none (look_at looks c)) (needed setup t)

-- every aim is right so
abbrev pub AimMayBeEntered : Type 0
AimMayBeEntered = (setup : SetupParts) (looks : List (Option Look)) (t : Facts) → AimsRight setup looks t

-- by how much a target is lighter than a load
abbrev pub gain : ℕ → Target → ℕ
gain l x = l - x.weighed

-- the greater difference goes first, and at one difference the lower cluster
abbrev pub gains_more : ℕ → Target → Target → Bool
gains_more l x y = nat_lt (gain l y) (gain l x) || ((gain l x == gain l y) && nat_lt x.cluster y.cluster)

-- against one preferred load the lightest target that is lighter is the one of the greatest difference
abbrev pub LightestGainsMost : Type 0
LightestGainsMost =
    (l : ℕ) (xs : List Target)
    → unpreceded lighter (filter (λ (x : Target). nat_lt x.weighed l) xs)
    ≡ unpreceded (gains_more l) (filter (λ (x : Target). nat_lt x.weighed l) xs)
