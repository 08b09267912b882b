-- Against one preferred load the lightest target is the one of the greatest difference.
use Rattle.std.proofs.Common.{◌≡◌, ℕ, ◌<◌, ◌-◌, nat_lt, ◌&&◌, ◌||◌, ◌==◌, Contains, List, filter, ap₂, arith, eq-eqb, eqb-true, ltb-true, lt-ltb}
use Rattle.flat_policy.specs.Laws.Aims.{gains_more}
use Rattle.flat_policy.specs.Policy.Aim.{Target, lighter}
use Rattle.flat_policy.specs.Policy.Unpreceded.{unpreceded}
use Rattle.flat_policy.proofs.ByMembers.{choice_alike}
use Rattle.flat_policy.proofs.Leaves.{same_bool}
use Rattle.flat_policy.proofs.Members.{member_of_filter}

less_gains : (l a b : ℕ) → a < l → b < l → nat_lt a b ≡ nat_lt (l - b) (l - a)
less_gains l a b x y =
    same_bool (nat_lt a b) (nat_lt (l - b) (l - a))
    (λ t. lt-ltb (l - b) (l - a) (omega (arith, x, y, ltb-true a b t)))
    (λ t. lt-ltb a b (omega (arith, x, y, ltb-true (l - b) (l - a) t)))

same_gains : (l a b : ℕ) → a < l → b < l → (a == b) ≡ ((l - a) == (l - b))
same_gains l a b x y =
    same_bool (a == b) ((l - a) == (l - b))
    (λ t. eq-eqb (l - a) (l - b) (omega (arith, x, y, eqb-true a b t)))
    (λ t. eq-eqb a b (omega (arith, x, y, eqb-true (l - a) (l - b) t)))

pub lightest_gains : (l : ℕ) (xs : List Target)
    → unpreceded lighter (filter (λ (x : Target). nat_lt x.weighed l) xs) ≡ unpreceded (gains_more l) (filter (λ (x : Target). nat_lt x.weighed l) xs)
lightest_gains l xs =
    let below : (x : Target) → Contains (filter (λ (z : Target). nat_lt z.weighed l) xs) x → x.weighed < l =
    λ x c. ltb-true x.weighed l (member_of_filter (λ (z : Target). nat_lt z.weighed l) xs x c).1 in
    choice_alike lighter (gains_more l) (filter (λ (x : Target). nat_lt x.weighed l) xs) (λ x y c d.
    ap₂ (λ a b. a || (b && nat_lt x.cluster y.cluster))
    (less_gains l x.weighed y.weighed (below x c) (below y d))
    (same_gains l x.weighed y.weighed (below x c) (below y d)))
