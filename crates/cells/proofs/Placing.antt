-- Places: a step at the place of a number, and which places are filled after it.
use Rattle.std.proofs.Common.{◌≡◌, ℕ, zero, suc, ◌<◌, Bool, false, List, [], ◌∷◌, map, get_or, set, is_some, IsSome, Option, Some, None, unwrap_or, slice_set, refl, sym, ap, ◌∙◌, subst}
use Rattle.std.proofs.lemmas.Bool.{false≢true, lt-ltb}
use Rattle.std.proofs.lemmas.Option.{none-some}
use Rattle.rights.specs.Values.{DeskId}
use Rattle.flat_policy.specs.Policy.Setup.{SetupParts}
use Rattle.flat_policy.specs.Runs.Worker.{Program}
use Rattle.cells.specs.Floors.{SomeHeld}
use Rattle.cells.specs.Held.{HeldParts, Keeps}
use Rattle.cells.specs.Stills.{AreFilled, HoldBelow, StepsAt, StepsIn, held_at}

-- a step in the place of a number is one at that number
pub at_number : (Told : ℕ → HeldParts → Type 0) (after : HeldParts → HeldParts) (c k : ℕ) (places old new : List (Option HeldParts)) (o n : Option HeldParts)
    → c ≡ k → places ≡ old → held_at places k ≡ o → new ≡ slice_set places k n → StepsIn o n (Told k) after → StepsAt c old new (Told c) after
at_number Told after c k places old new o n is view here there step =
    subst (λ (hs : List (Option HeldParts)). StepsAt c hs new (Told c) after) view
    (subst (λ (i : ℕ). StepsAt i places new (Told i) after) (sym is) (record {
      tells = λ h at. step.tells h (sym here ∙ at);
      leaves = λ h at. there ∙ ap (slice_set places k) (step.leaves h (sym here ∙ at));
    }))

-- a step of a held cluster is one in its place
pub told_in : (Told : HeldParts → Type 0) (after : HeldParts → HeldParts) (old new : Option HeldParts) (was is : HeldParts)
    → old ≡ Some was → new ≡ Some is → Told was → is ≡ after was → StepsIn old new Told after
told_in Told after old new was is was_there is_there told leaves =
    let same : (h : HeldParts) → old ≡ Some h → was ≡ h = λ h at. ap (λ (o : Option HeldParts). unwrap_or o was) (sym was_there ∙ at) in
    record {
      tells = λ h at. subst Told (same h at) told;
      leaves = λ h at. is_there ∙ ap Some (leaves ∙ ap after (same h at));
    }

-- what is told of a held cluster that keeps what its type says is told of some one
pub found : (setup : SetupParts) (programs : List Program) (desks : List DeskId) (c : ℕ) (Told : HeldParts → Type 0) (h : HeldParts) → Keeps setup programs desks c h → Told h → SomeHeld setup programs desks c Told
found setup programs desks c Told h kept told = record { held = h; kept = kept; told = told }

-- which places are filled, by their numbers
pub filled_is : (hs : List (Option HeldParts)) (c : ℕ) → get_or (map is_some hs) c false ≡ is_some (get_or hs c None)
filled_is [] c = refl
filled_is (o ∷ hs) zero = refl
filled_is (o ∷ hs) (suc c) = filled_is hs c

-- a place below the number of clusters is filled
pub filled_at : (n c : ℕ) (hs : List (Option HeldParts)) → HoldBelow n hs → c < n → IsSome (held_at hs c)
filled_at n c hs filled there = sym (filled_is hs c) ∙ filled.below c ∙ lt-ltb c n there

-- the places that are filled stay so where one that is filled gets another held cluster
filled_again : (hs : List (Option HeldParts)) (c : ℕ) (h x : HeldParts) → get_or hs c None ≡ Some h → map is_some (set hs c (Some x)) ≡ map is_some hs
filled_again [] c h x at = absurd (none-some h at)
filled_again (o ∷ hs) zero h x at = ap (λ (b : Bool). b ∷ map is_some hs) (sym (ap is_some at))
filled_again (o ∷ hs) (suc c) h x at = ap (λ (bs : List Bool). is_some o ∷ bs) (filled_again hs c h x at)

step_fills : (n c : ℕ) (old new : List (Option HeldParts)) (Told : HeldParts → Type 0) (after : HeldParts → HeldParts) (o : Option HeldParts)
    → held_at old c ≡ o → IsSome o → HoldBelow n old → StepsAt c old new Told after → HoldBelow n new
step_fills n c old new Told after None at there filled step = absurd (false≢true there)
step_fills n c old new Told after (Some h) at there filled step =
    subst (AreFilled n) (sym (ap (map is_some) (step.leaves h at) ∙ filled_again old c h (after h) at)) filled

-- after a step at a place the same places are filled
pub still_filled : (n c : ℕ) (old new : List (Option HeldParts)) (Told : HeldParts → Type 0) (after : HeldParts → HeldParts)
    → HoldBelow n old → c < n → StepsAt c old new Told after → HoldBelow n new
still_filled n c old new Told after filled there step = step_fills n c old new Told after (held_at old c) refl (filled_at n c old filled there) filled step

-- what holds of the held cluster of each of eight places holds of that of each number
pub each_of_eight : (P : ℕ → HeldParts → Type 0) (o0 o1 o2 o3 o4 o5 o6 o7 : Option HeldParts)
    → ((h : HeldParts) → o0 ≡ Some h → P 0 h) → ((h : HeldParts) → o1 ≡ Some h → P 1 h) → ((h : HeldParts) → o2 ≡ Some h → P 2 h) → ((h : HeldParts) → o3 ≡ Some h → P 3 h)
    → ((h : HeldParts) → o4 ≡ Some h → P 4 h) → ((h : HeldParts) → o5 ≡ Some h → P 5 h) → ((h : HeldParts) → o6 ≡ Some h → P 6 h) → ((h : HeldParts) → o7 ≡ Some h → P 7 h)
    → (c : ℕ) (h : HeldParts) → held_at (o0 ∷ o1 ∷ o2 ∷ o3 ∷ o4 ∷ o5 ∷ o6 ∷ o7 ∷ []) c ≡ Some h → P c h
each_of_eight P o0 o1 o2 o3 o4 o5 o6 o7 p0 p1 p2 p3 p4 p5 p6 p7 zero h at = p0 h at
each_of_eight P o0 o1 o2 o3 o4 o5 o6 o7 p0 p1 p2 p3 p4 p5 p6 p7 (suc zero) h at = p1 h at
each_of_eight P o0 o1 o2 o3 o4 o5 o6 o7 p0 p1 p2 p3 p4 p5 p6 p7 (suc (suc zero)) h at = p2 h at
each_of_eight P o0 o1 o2 o3 o4 o5 o6 o7 p0 p1 p2 p3 p4 p5 p6 p7 (suc (suc (suc zero))) h at = p3 h at
each_of_eight P o0 o1 o2 o3 o4 o5 o6 o7 p0 p1 p2 p3 p4 p5 p6 p7 (suc (suc (suc (suc zero)))) h at = p4 h at
each_of_eight P o0 o1 o2 o3 o4 o5 o6 o7 p0 p1 p2 p3 p4 p5 p6 p7 (suc (suc (suc (suc (suc zero))))) h at = p5 h at
each_of_eight P o0 o1 o2 o3 o4 o5 o6 o7 p0 p1 p2 p3 p4 p5 p6 p7 (suc (suc (suc (suc (suc (suc zero)))))) h at = p6 h at
each_of_eight P o0 o1 o2 o3 o4 o5 o6 o7 p0 p1 p2 p3 p4 p5 p6 p7 (suc (suc (suc (suc (suc (suc (suc zero))))))) h at = p7 h at
each_of_eight P o0 o1 o2 o3 o4 o5 o6 o7 p0 p1 p2 p3 p4 p5 p6 p7 (suc (suc (suc (suc (suc (suc (suc (suc c)))))))) h at = absurd (none-some h at)
