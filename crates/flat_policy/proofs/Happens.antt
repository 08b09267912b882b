-- What it tells that something came of a condition, of a choice, or of what may be there.
use Rattle.std.proofs.Common.{◌≡◌, Bool, true, false, cond, Option, Some, None, option_and_then, refl}
use Rattle.std.specs.Option.{option_map}
use Rattle.std.proofs.lemmas.Option.{none-some, same_Some}
use Rattle.flat_policy.specs.Runs.Histories.{where_true}

pub where_true_gives : {X : Type 0} (b : Bool) (x y : X) → where_true b x ≡ Some y → (b ≡ true) × (x ≡ y)
where_true_gives true x y h = (refl, same_Some x y h)
where_true_gives false x y h = absurd (none-some y h)

pub cond_gives : {X : Type 0} (b : Bool) (o : Option X) (y : X) → cond b o None ≡ Some y → (b ≡ true) × (o ≡ Some y)
cond_gives true o y h = (refl, h)
cond_gives false o y h = absurd (none-some y h)

pub map_gives : {X Y : Type 0} (f : X → Y) (o : Option X) (y : Y) → option_map f o ≡ Some y → (x : X) × (o ≡ Some x) × (f x ≡ y)
map_gives f None y h = absurd (none-some y h)
map_gives f (Some x) y h = (x, refl, same_Some (f x) y h)

pub and_then_gives : {X Y : Type 0} (f : X → Option Y) (o : Option X) (y : Y) → option_and_then f o ≡ Some y → (x : X) × (o ≡ Some x) × (f x ≡ Some y)
and_then_gives f None y h = absurd (none-some y h)
and_then_gives f (Some x) y h = (x, refl, h)
