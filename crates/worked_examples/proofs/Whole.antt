-- What whole runs of few clusters, actors and programs need.
use Rattle.std.proofs.Common.{◌≡◌, zero, suc, [], ◌∷◌, Contains, arith}

-- the only member of a list of one
pub only_member : {X : Type 0} (x y : X) → Contains (x ∷ []) y → x ≡ y
only_member x y (zero, below, is) = is
only_member x y (suc k, below, is) = absurd (omega (arith, below))
