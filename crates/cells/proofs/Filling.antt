-- Eight places that are new, each for its number.
use Rattle.std.proofs.Common.{false, ◌≡◌, ℕ, ◌≤◌, List, [], ◌∷◌, Option, Some, is_some, map, nat_lt, refl, slice_index_or, sym, arith, suc, zero}
use Rattle.std.proofs.lemmas.Bool.{le-ltb}
use Rattle.flat_policy.specs.Policy.Setup.{SetupParts, cluster_count}
use Rattle.cells.specs.Held.{HeldParts}
use Rattle.cells.specs.Fresh.{AreNewPlaces, IsNewPlace}
use Rattle.cells.specs.Making.{IsNewHeld}
use Rattle.cells.specs.Stills.{held_at}

-- a place past the eighth is not below so many clusters
past_all : (n c : ℕ) → n ≤ 8 → false ≡ nat_lt (suc (suc (suc (suc (suc (suc (suc (suc c)))))))) n
past_all n c few = sym (le-ltb (suc (suc (suc (suc (suc (suc (suc (suc c)))))))) n (omega (arith, few)))

pub new_places : (s : SetupParts) (p0 p1 p2 p3 p4 p5 p6 p7 : Option HeldParts) → cluster_count s ≤ 8
    → IsNewPlace s 0 p0 → IsNewPlace s 1 p1 → IsNewPlace s 2 p2 → IsNewPlace s 3 p3 → IsNewPlace s 4 p4 → IsNewPlace s 5 p5 → IsNewPlace s 6 p6 → IsNewPlace s 7 p7
    → AreNewPlaces s (p0 ∷ p1 ∷ p2 ∷ p3 ∷ p4 ∷ p5 ∷ p6 ∷ p7 ∷ [])
new_places s p0 p1 p2 p3 p4 p5 p6 p7 few n0 n1 n2 n3 n4 n5 n6 n7 = record {
  below = record { eight = refl; below = below };
  held = held;
} where
  places : List (Option HeldParts)
  places = p0 ∷ p1 ∷ p2 ∷ p3 ∷ p4 ∷ p5 ∷ p6 ∷ p7 ∷ []

  below : (c : ℕ) → slice_index_or (map is_some places) c false ≡ nat_lt c (cluster_count s)
  below zero = n0.filled
  below (suc zero) = n1.filled
  below (suc (suc zero)) = n2.filled
  below (suc (suc (suc zero))) = n3.filled
  below (suc (suc (suc (suc zero)))) = n4.filled
  below (suc (suc (suc (suc (suc zero))))) = n5.filled
  below (suc (suc (suc (suc (suc (suc zero)))))) = n6.filled
  below (suc (suc (suc (suc (suc (suc (suc zero))))))) = n7.filled
  below (suc (suc (suc (suc (suc (suc (suc (suc c)))))))) = past_all (cluster_count s) c few

  held : (c : ℕ) (h : HeldParts) → held_at places c ≡ Some h → IsNewHeld s c h
  held zero h at = n0.held h at
  held (suc zero) h at = n1.held h at
  held (suc (suc zero)) h at = n2.held h at
  held (suc (suc (suc zero))) h at = n3.held h at
  held (suc (suc (suc (suc zero)))) h at = n4.held h at
  held (suc (suc (suc (suc (suc zero))))) h at = n5.held h at
  held (suc (suc (suc (suc (suc (suc zero)))))) h at = n6.held h at
  held (suc (suc (suc (suc (suc (suc (suc zero))))))) h at = n7.held h at
  held (suc (suc (suc (suc (suc (suc (suc (suc c)))))))) h at = absurd cc
