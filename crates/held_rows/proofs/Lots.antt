-- The line rights of eight turns pay for a step at an actor's home and for one in the yard.
use Rattle.std.proofs.Common.{◌≡◌, ℕ, zero, suc, ◌<◌, ◌≤◌, sym, subst, arith}
use Rattle.sched_base.specs.declared.Spot.TheVariants as spots
use Rattle.flat_policy.specs.Policy.Setup.{SetupParts, home_of}
use Rattle.cells.specs.Lines.{left_at}
use Rattle.cells.specs.Making.{at_each}
use Rattle.cells.specs.Packs.{Amounts}
use Rattle.held_rows.specs.Rows.{HasTwo}

left_there : (c : ℕ) (lines : Amounts) → lines ≡ at_each 2 32 → c < 2 → 1 ≤ left_at (spots.Cluster c) lines
left_there zero lines are below = subst (λ (l : Amounts). 1 ≤ l.at0) (sym are) (omega arith)
left_there (suc zero) lines are below = subst (λ (l : Amounts). 1 ≤ l.at1) (sym are) (omega arith)
left_there (suc (suc c)) lines are below = absurd (omega (arith, below))

pub lots_pay : (setup : SetupParts) (actor c : ℕ) (lines : Amounts) → home_of setup actor ≡ c → c < 2 → lines ≡ at_each 2 32 → HasTwo setup actor lines
lots_pay setup actor c lines at below are = record {
  home = subst (λ (h : ℕ). 1 ≤ left_at (spots.Cluster h) lines) (sym at) (left_there c lines are below);
  yard = subst (λ (l : Amounts). 1 ≤ l.yard) (sym are) (omega arith);
}
