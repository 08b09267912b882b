use Rattle.std.proofs.Common.{◌≡◌, ◌==◌, ℕ, drop, find}
use Rattle.std.specs.BTreeMap.{get}
use Rattle.std.specs.Ordering.{nat_cmp}
use Rattle.flat_policy.specs.declared.texts.ProgramLine.{ProgramLine}
use Rattle.cells.proofs.frame.by_name.Given as goal

abbrev pub invariant-loop-k : goal.invariant-loop-k
invariant-loop-k l = (name : ℕ) → get nat_cmp l.named name ≡ find (λ (p : ProgramLine). p.name == name) (drop l.k l.programs)
