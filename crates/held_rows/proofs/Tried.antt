-- The programs of the tests may run in every setup that is as they ask.
use Rattle.std.proofs.Common.{ℕ, zero, suc, ◌<◌, ◌≢◌, ◌^◌, nat_lt, true, [], ◌∷◌, get_or, refl, arith}
use Rattle.std.specs.List.{Contains}
use Rattle.std.proofs.lemmas.Bool.{and_from, lt-ltb}
use Rattle.flat_policy.specs.Policy.BuiltSetups.{IsSetup}
use Rattle.flat_policy.specs.Policy.Setup.{SetupParts, group_count}
use Rattle.flat_policy.specs.Runs.Worker.{Program}
use Rattle.trace_text.specs.Runs.{SpanFits}
use Rattle.held_rows.specs.Rows.{IsPair, row_program, row_programs}
use Rattle.cells.specs.Frames.{AreRunnable, FitsSetup}

one_span : (k d : ℕ) → k < 1 → SpanFits (get_or (5000 ∷ []) k d)
one_span zero d within = (omega arith, omega arith)
one_span (suc k) d within = absurd (omega (arith, within))

-- one of them fits every setup
row_fits : (setup : SetupParts) (name : ℕ) → IsSetup setup → name < 2 ^ 32 → FitsSetup setup (row_program name)
row_fits setup name is small =
    let group : 0 < group_count setup = omega (arith, is.groups_least) in
    record {
      numbers = record { name = small; group = omega arith; base = omega arith; bound = tt; spans = one_span; odd = refl; few = omega arith };
      there = and_from (nat_lt 0 (group_count setup)) true (lt-ltb 0 (group_count setup) group) refl;
    }

each_fits : (setup : SetupParts) → IsSetup setup → (k : ℕ) (d : Program) → k < 2 → FitsSetup setup (get_or row_programs k d)
each_fits setup is zero d within = row_fits setup 3 is (omega arith)
each_fits setup is (suc zero) d within = row_fits setup 7 is (omega arith)
each_fits setup is (suc (suc k)) d within = absurd (omega (arith, within))

both_differ : (i j : ℕ) (d : Program) → i < j → j < 2 → (get_or row_programs i d).name ≢ (get_or row_programs j d).name
both_differ zero zero d less below = absurd (omega (arith, less))
both_differ zero (suc zero) d less below = λ e. absurd (omega (arith, e))
both_differ zero (suc (suc j)) d less below = absurd (omega (arith, below))
both_differ (suc i) zero d less below = absurd (omega (arith, less))
both_differ (suc i) (suc zero) d less below = absurd (omega (arith, less))
both_differ (suc i) (suc (suc j)) d less below = absurd (omega (arith, below))

pub rows_runnable : (setup : SetupParts) → IsSetup setup → IsPair setup → AreRunnable setup row_programs
rows_runnable setup is pair = record { each = each_fits setup is; differ = both_differ; few = pair.threads }

-- the second is one of them
pub second_is_there : Contains row_programs (row_program 7)
second_is_there = (1, omega arith, refl)
