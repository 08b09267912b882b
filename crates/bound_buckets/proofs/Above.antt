-- What the tops say of the choice is what the queue says.
use Rattle.std.proofs.Common.{◌≡◌, ℕ, ◌<◌, max, nat_le, Bool, true, false, not, ◌&&◌, ◌||◌, cond, Option, None, Some, is_some, option_map, refl, sym, ap, ◌∙◌, arith}
use Rattle.std.proofs.lemmas.Bool.{le-leb, lt-leb}
use Rattle.sched_base.specs.declared.buckets.Bucket.TheVariants.{Fg, Ui}
use Rattle.bucket_tables.specs.declared.Lane.{Lane}
use Rattle.flat_policy.specs.Policy.Queue.{Flat, has_entries, lane}
use Rattle.flat_policy.specs.Policy.Windows.{above_ui, lane_priority}
use Rattle.bound_buckets.specs.Tops.{above_ui_of, at_least, greater_of, top_of, tops_of}
use Rattle.bound_buckets.proofs.LanePriorities.{empty_is_zero, ui_has_sixteen}

-- a priority, 0 where it is missing
abbrev or_zero : Option ℕ → ℕ
or_zero None = 0
or_zero (Some x) = x

greater_is : (a b : Option ℕ) → or_zero (greater_of a b) ≡ max (or_zero a) (or_zero b)
greater_is None None = omega arith
greater_is None (Some y) = omega arith
greater_is (Some x) None = omega arith
greater_is (Some x) (Some y) = refl

greater_there : (a b : Option ℕ) → is_some (greater_of a b) ≡ (is_some a || is_some b)
greater_there None None = refl
greater_there None (Some y) = refl
greater_there (Some x) None = refl
greater_there (Some x) (Some y) = refl

at_least_is : (a b : Option ℕ) → (is_some a && (not (is_some b) || nat_le (or_zero b) (or_zero a))) ≡ at_least a b
at_least_is None b = refl
at_least_is (Some x) None = refl
at_least_is (Some x) (Some y) = refl

-- the test by numbers is the test by the tops
by_tops : (a b c d : Option ℕ)
    → ((is_some a || is_some b) && (not (is_some c || is_some d) || nat_le (max (or_zero c) (or_zero d)) (max (or_zero a) (or_zero b))))
    ≡ at_least (greater_of a b) (greater_of c d)
by_tops a b c d =
    rw (← greater_there a b, ← greater_there c d, ← greater_is a b, ← greater_is c d) (at_least_is (greater_of a b) (greater_of c d))

-- the choice by numbers, where a UI priority that is there is above 0
abbrev by_numbers : Option ℕ → Option ℕ → Bool → Option Lane
by_numbers a b first = cond first (Some (lane Ui (nat_le (or_zero b) (or_zero a)))) None

either : (first p q : Bool) → p ≡ q → cond first (Some (lane Ui p)) None ≡ option_map (lane Ui) (cond first (Some q) None)
either true p q is = ap (λ b. Some (lane Ui b)) is
either false p q is = refl

same_choice : (a b g : Option ℕ) → ((y : ℕ) → b ≡ Some y → 0 < y)
    → by_numbers a b (at_least (greater_of a b) g) ≡ option_map (lane Ui) (cond (at_least (greater_of a b) g) (Some (at_least a b)) None)
same_choice None None g above = refl
same_choice (Some x) None g above =
    either (at_least (Some x) g) (nat_le 0 x) true (le-leb 0 x (omega arith))
same_choice None (Some y) g above =
    either (at_least (Some y) g) (nat_le y 0) false (lt-leb y 0 (above y refl))
same_choice (Some x) (Some y) g above =
    either (at_least (Some (max x y)) g) (nat_le y x) (nat_le y x) refl

-- the top of a lane as flag and number
there_is : (s : Flat) (l : Lane) → is_some (top_of s l) ≡ has_entries s l
there_is s l = elim (has_entries s l) as (λ b. is_some (cond b (Some (lane_priority s l)) None) ≡ b) [ true ↦ refl | false ↦ refl ]

number_is : (s : Flat) (l : Lane) → or_zero (top_of s l) ≡ lane_priority s l
number_is s l = at (has_entries s l) refl
  where
    at : (b : Bool) → has_entries s l ≡ b → or_zero (cond b (Some (lane_priority s l)) None) ≡ lane_priority s l
    at true is = refl
    at false is = sym (empty_is_zero s l is)

ui_above_zero : (s : Flat) (bound : Bool) (y : ℕ) → top_of s (lane Ui bound) ≡ Some y → 0 < y
ui_above_zero s bound y h = at (has_entries s (lane Ui bound)) refl h
  where
    at : (b : Bool) → has_entries s (lane Ui bound) ≡ b → cond b (Some (lane_priority s (lane Ui bound))) None ≡ Some y → 0 < y
    at true is k = let same : lane_priority s (lane Ui bound) ≡ y = cc in omega (arith, ui_has_sixteen s bound is)
    at false is k = absurd cc

pub above_is : (s : Flat) → option_map (lane Ui) (above_ui_of (tops_of s)) ≡ above_ui s
above_is s =
    let a = top_of s (lane Ui true) in
    let b = top_of s (lane Ui false) in
    let c = top_of s (lane Fg true) in
    let d = top_of s (lane Fg false) in
    sym (same_choice a b (greater_of c d) (ui_above_zero s false))
    ∙ ap (by_numbers a b) (sym (by_tops a b c d))
    ∙ rw (
      there_is s (lane Ui true),
      there_is s (lane Ui false),
      there_is s (lane Fg true),
      there_is s (lane Fg false),
      number_is s (lane Ui true),
      number_is s (lane Ui false),
      number_is s (lane Fg true),
      number_is s (lane Fg false),
    ) refl
