-- Flags at a lane's index are flags of that lane, and a pass by index is a pass over the flags and windows.
use Rattle.std.proofs.Common.{◌≡◌, ℕ, Bool, true, false, List, [], ◌∷◌, length, fold, Option, None, refl}
use Rattle.std.specs.Prelude.{slice_index_or, slice_set}
use Rattle.sched_base.specs.declared.buckets.Bucket.{Bucket}
use Rattle.sched_base.specs.declared.buckets.Bucket.TheVariants.{Bg, Df, Fg, Ini, Ui, Ut}
use Rattle.bucket_tables.specs.declared.Lane.{Lane}
use Rattle.flat_policy.specs.declared.setup.Times.{Times}
use Rattle.flat_policy.specs.Policy.Queue.{LaneState, lane, new_lane, timeshare_lanes}
use Rattle.root_deadlines.specs.Indices.{index_of_lane}
use Rattle.root_deadlines.proofs.Tens.{by_ten}
use Rattle.windows.specs.declared.choice.Marks.{Marks}
use Rattle.windows.specs.Passing.{passing_with}
use Rattle.windows.specs.Views.{windows_over}
use Rattle.windows.specs.WindowStates.{with_flag}
use Rattle.windows.proofs.Passing.{passing_over}
use Rattle.windows.proofs.AtIndex.{by_tens}

abbrev FlagsAt : Lane → Bool → List Bool → List ℕ → List Marks → Type 0
FlagsAt at filled fs ds ms = slice_set fs (index_of_lane at) filled ≡ with_flag at filled (windows_over ds ms) fs

pub flag_at : (b : Bucket) (bound filled : Bool) (fs : List Bool) (ds : List ℕ) (ms : List Marks) → (b ≡ Ui → ⊥)
    → length fs ≡ 10 → length ds ≡ 10 → length ms ≡ 10 → FlagsAt (lane b bound) filled fs ds ms
flag_at Ui bound filled fs ds ms other z x y = absurd (other refl)
flag_at Fg true filled fs ds ms other z x y =
    by_ten (λ gs. FlagsAt (lane Fg true) filled gs ds ms)
    (λ u0 u1 u2 u3 u4 u5 u6 u7 u8 u9. by_tens (FlagsAt (lane Fg true) filled (u0 ∷ u1 ∷ u2 ∷ u3 ∷ u4 ∷ u5 ∷ u6 ∷ u7 ∷ u8 ∷ u9 ∷ [])) (λ a b c d e f g h i j k l m n o p q r s t. refl) ds ms x y) fs z
flag_at Fg false filled fs ds ms other z x y =
    by_ten (λ gs. FlagsAt (lane Fg false) filled gs ds ms)
    (λ u0 u1 u2 u3 u4 u5 u6 u7 u8 u9. by_tens (FlagsAt (lane Fg false) filled (u0 ∷ u1 ∷ u2 ∷ u3 ∷ u4 ∷ u5 ∷ u6 ∷ u7 ∷ u8 ∷ u9 ∷ [])) (λ a b c d e f g h i j k l m n o p q r s t. refl) ds ms x y) fs z
flag_at Ini true filled fs ds ms other z x y =
    by_ten (λ gs. FlagsAt (lane Ini true) filled gs ds ms)
    (λ u0 u1 u2 u3 u4 u5 u6 u7 u8 u9. by_tens (FlagsAt (lane Ini true) filled (u0 ∷ u1 ∷ u2 ∷ u3 ∷ u4 ∷ u5 ∷ u6 ∷ u7 ∷ u8 ∷ u9 ∷ [])) (λ a b c d e f g h i j k l m n o p q r s t. refl) ds ms x y) fs z
flag_at Ini false filled fs ds ms other z x y =
    by_ten (λ gs. FlagsAt (lane Ini false) filled gs ds ms)
    (λ u0 u1 u2 u3 u4 u5 u6 u7 u8 u9. by_tens (FlagsAt (lane Ini false) filled (u0 ∷ u1 ∷ u2 ∷ u3 ∷ u4 ∷ u5 ∷ u6 ∷ u7 ∷ u8 ∷ u9 ∷ [])) (λ a b c d e f g h i j k l m n o p q r s t. refl) ds ms x y) fs z
flag_at Df true filled fs ds ms other z x y =
    by_ten (λ gs. FlagsAt (lane Df true) filled gs ds ms)
    (λ u0 u1 u2 u3 u4 u5 u6 u7 u8 u9. by_tens (FlagsAt (lane Df true) filled (u0 ∷ u1 ∷ u2 ∷ u3 ∷ u4 ∷ u5 ∷ u6 ∷ u7 ∷ u8 ∷ u9 ∷ [])) (λ a b c d e f g h i j k l m n o p q r s t. refl) ds ms x y) fs z
flag_at Df false filled fs ds ms other z x y =
    by_ten (λ gs. FlagsAt (lane Df false) filled gs ds ms)
    (λ u0 u1 u2 u3 u4 u5 u6 u7 u8 u9. by_tens (FlagsAt (lane Df false) filled (u0 ∷ u1 ∷ u2 ∷ u3 ∷ u4 ∷ u5 ∷ u6 ∷ u7 ∷ u8 ∷ u9 ∷ [])) (λ a b c d e f g h i j k l m n o p q r s t. refl) ds ms x y) fs z
flag_at Ut true filled fs ds ms other z x y =
    by_ten (λ gs. FlagsAt (lane Ut true) filled gs ds ms)
    (λ u0 u1 u2 u3 u4 u5 u6 u7 u8 u9. by_tens (FlagsAt (lane Ut true) filled (u0 ∷ u1 ∷ u2 ∷ u3 ∷ u4 ∷ u5 ∷ u6 ∷ u7 ∷ u8 ∷ u9 ∷ [])) (λ a b c d e f g h i j k l m n o p q r s t. refl) ds ms x y) fs z
flag_at Ut false filled fs ds ms other z x y =
    by_ten (λ gs. FlagsAt (lane Ut false) filled gs ds ms)
    (λ u0 u1 u2 u3 u4 u5 u6 u7 u8 u9. by_tens (FlagsAt (lane Ut false) filled (u0 ∷ u1 ∷ u2 ∷ u3 ∷ u4 ∷ u5 ∷ u6 ∷ u7 ∷ u8 ∷ u9 ∷ [])) (λ a b c d e f g h i j k l m n o p q r s t. refl) ds ms x y) fs z
flag_at Bg true filled fs ds ms other z x y =
    by_ten (λ gs. FlagsAt (lane Bg true) filled gs ds ms)
    (λ u0 u1 u2 u3 u4 u5 u6 u7 u8 u9. by_tens (FlagsAt (lane Bg true) filled (u0 ∷ u1 ∷ u2 ∷ u3 ∷ u4 ∷ u5 ∷ u6 ∷ u7 ∷ u8 ∷ u9 ∷ [])) (λ a b c d e f g h i j k l m n o p q r s t. refl) ds ms x y) fs z
flag_at Bg false filled fs ds ms other z x y =
    by_ten (λ gs. FlagsAt (lane Bg false) filled gs ds ms)
    (λ u0 u1 u2 u3 u4 u5 u6 u7 u8 u9. by_tens (FlagsAt (lane Bg false) filled (u0 ∷ u1 ∷ u2 ∷ u3 ∷ u4 ∷ u5 ∷ u6 ∷ u7 ∷ u8 ∷ u9 ∷ [])) (λ a b c d e f g h i j k l m n o p q r s t. refl) ds ms x y) fs z

-- the pass that the code makes
abbrev pub passing_by_index : List Times → List Bool → List LaneState → Option Lane
passing_by_index ts fs ws =
    fold (λ (a : Option Lane) (l : Lane). passing_with (slice_index_or fs (index_of_lane l) false) ts a (slice_index_or ws (index_of_lane l) (new_lane l))) None timeshare_lanes

pub by_index : (ts : List Times) (fs : List Bool) (ds : List ℕ) (ms : List Marks) → length fs ≡ 10 → length ds ≡ 10 → length ms ≡ 10
    → passing_by_index ts fs (windows_over ds ms) ≡ passing_over ts fs (windows_over ds ms) None
by_index ts fs ds ms z x y =
    by_ten (λ gs. passing_by_index ts gs (windows_over ds ms) ≡ passing_over ts gs (windows_over ds ms) None)
    (λ u0 u1 u2 u3 u4 u5 u6 u7 u8 u9. by_tens
    (λ es ns. passing_by_index ts (u0 ∷ u1 ∷ u2 ∷ u3 ∷ u4 ∷ u5 ∷ u6 ∷ u7 ∷ u8 ∷ u9 ∷ []) (windows_over es ns)
    ≡ passing_over ts (u0 ∷ u1 ∷ u2 ∷ u3 ∷ u4 ∷ u5 ∷ u6 ∷ u7 ∷ u8 ∷ u9 ∷ []) (windows_over es ns) None)
    (λ a b c d e f g h i j k l m n o p q r s t. refl) ds ms x y) fs z
