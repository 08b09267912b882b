-- What is read and written at the index of a lane is read and written at that lane.
use Rattle.std.proofs.Common.{◌≡◌, ℕ, Bool, true, false, List, [], ◌∷◌, length, map, refl}
use Rattle.std.specs.Prelude.{slice_index, slice_index_or, slice_set}
use Rattle.sched_base.specs.declared.buckets.Bucket.{Bucket}
use Rattle.sched_base.specs.declared.buckets.Bucket.TheVariants.{Bg, Df, Fg, Ini, Ui, Ut}
use Rattle.bucket_tables.specs.declared.Lane.{Lane}
use Rattle.flat_policy.specs.Policy.Queue.{LaneState, lane, new_lane, timeshare_lanes}
use Rattle.flat_policy.specs.Policy.Windows.{at_lane}
use Rattle.root_deadlines.specs.Indices.{index_of_lane}
use Rattle.root_deadlines.proofs.Tens.{by_ten}
use Rattle.windows.specs.declared.choice.Marks.{Marks}
use Rattle.windows.specs.Views.{windows_over}
use Rattle.windows.proofs.Ordered.{lanes_of}

-- a fact of two lists of ten
pub by_tens : {X Y : Type 0} (P : List X → List Y → Type 0)
    → ((a b c d e f g h i j : X) (k l m n o p q r s t : Y) → P (a ∷ b ∷ c ∷ d ∷ e ∷ f ∷ g ∷ h ∷ i ∷ j ∷ []) (k ∷ l ∷ m ∷ n ∷ o ∷ p ∷ q ∷ r ∷ s ∷ t ∷ []))
    → (xs : List X) (ys : List Y) → length xs ≡ 10 → length ys ≡ 10 → P xs ys
by_tens P all xs ys x y =
    by_ten (λ us. P us ys) (λ a b c d e f g h i j. by_ten (λ vs. P (a ∷ b ∷ c ∷ d ∷ e ∷ f ∷ g ∷ h ∷ i ∷ j ∷ []) vs) (λ k l m n o p q r s t. all a b c d e f g h i j k l m n o p q r s t) ys y) xs x

pub lanes_over : (ds : List ℕ) (ms : List Marks) → length ds ≡ 10 → length ms ≡ 10 → lanes_of (windows_over ds ms) ≡ timeshare_lanes
lanes_over ds ms d m = by_tens (λ es ns. lanes_of (windows_over es ns) ≡ timeshare_lanes) (λ a b c d e f g h i j k l m n o p q r s t. refl) ds ms d m

pub deadlines_over : (ds : List ℕ) (ms : List Marks) → length ds ≡ 10 → length ms ≡ 10 → map (λ (w : LaneState). w.deadline) (windows_over ds ms) ≡ ds
deadlines_over ds ms d m =
    by_tens (λ es ns. map (λ (w : LaneState). w.deadline) (windows_over es ns) ≡ es) (λ a b c d e f g h i j k l m n o p q r s t. refl) ds ms d m

-- the windows read at a lane's index
abbrev ReadsAt : Lane → Marks → Marks → List ℕ → List Marks → Type 0
ReadsAt at mark default ds ms =
    mark ≡ slice_index_or ms (index_of_lane at) default
    → slice_index_or (windows_over ds ms) (index_of_lane at) (new_lane at) ≡ record { lane = at; deadline = slice_index ds (index_of_lane at); warp = mark.warp; starved = mark.starved }

pub read_at : (b : Bucket) (bound : Bool) (mark default : Marks) (ds : List ℕ) (ms : List Marks) → (b ≡ Ui → ⊥) → length ds ≡ 10 → length ms ≡ 10
    → ReadsAt (lane b bound) mark default ds ms
read_at Ui bound mark default ds ms other x y = absurd (other refl)
read_at Fg true mark default ds ms other x y = by_tens (ReadsAt (lane Fg true) mark default) (λ a b c d e f g h i j k l m n o p q r s t is. rw is refl) ds ms x y
read_at Fg false mark default ds ms other x y = by_tens (ReadsAt (lane Fg false) mark default) (λ a b c d e f g h i j k l m n o p q r s t is. rw is refl) ds ms x y
read_at Ini true mark default ds ms other x y = by_tens (ReadsAt (lane Ini true) mark default) (λ a b c d e f g h i j k l m n o p q r s t is. rw is refl) ds ms x y
read_at Ini false mark default ds ms other x y = by_tens (ReadsAt (lane Ini false) mark default) (λ a b c d e f g h i j k l m n o p q r s t is. rw is refl) ds ms x y
read_at Df true mark default ds ms other x y = by_tens (ReadsAt (lane Df true) mark default) (λ a b c d e f g h i j k l m n o p q r s t is. rw is refl) ds ms x y
read_at Df false mark default ds ms other x y = by_tens (ReadsAt (lane Df false) mark default) (λ a b c d e f g h i j k l m n o p q r s t is. rw is refl) ds ms x y
read_at Ut true mark default ds ms other x y = by_tens (ReadsAt (lane Ut true) mark default) (λ a b c d e f g h i j k l m n o p q r s t is. rw is refl) ds ms x y
read_at Ut false mark default ds ms other x y = by_tens (ReadsAt (lane Ut false) mark default) (λ a b c d e f g h i j k l m n o p q r s t is. rw is refl) ds ms x y
read_at Bg true mark default ds ms other x y = by_tens (ReadsAt (lane Bg true) mark default) (λ a b c d e f g h i j k l m n o p q r s t is. rw is refl) ds ms x y
read_at Bg false mark default ds ms other x y = by_tens (ReadsAt (lane Bg false) mark default) (λ a b c d e f g h i j k l m n o p q r s t is. rw is refl) ds ms x y

-- the windows written at a lane's index
abbrev WritesAt : Lane → (LaneState → LaneState) → ℕ → Marks → List ℕ → List Marks → Type 0
WritesAt at change deadline mark ds ms =
    change (slice_index_or (windows_over ds ms) (index_of_lane at) (new_lane at)) ≡ record { lane = at; deadline = deadline; warp = mark.warp; starved = mark.starved }
    → windows_over (slice_set ds (index_of_lane at) deadline) (slice_set ms (index_of_lane at) mark) ≡ at_lane at change (windows_over ds ms)

pub write_at : (b : Bucket) (bound : Bool) (change : LaneState → LaneState) (deadline : ℕ) (mark : Marks) (ds : List ℕ) (ms : List Marks)
    → (b ≡ Ui → ⊥) → length ds ≡ 10 → length ms ≡ 10 → WritesAt (lane b bound) change deadline mark ds ms
write_at Ui bound change deadline mark ds ms other x y = absurd (other refl)
write_at Fg true change deadline mark ds ms other x y = by_tens (WritesAt (lane Fg true) change deadline mark) (λ a b c d e f g h i j k l m n o p q r s t is. rw is refl) ds ms x y
write_at Fg false change deadline mark ds ms other x y = by_tens (WritesAt (lane Fg false) change deadline mark) (λ a b c d e f g h i j k l m n o p q r s t is. rw is refl) ds ms x y
write_at Ini true change deadline mark ds ms other x y = by_tens (WritesAt (lane Ini true) change deadline mark) (λ a b c d e f g h i j k l m n o p q r s t is. rw is refl) ds ms x y
write_at Ini false change deadline mark ds ms other x y = by_tens (WritesAt (lane Ini false) change deadline mark) (λ a b c d e f g h i j k l m n o p q r s t is. rw is refl) ds ms x y
write_at Df true change deadline mark ds ms other x y = by_tens (WritesAt (lane Df true) change deadline mark) (λ a b c d e f g h i j k l m n o p q r s t is. rw is refl) ds ms x y
write_at Df false change deadline mark ds ms other x y = by_tens (WritesAt (lane Df false) change deadline mark) (λ a b c d e f g h i j k l m n o p q r s t is. rw is refl) ds ms x y
write_at Ut true change deadline mark ds ms other x y = by_tens (WritesAt (lane Ut true) change deadline mark) (λ a b c d e f g h i j k l m n o p q r s t is. rw is refl) ds ms x y
write_at Ut false change deadline mark ds ms other x y = by_tens (WritesAt (lane Ut false) change deadline mark) (λ a b c d e f g h i j k l m n o p q r s t is. rw is refl) ds ms x y
write_at Bg true change deadline mark ds ms other x y = by_tens (WritesAt (lane Bg true) change deadline mark) (λ a b c d e f g h i j k l m n o p q r s t is. rw is refl) ds ms x y
write_at Bg false change deadline mark ds ms other x y = by_tens (WritesAt (lane Bg false) change deadline mark) (λ a b c d e f g h i j k l m n o p q r s t is. rw is refl) ds ms x y

-- a change that leaves the windows at a lane's index leaves all
abbrev StaysAt : Lane → (LaneState → LaneState) → List ℕ → List Marks → Type 0
StaysAt at change ds ms =
    change (slice_index_or (windows_over ds ms) (index_of_lane at) (new_lane at)) ≡ slice_index_or (windows_over ds ms) (index_of_lane at) (new_lane at)
    → windows_over ds ms ≡ at_lane at change (windows_over ds ms)

pub stays_at : (b : Bucket) (bound : Bool) (change : LaneState → LaneState) (ds : List ℕ) (ms : List Marks) → (b ≡ Ui → ⊥) → length ds ≡ 10 → length ms ≡ 10
    → StaysAt (lane b bound) change ds ms
stays_at Ui bound change ds ms other x y = absurd (other refl)
stays_at Fg true change ds ms other x y = by_tens (StaysAt (lane Fg true) change) (λ a b c d e f g h i j k l m n o p q r s t is. rw is refl) ds ms x y
stays_at Fg false change ds ms other x y = by_tens (StaysAt (lane Fg false) change) (λ a b c d e f g h i j k l m n o p q r s t is. rw is refl) ds ms x y
stays_at Ini true change ds ms other x y = by_tens (StaysAt (lane Ini true) change) (λ a b c d e f g h i j k l m n o p q r s t is. rw is refl) ds ms x y
stays_at Ini false change ds ms other x y = by_tens (StaysAt (lane Ini false) change) (λ a b c d e f g h i j k l m n o p q r s t is. rw is refl) ds ms x y
stays_at Df true change ds ms other x y = by_tens (StaysAt (lane Df true) change) (λ a b c d e f g h i j k l m n o p q r s t is. rw is refl) ds ms x y
stays_at Df false change ds ms other x y = by_tens (StaysAt (lane Df false) change) (λ a b c d e f g h i j k l m n o p q r s t is. rw is refl) ds ms x y
stays_at Ut true change ds ms other x y = by_tens (StaysAt (lane Ut true) change) (λ a b c d e f g h i j k l m n o p q r s t is. rw is refl) ds ms x y
stays_at Ut false change ds ms other x y = by_tens (StaysAt (lane Ut false) change) (λ a b c d e f g h i j k l m n o p q r s t is. rw is refl) ds ms x y
stays_at Bg true change ds ms other x y = by_tens (StaysAt (lane Bg true) change) (λ a b c d e f g h i j k l m n o p q r s t is. rw is refl) ds ms x y
stays_at Bg false change ds ms other x y = by_tens (StaysAt (lane Bg false) change) (λ a b c d e f g h i j k l m n o p q r s t is. rw is refl) ds ms x y
