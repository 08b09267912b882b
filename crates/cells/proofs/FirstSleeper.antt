-- The place of the blocked thread that is woken first, and which thread is woken where it is due.
use Rattle.std.proofs.Common.{◌≡◌, ℕ, zero, suc, ◌<◌, ◌≤◌, ◌==◌, ◌&&◌, nat_le, nat_lt, Bool, true, false, not, List, [], ◌∷◌, length, map, get_or, find, Option, Some, None, option_and_then, refl, sym, ap, ◌∙◌, subst, inl, inr, arith}
use Rattle.std.proofs.Math.ListN as listn
use Rattle.std.specs.List.{IsFirstBest, list_any, remove}
use Rattle.std.proofs.lemmas.Bool.{cases_Bool, cond-false, cond-true, le-leb, lt-leb, not-true, or_from, or_left, or_parts, or_right}
use Rattle.std.proofs.lemmas.Bool.Decides.{nat_tests}
use Rattle.std.proofs.lemmas.List.{get_or-map, length-map}
use Rattle.std.proofs.lemmas.Option.{none-some, same_Some}
use Rattle.flat_policy.specs.Policy.Unpreceded.{is_preceded, unpreceded}
use Rattle.flat_policy.specs.Runs.Histories.{DueSleeper, RunYard, first_sleeper, wakes_before, where_true, without_first}
use Rattle.cells.specs.Sleepers.{sleeper_of}
use Rattle.cells.specs.Waking.{IsDueAt, IsFirstAt, is_foremost}
use Rattle.cells.specs.Yards.{due_first, some_due}
use Rattle.cells.specs.declared.held_yard.Resting.{Resting}

-- a test at no place, and at one
none_at : {X Y : Type 0} (f : X → Y) (q : Y → Bool) (xs : List X) (d : X) → ((k : ℕ) → k < length xs → q (f (get_or xs k d)) ≡ false) → list_any q (map f xs) ≡ false
none_at f q [] d h = refl
none_at f q (x ∷ xs) d h =
    or_from (q (f x)) (list_any q (map f xs)) (h 0 (omega arith)) (none_at f q xs d (λ k within. h (suc k) (omega (arith, within))))

one_at : {X Y : Type 0} (f : X → Y) (q : Y → Bool) (xs : List X) (d : X) (k : ℕ) → k < length xs → q (f (get_or xs k d)) ≡ true → list_any q (map f xs) ≡ true
one_at f q [] d k within h = absurd (omega (arith, within))
one_at f q (x ∷ xs) d zero within h = or_left (q (f x)) (list_any q (map f xs)) h
one_at f q (x ∷ xs) d (suc k) within h = or_right (q (f x)) (list_any q (map f xs)) (one_at f q xs d k (omega (arith, within)) h)

-- the first that passes is found, and it is what a list is left without
finds_at : {X Y : Type 0} (f : X → Y) (p : Y → Bool) (xs : List X) (d : X) (b : ℕ) → b < length xs → p (f (get_or xs b d)) ≡ true → ((k : ℕ) → k < b → p (f (get_or xs k d)) ≡ false) → find p (map f xs) ≡ Some (f (get_or xs b d))
finds_at f p [] d b within here before = absurd (omega (arith, within))
finds_at f p (x ∷ xs) d zero within here before = cond-true (p (f x)) (Some (f x)) (find p (map f xs)) here
finds_at f p (x ∷ xs) d (suc b) within here before =
    cond-false (p (f x)) (Some (f x)) (find p (map f xs)) (before 0 (omega arith))
    ∙ finds_at f p xs d b (omega (arith, within)) here (λ k below. before (suc k) (omega (arith, below)))

leaves_at : {X Y : Type 0} (f : X → Y) (p : Y → Bool) (xs : List X) (d : X) (b : ℕ) → b < length xs → p (f (get_or xs b d)) ≡ true → ((k : ℕ) → k < b → p (f (get_or xs k d)) ≡ false) → remove (map f xs) b ≡ without_first p (map f xs)
leaves_at f p [] d b within here before = absurd (omega (arith, within))
leaves_at f p (x ∷ xs) d zero within here before = sym (cond-true (p (f x)) (map f xs) (f x ∷ without_first p (map f xs)) here)
leaves_at f p (x ∷ xs) d (suc b) within here before =
    ap (λ ys. f x ∷ ys) (leaves_at f p xs d b (omega (arith, within)) here (λ k below. before (suc k) (omega (arith, below))))
    ∙ sym (cond-false (p (f x)) (map f xs) (f x ∷ without_first p (map f xs)) (before 0 (omega arith)))

-- whether one is woken before another, in numbers
not_before : (x y : DueSleeper) → wakes_before x y ≡ false → (y.due ≤ x.due) × (x.due ≡ y.due → y.facts.name ≤ x.facts.name)
not_before x y h =
    let parts = or_parts (nat_lt x.due y.due) ((x.due == y.due) && nat_lt x.facts.name y.facts.name) h in
    grind (arith, nat_tests, parts)

-- the first of the least in a list is the one to be woken first
pub first_at : {X : Type 0} (f : X → DueSleeper) (xs : List X) (b : ℕ) → IsFirstBest (λ (x y : X). wakes_before (f x) (f y)) xs (length xs) b → IsFirstAt (map f xs) b
first_at f [] b h = absurd (omega (arith, h.0))
first_at {X} f (x ∷ xs) b h =
    let ys : List X = x ∷ xs in
    let ws : List DueSleeper = map f ys in
    let here : is_foremost ws (f (get_or ys b x)) ≡ true = ap not (none_at f (λ (w : DueSleeper). wakes_before w (f (get_or ys b x))) ys x (λ k within. h.1 k x within)) in
    let before : (k : ℕ) → k < b → is_foremost ws (f (get_or ys k x)) ≡ false = λ k below. ap not (one_at f (λ (w : DueSleeper). wakes_before w (f (get_or ys k x))) ys x b h.0 (h.2 k x below)) in
    record {
      within = omega (arith, h.0, length-map ys f);
      first = λ d. finds_at f (is_foremost ws) ys x b h.0 here before ∙ ap (λ (w : DueSleeper). Some w) (sym (get_or-map f ys b x d h.0));
      others = leaves_at f (is_foremost ws) ys x b h.0 here before;
    }

finds_passing : {X : Type 0} (p : X → Bool) (xs : List X) (x : X) → find p xs ≡ Some x → p x ≡ true
finds_passing p [] x h = absurd (none-some x h)
finds_passing p (y ∷ ys) x h =
    elim (cases_Bool (p y)) [
      | inl e ↦ (let same : y ≡ x = same_Some y x (sym (cond-true (p y) (Some y) (find p ys) e) ∙ h) in ap p (sym same) ∙ e)
      | inr e ↦ finds_passing p ys x (sym (cond-false (p y) (Some y) (find p ys) e) ∙ h)
    ]

none_sooner : (moment : ℕ) (w : DueSleeper) (ws : List DueSleeper) → moment < w.due → is_preceded wakes_before ws w ≡ false → list_any (λ (v : DueSleeper). nat_le v.due moment) ws ≡ false
none_sooner moment w [] late h = refl
none_sooner moment w (v ∷ ws) late h =
    let parts = or_parts (wakes_before v w) (is_preceded wakes_before ws w) h in
    let least = (not_before v w parts.0).0 in
    or_from (nat_le v.due moment) (list_any (λ (u : DueSleeper). nat_le u.due moment) ws) (lt-leb v.due moment (omega (arith, late, least))) (none_sooner moment w ws late parts.1)

-- where the one to be woken first is not due, none is
pub none_is_due : (moment : ℕ) (w : DueSleeper) (ws : List DueSleeper) → unpreceded wakes_before ws ≡ Some w → moment < w.due → list_any (λ (v : DueSleeper). nat_le v.due moment) ws ≡ false
none_is_due moment w ws first late = none_sooner moment w ws late (not-true (is_preceded wakes_before ws w) (finds_passing (is_foremost ws) ws w first))

-- the one that was read at that place is the one to be woken first
pub read_at : {X : Type 0} (f : X → DueSleeper) (xs : List X) (i : ℕ) (x : X) → x ≡ get_or xs i x → get_or (map f xs) i (f x) ≡ f x
read_at f xs i x is = listn.get_or-map f xs i x ∙ ap f (sym is)

pub first_read : {X : Type 0} (f : X → DueSleeper) (xs : List X) (i : ℕ) (x : X) → IsFirstAt (map f xs) i → x ≡ get_or xs i x → unpreceded wakes_before (map f xs) ≡ Some (f x)
first_read f xs i x at is = at.first (f x) ∙ ap (λ (w : DueSleeper). Some w) (read_at f xs i x is)

-- taking one out of a list, and what each means
removed : {X Y : Type 0} (f : X → Y) (xs : List X) (i : ℕ) → map f (remove xs i) ≡ remove (map f xs) i
removed f [] zero = refl
removed f [] (suc i) = refl
removed f (x ∷ xs) zero = refl
removed f (x ∷ xs) (suc i) = ap (λ ys. f x ∷ ys) (removed f xs i)

-- the blocked threads without the first are those left
pub others_left : {X : Type 0} (f : X → DueSleeper) (xs : List X) (i : ℕ) → IsFirstAt (map f xs) i → map f (remove xs i) ≡ without_first (is_foremost (map f xs)) (map f xs)
others_left f xs i at = removed f xs i ∙ at.others

-- what no member passes, the one that is found does not
found_fails : (q p : DueSleeper → Bool) (ws : List DueSleeper) (w : DueSleeper) → list_any q ws ≡ false → find p ws ≡ Some w → q w ≡ false
found_fails q p [] w none h = absurd (none-some w h)
found_fails q p (v ∷ ws) w none h =
    let parts = or_parts (q v) (list_any q ws) none in
    elim (cases_Bool (p v)) [
      | inl e ↦ (let same : v ≡ w = same_Some v w (sym (cond-true (p v) (Some v) (find p ws) e) ∙ h) in ap q (sym same) ∙ parts.0)
      | inr e ↦ found_fails q p ws w parts.1 (sym (cond-false (p v) (Some v) (find p ws) e) ∙ h)
    ]

-- the one that is woken where it is due: the first, and none where none is due
pub due_first_is : (y : RunYard) (now : ℕ) (w : DueSleeper) → first_sleeper y ≡ Some w → w.due ≤ now → due_first y now ≡ Some w
due_first_is y now w first due =
    let now_due : nat_le w.due now ≡ true = le-leb w.due now due in
    ap (option_and_then (λ (v : DueSleeper). where_true (nat_le v.due now) v)) first ∙ ap (λ b. where_true b w) now_due

due_by : (y : RunYard) (i now : ℕ) → IsDueAt y.blocked i now → (o : Option DueSleeper) → first_sleeper y ≡ o → due_first y now ≡ first_sleeper y
due_by y i now at None first = ap (option_and_then (λ (v : DueSleeper). where_true (nat_le v.due now) v)) first ∙ sym first
due_by y i now at (Some w) first =
    let v : DueSleeper = get_or y.blocked i w in
    due_first_is y now v (at.at.first w) (at.due w) ∙ sym (at.at.first w)

pub due_first_at : (y : RunYard) (i now : ℕ) → IsDueAt y.blocked i now → due_first y now ≡ first_sleeper y
due_first_at y i now at = due_by y i now at (first_sleeper y) refl

none_by : (y : RunYard) (now : ℕ) (o : Option DueSleeper) → first_sleeper y ≡ o → some_due y now ≡ false → option_and_then (λ (v : DueSleeper). where_true (nat_le v.due now) v) o ≡ None
none_by y now None first none = refl
none_by y now (Some w) first none = ap (λ b. where_true b w) (found_fails (λ (v : DueSleeper). nat_le v.due now) (is_foremost y.blocked) y.blocked w none first)

pub due_first_none : (y : RunYard) (now : ℕ) → some_due y now ≡ false → due_first y now ≡ None
due_first_none y now none = none_by y now (first_sleeper y) refl none

-- the one that was read at the place that was found is the one to be woken first
pub found_first : (y : RunYard) (rs : List Resting) (i : ℕ) (r : Resting) → map sleeper_of rs ≡ y.blocked → IsFirstAt y.blocked i → r ≡ get_or rs i r → first_sleeper y ≡ Some (sleeper_of r)
found_first y rs i r means at read =
    sym (ap (unpreceded wakes_before) means) ∙ first_read sleeper_of rs i r (subst (λ (ws : List DueSleeper). IsFirstAt ws i) (sym means) at) read
