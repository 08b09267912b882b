-- Programs by name and powers by turn are those of the lists that they were made of.
use Rattle.std.proofs.Common.{◌≡◌, ℕ, ◌+◌, ◌<◌, ◌==◌, ◌&&◌, nat_lt, Bool, true, false, cond, List, [], ◌∷◌, ◌++◌, Vec, Global, drop, filter, find, get_or, length, map, set, Option, Some, None, refl, sym, ap, ◌∙◌, arith}
use Rattle.std.specs.BTreeMap.{is_at}
use Rattle.std.specs.Option.{option_map}
use Rattle.std.specs.Ordering.{nat_cmp}
use Rattle.std.proofs.lemmas.Bool.{cond-true, lt-ltb}
use Rattle.std.proofs.lemmas.Bool.Decides.{nat_tests}
use Rattle.std.proofs.lemmas.List.{drop_more, get_or-map, map-set}
use Rattle.flat_policy.specs.declared.texts.Power.{Power}
use Rattle.flat_policy.specs.declared.texts.ProgramLine.{ProgramLine}
use Rattle.flat_policy.specs.Runs.Worker.{PowerAt, Program}
use Rattle.trace_text.specs.Runs.{power_of, program_of}
use Rattle.cells.specs.Frames.{power_told, with_power}

-- the first of mapped elements that passes, and those that pass
find_mapped : {X Y : Type 0} (f : X → Y) (p : Y → Bool) (xs : List X) → find p (map f xs) ≡ option_map f (find (λ (x : X). p (f x)) xs)
find_mapped f p [] = refl
find_mapped {X} f p (x ∷ xs) =
    elim (p (f x)) as (λ b. cond b (Some (f x)) (find p (map f xs)) ≡ option_map f (cond b (Some x) (find (λ (y : X). p (f y)) xs))) [
      | true ↦ refl
      | false ↦ find_mapped f p xs
    ]

filter_mapped : {X Y : Type 0} (f : X → Y) (p : Y → Bool) (xs : List X) → filter p (map f xs) ≡ map f (filter (λ (x : X). p (f x)) xs)
filter_mapped f p [] = refl
filter_mapped {X} f p (x ∷ xs) =
    elim (p (f x)) as (λ b. cond b (f x ∷ filter p (map f xs)) (filter p (map f xs)) ≡ map f (cond b (x ∷ filter (λ (y : X). p (f y)) xs) (filter (λ (y : X). p (f y)) xs))) [
      | true ↦ ap (λ ys. f x ∷ ys) (filter_mapped f p xs)
      | false ↦ filter_mapped f p xs
    ]

-- the first that passes two tests is the first to pass one among those that pass the other
find_both : {X : Type 0} (p q : X → Bool) (xs : List X) → find (λ (x : X). p x && q x) xs ≡ find p (filter q xs)
find_both p q [] = refl
find_both {X} p q (x ∷ xs) =
    let rest : Option X = find (λ (y : X). p y && q y) xs in
    elim (q x) as (λ b. cond (p x && b) (Some x) rest ≡ find p (cond b (x ∷ filter q xs) (filter q xs))) [
      | true ↦ elim (p x) as (λ a. cond (a && true) (Some x) rest ≡ cond a (Some x) (find p (filter q xs))) [ true ↦ refl | false ↦ find_both p q xs ]
      | false ↦ elim (p x) as (λ a. cond (a && false) (Some x) rest ≡ find p (filter q xs)) [ true ↦ find_both p q xs | false ↦ find_both p q xs ]
    ]

-- a power, as the definitions keep it, turns its cluster on or off as the one in code does
on_kept : (o : Option Power) → option_map (λ (p : PowerAt). p.on) (option_map power_of o) ≡ option_map (λ (p : Power). p.on) o
on_kept None = refl
on_kept (Some p) = refl

-- the power of a cluster is found in the row of its turn
told_in_row : (powers : List PowerAt) (row : List Power) (cluster turn : ℕ) → map power_of row ≡ filter (λ (p : PowerAt). p.turn == turn) powers
    → option_map (λ (p : Power). p.on) (find (λ (p : Power). p.cluster == cluster) row)
    ≡ option_map (λ (p : PowerAt). p.on) (find (λ (p : PowerAt). (p.cluster == cluster) && (p.turn == turn)) powers)
told_in_row powers row cluster turn h =
    let of_cluster = λ (p : PowerAt). p.cluster == cluster in
    let of_turn = λ (p : PowerAt). p.turn == turn in
    sym (on_kept (find (λ (p : Power). p.cluster == cluster) row))
    ∙ ap (option_map (λ (p : PowerAt). p.on))
    (sym (find_mapped power_of of_cluster row) ∙ ap (find of_cluster) h ∙ sym (find_both of_cluster of_turn powers))

-- the same where rows are kept in code
pub told_at : (powers : List PowerAt) (rows : List (Vec Power Global)) (row : Vec Power Global) (turns cluster turn : ℕ) → length rows ≡ turns → turn < length rows → row ≡ get_or rows turn row
    → map power_of (get_or (map (λ (r : Vec Power Global). r.items) rows) turn []) ≡ filter (λ (p : PowerAt). p.turn == turn) powers
    → option_map (λ (p : Power). p.on) (find (λ (p : Power). p.cluster == cluster) row.items) ≡ power_told powers turns cluster turn
told_at powers rows row turns cluster turn len below read h =
    let items = λ (r : Vec Power Global). r.items in
    told_in_row powers row.items cluster turn (ap (map power_of) (ap items read ∙ sym (get_or-map items rows turn row [] below)) ∙ h)
    ∙ sym (cond-true (nat_lt turn turns) (option_map (λ (p : PowerAt). p.on) (find (λ (p : PowerAt). (p.cluster == cluster) && (p.turn == turn)) powers)) None (lt-ltb turn turns (omega arith)))

-- a power is put at the end of the row of its turn
pub power_put : (rows : List (Vec Power Global)) (p : Power) (old new : Vec Power Global) → p.turn < length rows → old ≡ get_or rows p.turn old → new.items ≡ old.items ++ p ∷ []
    → map (λ (r : Vec Power Global). r.items) (set rows p.turn new) ≡ with_power p (map (λ (r : Vec Power Global). r.items) rows)
power_put rows p old new below read put =
    let items = λ (r : Vec Power Global). r.items in
    map-set items rows p.turn new
    ∙ ap (set (map items rows) p.turn) (put ∙ ap (λ (ps : List Power). ps ++ p ∷ []) (ap items read ∙ sym (get_or-map items rows p.turn old [] below)))

-- powers by turn, as the definitions keep them
pub by_turn_kept : (powers : List Power) (told : List PowerAt) (row : List Power) (turn : ℕ) → map power_of powers ≡ told → row ≡ filter (λ (p : Power). p.turn == turn) powers
    → map power_of row ≡ filter (λ (p : PowerAt). p.turn == turn) told
by_turn_kept powers told row turn h e =
    let test = λ (p : PowerAt). p.turn == turn in
    ap (map power_of) e ∙ sym (filter_mapped power_of test powers) ∙ ap (filter test) h

-- a number is at another where they are one
at_name : (a b : ℕ) → is_at (nat_cmp a) b ≡ (a == b)
at_name a b = grind (arith, nat_tests)

-- with the program at a place put over those behind it, each name has its first program from that place on
pub named_more : (ps : List ProgramLine) (j k : ℕ) (d : ProgramLine) (was after : ℕ → Option ProgramLine) → j ≡ k + 1 → k < length ps
    → ((name : ℕ) → was name ≡ find (λ (p : ProgramLine). p.name == name) (drop j ps))
    → ((name : ℕ) → after name ≡ cond (is_at (nat_cmp (get_or ps k d).name) name) (Some (get_or ps k d)) (was name))
    → (name : ℕ) → after name ≡ find (λ (p : ProgramLine). p.name == name) (drop k ps)
named_more ps j k d was after next within so puts name =
    let p : ProgramLine = get_or ps k d in
    let test = λ (q : ProgramLine). q.name == name in
    puts name
    ∙ ap (λ (b : Bool). cond b (Some p) (was name)) (at_name p.name name)
    ∙ ap (cond (p.name == name) (Some p)) (so name ∙ ap (λ (i : ℕ). find test (drop i ps)) next)
    ∙ sym (ap (find test) (drop_more ps k d within))

-- what is found of a name, as the definitions keep it
pub named_kept : (ps : List ProgramLine) (programs : List Program) (name : ℕ) (o : Option ProgramLine) → map program_of ps ≡ programs → o ≡ find (λ (p : ProgramLine). p.name == name) ps
    → option_map program_of o ≡ find (λ (p : Program). p.name == name) programs
named_kept ps programs name o h e =
    let test = λ (p : Program). p.name == name in
    ap (option_map program_of) e ∙ sym (find_mapped program_of test ps) ∙ ap (find test) h
