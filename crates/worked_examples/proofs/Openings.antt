-- With one cluster and one program the opening of actor 0 has three lines, and its first turn follows.
use Rattle.std.proofs.Common.{arith, sym, ap, subst, cond, refl, ◌∙◌, ◌≡◌, ℕ, ◌+◌, Bool, true, false, List, [], ◌∷◌, ◌++◌, append_assoc, drop, length, Option, Some, None, is_some}
use Rattle.std.proofs.lemmas.List.{length-append, length-map}
use Rattle.sched_base.specs.declared.Act.TheVariants as acts
use Rattle.sched_base.specs.declared.Facts.{Facts}
use Rattle.flat_policy.specs.declared.journal.Line.{Line}
use Rattle.flat_policy.specs.Policy.Aim.{needed}
use Rattle.flat_policy.specs.Runs.Histories.{act_of}
use Rattle.flat_policy.specs.Runs.Worker.{Opening, Opens, PlacesThread, PowerAt, Program, RunParts, Turn, Worked}
use Rattle.worked_examples.specs.Rows.Run.{one_cluster}

-- a run of one cluster, one program and one numbered turn
abbrev pub short_run : Program → List PowerAt → RunParts
short_run p powers = record { setup = one_cluster; programs = p ∷ []; powers = powers; turns = 1 }

abbrev no_clusters : List ℕ
no_clusters = []

none_either_way : (b : Bool) → length (cond b no_clusters no_clusters) ≡ 0
none_either_way true = refl
none_either_way false = refl

no_look_needed : (t : Facts) → length (needed one_cluster t) ≡ 0
no_look_needed t = none_either_way (is_some t.bound)

placing_has_two : (o : Option Facts) (ls : List Line) → PlacesThread one_cluster ls o → length ls ≡ 2
placing_has_two None ls p = absurd p
placing_has_two (Some t) ls p =
    let looks : length p.looks ≡ 0 = sym (length-map p.looks act_of) ∙ ap length p.each_look ∙ length-map (needed one_cluster t) (λ c. acts.Look c) ∙ no_look_needed t in
    let all : length ls ≡ length p.looks + 2 = ap length p.whole ∙ length-append p.looks (p.aimed ∷ p.enters ∷ [])
    in omega (arith, looks, all)

opens_with_three : (p : Program) (powers : List PowerAt) (ls : List Line) → Opens (short_run p powers) p ls → length ls ≡ 3
opens_with_three p powers [] opens = absurd opens
opens_with_three p powers (l ∷ ls) opens = let two = placing_has_two l.entry.thread ls opens.2 in omega (arith, two)

opening_has_three : (p : Program) (powers : List PowerAt) (ls : List Line) → Opening (short_run p powers) (p ∷ []) ls → length ls ≡ 3
opening_has_three p powers ls (first, rest, whole, opens, none) =
    let three = opens_with_three p powers first opens in
    let all : length ls ≡ length first + length rest = ap length whole ∙ length-append first rest in
    let few : length rest ≡ 0 = ap length none
    in omega (arith, three, all, few)

after_three : (opening first rest on rounds : List Line) → length opening ≡ 3 → drop 3 (((opening ++ (first ++ rest)) ++ on) ++ rounds) ≡ first ++ ((rest ++ on) ++ rounds)
after_three [] first rest on rounds h = absurd (omega (arith, h))
after_three (a ∷ []) first rest on rounds h = absurd (omega (arith, h))
after_three (a ∷ b ∷ []) first rest on rounds h = absurd (omega (arith, h))
after_three (a ∷ b ∷ c ∷ []) first rest on rounds h = ap (λ ls. ls ++ rounds) (append_assoc first rest on) ∙ append_assoc first (rest ++ on) rounds
after_three (a ∷ b ∷ c ∷ d ∷ xs) first rest on rounds h = absurd (omega (arith, h))

-- after its three first lines a log that follows the worker rule goes on with turn 0
abbrev pub FirstTurn : Program → List PowerAt → List Line → Type 0
FirstTurn p powers log = (first : List Line) × (more : List Line) × (drop 3 log ≡ first ++ more) × Turn (short_run p powers) 0 0 first

pub first_turn : (p : Program) (powers : List PowerAt) (log : List Line) → Worked (short_run p powers) 0 log → FirstTurn p powers log
first_turn p powers log w =
    let r = w.rule in
    let turns = r.turns in
    let whole : log ≡ ((r.opening ++ (turns.0 ++ turns.1)) ++ r.on) ++ r.rounds = subst (λ n. log ≡ ((r.opening ++ n) ++ r.on) ++ r.rounds) turns.2 r.whole in
    let goes_on = ap (drop 3) whole ∙ after_three r.opening turns.0 turns.1 r.on r.rounds (opening_has_three p powers r.opening r.opens)
    in (turns.0, (turns.1 ++ r.on) ++ r.rounds, goes_on, turns.3)
