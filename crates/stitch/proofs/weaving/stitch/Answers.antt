use Rattle.std.proofs.Common.{◌≡◌, ℕ, ◌+◌, ◌-◌, ◌^◌, ◌<◌, ◌≤◌, List, [], ◌∷◌, ◌++◌, length, take, sym, ap, ◌∙◌, subst, inl, inr, arith}
use Rattle.std.proofs.lemmas.Bool.{cases_lt, false≢true}
use Rattle.std.proofs.lemmas.List.{take-map}
use Rattle.flat_policy.specs.declared.journal.Line.{Line}
use Rattle.flat_policy.specs.Runs.Interleaving.{home_by_journals}
use Rattle.flat_policy.specs.Runs.Journals.{JournalParts}
use Rattle.stitch.specs.Cursors.{counted}
use Rattle.stitch.proofs.Fewer.{lines_left, taken_leaves_fewer}
use Rattle.stitch.proofs.Keeping.{Asked, actor_low, actor_room, keeps_more, keeps_none, place_room, stuck, takes}
use Rattle.stitch.proofs.Stopping.{all_taken, astray_at_spot, astray_of_actor, used_up}
use Rattle.stitch.proofs.Takings.{taking_is_whole}
use Rattle.stitch.specs.Taking.{clusters_of, lines_of, yard_of}
use Rattle.stitch.proofs.weaving.stitch.Goals as goal

pub loop-line-init : goal.loop-line-init
loop-line-init c =
    let js : List JournalParts = c.args.journals.now in
    keeps_none js c.args.logs.now c.homes_of-homes.result c.none-taken.result.places c.none-taken.result.actors c.reserve.new.self.lines
    (λ a low. c.homes_of-homes.ensures a low ∙ ap (λ (lists : List (List Line)). home_by_journals lists a) (sym (take-map (λ (j : JournalParts). j.lines) (length js - 1) js)))
    c.none-taken.ensures.places
    c.none-taken.ensures.actors
    (c.reserve.ensures.lines ∙ ap (λ (j : JournalParts). j.lines) c.new-history.ensures)

pub bounds-homes-step : goal.bounds-homes-step
bounds-homes-step c =
    omega (arith, c.requires.logs, actor_low c.args.journals.now c.args.logs.now c.homes_of-homes.result c.loop-line.taken.places c.loop-line.taken.actors c.in-Some.line c.requires.actors c.in-Some.ensures)

pub count-requires-clause-actor : goal.count-requires-clause-actor
count-requires-clause-actor c =
    omega (arith, c.requires.logs, actor_low c.args.journals.now c.args.logs.now c.homes_of-homes.result c.loop-line.taken.places c.loop-line.taken.actors c.in-Some.line c.requires.actors c.in-Some.ensures)

pub count-requires-clause-place_room : goal.count-requires-clause-place_room
count-requires-clause-place_room c =
    let asked : Asked c.args.journals.now c.args.logs.now = record { cluster = c.requires.cluster; clusters = c.requires.clusters; few = c.requires.logs; owned = c.requires.actors } in
    let small : length c.loop-line.history.lines < 2 ^ 40 = elim (cases_lt (length c.loop-line.history.lines) (2 ^ 40)) [
      | inl low ↦ low
      | inr high ↦ absurd (false≢true (c.in_ok-reserve-2.ensures.past (omega arith)))
    ] in
    place_room c.args.journals.now c.args.logs.now c.homes_of-homes.result c.loop-line.taken.places c.loop-line.taken.actors c.loop-line.history.lines asked c.loop-line.invariant c.in-Some.line c.in-Some.ensures small
    c.place_of_act-place.result c.place_of_act-place.ensures.place

pub count-requires-clause-actor_room : goal.count-requires-clause-actor_room
count-requires-clause-actor_room c =
    let asked : Asked c.args.journals.now c.args.logs.now = record { cluster = c.requires.cluster; clusters = c.requires.clusters; few = c.requires.logs; owned = c.requires.actors } in
    let small : length c.loop-line.history.lines < 2 ^ 40 = elim (cases_lt (length c.loop-line.history.lines) (2 ^ 40)) [
      | inl low ↦ low
      | inr high ↦ absurd (false≢true (c.in_ok-reserve-2.ensures.past (omega arith)))
    ] in
    actor_room c.args.journals.now c.args.logs.now c.homes_of-homes.result c.loop-line.taken.places c.loop-line.taken.actors c.loop-line.history.lines asked c.loop-line.invariant c.in-Some.line c.in-Some.ensures small

pub loop-line-smaller : goal.loop-line-smaller
loop-line-smaller c =
    let asked : Asked c.args.journals.now c.args.logs.now = record { cluster = c.requires.cluster; clusters = c.requires.clusters; few = c.requires.logs; owned = c.requires.actors } in
    let lists : List (List Line) = lines_of c.args.logs.now in
    let history : List Line = c.loop-line.history.lines in
    let pushed : c.push.new.self.lines ≡ history ++ c.in-Some.line ∷ [] =
    ap (λ (j : JournalParts). j.lines) c.push.ensures ∙ ap (λ (ls : List Line). ls ++ c.in-Some.line ∷ []) c.reserve-in-Some.ensures.lines in
    subst (λ (ls : List Line). lines_left lists 0 ls < lines_left lists 0 history) (sym pushed)
    (taken_leaves_fewer lists history c.in-Some.line
    (takes c.args.journals.now c.args.logs.now c.homes_of-homes.result c.loop-line.taken.places c.loop-line.taken.actors history asked c.loop-line.invariant c.in-Some.line c.in-Some.ensures).can.of_actor)

pub loop-line-preserved : goal.loop-line-preserved
loop-line-preserved c =
    let asked : Asked c.args.journals.now c.args.logs.now = record { cluster = c.requires.cluster; clusters = c.requires.clusters; few = c.requires.logs; owned = c.requires.actors } in
    let history : List Line = c.loop-line.history.lines in
    let pushed : c.push.new.self.lines ≡ history ++ c.in-Some.line ∷ [] =
    ap (λ (j : JournalParts). j.lines) c.push.ensures ∙ ap (λ (ls : List Line). ls ++ c.in-Some.line ∷ []) c.reserve-in-Some.ensures.lines in
    keeps_more c.args.journals.now c.args.logs.now c.homes_of-homes.result c.loop-line.taken.places c.loop-line.taken.actors history asked c.loop-line.invariant c.in-Some.line c.in-Some.ensures
    c.count.new.self.places c.count.new.self.actors c.push.new.self.lines
    (c.count.ensures.places ∙ ap (counted c.loop-line.taken.places) c.place_of_act-place.ensures.place) c.count.ensures.actors pushed

pub returns-in-Some-first_left_at : goal.returns-in-Some-first_left_at
returns-in-Some-first_left_at c =
    let asked : Asked c.args.journals.now c.args.logs.now = record { cluster = c.requires.cluster; clusters = c.requires.clusters; few = c.requires.logs; owned = c.requires.actors } in
    let js : List JournalParts = c.args.journals.now in
    let ls : List JournalParts = c.args.logs.now in
    astray_at_spot js ls c.loop-line.taken.places c.loop-line.taken.actors c.loop-line.history.lines c.loop-line.invariant.counts c.loop-line.invariant.taking
    (stuck js ls c.homes_of-homes.result c.loop-line.taken.places c.loop-line.taken.actors c.loop-line.history.lines asked c.loop-line.invariant c.in_default.ensures)
    c.in-Some-first_left_at.stop c.in-Some-first_left_at.ensures

pub returns-in-Some-first_left_of : goal.returns-in-Some-first_left_of
returns-in-Some-first_left_of c =
    let asked : Asked c.args.journals.now c.args.logs.now = record { cluster = c.requires.cluster; clusters = c.requires.clusters; few = c.requires.logs; owned = c.requires.actors } in
    let js : List JournalParts = c.args.journals.now in
    let ls : List JournalParts = c.args.logs.now in
    let some : 1 ≤ length js = omega (arith, c.requires.cluster) in
    let places : List ℕ = c.loop-line.taken.places in
    let actors : List ℕ = c.loop-line.taken.actors in
    let history : List Line = c.loop-line.history.lines in
    astray_of_actor js ls c.homes_of-homes.result places actors history c.loop-line.invariant.counts c.loop-line.invariant.are c.requires.actors c.requires.logs c.loop-line.invariant.taking
    (stuck js ls c.homes_of-homes.result places actors history asked c.loop-line.invariant c.in_default.ensures)
    (used_up js ls places actors history c.loop-line.invariant.counts some c.in_default-first_left_at.ensures)
    c.in-Some-first_left_of.stop c.in-Some-first_left_of.ensures

pub returns-in-None : goal.returns-in-None
returns-in-None c =
    let asked : Asked c.args.journals.now c.args.logs.now = record { cluster = c.requires.cluster; clusters = c.requires.clusters; few = c.requires.logs; owned = c.requires.actors } in
    let js : List JournalParts = c.args.journals.now in
    let ls : List JournalParts = c.args.logs.now in
    let some : 1 ≤ length js = omega (arith, c.requires.cluster) in
    let places : List ℕ = c.loop-line.taken.places in
    let actors : List ℕ = c.loop-line.taken.actors in
    let history : List Line = c.loop-line.history.lines in
    record {
      interleaves = taking_is_whole (clusters_of js) (yard_of js) (lines_of ls) history c.loop-line.invariant.taking
          (used_up js ls places actors history c.loop-line.invariant.counts some c.in_default-first_left_at.ensures)
          (all_taken js ls c.homes_of-homes.result places actors history c.loop-line.invariant.counts c.loop-line.invariant.are c.requires.actors c.requires.logs
          (stuck js ls c.homes_of-homes.result places actors history asked c.loop-line.invariant c.in_default.ensures) c.in-None.ensures);
      taking = c.loop-line.invariant.taking;
    }
