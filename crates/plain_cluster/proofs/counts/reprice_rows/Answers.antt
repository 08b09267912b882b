use Rattle.std.proofs.Common.{◌≡◌, ◌<◌, ◌+◌, ◌++◌, List, drop, get_or, length, map, set, take, ap, sym, ◌∙◌, subst, arith}
use Rattle.std.proofs.lemmas.List.Edits.{map_over_more}
use Rattle.std.proofs.lemmas.List.Sums.{count_by_more_no, count_by_more_yes}
use Rattle.std.proofs.lemmas.Option.{slice_get-get_or}
use Rattle.plain_cluster.specs.Entries.{Slotted}
use Rattle.plain_cluster.specs.Repricing.{CanPrice, is_changed, priced}
use Rattle.plain_cluster.proofs.Repriced.{still_there}
use Rattle.plain_cluster.proofs.counts.reprice_rows.Goals as goal
use Rattle.plain_cluster.proofs.counts.reprice_rows.Goals.{then-reprice_row, else-reprice_row}

pub reprice_row-requires : goal.reprice_row-requires
reprice_row-requires c =
    let f = priced c.args.counts.now c.args.now in
    let xs = c.args.rows.now in
    let i = c.loop-row.row-index in
    let d = c.row-item.result in
    let within : i < length xs = omega (arith, c.loop-row-test.true, c.loop-row.auto.rows) in
    subst (CanPrice c.args.counts.now) (sym (ap (λ (ys : List Slotted). get_or ys i d) c.loop-row.invariant.rows ∙ still_there f xs i d within))
    (c.requires.each i (get_or xs i d) (slice_get-get_or xs i d within))

pub loop-row-preserved : goal.loop-row-preserved
loop-row-preserved c =
    let f = priced c.args.counts.now c.args.now in
    let p = is_changed c.args.counts.now c.args.now in
    let xs = c.args.rows.now in
    let i = c.loop-row.row-index in
    let d = c.row-item.result in
    let within : i < length xs = omega (arith, c.loop-row-test.true, c.loop-row.auto.rows) in
    let same : get_or c.loop-row.rows i d ≡ get_or xs i d = ap (λ (ys : List Slotted). get_or ys i d) c.loop-row.invariant.rows ∙ still_there f xs i d within in
    let rows : set c.loop-row.rows i c.reprice_row.new.row ≡ map f (take (i + 1) xs) ++ drop (i + 1) xs =
    ap (set c.loop-row.rows i) (c.reprice_row.ensures.row ∙ ap f (sym c.row-item.is)) ∙ map_over_more f xs c.loop-row.rows i d within c.loop-row.invariant.rows c.row-item.is in
    let changed : c.reprice_row.result ≡ p (get_or xs i d) = c.reprice_row.ensures.changed ∙ ap p same in
    elim c.if-reprice_row.branch [
      | then-reprice_row w ↦ (let more = count_by_more_yes p xs i d within (sym changed ∙ w.if-reprice_row.true) in
          record { rows = rows; changed = omega (arith, more, w.changed-is, c.loop-row.invariant.changed); few = omega (arith, w.changed-is, c.loop-row.invariant.few) })
      | else-reprice_row w ↦ (let more = count_by_more_no p xs i d within (sym changed ∙ w.if-reprice_row.false) in
          record { rows = rows; changed = omega (arith, more, w.changed-is, c.loop-row.invariant.changed); few = omega (arith, w.changed-is, c.loop-row.invariant.few) })
    ]
