use Rattle.std.proofs.Common.{◌≡◌, ℕ, ◌+◌, ◌==◌, Some, [], filter, get_or, set, ap, sym, ◌∙◌, arith, eq-eqb}
use Rattle.std.proofs.lemmas.Bool.{cond-false, cond-true, ne_eqb}
use Rattle.flat_policy.specs.Laws.Refreshing.{with_turns_of}
use Rattle.flat_policy.specs.Policy.Moves.{with_next_turn}
use Rattle.flat_policy.specs.Policy.Precedence.{greatest_pri}
use Rattle.flat_policy.specs.Policy.Queue.{Flat, clutch_place, in_clutch}
use Rattle.flat_policy.specs.Policy.Refresh.{turn_on_refresh}
use Rattle.plain_cluster.specs.Entries.{RowList, UnitList, clutch, entries_of}
use Rattle.plain_cluster.specs.Queues.{flat_of}
use Rattle.plain_cluster.specs.Repricing.{TopsAre}
use Rattle.plain_cluster.specs.declared.queue.Queue.{Queue}
use Rattle.plain_cluster.proofs.Turns.{turn_by_tops, turns_from, turns_none, turns_one}
use Rattle.plain_cluster.proofs.queue.Queue.renew_turns.Goals as goal
use Rattle.plain_cluster.proofs.queue.Queue.renew_turns.Goals.{then-was-top, else-was-top}

pub loop-group-preserved : goal.loop-group-preserved
loop-group-preserved c =
    let q = c.args.self.now in
    let x = c.loop-group.self in
    let y = c.if-was-top.self in
    let g = c.loop-group.group in
    let b = c.args.bucket in
    let k = clutch g b in
    let inv = c.loop-group.invariant in
    let was = c.get-was.result in
    let top = c.get-top.result in
    let before = λ (s : Flat) (are : TopsAre s c.args.before.now). c.get-was.ensures ∙ (ap (λ (j : ℕ). get_or (get_or c.args.before.now g []) j 0) c.index.ensures.index ∙ are k) in
    let after = λ (are : TopsAre (flat_of q) c.args.after.now).
    c.get-top.ensures ∙ (ap (λ (j : ℕ). get_or (get_or c.args.after.now g []) j 0) c.index-in-loop-group.ensures.index
    ∙ (are k ∙ ap (λ (r : RowList). greatest_pri (filter (in_clutch k) (entries_of r.rows))) (sym (ap (λ (v : Queue). v.rows) inv.queue)))) in
    elim c.if-was-top.branch [
      | then-was-top w ↦ (
          let u : UnitList = record x.units { turns = set x.units.turns (clutch_place k) (Some x.units.next_turn); next_turn = x.units.next_turn + 1 } in
          let n : Queue = record x { units = u } in
          let is : y ≡ n = w.self-is ∙ ap (λ (v : UnitList). record x { units = v }) w.take_turn.ensures in
          let next = ap (λ (v : Queue). v.units.next_turn) is in
          record {
            queue = is ∙ (ap (λ (v : Queue). record v { units = u }) inv.queue ∙ ap (λ (v : UnitList). record q { units = v }) (sym (ap (λ (v : Queue). v.units) is)));
            spans = ap (λ (v : Queue). v.units.spans) is ∙ inv.spans;
            turn = omega (arith, next, inv.turn);
            turns = λ s were are sp.
                let step : turn_on_refresh s (flat_of x) k ≡ with_next_turn k (flat_of x) =
                turn_by_tops s (flat_of x) k was top (sp ∙ sym inv.spans) (before s were) (after are) ∙ cond-false (was == top) (flat_of x) (with_next_turn k (flat_of x)) (ne_eqb was top w.if-was-top.true) in
                ap (λ (f : Flat). turns_from s f b (g + 1) q.groups) (ap flat_of is ∙ sym step)
                ∙ (sym (turns_one s (flat_of x) b g q.groups c.loop-group-test.true) ∙ inv.turns s were are sp);
          })
      | else-was-top w ↦ (
          let is : y ≡ x = w.self-is in
          let next = ap (λ (v : Queue). v.units.next_turn) is in
          record {
            queue = is ∙ (inv.queue ∙ ap (λ (v : UnitList). record q { units = v }) (sym (ap (λ (v : Queue). v.units) is)));
            spans = ap (λ (v : Queue). v.units.spans) is ∙ inv.spans;
            turn = omega (arith, next, inv.turn);
            turns = λ s were are sp.
                let step : turn_on_refresh s (flat_of x) k ≡ flat_of x =
                turn_by_tops s (flat_of x) k was top (sp ∙ sym inv.spans) (before s were) (after are) ∙ cond-true (was == top) (flat_of x) (with_next_turn k (flat_of x)) (eq-eqb was top w.if-was-top.false) in
                ap (λ (f : Flat). turns_from s f b (g + 1) q.groups) (ap flat_of is ∙ sym step)
                ∙ (sym (turns_one s (flat_of x) b g q.groups c.loop-group-test.true) ∙ inv.turns s were are sp);
          })
    ]

pub returns : goal.returns
returns c =
    let q = c.args.self.now in
    let x = c.loop-group.self in
    let g = c.loop-group.group in
    let b = c.args.bucket in
    let inv = c.loop-group.invariant in
    record {
      queue = inv.queue;
      spans = inv.spans;
      turn = omega (arith, inv.turn, c.requires.groups, c.loop-group.auto.group-end);
      turns = λ groups s e were are sp.
          sym (turns_none s (flat_of x) b g q.groups (omega (arith, c.loop-group-test.false)))
          ∙ (inv.turns s were are sp ∙ ap (λ (m : ℕ). with_turns_of m s (flat_of q) b) e);
    }
