use Rattle.std.proofs.Common.{rules, arith, sym, ◌∙◌, subst, take, length, List, ◌≡◌, ◌<◌, ◌≤◌, Some, ℕ, ◌+◌, take_all}
use Rattle.std.proofs.lemmas.List.{take_more_set, length-set}
use Rattle.flat_policy.specs.Texts.SetupLines.{each_item, whole_number}
use Rattle.serde_json.specs.View.{items_view, view}
use Rattle.setup_json.proofs.Items.{IsFront, front_ends, front_more, right_count, wrong_count}
use Rattle.setup_json.proofs.shapes.numbers_among.Goals as goal

pub returns-then-items : goal.returns-then-items
returns-then-items g c = sym (wrong_count whole_number c.args.items.now g.row.N c.if-items.true)

pub loop-k-preserved : goal.loop-k-preserved
loop-k-preserved g c =
    let xs = c.args.items.now in
    let found : whole_number (view c.index-items-k.result) ≡ Some c.in_ok-row.field-0 = search rules in
    let within : c.loop-k.k < length c.loop-k.row = omega arith in
    let among : c.loop-k.k < length xs = omega arith in
    let more = front_more whole_number xs c.loop-k.k (take c.loop-k.k c.loop-k.row) c.index-items-k.result c.in_ok-row.field-0
    c.loop-k.invariant.front among c.index-items-k.is found in
    record {
      count = length-set c.loop-k.row c.loop-k.k c.in_ok-row.field-0 ∙ c.loop-k.invariant.count;
      front = subst (λ (front : List ℕ). IsFront whole_number xs (c.loop-k.k + 1) front)
          (sym (take_more_set c.loop-k.row c.loop-k.k c.in_ok-row.field-0 within)) more;
    }

pub returns : goal.returns
returns g c =
    let xs = c.args.items.now in
    let past : length xs ≤ c.loop-k.k = omega arith in
    let all : take c.loop-k.k c.loop-k.row ≡ c.loop-k.row = take_all c.loop-k.k c.loop-k.row (omega arith) in
    let front : IsFront whole_number xs c.loop-k.k c.loop-k.row = subst (λ (row : List ℕ). IsFront whole_number xs c.loop-k.k row) all c.loop-k.invariant.front in
    sym (right_count g.row.N (each_item whole_number (items_view xs)) c.loop-k.row (front_ends whole_number xs c.loop-k.k c.loop-k.row front past) c.loop-k.invariant.count)
