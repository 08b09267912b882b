use Rattle.std.proofs.Common.{◌≡◌, ◌<◌, Bool, List, ap, is_some, length, subst, sym, ◌∙◌}
use Rattle.flat_policy.specs.Policy.Queue.{timeshare_lanes}
use Rattle.root_deadlines.specs.declared.lanes.Due.{Due}
use Rattle.root_deadlines.specs.Lanes.{LaneTable, behind_first, filled_among, first_of}
use Rattle.root_deadlines.specs.Sooner.{passed}
use Rattle.std.specs.Prelude.{slice_get}
use Rattle.root_deadlines.proofs.Earliest.{behind_length, fewer, first_none, found_is, lane_there, one_more, pass_stays, sooner_small}
use Rattle.root_deadlines.proofs.lanes.Lanes.earliest.Goals as goal

pub loop-index-smaller : goal.loop-index-smaller
loop-index-smaller c =
    let there = lane_there c.in-Some.index c.in-Some.ensures.small in
    subst (λ (fs : List Bool). length (filled_among fs timeshare_lanes) < length (filled_among c.loop-index.rest timeshare_lanes)) (sym c.in-Some.ensures.rest)
    (fewer c.loop-index.rest timeshare_lanes (slice_get timeshare_lanes c.in-Some.index) c.in-Some.ensures.highest (ap is_some there.1))

pub loop-index-preserved : goal.loop-index-preserved
loop-index-preserved c =
    let kept = c.loop-index.invariant in
    record {
      ten = ap (λ (fs : List Bool). length fs) c.in-Some.ensures.rest ∙ behind_length c.loop-index.rest ∙ kept.ten;
      small = sooner_small c.loop-index.first c.due.result c.sooner_of-first.result kept.small
          (subst (λ (d : Due). d.index < 10) (sym c.due.ensures) c.in-Some.ensures.small) c.sooner_of-first.ensures;
      same = one_more c.loop-index.rest c.take_highest-in-loop-index.new.self c.args.self.now.deadlines c.loop-index.first c.due.result c.sooner_of-first.result
          c.in-Some.index kept.ten c.in-Some.ensures.small c.in-Some.ensures.highest c.due.ensures c.sooner_of-first.ensures c.in-Some.ensures.rest
          ∙ kept.same;
    }

pub returns-clause-first : goal.returns-clause-first
returns-clause-first c windows are =
    let now = c.args.self.now in
    let kept = c.loop-index.invariant in
    let filled : c.copy-rest.result ≡ now.filled = c.copy-rest.ensures ∙ ap (λ (t : LaneTable). t.filled) c.self.view_is in
    let all = sym (pass_stays c.loop-index.rest now.deadlines c.loop-index.first kept.ten (first_none (filled_among c.loop-index.rest timeshare_lanes) c.in_default.ensures.highest))
    ∙ kept.same in
    found_is now.filled now.deadlines
    (ap (λ (t : LaneTable). length t.filled) (sym c.self.view_is) ∙ c.self.invariant.flags)
    (ap (λ (t : LaneTable). length t.deadlines) (sym c.self.view_is) ∙ c.self.invariant.numbers)
    c.in_ok-take_highest.field-0 c.in_ok-take_highest.ensures.small
    (c.in_ok-take_highest.ensures.highest ∙ ap (λ (fs : List Bool). first_of (filled_among fs timeshare_lanes)) filled)
    c.take_highest.new.self (c.in_ok-take_highest.ensures.rest ∙ ap behind_first filled)
    c.loop-index.first (all ∙ ap (passed c.take_highest.new.self now.deadlines) c.due-first.ensures)
    c.lane_at_index.result c.lane_at_index.ensures.at windows are
