-- The units are priced anew, one after the other.
use Rattle.std.proofs.Common.{◌≡◌, ◌<◌, ◌+◌, ℕ, suc, refl, ap, ◌∙◌, subst, arith}
use Rattle.clutch_bucket.specs.Lane.{Lane, groups, queue_at}
use Rattle.clutch_bucket.specs.Repricing.{PricedUpTo, changed_in, changed_upto}
use Rattle.clutch_bucket.proofs.LanePriced.{changed_stays, count_most, prices_begin, prices_step}
use Rattle.clutch_bucket.proofs.lane.LaneUnits.reprice_all.Goals as goal

pub loop-group-init : goal.loop-group-init
loop-group-init g c = record { priced = prices_begin c.args.arena.now c.args.self.now c.args.now c.requires.units; changed = refl; most = omega arith; ticks = omega arith }

pub reprice_unit-changed-requires-clause-units : goal.reprice_unit-changed-requires-clause-units
reprice_unit-changed-requires-clause-units g c = c.loop-group.invariant.priced.units

pub reprice_unit-changed-requires-clause-group : goal.reprice_unit-changed-requires-clause-group
reprice_unit-changed-requires-clause-group g c =
    let alike = c.loop-group.invariant.priced.alike in
    let below = c.loop-group-test.true in
    let end = c.groups-group-end.ensures.groups in
    omega (arith, alike, below, end)

pub reprice_unit-changed-requires-clause-room : goal.reprice_unit-changed-requires-clause-room
reprice_unit-changed-requires-clause-room g c =
    let same = ap (λ (l : Lane). l.len) c.loop-group.invariant.priced.same in
    let room = c.requires.room in
    omega (arith, same, room)

pub overflow_add-changed : goal.overflow_add-changed
overflow_add-changed g c =
    let inv = c.loop-group.invariant in
    let i = c.loop-group.group in
    let same = ap (λ (l : Lane). l.len) inv.priced.same in
    let below = c.loop-group-test.true in
    let end = c.groups-group-end.ensures.groups in
    let limit = c.groups-group-end.ensures.most in
    let alike = inv.priced.alike in
    let count = count_most c.loop-group.arena c.loop-group.self i inv.priced.units (omega (arith, alike, below, end)) in
    let most = c.reprice_unit-changed.ensures.most in
    let so_far = inv.most in
    let room = c.requires.room in
    omega (arith, same, below, limit, count, most, so_far, room)

pub loop-group-preserved : goal.loop-group-preserved
loop-group-preserved g c =
    let inv = c.loop-group.invariant in
    let i = c.loop-group.group in
    let old = c.args.arena.now in
    let mid = c.loop-group.arena in
    let before = c.args.self.now in
    let at = c.loop-group.self in
    let below = c.loop-group-test.true in
    let end = c.groups-group-end.ensures.groups in
    let within : i < groups before = omega (arith, below, end) in
    let alike = inv.priced.alike in
    let same = ap (λ (l : Lane). l.len) inv.priced.same in
    let count = count_most mid at i inv.priced.units (omega (arith, alike, within)) in
    let most = c.reprice_unit-changed.ensures.most in
    let so_far = inv.most in
    let room = c.requires.room in
    let is : c.reprice_unit-changed.result ≡ changed_in old (queue_at before i) c.args.now =
    c.reprice_unit-changed.ensures.changed ∙ changed_stays c.walk_counts_slots.ensures old mid (queue_at before i) (queue_at at i) c.args.now (inv.priced.left i within (omega arith)) in
    let next : suc i ≡ i + 1 = omega arith in
    let sum : c.loop-group.changed + c.reprice_unit-changed.result ≡ changed_upto old before c.args.now i + changed_in old (queue_at before i) c.args.now = (let was = inv.changed in omega (arith, is, was)) in
    let ticks = c.reprice_unit-changed.ensures.ticks in
    let ticked = inv.ticks in
    record {
      priced = prices_step c.queue_laws.ensures.held old mid c.reprice_unit-changed.new.arena before at c.reprice_unit-changed.new.self i c.args.now inv.priced within c.reprice_unit-changed.ensures.reprices;
      changed = subst (λ (n : ℕ). c.loop-group.changed + c.reprice_unit-changed.result ≡ changed_upto old before c.args.now n) next sum;
      most = omega (arith, same, count, most, so_far, room);
      ticks = omega (arith, ticks, ticked);
    }

pub returns-clause-priced : goal.returns-clause-priced
returns-clause-priced g c =
    let over = c.loop-group-test.false in
    let most = c.loop-group.auto.group-end in
    let end = c.groups-group-end.ensures.groups in
    subst (λ (n : ℕ). PricedUpTo c.args.arena.now c.loop-group.arena c.args.self.now c.loop-group.self n c.args.now) (omega (arith, over, most, end)) c.loop-group.invariant.priced

pub returns-clause-changed : goal.returns-clause-changed
returns-clause-changed g c =
    let over = c.loop-group-test.false in
    let most = c.loop-group.auto.group-end in
    let end = c.groups-group-end.ensures.groups in
    subst (λ (n : ℕ). c.loop-group.changed ≡ changed_upto c.args.arena.now c.args.self.now c.args.now n) (omega (arith, over, most, end)) c.loop-group.invariant.changed
