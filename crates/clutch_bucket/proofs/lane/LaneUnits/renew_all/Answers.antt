-- The keys of the units, one after the other.
use Rattle.std.proofs.Common.{◌≡◌, ◌+◌, ℕ, suc, false, List, Option, None, get_or, set, refl, sym, ap, ◌∙◌, subst, arith}
use Rattle.clutch_bucket.specs.Lane.{Lane, LaneStands, UnitsStand, groups, rank_at, top_at}
use Rattle.clutch_bucket.specs.Renewing.{renewed_rank, renewed_turn, with_renewed}
use Rattle.clutch_bucket.specs.declared.ranks.UnitKey.{UnitKey}
use Rattle.clutch_bucket.proofs.RenewedKeys.{RenewedTo, all_follow_by, all_stand, none_renewed, renews_one, units_with}
use Rattle.clutch_bucket.proofs.lane.LaneUnits.renew_all.Goals as goal

pub loop-group-init : goal.loop-group-init
loop-group-init g c = record { lane = refl; renewed = none_renewed c.args.arena.now c.args.self.now c.args.turns.now c.requires.units; ticks = omega arith }

pub renew-requires-clause-units : goal.renew-requires-clause-units
renew-requires-clause-units g c =
    let inv = c.loop-group.invariant in
    subst (UnitsStand c.args.arena.now) (sym inv.lane) (units_with c.args.arena.now c.args.self.now c.loop-group.self.ranks c.requires.units inv.renewed.places)

pub renew-requires-clause-group : goal.renew-requires-clause-group
renew-requires-clause-group g c =
    let inv = c.loop-group.invariant in
    let same = ap groups inv.lane in
    let below = c.loop-group-test.true in
    let end = c.groups-group-end.ensures.groups in
    omega (arith, same, below, end)

pub renew-requires-clause-turn : goal.renew-requires-clause-turn
renew-requires-clause-turn g c =
    let high = c.loop-group.invariant.renewed.high in
    let below = c.loop-group-test.true in
    let most = c.groups-group-end.ensures.most in
    let turn = c.requires.turn in
    omega (arith, high, below, most, turn)

pub loop-group-preserved : goal.loop-group-preserved
loop-group-preserved g c =
    let arena = c.args.arena.now in
    let at = c.args.self.now in
    let x = c.loop-group.self in
    let i = c.loop-group.group in
    let turn = c.loop-group.turns in
    let inv = c.loop-group.invariant in
    let later = set x.ranks i (renewed_rank false turn (get_or x.ranks i None) (top_at arena at i)) in
    let is : c.renew.new.self ≡ record at { ranks = later } = c.renew.ensures.renewed ∙ ap (with_renewed arena false turn i) inv.lane in
    let ranks : c.renew.new.self.ranks ≡ later = ap (λ (l : Lane). l.ranks) is in
    let turns : c.renew.new.turns ≡ renewed_turn false turn (get_or x.ranks i None) (top_at arena at i) =
    c.renew.ensures.turn ∙ ap (λ (l : Lane). renewed_turn false turn (rank_at l i) (top_at arena l i)) inv.lane in
    let below = c.loop-group-test.true in
    let end = c.groups-group-end.ensures.groups in
    let one = renews_one c.queue_laws.ensures.held c.queue_laws.ensures.first arena at c.requires.units x.ranks i c.args.turns.now turn (omega (arith, below, end)) inv.renewed in
    let next : suc i ≡ i + 1 = omega arith in
    let ticks = c.renew.ensures.ticks in
    let before = inv.ticks in
    record {
      lane = is ∙ ap (λ (rs : List (Option UnitKey)). record at { ranks = rs }) (sym ranks);
      renewed =
          subst (λ (rs : List (Option UnitKey)). RenewedTo arena at rs (i + 1) c.args.turns.now c.renew.new.turns) (sym ranks)
          (subst (λ (t : ℕ). RenewedTo arena at later (i + 1) c.args.turns.now t) (sym turns)
          (subst (λ (j : ℕ). RenewedTo arena at later j c.args.turns.now (renewed_turn false turn (get_or x.ranks i None) (top_at arena at i))) next one));
      ticks = omega (arith, ticks, before);
    }

pub returns-clause-same : goal.returns-clause-same
returns-clause-same g c = c.loop-group.invariant.lane

pub returns-clause-stands : goal.returns-clause-stands
returns-clause-stands g c =
    let inv = c.loop-group.invariant in
    let over = c.loop-group-test.false in
    let end = c.groups-group-end.ensures.groups in
    subst (LaneStands c.args.arena.now) (sym inv.lane) (all_stand c.args.arena.now c.args.self.now c.loop-group.self.ranks c.loop-group.group c.args.turns.now c.loop-group.turns c.requires.units (omega (arith, over, end)) inv.renewed)

pub returns-clause-follows : goal.returns-clause-follows
returns-clause-follows g c = λ s p keys same.
    let inv = c.loop-group.invariant in
    let over = c.loop-group-test.false in
    let most = c.loop-group.auto.group-end in
    let end = c.groups-group-end.ensures.groups in
    all_follow_by c.args.arena.now c.args.self.now c.loop-group.self c.loop-group.group c.args.turns.now c.loop-group.turns c.requires.units inv.lane (omega (arith, over, most, end)) inv.renewed s p keys same

pub returns-clause-turn_most : goal.returns-clause-turn_most
returns-clause-turn_most g c =
    let high = c.loop-group.invariant.renewed.high in
    let bound = c.loop-group.auto.group-end in
    let most = c.groups-group-end.ensures.most in
    omega (arith, high, bound, most)
