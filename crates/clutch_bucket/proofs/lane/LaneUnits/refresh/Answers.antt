-- All entries are priced anew, and then the keys are renewed.
use Rattle.std.proofs.Common.{◌≡◌, ◌≤◌, ℕ, ap, sym, ◌∙◌, subst}
use Rattle.sched_base.specs.declared.Bucket.{Bucket}
use Rattle.flat_policy.specs.Laws.Refreshing.{with_turns_of}
use Rattle.clutch_bucket.specs.Lane.{Follows, IsApartFrom, Lane, groups}
use Rattle.clutch_bucket.proofs.ChangedSlots.{lane_changed}
use Rattle.clutch_bucket.proofs.Repriced.{holds_repriced, keys_priced}
use Rattle.clutch_bucket.proofs.lane.LaneUnits.refresh.Goals as goal

pub returns-clause-follows : goal.returns-clause-follows
returns-clause-follows g c = λ s p f formed priced turn.
    let r = c.reprice_all-changed.ensures.priced in
    let laws = c.queue_laws.ensures in
    let new = c.reprice_all-changed.new.arena in
    let before = c.args.self.now in
    let mid = c.reprice_all-changed.new.self in
    let last = c.renew_all.new.self in
    let after = c.renew_all.new.turns in
    let keys = keys_priced laws.held laws.first c.args.arena.now new before mid c.args.now s p c.requires.bucket f r priced in
    subst (λ (n : ℕ). Follows new last (with_turns_of n s p before.bucket) × (after ≡ (with_turns_of n s p before.bucket).next_turn)) r.alike
    (subst (λ (b : Bucket). Follows new last (with_turns_of (groups mid) s p b) × (after ≡ (with_turns_of (groups mid) s p b).next_turn)) (ap (λ (l : Lane). l.bucket) r.same)
    (c.renew_all.ensures.follows s p keys turn))

pub returns-clause-changed : goal.returns-clause-changed
returns-clause-changed g c = λ s f formed.
    c.reprice_all-changed.ensures.changed
    ∙ lane_changed c.walk_counts_slots.ensures c.slots_stand_once.ensures c.args.arena.now c.args.self.now c.args.now s c.requires.bucket f formed.arrivals_rise formed.groups_below

pub returns-clause-repriced : goal.returns-clause-repriced
returns-clause-repriced g c = λ s slot item f formed has stored.
    holds_repriced c.args.arena.now c.reprice_all-changed.new.arena c.args.self.now c.reprice_all-changed.new.self c.args.now s c.requires.bucket f c.reprice_all-changed.ensures.priced slot item has stored

pub returns-clause-len : goal.returns-clause-len
returns-clause-len g c = ap (λ (l : Lane). l.len) c.renew_all.ensures.same ∙ ap (λ (l : Lane). l.len) c.reprice_all-changed.ensures.priced.same

pub returns-clause-groups : goal.returns-clause-groups
returns-clause-groups g c = record {
  bucket = ap (λ (l : Lane). l.bucket) c.renew_all.ensures.same ∙ ap (λ (l : Lane). l.bucket) c.reprice_all-changed.ensures.priced.same;
  groups = ap groups c.renew_all.ensures.same ∙ c.reprice_all-changed.ensures.priced.alike;
}

pub returns-clause-queues : goal.returns-clause-queues
returns-clause-queues g c = λ other there apart.
    let kept = c.reprice_all-changed.ensures.priced.queues other there apart in
    record {
      stays = kept.stays;
      apart = subst (λ (l : Lane). IsApartFrom c.reprice_all-changed.new.arena l other) (sym c.renew_all.ensures.same) kept.apart;
    }

pub reprice_all-changed-requires-clause-room : goal.reprice_all-changed-requires-clause-room
reprice_all-changed-requires-clause-room g c = subst (λ (l : Lane). l.len ≤ 4096) c.self.view_is c.self.invariant.1.1.1.1
