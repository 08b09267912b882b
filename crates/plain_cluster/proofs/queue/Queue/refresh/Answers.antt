use Rattle.std.proofs.Common.{List, ap, refl, sym, ◌∙◌, subst}
use Rattle.sched_base.specs.declared.Bucket.TheVariants.{Bg, Df, Fg, Ini, Ut}
use Rattle.plain_cluster.specs.Entries.{Slotted, entries_of, slots_of}
use Rattle.plain_cluster.specs.Queues.{FlagsFollow, flat_of}
use Rattle.plain_cluster.specs.Repricing.{HaveGroups}
use Rattle.plain_cluster.specs.declared.queue.Queue.{Queue}
use Rattle.plain_cluster.proofs.Refreshed.{Renews, flags_priced, kept_by, new_prices, renewed}
use Rattle.plain_cluster.proofs.Repriced.{can_price, changed_are, have_groups, priced_groups, priced_slots}
use Rattle.plain_cluster.proofs.queue.Queue.refresh.Goals as goal

pub counts-counts-requires-clause-groups : goal.counts-counts-requires-clause-groups
counts-counts-requires-clause-groups c =
    let q = c.args.self.now in
    have_groups q.groups (flat_of q).entries c.requires.groups c.requires.queue.formed.groups_below

pub clutch_tops-before-requires : goal.clutch_tops-before-requires
clutch_tops-before-requires c =
    let q = c.args.self.now in
    have_groups q.groups (flat_of q).entries c.requires.groups c.requires.queue.formed.groups_below

pub clutch_tops-after-requires : goal.clutch_tops-after-requires
clutch_tops-after-requires c =
    let q = c.args.self.now in
    subst (λ (rs : List Slotted). HaveGroups (entries_of rs)) (sym c.reprice-changed.ensures.rows)
    (priced_groups c.counts-counts.result c.args.now q.rows.rows (have_groups q.groups (flat_of q).entries c.requires.groups c.requires.queue.formed.groups_below))

pub reprice-changed-requires : goal.reprice-changed-requires
reprice-changed-requires c =
    let q = c.args.self.now in
    can_price q.groups q c.counts-counts.result c.requires.groups c.requires.queue c.counts-counts.ensures

pub returns-clause-changed : goal.returns-clause-changed
returns-clause-changed c =
    let q = c.args.self.now in
    c.reprice-changed.ensures.changed ∙ changed_are (flat_of q) c.counts-counts.result c.args.now q.rows.rows c.counts-counts.ensures

pub returns-clause-flat : goal.returns-clause-flat
returns-clause-flat c =
    let q = c.args.self.now in
    let now = c.args.now in
    let before = c.clutch_tops-before.result in
    let after = c.clutch_tops-after.result in
    let a : Queue = record q { rows = c.reprice-changed.new.self; last = now } in
    let v = c.renew_turns.new.self in
    let w = c.renew_turns-2.new.self in
    let x = c.renew_turns-3.new.self in
    let y = c.renew_turns-4.new.self in
    let z = c.renew_turns-5.new.self in
    let r0 : Renews a v before after Fg = record { queue = c.renew_turns.ensures.queue; spans = c.renew_turns.ensures.spans; turns = c.renew_turns.ensures.turns } in
    let r1 : Renews v w before after Ini = record { queue = c.renew_turns-2.ensures.queue; spans = c.renew_turns-2.ensures.spans; turns = c.renew_turns-2.ensures.turns } in
    let r2 : Renews w x before after Df = record { queue = c.renew_turns-3.ensures.queue; spans = c.renew_turns-3.ensures.spans; turns = c.renew_turns-3.ensures.turns } in
    let r3 : Renews x y before after Ut = record { queue = c.renew_turns-4.ensures.queue; spans = c.renew_turns-4.ensures.spans; turns = c.renew_turns-4.ensures.turns } in
    let r4 : Renews y z before after Bg = record { queue = c.renew_turns-5.ensures.queue; spans = c.renew_turns-5.ensures.spans; turns = c.renew_turns-5.ensures.turns } in
    renewed c.refreshes_by_bucket.ensures q a v w x y z before after now c.clutch_tops-before.ensures c.clutch_tops-after.ensures refl refl
    (new_prices q c.counts-counts.result now c.reprice-changed.new.self c.counts-counts.ensures c.reprice-changed.ensures.rows) r0 r1 r2 r3 r4

pub returns-clause-slots : goal.returns-clause-slots
returns-clause-slots c =
    let q = c.args.self.now in
    let now = c.args.now in
    let before = c.clutch_tops-before.result in
    let after = c.clutch_tops-after.result in
    let a : Queue = record q { rows = c.reprice-changed.new.self; last = now } in
    let v = c.renew_turns.new.self in
    let w = c.renew_turns-2.new.self in
    let x = c.renew_turns-3.new.self in
    let y = c.renew_turns-4.new.self in
    let z = c.renew_turns-5.new.self in
    let r0 : Renews a v before after Fg = record { queue = c.renew_turns.ensures.queue; spans = c.renew_turns.ensures.spans; turns = c.renew_turns.ensures.turns } in
    let r1 : Renews v w before after Ini = record { queue = c.renew_turns-2.ensures.queue; spans = c.renew_turns-2.ensures.spans; turns = c.renew_turns-2.ensures.turns } in
    let r2 : Renews w x before after Df = record { queue = c.renew_turns-3.ensures.queue; spans = c.renew_turns-3.ensures.spans; turns = c.renew_turns-3.ensures.turns } in
    let r3 : Renews x y before after Ut = record { queue = c.renew_turns-4.ensures.queue; spans = c.renew_turns-4.ensures.spans; turns = c.renew_turns-4.ensures.turns } in
    let r4 : Renews y z before after Bg = record { queue = c.renew_turns-5.ensures.queue; spans = c.renew_turns-5.ensures.spans; turns = c.renew_turns-5.ensures.turns } in
    let kept = kept_by a v w x y z before after r0 r1 r2 r3 r4 in
    ap (λ (n : Queue). slots_of n.rows.rows) kept ∙ (ap slots_of c.reprice-changed.ensures.rows ∙ priced_slots c.counts-counts.result now q.rows.rows)

pub returns-clause-flags : goal.returns-clause-flags
returns-clause-flags c =
    let q = c.args.self.now in
    let now = c.args.now in
    let before = c.clutch_tops-before.result in
    let after = c.clutch_tops-after.result in
    let a : Queue = record q { rows = c.reprice-changed.new.self; last = now } in
    let v = c.renew_turns.new.self in
    let w = c.renew_turns-2.new.self in
    let x = c.renew_turns-3.new.self in
    let y = c.renew_turns-4.new.self in
    let z = c.renew_turns-5.new.self in
    let r0 : Renews a v before after Fg = record { queue = c.renew_turns.ensures.queue; spans = c.renew_turns.ensures.spans; turns = c.renew_turns.ensures.turns } in
    let r1 : Renews v w before after Ini = record { queue = c.renew_turns-2.ensures.queue; spans = c.renew_turns-2.ensures.spans; turns = c.renew_turns-2.ensures.turns } in
    let r2 : Renews w x before after Df = record { queue = c.renew_turns-3.ensures.queue; spans = c.renew_turns-3.ensures.spans; turns = c.renew_turns-3.ensures.turns } in
    let r3 : Renews x y before after Ut = record { queue = c.renew_turns-4.ensures.queue; spans = c.renew_turns-4.ensures.spans; turns = c.renew_turns-4.ensures.turns } in
    let r4 : Renews y z before after Bg = record { queue = c.renew_turns-5.ensures.queue; spans = c.renew_turns-5.ensures.spans; turns = c.renew_turns-5.ensures.turns } in
    let kept = kept_by a v w x y z before after r0 r1 r2 r3 r4 in
    subst FlagsFollow (sym kept) (flags_priced q c.counts-counts.result now c.reprice-changed.new.self z.units c.requires.queue c.counts-counts.ensures c.reprice-changed.ensures.rows)
