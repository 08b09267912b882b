-- What holds of the lane that is made.
use Rattle.std.proofs.Common.{◌≡◌, subst, sym}
use Rattle.flat_policy.specs.Policy.Queue.{empty_flat}
use Rattle.link_arena.specs.Arena.{Arena}
use Rattle.thread_queue.specs.declared.item.Item.{Item}
use Rattle.clutch_bucket.specs.Lane.{Follows, Lane, LaneStands}
use Rattle.clutch_bucket.proofs.New.{empty_follows, empty_lane, empty_stands}
use Rattle.clutch_bucket.proofs.Reading.{if_ok}
use Rattle.clutch_bucket.proofs.lane.LaneUnits.new.Goals as goal

pub returns-clause-stands : goal.returns-clause-stands
returns-clause-stands c =
    if_ok (λ (made : Lane). made ≡ empty_lane c.args.bucket c.args.groups) (λ (made : Lane). (arena : Arena Item) → LaneStands arena made) c.empty.result
    (λ made is arena. subst (LaneStands arena) (sym is) (empty_stands c.queue_laws.ensures.empty c.queue_laws.ensures.first arena c.args.bucket c.args.groups)) c.empty.ensures

pub returns-clause-follows : goal.returns-clause-follows
returns-clause-follows c =
    if_ok (λ (made : Lane). made ≡ empty_lane c.args.bucket c.args.groups) (λ (made : Lane). (arena : Arena Item) → Follows arena made (empty_flat c.args.groups)) c.empty.result
    (λ made is arena. subst (λ (l : Lane). Follows arena l (empty_flat c.args.groups)) (sym is) (empty_follows c.queue_laws.ensures.empty c.queue_laws.ensures.first arena c.args.bucket c.args.groups)) c.empty.ensures
