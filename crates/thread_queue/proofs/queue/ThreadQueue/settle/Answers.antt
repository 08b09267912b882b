-- The item is written where it stands, or taken out, written and pushed again.
use Rattle.std.proofs.Common.{Option, Some, ap, is_some, ◌∙◌, lit<, refl, sym, subst, ℕ}
use Rattle.pairing_heap.specs.Heap.{key_of_value, times_of}
use Rattle.thread_queue.specs.Item.{key_of_item, settled_item}
use Rattle.thread_queue.specs.Queue.{Queue, StandsIn}
use Rattle.thread_queue.specs.declared.item.Item.{Item}
use Rattle.thread_queue.proofs.Settled.{settles}
use Rattle.thread_queue.proofs.queue.ThreadQueue.settle.Goals as goal

pub get-requires : goal.get-requires
get-requires g c = c.heap_laws.ensures.live c.args.arena.now c.args.self.now.root c.args.slot c.requires.stands.heap c.requires.held

pub returns-then-get-pri-clause-settles : goal.returns-then-get-pri-clause-settles
returns-then-get-pri-clause-settles g c =
    let live = c.heap_laws.ensures.live c.args.arena.now c.args.self.now.root c.args.slot c.requires.stands.heap c.requires.held in
    let item = c.get.result.now in
    let keyed = ap (λ (o : Option Item). key_of_value key_of_item o) c.get.ensures ∙ ap (λ (pri : ℕ). Some (record { pri = pri; number = item.number })) c.if-get-pri.true in
    let rekeys = c.heap_laws.ensures.rekeys_there c.args.arena.now c.settle_item.new.arena c.args.self.now.root c.args.slot (settled_item c.args.usage c.args.seen c.args.pri item) c.requires.stands.heap c.requires.held (c.settle_item.ensures.revalues item c.get.ensures) c.settle_item.ensures.spare keyed in
    settles c.heap_laws.ensures.rekeys_slot c.heap_laws.ensures.rekeys_pair c.args.arena.now c.settle_item.new.arena c.args.self.now c.args.self.now c.args.slot c.args.usage c.args.seen c.args.pri item c.get.ensures c.requires.stands live rekeys refl

pub settle_item-requires-2 : goal.settle_item-requires-2
settle_item-requires-2 g c =
    let live = c.heap_laws.ensures.live c.args.arena.now c.args.self.now.root c.args.slot c.requires.stands.heap c.requires.held in
    ap is_some (c.remove.ensures.takes.kept.values c.args.slot) ∙ live

pub push-requires : goal.push-requires
push-requires g c =
    let stands = subst (λ (q : Queue). StandsIn c.args.arena.now q) (sym c.self.view_is) c.requires.stands in
    let takes = c.remove.ensures.takes in
    let lacks = c.heap_laws.ensures.lacked c.args.arena.now c.remove.new.arena c.self.inside.heap c.remove.new.self c.args.slot stands.heap takes in
    let revalued = c.settle_item-2.ensures.revalues c.get.result.now (takes.kept.values c.args.slot ∙ c.get.ensures) in
    let still = c.heap_laws.ensures.revalued c.remove.new.arena c.settle_item-2.new.arena c.args.slot (settled_item c.args.usage c.args.seen c.args.pri c.get.result.now) revalued c.remove.new.self takes.stands lacks in
    (lit< tt, (still.stands, (ap is_some revalued.here, ap (λ xs. times_of xs c.args.slot) still.same ∙ lacks)))

pub returns-clause-settles : goal.returns-clause-settles
returns-clause-settles g c =
    let stands = subst (λ (q : Queue). StandsIn c.args.arena.now q) (sym c.self.view_is) c.requires.stands in
    let live = c.heap_laws.ensures.live c.args.arena.now c.args.self.now.root c.args.slot c.requires.stands.heap c.requires.held in
    let takes = c.remove.ensures.takes in
    let item = c.get.result.now in
    let revalued = c.settle_item-2.ensures.revalues item (takes.kept.values c.args.slot ∙ c.get.ensures) in
    let rekeys = c.heap_laws.ensures.rekeys_again c.args.arena.now c.remove.new.arena c.settle_item-2.new.arena c.push.new.arena c.self.inside.heap c.remove.new.self c.push.new.self c.args.slot (settled_item c.args.usage c.args.seen c.args.pri item) stands.heap takes revalued c.settle_item-2.ensures.spare c.push.ensures.adds in
    rw (← c.self.view_is)
    (settles c.heap_laws.ensures.rekeys_slot c.heap_laws.ensures.rekeys_pair c.args.arena.now c.push.new.arena _ _ c.args.slot c.args.usage c.args.seen c.args.pri item c.get.ensures stands live rekeys refl)
