-- The slot of the group gets the key, and comes into the heap.
use Rattle.std.proofs.Common.{List, None, Option, ap, is_some, length, lit<, slice_index_or, subst, sym, ◌<◌, ◌≡◌, ℕ}
use Rattle.link_arena.specs.Arena.{Revalues}
use Rattle.pairing_heap.specs.Heap.{AddsPair, Lacks}
use Rattle.clutch_bucket.specs.KeptRanks.{key_of_ranked}
use Rattle.clutch_bucket.specs.Ranks.{unit_key_precedes}
use Rattle.clutch_bucket.specs.declared.ranks.Ranked.{Ranked}
use Rattle.clutch_bucket.specs.declared.ranks.UnitKey.{UnitKey}
use Rattle.clutch_bucket.proofs.Keeping.{entered, revalued, slot_read}
use Rattle.clutch_bucket.proofs.ranks.Ranks.enter.Goals as goal

pub push-requires : goal.push-requires
push-requires g c =
    let value : Ranked = record { key = c.args.key; group = c.args.group } in
    let within = subst (λ (keys : List (Option UnitKey)). c.args.group < length keys) (sym c.self.view_is) c.requires.group in
    let bare = subst (λ (keys : List (Option UnitKey)). slice_index_or keys c.args.group None ≡ None) (sym c.self.view_is) c.requires.bare in
    let slot = slot_read c.self.inside.keys.items c.self.inside.slots.items c.self.inside.arena c.self.inside.heap c.args.group c.index-slot.result.now within c.self.invariant c.index-slot.ensures in
    let revalues = subst (λ (s : ℕ). Revalues c.self.inside.arena c.replace.new.self s value) slot c.replace.ensures.revalues in
    let kept = revalued c.heap_laws.ensures.revalued c.self.inside.keys.items c.self.inside.slots.items c.self.inside.arena c.replace.new.self c.self.inside.heap c.args.group c.args.key within bare c.self.invariant revalues in
    let lacks = subst (λ (s : ℕ). Lacks 0 key_of_ranked c.replace.new.self c.self.inside.heap s) (sym slot) (kept.bare c.args.group within bare) in
    (lit< tt, (kept.stands, (ap is_some c.replace.ensures.revalues.here, lacks)))

pub invariant_of-self : goal.invariant_of-self
invariant_of-self g c =
    let value : Ranked = record { key = c.args.key; group = c.args.group } in
    let within = subst (λ (keys : List (Option UnitKey)). c.args.group < length keys) (sym c.self.view_is) c.requires.group in
    let bare = subst (λ (keys : List (Option UnitKey)). slice_index_or keys c.args.group None ≡ None) (sym c.self.view_is) c.requires.bare in
    let slot = slot_read c.self.inside.keys.items c.self.inside.slots.items c.self.inside.arena c.self.inside.heap c.args.group c.index-slot.result.now within c.self.invariant c.index-slot.ensures in
    let revalues = subst (λ (s : ℕ). Revalues c.self.inside.arena c.replace.new.self s value) slot c.replace.ensures.revalues in
    let kept = revalued c.heap_laws.ensures.revalued c.self.inside.keys.items c.self.inside.slots.items c.self.inside.arena c.replace.new.self c.self.inside.heap c.args.group c.args.key within bare c.self.invariant revalues in
    let adds = subst (λ (s : ℕ). AddsPair 0 key_of_ranked unit_key_precedes c.replace.new.self c.push.new.arena c.self.inside.heap c.push.new.self s) slot c.push.ensures.adds in
    entered c.heap_laws.ensures.adds c.heap_laws.ensures.held c.self.inside.keys.items c.self.inside.slots.items c.replace.new.self c.push.new.arena
    c.self.inside.heap c.push.new.self c.args.group c.args.key within kept revalues.here adds
