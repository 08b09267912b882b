-- The new slot is in no heap, and comes into both.
use Rattle.std.proofs.Common.{ap, is_some, lit<, nat_lt, ◌∙◌, arith}
use Rattle.pairing_heap.specs.Heap.{key_of_value, times_of}
use Rattle.pairing_heap.proofs.Staying.{added_held, stays, stays_inserted}
use Rattle.pairing_heap.proofs.tests.enter.Goals as goal

pub push-requires : goal.push-requires
push-requires g c =
    let inserts = c.insert_reserved-slot.ensures.inserts in
    let can = stays_inserted 0 (λ s. s.left) nat_lt c.args.arena.now c.insert_reserved-slot.new.self _ _ inserts c.args.left.now c.requires.left in
    (lit< tt, (can.stays.stands, (ap is_some inserts.stored, can.lacks)))

pub push-requires-2 : goal.push-requires-2
push-requires-2 g c =
    let inserts = c.insert_reserved-slot.ensures.inserts in
    let can = stays_inserted 1 (λ s. s.right) nat_lt c.args.arena.now c.insert_reserved-slot.new.self _ _ inserts c.args.right.now c.requires.right in
    let kept = c.push.ensures.adds.kept in
    let still = stays 1 (λ s. s.right) nat_lt c.insert_reserved-slot.new.self c.push.new.arena c.args.right.now can.stays.stands record {
      keys = λ slot held. ap (key_of_value (λ s. s.right)) (kept.values slot);
      links = λ slot held. kept.other_set 1 slot (λ e. omega arith);
    } in
    (lit< tt, (still.stands, (ap is_some (kept.values c.insert_reserved-slot.result ∙ inserts.stored), ap (λ xs. times_of xs c.insert_reserved-slot.result) still.same ∙ can.lacks)))

pub returns-clause-left : goal.returns-clause-left
returns-clause-left g c =
    let kept = c.push-2.ensures.adds.kept in
    let still = stays 0 (λ s. s.left) nat_lt c.push.new.arena c.push-2.new.arena c.push.new.self c.push.ensures.adds.stands record {
      keys = λ slot held. ap (key_of_value (λ s. s.left)) (kept.values slot);
      links = λ slot held. kept.other_set 0 slot (λ e. omega arith);
    } in
    still.stands

pub returns-clause-in_left : goal.returns-clause-in_left
returns-clause-in_left g c =
    let kept = c.push-2.ensures.adds.kept in
    let still = stays 0 (λ s. s.left) nat_lt c.push.new.arena c.push-2.new.arena c.push.new.self c.push.ensures.adds.stands record {
      keys = λ slot held. ap (key_of_value (λ s. s.left)) (kept.values slot);
      links = λ slot held. kept.other_set 0 slot (λ e. omega arith);
    } in
    let held = added_held 0 (λ s. s.left) nat_lt c.insert_reserved-slot.new.self c.push.new.arena _ c.push.new.self c.insert_reserved-slot.result (ap is_some c.insert_reserved-slot.ensures.inserts.stored) c.push.ensures.adds in
    omega (arith, held, ap (λ xs. times_of xs c.insert_reserved-slot.result) still.same)
