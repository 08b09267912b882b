-- A queue whose slots are priced anew along a list: the next place, and the end.
use Rattle.std.proofs.Common.{◌≡◌, ℕ, ◌+◌, ◌<◌, Bool, cond, List, [], length, drop, get_or, refl, sym, ap, ◌∙◌, subst, arith}
use Rattle.std.proofs.lemmas.List.{drop_more}
use Rattle.link_arena.specs.Arena.{Arena, value_at}
use Rattle.pairing_heap.specs.Laws.{HeldAreLive}
use Rattle.thread_queue.specs.Item.{key_of_item, key_precedes}
use Rattle.thread_queue.specs.Laws.{SettledStaysApart, SlotsStandOnce}
use Rattle.thread_queue.specs.Queue.{HasSlot, Queue, StandsIn}
use Rattle.thread_queue.specs.declared.item.Item.{Item}
use Rattle.clutch_bucket.specs.Repricing.{Reprices, RepricesSlot, changed_in, changes_pri}
use Rattle.clutch_bucket.proofs.PricedAnew.{RepricedBut, at_hand, changed_among, reprices_step}

-- the slot at the next place is the queue's
pub held_next : (old mid : Arena Item) (queue at : Queue) (now i d : ℕ) (all : List ℕ) (told : ℕ) → RepricedBut old mid queue at now (drop i all) told → i < length all → HasSlot mid at (get_or all i d)
held_next old mid queue at now i d all told r within =
    (at_hand old mid queue at now (get_or all i d) (drop (i + 1) all) told
    (subst (λ (xs : List ℕ). RepricedBut old mid queue at now xs told) (drop_more all i d within) r)).1.0

-- and once it is priced anew, so are the slots but for those after it
pub repriced_next : HeldAreLive 0 key_of_item key_precedes → SettledStaysApart → SlotsStandOnce → (old mid new : Arena Item) (queue at later : Queue) (now i d count : ℕ) (all : List ℕ) (told next : ℕ) (b : Bool)
    → StandsIn old queue → RepricedBut old mid queue at now (drop i all) told → i < length all → count ≡ queue.count → RepricesSlot mid new at later (get_or all i d) count now
    → b ≡ changes_pri count now (value_at mid (get_or all i d)) → next ≡ told + cond b 1 0 → RepricedBut old new queue later now (drop (i + 1) all) next
repriced_next live law once old mid new queue at later now i d count all told next b stands r within same s is sum =
    let slot = get_or all i d in
    let before = subst (λ (xs : List ℕ). RepricedBut old mid queue at now xs told) (drop_more all i d within) r in
    let after = reprices_step live law once old mid new queue at later now slot (drop (i + 1) all) told stands before (subst (λ (n : ℕ). RepricesSlot mid new at later slot n now) same s) in
    let whether = is ∙ ap (λ (n : ℕ). changes_pri n now (value_at mid slot)) same in
    subst (λ (n : ℕ). RepricedBut old new queue later now (drop (i + 1) all) n) (sym (sum ∙ ap {B = ℕ} (λ (x : Bool). told + cond x 1 0) whether)) after

-- at the end all are priced anew, and the number told is that of those that changed
pub repriced_all : (old new : Arena Item) (queue later : Queue) (now told : ℕ) → RepricedBut old new queue later now [] told → Reprices old new queue later now
repriced_all old new queue later now told r = record {
  stands = r.stands;
  count = r.count;
  slots = r.slots;
  values = λ slot item has stored. r.done slot item has refl stored;
  small = λ slot item has stored. r.small slot item has refl stored;
  others = r.others;
  second = r.second;
  spare = r.spare;
  queues = r.queues;
}

pub told_all : (old new : Arena Item) (queue later : Queue) (now told : ℕ) → RepricedBut old new queue later now [] told → told ≡ changed_in old queue now
told_all old new queue later now told r = let all = r.changed in let none : changed_among old queue.count now [] ≡ 0 = refl in omega (arith, all, none)
