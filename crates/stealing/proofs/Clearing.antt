-- One heap after another is cleared.
use Rattle.std.proofs.Common.{◌≡◌, ℕ, zero, suc, ◌<◌, Option, None, [], ◌∷◌, length, refl, sym, ap₂, subst, arith, lit<}
use Rattle.std.specs.Prelude.{replicate, slice_set}
use Rattle.sched_base.specs.Limits.{most_clusters}
use Rattle.flat_policy.proofs.Members.{contains_none}
use Rattle.link_arena.specs.Arena.{Arena}
use Rattle.pairing_heap.specs.Heap.{ClearsSlots, Stands}
use Rattle.pairing_heap.specs.Laws.{FirstIsLeast, HeldAreLive, StandsWhenEmpty, StaysWhereCleared}
use Rattle.thread_queue.specs.Item.{foreign_key_of_item, foreign_precedes}
use Rattle.thread_queue.specs.declared.item.Item.{Item}
use Rattle.stealing.specs.Clearing.{ClearsBelow, ClearsOne}
use Rattle.stealing.specs.Foreign.{HasSlot, OffersEntries, Roots, StandsIn, heap_of}
use Rattle.stealing.proofs.Best.{none_held}
use Rattle.stealing.proofs.Changes.{changes, root_here, root_there, stands_after}
use Rattle.stealing.proofs.Held.{apart}

-- an empty heap has no slot
pub none_there : FirstIsLeast 1 foreign_key_of_item foreign_precedes → StandsWhenEmpty 1 foreign_key_of_item foreign_precedes → (arena : Arena Item) (foreign : Roots) (to slot : ℕ) → heap_of foreign to ≡ None → HasSlot arena foreign to slot → ⊥
none_there least empty arena foreign to slot is held =
    none_held least arena slot (heap_of foreign to)
    (subst (λ (r : Option ℕ). Stands 1 foreign_key_of_item foreign_precedes arena r) (sym is) (empty (lit< tt) arena)) is held

-- heaps of which none has a slot stand everywhere, and stand for no entry
pub offers_none : FirstIsLeast 1 foreign_key_of_item foreign_precedes → StandsWhenEmpty 1 foreign_key_of_item foreign_precedes → (arena : Arena Item) (foreign : Roots) → length foreign ≡ most_clusters → ((to : ℕ) → heap_of foreign to ≡ None) → OffersEntries arena foreign []
offers_none least empty arena foreign eight none = record {
  stands = record {
    eight = eight;
    heaps = λ to. subst (λ (r : Option ℕ). Stands 1 foreign_key_of_item foreign_precedes arena r) (sym (none to)) (empty (lit< tt) arena);
    at_preferred = λ to slot item held stored. absurd (none_there least empty arena foreign to slot (none to) held);
  };
  there = λ to slot item held stored. absurd (none_there least empty arena foreign to slot (none to) held);
  back = λ to lt e c. absurd (contains_none e c);
  once = λ to from slot other item rival held there stored kept same. absurd (none_there least empty arena foreign to slot (none to) held);
}

-- each root of a list of none is none
pub none_of : (n to : ℕ) → heap_of (replicate n None) to ≡ None
none_of zero to = refl
none_of (suc n) zero = refl
none_of (suc n) (suc to) = none_of n to

pub all_none : (roots : Roots) (n : ℕ) → length roots ≡ n → ((to : ℕ) → to < n → heap_of roots to ≡ None) → roots ≡ replicate n None
all_none [] zero is none = refl
all_none [] (suc n) is none = absurd (omega (arith, is))
all_none (r ∷ roots) zero is none = absurd (omega (arith, is))
all_none (r ∷ roots) (suc n) is none =
    ap₂ (λ (x : Option ℕ) (xs : Roots). x ∷ xs) (none 0 (omega arith))
    (all_none roots n (omega (arith, is)) (λ to lt. none (suc to) (omega (arith, lt))))

pub clears_one : HeldAreLive 1 foreign_key_of_item foreign_precedes → FirstIsLeast 1 foreign_key_of_item foreign_precedes → StandsWhenEmpty 1 foreign_key_of_item foreign_precedes → StaysWhereCleared 1 foreign_key_of_item foreign_precedes → (old new : Arena Item) (foreign : Roots) (at : ℕ) → StandsIn old foreign → at < length foreign → ClearsSlots 1 foreign_key_of_item foreign_precedes old new (heap_of foreign at) → ClearsOne old new foreign (slice_set foreign at None) at
clears_one live least empty stay old new foreign at stands within clears =
    let later = slice_set foreign at None in
    let change = changes old new foreign at None stands.eight within (empty (lit< tt) new)
    (λ to unlike. stay old new (heap_of foreign at) (stands.heaps at) clears (heap_of foreign to) (stands.heaps to) (apart live old foreign stands at to (λ e. unlike (sym e))))
    clears.kept.values in
    let none = root_here foreign at None within in
    record {
      stands = stands_after old new foreign later at stands change (λ slot item held stored. absurd (none_there least empty new later at slot none held));
      none = none;
      roots = λ to unlike. root_there foreign at to None unlike;
      others = change.slots;
      free = clears.free;
      kept = clears.kept;
    }

pub clears_none : (arena : Arena Item) (foreign : Roots) → StandsIn arena foreign → ClearsBelow arena arena foreign foreign 0
clears_none arena foreign stands = record {
  stands = stands;
  none = λ to lt. absurd (omega (arith, lt));
  rest = λ to le slot. refl;
  free = λ to slot lt held. absurd (omega (arith, lt));
  elsewhere = λ slot lacks. refl;
  values = λ slot. refl;
  other_set = λ set slot unlike. refl;
  spare = refl;
}
