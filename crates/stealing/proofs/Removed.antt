-- A slot leaves the heap of its thread's preferred cluster.
use Rattle.std.proofs.Common.{◌≡◌, ◌≢◌, ℕ, ◌+◌, ◌<◌, ◌==◌, Option, Some, length, sym, ap, ◌∙◌, subst, inl, inr, arith, eqb-true}
use Rattle.std.specs.Prelude.{if◌then◌else◌, slice_set}
use Rattle.std.proofs.lemmas.Bool.{cases_Bool, cases_eq}
use Rattle.link_arena.specs.Arena.{Arena, links_at, unlinked, value_at}
use Rattle.pairing_heap.specs.Heap.{LinksOnly, TakesPair, pairs_at, times_of}
use Rattle.pairing_heap.specs.Laws.{HeldAreLive, TakenIsLacked, TakenStaysApart, TakesOneSlot}
use Rattle.thread_queue.specs.Item.{foreign_key_of_item, foreign_precedes}
use Rattle.thread_queue.specs.declared.item.Item.{Item}
use Rattle.stealing.specs.Foreign.{HasSlot, LacksSlot, Roots, StandsIn, heap_of, times_in}
use Rattle.stealing.proofs.Changes.{changes, root_here, stands_after}
use Rattle.stealing.proofs.Held.{apart}

-- the slot of the item leaves its heap
pub record Goes (old new : Arena Item) (foreign later : Roots) (slot : ℕ) (item : Item) : Type 0 where
  pub stored : value_at old slot ≡ Some item
  pub held : HasSlot old foreign item.thread.prefer slot
  pub stands : StandsIn new later
  pub here : (other : ℕ) → times_in old foreign item.thread.prefer other ≡ (if slot == other then 1 else 0) + times_in new later item.thread.prefer other
  pub others : (to : ℕ) → to ≢ item.thread.prefer → (other : ℕ) → times_in new later to other ≡ times_in old foreign to other
  pub lacks : LacksSlot new later slot
  pub free : links_at new 1 slot ≡ unlinked
  pub kept : LinksOnly 1 old new (times_in old foreign item.thread.prefer)

pub held_still : (old new : Arena Item) (foreign later : Roots) (slot : ℕ) (item : Item) → Goes old new foreign later slot item → (to other : ℕ) → HasSlot new later to other → HasSlot old foreign to other
held_still old new foreign later slot item goes to other held = elim (cases_eq to item.thread.prefer) [
  | inl is ↦ subst (λ (n : ℕ). HasSlot old foreign n other) (sym is)
      (let after : 0 < times_in new later item.thread.prefer other = subst (λ (n : ℕ). HasSlot new later n other) is held in
      omega (arith, goes.here other, after))
  | inr unlike ↦ subst (λ (n : ℕ). 0 < n) (goes.others to unlike other) held
]

pub held_on : (old new : Arena Item) (foreign later : Roots) (slot : ℕ) (item : Item) → Goes old new foreign later slot item → (to other : ℕ) → other ≢ slot → HasSlot old foreign to other → HasSlot new later to other
held_on old new foreign later slot item goes to other unlike held = elim (cases_eq to item.thread.prefer) [
  | inl is ↦ subst (λ (n : ℕ). HasSlot new later n other) (sym is)
      (elim (cases_Bool (slot == other)) [
        | inl same ↦ absurd (unlike (sym (eqb-true slot other same)))
        | inr apart_from ↦ (let more = goes.here other ∙ ap (λ b. (if b then 1 else 0) + times_in new later item.thread.prefer other) apart_from in
            let before : 0 < times_in old foreign item.thread.prefer other = subst (λ (n : ℕ). HasSlot old foreign n other) is held in
            omega (arith, more, before))
      ])
  | inr elsewhere ↦ subst (λ (n : ℕ). 0 < n) (sym (goes.others to elsewhere other)) held
]

-- the heap has one pair less, and the others stay
pub goes : HeldAreLive 1 foreign_key_of_item foreign_precedes → TakesOneSlot 1 foreign_key_of_item foreign_precedes → TakenStaysApart 1 foreign_key_of_item foreign_precedes → TakenIsLacked 1 foreign_key_of_item foreign_precedes → (old new : Arena Item) (foreign : Roots) (slot : ℕ) (item : Item) (root : Option ℕ) → StandsIn old foreign → value_at old slot ≡ Some item → item.thread.prefer < length foreign → HasSlot old foreign item.thread.prefer slot → TakesPair 1 foreign_key_of_item foreign_precedes old new (heap_of foreign item.thread.prefer) root slot → Goes old new foreign (slice_set foreign item.thread.prefer root) slot item
goes live one stay lacked old new foreign slot item root stands stored within held takes =
    let at = item.thread.prefer in
    let later = slice_set foreign at root in
    let share = λ (to : ℕ) (unlike : to ≢ at). apart live old foreign stands at to (λ e. unlike (sym e)) in
    let change = changes old new foreign at root stands.eight within takes.stands
    (λ to unlike. (stay old new (heap_of foreign at) root slot (stands.heaps at) takes (heap_of foreign to) (stands.heaps to) (share to unlike)).stays)
    takes.kept.values in
    let becomes = λ (other : ℕ). ap (λ (r : Option ℕ). times_of (pairs_at 1 foreign_key_of_item new r) other) (root_here foreign at root within) in
    let here : (other : ℕ) → times_in old foreign at other ≡ (if slot == other then 1 else 0) + times_in new later at other
    = λ other. one old new (heap_of foreign at) root slot (stands.heaps at) takes other
    ∙ ap (λ (n : ℕ). (if slot == other then 1 else 0) + n) (sym (becomes other)) in
    record {
      stored = stored;
      held = held;
      stands = stands_after old new foreign later at stands change
          (λ other rival after valued. stands.at_preferred at other rival (omega (arith, here other, after)) valued);
      here = here;
      others = change.slots;
      lacks = λ to. elim (cases_eq to at) [
        | inl is ↦ subst (λ (n : ℕ). times_in new later n slot ≡ 0) (sym is)
            (becomes slot ∙ lacked old new (heap_of foreign at) root slot (stands.heaps at) takes)
        | inr unlike ↦ change.slots to unlike slot ∙ share to unlike slot held
      ];
      free = takes.free;
      kept = takes.kept;
    }
