-- A slot comes into the heap of its thread's preferred cluster.
use Rattle.std.proofs.Common.{◌≡◌, ◌≢◌, ◌⊎◌, ℕ, ◌+◌, ◌<◌, ◌==◌, true, Option, Some, length, refl, sym, ap, ◌∙◌, subst, inl, inr, arith, eq-eqb, eqb-true}
use Rattle.std.specs.Prelude.{if◌then◌else◌, slice_set}
use Rattle.std.proofs.lemmas.Bool.{and_from, cases_Bool, cases_eq}
use Rattle.flat_policy.specs.Policy.Offer.{is_unbound, prefers}
use Rattle.link_arena.specs.Arena.{Arena, IsLive, value_at}
use Rattle.pairing_heap.specs.Heap.{AddsPair, LinksOnly, pairs_at, times_of}
use Rattle.pairing_heap.specs.Laws.{AddedStaysApart, AddsOneSlot, HeldAreLive}
use Rattle.thread_queue.specs.Item.{foreign_key_of_item, foreign_precedes}
use Rattle.thread_queue.specs.declared.item.Item.{Item}
use Rattle.stealing.specs.Foreign.{HasSlot, IsForeign, LacksSlot, Roots, StandsIn, heap_of, times_in}
use Rattle.stealing.proofs.Changes.{changes, root_here, stands_after}
use Rattle.stealing.proofs.Held.{apart}

-- the slot of the item comes into its heap
pub record Comes (old new : Arena Item) (foreign later : Roots) (slot : ℕ) (item : Item) : Type 0 where
  pub stored : value_at old slot ≡ Some item
  pub stands : StandsIn new later
  pub here : (other : ℕ) → times_in new later item.thread.prefer other ≡ (if slot == other then 1 else 0) + times_in old foreign item.thread.prefer other
  pub others : (to : ℕ) → to ≢ item.thread.prefer → (other : ℕ) → times_in new later to other ≡ times_in old foreign to other
  pub kept : LinksOnly 1 old new (times_in new later item.thread.prefer)

pub some_is : (a b : Item) → Some a ≡ Some b → a ≡ b
some_is a b h = cc

pub prefers_own : (item : Item) → IsForeign item.thread → prefers item.thread.prefer item.thread ≡ true
prefers_own item foreign =
    and_from (is_unbound item.thread) (item.thread.prefer == item.thread.prefer) foreign.unbound (eq-eqb item.thread.prefer item.thread.prefer refl)

-- a slot that stands once more, or as often as before
one_more : (slot other after before : ℕ) → after ≡ (if slot == other then 1 else 0) + before → 0 < after → (other ≡ slot) ⊎ (0 < before)
one_more slot other after before is some = elim (cases_Bool (slot == other)) [
  | inl same ↦ inl (sym (eqb-true slot other same))
  | inr unlike ↦ inr (let more = is ∙ ap (λ b. (if b then 1 else 0) + before) unlike in omega (arith, more, some))
]

-- a slot of a heap after the push is the slot that came, or was there
pub held_before : (old new : Arena Item) (foreign later : Roots) (slot : ℕ) (item : Item) → Comes old new foreign later slot item → (to other : ℕ) → HasSlot new later to other → (other ≡ slot) ⊎ HasSlot old foreign to other
held_before old new foreign later slot item comes to other held = elim (cases_eq to item.thread.prefer) [
  | inl is ↦ subst (λ (n : ℕ). (other ≡ slot) ⊎ HasSlot old foreign n other) (sym is)
      (one_more slot other _ _ (comes.here other) (subst (λ (n : ℕ). HasSlot new later n other) is held))
  | inr unlike ↦ inr (subst (λ (n : ℕ). 0 < n) (comes.others to unlike other) held)
]

pub held_after : (old new : Arena Item) (foreign later : Roots) (slot : ℕ) (item : Item) → Comes old new foreign later slot item → (to other : ℕ) → HasSlot old foreign to other → HasSlot new later to other
held_after old new foreign later slot item comes to other held = elim (cases_eq to item.thread.prefer) [
  | inl is ↦ subst (λ (n : ℕ). HasSlot new later n other) (sym is)
      (let before : 0 < times_in old foreign item.thread.prefer other = subst (λ (n : ℕ). HasSlot old foreign n other) is held in
      omega (arith, comes.here other, before))
  | inr unlike ↦ subst (λ (n : ℕ). 0 < n) (sym (comes.others to unlike other)) held
]

pub held_itself : (old new : Arena Item) (foreign later : Roots) (slot : ℕ) (item : Item) → Comes old new foreign later slot item → HasSlot new later item.thread.prefer slot
held_itself old new foreign later slot item comes =
    let here = comes.here slot ∙ ap (λ b. (if b then 1 else 0) + times_in old foreign item.thread.prefer slot) (eq-eqb slot slot refl) in
    omega (arith, here)

-- the heap has one pair more, and the others stay
pub comes : HeldAreLive 1 foreign_key_of_item foreign_precedes → AddsOneSlot 1 foreign_key_of_item foreign_precedes → AddedStaysApart 1 foreign_key_of_item foreign_precedes → (old new : Arena Item) (foreign : Roots) (slot : ℕ) (item : Item) (root : Option ℕ) → StandsIn old foreign → IsLive old slot → value_at old slot ≡ Some item → IsForeign item.thread → LacksSlot old foreign slot → AddsPair 1 foreign_key_of_item foreign_precedes old new (heap_of foreign item.thread.prefer) root slot → Comes old new foreign (slice_set foreign item.thread.prefer root) slot item
comes live one stay old new foreign slot item root stands is_live stored wants lacks adds =
    let at = item.thread.prefer in
    let within : at < length foreign = subst (λ (n : ℕ). at < n) (sym stands.eight) wants.cluster in
    let change = changes old new foreign at root stands.eight within adds.stands
    (λ to unlike. (stay old new (heap_of foreign at) root slot is_live (stands.heaps at) adds (heap_of foreign to) (stands.heaps to)
    (apart live old foreign stands at to (λ e. unlike (sym e))) (lacks to)).stays)
    adds.kept.values in
    let here : (other : ℕ) → times_in new (slice_set foreign at root) at other ≡ (if slot == other then 1 else 0) + times_in old foreign at other
    = λ other. ap (λ (r : Option ℕ). times_of (pairs_at 1 foreign_key_of_item new r) other) (root_here foreign at root within)
    ∙ one old new (heap_of foreign at) root slot is_live adds other in
    record {
      stored = stored;
      stands = stands_after old new foreign (slice_set foreign at root) at stands change
          (λ other rival held valued. elim (one_more slot other _ _ (here other) held) [
            | inl is ↦ (let same = some_is item rival (sym stored ∙ (ap (λ (n : ℕ). value_at old n) (sym is) ∙ valued)) in
                subst (λ (i : Item). prefers at i.thread ≡ true) same (prefers_own item wants))
            | inr before ↦ stands.at_preferred at other rival before valued
          ]);
      here = here;
      others = change.slots;
      kept = subst (λ (r : Option ℕ). LinksOnly 1 old new (times_of (pairs_at 1 foreign_key_of_item new r))) (sym (root_here foreign at root within)) adds.kept;
    }
