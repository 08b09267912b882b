-- Once the heaps of foreign threads are cleared, the links of set 1 of every slot lead nowhere.
use Rattle.std.proofs.Common.{◌≡◌, ℕ, ◌==◌, Option, Some, None, refl, sym, ◌∙◌, subst, inl, inr, arith, eqb-true}
use Rattle.std.proofs.lemmas.Bool.{and_parts, cases_eq}
use Rattle.std.proofs.lemmas.Option.{none-some}
use Rattle.flat_policy.specs.Policy.Offer.{is_unbound}
use Rattle.link_arena.specs.Arena.{Arena, Node, links_at, links_in, node_at, unlinked, value_at, value_of}
use Rattle.thread_queue.specs.declared.item.Item.{Item}
use Rattle.stealing.specs.Foreign.{Clears, HasSlot, LacksSlot, Roots, StandsIn, times_in}

pub no_links : (k : ℕ) (node : Option (Node Item)) → value_of node ≡ None → links_in k node ≡ unlinked
no_links k None h = refl
no_links k (Some node) h = absurd (none-some node.value (sym h))

-- a free slot's links lead nowhere
pub free_unlinked : (arena : Arena Item) (k slot : ℕ) → value_at arena slot ≡ None → links_at arena k slot ≡ unlinked
free_unlinked arena k slot h = no_links k (node_at arena slot) h

-- no heap has a slot that none can have
pub lacks_where : (arena : Arena Item) (foreign : Roots) (slot : ℕ) → ((to : ℕ) → HasSlot arena foreign to slot → ⊥) → LacksSlot arena foreign slot
lacks_where arena foreign slot without = λ to. elim (cases_eq (times_in arena foreign to slot) 0) [
  | inl e ↦ e
  | inr n ↦ absurd (without to (omega (arith, n)))
]

module _ (old new : Arena Item) (foreign : Roots) (stands : StandsIn old foreign) (clears : Clears old new foreign) (loose : (slot : ℕ) → LacksSlot old foreign slot → links_at old 1 slot ≡ unlinked) where
  -- a slot that is not in its item's preferred heap is in none
  lacks_all : (slot : ℕ) (item : Item) → value_at old slot ≡ Some item → times_in old foreign item.thread.prefer slot ≡ 0 → LacksSlot old foreign slot
  lacks_all slot item stored none = lacks_where old foreign slot (λ to has.
      let wanted = and_parts (is_unbound item.thread) (item.thread.prefer == to) (stands.at_preferred to slot item has stored) in
      omega (arith, has, subst (λ (t : ℕ). times_in old foreign t slot ≡ 0) (eqb-true item.thread.prefer to wanted.1) none))

  unlinked_by : (slot : ℕ) (v : Option Item) → value_at old slot ≡ v → links_at new 1 slot ≡ unlinked
  unlinked_by slot None is = free_unlinked new 1 slot (clears.kept.values slot ∙ is)
  unlinked_by slot (Some item) is = elim (cases_eq (times_in old foreign item.thread.prefer slot) 0) [
    | inl e ↦ (let lacks = lacks_all slot item is e in clears.elsewhere slot lacks ∙ loose slot lacks)
    | inr n ↦ clears.free item.thread.prefer slot (omega (arith, n))
  ]

  pub all_unlinked : (slot : ℕ) → links_at new 1 slot ≡ unlinked
  all_unlinked slot = unlinked_by slot (value_at old slot) refl
