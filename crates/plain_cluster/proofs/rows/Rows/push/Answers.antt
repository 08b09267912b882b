use Rattle.std.proofs.Common.{◌≡◌, ◌++◌, ◌∷◌, [], Contains, ℕ, Option, length, ap, sym, subst, ◌∙◌, arith}
use Rattle.std.specs.Option.{option_to_list}
use Rattle.std.proofs.lemmas.List.{length_push, map-append}
use Rattle.plain_cluster.specs.Entries.{EachSlotOnce, RowList, Slotted, slots_of}
use Rattle.plain_cluster.proofs.Slots.{slot_fresh, slot_taken}
use Rattle.plain_cluster.proofs.rows.Rows.push.Goals as goal

pub invariant_of-self : goal.invariant_of-self
invariant_of-self c =
    let i = c.self.inside in
    let free : i.free.items ≡ c.pop.new.self.items ++ c.unwrap-slot.result ∷ [] =
    c.pop.ensures.items ∙ ap (λ (o : Option ℕ). c.pop.new.self.items ++ option_to_list o) c.unwrap-slot.ensures in
    let rows = c.push_reserved.ensures.items in
    let taken : slots_of c.push_reserved.new.self.items ≡ slots_of i.rows.items ++ c.unwrap-slot.result ∷ [] =
    ap slots_of rows ∙ map-append (λ (r : Slotted). r.slot) i.rows.items (c.new.result ∷ [])
    ∙ ap (λ (r : Slotted). slots_of i.rows.items ++ r.slot ∷ []) c.new.ensures in
    let rows_long = ap length rows ∙ length_push i.rows.items c.new.result in
    let free_long = ap length free ∙ length_push c.pop.new.self.items c.unwrap-slot.result in
    record {
      slots = subst (λ ts. EachSlotOnce ts c.pop.new.self.items) (sym taken)
          (slot_taken (slots_of i.rows.items) c.pop.new.self.items c.unwrap-slot.result (subst (EachSlotOnce (slots_of i.rows.items)) free c.self.invariant.slots));
      rows_room = omega (arith, rows_long, free_long, c.push_reserved.ensures.capacity, c.self.invariant.rows_room);
      free_room = omega (arith, rows_long, free_long, c.pop.ensures.capacity, c.self.invariant.free_room);
      few = omega (arith, rows_long, free_long, c.self.invariant.few);
    }

pub returns-clause-slot : goal.returns-clause-slot
returns-clause-slot c =
    let i = c.self.inside in
    let free : i.free.items ≡ c.pop.new.self.items ++ c.unwrap-slot.result ∷ [] =
    c.pop.ensures.items ∙ ap (λ (o : Option ℕ). c.pop.new.self.items ++ option_to_list o) c.unwrap-slot.ensures in
    λ there. slot_fresh (slots_of i.rows.items) c.pop.new.self.items c.unwrap-slot.result (subst (EachSlotOnce (slots_of i.rows.items)) free c.self.invariant.slots)
    (subst (λ (v : RowList). Contains (slots_of v.rows) c.unwrap-slot.result) (sym c.self.view_is) there)
