use Rattle.std.proofs.Common.{◌≡◌, ◌+◌, ◌++◌, ◌∷◌, [], List, ℕ, length, ap, sym, subst, ◌∙◌, arith}
use Rattle.std.proofs.lemmas.List.{length-map, length_push}
use Rattle.plain_cluster.specs.Entries.{EachSlotOnce, Slotted, slots_of}
use Rattle.plain_cluster.proofs.Slots.{slot_more}
use Rattle.plain_cluster.proofs.rows.Rows.reserve.Goals as goal

pub invariant_of-self-2 : goal.invariant_of-self-2
invariant_of-self-2 c =
    let i = c.self.inside in
    let total = c.len.result + c.len-2.result in
    let rows : c.reserve.new.self.items ≡ i.rows.items = c.reserve.ensures.items in
    let free : c.push_reserved.new.self.items ≡ i.free.items ++ total ∷ [] =
    c.push_reserved.ensures.items ∙ ap (λ (ks : List ℕ). ks ++ total ∷ []) c.reserve-2.ensures.items in
    let rows_long = ap length rows in
    let free_long = ap length free ∙ length_push i.free.items total in
    let all : total ≡ length i.rows.items + length i.free.items =
    omega (arith, c.len.ensures, c.len-2.ensures, i.rows.ok.0, i.free.ok.0) in
    record {
      slots = subst (λ ts. EachSlotOnce ts c.push_reserved.new.self.items) (ap slots_of (sym rows))
          (subst (EachSlotOnce (slots_of i.rows.items)) (sym free)
          (slot_more (slots_of i.rows.items) i.free.items total (omega (arith, all, length-map i.rows.items (λ (r : Slotted). r.slot))) c.self.invariant.slots));
      rows_room = omega (arith, rows_long, free_long, all, c.in_ok-reserve.ensures.ok, c.reserve.ensures.len, c.len-3.ensures, i.rows.ok.0, i.free.ok.0);
      free_room = omega (arith, rows_long, free_long, all, c.in_ok-reserve-2.ensures.ok, c.reserve-2.ensures.len, c.len-4.ensures, c.push_reserved.ensures.capacity, c.reserve.ensures.len, i.rows.ok.0, i.free.ok.0);
      few = omega (arith, rows_long, free_long, all, c.if-slots.false);
    }
