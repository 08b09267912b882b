use Rattle.std.proofs.Common.{◌≡◌, ◌<◌, ◌++◌, ◌∷◌, [], ℕ, Some, length, ap, sym, subst, ◌∙◌, arith}
use Rattle.std.specs.List.{remove}
use Rattle.std.proofs.lemmas.List.{length-map, length_push}
use Rattle.std.proofs.lemmas.List.Edits.{length-remove}
use Rattle.flat_policy.specs.Policy.Queue.{Queued}
use Rattle.plain_cluster.specs.Entries.{EachSlotOnce, RowList, Slotted, entry_at, slots_of}
use Rattle.plain_cluster.proofs.Slots.{entry_is, slot_freed, slots_removed, taken_at}
use Rattle.plain_cluster.proofs.rows.Rows.remove.Goals as goal

pub invariant_of-self : goal.invariant_of-self
invariant_of-self c =
    let i = c.self.inside in
    let within : c.args.place < length i.rows.items = omega (arith, c.requires, ap (λ (v : RowList). length v.rows) c.self.view_is) in
    let free : c.push_reserved.new.self.items ≡ i.free.items ++ c.remove-row.result.slot ∷ [] =
    c.push_reserved.ensures.items ∙ ap (λ (k : ℕ). i.free.items ++ k ∷ []) c.slot.ensures in
    let taken : slots_of c.remove-row.new.self.items ≡ remove (slots_of i.rows.items) c.args.place =
    ap slots_of c.remove-row.ensures.items ∙ slots_removed i.rows.items c.args.place in
    let rows_long = ap length c.remove-row.ensures.items in
    let fewer = length-remove i.rows.items c.args.place within in
    let free_long = ap length free ∙ length_push i.free.items c.remove-row.result.slot in
    record {
      slots = subst (λ ts. EachSlotOnce ts c.push_reserved.new.self.items) (sym taken)
          (subst (EachSlotOnce (remove (slots_of i.rows.items) c.args.place)) (sym free)
          (slot_freed (slots_of i.rows.items) i.free.items c.args.place c.remove-row.result.slot
          (omega (arith, within, length-map i.rows.items (λ (r : Slotted). r.slot)))
          (taken_at i.rows.items c.args.place c.remove-row.result within c.remove-row.ensures.value)
          c.self.invariant.slots));
      rows_room = omega (arith, rows_long, fewer, free_long, c.remove-row.ensures.capacity, c.self.invariant.rows_room);
      free_room = omega (arith, rows_long, fewer, free_long, c.push_reserved.ensures.capacity, c.self.invariant.free_room);
      few = omega (arith, rows_long, fewer, free_long, c.self.invariant.few);
    }

pub returns-clause-thread : goal.returns-clause-thread
returns-clause-thread c = λ e h. c.into_thread.ensures ∙ ap (λ (q : Queued). q.facts) (entry_is c.self.inside.rows.items c.args.place c.remove-row.result e c.remove-row.ensures.value (ap (λ (v : RowList). entry_at v.rows (Some c.args.place)) c.self.view_is ∙ h))
