use Rattle.std.proofs.Common.{◌≡◌, ◌+◌, ◌<◌, ◌≤◌, ◌^◌, ◌++◌, List, drop, length, take, ap, sym, ◌∙◌, subst, arith}
use Rattle.std.specs.List.{slice_get}
use Rattle.std.specs.Vec.{vec_capacity}
use Rattle.std.proofs.lemmas.List.{length-map, take-append-le, take_all}
use Rattle.plain_cluster.specs.Entries.{EachSlotOnce, RowList, Slotted, slots_of}
use Rattle.plain_cluster.specs.Repricing.{priced}
use Rattle.plain_cluster.proofs.Repriced.{priced_slots}
use Rattle.plain_cluster.proofs.rows.Rows.reprice.Goals as goal

pub reprice_rows-requires-clause-each : goal.reprice_rows-requires-clause-each
reprice_rows-requires-clause-each c = λ place r h. c.requires place r
    (ap (λ (v : RowList). slice_get v.rows place) (sym c.self.view_is) ∙ (ap (λ (xs : List Slotted). slice_get xs place) (sym c.deref_mut.ensures.value) ∙ h))

pub invariant_of-self : goal.invariant_of-self
invariant_of-self c =
    let i = c.self.inside in
    let new = c.reprice_rows.new.rows in
    let f = priced c.args.counts.now c.args.now in
    let rows = c.reprice_rows.ensures.rows in
    let same = c.deref_mut.ensures.value in
    let slots : slots_of new ≡ slots_of i.rows.items = ap slots_of rows ∙ (priced_slots c.args.counts.now c.args.now c.deref_mut.result.now ∙ ap slots_of same) in
    let long : length new ≡ length i.rows.items = ap length rows ∙ (length-map c.deref_mut.result.now f ∙ ap length same) in
    let n = i.rows.len in
    let rest = drop (length new) i.rows.items in
    let whole : take n (new ++ rest) ≡ new = take-append-le n new rest (omega (arith, long, i.rows.ok.0)) ∙ take_all n new (omega (arith, long, i.rows.ok.0)) in
    record {
      slots = subst (λ (xs : List Slotted). EachSlotOnce (slots_of xs) i.free.items) (sym whole) (subst (λ ks. EachSlotOnce ks i.free.items) (sym slots) c.self.invariant.slots);
      rows_room = subst (λ (xs : List Slotted). length xs + length i.free.items ≤ vec_capacity i.rows) (sym whole) (omega (arith, long, c.self.invariant.rows_room));
      free_room = subst (λ (xs : List Slotted). length xs + length i.free.items ≤ vec_capacity i.free) (sym whole) (omega (arith, long, c.self.invariant.free_room));
      few = subst (λ (xs : List Slotted). length xs + length i.free.items < 2 ^ 32) (sym whole) (omega (arith, long, c.self.invariant.few));
    }
