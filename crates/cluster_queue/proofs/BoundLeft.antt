-- A bound queue that a slot left holds the entries without the slot's.
use Rattle.std.proofs.Common.{◌≡◌, ◌≢◌, ℕ, ◌==◌, Bool, true, List, Some, filter, sym, ap, ◌∙◌, subst, inl, inr, arith}
use Rattle.std.proofs.lemmas.Bool.{cond-false, ne_eqb}
use Rattle.flat_policy.specs.Policy.Moves.{without}
use Rattle.flat_policy.specs.Policy.Queue.{Queued}
use Rattle.link_arena.specs.Arena.{Arena, value_at}
use Rattle.thread_queue.specs.Item.{entry_of}
use Rattle.thread_queue.specs.Queue.{HasSlot, LacksSlot, Queue, Removes}
use Rattle.thread_queue.specs.declared.item.Item.{Item}
use Rattle.cluster_queue.specs.Heaps.{BoundFollows}
use Rattle.cluster_queue.proofs.Slots.{one_item}
use Rattle.cluster_queue.proofs.Splits.{Splits, left_member, member_stays, one_less}
use Rattle.cluster_queue.proofs.Members.{filter_has, kept_member}

module _ (old new : Arena Item) (queue later : Queue) (slot : ℕ) (removes : Removes old new queue later slot) where
  -- each other slot stays
  remained : (other : ℕ) → HasSlot new later other → HasSlot old queue other
  remained other has = omega (arith, removes.slots other, has)

  remains : (other : ℕ) → slot ≢ other → HasSlot old queue other → HasSlot new later other
  remains other n has =
      let none = cond-false {A = ℕ} (slot == other) 1 0 (ne_eqb slot other n) in
      omega (arith, removes.slots other, none, has)

  pub bound_left : (item : Item) (p : Queued → Bool) (es : List Queued) → Splits es (entry_of item) → p (entry_of item) ≡ true → LacksSlot new later slot → value_at old slot ≡ Some item
      → BoundFollows old queue (filter p es) → BoundFollows new later (filter p (without item.arrival es))
  bound_left item p es at is_one lacks stored f =
      let e = entry_of item in
      let values = removes.takes.kept.values in
      record {
        stands = removes.stands;
        entries = record {
          there = λ other rival has kept. (
              let before = remained other has in
              let was = sym (values other) ∙ kept in
              let m = kept_member p es (entry_of rival) (f.entries.there other rival before was) in
              elim (member_stays es e at (entry_of rival) m.0) [
                | inl is ↦ absurd (
                    let alike : item.arrival ≡ rival.arrival = ap (λ (q : Queued). q.arrival) is in
                    let here = subst (λ (n : ℕ). HasSlot new later n) (sym (f.apart slot other item rival removes.takes.held before stored was alike)) has in
                    omega (arith, here, lacks))
                | inr d ↦ filter_has p (without item.arrival es) (entry_of rival) d m.1
              ]);
          back = λ entry c. (
              let m = kept_member p (without item.arrival es) entry c in
              let n = left_member item.arrival es entry m.0 in
              let from = f.entries.back entry (filter_has p es entry n.0 m.1) in
              let other : slot ≢ from.0 = λ same. n.1 (ap (λ (q : Queued). q.arrival) (sym from.2.2)
              ∙ ap (λ (i : Item). i.arrival) (one_item old from.0 from.1 item from.2.1 (ap (value_at old) (sym same) ∙ stored))) in
              (from.0, from.1, (remains from.0 other from.2.0, values from.0 ∙ from.2.1, from.2.2)));
        };
        count = omega (arith, removes.count, f.count, one_less es e at p is_one);
        apart = λ one two x y hx hy vx vy alike.
            f.apart one two x y (remained one hx) (remained two hy) (sym (values one) ∙ vx) (sym (values two) ∙ vy) alike;
      }
