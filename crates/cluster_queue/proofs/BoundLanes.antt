-- The queue of a bound lane, where it stays and where a slot is pushed.
use Rattle.std.proofs.Common.{◌≡◌, ◌≢◌, ◌⊎◌, ℕ, ◌+◌, Bool, cond, Contains, List, [], ◌∷◌, ◌++◌, Some, is_some, sym, ap, ◌∙◌, subst, inl, inr, arith}
use Rattle.std.proofs.lemmas.Bool.{cases_eq, ne_eqb}
use Rattle.std.proofs.lemmas.List.{length_push}
use Rattle.std.proofs.lemmas.List.Elements.{Contains-append_left, Contains-push, Contains-push_cases}
use Rattle.flat_policy.specs.Policy.Queue.{Queued}
use Rattle.link_arena.specs.Arena.{Arena, value_at}
use Rattle.thread_queue.specs.Item.{entry_of}
use Rattle.thread_queue.specs.Laws.{PushedIsHeld, StaysIn}
use Rattle.thread_queue.specs.Queue.{HasSlot, Pushes, Queue}
use Rattle.thread_queue.specs.declared.item.Item.{Item}
use Rattle.cluster_queue.specs.Heaps.{BoundFollows}
use Rattle.cluster_queue.proofs.Slots.{one_item}
use Rattle.cluster_queue.proofs.Staying.{bound_kept}

-- all values stay
abbrev pub AllStay : Arena Item → Arena Item → Type 0
AllStay old new = (slot : ℕ) → value_at new slot ≡ value_at old slot

-- the queue stands for the same entries where it stays, with all values
pub bound_stays : (old new : Arena Item) (queue : Queue) (es : List Queued) → AllStay old new → StaysIn old new queue → BoundFollows old queue es → BoundFollows new queue es
bound_stays old new queue es values stays f = bound_kept old new queue es (record { stays = stays; values = λ slot has. values slot }) f

module _ (old new : Arena Item) (queue later : Queue) (slot : ℕ) (pushes : Pushes old new queue later slot) where
  -- a slot is the one that came, or was there
  came_or_was : (other : ℕ) → HasSlot new later other → (other ≡ slot) ⊎ HasSlot old queue other
  came_or_was other has = elim (cases_eq slot other) [
    | inl e ↦ inl (sym e)
    | inr n ↦ inr (omega (arith, has, pushes.slots other, ap {B = ℕ} (λ (b : Bool). cond b 1 0) (ne_eqb slot other n)))
  ]

  still_has : (other : ℕ) → HasSlot old queue other → HasSlot new later other
  still_has other has = omega (arith, has, pushes.slots other)

-- the queue stands for one entry more where the slot of an item of another arrival was pushed
pub bound_pushed : PushedIsHeld → (old new : Arena Item) (queue later : Queue) (slot : ℕ) (item : Item) (es : List Queued) → Pushes old new queue later slot → value_at old slot ≡ Some item
    → ((e : Queued) → Contains es e → e.arrival ≢ item.arrival) → BoundFollows old queue es → BoundFollows new later (es ++ entry_of item ∷ [])
bound_pushed held old new queue later slot item es pushes stored fresh f =
    let more = es ++ entry_of item ∷ [] in
    let values = pushes.adds.kept.values in
    let was = λ (other : ℕ) (rival : Item) (h : value_at new other ≡ Some rival). sym (values other) ∙ h in
    let is_item = λ (other : ℕ) (rival : Item) (e : other ≡ slot) (h : value_at new other ≡ Some rival).
    one_item old slot item rival stored (ap (value_at old) (sym e) ∙ was other rival h) in
    let unlike = λ (other : ℕ) (rival : Item) (has : HasSlot old queue other) (h : value_at new other ≡ Some rival).
    fresh (entry_of rival) (f.entries.there other rival has (was other rival h)) in
    record {
      stands = pushes.stands;
      entries = record {
        there = λ other rival has h. elim (came_or_was old new queue later slot pushes other has) [
          | inl e ↦ subst (λ (i : Item). Contains more (entry_of i)) (is_item other rival e h) (Contains-push es (entry_of item))
          | inr before ↦ Contains-append_left es (entry_of item ∷ []) (entry_of rival) (f.entries.there other rival before (was other rival h))
        ];
        back = λ e c. elim (Contains-push_cases es (entry_of item) e c) [
          | inl d ↦ (let b = f.entries.back e d in (b.0, b.1, (still_has old new queue later slot pushes b.0 b.2.0, values b.0 ∙ b.2.1, b.2.2)))
          | inr is ↦ (slot, item, (held old new queue later slot (ap is_some stored) pushes, values slot ∙ stored, is))
        ];
      };
      count = pushes.count ∙ (ap (λ (n : ℕ). n + 1) f.count ∙ sym (length_push es (entry_of item)));
      apart = λ one two x y hx hy vx vy same. elim (came_or_was old new queue later slot pushes one hx) [
        | inl e ↦ elim (came_or_was old new queue later slot pushes two hy) [
          | inl also ↦ e ∙ sym also
          | inr before ↦ absurd (unlike two y before vy (sym same ∙ ap (λ (i : Item). i.arrival) (sym (is_item one x e vx))))
        ]
        | inr before ↦ elim (came_or_was old new queue later slot pushes two hy) [
          | inl also ↦ absurd (unlike one x before vx (same ∙ ap (λ (i : Item). i.arrival) (sym (is_item two y also vy))))
          | inr both ↦ f.apart one two x y before both (was one x vx) (was two y vy) same
        ]
      ];
    }
