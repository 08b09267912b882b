-- What a unit keeps where the arena changes, and what it has once a slot came in or went out.
use Rattle.std.proofs.Common.{◌≡◌, ◌≢◌, ◌⊎◌, ℕ, ◌+◌, ◌<◌, Bool, cond, Contains, List, [], ◌∷◌, ◌++◌, Option, Some, length, refl, sym, ap, ◌∙◌, subst, inl, inr, arith, eq-eqb, length-append}
use Rattle.std.proofs.lemmas.Bool.{cases_eq, ne_eqb}
use Rattle.std.proofs.lemmas.List.Elements.{Contains-append_left, Contains-push, Contains-push_cases}
use Rattle.flat_policy.specs.Policy.Queue.{Clutch, Flat, Queued, clutch_entries, spans_of}
use Rattle.flat_policy.specs.Policy.Usage.{Spans}
use Rattle.link_arena.specs.Arena.{Arena, value_at}
use Rattle.pairing_heap.specs.Heap.{times_of}
use Rattle.thread_queue.specs.Item.{entry_of}
use Rattle.thread_queue.specs.Laws.{StaysIn}
use Rattle.thread_queue.specs.Queue.{HasSlot, LacksSlot, Pushes, Queue, Removes, times_in}
use Rattle.thread_queue.specs.declared.item.Item.{Item}
use Rattle.thread_queue.specs.declared.item.ItemKey.{ItemKey}
use Rattle.clutch_bucket.specs.Lane.{UnitFollows, UnitItem, UnitStands}

-- one slot holds one item
pub one_item : (arena : Arena Item) (slot : ℕ) (x y : Item) → value_at arena slot ≡ Some x → value_at arena slot ≡ Some y → x ≡ y
one_item arena slot x y a b = let e : ◌≡◌ {A = Option Item} (Some x) (Some y) = sym a ∙ b in grind (arith, e)

-- a slot is one of a queue's, or none
pub has_or_lacks : (arena : Arena Item) (queue : Queue) (slot : ℕ) → HasSlot arena queue slot ⊎ LacksSlot arena queue slot
has_or_lacks arena queue slot =
    elim (cases_eq (times_in arena queue slot) 0) [
      | inl e ↦ inr e
      | inr n ↦ inl (omega (arith, n))
    ]

pub not_both : (arena : Arena Item) (queue : Queue) (slot : ℕ) → HasSlot arena queue slot → LacksSlot arena queue slot → ⊥
not_both arena queue slot has lacks = omega (arith, has, lacks)

-- a queue that stays has the same slots
pub had : (old new : Arena Item) (queue : Queue) (slot : ℕ) → StaysIn old new queue → HasSlot new queue slot → HasSlot old queue slot
had old new queue slot stays has = subst (λ (xs : List (ItemKey × ℕ)). 0 < times_of xs slot) stays.same has

pub has_still : (old new : Arena Item) (queue : Queue) (slot : ℕ) → StaysIn old new queue → HasSlot old queue slot → HasSlot new queue slot
has_still old new queue slot stays has = subst (λ (xs : List (ItemKey × ℕ)). 0 < times_of xs slot) (sym stays.same) has

pub lacks_still : (old new : Arena Item) (queue : Queue) (slot : ℕ) → StaysIn old new queue → LacksSlot old queue slot → LacksSlot new queue slot
lacks_still old new queue slot stays lacks = ap (λ (xs : List (ItemKey × ℕ)). times_of xs slot) stays.same ∙ lacks

-- the values at the queue's slots stay
abbrev pub ValuesStay : Arena Item → Arena Item → Queue → Type 0
ValuesStay old new queue = (slot : ℕ) → HasSlot old queue slot → value_at new slot ≡ value_at old slot

pub unit_stays : (old new : Arena Item) (k : Clutch) (queue : Queue) → StaysIn old new queue → ValuesStay old new queue → UnitStands old k queue → UnitStands new k queue
unit_stays old new k queue stays values unit = record {
  stands = stays.stands;
  each = λ slot item has stored. (let before = had old new queue slot stays has in unit.each slot item before (sym (values slot before) ∙ stored));
}

pub follows_still : (old new : Arena Item) (queue : Queue) (spans : Spans) (s next : Flat) (k : Clutch) → StaysIn old new queue → ValuesStay old new queue → clutch_entries next k ≡ clutch_entries s k → spans_of next k ≡ spans_of s k
    → UnitFollows old queue spans s k → UnitFollows new queue spans next k
follows_still old new queue spans s next k stays values entries same follows = record {
  entries = record {
    there = λ slot item has stored. (
        let before = had old new queue slot stays has in
        subst (λ (es : List Queued). Contains es (entry_of item)) (sym entries) (follows.entries.there slot item before (sym (values slot before) ∙ stored)));
    back = λ entry c. (
        let from = follows.entries.back entry (subst (λ (es : List Queued). Contains es entry) entries c) in
        (from.0, from.1, (has_still old new queue from.0 stays from.2.0, values from.0 from.2.0 ∙ from.2.1, from.2.2)));
  };
  count = follows.count ∙ ap (λ (es : List Queued). length es) (sym entries);
  apart = λ slot other item rival has rest here there alike. (
      let before = had old new queue slot stays has in
      let after = had old new queue other stays rest in
      follows.apart slot other item rival before after (sym (values slot before) ∙ here) (sym (values other after) ∙ there) alike);
  spans = same ∙ follows.spans;
}

-- a slot that was pushed, and those that were there
pub pushed_cases : (old new : Arena Item) (queue later : Queue) (slot other : ℕ) → Pushes old new queue later slot → HasSlot new later other → (slot ≡ other) ⊎ HasSlot old queue other
pushed_cases old new queue later slot other pushes has =
    elim (cases_eq slot other) [
      | inl e ↦ inl e
      | inr n ↦ (
          let times = pushes.slots other in
          let zero = ap {B = ℕ} (λ (b : Bool). cond b 1 0) (ne_eqb slot other n) in
          inr (omega (arith, times, zero, has)))
    ]

pub pushed_here : (old new : Arena Item) (queue later : Queue) (slot : ℕ) → Pushes old new queue later slot → HasSlot new later slot
pushed_here old new queue later slot pushes =
    let times = pushes.slots slot in
    let one = ap {B = ℕ} (λ (b : Bool). cond b 1 0) (eq-eqb slot slot refl) in
    omega (arith, times, one)

pub pushed_others : (old new : Arena Item) (queue later : Queue) (slot other : ℕ) → Pushes old new queue later slot → HasSlot old queue other → HasSlot new later other
pushed_others old new queue later slot other pushes has = let times = pushes.slots other in omega (arith, times, has)

pub unit_pushed : (old new : Arena Item) (k : Clutch) (queue later : Queue) (slot : ℕ) (item : Item) → Pushes old new queue later slot → value_at old slot ≡ Some item → UnitItem k item → UnitStands old k queue → UnitStands new k later
unit_pushed old new k queue later slot item pushes stored fits unit = record {
  stands = pushes.stands;
  each = λ other rival has there. (
      let before = sym (pushes.adds.kept.values other) ∙ there in
      elim (pushed_cases old new queue later slot other pushes has) [
        | inl e ↦ subst (UnitItem k) (one_item old other item rival (ap (value_at old) (sym e) ∙ stored) before) fits
        | inr h ↦ unit.each other rival h before
      ]);
}

longer : (xs ys : List Queued) (x : Queued) → ys ≡ xs ++ x ∷ [] → length xs + 1 ≡ length ys
longer xs ys x e = let more = length-append xs (x ∷ []) in let same = ap (λ (es : List Queued). length es) e in omega (arith, more, same)

pub follows_pushed : (old new : Arena Item) (queue later : Queue) (spans after : Spans) (slot : ℕ) (item : Item) (s next : Flat) (k : Clutch) → Pushes old new queue later slot → value_at old slot ≡ Some item
    → ((e : Queued) → Contains (clutch_entries s k) e → e.arrival ≢ item.arrival) → clutch_entries next k ≡ clutch_entries s k ++ entry_of item ∷ [] → spans_of next k ≡ after
    → UnitFollows old queue spans s k → UnitFollows new later after next k
follows_pushed old new queue later spans after slot item s next k pushes stored fresh entries is follows =
    let value = λ (other : ℕ) (rival : Item) (there : value_at new other ≡ Some rival). sym (pushes.adds.kept.values other) ∙ there in
    let alone = λ (other : ℕ) (rival : Item) (h : HasSlot old queue other) (there : value_at new other ≡ Some rival) (alike : rival.arrival ≡ item.arrival).
    fresh (entry_of rival) (follows.entries.there other rival h (value other rival there)) alike in
    let same = λ (other : ℕ) (rival : Item) (e : slot ≡ other) (there : value_at new other ≡ Some rival). one_item old other item rival (ap (value_at old) (sym e) ∙ stored) (value other rival there) in
    record {
      entries = record {
        there = λ other rival has there. subst (λ (es : List Queued). Contains es (entry_of rival)) (sym entries)
            (elim (pushed_cases old new queue later slot other pushes has) [
              | inl e ↦ subst (λ (i : Item). Contains (clutch_entries s k ++ entry_of item ∷ []) (entry_of i)) (same other rival e there) (Contains-push (clutch_entries s k) (entry_of item))
              | inr h ↦ Contains-append_left (clutch_entries s k) (entry_of item ∷ []) (entry_of rival) (follows.entries.there other rival h (value other rival there))
            ]);
        back = λ entry c. elim (Contains-push_cases (clutch_entries s k) (entry_of item) entry (subst (λ (es : List Queued). Contains es entry) entries c)) [
          | inl d ↦ (
              let from = follows.entries.back entry d in
              (from.0, from.1, (pushed_others old new queue later slot from.0 pushes from.2.0, pushes.adds.kept.values from.0 ∙ from.2.1, from.2.2)))
          | inr e ↦ (slot, item, (pushed_here old new queue later slot pushes, pushes.adds.kept.values slot ∙ stored, e))
        ];
      };
      count = pushes.count ∙ (ap (λ (n : ℕ). n + 1) follows.count ∙ longer (clutch_entries s k) (clutch_entries next k) (entry_of item) entries);
      apart = λ one two x y hx hy vx vy alike. elim (pushed_cases old new queue later slot one pushes hx) [
        | inl e ↦ elim (pushed_cases old new queue later slot two pushes hy) [
          | inl f ↦ sym e ∙ f
          | inr h ↦ absurd (alone two y h vy (sym alike ∙ ap (λ (i : Item). i.arrival) (sym (same one x e vx))))
        ]
        | inr g ↦ elim (pushed_cases old new queue later slot two pushes hy) [
          | inl f ↦ absurd (alone one x g vx (alike ∙ ap (λ (i : Item). i.arrival) (sym (same two y f vy))))
          | inr h ↦ follows.apart one two x y g h (value one x vx) (value two y vy) alike
        ]
      ];
      spans = is;
    }

-- a slot that was removed, and those that remain
pub removed_here : (old new : Arena Item) (queue later : Queue) (slot : ℕ) → (times_in old queue slot ≡ 1) → Removes old new queue later slot → LacksSlot new later slot
removed_here old new queue later slot once removes =
    let times = removes.slots slot in
    let one = ap {B = ℕ} (λ (b : Bool). cond b 1 0) (eq-eqb slot slot refl) in
    omega (arith, times, one, once)

pub remained : (old new : Arena Item) (queue later : Queue) (slot other : ℕ) → Removes old new queue later slot → HasSlot new later other → HasSlot old queue other
remained old new queue later slot other removes has = let times = removes.slots other in omega (arith, times, has)

pub remains : (old new : Arena Item) (queue later : Queue) (slot other : ℕ) → Removes old new queue later slot → slot ≢ other → HasSlot old queue other → HasSlot new later other
remains old new queue later slot other removes n has =
    let times = removes.slots other in
    let zero = ap {B = ℕ} (λ (b : Bool). cond b 1 0) (ne_eqb slot other n) in
    omega (arith, times, zero, has)

pub unit_removed : (old new : Arena Item) (k : Clutch) (queue later : Queue) (slot : ℕ) → Removes old new queue later slot → UnitStands old k queue → UnitStands new k later
unit_removed old new k queue later slot removes unit = record {
  stands = removes.stands;
  each = λ other rival has there. unit.each other rival (remained old new queue later slot other removes has) (sym (removes.takes.kept.values other) ∙ there);
}
