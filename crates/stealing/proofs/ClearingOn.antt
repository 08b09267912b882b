-- The heaps of the clusters below a number are cleared, and then all.
use Rattle.std.proofs.Common.{◌≡◌, ◌≢◌, ℕ, ◌+◌, ◌<◌, ◌≤◌, Option, None, length, sym, ap, ◌∙◌, subst, inl, inr, arith}
use Rattle.std.specs.Prelude.{replicate}
use Rattle.std.proofs.lemmas.Bool.{cases_eq, cases_lt}
use Rattle.std.proofs.lemmas.List.{get_or_past}
use Rattle.std.proofs.lemmas.List.Sums.{get_or-le-sum_by}
use Rattle.sched_base.specs.Limits.{most_clusters}
use Rattle.link_arena.specs.Arena.{Arena}
use Rattle.pairing_heap.specs.Heap.{pairs_at, times_of}
use Rattle.pairing_heap.specs.Laws.{FirstIsLeast, HeldAreLive, StandsWhenEmpty}
use Rattle.thread_queue.specs.Item.{foreign_key_of_item, foreign_precedes}
use Rattle.thread_queue.specs.declared.item.Item.{Item}
use Rattle.stealing.specs.Clearing.{ClearsBelow, ClearsOne}
use Rattle.stealing.specs.Foreign.{Clears, HasSlot, LacksSlot, Roots, StandsIn, heap_of, times_anywhere, times_in}
use Rattle.stealing.proofs.Clearing.{all_none, none_there}
use Rattle.stealing.proofs.Held.{apart, zero_or_some}

pub clears_next : HeldAreLive 1 foreign_key_of_item foreign_precedes → (old mid new : Arena Item) (foreign between later : Roots) (n : ℕ) → StandsIn old foreign → ClearsBelow old mid foreign between n → ClearsOne mid new between later n → ClearsBelow old new foreign later (n + 1)
clears_next live old mid new foreign between later n stands below one = record {
  stands = one.stands;
  none = λ to lt. elim (cases_eq to n) [
    | inl is ↦ ap (heap_of later) is ∙ one.none
    | inr unlike ↦ one.roots to unlike ∙ below.none to (omega (arith, lt, unlike))
  ];
  rest = λ to le slot. (let unlike : to ≢ n = λ same. absurd (omega (arith, le, same)) in
      one.others to unlike slot ∙ below.rest to (omega (arith, le)) slot);
  free = λ to slot lt held. elim (cases_eq to n) [
    | inl is ↦ one.free slot
        (subst (λ (k : ℕ). 0 < k) (sym (below.rest n (omega arith) slot)) (subst (λ (k : ℕ). HasSlot old foreign k slot) is held))
    | inr unlike ↦ one.kept.elsewhere slot (below.rest n (omega arith) slot ∙ apart live old foreign stands to n unlike slot held)
        ∙ below.free to slot (omega (arith, lt, unlike)) held
  ];
  elsewhere = λ slot lacks. one.kept.elsewhere slot (below.rest n (omega arith) slot ∙ lacks n) ∙ below.elsewhere slot lacks;
  values = λ slot. one.kept.values slot ∙ below.values slot;
  other_set = λ set slot unlike. one.kept.other_set set slot unlike ∙ below.other_set set slot unlike;
  spare = one.kept.spare ∙ below.spare;
}

-- a slot that stands nowhere stands in no heap
lacked_from_sum : FirstIsLeast 1 foreign_key_of_item foreign_precedes → StandsWhenEmpty 1 foreign_key_of_item foreign_precedes → (arena : Arena Item) (foreign : Roots) (slot : ℕ) → times_anywhere arena foreign slot ≡ 0 → LacksSlot arena foreign slot
lacked_from_sum least empty arena foreign slot nowhere = λ to. elim (cases_lt to (length foreign)) [
  | inl lt ↦ (let most = get_or-le-sum_by (λ (r : Option ℕ). times_of (pairs_at 1 foreign_key_of_item arena r) slot) foreign to None lt in
      omega (arith, most, nowhere))
  | inr past ↦ elim (zero_or_some (times_in arena foreign to slot)) [
    | inl none ↦ none
    | inr some ↦ absurd (none_there least empty arena foreign to slot (get_or_past foreign to None past) some)
  ]
]

pub clears_all : FirstIsLeast 1 foreign_key_of_item foreign_precedes → StandsWhenEmpty 1 foreign_key_of_item foreign_precedes → (old new : Arena Item) (foreign later : Roots) (n : ℕ) → StandsIn old foreign → most_clusters ≤ n → ClearsBelow old new foreign later n → Clears old new foreign
clears_all least empty old new foreign later n stands enough below = record {
  free = λ to slot held. elim (cases_lt to n) [
    | inl lt ↦ below.free to slot lt held
    | inr past ↦ absurd (none_there least empty old foreign to slot
        (get_or_past foreign to None (omega (arith, past, enough, stands.eight))) held)
  ];
  elsewhere = below.elsewhere;
  kept = record {
    values = below.values;
    other_set = below.other_set;
    elsewhere = λ slot nowhere. below.elsewhere slot (lacked_from_sum least empty old foreign slot nowhere);
    spare = below.spare;
  };
}

pub roots_none : (old new : Arena Item) (foreign later : Roots) (n : ℕ) → most_clusters ≤ n → ClearsBelow old new foreign later n → later ≡ replicate most_clusters None
roots_none old new foreign later n enough below =
    all_none later most_clusters below.stands.eight (λ to lt. below.none to (omega (arith, lt, enough)))
