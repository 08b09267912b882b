-- A lane with no entries stands, and follows the queue with none.
use Rattle.std.proofs.Common.{◌≡◌, ℕ, zero, suc, ◌*◌, List, [], Option, None, get_or, length, replicate, refl, sym, ap, ◌∙◌, subst, arith}
use Rattle.std.proofs.lemmas.List.{length-replicate}
use Rattle.std.proofs.lemmas.List.Folds.{sum_by-replicate}
use Rattle.sched_base.specs.declared.Bucket.{Bucket}
use Rattle.flat_policy.specs.Policy.Queue.{Clutch, clutch_place, empty_flat, no_spans}
use Rattle.flat_policy.specs.Policy.Usage.{Spans}
use Rattle.link_arena.specs.Arena.{Arena}
use Rattle.pairing_heap.specs.Heap.{times_of}
use Rattle.pairing_heap.specs.Laws.{FirstIsLeast, StandsWhenEmpty}
use Rattle.thread_queue.specs.Item.{key_of_item, key_precedes}
use Rattle.thread_queue.specs.Queue.{HasSlot, LacksSlot, Queue, members}
use Rattle.thread_queue.specs.declared.item.Item.{Item}
use Rattle.thread_queue.specs.declared.item.ItemKey.{ItemKey}
use Rattle.clutch_bucket.specs.Lane.{Follows, LacksLaneSlot, Lane, LaneStands, UnitFollows, UnitStands, no_queue, rank_pri, rank_turn, slot_top, spans_at, unit_of}
use Rattle.clutch_bucket.specs.declared.ranks.UnitKey.{UnitKey}
use Rattle.clutch_bucket.proofs.Members.{no_member}

-- a list of one value has it everywhere
same_all : {X : Type 0} (n i : ℕ) (x : X) → get_or (replicate n x) i x ≡ x
same_all zero i x = refl
same_all (suc n) zero x = refl
same_all (suc n) (suc i) x = same_all n i x

-- so many units with no entries
abbrev pub empty_lane : Bucket → ℕ → Lane
empty_lane bucket n = record { bucket = bucket; queues = replicate n no_queue; spans = replicate n no_spans; ranks = replicate n None; len = 0 }

module _ (empty : StandsWhenEmpty 0 key_of_item key_precedes) (least : FirstIsLeast 0 key_of_item key_precedes) (arena : Arena Item) where
  no_members : members arena no_queue ≡ []
  no_members = (least arena None (empty (omega arith) arena)).none.0 refl

  has_none : (slot : ℕ) → HasSlot arena no_queue slot → ⊥
  has_none slot has = let zero_times = ap (λ (xs : List (ItemKey × ℕ)). times_of xs slot) no_members in omega (arith, zero_times, has)

  pub empty_lacks : (bucket : Bucket) (n slot : ℕ) → LacksLaneSlot arena (empty_lane bucket n) slot
  empty_lacks bucket n slot = λ h within. subst (λ (q : Queue). LacksSlot arena q slot) (sym (same_all n h no_queue)) (ap (λ (xs : List (ItemKey × ℕ)). times_of xs slot) no_members)

  empty_unit : (k : Clutch) → UnitStands arena k no_queue
  empty_unit k = record {
    stands = record { heap = empty (omega arith) arena; counted = ap (λ (xs : List (ItemKey × ℕ)). length xs) (sym no_members) };
    each = λ slot item has. absurd (has_none slot has);
  }

  pub empty_stands : (bucket : Bucket) (n : ℕ) → LaneStands arena (empty_lane bucket n)
  empty_stands bucket n = record {
    units = record {
      spans = length-replicate n no_spans ∙ sym (length-replicate n no_queue);
      ranks = (let none : Option UnitKey = None in length-replicate n none ∙ sym (length-replicate n no_queue));
      each = λ h within. subst (λ (q : Queue). UnitStands arena (unit_of (empty_lane bucket n) h) q) (sym (same_all n h no_queue)) (empty_unit (unit_of (empty_lane bucket n) h));
      counted = (let sum = sum_by-replicate (λ (q : Queue). q.count) n no_queue in omega (arith, sum));
    };
    ranks = λ h within.
        ap rank_pri (let none : Option UnitKey = None in same_all n h none)
        ∙ sym (ap (λ (q : Queue). slot_top arena bucket (spans_at (empty_lane bucket n) h) q.root) (same_all n h no_queue));
  }

  empty_follow : (n : ℕ) (k : Clutch) → UnitFollows arena no_queue no_spans (empty_flat n) k
  empty_follow n k = record {
    entries = record { there = λ slot item has. absurd (has_none slot has); back = λ entry c. absurd (no_member entry c) };
    count = refl;
    apart = λ slot other item rival has. absurd (has_none slot has);
    spans = same_all (n * 6) (clutch_place k) no_spans;
  }

  pub empty_follows : (bucket : Bucket) (n : ℕ) → Follows arena (empty_lane bucket n) (empty_flat n)
  empty_follows bucket n = record {
    stands = empty_stands bucket n;
    units = record {
      each = λ h within.
          subst (λ (q : Queue). UnitFollows arena q (spans_at (empty_lane bucket n) h) (empty_flat n) (unit_of (empty_lane bucket n) h)) (sym (same_all n h no_queue))
          (subst (λ (u : Spans). UnitFollows arena no_queue u (empty_flat n) (unit_of (empty_lane bucket n) h)) (sym (same_all n h no_spans)) (empty_follow n (unit_of (empty_lane bucket n) h)));
      len = refl;
      span_places = length-replicate (n * 6) no_spans ∙ ap (λ (m : ℕ). m * 6) (sym (length-replicate n no_queue));
      turn_places = (let none : Option ℕ = None in length-replicate (n * 6) none) ∙ ap (λ (m : ℕ). m * 6) (sym (length-replicate n no_queue));
    };
    turns = λ h within.
        (let none : Option ℕ = None in same_all (n * 6) (clutch_place (unit_of (empty_lane bucket n) h)) none)
        ∙ sym (ap rank_turn (let none : Option UnitKey = None in same_all n h none));
  }
