-- A queue whose slots are priced anew, one after the other of a walk.
use Rattle.std.proofs.Common.{◌≡◌, ◌≢◌, ℕ, ◌+◌, ◌≤◌, ◌<◌, ◌==◌, Bool, true, false, cond, List, ◌∷◌, Option, Some, length, refl, sym, ap, ◌∙◌, subst, inl, inr, arith, eq-eqb, length-append}
use Rattle.std.specs.Prelude.{count_by}
use Rattle.std.proofs.lemmas.Bool.{cases_eq, ne_eqb}
use Rattle.std.proofs.lemmas.List.Sums.{count_by-le-length, sum_by-cons}
use Rattle.sched_base.specs.Limits.{most_base}
use Rattle.link_arena.specs.Arena.{Arena, links_at, value_at}
use Rattle.pairing_heap.specs.Laws.{HeldAreLive}
use Rattle.pairing_heap.specs.Tree.{Tree, leaf, node, pairs, slots}
use Rattle.thread_queue.specs.Item.{key_of_item, key_precedes, settled_item}
use Rattle.thread_queue.specs.Laws.{QueuesApart, SettledStaysApart, SlotsStandOnce, StaysApart, WalkCountsSlots}
use Rattle.thread_queue.specs.Queue.{HasSlot, LacksSlot, Queue, StandsIn, members, times_in, walk_of}
use Rattle.thread_queue.specs.declared.item.Item.{Item}
use Rattle.clutch_bucket.specs.Repricing.{RepricesSlot, changed_in, changes_pri, pri_at, repriced_item, usage_at}
use Rattle.clutch_bucket.proofs.Units.{has_or_lacks, not_both, one_item}

-- how often a slot stands in a list
abbrev pub times_among : ℕ → List ℕ → ℕ
times_among slot slots = count_by (λ other. other == slot) slots

-- as many of the slots change their priority, by the values of an arena
abbrev pub changed_among : Arena Item → ℕ → ℕ → List ℕ → ℕ
changed_among old count now slots = count_by (λ slot. changes_pri count now (value_at old slot)) slots

-- the slots of the queue but for the rest are priced anew
pub record RepricedBut (old new : Arena Item) (queue later : Queue) (now : ℕ) (rest : List ℕ) (told : ℕ) : Type 0 where
  pub stands : StandsIn new later
  pub count : later.count ≡ queue.count
  pub slots : (slot : ℕ) → times_in new later slot ≡ times_in old queue slot
  pub once : (slot : ℕ) → times_among slot rest ≤ times_in old queue slot
  pub waiting : (slot : ℕ) → 0 < times_among slot rest → value_at new slot ≡ value_at old slot
  pub done : (slot : ℕ) (item : Item) → HasSlot old queue slot → times_among slot rest ≡ 0 → value_at old slot ≡ Some item → value_at new slot ≡ Some (repriced_item queue.count now item)
  pub small : (slot : ℕ) (item : Item) → HasSlot old queue slot → times_among slot rest ≡ 0 → value_at old slot ≡ Some item → pri_at queue.count now item ≤ most_base
  pub others : (slot : ℕ) → LacksSlot old queue slot → value_at new slot ≡ value_at old slot
  pub second : (slot : ℕ) → links_at new 1 slot ≡ links_at old 1 slot
  pub spare : new.spare ≡ old.spare
  pub queues : (other : Queue) → StandsIn old other → QueuesApart old queue other → StaysApart old new later other
  pub changed : told + changed_among old queue.count now rest ≡ changed_in old queue now
  pub most : told + length rest ≤ queue.count

-- a walk has as many slots as the tree has pairs
slots_length : {X : Type 0} (t : Tree X) → length (slots t) ≡ length (pairs t)
slots_length leaf = refl
slots_length (node key slot children rest) =
    let a = slots_length children in
    let b = slots_length rest in
    let c = length-append (slots children) (slots rest) in
    let d = length-append (pairs children) (pairs rest) in
    omega (arith, a, b, c, d)

pub walk_length : (old : Arena Item) (queue : Queue) → StandsIn old queue → length (walk_of old queue) ≡ queue.count
walk_length old queue stands = slots_length _ ∙ sym stands.counted

-- queues that share no slot share none the other way round
pub apart_back : (arena : Arena Item) (queue other : Queue) → QueuesApart arena queue other → QueuesApart arena other queue
apart_back arena queue other apart = λ slot has.
    elim (has_or_lacks arena queue slot) [
      | inl both ↦ absurd (not_both arena other slot has (apart slot both))
      | inr lacks ↦ lacks
    ]

-- a queue with a slot counts one at least
pub counts_some : (arena : Arena Item) (queue : Queue) (slot : ℕ) → StandsIn arena queue → HasSlot arena queue slot → 1 ≤ queue.count
counts_some arena queue slot stands has = let most = count_by-le-length (λ pair. pair.1 == slot) (members arena queue) in omega (arith, most, has, stands.counted)

-- nothing is priced anew at first
pub reprices_begin : WalkCountsSlots → (old : Arena Item) (queue : Queue) (now : ℕ) → StandsIn old queue → RepricedBut old old queue queue now (walk_of old queue) 0
reprices_begin walk old queue now stands = record {
  stands = stands;
  count = refl;
  slots = λ slot. refl;
  once = λ slot. (let w = walk old queue slot in omega (arith, w));
  waiting = λ slot some. refl;
  done = λ slot item has none stored. (let w = walk old queue slot in absurd (omega (arith, w, none, has)));
  small = λ slot item has none stored. (let w = walk old queue slot in absurd (omega (arith, w, none, has)));
  others = λ slot lacks. refl;
  second = λ slot. refl;
  spare = refl;
  queues = λ other there apart. record { stays = record { stands = there; same = refl }; apart = apart; back = apart_back old queue other apart };
  changed = (let all : changed_among old queue.count now (walk_of old queue) ≡ changed_in old queue now = refl in omega (arith, all));
  most = (let w = walk_length old queue stands in omega (arith, w));
}

-- a count of the first and the rest of a list
pub count_cons : {X : Type 0} (p : X → Bool) (x : X) (xs : List X) → count_by p (x ∷ xs) ≡ cond (p x) 1 0 + count_by p xs
count_cons p x xs = sum_by-cons (λ y. cond (p y) 1 0) x xs

-- a slot among the first and the rest of a list
among_here : (slot : ℕ) (rest : List ℕ) → times_among slot (slot ∷ rest) ≡ 1 + times_among slot rest
among_here slot rest = count_cons (λ other. other == slot) slot rest ∙ ap (λ (b : Bool). cond b 1 0 + times_among slot rest) (eq-eqb slot slot refl)

among_later : (slot other : ℕ) (rest : List ℕ) → slot ≢ other → times_among other (slot ∷ rest) ≡ times_among other rest
among_later slot other rest n =
    let first = count_cons (λ o. o == other) slot rest in
    let none = ap {B = ℕ} (λ (b : Bool). cond b 1 0) (ne_eqb slot other n) in
    omega (arith, first, none)

-- the slot at hand is one of the queue's, and its value is as it was
pub at_hand : (old mid : Arena Item) (queue at : Queue) (now : ℕ) (slot : ℕ) (rest : List ℕ) (changed : ℕ) → RepricedBut old mid queue at now (slot ∷ rest) changed
    → HasSlot old queue slot × (HasSlot mid at slot × (value_at mid slot ≡ value_at old slot))
at_hand old mid queue at now slot rest changed r =
    let here = among_here slot rest in
    let once = r.once slot in
    let same = r.slots slot in
    (omega (arith, here, once), (omega (arith, here, once, same), r.waiting slot (omega (arith, here))))

one_most : (b : Bool) → cond {A = ℕ} b 1 0 ≤ 1
one_most true = omega arith
one_most false = omega arith

-- one more slot is priced anew
pub reprices_step : HeldAreLive 0 key_of_item key_precedes → SettledStaysApart → SlotsStandOnce → (old mid new : Arena Item) (queue at later : Queue) (now : ℕ) (slot : ℕ) (rest : List ℕ) (changed : ℕ)
    → StandsIn old queue → RepricedBut old mid queue at now (slot ∷ rest) changed → RepricesSlot mid new at later slot queue.count now
    → RepricedBut old new queue later now rest (changed + cond (changes_pri queue.count now (value_at mid slot)) 1 0)
reprices_step live law once old mid new queue at later now slot rest changed stands r s =
    let hand = at_hand old mid queue at now slot rest changed r in
    let here = among_here slot rest in
    let alone : times_among slot rest ≡ 0 = (let a = r.once slot in let b = once old queue stands slot in omega (arith, here, a, b)) in
    let settles = s.settles in
    let rekeys = settles.rekeys in
    record {
      stands = settles.stands;
      count = settles.count ∙ r.count;
      slots = λ other. settles.slots other ∙ r.slots other;
      once = λ other. (let a = r.once other in elim (cases_eq slot other) [
        | inl e ↦ subst (λ (o : ℕ). times_among o rest ≤ times_in old queue o) e (omega (arith, alone))
        | inr n ↦ (let b = among_later slot other rest n in omega (arith, a, b))
      ]);
      waiting = λ other some. elim (cases_eq other slot) [
        | inl e ↦ absurd (let z = subst (λ (o : ℕ). 0 < times_among o rest) e some in omega (arith, z, alone))
        | inr n ↦ rekeys.values other n ∙ r.waiting other (let b = among_later slot other rest (λ e. n (sym e)) in omega (arith, b, some))
      ];
      done = λ other item has none stored. elim (cases_eq other slot) [
        | inl e ↦ (
            let was = subst (λ (o : ℕ). value_at old o ≡ Some item) e stored in
            let alike = one_item mid slot s.item item s.was (hand.1.1 ∙ was) in
            let same = one_item mid slot settles.item item settles.was (hand.1.1 ∙ was) in
            ap (value_at new) e ∙ (rekeys.stored
            ∙ (ap (λ (i : Item). Some (settled_item (usage_at now s.item) now (pri_at queue.count now s.item) i)) same
            ∙ ap (λ (i : Item). Some (settled_item (usage_at now i) now (pri_at queue.count now i) item)) alike)))
        | inr n ↦ rekeys.values other n ∙ r.done other item has (among_later slot other rest (λ e. n (sym e)) ∙ none) stored
      ];
      small = λ other item has none stored. elim (cases_eq other slot) [
        | inl e ↦ subst (λ (i : Item). pri_at queue.count now i ≤ most_base)
            (one_item mid slot s.item item s.was (hand.1.1 ∙ subst (λ (o : ℕ). value_at old o ≡ Some item) e stored)) s.small
        | inr n ↦ r.small other item has (among_later slot other rest (λ e. n (sym e)) ∙ none) stored
      ];
      others = λ other lacks. rekeys.values other (λ e. not_both old queue slot hand.0 (subst (λ (o : ℕ). LacksSlot old queue o) e lacks)) ∙ r.others other lacks;
      second = λ other. rekeys.other_set 1 other (λ e. omega (arith, e)) ∙ r.second other;
      spare = rekeys.spare ∙ r.spare;
      queues = λ other there apart. (
          let one = r.queues other there apart in
          let two = law mid new at later slot (usage_at now s.item) now (pri_at queue.count now s.item) (live mid at.root slot r.stands.heap hand.1.0) r.stands settles other one.stays.stands one.apart in
          record { stays = record { stands = two.stays.stands; same = two.stays.same ∙ one.stays.same }; apart = two.apart; back = two.back });
      changed = (
          let all = r.changed in
          let first = count_cons (λ o. changes_pri queue.count now (value_at old o)) slot rest in
          let same = ap (λ (o : Option Item). cond {A = ℕ} (changes_pri queue.count now o) 1 0) hand.1.1 in
          omega (arith, all, first, same));
      most = (
          let all = r.most in
          let one = one_most (changes_pri queue.count now (value_at mid slot)) in
          omega (arith, all, one));
    }
