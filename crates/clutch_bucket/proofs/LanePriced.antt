-- A lane whose units are priced anew, one after the other.
use Rattle.std.proofs.Common.{◌≡◌, ◌≢◌, ℕ, ◌+◌, ◌≤◌, ◌<◌, ◌==◌, Bool, cond, Contains, List, [], ◌∷◌, ◌++◌, Option, Some, eq-eqb, map, set, refl, sym, ap, ◌∙◌, subst, inl, inr, arith}
use Rattle.std.specs.Prelude.{count_by}
use Rattle.std.proofs.lemmas.Bool.{cases_eq}
use Rattle.std.proofs.lemmas.List.{map-append}
use Rattle.std.proofs.lemmas.List.Sums.{get_or-le-sum_by}
use Rattle.link_arena.specs.Arena.{Arena, value_at}
use Rattle.pairing_heap.specs.Laws.{HeldAreLive}
use Rattle.pairing_heap.specs.Tree.{Tree, leaf, node, pairs, slots}
use Rattle.thread_queue.specs.Item.{key_of_item, key_precedes}
use Rattle.thread_queue.specs.Laws.{StaysIn, WalkCountsSlots}
use Rattle.pairing_heap.specs.Heap.{times_of}
use Rattle.thread_queue.specs.Queue.{HasSlot, LacksSlot, Queue, times_in, walk_of}
use Rattle.thread_queue.specs.declared.item.Item.{Item}
use Rattle.thread_queue.specs.declared.item.ItemKey.{ItemKey}
use Rattle.clutch_bucket.specs.Lane.{Lane, StaysFrom, UnitsStand, groups, no_queue, queue_at, spans_at}
use Rattle.clutch_bucket.specs.Repricing.{IsLeft, IsPriced, PricedUpTo, RepricesUnit, changed_in, changes_pri, repriced_item}
use Rattle.clutch_bucket.proofs.Lanes.{groups_changed, queue_here, queue_other}
use Rattle.clutch_bucket.proofs.Members.{first_member, later_member, member_cases, no_member}
use Rattle.clutch_bucket.proofs.PricedAnew.{count_cons}
use Rattle.clutch_bucket.proofs.UnitPriced.{PricesUnit, priced_others, priced_queues, priced_units, priced_values, requeued, requeued_is}
use Rattle.clutch_bucket.proofs.Units.{has_still, lacks_still}

-- a walk has the slots of the members
walk_is : {X : Type 0} (t : Tree X) → slots t ≡ map (λ (p : X × ℕ). p.1) (pairs t)
walk_is leaf = refl
walk_is {X} (node key slot children rest) =
    ap (λ (xs : List ℕ). slot ∷ (xs ++ slots rest)) (walk_is children)
    ∙ (ap (λ (xs : List ℕ). slot ∷ (map (λ (p : X × ℕ). p.1) (pairs children) ++ xs)) (walk_is rest)
    ∙ ap (λ (xs : List ℕ). slot ∷ xs) (sym (map-append (λ (p : X × ℕ). p.1) (pairs children) (pairs rest))))

pub walk_stays : (old new : Arena Item) (queue : Queue) → StaysIn old new queue → walk_of new queue ≡ walk_of old queue
walk_stays old new queue stays = walk_is _ ∙ (ap (λ (xs : List (ItemKey × ℕ)). map (λ (p : ItemKey × ℕ). p.1) xs) stays.same ∙ sym (walk_is _))

-- a member of a list counts
pub member_counts : (xs : List ℕ) (x : ℕ) → Contains xs x → 0 < count_by (λ other. other == x) xs
member_counts [] x c = absurd (no_member x c)
member_counts (y ∷ ys) x c =
    let first = count_cons (λ other. other == x) y ys in
    elim (member_cases y ys x c) [
      | inl is ↦ (let one = ap {B = ℕ} (λ (b : Bool). cond b 1 0) (eq-eqb y x is) in omega (arith, first, one))
      | inr d ↦ (let rest = member_counts ys x d in omega (arith, first, rest))
    ]

-- tests that agree on the members of a list count as many
pub count_same : {X : Type 0} (p q : X → Bool) (xs : List X) → ((x : X) → Contains xs x → p x ≡ q x) → count_by p xs ≡ count_by q xs
count_same p q [] each = refl
count_same p q (x ∷ xs) each =
    count_cons p x xs
    ∙ (ap (λ (b : Bool). cond b 1 0 + count_by p xs) (each x (first_member x xs))
    ∙ (ap (λ (n : ℕ). cond (q x) 1 0 + n) (count_same p q xs (λ y c. each y (later_member x xs y c))) ∙ sym (count_cons q x xs)))

-- as many priorities of a queue's slots change where the queue and its values stay
pub changed_stays : WalkCountsSlots → (old new : Arena Item) (queue later : Queue) (now : ℕ) → IsLeft old new queue later → changed_in new later now ≡ changed_in old queue now
changed_stays walk old new queue later now left =
    ap (λ (x : Queue). changed_in new x now) left.same
    ∙ (ap (λ (xs : List ℕ). count_by (λ slot. changes_pri queue.count now (value_at new slot)) xs) (walk_stays old new queue left.stays)
    ∙ count_same (λ slot. changes_pri queue.count now (value_at new slot)) (λ slot. changes_pri queue.count now (value_at old slot)) (walk_of old queue) (λ slot c.
    ap (λ (o : Option Item). changes_pri queue.count now o) (left.values slot (let some = member_counts (walk_of old queue) slot c in let same = walk old queue slot in omega (arith, some, same)))))

-- a queue is no longer than its lane
pub count_most : (arena : Arena Item) (at : Lane) (g : ℕ) → UnitsStand arena at → g < groups at → (queue_at at g).count ≤ at.len
count_most arena at g stands within = let most = get_or-le-sum_by (λ (q : Queue). q.count) at.queues g no_queue within in let counted = stands.counted in omega (arith, most, counted)

-- at first no unit is priced anew
pub prices_begin : (old : Arena Item) (before : Lane) (now : ℕ) → UnitsStand old before → PricedUpTo old old before before 0 now
prices_begin old before now stands = record {
  units = stands;
  same = refl;
  alike = refl;
  done = λ g inside below. absurd (omega (arith, below));
  left = λ g inside above. record { same = refl; stays = record { stands = (stands.each g inside).stands; same = refl }; values = λ slot has. refl };
  others = λ slot lacks. refl;
  second = λ slot. refl;
  spare = refl;
  queues = λ other there apart. record { stays = record { stands = there; same = refl }; apart = apart };
}

same_record : (before mid : Lane) (queues : List Queue) → mid ≡ record before { queues = mid.queues } → record mid { queues = queues } ≡ record before { queues = queues }
same_record before mid queues same = ap (λ (l : Lane). record l { queues = queues }) same

module _ (live : HeldAreLive 0 key_of_item key_precedes) (old mid new : Arena Item) (before at later : Lane) (g now : ℕ) (r : PricedUpTo old mid before at g now) (within : g < groups before) (u : RepricesUnit mid new at later g now) where
  inside : (h : ℕ) → h < groups before → h < groups at
  inside h below = subst (λ (m : ℕ). h < m) (sym r.alike) below

  e : PricesUnit mid new at g u.queue now
  e = record { held = live; stands = r.units; within = inside g within; reprices = u.reprices }

  is : later ≡ requeued at g u.queue
  is = u.is ∙ requeued_is at g u.queue

  here_is : queue_at later g ≡ u.queue
  here_is = ap (λ (l : Lane). queue_at l g) is ∙ queue_here at g u.queue (spans_at at g) at.len (inside g within)

  other_is : (h : ℕ) → h ≢ g → queue_at later h ≡ queue_at at h
  other_is h n = ap (λ (l : Lane). queue_at l h) is ∙ queue_other at g h u.queue (spans_at at g) at.len n

  was_left : IsLeft old mid (queue_at before g) (queue_at at g)
  was_left = r.left g within (omega arith)

  -- the unit at hand
  priced_now : IsPriced old new (queue_at before g) u.queue now
  priced_now =
      let left = was_left in
      let q = queue_at before g in
      let reprices = u.reprices in
      record {
        count = reprices.count ∙ ap (λ (x : Queue). x.count) left.same;
        slots = λ slot. reprices.slots slot ∙ (ap (λ (x : Queue). times_in mid x slot) left.same ∙ ap (λ (xs : List (ItemKey × ℕ)). times_of xs slot) left.stays.same);
        values = λ slot item has stored.
            reprices.values slot item (subst (λ (x : Queue). HasSlot mid x slot) (sym left.same) (has_still old mid q slot left.stays has)) (left.values slot has ∙ stored)
            ∙ ap (λ (x : Queue). Some (repriced_item x.count now item)) left.same;
      }

  -- a unit that was priced before
  priced_still : (h : ℕ) → h < groups before → h ≢ g → IsPriced old mid (queue_at before h) (queue_at at h) now → IsPriced old new (queue_at before h) (queue_at at h) now
  priced_still h below n was =
      let stays = priced_others mid new at g u.queue now e h (inside h below) n in
      record {
        count = was.count;
        slots = λ slot. ap (λ (xs : List (ItemKey × ℕ)). times_of xs slot) stays.same ∙ was.slots slot;
        values = λ slot item has stored. priced_values mid new at g u.queue now e h (inside h below) n slot (subst (λ (m : ℕ). 0 < m) (sym (was.slots slot)) has) ∙ was.values slot item has stored;
      }

  -- a unit that comes later
  left_still : (h : ℕ) → h < groups before → h ≢ g → IsLeft old mid (queue_at before h) (queue_at at h) → IsLeft old new (queue_at before h) (queue_at at h)
  left_still h below n was =
      let stays = subst (λ (x : Queue). StaysIn mid new x) was.same (priced_others mid new at g u.queue now e h (inside h below) n) in
      record {
        same = was.same;
        stays = record { stands = stays.stands; same = stays.same ∙ was.stays.same };
        values = λ slot has.
            priced_values mid new at g u.queue now e h (inside h below) n slot (subst (λ (x : Queue). HasSlot mid x slot) (sym was.same) (has_still old mid (queue_at before h) slot was.stays has))
            ∙ was.values slot has;
      }

  pub prices_step : PricedUpTo old new before later (g + 1) now
  prices_step = record {
    units = subst (UnitsStand new) (sym is) (priced_units mid new at g u.queue now e);
    same = u.is ∙ (same_record before at (set at.queues g u.queue) r.same ∙ ap (λ (qs : List Queue). record before { queues = qs }) (sym (ap (λ (l : Lane). l.queues) u.is)));
    alike = ap groups is ∙ (groups_changed at g u.queue (spans_at at g) at.len ∙ r.alike);
    done = λ h below small. elim (cases_eq h g) [
      | inl same ↦ subst (λ (i : ℕ). IsPriced old new (queue_at before i) (queue_at later i) now) (sym same) (subst (λ (x : Queue). IsPriced old new (queue_at before g) x now) (sym here_is) priced_now)
      | inr n ↦ subst (λ (x : Queue). IsPriced old new (queue_at before h) x now) (sym (other_is h n)) (priced_still h below n (r.done h below (omega (arith, small, n))))
    ];
    left = λ h below above. (
        let n : h ≢ g = (λ same. omega (arith, same, above)) in
        subst (λ (x : Queue). IsLeft old new (queue_at before h) x) (sym (other_is h n)) (left_still h below n (r.left h below (omega (arith, above)))));
    others = λ slot lacks.
        u.reprices.others slot (subst (λ (x : Queue). LacksSlot mid x slot) (sym was_left.same) (lacks_still old mid (queue_at before g) slot was_left.stays (lacks g within)))
        ∙ r.others slot lacks;
    second = λ slot. u.reprices.second slot ∙ r.second slot;
    spare = u.reprices.spare ∙ r.spare;
    queues = λ other there apart. (
        let one = r.queues other there apart in
        let two = priced_queues mid new at g u.queue now e other one.stays.stands one.apart in
        subst (λ (l : Lane). StaysFrom old new l other) (sym is)
        (record { stays = record { stands = two.stays.stands; same = two.stays.same ∙ one.stays.same }; apart = two.apart }));
  }
