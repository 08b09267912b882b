-- How many priorities of a lane change: as many by its slots as by its entries.
use Rattle.std.proofs.Common.{◌≡◌, ◌≢◌, ℕ, zero, suc, ◌+◌, ◌≤◌, ◌<◌, ◌==◌, Bool, true, false, not, cond, Contains, List, [], ◌∷◌, Option, Some, None, filter, refl, sym, ap, ◌∙◌, subst, inl, inr, arith, eqb-true}
use Rattle.std.specs.Prelude.{count_by}
use Rattle.std.proofs.lemmas.Bool.{cases_Bool, cases_eq, cond-true, cond-false, false≢true}
use Rattle.sched_base.specs.declared.Bucket.{Bucket}
use Rattle.sched_base.specs.declared.Bucket.TheVariants.{Ui}
use Rattle.flat_policy.specs.Policy.Queue.{Clutch, Flat, Queued, clutch_entries, in_clutch, in_lane, lane, lane_entries}
use Rattle.flat_policy.specs.Policy.Refresh.{repriced}
use Rattle.flat_policy.specs.Policy.Usage.{Spans}
use Rattle.flat_policy.specs.Policy.WellFormed.{ArrivalsRise, EachQueued}
use Rattle.link_arena.specs.Arena.{Arena, value_at}
use Rattle.thread_queue.specs.Item.{entry_of}
use Rattle.thread_queue.specs.Laws.{AreEntries, SlotsStandOnce, WalkCountsSlots}
use Rattle.thread_queue.specs.Queue.{HasSlot, Queue, StandsIn, walk_of}
use Rattle.thread_queue.specs.declared.item.Item.{Item}
use Rattle.clutch_bucket.specs.Lane.{ArrivalsDiffer, Follows, Lane, UnitFollows, UnitStands, groups, queue_at, unit_of}
use Rattle.clutch_bucket.specs.Repricing.{changed_in, changed_upto, changes_pri}
use Rattle.clutch_bucket.proofs.ChangedCount.{Unlike, no_more, unlike_rising}
use Rattle.clutch_bucket.proofs.Clutches.{clutch_in_lane, lane_of_clutch, parts_of_clutch}
use Rattle.clutch_bucket.proofs.LanePriced.{member_counts}
use Rattle.clutch_bucket.proofs.Members.{first_member, later_member, member_cases, no_member}
use Rattle.clutch_bucket.proofs.PricedAnew.{count_cons, times_among}
use Rattle.clutch_bucket.proofs.Repriced.{PricedAsEntries, unit_as_entries}

-- the entries at some slots
abbrev pub with_entry : Option Item → List Queued → List Queued
with_entry None es = es
with_entry (Some item) es = entry_of item ∷ es

abbrev pub entries_at : Arena Item → List ℕ → List Queued
entries_at arena [] = []
entries_at arena (slot ∷ slots) = with_entry (value_at arena slot) (entries_at arena slots)

later_entry : (v : Option Item) (es : List Queued) (e : Queued) → Contains es e → Contains (with_entry v es) e
later_entry None es e c = c
later_entry (Some item) es e c = later_member (entry_of item) es e c

entry_at_slot : (arena : Arena Item) (slots : List ℕ) (slot : ℕ) (item : Item) → Contains slots slot → value_at arena slot ≡ Some item → Contains (entries_at arena slots) (entry_of item)
entry_at_slot arena [] slot item c is = absurd (no_member slot c)
entry_at_slot arena (k ∷ ks) slot item c is =
    elim (member_cases k ks slot c) [
      | inl same ↦ subst (λ (v : Option Item). Contains (with_entry v (entries_at arena ks)) (entry_of item)) (sym (ap (value_at arena) same ∙ is)) (first_member (entry_of item) (entries_at arena ks))
      | inr d ↦ later_entry (value_at arena k) (entries_at arena ks) (entry_of item) (entry_at_slot arena ks slot item d is)
    ]

-- an entry at some slots lies in one of them
abbrev LiesIn : Arena Item → List ℕ → Queued → Type 0
LiesIn arena slots e = (slot : ℕ) × (item : Item) × (Contains slots slot × (value_at arena slot ≡ Some item) × (entry_of item ≡ e))

lies_later : (arena : Arena Item) (k : ℕ) (ks : List ℕ) (e : Queued) → LiesIn arena ks e → LiesIn arena (k ∷ ks) e
lies_later arena k ks e r = (r.0, r.1, (later_member k ks r.0 r.2.0, r.2.1, r.2.2))

lies_by : (arena : Arena Item) (k : ℕ) (ks : List ℕ) (e : Queued) → ((f : Queued) → Contains (entries_at arena ks) f → LiesIn arena ks f) → (v : Option Item) → value_at arena k ≡ v → Contains (with_entry v (entries_at arena ks)) e → LiesIn arena (k ∷ ks) e
lies_by arena k ks e rest None is c = lies_later arena k ks e (rest e c)
lies_by arena k ks e rest (Some item) is c =
    elim (member_cases (entry_of item) (entries_at arena ks) e c) [
      | inl same ↦ (k, item, (first_member k ks, is, same))
      | inr d ↦ lies_later arena k ks e (rest e d)
    ]

lies : (arena : Arena Item) (slots : List ℕ) (e : Queued) → Contains (entries_at arena slots) e → LiesIn arena slots e
lies arena [] e c = absurd (no_member e c)
lies arena (k ∷ ks) e c = lies_by arena k ks e (λ f d. lies arena ks f d) (value_at arena k) refl c

-- no two of the slots hold items of one arrival
abbrev SlotsDiffer : Arena Item → List ℕ → Type 0
SlotsDiffer arena slots =
    (i j : ℕ) (x y : Item) → Contains slots i → Contains slots j → value_at arena i ≡ Some x → value_at arena j ≡ Some y → x.arrival ≡ y.arrival → i ≡ j

unlike_by : (arena : Arena Item) (k : ℕ) (ks : List ℕ) → times_among k (k ∷ ks) ≤ 1 → SlotsDiffer arena (k ∷ ks) → Unlike (entries_at arena ks) → (v : Option Item) → value_at arena k ≡ v → Unlike (with_entry v (entries_at arena ks))
unlike_by arena k ks once differ rest None is = rest
unlike_by arena k ks once differ rest (Some item) is = (
  (λ y c alike.
      let r = lies arena ks y c in
      let same : k ≡ r.0 = differ k r.0 item r.1 (first_member k ks) (later_member k ks r.0 r.2.0) is r.2.1 (sym (ap (λ (q : Queued). q.arrival) r.2.2 ∙ alike)) in
      let again = member_counts ks k (subst (λ (n : ℕ). Contains ks n) (sym same) r.2.0) in
      let more = count_cons (λ other. other == k) k ks in
      let here = member_counts (k ∷ []) k (first_member k []) in
      let one = count_cons (λ other. other == k) k [] in
      omega (arith, once, again, more, here, one)),
  rest,
)

unlike_at : (arena : Arena Item) (slots : List ℕ) → ((slot : ℕ) → times_among slot slots ≤ 1) → SlotsDiffer arena slots → Unlike (entries_at arena slots)
unlike_at arena [] once differ = tt
unlike_at arena (k ∷ ks) once differ =
    unlike_by arena k ks (once k) differ
    (unlike_at arena ks
    (λ slot. let all = once slot in let more = count_cons (λ other. other == slot) k ks in omega (arith, all, more))
    (λ i j x y ci cj vx vy same. differ i j x y (later_member k ks i ci) (later_member k ks j cj) vx vy same))
    (value_at arena k) refl

-- as many of the slots change their priority as of the entries that lie there
counted_by : (n now : ℕ) (q : Queued → Bool) (es : List Queued) (v : Option Item) → ((item : Item) → v ≡ Some item → changes_pri n now (Some item) ≡ q (entry_of item)) → cond (changes_pri n now v) 1 0 + count_by q es ≡ count_by q (with_entry v es)
counted_by n now q es None h = omega arith
counted_by n now q es (Some item) h = ap {B = ℕ} (λ (b : Bool). cond b 1 0 + count_by q es) (h item refl) ∙ sym (count_cons q (entry_of item) es)

counted_at : (arena : Arena Item) (n now : ℕ) (q : Queued → Bool) (slots : List ℕ) → ((slot : ℕ) (item : Item) → Contains slots slot → value_at arena slot ≡ Some item → changes_pri n now (Some item) ≡ q (entry_of item))
    → count_by (λ slot. changes_pri n now (value_at arena slot)) slots ≡ count_by q (entries_at arena slots)
counted_at arena n now q [] h = refl
counted_at arena n now q (k ∷ ks) h =
    count_cons (λ slot. changes_pri n now (value_at arena slot)) k ks
    ∙ (ap (λ (m : ℕ). cond (changes_pri n now (value_at arena k)) 1 0 + m) (counted_at arena n now q ks (λ slot item c is. h slot item (later_member k ks slot c) is))
    ∙ counted_by n now q (entries_at arena ks) (value_at arena k) (λ item is. h k item (first_member k ks) is))

-- a slot that counts is a member
counts_member : (xs : List ℕ) (x : ℕ) → 0 < times_among x xs → Contains xs x
counts_member [] x some = absurd (omega (arith, some))
counts_member (y ∷ ys) x some =
    elim (cases_Bool (y == x)) [
      | inl h ↦ subst (λ (n : ℕ). Contains (y ∷ ys) n) (eqb-true y x h) (first_member y ys)
      | inr h ↦ (
          let more = count_cons (λ other. other == x) y ys in
          let none = ap {B = ℕ} (λ (b : Bool). cond b 1 0) h in
          later_member y ys x (counts_member ys x (omega (arith, some, more, none))))
    ]

-- whether a queue priced anew gives an entry another priority
abbrev pub changed : Flat → ℕ → Queued → Bool
changed s now e = not ((repriced s now e).pri == e.pri)

-- as many priorities change by the slots of a queue as by the entries that it holds, which are those of a cluster's queue that pass a test
pub queue_changed : WalkCountsSlots → SlotsStandOnce → (arena : Arena Item) (queue : Queue) (now : ℕ) (s : Flat) (p : Queued → Bool) → StandsIn arena queue → AreEntries arena queue (filter p s.entries) → ArrivalsDiffer arena queue → PricedAsEntries arena queue now s → ArrivalsRise s.entries
    → changed_in arena queue now ≡ count_by (changed s now) (filter p s.entries)
queue_changed walk single arena queue now s p stands are apart as_entries rise =
    let q = changed s now in
    let slots = walk_of arena queue in
    let held : (slot : ℕ) → Contains slots slot → HasSlot arena queue slot = (λ slot c. let some = member_counts slots slot c in let same = walk arena queue slot in omega (arith, some, same)) in
    let by_entries : changed_in arena queue now ≡ count_by q (entries_at arena slots) =
    counted_at arena queue.count now q slots (λ slot item c is.
    ap (λ (e : Queued). not (e.pri == item.pri)) (as_entries slot item (held slot c) is)) in
    let unlike = unlike_at arena slots
    (λ slot. let same = walk arena queue slot in let most = single arena queue stands slot in omega (arith, same, most))
    (λ i j x y ci cj vx vy same. apart i j x y (held i ci) (held j cj) vx vy same) in
    let most = no_more q (entries_at arena slots) (filter p s.entries) unlike (λ e c.
    let r = lies arena slots e c in
    subst (λ (f : Queued). Contains (filter p s.entries) f) r.2.2 (are.there r.0 r.1 (held r.0 r.2.0) r.2.1)) in
    let least = no_more q (filter p s.entries) (entries_at arena slots) (unlike_rising p s.entries rise) (λ e c.
    let from = are.back e c in
    let there = counts_member slots from.0 (let has = from.2.0 in let same = walk arena queue from.0 in omega (arith, has, same)) in
    subst (λ (f : Queued). Contains (entries_at arena slots) f) from.2.2 (entry_at_slot arena slots from.0 from.1 there from.2.1)) in
    omega (arith, by_entries, most, least)

unit_changed : WalkCountsSlots → SlotsStandOnce → (arena : Arena Item) (queue : Queue) (now : ℕ) (used : Spans) (s : Flat) (k : Clutch) → k.bucket ≢ Ui → UnitStands arena k queue → UnitFollows arena queue used s k → ArrivalsRise s.entries
    → changed_in arena queue now ≡ count_by (changed s now) (clutch_entries s k)
unit_changed walk single arena queue now used s k bucket stands follows rise =
    queue_changed walk single arena queue now s (in_clutch k) stands.stands follows.entries follows.apart (unit_as_entries arena queue now used s k bucket stands follows) rise

-- how many entries of the clutch buckets of the groups below a number pass a test
clutch_sum : (Queued → Bool) → Bucket → List Queued → ℕ → ℕ
clutch_sum q b es zero = 0
clutch_sum q b es (suc g) = clutch_sum q b es g + count_by q (filter (in_clutch (record { group = g; bucket = b })) es)

none_sum : (q : Queued → Bool) (b : Bucket) (n : ℕ) → clutch_sum q b [] n ≡ 0
unfolding clutch_sum
none_sum q b zero = refl
none_sum q b (suc g) = let rest = none_sum q b g in omega (arith, rest)

taken : (q p : Queued → Bool) (e : Queued) (es : List Queued) → p e ≡ true → count_by q (filter p (e ∷ es)) ≡ cond (q e) 1 0 + count_by q (filter p es)
taken q p e es h = ap (λ (xs : List Queued). count_by q xs) (cond-true (p e) (e ∷ filter p es) (filter p es) h) ∙ count_cons q e (filter p es)

skipped : (q p : Queued → Bool) (e : Queued) (es : List Queued) → p e ≡ false → count_by q (filter p (e ∷ es)) ≡ count_by q (filter p es)
skipped q p e es h = ap (λ (xs : List Queued). count_by q xs) (cond-false (p e) (e ∷ filter p es) (filter p es) h)

not_its : (g : ℕ) (b : Bucket) (e : Queued) → g ≢ e.facts.group → in_clutch (record { group = g; bucket = b }) e ≡ false
not_its g b e n =
    elim (cases_Bool (in_clutch (record { group = g; bucket = b }) e)) [
      | inl h ↦ absurd (n (sym (parts_of_clutch (record { group = g; bucket = b }) e h).1.0))
      | inr h ↦ h
    ]

sum_below : (q : Queued → Bool) (b : Bucket) (e : Queued) (es : List Queued) (n : ℕ) → n ≤ e.facts.group → clutch_sum q b (e ∷ es) n ≡ clutch_sum q b es n
unfolding clutch_sum
sum_below q b e es zero below = refl
sum_below q b e es (suc g) below =
    let rest = sum_below q b e es g (omega (arith, below)) in
    let same = skipped q (in_clutch (record { group = g; bucket = b })) e es (not_its g b e (λ is. omega (arith, is, below))) in
    omega (arith, rest, same)

sum_above : (q : Queued → Bool) (b : Bucket) (e : Queued) (es : List Queued) (n : ℕ) → in_clutch (record { group = e.facts.group; bucket = b }) e ≡ true → e.facts.group < n → clutch_sum q b (e ∷ es) n ≡ cond (q e) 1 0 + clutch_sum q b es n
unfolding clutch_sum
sum_above q b e es zero its above = absurd (omega (arith, above))
sum_above q b e es (suc g) its above =
    elim (cases_eq g e.facts.group) [
      | inl is ↦ (
          let rest = sum_below q b e es g (omega (arith, is)) in
          let more = taken q (in_clutch (record { group = g; bucket = b })) e es (subst (λ (h : ℕ). in_clutch (record { group = h; bucket = b }) e ≡ true) (sym is) its) in
          omega (arith, rest, more))
      | inr n ↦ (
          let rest = sum_above q b e es g its (omega (arith, above, n)) in
          let same = skipped q (in_clutch (record { group = g; bucket = b })) e es (not_its g b e n) in
          omega (arith, rest, same))
    ]

sum_skips : (q : Queued → Bool) (b : Bucket) (e : Queued) (es : List Queued) (n : ℕ) → in_lane (lane b false) e ≡ false → clutch_sum q b (e ∷ es) n ≡ clutch_sum q b es n
unfolding clutch_sum
sum_skips q b e es zero out = refl
sum_skips q b e es (suc g) out =
    let rest = sum_skips q b e es g out in
    let not_there : in_clutch (record { group = g; bucket = b }) e ≡ false =
    elim (cases_Bool (in_clutch (record { group = g; bucket = b }) e)) [
      | inl h ↦ absurd (false≢true (sym out ∙ lane_of_clutch g b e h))
      | inr h ↦ h
    ] in
    let same = skipped q (in_clutch (record { group = g; bucket = b })) e es not_there in
    omega (arith, rest, same)

-- together they are those of the lane
sum_is : (q : Queued → Bool) (b : Bucket) (n : ℕ) (es : List Queued) → EachQueued (λ (e : Queued). e.facts.group < n) es → clutch_sum q b es n ≡ count_by q (filter (in_lane (lane b false)) es)
sum_is q b n [] within = none_sum q b n
sum_is q b n (e ∷ es) within =
    let rest = sum_is q b n es within.1 in
    elim (cases_Bool (in_lane (lane b false) e)) [
      | inl h ↦ (
          let sum = sum_above q b e es n (clutch_in_lane b e h) within.0 in
          let more = taken q (in_lane (lane b false)) e es h in
          omega (arith, rest, sum, more))
      | inr h ↦ (
          let sum = sum_skips q b e es n h in
          let same = skipped q (in_lane (lane b false)) e es h in
          omega (arith, rest, sum, same))
    ]

module _ (walk : WalkCountsSlots) (single : SlotsStandOnce) (arena : Arena Item) (at : Lane) (now : ℕ) (s : Flat) (bucket : at.bucket ≢ Ui) (f : Follows arena at s) (rise : ArrivalsRise s.entries) where
  upto_is : (n : ℕ) → n ≤ groups at → changed_upto arena at now n ≡ clutch_sum (changed s now) at.bucket s.entries n
  unfolding clutch_sum
  upto_is zero below = refl
  upto_is (suc g) below =
      let within : g < groups at = omega (arith, below) in
      let rest = upto_is g (omega (arith, below)) in
      let unit = f.units.each g within in
      let here = unit_changed walk single arena (queue_at at g) now _ s (unit_of at g) bucket (f.stands.units.each g within) unit rise in
      omega (arith, rest, here)

  -- as many by the slots as by the entries of the lane
  pub lane_changed : EachQueued (λ (e : Queued). e.facts.group < groups at) s.entries → changed_upto arena at now (groups at) ≡ count_by (changed s now) (lane_entries s (lane at.bucket false))
  lane_changed below = upto_is (groups at) (omega arith) ∙ sum_is (changed s now) at.bucket (groups at) s.entries below
