-- Items of an arena whose slots hold the entries of another priced anew: where they were, that they are in range, and in which queue they stand.
use Rattle.std.proofs.Common.{◌≡◌, ℕ, ◌<◌, ◌≤◌, true, false, Contains, List, Some, None, is_some, length, map, sym, ap, ◌∙◌, subst, arith}
use Rattle.std.proofs.lemmas.Bool.{cond_both}
use Rattle.sched_base.specs.Limits.{most_base, most_clusters}
use Rattle.sched_base.specs.declared.Bucket.{Bucket}
use Rattle.sched_base.specs.declared.Bucket.TheVariants.{Bg, Df, Fg, Ini, Ui, Ut}
use Rattle.flat_policy.specs.Policy.Queue.{Flat, Queued, lane, lane_entries, unit_entries}
use Rattle.flat_policy.specs.Policy.Refresh.{is_ui, repriced}
use Rattle.flat_policy.specs.Policy.Usage.{priority}
use Rattle.flat_policy.specs.Policy.WellFormed.{WellFormed}
use Rattle.link_arena.specs.Arena.{Arena, value_at}
use Rattle.thread_queue.specs.Item.{entry_of}
use Rattle.thread_queue.specs.Queue.{HasSlot, Queue}
use Rattle.thread_queue.specs.declared.item.Item.{Item}
use Rattle.clutch_bucket.specs.Lane.{HasLaneSlot, Lane}
use Rattle.cluster_queue.specs.Heaps.{AreItems, BoundFollows, LaneFollows}
use Rattle.cluster_queue.specs.Refreshing.{AllListed, AllOnce, HoldsPriced, is_done, priced_upto}
use Rattle.cluster_queue.proofs.PricedEntries.{Alike, priced_alike, repriced_alike, with_price}
use Rattle.cluster_queue.proofs.PricedKinds.{IsKind, OfKind}
use Rattle.cluster_queue.proofs.PricedLists.{lane_parts}
use Rattle.cluster_queue.proofs.Slots.{item_before}
use Rattle.cluster_queue.proofs.Members.{fact_of_member, member_of_map}
use Rattle.cluster_queue.proofs.Listed.{lane_listed, queue_listed}

-- each slot holds what pricing anew makes of its item, or is free as before
pub record ItemsPriced (old new : Arena Item) (s : Flat) (now upto : ℕ) : Type 0 where
  pub values : (slot : ℕ) (item : Item) → value_at old slot ≡ Some item → HoldsPriced new s now upto slot item
  pub free : (slot : ℕ) → value_at old slot ≡ None → value_at new slot ≡ None

-- the item that was there before
pub record WasThere (old : Arena Item) (s : Flat) (now upto slot : ℕ) (item : Item) : Type 0 where
  pub before : Item
  pub stored : value_at old slot ≡ Some before
  pub entry : entry_of item ≡ priced_upto s now upto (entry_of before)

pub was_there : (old new : Arena Item) (s : Flat) (now upto slot : ℕ) (item : Item) → ItemsPriced old new s now upto → value_at new slot ≡ Some item → WasThere old s now upto slot item
was_there old new s now upto slot item priced stored =
    let w = item_before old new (λ before later. entry_of later ≡ priced_upto s now upto (entry_of before)) slot item (priced.values slot) (priced.free slot) stored in
    record { before = w.0; stored = w.1.0; entry = w.1.1 }

-- what is the same of the item
pub item_alike : (s : Flat) (now upto : ℕ) (before item : Item) → entry_of item ≡ priced_upto s now upto (entry_of before) → Alike (entry_of before) (entry_of item)
item_alike s now upto before item entry = subst (Alike (entry_of before)) (sym entry) (priced_alike s now upto (entry_of before))

pub item_repriced : (s : Flat) (now : ℕ) (before item : Item) → entry_of item ≡ repriced s now (entry_of before) → Alike (entry_of before) (entry_of item)
item_repriced s now before item entry = subst (Alike (entry_of before)) (sym entry) (repriced_alike s now (entry_of before))

-- no two slots hold items of one arrival still
pub once_still : (old new : Arena Item) (s : Flat) (now upto : ℕ) → ItemsPriced old new s now upto → AllOnce old → AllOnce new
once_still old new s now upto priced once slot other item rival stored there same =
    let a = was_there old new s now upto slot item priced stored in
    let b = was_there old new s now upto other rival priced there in
    once slot other a.before b.before a.stored b.stored
    (sym (item_alike s now upto b.before rival b.entry).arrival ∙ (same ∙ (item_alike s now upto a.before item a.entry).arrival))

-- priorities are small still
priority_most : (base : ℕ) (b : Bucket) (usage n : ℕ) → priority base b usage n ≤ base
priority_most base Ui usage n = omega arith
priority_most base Fg usage n = omega arith
priority_most base Ini usage n = omega arith
priority_most base Df usage n = omega arith
priority_most base Ut usage n = omega arith
priority_most base Bg usage n = omega arith

pub priced_small : (count : ℕ) (s : Flat) (now upto : ℕ) (e : Queued) → WellFormed count s → Contains s.entries e → (priced_upto s now upto e).pri ≤ most_base
priced_small count s now upto e formed c =
    let as_is = fact_of_member (λ (f : Queued). f.pri ≤ most_base) s.entries e formed.priorities_within c in
    let base = fact_of_member (λ (f : Queued). f.facts.base ≤ most_base) s.entries e formed.bases_within c in
    cond_both (is_done upto e.facts.bucket) (repriced s now e) e (λ (f : Queued). f.pri ≤ most_base)
    (λ h. cond_both (is_ui e.facts.bucket) e (with_price s now e) (λ (f : Queued). f.pri ≤ most_base) (λ g. as_is)
    (λ g. (let most = priority_most e.facts.base e.facts.bucket (with_price s now e).facts.usage (length (unit_entries s e.facts)) in omega (arith, most, base))))
    (λ h. as_is)

-- and items are in range, as they were in between
pub fits_still : (start old new : Arena Item) (count : ℕ) (s : Flat) (now before upto : ℕ) → WellFormed count s → AllListed start s → ItemsPriced start old s now before → AreItems old count → ItemsPriced start new s now upto → AreItems new count
fits_still start old new count s now before upto formed listed priced fits later slot item stored =
    let was = was_there start new s now upto slot item later stored in
    let mid = priced.values slot was.before was.stored in
    let fit = fits slot mid.0 mid.1.0 in
    let a = item_alike s now before was.before mid.0 mid.1.1 in
    let b = item_alike s now upto was.before item was.entry in
    record {
      group = subst (λ (n : ℕ). n < count) (a.group ∙ sym b.group) fit.group;
      small = subst (λ (e : Queued). e.pri ≤ most_base) (sym was.entry) (priced_small count s now upto (entry_of was.before) formed (listed slot was.before was.stored));
      prefer = subst (λ (n : ℕ). n < most_clusters) (a.prefer ∙ sym b.prefer) fit.prefer;
      ran = b.ran ∙ (sym a.ran ∙ fit.ran);
      blocked = b.blocked ∙ (sym a.blocked ∙ fit.blocked);
    }

-- a slot whose item is one of the entries stands in the lane, or in the bound queue
pub lane_has : (arena : Arena Item) (at : Lane) (count slot : ℕ) (b : Bucket) (s : Flat) (item : Item) → LaneFollows arena at count b s → AllOnce arena → value_at arena slot ≡ Some item → IsKind item false b → item.thread.group < count → Contains s.entries (entry_of item)
    → HasLaneSlot arena at slot
lane_has arena at count slot b s item f once stored kind below listed = lane_listed arena at count slot b s item f (λ other rival there like. once slot other item rival stored there like) kind.0 kind.1 below listed

pub bound_has : (arena : Arena Item) (queue : Queue) (es : List Queued) (slot : ℕ) (item : Item) → BoundFollows arena queue es → AllOnce arena → value_at arena slot ≡ Some item → Contains es (entry_of item) → HasSlot arena queue slot
bound_has arena queue es slot item f once stored member = queue_listed arena queue es slot item f.entries (λ other rival there like. once slot other item rival stored there like) member

-- the slots of a bound queue hold items of its bucket
pub bound_kind : (arena : Arena Item) (queue : Queue) (s : Flat) (now upto : ℕ) (b : Bucket) → BoundFollows arena queue (map (priced_upto s now upto) (lane_entries s (lane b true))) → OfKind arena queue true b
bound_kind arena queue s now upto b f = record {
  stands = f.stands;
  each = λ slot item has stored. (
      let from = member_of_map (priced_upto s now upto) (lane_entries s (lane b true)) (entry_of item) (f.entries.there slot item has stored) in
      let parts = lane_parts s b true from.0 from.1.0 in
      let same = subst (Alike from.0) from.1.1 (priced_alike s now upto from.0) in
      (same.bucket ∙ parts.0, ap is_some same.bound ∙ parts.1));
}
