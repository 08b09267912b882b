-- The buckets priced anew one after the other.
use Rattle.std.proofs.Common.{◌≡◌, ℕ, ◌+◌, ◌≤◌, vec_capacity, refl, sym, subst, arith}
use Rattle.sched_base.specs.Bucket.{index}
use Rattle.sched_base.specs.Limits.{most_threads}
use Rattle.sched_base.specs.declared.Bucket.{Bucket}
use Rattle.sched_base.specs.declared.Bucket.TheVariants.{Bg, Df, Fg, Ini, Ut}
use Rattle.flat_policy.specs.Laws.Refreshing.{with_turns_of}
use Rattle.flat_policy.specs.Policy.Queue.{Flat}
use Rattle.flat_policy.specs.Policy.WellFormed.{WellFormed}
use Rattle.link_arena.specs.Arena.{Arena}
use Rattle.thread_queue.specs.declared.item.Item.{Item}
use Rattle.cluster_queue.specs.PricingAll.{PricesBuckets}
use Rattle.cluster_queue.specs.Refreshing.{CanPrice, PricedUpTo, PricesBucket}
use Rattle.cluster_queue.specs.declared.heaps.Heaps.{Heaps}
use Rattle.cluster_queue.proofs.PricesBegin.{with_turn}

-- arena, heaps and next turn between two calls
pub record Point : Type 0 where
  pub arena : Arena Item
  pub heaps : Heaps
  pub turns : ℕ

-- a call prices a bucket
abbrev pub Step : ℕ → Bucket → Point → Point → ℕ → Type 0
Step now b x y changed = PricesBucket x.arena y.arena x.heaps y.heaps b now x.turns y.turns changed

-- a bucket can be priced, with the next turn of the queue that the lanes before it follow
pub record CanGoOn (x : Point) (b : Bucket) (now : ℕ) : Type 0 where
  pub count : ℕ
  pub start : Arena Item
  pub s : Flat
  pub p : Flat
  pub formed : WellFormed count s
  pub priced : PricedUpTo start x.arena x.heaps count now s p (index b)
  pub turn : x.turns ≡ p.next_turn
  pub room : most_threads ≤ vec_capacity x.heaps.slots

pub goes_first : (x : Point) (now : ℕ) → CanPrice x.arena x.heaps Fg now → CanGoOn x Fg now
goes_first x now can = record {
  count = can.count;
  start = can.start;
  s = can.s;
  p = record can.p { next_turn = x.turns };
  formed = can.formed;
  priced = with_turn can.start x.arena x.heaps can.count now x.turns can.s can.p can.priced;
  turn = refl;
  room = can.room;
}

pub goes_on : (x y : Point) (b next : Bucket) (now changed : ℕ) → index b + 1 ≡ index next → vec_capacity y.heaps.slots ≡ vec_capacity x.heaps.slots → Step now b x y changed → CanGoOn x b now → CanGoOn y next now
goes_on x y b next now changed after room step can =
    let one = step can.start can.count can.s can.p can.formed can.priced can.turn in
    let p = with_turns_of can.count can.s can.p b in
    record {
      count = can.count;
      start = can.start;
      s = can.s;
      p = p;
      formed = can.formed;
      priced = subst (λ (upto : ℕ). PricedUpTo can.start y.arena y.heaps can.count now can.s p upto) after one.0;
      turn = one.1;
      room = subst (λ (n : ℕ). most_threads ≤ n) (sym room) can.room;
    }

pub can_price : (x : Point) (b : Bucket) (now : ℕ) → CanGoOn x b now → CanPrice x.arena x.heaps b now
can_price x b now can = record { count = can.count; start = can.start; s = can.s; p = can.p; formed = can.formed; priced = can.priced; room = can.room }

-- five calls price all five buckets
pub five_priced : (now a b c d e : ℕ) (u v w x y z : Point) → Step now Fg u v a → Step now Ini v w b → Step now Df w x c → Step now Ut x y d → Step now Bg y z e
    → PricesBuckets u.arena z.arena u.heaps z.heaps now u.turns z.turns (a + b + c + d + e)
five_priced now a b c d e u v w x y z fg ini df ut bg = λ start count s p formed priced turn.
    let one = fg start count s p formed priced turn in
    let p_fg = with_turns_of count s p Fg in
    let two = ini start count s p_fg formed one.0 one.1 in
    let p_ini = with_turns_of count s p_fg Ini in
    let three = df start count s p_ini formed two.0 two.1 in
    let p_df = with_turns_of count s p_ini Df in
    let four = ut start count s p_df formed three.0 three.1 in
    let p_ut = with_turns_of count s p_df Ut in
    let five = bg start count s p_ut formed four.0 four.1 in
    (five.0, five.1, omega (arith, one.2, two.2, three.2, four.2, five.2))
