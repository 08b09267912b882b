-- The turns that the clutch buckets of one bucket take: all else stays, and so do the turns of other buckets.
use Rattle.std.proofs.Common.{◌≡◌, ◌≢◌, ℕ, ◌+◌, Bool, true, false, cond, List, [], ◌∷◌, fold, filter, get_or, length, map, refl, sym, ap, ◌∙◌, subst}
use Rattle.std.proofs.lemmas.Bool.{false≢true}
use Rattle.sched_base.specs.Bucket.{index}
use Rattle.sched_base.specs.declared.Bucket.{Bucket}
use Rattle.sched_base.specs.declared.Bucket.TheVariants.{Ui}
use Rattle.flat_policy.specs.Laws.Refreshing.{with_turns_of}
use Rattle.flat_policy.specs.Policy.Queue.{Clutch, Flat, Queued, clutch_place, in_clutch, in_lane, lane, no_spans, turn_of}
use Rattle.flat_policy.specs.Policy.Refresh.{repriced, turn_on_refresh}
use Rattle.flat_policy.specs.Policy.Setup.{numbers_below}
use Rattle.flat_policy.specs.Policy.Usage.{Spans}
use Rattle.clutch_bucket.specs.Lane.{Lane, LanePriced, unit_of}
use Rattle.clutch_bucket.specs.Laws.{SameClutches}
use Rattle.cluster_queue.specs.Refreshing.{HasPrices, is_done}
use Rattle.cluster_queue.proofs.PricedEntries.{clutch_stays, other_done, own_done, own_not_done}
use Rattle.cluster_queue.proofs.PricedLists.{lane_length}
use Rattle.cluster_queue.proofs.Members.{filter_of_map}
use Rattle.cluster_queue.proofs.Staying.{clutches_same}
use Rattle.cluster_queue.proofs.OnlyTurns.{turns_on_refresh}
use Rattle.cluster_queue.proofs.ItemClutches.{places_differ}

-- only turns of the bucket's clutch buckets change, and which turn is next
pub record OnlyTurnsOf (b : Bucket) (p q : Flat) : Type 0 where
  pub entries : q.entries ≡ p.entries
  pub spans : q.spans ≡ p.spans
  pub turn_places : length q.turns ≡ length p.turns
  pub others : (k : Clutch) → k.bucket ≢ b → turn_of q k ≡ turn_of p k

no_turn : (b : Bucket) (p : Flat) → OnlyTurnsOf b p p
no_turn b p = record { entries = refl; spans = refl; turn_places = refl; others = λ k n. refl }

turn_or_not : (s p : Flat) (g : ℕ) (b : Bucket) → OnlyTurnsOf b p (turn_on_refresh s p (record { group = g; bucket = b }))
turn_or_not s p g b =
    let k : Clutch = record { group = g; bucket = b } in
    let t = turns_on_refresh k p s in
    record { entries = t.entries; spans = t.spans; turn_places = t.places; others = λ l n. t.others l (places_differ k l (λ e. n (sym e))) }

-- one after the other of some groups
turns_of_groups : (s p : Flat) (b : Bucket) (gs : List ℕ) → OnlyTurnsOf b p (fold (turn_on_refresh s) p (map (λ g. record { group = g; bucket = b }) gs))
turns_of_groups s p b [] = no_turn b p
turns_of_groups s p b (g ∷ gs) =
    let one = turn_or_not s p g b in
    let rest = turns_of_groups s (turn_on_refresh s p (record { group = g; bucket = b })) b gs in
    record {
      entries = rest.entries ∙ one.entries;
      spans = rest.spans ∙ one.spans;
      turn_places = rest.turn_places ∙ one.turn_places;
      others = λ k n. rest.others k n ∙ one.others k n;
    }

pub only_turns : (count : ℕ) (s p : Flat) (b : Bucket) → OnlyTurnsOf b p (with_turns_of count s p b)
only_turns count s p b = turns_of_groups s p b (numbers_below count)

-- the queue with the bucket's turns has the prices too, and the turns of one bucket fewer are as before
pub prices_next : (count now : ℕ) (s p : Flat) (b : Bucket) → b ≢ Ui → HasPrices s p now (index b) → HasPrices s (with_turns_of count s p b) now (index b + 1)
prices_next count now s p b n prices =
    let only = only_turns count s p b in
    record {
      entries = only.entries ∙ prices.entries;
      spans = only.spans ∙ prices.spans;
      turns = λ k waits. (
          let other : k.bucket ≢ b = λ is. false≢true (sym waits ∙ (ap (is_done (index b + 1)) is ∙ own_done b n)) in
          only.others k other ∙ prices.turns k (sym (other_done b k.bucket other) ∙ waits));
      turn_places = only.turn_places ∙ prices.turn_places;
    }

-- the prices of a bucket's unbound lane, before its turns
pub lane_prices : (count now : ℕ) (s p : Flat) (b : Bucket) → HasPrices s p now (index b) → LanePriced count now s p b
lane_prices count now s p b prices = record {
  entries = λ g within. (
      let k : Clutch = record { group = g; bucket = b } in
      ap (λ (es : List Queued). filter (in_clutch k) es) prices.entries ∙ filter_of_map (in_clutch k) (repriced s now) (clutch_stays s now k) s.entries);
  spans = prices.spans;
  turns = λ g within. prices.turns (record { group = g; bucket = b }) (own_not_done b);
  turn_places = prices.turn_places;
  len = lane_length s p now b false prices.entries;
}

pub clutches_beside : (at : Lane) (b : Bucket) (p q : Flat) → at.bucket ≢ b → OnlyTurnsOf b p q → SameClutches at p q
clutches_beside at b p q n only = record {
  each = λ g within. record {
    entries = ap (λ (es : List Queued). filter (in_clutch (unit_of at g)) es) only.entries;
    spans = ap (λ (us : List Spans). get_or us (clutch_place (unit_of at g)) no_spans) only.spans;
    turn = only.others (unit_of at g) n;
  };
  len = ap (λ (es : List Queued). length (filter (in_lane (lane at.bucket false)) es)) only.entries;
  span_places = ap (λ (us : List Spans). length us) only.spans;
  turn_places = only.turn_places;
}

-- so a lane beside follows the one or the other queue, as before
pub clutches_by_turn : (at : Lane) (b c : Bucket) (s p q : Flat) → at.bucket ≡ c → c ≢ b → OnlyTurnsOf b p q → SameClutches at (cond (is_done (index b) c) p s) (cond (is_done (index b + 1) c) q s)
clutches_by_turn at b c s p q is n only =
    subst (λ (x : Bool). SameClutches at (cond (is_done (index b) c) p s) (cond x q s)) (sym (other_done b c n)) (either (is_done (index b) c))
  where
    either : (x : Bool) → SameClutches at (cond x p s) (cond x q s)
    either true = clutches_beside at b p q (λ e. n (sym is ∙ e)) only
    either false = clutches_same at s
