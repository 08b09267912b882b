-- Of the cluster's queue the heaps follow entries, spans and turns alone.
use Rattle.std.proofs.Common.{◌≡◌, ℕ, Bool, List, Option, true, false, filter, length, sym, ap, ◌∙◌, subst}
use Rattle.std.specs.Prelude.{slice_index_or, None}
use Rattle.sched_base.specs.declared.Bucket.{Bucket}
use Rattle.flat_policy.specs.Policy.Queue.{Clutch, Flat, LaneState, Queued, clutch_place, in_clutch, in_lane, lane, no_spans}
use Rattle.flat_policy.specs.Policy.Usage.{Spans}
use Rattle.link_arena.specs.Arena.{Arena}
use Rattle.thread_queue.specs.Laws.{AreEntries}
use Rattle.thread_queue.specs.Queue.{Queue}
use Rattle.thread_queue.specs.declared.item.Item.{Item}
use Rattle.clutch_bucket.specs.Lane.{Lane, UnitFollows, queue_at, spans_at, unit_of}
use Rattle.stealing.specs.Foreign.{OffersEntries}
use Rattle.cluster_queue.specs.Heaps.{BoundFollows, HeapsFollow, LaneFollows, bound_at, lane_at}
use Rattle.cluster_queue.specs.declared.heaps.Heaps.{Heaps}

-- a queue is another where all parts are
pub flat_by : (x s : Flat) → x.entries ≡ s.entries → x.spans ≡ s.spans → x.turns ≡ s.turns → x.lanes ≡ s.lanes → x.last ≡ s.last → x.next_arrival ≡ s.next_arrival → x.next_turn ≡ s.next_turn → x.on ≡ s.on → x ≡ s
flat_by x s entries spans turns lanes last arrival turn on =
    ap (λ (v : List Queued). record x { entries = v }) entries
    ∙ (ap (λ (v : List Spans). record x { entries = s.entries; spans = v }) spans
    ∙ (ap (λ (v : List (Option ℕ)). record x { entries = s.entries; spans = s.spans; turns = v }) turns
    ∙ (ap (λ (v : List LaneState). record x { entries = s.entries; spans = s.spans; turns = s.turns; lanes = v }) lanes
    ∙ (ap (λ (v : ℕ). record s { last = v; next_arrival = x.next_arrival; next_turn = x.next_turn; on = x.on }) last
    ∙ (ap (λ (v : ℕ). record s { next_arrival = v; next_turn = x.next_turn; on = x.on }) arrival
    ∙ (ap (λ (v : ℕ). record s { next_turn = v; on = x.on }) turn ∙ ap (λ (v : Bool). record s { on = v }) on))))))

module _ (s next : Flat) (entries : next.entries ≡ s.entries) (spans : next.spans ≡ s.spans) (turns : next.turns ≡ s.turns) where
  pub unit_of_parts : (arena : Arena Item) (queue : Queue) (used : Spans) (k : Clutch) → UnitFollows arena queue used s k → UnitFollows arena queue used next k
  unit_of_parts arena queue used k f = record {
    entries = subst (λ (es : List Queued). AreEntries arena queue (filter (in_clutch k) es)) (sym entries) f.entries;
    count = f.count ∙ ap (λ (es : List Queued). length (filter (in_clutch k) es)) (sym entries);
    apart = f.apart;
    spans = ap (λ (xs : List Spans). slice_index_or xs (clutch_place k) no_spans) spans ∙ f.spans;
  }

  pub lane_of_parts : (arena : Arena Item) (at : Lane) (count : ℕ) (b : Bucket) → LaneFollows arena at count b s → LaneFollows arena at count b next
  lane_of_parts arena at count b f = record {
    bucket = f.bucket;
    groups = f.groups;
    follows = record {
      stands = f.follows.stands;
      units = record {
        each = λ g within. unit_of_parts arena (queue_at at g) (spans_at at g) (unit_of at g) (f.follows.units.each g within);
        len = f.follows.units.len ∙ ap (λ (es : List Queued). length (filter (in_lane (lane at.bucket false)) es)) (sym entries);
        span_places = ap (λ (xs : List Spans). length xs) spans ∙ f.follows.units.span_places;
        turn_places = ap (λ (xs : List (Option ℕ)). length xs) turns ∙ f.follows.units.turn_places;
      };
      turns = λ g within. ap (λ (xs : List (Option ℕ)). slice_index_or xs (clutch_place (unit_of at g)) None) turns ∙ f.follows.turns g within;
    };
  }

  pub heaps_of_parts : (arena : Arena Item) (heaps : Heaps) (count : ℕ) → HeapsFollow arena heaps count s → HeapsFollow arena heaps count next
  heaps_of_parts arena heaps count f = record {
    six = f.six;
    lanes = λ b. lane_of_parts arena (lane_at heaps b) count b (f.lanes b);
    bound = λ b. subst (λ (es : List Queued). BoundFollows arena (bound_at heaps b) (filter (in_lane (lane b true)) es)) (sym entries) (f.bound b);
    foreign = subst (λ (es : List Queued). OffersEntries arena heaps.foreign es) (sym entries) f.foreign;
    loose = f.loose;
  }
