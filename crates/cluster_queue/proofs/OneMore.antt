-- A cluster's queue with one entry more, which comes last, and what stays of it elsewhere.
use Rattle.std.proofs.Common.{◌≡◌, ◌≢◌, ℕ, Bool, true, false, List, [], ◌∷◌, ◌++◌, filter, get_or, is_some, length, refl, sym, ap, ◌∙◌}
use Rattle.std.proofs.lemmas.Bool.{cond-true, cond-false, false_from_ne_true, true≢false}
use Rattle.std.proofs.lemmas.List.{append-nil, get_or-set_other, length-set}
use Rattle.std.proofs.lemmas.List.Elements.{filter-append}
use Rattle.sched_base.specs.declared.Bucket.{Bucket}
use Rattle.flat_policy.specs.Policy.Queue.{Clutch, Flat, Queued, clutch_of, clutch_place, in_clutch, in_lane, lane, no_spans, spans_of, turn_of}
use Rattle.flat_policy.specs.Policy.Usage.{Spans, with_spans}
use Rattle.thread_queue.specs.Item.{entry_of}
use Rattle.thread_queue.specs.declared.item.Item.{Item}
use Rattle.clutch_bucket.specs.Lane.{Lane, unit_of, with_unit_entry}
use Rattle.clutch_bucket.specs.Laws.{SameClutches}
use Rattle.cluster_queue.specs.Moves.{with_item}
use Rattle.cluster_queue.proofs.Buckets.{lane_of_clutch}
use Rattle.cluster_queue.proofs.ItemClutches.{places_differ}
use Rattle.cluster_queue.proofs.KeptRest.{before_turn}
use Rattle.cluster_queue.proofs.OnlyTurns.{OnlyTurns, turns_on_entering}

-- an entry that comes last comes last of those that pass a test, or is none of them
pub comes_last : (p : Queued → Bool) (es : List Queued) (e : Queued) → p e ≡ true → filter p (es ++ e ∷ []) ≡ filter p es ++ e ∷ []
comes_last p es e h = filter-append p es (e ∷ []) ∙ ap (λ (more : List Queued). filter p es ++ more) (cond-true (p e) (e ∷ []) [] h)

pub not_there : (p : Queued → Bool) (es : List Queued) (e : Queued) → p e ≡ false → filter p (es ++ e ∷ []) ≡ filter p es
not_there p es e h =
    filter-append p es (e ∷ [])
    ∙ (ap (λ (more : List Queued). filter p es ++ more) (cond-false (p e) (e ∷ []) [] h) ∙ append-nil (filter p es))

-- the queue has the entry, too, and places for as many clutch buckets
pub record HasOneMore (s next : Flat) (e : Queued) : Type 0 where
  pub entries : next.entries ≡ s.entries ++ e ∷ []
  pub span_places : length next.spans ≡ length s.spans
  pub turn_places : length next.turns ≡ length s.turns

-- spans and turns of the clutch buckets of a bucket stay
pub record NumbersStay (s next : Flat) (b : Bucket) : Type 0 where
  pub spans : (l : Clutch) → l.bucket ≡ b → spans_of next l ≡ spans_of s l
  pub turns : (l : Clutch) → l.bucket ≡ b → turn_of next l ≡ turn_of s l

-- a bound item's entry
pub with_bound : (ran blocked : ℕ) (item : Item) (s : Flat) → is_some item.thread.bound ≡ true → with_item ran blocked item s ≡ record s { entries = s.entries ++ entry_of item ∷ [] }
with_bound ran blocked item s h =
    cond-true (is_some item.thread.bound) (record s { entries = s.entries ++ entry_of item ∷ [] }) (with_unit_entry ran blocked item s) h

pub one_more_bound : (s : Flat) (e : Queued) → HasOneMore s (record s { entries = s.entries ++ e ∷ [] }) e
one_more_bound s e = record { entries = refl; span_places = refl; turn_places = refl }

pub numbers_bound : (s : Flat) (e : Queued) (b : Bucket) → NumbersStay s (record s { entries = s.entries ++ e ∷ [] }) b
numbers_bound s e b = record { spans = λ l is. refl; turns = λ l is. refl }

-- an unbound item's entry
pub with_unbound : (ran blocked : ℕ) (item : Item) (s : Flat) → is_some item.thread.bound ≡ false → with_item ran blocked item s ≡ with_unit_entry ran blocked item s
with_unbound ran blocked item s h =
    cond-false (is_some item.thread.bound) (record s { entries = s.entries ++ entry_of item ∷ [] }) (with_unit_entry ran blocked item s) h

-- the clutch bucket takes the next turn, or none
turn_is : (ran blocked : ℕ) (item : Item) (s : Flat) → OnlyTurns (clutch_of item.thread) (before_turn ran blocked item s) (with_unit_entry ran blocked item s)
turn_is ran blocked item s = turns_on_entering (clutch_of item.thread) (before_turn ran blocked item s) s

pub one_more_unbound : (ran blocked : ℕ) (item : Item) (s : Flat) → HasOneMore s (with_unit_entry ran blocked item s) (entry_of item)
one_more_unbound ran blocked item s =
    let k = clutch_of item.thread in
    let t = turn_is ran blocked item s in
    record {
      entries = t.entries;
      span_places = ap (λ (us : List Spans). length us) t.spans ∙ length-set s.spans (clutch_place k) (with_spans (spans_of s k) ran blocked);
      turn_places = t.places;
    }

pub numbers_unbound : (ran blocked : ℕ) (item : Item) (s : Flat) (b : Bucket) → item.thread.bucket ≢ b → NumbersStay s (with_unit_entry ran blocked item s) b
numbers_unbound ran blocked item s b n =
    let k = clutch_of item.thread in
    let t = turn_is ran blocked item s in
    let apart = λ (l : Clutch) (is : l.bucket ≡ b). places_differ k l (λ same. n (same ∙ is)) in
    record {
      spans = λ l is. ap (λ (us : List Spans). get_or us (clutch_place l) no_spans) t.spans
          ∙ get_or-set_other s.spans (clutch_place k) (clutch_place l) (with_spans (spans_of s k) ran blocked) no_spans (apart l is);
      turns = λ l is. t.others l (apart l is);
    }

-- a lane that has not the entry has the same clutch buckets
pub same_clutches : (at : Lane) (s next : Flat) (e : Queued) → HasOneMore s next e → NumbersStay s next at.bucket → in_lane (lane at.bucket false) e ≡ false → SameClutches at s next
same_clutches at s next e more stay none =
    let clutch_none = λ (g : ℕ). false_from_ne_true (in_clutch (unit_of at g) e) (λ h. true≢false (sym (lane_of_clutch (unit_of at g) e h) ∙ none)) in
    record {
      each = λ g within. record {
        entries = ap (filter (in_clutch (unit_of at g))) more.entries ∙ not_there (in_clutch (unit_of at g)) s.entries e (clutch_none g);
        spans = stay.spans (unit_of at g) refl;
        turn = stay.turns (unit_of at g) refl;
      };
      len = ap (λ (es : List Queued). length es) (ap (filter (in_lane (lane at.bucket false))) more.entries ∙ not_there (in_lane (lane at.bucket false)) s.entries e none);
      span_places = more.span_places;
      turn_places = more.turn_places;
    }
