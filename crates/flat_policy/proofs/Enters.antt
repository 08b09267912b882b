-- Entering keeps a queue well-formed.
use Rattle.std.proofs.Common.{◌≡◌, ◌≢◌, ◌⊎◌, ℕ, ◌+◌, ◌<◌, ◌==◌, Bool, true, false, not, ◌||◌, List, [], ◌∷◌, ◌++◌, length, pos, negsuc, is_some, get_or, set, refl, sym, ap, ◌∙◌, subst, inl, inr, arith}
use Rattle.std.specs.List.{list_any}
use Rattle.std.proofs.lemmas.Bool.{cases_eq, cond_both, false≢true, false_from_ne_true, not-false, or_parts}
use Rattle.std.proofs.lemmas.List.{get_or-set_other, get_or-set_same, length-set}
use Rattle.std.proofs.lemmas.List.Elements.{Contains-push}
use Rattle.std.proofs.lemmas.List.Folds.{list_any-append}
use Rattle.sched_base.specs.declared.Facts.{Facts}
use Rattle.bucket_tables.specs.declared.Lane.{Lane}
use Rattle.flat_policy.specs.declared.setup.Times.{Times}
use Rattle.flat_policy.specs.Policy.Moves.{clutch_has_entries, entered, lanes_filled, new_entry, settled_thread, spans_with, turn_on_entering, with_entry, with_next_turn}
use Rattle.flat_policy.specs.Policy.Precedence.{clutch_priority}
use Rattle.flat_policy.specs.Policy.Queue.{Clutch, Flat, LaneState, Queued, clutch_of, clutch_place, has_entries, in_clutch, lane_of, no_spans, order_number, spans_of, unit_entries}
use Rattle.flat_policy.specs.Policy.Setup.{SetupParts, group_count}
use Rattle.flat_policy.specs.Policy.Threads.{ThreadFits}
use Rattle.flat_policy.specs.Policy.Usage.{Spans, with_spans}
use Rattle.flat_policy.specs.Policy.WellFormed.{SmallSpans}
use Rattle.flat_policy.specs.Policy.Windows.{at_lane, renewed_deadline}
use Rattle.flat_policy.proofs.Buckets.{in_clutch_parts, in_own_clutch, place_within}
use Rattle.flat_policy.proofs.KeptLanes.{at_lane_keeps, lane_names}
use Rattle.flat_policy.proofs.Members.{any_from_member}
use Rattle.flat_policy.proofs.Parts.{EntriesFit, PartsOf, SpansFit, push_fits}
use Rattle.flat_policy.proofs.Usage.{priority_within, with_spans_small}
use Rattle.flat_policy.proofs.Wholes.{PartsBut, any_of_filter, whole_as_is, whole_with_next}

or_nothing : (b : Bool) → (b || (false || false)) ≡ b
or_nothing true = refl
or_nothing false = refl

-- one more entry is in no other clutch bucket
one_more_any : (es : List Queued) (e : Queued) (k : Clutch) → in_clutch k e ≡ false → list_any (in_clutch k) es ≡ list_any (in_clutch k) (es ++ e ∷ [])
one_more_any es e k h =
    sym (list_any-append (in_clutch k) es (e ∷ []) ∙ (ap (λ b. list_any (in_clutch k) es || (b || false)) h ∙ or_nothing (list_any (in_clutch k) es)))

pub not_in_other : (e : Queued) (k : Clutch) → k ≢ clutch_of e.facts → in_clutch k e ≡ false
not_in_other e k other = false_from_ne_true (in_clutch k e) (λ t. other (sym (in_clutch_parts k e t).1))

pub bound_in_none : (e : Queued) (k : Clutch) → is_some e.facts.bound ≡ true → in_clutch k e ≡ false
bound_in_none e k h = false_from_ne_true (in_clutch k e) (λ t. false≢true (sym (in_clutch_parts k e t).0 ∙ h))

order_is : (head : Bool) (arrival : ℕ) → (order_number head arrival ≡ pos arrival) ⊎ (order_number head arrival ≡ negsuc arrival)
order_is true arrival = inr refl
order_is false arrival = inl refl

-- the numbers of use with those of one clutch bucket written anew
set_spans_fit : (groups : ℕ) (ss : List Spans) (k : Clutch) (more : Spans) → SpansFit groups ss → k.group < groups → SmallSpans more → SpansFit groups (set ss (clutch_place k) more)
set_spans_fit groups ss k more fit in' small = record {
  long = length-set ss (clutch_place k) more ∙ fit.long;
  small = λ l. elim (cases_eq (clutch_place l) (clutch_place k)) [
    | inl e ↦ subst SmallSpans (sym (ap (λ i. get_or (set ss (clutch_place k) more) i no_spans) e ∙ get_or-set_same ss (clutch_place k) more no_spans (omega (arith, place_within groups k in', fit.long)))) small
    | inr other ↦ subst SmallSpans (sym (get_or-set_other ss (clutch_place k) (clutch_place l) more no_spans other)) (fit.small l)
  ];
}

spans_kept : (setup : SetupParts) (s : Flat) (t : Facts) → SpansFit (group_count setup) s.spans → ThreadFits setup t → SpansFit (group_count setup) (spans_with s t)
spans_kept setup s t spans fit =
    let k : Clutch = clutch_of t in
    let more : Spans = with_spans (spans_of s k) t.pending_ran t.pending_blocked in
    cond_both (is_some t.bound) s.spans (set s.spans (clutch_place k) more) (SpansFit (group_count setup)) (λ e. spans)
    (λ e. set_spans_fit (group_count setup) s.spans k more spans fit.group (with_spans_small (spans_of s k) t.pending_ran t.pending_blocked (spans.small k) fit.pending_ran fit.pending_blocked))

lanes_kept : (ts : List Times) (now : ℕ) (s : Flat) (at : Lane) → lane_names (lanes_filled ts now s at) ≡ lane_names s.lanes
lanes_kept ts now s at =
    cond_both (has_entries s at) s.lanes (at_lane at (renewed_deadline ts now) s.lanes) (λ (ls : List LaneState). lane_names ls ≡ lane_names s.lanes)
    (λ e. refl) (λ e. at_lane_keeps at (renewed_deadline ts now) (λ l. refl) s.lanes)

-- the queue with the entry, but for the turn of its clutch bucket; a bound entry needs none
entry_fits : (setup : SetupParts) (ts : List Times) (t : Facts) (head : Bool) (now : ℕ) (s : Flat) → PartsOf (group_count setup) s → ThreadFits setup t → EntriesFit (group_count setup) (s.next_arrival + 1) (with_entry ts t head now s).entries
entry_fits setup ts t head now s p fit =
    let u : Facts = settled_thread now t in
    push_fits (group_count setup) s.next_arrival s.entries (new_entry s u head) p.entries_fit refl
    (record {
      order = order_is head s.next_arrival;
      group = fit.group;
      base = fit.base;
      priority = omega (arith, fit.base, priority_within u.base u.bucket u.usage (length (unit_entries s u) + 1));
    })

with_entry_but : (setup : SetupParts) (ts : List Times) (t : Facts) (head : Bool) (now : ℕ) (s : Flat) → PartsOf (group_count setup) s → ThreadFits setup t → PartsBut (group_count setup) (clutch_of t) (with_entry ts t head now s)
with_entry_but setup ts t head now s p fit =
    let e : Queued = new_entry s (settled_thread now t) head in
    record {
      group = fit.group;
      entries_fit = entry_fits setup ts t head now s p fit;
      turns_fit = p.turns_fit;
      turns_stand = λ k other gk. p.turns_stand k gk ∙ one_more_any s.entries e k (not_in_other e k other);
      spans_fit = spans_kept setup s t p.spans_fit fit;
      ten = lanes_kept ts now s (lane_of t) ∙ p.ten;
    }

with_bound_entry : (setup : SetupParts) (ts : List Times) (t : Facts) (head : Bool) (now : ℕ) (s : Flat) → PartsOf (group_count setup) s → ThreadFits setup t → is_some t.bound ≡ true → PartsOf (group_count setup) (with_entry ts t head now s)
with_bound_entry setup ts t head now s p fit bound =
    let e : Queued = new_entry s (settled_thread now t) head in
    record {
      entries_fit = entry_fits setup ts t head now s p fit;
      turns_fit = p.turns_fit;
      turns_stand = λ k gk. p.turns_stand k gk ∙ one_more_any s.entries e k (bound_in_none e k bound);
      spans_fit = spans_kept setup s t p.spans_fit fit;
      ten = lanes_kept ts now s (lane_of t) ∙ p.ten;
    }

own_clutch_filled : (ts : List Times) (t : Facts) (head : Bool) (now : ℕ) (s : Flat) → is_some t.bound ≡ false → list_any (in_clutch (clutch_of t)) (with_entry ts t head now s).entries ≡ true
own_clutch_filled ts t head now s free =
    let e : Queued = new_entry s (settled_thread now t) head in
    any_from_member (in_clutch (clutch_of t)) (s.entries ++ e ∷ []) e (Contains-push s.entries e) (in_own_clutch e free)

turn_fits : (setup : SetupParts) (ts : List Times) (t : Facts) (head : Bool) (now : ℕ) (s : Flat) → PartsOf (group_count setup) s → ThreadFits setup t → is_some t.bound ≡ false → PartsOf (group_count setup) (turn_on_entering s (clutch_of t) (with_entry ts t head now s))
turn_fits setup ts t head now s p fit free =
    let k : Clutch = clutch_of t in
    let after : Flat = with_entry ts t head now s in
    let but = with_entry_but setup ts t head now s p fit in
    let filled = own_clutch_filled ts t head now s free in
    let empty : Bool = not (clutch_has_entries s k) in
    let moved : Bool = not (clutch_priority s k == clutch_priority after k) in
    cond_both (empty || moved) (with_next_turn k after) after (PartsOf (group_count setup))
    (λ e. whole_with_next (group_count setup) k after but filled)
    (λ e. whole_as_is (group_count setup) k after but
    (p.turns_stand k fit.group ∙ (sym (any_of_filter (in_clutch k) s.entries) ∙ (not-false (clutch_has_entries s k) (or_parts empty moved e).0 ∙ sym filled))))

pub entered_fits : (setup : SetupParts) (ts : List Times) (t : Facts) (head : Bool) (now : ℕ) (s : Flat) → PartsOf (group_count setup) s → ThreadFits setup t → PartsOf (group_count setup) (entered ts t head now s)
entered_fits setup ts t head now s p fit =
    let after : Flat = with_entry ts t head now s in
    cond_both (is_some t.bound) after (turn_on_entering s (clutch_of t) after) (PartsOf (group_count setup))
    (λ e. with_bound_entry setup ts t head now s p fit e)
    (λ e. turn_fits setup ts t head now s p fit e)
