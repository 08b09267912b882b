-- The parts of a well-formed queue, for any number of entries, and how a list of entries keeps them.
use Rattle.std.proofs.Common.{◌≡◌, ◌≢◌, ℕ, ◌+◌, ◌*◌, ◌<◌, ◌≤◌, Bool, List, [], ◌∷◌, ◌++◌, filter, length, map, Option, None, is_some, get_or, sym, ap, ◌∙◌, subst, inl, inr, pos, negsuc, arith}
use Rattle.std.specs.List.{list_any}
use Rattle.std.proofs.lemmas.Bool.{cases_Bool, cond-true, cond-false}
use Rattle.std.proofs.lemmas.List.Elements.{Contains-push_cases}
use Rattle.sched_base.specs.Limits.{most_base, most_threads}
use Rattle.flat_policy.specs.Policy.Queue.{Clutch, Flat, LaneState, Queued, clutch_place, in_clutch, no_spans, timeshare_lanes}
use Rattle.flat_policy.specs.Policy.Usage.{Spans}
use Rattle.flat_policy.specs.Policy.WellFormed.{ArrivalsRise, EachQueued, HasOrderNumber, SmallSpans, TurnBelow, TurnsDiffer, WellFormed, WellFormedWithin}
use Rattle.flat_policy.proofs.Entries.{each_from_members, each_member}
use Rattle.flat_policy.proofs.KeptLanes.{lane_names}
use Rattle.flat_policy.proofs.Members.{member_of_filter}

-- the entries of a queue with so many groups, all arrived before the next
pub record EntriesFit (groups next : ℕ) (es : List Queued) : Type 0 where
  pub rise : ArrivalsRise es
  pub below : EachQueued (λ (e : Queued). e.arrival < next) es
  pub orders : EachQueued HasOrderNumber es
  pub grouped : EachQueued (λ (e : Queued). e.facts.group < groups) es
  pub based : EachQueued (λ (e : Queued). e.facts.base ≤ most_base) es
  pub priced : EachQueued (λ (e : Queued). e.pri ≤ most_base) es

-- what a clutch bucket used and for how long it was blocked, in a list of such
abbrev pub spans_in : List Spans → Clutch → Spans
spans_in spans k = get_or spans (clutch_place k) no_spans

-- the numbers of use of a queue with so many groups
pub record SpansFit (groups : ℕ) (spans : List Spans) : Type 0 where
  pub long : length spans ≡ groups * 6
  pub small : (k : Clutch) → SmallSpans (spans_in spans k)

-- the turn of a clutch bucket in a list of turns
abbrev pub turn_in : List (Option ℕ) → Clutch → Option ℕ
turn_in turns k = get_or turns (clutch_place k) None

-- the turns of a queue with so many groups
pub record TurnsFit (groups next : ℕ) (turns : List (Option ℕ)) : Type 0 where
  pub long : length turns ≡ groups * 6
  pub below : (k : Clutch) → TurnBelow next (turn_in turns k)
  pub differ : (k l : Clutch) → k ≢ l → k.group < groups → l.group < groups → TurnsDiffer (turn_in turns k) (turn_in turns l)

-- clutch buckets have turns where they have entries
abbrev pub TurnsStand : ℕ → List (Option ℕ) → List Queued → Type 0
TurnsStand groups turns es = (k : Clutch) → k.group < groups → is_some (turn_in turns k) ≡ list_any (in_clutch k) es

-- the same of all clutch buckets but one
abbrev pub TurnsStandBut : ℕ → Clutch → List (Option ℕ) → List Queued → Type 0
TurnsStandBut groups but turns es = (k : Clutch) → k ≢ but → k.group < groups → is_some (turn_in turns k) ≡ list_any (in_clutch k) es

-- all of a well-formed queue, except how many entries it has
pub record Parts (groups : ℕ) (entries : List Queued) (spans : List Spans) (turns : List (Option ℕ)) (lanes : List LaneState) (next_arrival next_turn : ℕ) : Type 0 where
  pub entries_fit : EntriesFit groups next_arrival entries
  pub turns_fit : TurnsFit groups next_turn turns
  pub turns_stand : TurnsStand groups turns entries
  pub spans_fit : SpansFit groups spans
  pub ten : lane_names lanes ≡ timeshare_lanes

abbrev pub PartsOf : ℕ → Flat → Type 0
PartsOf groups s = Parts groups s.entries s.spans s.turns s.lanes s.next_arrival s.next_turn

pub parts_within : (limit groups : ℕ) (s : Flat) → WellFormedWithin limit groups s → PartsOf groups s
parts_within limit groups s w = record {
  entries_fit = record { rise = w.arrivals_rise; below = w.arrivals_below; orders = w.order_numbers; grouped = w.groups_below; based = w.bases_within; priced = w.priorities_within };
  turns_fit = record { long = w.turns_length; below = w.turns_below; differ = w.turns_differ };
  turns_stand = w.turns_where_entries;
  spans_fit = record { long = w.spans_length; small = w.spans_small };
  ten = w.ten_lanes;
}

pub parts_of : (groups : ℕ) (s : Flat) → WellFormed groups s → PartsOf groups s
parts_of groups s w = parts_within most_threads groups s w

pub well_formed_within : (limit groups : ℕ) (s : Flat) → length s.entries ≤ limit → PartsOf groups s → WellFormedWithin limit groups s
well_formed_within limit groups s few p = record {
  few = few;
  arrivals_rise = p.entries_fit.rise;
  arrivals_below = p.entries_fit.below;
  order_numbers = p.entries_fit.orders;
  groups_below = p.entries_fit.grouped;
  bases_within = p.entries_fit.based;
  priorities_within = p.entries_fit.priced;
  turns_below = p.turns_fit.below;
  turns_differ = p.turns_fit.differ;
  turns_where_entries = p.turns_stand;
  spans_length = p.spans_fit.long;
  spans_small = p.spans_fit.small;
  turns_length = p.turns_fit.long;
  ten_lanes = p.ten;
}

pub well_formed_from : (groups : ℕ) (s : Flat) → length s.entries ≤ most_threads → PartsOf groups s → WellFormed groups s
well_formed_from groups s few p = well_formed_within most_threads groups s few p

-- entries of a filter, of one more, and with other prices
pub each_filter : (P : Queued → Type 0) (p : Queued → Bool) (es : List Queued) → EachQueued P es → EachQueued P (filter p es)
each_filter P p es each = each_from_members P (filter p es) (λ e c. each_member P es each e (member_of_filter p es e c).0)

pub each_weaker : (P Q : Queued → Type 0) (es : List Queued) → ((e : Queued) → P e → Q e) → EachQueued P es → EachQueued Q es
each_weaker P Q es h each = each_from_members Q es (λ e c. h e (each_member P es each e c))

pub each_push : (P : Queued → Type 0) (es : List Queued) (e : Queued) → EachQueued P es → P e → EachQueued P (es ++ e ∷ [])
each_push P es e each p = each_from_members P (es ++ e ∷ []) (λ f c. elim (Contains-push_cases es e f c) [
  | inl d ↦ each_member P es each f d
  | inr is ↦ subst P is p
])

rise_filter : (p : Queued → Bool) (es : List Queued) → ArrivalsRise es → ArrivalsRise (filter p es)
rise_filter p [] rise = tt
rise_filter p (e ∷ es) rise =
    elim (cases_Bool (p e)) [
      | inl h ↦ subst ArrivalsRise (sym (cond-true (p e) (e ∷ filter p es) (filter p es) h))
          (each_filter (λ (f : Queued). e.arrival < f.arrival) p es rise.0, rise_filter p es rise.1)
      | inr h ↦ subst ArrivalsRise (sym (cond-false (p e) (e ∷ filter p es) (filter p es) h)) (rise_filter p es rise.1)
    ]

rise_push : (es : List Queued) (e : Queued) → ArrivalsRise es → EachQueued (λ (f : Queued). f.arrival < e.arrival) es → ArrivalsRise (es ++ e ∷ [])
rise_push [] e rise below = (tt, tt)
rise_push (f ∷ fs) e rise below = (each_push (λ (g : Queued). f.arrival < g.arrival) fs e rise.0 below.0, rise_push fs e rise.1 below.1)

pub filter_fits : (groups next : ℕ) (p : Queued → Bool) (es : List Queued) → EntriesFit groups next es → EntriesFit groups next (filter p es)
filter_fits groups next p es fit = record {
  rise = rise_filter p es fit.rise;
  below = each_filter (λ (e : Queued). e.arrival < next) p es fit.below;
  orders = each_filter HasOrderNumber p es fit.orders;
  grouped = each_filter (λ (e : Queued). e.facts.group < groups) p es fit.grouped;
  based = each_filter (λ (e : Queued). e.facts.base ≤ most_base) p es fit.based;
  priced = each_filter (λ (e : Queued). e.pri ≤ most_base) p es fit.priced;
}

-- an entry fits a queue with so many groups
pub record EntryFits (groups : ℕ) (e : Queued) : Type 0 where
  pub order : HasOrderNumber e
  pub group : e.facts.group < groups
  pub base : e.facts.base ≤ most_base
  pub priority : e.pri ≤ most_base

pub push_fits : (groups next : ℕ) (es : List Queued) (e : Queued) → EntriesFit groups next es → e.arrival ≡ next → EntryFits groups e → EntriesFit groups (next + 1) (es ++ e ∷ [])
push_fits groups next es e fit now one = record {
  rise = rise_push es e fit.rise (each_weaker (λ (f : Queued). f.arrival < next) (λ (f : Queued). f.arrival < e.arrival) es (λ f h. omega (arith, h, now)) fit.below);
  below = each_push (λ (f : Queued). f.arrival < next + 1) es e
      (each_weaker (λ (f : Queued). f.arrival < next) (λ (f : Queued). f.arrival < next + 1) es (λ f h. omega (arith, h)) fit.below)
      (omega (arith, now));
  orders = each_push HasOrderNumber es e fit.orders one.order;
  grouped = each_push (λ (f : Queued). f.facts.group < groups) es e fit.grouped one.group;
  based = each_push (λ (f : Queued). f.facts.base ≤ most_base) es e fit.based one.base;
  priced = each_push (λ (f : Queued). f.pri ≤ most_base) es e fit.priced one.priority;
}

-- a function of entries that leaves when they arrived, their order, group and base, and no priority above the highest
pub record KeepsPlace (f : Queued → Queued) : Type 0 where
  pub arrival : (e : Queued) → (f e).arrival ≡ e.arrival
  pub order : (e : Queued) → (f e).order ≡ e.order
  pub group : (e : Queued) → (f e).facts.group ≡ e.facts.group
  pub base : (e : Queued) → (f e).facts.base ≡ e.facts.base
  pub priority : (e : Queued) → e.facts.base ≤ most_base → e.pri ≤ most_base → (f e).pri ≤ most_base

pub each_map : (P Q : Queued → Type 0) (f : Queued → Queued) → ((e : Queued) → P e → Q (f e)) → (es : List Queued) → EachQueued P es → EachQueued Q (map f es)
each_map P Q f h [] each = tt
each_map P Q f h (e ∷ es) each = (h e each.0, each_map P Q f h es each.1)

each_both : (P Q : Queued → Type 0) (es : List Queued) → EachQueued P es → EachQueued Q es → EachQueued (λ (e : Queued). P e × Q e) es
each_both P Q es p q = each_from_members (λ (e : Queued). P e × Q e) es (λ e c. (each_member P es p e c, each_member Q es q e c))

rise_map : (f : Queued → Queued) → KeepsPlace f → (es : List Queued) → ArrivalsRise es → ArrivalsRise (map f es)
rise_map f k [] rise = tt
rise_map f k (e ∷ es) rise = (
  each_map (λ (g : Queued). e.arrival < g.arrival) (λ (g : Queued). (f e).arrival < g.arrival) f (λ g h. omega (arith, h, k.arrival e, k.arrival g)) es rise.0,
  rise_map f k es rise.1,
)

order_kept : (f : Queued → Queued) → KeepsPlace f → (e : Queued) → HasOrderNumber e → HasOrderNumber (f e)
order_kept f k e (inl h) = inl (k.order e ∙ (h ∙ ap pos (sym (k.arrival e))))
order_kept f k e (inr h) = inr (k.order e ∙ (h ∙ ap negsuc (sym (k.arrival e))))

pub map_fits : (groups next : ℕ) (f : Queued → Queued) → KeepsPlace f → (es : List Queued) → EntriesFit groups next es → EntriesFit groups next (map f es)
map_fits groups next f k es fit = record {
  rise = rise_map f k es fit.rise;
  below = each_map (λ (e : Queued). e.arrival < next) (λ (e : Queued). e.arrival < next) f (λ e h. omega (arith, h, k.arrival e)) es fit.below;
  orders = each_map HasOrderNumber HasOrderNumber f (order_kept f k) es fit.orders;
  grouped = each_map (λ (e : Queued). e.facts.group < groups) (λ (e : Queued). e.facts.group < groups) f (λ e h. omega (arith, h, k.group e)) es fit.grouped;
  based = each_map (λ (e : Queued). e.facts.base ≤ most_base) (λ (e : Queued). e.facts.base ≤ most_base) f (λ e h. omega (arith, h, k.base e)) es fit.based;
  priced = each_map (λ (e : Queued). (e.facts.base ≤ most_base) × (e.pri ≤ most_base)) (λ (e : Queued). e.pri ≤ most_base) f (λ e h. k.priority e h.0 h.1) es
      (each_both (λ (e : Queued). e.facts.base ≤ most_base) (λ (e : Queued). e.pri ≤ most_base) es fit.based fit.priced);
}
