-- What stays of a cluster's queue where an item comes to its entries or leaves them, and its clutch bucket's turn goes by the rule.
use Rattle.std.proofs.Common.{◌≡◌, ℕ, Bool, not, cond, ◌||◌, ◌==◌, List, [], ◌∷◌, ◌++◌, is_some, set, refl}
use Rattle.std.proofs.lemmas.Bool.{cond_both}
use Rattle.flat_policy.specs.Policy.Moves.{clutch_has_entries, turn_on_entering, turn_on_leaving, turn_on_selection, with_next_turn, without, without_turn}
use Rattle.flat_policy.specs.Policy.Precedence.{clutch_priority}
use Rattle.flat_policy.specs.Policy.Queue.{Clutch, Flat, Queued, clutch_of, clutch_place, spans_of}
use Rattle.flat_policy.specs.Policy.Usage.{with_spans}
use Rattle.thread_queue.specs.Item.{entry_of}
use Rattle.thread_queue.specs.declared.item.Item.{Item}
use Rattle.clutch_bucket.specs.Lane.{with_unit_entry, without_unit_entry}
use Rattle.cluster_queue.specs.Moves.{with_item, without_item}

-- the entries are these; windows, the last moment, the next arrival and the switch stay
pub record KeepsRest (s next : Flat) (es : List Queued) : Type 0 where
  pub entries : next.entries ≡ es
  pub lanes : next.lanes ≡ s.lanes
  pub last : next.last ≡ s.last
  pub next_arrival : next.next_arrival ≡ s.next_arrival
  pub on : next.on ≡ s.on

-- a turn is taken or lost
module _ (s next : Flat) (es : List Queued) (k : Clutch) (h : KeepsRest s next es) where
  taking_keeps : KeepsRest s (with_next_turn k next) es
  taking_keeps = record { entries = h.entries; lanes = h.lanes; last = h.last; next_arrival = h.next_arrival; on = h.on }

  losing_keeps : KeepsRest s (without_turn k next) es
  losing_keeps = record { entries = h.entries; lanes = h.lanes; last = h.last; next_arrival = h.next_arrival; on = h.on }

  entering_keeps : KeepsRest s (turn_on_entering s k next) es
  entering_keeps =
      cond_both (not (clutch_has_entries s k) || not (clutch_priority s k == clutch_priority next k)) (with_next_turn k next) next (λ (n : Flat). KeepsRest s n es)
      (λ _. taking_keeps) (λ _. h)

  leaving_keeps : KeepsRest s (turn_on_leaving s k next) es
  leaving_keeps =
      let same = clutch_priority s k == clutch_priority next k in
      cond_both (not (clutch_has_entries next k)) (without_turn k next) (cond same next (with_next_turn k next)) (λ (n : Flat). KeepsRest s n es)
      (λ _. losing_keeps) (λ _. cond_both same next (with_next_turn k next) (λ (n : Flat). KeepsRest s n es) (λ _. h) (λ _. taking_keeps))

  selection_keeps : KeepsRest s (turn_on_selection k next) es
  selection_keeps =
      cond_both (clutch_has_entries next k) (with_next_turn k next) (without_turn k next) (λ (n : Flat). KeepsRest s n es) (λ _. taking_keeps) (λ _. losing_keeps)

-- the queue with an unbound item's entry and spans, before the turn
abbrev pub before_turn : ℕ → ℕ → Item → Flat → Flat
before_turn ran blocked item s =
    let k : Clutch = clutch_of item.thread
    in record s { entries = s.entries ++ entry_of item ∷ []; spans = set s.spans (clutch_place k) (with_spans (spans_of s k) ran blocked) }

-- an item enters
pub with_item_keeps : (ran blocked : ℕ) (item : Item) (s : Flat) → KeepsRest s (with_item ran blocked item s) (s.entries ++ entry_of item ∷ [])
with_item_keeps ran blocked item s =
    let es : List Queued = s.entries ++ entry_of item ∷ [] in
    cond_both (is_some item.thread.bound) (record s { entries = es }) (with_unit_entry ran blocked item s) (λ (n : Flat). KeepsRest s n es)
    (λ _. record { entries = refl; lanes = refl; last = refl; next_arrival = refl; on = refl })
    (λ _. entering_keeps s (before_turn ran blocked item s) es (clutch_of item.thread) (record { entries = refl; lanes = refl; last = refl; next_arrival = refl; on = refl }))

-- an item leaves, picked or not
pub without_item_keeps : (picked : Bool) (item : Item) (s : Flat) → KeepsRest s (without_item picked item s) (without item.arrival s.entries)
without_item_keeps picked item s =
    let es : List Queued = without item.arrival s.entries in
    let left : Flat = record s { entries = es } in
    let k : Clutch = clutch_of item.thread in
    let keeps : KeepsRest s left es = record { entries = refl; lanes = refl; last = refl; next_arrival = refl; on = refl } in
    cond_both (is_some item.thread.bound) left (without_unit_entry picked item s) (λ (n : Flat). KeepsRest s n es)
    (λ _. keeps)
    (λ _. cond_both picked (turn_on_selection k left) (turn_on_leaving s k left) (λ (n : Flat). KeepsRest s n es)
    (λ _. selection_keeps s left es k keeps) (λ _. leaving_keeps s left es k keeps))
