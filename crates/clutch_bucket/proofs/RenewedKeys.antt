-- The keys of a lane that are renewed one after the other, and the turns of the clutch buckets that they follow.
use Rattle.std.proofs.Common.{◌≡◌, ℕ, zero, suc, ◌+◌, ◌<◌, ◌≤◌, false, Option, None, List, [], ◌∷◌, ◌++◌, fold, get_or, length, map, set, refl, sym, ap, ap₂, ◌∙◌, subst, inl, inr, arith}
use Rattle.std.proofs.lemmas.Bool.{cases_eq}
use Rattle.std.proofs.lemmas.List.{get_or-set_other, get_or-set_same, length-set, map-append}
use Rattle.std.proofs.lemmas.List.Sums.{fold-append}
use Rattle.sched_base.specs.declared.Bucket.{Bucket}
use Rattle.flat_policy.specs.Laws.Refreshing.{with_turns_of}
use Rattle.flat_policy.specs.Policy.Moves.{clutch_has_entries}
use Rattle.flat_policy.specs.Policy.Precedence.{clutch_priority}
use Rattle.flat_policy.specs.Policy.Queue.{Clutch, Flat, Queued, clutch_place, turn_of}
use Rattle.flat_policy.specs.Policy.Refresh.{turn_on_refresh}
use Rattle.flat_policy.specs.Policy.Setup.{numbers_from}
use Rattle.flat_policy.specs.Policy.Usage.{Spans}
use Rattle.link_arena.specs.Arena.{Arena}
use Rattle.pairing_heap.specs.Laws.{FirstIsLeast, HeldAreLive}
use Rattle.thread_queue.specs.Item.{key_of_item, key_precedes}
use Rattle.thread_queue.specs.declared.item.Item.{Item}
use Rattle.clutch_bucket.specs.Lane.{Follows, Lane, LaneStands, UnitsStand, groups, queue_at, rank_at, rank_pri, rank_turn, spans_at, top_at, unit_of}
use Rattle.clutch_bucket.specs.Renewing.{KeysAreOf, renewed_rank, renewed_turn, top_of, turned}
use Rattle.clutch_bucket.specs.declared.ranks.UnitKey.{UnitKey}
use Rattle.clutch_bucket.proofs.Clutches.{place_within, places_differ}
use Rattle.clutch_bucket.proofs.Entered.{rises_by}
use Rattle.clutch_bucket.proofs.Lanes.{follow_alike}
use Rattle.clutch_bucket.proofs.Tops.{unit_top}
use Rattle.clutch_bucket.proofs.Turns.{only_turns, other_turn, refreshing, renewed_pri, renewed_turn_is}

numbers_more : (n first : ℕ) → numbers_from first (suc n) ≡ numbers_from first n ++ (first + n) ∷ []
numbers_more zero first = let e : first ≡ first + 0 = omega arith in ap (λ (m : ℕ). m ∷ []) e
numbers_more (suc n) first =
    let e : suc first + n ≡ first + suc n = omega arith in
    ap (λ (ms : List ℕ). first ∷ ms) (numbers_more n (suc first) ∙ ap (λ (m : ℕ). numbers_from (suc first) n ++ m ∷ []) e)

abbrev group_clutch : Bucket → ℕ → Clutch
group_clutch b g = record { group = g; bucket = b }

-- one more clutch bucket takes its turn
turns_more : (n : ℕ) (s p : Flat) (b : Bucket) → with_turns_of (suc n) s p b ≡ turn_on_refresh s (with_turns_of n s p b) (record { group = n; bucket = b })
turns_more n s p b =
    let e : 0 + n ≡ n = omega arith in
    ap (λ (ms : List ℕ). fold (turn_on_refresh s) p (map (group_clutch b) ms)) (numbers_more n 0)
    ∙ (ap (fold (turn_on_refresh s) p) (map-append (group_clutch b) (numbers_from 0 n) ((0 + n) ∷ []))
    ∙ (fold-append (turn_on_refresh s) p (map (group_clutch b) (numbers_from 0 n)) (map (group_clutch b) ((0 + n) ∷ []))
    ∙ ap (λ (m : ℕ). turn_on_refresh s (with_turns_of n s p b) (record { group = m; bucket = b })) e))

-- what a cluster's queue shares with the one whose turns are renewed, and its turns by these keys
pub record TurnedTo (at : Lane) (ranks : List (Option UnitKey)) (x p : Flat) (turn : ℕ) : Type 0 where
  pub entries : x.entries ≡ p.entries
  pub spans : x.spans ≡ p.spans
  pub places : length x.turns ≡ length p.turns
  pub turns : (h : ℕ) → h < groups at → turn_of x (unit_of at h) ≡ rank_turn (get_or ranks h None)
  pub next : turn ≡ x.next_turn

-- the keys below a group are renewed, and the others not yet
pub record RenewedTo (arena : Arena Item) (at : Lane) (ranks : List (Option UnitKey)) (i start turn : ℕ) : Type 0 where
  pub places : length ranks ≡ groups at
  pub done : (h : ℕ) → h < i → rank_pri (get_or ranks h None) ≡ top_at arena at h
  pub rest : (h : ℕ) → i ≤ h → get_or ranks h None ≡ rank_at at h
  pub low : start ≤ turn
  pub high : turn ≤ start + i
  pub follows : (s p : Flat) → KeysAreOf arena at s p → start ≡ p.next_turn → TurnedTo at ranks (with_turns_of i s p at.bucket) p turn

pub none_renewed : (arena : Arena Item) (at : Lane) (turn : ℕ) → UnitsStand arena at → RenewedTo arena at at.ranks 0 turn turn
none_renewed arena at turn stands = record {
  places = stands.ranks;
  done = λ h below. absurd (omega (arith, below));
  rest = λ h from. refl;
  low = omega arith;
  high = omega arith;
  follows = λ s p keys same. record { entries = refl; spans = refl; places = refl; turns = keys.turns; next = same };
}

top_alike : (x p : Flat) (k : Clutch) → x.entries ≡ p.entries → x.spans ≡ p.spans → top_of x k ≡ top_of p k
top_alike x p k entries spans = ap₂ (λ (es : List Queued) (us : List Spans). top_of (record p { entries = es; spans = us }) k) entries spans

module _ (held : HeldAreLive 0 key_of_item key_precedes) (least : FirstIsLeast 0 key_of_item key_precedes) (arena : Arena Item) (at : Lane) (stands : UnitsStand arena at) (ranks : List (Option UnitKey)) (i start turn : ℕ) (within : i < groups at) (r : RenewedTo arena at ranks i start turn) where
  turned_more : (s p : Flat) → KeysAreOf arena at s p → start ≡ p.next_turn
      → TurnedTo at (set ranks i (renewed_rank false turn (get_or ranks i None) (top_at arena at i))) (with_turns_of (suc i) s p at.bucket) p (renewed_turn false turn (get_or ranks i None) (top_at arena at i))
  turned_more s p keys same =
      let old = get_or ranks i None in
      let top = top_at arena at i in
      let k = unit_of at i in
      let before = r.follows s p keys same in
      let x = with_turns_of i s p at.bucket in
      let unit = keys.follow.each i within in
      let shows : top ≡ top_of x k = unit_top held least arena (queue_at at i) p k (spans_at at i) (stands.each i within).stands unit.entries unit.spans ∙ sym (top_alike x p k before.entries before.spans) in
      let has : clutch_has_entries x k ≡ clutch_has_entries s k = ap (λ (es : List Queued). clutch_has_entries (record p { entries = es }) k) before.entries ∙ keys.kept i within in
      let pri : clutch_priority x k ≡ clutch_priority p k = ap₂ (λ (es : List Queued) (us : List Spans). clutch_priority (record p { entries = es; spans = us }) k) before.entries before.spans in
      let y = turned false old top k x in
      let is : with_turns_of (suc i) s p at.bucket ≡ y =
      turns_more i s p at.bucket
      ∙ (refreshing old s x k (ap rank_pri (r.rest i (omega arith)) ∙ keys.ranks i within) has (λ none. keys.empty i within none ∙ sym pri) (before.turns i within)
      ∙ ap (λ (t : Option ℕ). turned false old t k x) (sym shows)) in
      let only = only_turns false old top k x in
      let place : clutch_place k < length x.turns = subst (λ (m : ℕ). clutch_place k < m) (sym (before.places ∙ keys.follow.turn_places)) (place_within (groups at) i at.bucket within) in
      record {
        entries = ap (λ (f : Flat). f.entries) is ∙ (only.entries ∙ before.entries);
        spans = ap (λ (f : Flat). f.spans) is ∙ (only.spans ∙ before.spans);
        places = ap (λ (f : Flat). length f.turns) is ∙ (only.places ∙ before.places);
        turns = λ h inside. elim (cases_eq h i) [
          | inl e ↦ subst (λ (j : ℕ). turn_of (with_turns_of (suc i) s p at.bucket) (unit_of at j) ≡ rank_turn (get_or (set ranks i (renewed_rank false turn old top)) j None)) (sym e)
              (ap (λ (f : Flat). turn_of f k) is
              ∙ (renewed_turn_is false old top k x place (before.turns i within)
              ∙ (ap (λ (t : ℕ). rank_turn (renewed_rank false t old top)) (sym before.next)
              ∙ ap rank_turn (sym (get_or-set_same ranks i (renewed_rank false turn old top) None (subst (λ (m : ℕ). i < m) (sym r.places) within))))))
          | inr other ↦ ap (λ (f : Flat). turn_of f (unit_of at h)) is
              ∙ (other_turn false old top k (unit_of at h) x (places_differ i h at.bucket other)
              ∙ (before.turns h inside ∙ ap rank_turn (sym (get_or-set_other ranks i h (renewed_rank false turn old top) None other))))
        ];
        next = ap (λ (t : ℕ). renewed_turn false t old top) before.next ∙ (sym only.next ∙ ap (λ (f : Flat). f.next_turn) (sym is));
      }

  pub renews_one : RenewedTo arena at (set ranks i (renewed_rank false turn (get_or ranks i None) (top_at arena at i))) (suc i) start (renewed_turn false turn (get_or ranks i None) (top_at arena at i))
  renews_one =
      let old = get_or ranks i None in
      let top = top_at arena at i in
      let rises = rises_by false turn (renewed_turn false turn old top) old top refl in
      let low = r.low in
      let high = r.high in
      record {
        places = length-set ranks i (renewed_rank false turn old top) ∙ r.places;
        done = λ h below. elim (cases_eq h i) [
          | inl e ↦ subst (λ (j : ℕ). rank_pri (get_or (set ranks i (renewed_rank false turn old top)) j None) ≡ top_at arena at j) (sym e)
              (ap rank_pri (get_or-set_same ranks i (renewed_rank false turn old top) None (subst (λ (m : ℕ). i < m) (sym r.places) within)) ∙ renewed_pri false turn old top)
          | inr other ↦ ap rank_pri (get_or-set_other ranks i h (renewed_rank false turn old top) None other) ∙ r.done h (omega (arith, below, other))
        ];
        rest = λ h from. get_or-set_other ranks i h (renewed_rank false turn old top) None (λ e. omega (arith, e, from)) ∙ r.rest h (omega (arith, from));
        low = omega (arith, low, rises.0);
        high = omega (arith, high, rises.1);
        follows = turned_more;
      }

-- once all are renewed the lane stands, and follows
pub all_stand : (arena : Arena Item) (at : Lane) (ranks : List (Option UnitKey)) (i start turn : ℕ) → UnitsStand arena at → groups at ≤ i → RenewedTo arena at ranks i start turn → LaneStands arena (record at { ranks = ranks })
all_stand arena at ranks i start turn stands all r = record {
  units = record { spans = stands.spans; ranks = r.places; each = stands.each; counted = stands.counted };
  ranks = λ h within. r.done h (omega (arith, within, all));
}

pub all_follow : (arena : Arena Item) (at : Lane) (ranks : List (Option UnitKey)) (start turn : ℕ) → UnitsStand arena at → RenewedTo arena at ranks (groups at) start turn → (s p : Flat) → KeysAreOf arena at s p → start ≡ p.next_turn
    → Follows arena (record at { ranks = ranks }) (with_turns_of (groups at) s p at.bucket) × (turn ≡ (with_turns_of (groups at) s p at.bucket).next_turn)
all_follow arena at ranks start turn stands r s p keys same =
    let last = r.follows s p keys same in
    let units = follow_alike arena at p (with_turns_of (groups at) s p at.bucket) last.entries last.spans last.places keys.follow in (
      record {
        stands = all_stand arena at ranks (groups at) start turn stands (omega arith) r;
        units = record { each = units.each; len = units.len; span_places = units.span_places; turn_places = units.turn_places };
        turns = last.turns;
      },
      last.next,
    )

pub units_with : (arena : Arena Item) (at : Lane) (ranks : List (Option UnitKey)) → UnitsStand arena at → length ranks ≡ groups at → UnitsStand arena (record at { ranks = ranks })
units_with arena at ranks stands places = record { spans = stands.spans; ranks = places; each = stands.each; counted = stands.counted }

pub all_follow_by : (arena : Arena Item) (at last : Lane) (i start turn : ℕ) → UnitsStand arena at → last ≡ record at { ranks = last.ranks } → i ≡ groups at → RenewedTo arena at last.ranks i start turn → (s p : Flat) → KeysAreOf arena at s p → start ≡ p.next_turn
    → Follows arena last (with_turns_of (groups at) s p at.bucket) × (turn ≡ (with_turns_of (groups at) s p at.bucket).next_turn)
all_follow_by arena at last i start turn stands is all r s p keys same =
    let whole = all_follow arena at last.ranks start turn stands (subst (λ (j : ℕ). RenewedTo arena at last.ranks j start turn) all r) s p keys same in
    (subst (λ (l : Lane). Follows arena l (with_turns_of (groups at) s p at.bucket)) (sym is) whole.0, whole.1)
