-- A queue that lacks the right turn of one clutch bucket, and how it is made whole.
use Rattle.std.proofs.Common.{◌≡◌, ℕ, ◌<◌, Bool, true, false, ◌||◌, List, [], ◌∷◌, filter, Some, None, is_some, refl, sym, ap, ◌∙◌, inl, inr}
use Rattle.std.specs.List.{list_any}
use Rattle.std.proofs.lemmas.Bool.{cases_Bool, cond-true, cond-false, or_left}
use Rattle.flat_policy.specs.Policy.Moves.{with_next_turn, without_turn}
use Rattle.flat_policy.specs.Policy.Queue.{Clutch, Flat, in_clutch, timeshare_lanes}
use Rattle.flat_policy.proofs.KeptLanes.{lane_names}
use Rattle.flat_policy.proofs.Parts.{EntriesFit, PartsOf, SpansFit, TurnsFit, TurnsStandBut, turn_in}
use Rattle.flat_policy.proofs.Turns.{next_turn_fits, no_turn_fits, right_stands, set_stands}

-- the parts of a queue, but for the turn of one clutch bucket
pub record PartsBut (groups : ℕ) (but : Clutch) (s : Flat) : Type 0 where
  pub group : but.group < groups
  pub entries_fit : EntriesFit groups s.next_arrival s.entries
  pub turns_fit : TurnsFit groups s.next_turn s.turns
  pub turns_stand : TurnsStandBut groups but s.turns s.entries
  pub spans_fit : SpansFit groups s.spans
  pub ten : lane_names s.lanes ≡ timeshare_lanes

pub whole_with_next : (groups : ℕ) (k : Clutch) (s : Flat) → PartsBut groups k s → list_any (in_clutch k) s.entries ≡ true → PartsOf groups (with_next_turn k s)
whole_with_next groups k s p h = record {
  entries_fit = p.entries_fit;
  turns_fit = next_turn_fits groups s.next_turn s.turns k p.turns_fit p.group;
  turns_stand = set_stands groups s.turns k (Some s.next_turn) s.entries p.turns_fit.long p.group (sym h) p.turns_stand;
  spans_fit = p.spans_fit;
  ten = p.ten;
}

pub whole_without : (groups : ℕ) (k : Clutch) (s : Flat) → PartsBut groups k s → list_any (in_clutch k) s.entries ≡ false → PartsOf groups (without_turn k s)
whole_without groups k s p h = record {
  entries_fit = p.entries_fit;
  turns_fit = no_turn_fits groups s.next_turn s.turns k p.turns_fit p.group;
  turns_stand = set_stands groups s.turns k None s.entries p.turns_fit.long p.group (sym h) p.turns_stand;
  spans_fit = p.spans_fit;
  ten = p.ten;
}

pub whole_as_is : (groups : ℕ) (k : Clutch) (s : Flat) → PartsBut groups k s → is_some (turn_in s.turns k) ≡ list_any (in_clutch k) s.entries → PartsOf groups s
whole_as_is groups k s p h = record {
  entries_fit = p.entries_fit;
  turns_fit = p.turns_fit;
  turns_stand = right_stands groups s.turns k s.entries h p.turns_stand;
  spans_fit = p.spans_fit;
  ten = p.ten;
}

pub but_one : (groups : ℕ) (k : Clutch) (s : Flat) → k.group < groups → PartsOf groups s → PartsBut groups k s
but_one groups k s in' p = record {
  group = in';
  entries_fit = p.entries_fit;
  turns_fit = p.turns_fit;
  turns_stand = λ l other gl. p.turns_stand l gl;
  spans_fit = p.spans_fit;
  ten = p.ten;
}

-- a clutch bucket has entries where some entry stands in it
pub any_of_filter : {X : Type 0} (p : X → Bool) (xs : List X) → list_any (λ x. true) (filter p xs) ≡ list_any p xs
any_of_filter p [] = refl
any_of_filter p (x ∷ xs) =
    elim (cases_Bool (p x)) [
      | inl e ↦ ap (λ zs. list_any (λ z. true) zs) (cond-true (p x) (x ∷ filter p xs) (filter p xs) e) ∙ sym (or_left (p x) (list_any p xs) e)
      | inr e ↦ ap (λ zs. list_any (λ z. true) zs) (cond-false (p x) (x ∷ filter p xs) (filter p xs) e)
          ∙ (any_of_filter p xs ∙ ap (λ b. b || list_any p xs) (sym e))
    ]
