-- Giving a turn to one clutch bucket, and taking it away.
use Rattle.std.proofs.Common.{◌≡◌, ◌≢◌, ℕ, ◌+◌, ◌*◌, ◌<◌, List, length, Option, Some, None, is_some, set, sym, ap, ◌∙◌, subst, inl, inr, arith}
use Rattle.std.specs.List.{list_any}
use Rattle.std.proofs.lemmas.List.{get_or-set_other, get_or-set_same, length-set}
use Rattle.flat_policy.specs.Policy.Queue.{Clutch, Queued, clutch_place, in_clutch}
use Rattle.flat_policy.specs.Policy.WellFormed.{TurnBelow, TurnsDiffer}
use Rattle.flat_policy.proofs.Buckets.{cases_clutch, clutch_from_place, place_within}
use Rattle.flat_policy.proofs.Parts.{TurnsFit, TurnsStand, TurnsStandBut, turn_in}

below_more : (next : ℕ) (t : Option ℕ) → TurnBelow next t → TurnBelow (next + 1) t
below_more next None h = tt
below_more next (Some turn) h = omega (arith, h)

differ_none : (t : Option ℕ) → TurnsDiffer t None
differ_none None = tt
differ_none (Some turn) = tt

differ_next : (next : ℕ) (t : Option ℕ) → TurnBelow next t → TurnsDiffer (Some next) t
differ_next next None h = tt
differ_next next (Some turn) h = λ e. omega (arith, h, e)

differ_next_back : (next : ℕ) (t : Option ℕ) → TurnBelow next t → TurnsDiffer t (Some next)
differ_next_back next None h = tt
differ_next_back next (Some turn) h = λ e. omega (arith, h, e)

-- the turns with another one at one clutch bucket
turn_here : (groups : ℕ) (turns : List (Option ℕ)) (k : Clutch) (t : Option ℕ) → length turns ≡ groups * 6 → k.group < groups → turn_in (set turns (clutch_place k) t) k ≡ t
turn_here groups turns k t long in' = get_or-set_same turns (clutch_place k) t None (omega (arith, place_within groups k in', long))

turn_elsewhere : (turns : List (Option ℕ)) (k l : Clutch) (t : Option ℕ) → l ≢ k → turn_in (set turns (clutch_place k) t) l ≡ turn_in turns l
turn_elsewhere turns k l t other = get_or-set_other turns (clutch_place k) (clutch_place l) t None (λ e. other (clutch_from_place l k e))

-- any turn that is below and differs from all others may stand at one clutch bucket
set_fits : (groups next later : ℕ) (turns : List (Option ℕ)) (k : Clutch) (t : Option ℕ) → TurnsFit groups next turns → k.group < groups
    → TurnBelow later t → ((u : Option ℕ) → TurnBelow next u → TurnBelow later u)
    → ((u : Option ℕ) → TurnBelow next u → TurnsDiffer t u) → ((u : Option ℕ) → TurnBelow next u → TurnsDiffer u t)
    → TurnsFit groups later (set turns (clutch_place k) t)
set_fits groups next later turns k t fit in' here up apart back = record {
  long = length-set turns (clutch_place k) t ∙ fit.long;
  below = λ l. elim (cases_clutch l k) [
    | inl is ↦ subst (TurnBelow later) (sym (ap (turn_in (set turns (clutch_place k) t)) is ∙ turn_here groups turns k t fit.long in')) here
    | inr other ↦ subst (TurnBelow later) (sym (turn_elsewhere turns k l t other)) (up (turn_in turns l) (fit.below l))
  ];
  differ = λ l m lm gl gm. elim (cases_clutch l k) [
    | inl is ↦ subst (λ u. TurnsDiffer u (turn_in (set turns (clutch_place k) t) m)) (sym (ap (turn_in (set turns (clutch_place k) t)) is ∙ turn_here groups turns k t fit.long in'))
        (subst (TurnsDiffer t) (sym (turn_elsewhere turns k m t (λ e. lm (is ∙ sym e)))) (apart (turn_in turns m) (fit.below m)))
    | inr other ↦ subst (λ u. TurnsDiffer u (turn_in (set turns (clutch_place k) t) m)) (sym (turn_elsewhere turns k l t other))
        (elim (cases_clutch m k) [
          | inl is ↦ subst (TurnsDiffer (turn_in turns l)) (sym (ap (turn_in (set turns (clutch_place k) t)) is ∙ turn_here groups turns k t fit.long in')) (back (turn_in turns l) (fit.below l))
          | inr apart' ↦ subst (TurnsDiffer (turn_in turns l)) (sym (turn_elsewhere turns k m t apart')) (fit.differ l m lm gl gm)
        ])
  ];
}

pub next_turn_fits : (groups next : ℕ) (turns : List (Option ℕ)) (k : Clutch) → TurnsFit groups next turns → k.group < groups → TurnsFit groups (next + 1) (set turns (clutch_place k) (Some next))
next_turn_fits groups next turns k fit in' =
    set_fits groups next (next + 1) turns k (Some next) fit in' (omega arith) (below_more next) (differ_next next) (differ_next_back next)

pub no_turn_fits : (groups next : ℕ) (turns : List (Option ℕ)) (k : Clutch) → TurnsFit groups next turns → k.group < groups → TurnsFit groups next (set turns (clutch_place k) None)
no_turn_fits groups next turns k fit in' =
    set_fits groups next next turns k None fit in' tt (λ u h. h) (λ u h. tt) (λ u h. differ_none u)

-- where they stood but for one, they stand once that one is set right, or is right
pub set_stands : (groups : ℕ) (turns : List (Option ℕ)) (k : Clutch) (t : Option ℕ) (es : List Queued) → length turns ≡ groups * 6 → k.group < groups → is_some t ≡ list_any (in_clutch k) es → TurnsStandBut groups k turns es → TurnsStand groups (set turns (clutch_place k) t) es
set_stands groups turns k t es long in' right but = λ l gl. elim (cases_clutch l k) [
  | inl is ↦ ap is_some (ap (turn_in (set turns (clutch_place k) t)) is ∙ turn_here groups turns k t long in') ∙ (right ∙ ap (λ (m : Clutch). list_any (in_clutch m) es) (sym is))
  | inr other ↦ ap is_some (turn_elsewhere turns k l t other) ∙ but l other gl
]

pub right_stands : (groups : ℕ) (turns : List (Option ℕ)) (k : Clutch) (es : List Queued) → is_some (turn_in turns k) ≡ list_any (in_clutch k) es → TurnsStandBut groups k turns es → TurnsStand groups turns es
right_stands groups turns k es right but = λ l gl. elim (cases_clutch l k) [
  | inl is ↦ ap (λ (m : Clutch). is_some (turn_in turns m)) is ∙ (right ∙ ap (λ (m : Clutch). list_any (in_clutch m) es) (sym is))
  | inr other ↦ but l other gl
]
