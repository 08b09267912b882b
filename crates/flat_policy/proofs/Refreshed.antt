-- A refresh keeps a queue well-formed: a clutch bucket without entries keeps its priority, and so takes no turn.
use Rattle.std.proofs.Common.{◌≡◌, ℕ, ◌+◌, ◌==◌, Bool, false, ◌||◌, Contains, List, [], ◌∷◌, get_or, map, refl, sym, ap, ap₂, ◌∙◌, eq-eqb}
use Rattle.std.specs.List.{list_any}
use Rattle.std.proofs.lemmas.Bool.{cond_both, false≢true, true_from_ne_false}
use Rattle.sched_base.specs.declared.Facts.{Facts}
use Rattle.flat_policy.specs.Policy.Moves.{with_next_turn}
use Rattle.flat_policy.specs.Policy.Precedence.{clutch_priority, greatest_pri}
use Rattle.flat_policy.specs.Policy.Queue.{Clutch, Flat, Queued, clutch_place, in_clutch, no_spans}
use Rattle.flat_policy.specs.Policy.Refresh.{all_clutches, refreshed, repriced, turn_on_refresh, with_new_prices}
use Rattle.flat_policy.specs.Policy.Usage.{Spans, score}
use Rattle.flat_policy.proofs.Greatest.{filter_none}
use Rattle.flat_policy.proofs.Parts.{PartsOf, map_fits}
use Rattle.flat_policy.proofs.Refreshes.{clutch_grouped, fold_keeps, repriced_facts, repriced_keeps}
use Rattle.flat_policy.proofs.Wholes.{but_one, whole_with_next}

pub repriced_clutch : (s : Flat) (now : ℕ) (k : Clutch) (e : Queued) → in_clutch k (repriced s now e) ≡ in_clutch k e
repriced_clutch s now k e =
    repriced_facts s now e (λ f. in_clutch k f ≡ in_clutch k e) refl
    (λ t pri h. ap (λ (u : Facts). in_clutch k (record e { facts = u; pri = pri })) h)

any_of_map : {X : Type 0} (p : X → Bool) (f : X → X) (xs : List X) → ((x : X) → p (f x) ≡ p x) → list_any p (map f xs) ≡ list_any p xs
any_of_map p f [] h = refl
any_of_map p f (x ∷ xs) h = ap₂ (λ a b. a || b) (h x) (any_of_map p f xs h)

prices_fit : (groups : ℕ) (s : Flat) (now : ℕ) → PartsOf groups s → PartsOf groups (with_new_prices s now)
prices_fit groups s now p = record {
  entries_fit = map_fits groups s.next_arrival (repriced s now) (repriced_keeps s now) s.entries p.entries_fit;
  turns_fit = p.turns_fit;
  turns_stand = λ k gk. p.turns_stand k gk ∙ sym (any_of_map (in_clutch k) (repriced s now) s.entries (repriced_clutch s now k));
  spans_fit = p.spans_fit;
  ten = p.ten;
}

-- the priority of a clutch bucket, by its entries and all numbers of use
abbrev priority_by : Clutch → List Queued → List Spans → ℕ
priority_by k es ss = greatest_pri es + score (get_or ss (clutch_place k) no_spans).used (get_or ss (clutch_place k) no_spans).blocked k.bucket

-- what a refresh keeps as it passes the clutch buckets
record Passed (groups : ℕ) (s : Flat) (now : ℕ) (b : Flat) : Type 0 where
  parts : PartsOf groups b
  entries : b.entries ≡ map (repriced s now) s.entries
  spans : b.spans ≡ s.spans

empty_alike : (groups : ℕ) (s : Flat) (now : ℕ) (b : Flat) (k : Clutch) → Passed groups s now b → list_any (in_clutch k) b.entries ≡ false → clutch_priority s k ≡ clutch_priority b k
empty_alike groups s now b k p none =
    let before : list_any (in_clutch k) s.entries ≡ false =
    sym (any_of_map (in_clutch k) (repriced s now) s.entries (repriced_clutch s now k)) ∙ (ap (list_any (in_clutch k)) (sym p.entries) ∙ none) in
    ap₂ (priority_by k) (filter_none (in_clutch k) s.entries before ∙ sym (filter_none (in_clutch k) b.entries none)) (sym p.spans)

pass_keeps : (groups : ℕ) (s : Flat) (now : ℕ) (b : Flat) (k : Clutch) → Contains (all_clutches groups) k → Passed groups s now b → Passed groups s now (turn_on_refresh s b k)
pass_keeps groups s now b k c p =
    cond_both (clutch_priority s k == clutch_priority b k) b (with_next_turn k b) (Passed groups s now) (λ h. p)
    (λ h. record {
      parts = whole_with_next groups k b (but_one groups k b (clutch_grouped groups k c) p.parts)
          (true_from_ne_false (list_any (in_clutch k) b.entries)
          (λ none. false≢true (sym h ∙ eq-eqb (clutch_priority s k) (clutch_priority b k) (empty_alike groups s now b k p none))));
      entries = p.entries;
      spans = p.spans;
    })

passed : (groups : ℕ) (s : Flat) (now : ℕ) → PartsOf groups s → Passed groups s now (refreshed groups s now)
passed groups s now p =
    fold_keeps (turn_on_refresh s) (Passed groups s now) (all_clutches groups) (pass_keeps groups s now) (with_new_prices s now)
    (record { parts = prices_fit groups s now p; entries = refl; spans = refl })

pub refreshed_fits : (groups : ℕ) (s : Flat) (now : ℕ) → PartsOf groups s → PartsOf groups (refreshed groups s now)
refreshed_fits groups s now p = (passed groups s now p).parts

-- the entries after a refresh, for any queue
pub refreshed_entries : (groups : ℕ) (s : Flat) (now : ℕ) → (refreshed groups s now).entries ≡ map (repriced s now) s.entries
refreshed_entries groups s now =
    fold_keeps (turn_on_refresh s) (λ (b : Flat). b.entries ≡ map (repriced s now) s.entries) (all_clutches groups)
    (λ b k c h. cond_both (clutch_priority s k == clutch_priority b k) b (with_next_turn k b) (λ (u : Flat). u.entries ≡ map (repriced s now) s.entries) (λ e. h) (λ e. h))
    (with_new_prices s now) refl
