-- The turns that clutch buckets take in a refresh, group by group.
use Rattle.std.proofs.Common.{◌≡◌, ℕ, suc, ◌+◌, ◌-◌, ◌<◌, ◌==◌, Bool, cond, List, ◌∷◌, fold, map, sym, ap, ap₂, ◌∙◌, inl, inr, arith, eq-eqb}
use Rattle.std.proofs.lemmas.Bool.{cases_eq, ne_eqb}
use Rattle.sched_base.specs.declared.Bucket.{Bucket}
use Rattle.flat_policy.specs.Policy.Moves.{with_next_turn}
use Rattle.flat_policy.specs.Policy.Precedence.{greatest_pri}
use Rattle.flat_policy.specs.Policy.Queue.{Clutch, Flat, clutch_entries}
use Rattle.flat_policy.specs.Policy.Refresh.{turn_on_refresh}
use Rattle.flat_policy.specs.Policy.Setup.{numbers_from}
use Rattle.flat_policy.specs.Policy.Usage.{Spans}
use Rattle.plain_cluster.specs.Entries.{clutch, score_at}

sum_alike : (a b c : ℕ) → (a + c == b + c) ≡ (a == b)
sum_alike a b c =
    elim (cases_eq a b) [
      | inl e ↦ eq-eqb (a + c) (b + c) (omega (arith, e)) ∙ sym (eq-eqb a b e)
      | inr n ↦ ne_eqb (a + c) (b + c) (λ same. n (omega (arith, same))) ∙ sym (ne_eqb a b n)
    ]

-- scores stay, so that priorities differ exactly where the greatest ones do
pub turn_by_tops : (s x : Flat) (k : Clutch) (a b : ℕ) → s.spans ≡ x.spans → a ≡ greatest_pri (clutch_entries s k) → b ≡ greatest_pri (clutch_entries x k)
    → turn_on_refresh s x k ≡ cond (a == b) x (with_next_turn k x)
turn_by_tops s x k a b same before after =
    ap (λ (t : Bool). cond t x (with_next_turn k x))
    (ap₂ (λ (m n : ℕ). m == n)
    (ap₂ (λ (g : ℕ) (sp : List Spans). g + score_at sp k) (sym before) same)
    (ap (λ (g : ℕ). g + score_at x.spans k) (sym after))
    ∙ sum_alike a b (score_at x.spans k))

rest_from : (n group : ℕ) → group < n → numbers_from group (n - group) ≡ group ∷ numbers_from (suc group) (n - suc group)
rest_from n group h = let e : n - group ≡ suc (n - suc group) = omega (arith, h) in ap (numbers_from group) e

-- the turns from a group on
abbrev pub turns_from : Flat → Flat → Bucket → ℕ → ℕ → Flat
turns_from s x b group n = fold (turn_on_refresh s) x (map (λ (g : ℕ). clutch g b) (numbers_from group (n - group)))

pub turns_one : (s x : Flat) (b : Bucket) (group n : ℕ) → group < n → turns_from s x b group n ≡ turns_from s (turn_on_refresh s x (clutch group b)) b (group + 1) n
turns_one s x b group n h =
    ap (λ gs. fold (turn_on_refresh s) x (map (λ (g : ℕ). clutch g b) gs)) (rest_from n group h)
    ∙ (let e : suc group ≡ group + 1 = omega arith in
    ap (λ m. fold (turn_on_refresh s) (turn_on_refresh s x (clutch group b)) (map (λ (g : ℕ). clutch g b) (numbers_from m (n - m)))) e)

pub turns_none : (s x : Flat) (b : Bucket) (group n : ℕ) → n - group ≡ 0 → turns_from s x b group n ≡ x
turns_none s x b group n h = ap (λ m. fold (turn_on_refresh s) x (map (λ (g : ℕ). clutch g b) (numbers_from group m))) h
