-- A refresh goes bucket by bucket, and the clutch buckets of UI take no turn.
use Rattle.std.proofs.Common.{◌≡◌, ℕ, ◌+◌, ◌==◌, true, List, [], ◌∷◌, filter, fold, flat_map, length, map, refl, sym, ap, ap₂, ◌∙◌, inl, inr, eq-eqb}
use Rattle.std.proofs.lemmas.Bool.{cases_Bool, cond-true, cond-false}
use Rattle.std.proofs.lemmas.List.Sums.{fold-append}
use Rattle.sched_base.specs.declared.Bucket.TheVariants.{Bg, Df, Fg, Ini, Ui, Ut}
use Rattle.sched_base.specs.declared.Facts.{Facts}
use Rattle.flat_policy.specs.Laws.Refreshing.{RefreshesByBucket, with_turns_of}
use Rattle.flat_policy.specs.Policy.Moves.{with_next_turn}
use Rattle.flat_policy.specs.Policy.Precedence.{clutch_priority, greatest_pri}
use Rattle.flat_policy.specs.Policy.Queue.{Clutch, Flat, Queued, in_clutch, spans_of, unit_entries}
use Rattle.flat_policy.specs.Policy.Refresh.{clutches_of, is_ui, repriced, turn_on_refresh, with_new_prices}
use Rattle.flat_policy.specs.Policy.Setup.{all_buckets, numbers_below}
use Rattle.flat_policy.specs.Policy.Usage.{decay, priority, score}
use Rattle.flat_policy.proofs.Buckets.{in_clutch_parts}
use Rattle.flat_policy.proofs.Refreshed.{repriced_clutch}

-- a fold over lists that are joined goes over each of them
fold_by_lists : {A B C : Type 0} (f : B → A → B) (g : C → List A) (b : B) (cs : List C) → fold f b (flat_map g cs) ≡ fold (λ d c. fold f d (g c)) b cs
fold_by_lists f g b [] = refl
fold_by_lists f g b (c ∷ cs) = fold-append f b (g c) (flat_map g cs) ∙ fold_by_lists f g (fold f b (g c)) cs

-- the clutch bucket of UI of a group
abbrev ui_clutch : ℕ → Clutch
ui_clutch g = record { group = g; bucket = Ui }

-- entries of UI stay
ui_stays : (s : Flat) (now : ℕ) (e : Queued) → is_ui e.facts.bucket ≡ true → repriced s now e ≡ e
ui_stays s now e h =
    let t : Facts = record e.facts { usage = decay e.facts.usage e.facts.seen now; seen = now } in
    cond-true (is_ui e.facts.bucket) e (record e { facts = t; pri = priority t.base t.bucket t.usage (length (unit_entries s e.facts)) }) h

ui_entries : (s : Flat) (now g : ℕ) (es : List Queued) → filter (in_clutch (ui_clutch g)) (map (repriced s now) es) ≡ filter (in_clutch (ui_clutch g)) es
ui_entries s now g [] = refl
ui_entries s now g (e ∷ es) =
    let k : Clutch = ui_clutch g in
    let new : List Queued = filter (in_clutch k) (map (repriced s now) es) in
    let old : List Queued = filter (in_clutch k) es in
    elim (cases_Bool (in_clutch k e)) [
      | inl h ↦ (let ui : is_ui e.facts.bucket ≡ true = ap (λ (l : Clutch). is_ui l.bucket) (in_clutch_parts k e h).1 in
          cond-true (in_clutch k (repriced s now e)) (repriced s now e ∷ new) new (repriced_clutch s now k e ∙ h)
          ∙ (ap₂ (λ (x : Queued) xs. x ∷ xs) (ui_stays s now e ui) (ui_entries s now g es) ∙ sym (cond-true (in_clutch k e) (e ∷ old) old h)))
      | inr h ↦ cond-false (in_clutch k (repriced s now e)) (repriced s now e ∷ new) new (repriced_clutch s now k e ∙ h)
          ∙ (ui_entries s now g es ∙ sym (cond-false (in_clutch k e) (e ∷ old) old h))
    ]

ui_takes_none : (s : Flat) (now g : ℕ) → turn_on_refresh s (with_new_prices s now) (ui_clutch g) ≡ with_new_prices s now
ui_takes_none s now g =
    let k : Clutch = ui_clutch g in
    let after : Flat = with_new_prices s now in
    let same : clutch_priority s k ≡ clutch_priority after k = ap (λ es. greatest_pri es + score (spans_of s k).used (spans_of s k).blocked Ui) (sym (ui_entries s now g s.entries)) in
    cond-true (clutch_priority s k == clutch_priority after k) after (with_next_turn k after) (eq-eqb (clutch_priority s k) (clutch_priority after k) same)

ui_takes_none_of : (s : Flat) (now : ℕ) (groups : List ℕ) → fold (turn_on_refresh s) (with_new_prices s now) (map ui_clutch groups) ≡ with_new_prices s now
ui_takes_none_of s now [] = refl
ui_takes_none_of s now (g ∷ groups) = ap (λ (b : Flat). fold (turn_on_refresh s) b (map ui_clutch groups)) (ui_takes_none s now g) ∙ ui_takes_none_of s now groups

pub refreshes_by_bucket_is : RefreshesByBucket
refreshes_by_bucket_is = λ groups s now.
    fold_by_lists (turn_on_refresh s) (clutches_of groups) (with_new_prices s now) all_buckets
    ∙ ap (λ (b : Flat). fold (with_turns_of groups s) b (Fg ∷ Ini ∷ Df ∷ Ut ∷ Bg ∷ [])) (ui_takes_none_of s now (numbers_below groups))
