-- Looks past the clusters of a setup decide nothing.
use Rattle.std.proofs.Common.{◌≡◌, ◌<◌, ◌+◌, ◌&&◌, ◌||◌, ◌==◌, ℕ, zero, suc, Bool, true, false, cond, List, [], ◌∷◌, Option, Some, None, Ok, is_none, is_some, find, filter, take, refl, sym, ap, arith, ◌∙◌}
use Rattle.std.specs.List.{cons_option, filter_map}
use Rattle.std.proofs.lemmas.List.{get_or-take}
use Rattle.sched_base.specs.declared.Facts.{Facts}
use Rattle.flat_policy.specs.Policy.Aim.{Look, Target, aim_among, aim_by, look_at, movable, needed_by, not_looked, target_at, targets}
use Rattle.flat_policy.specs.Policy.Setup.{SetupParts, cluster_count, migrates, numbers_below, numbers_from}
use Rattle.migration.specs.Laws.{AimGoesByClusters}
use Rattle.migration.proofs.Best.{filter_map-cond}
use Rattle.migration.proofs.Scans.{find-filter}

-- tests that agree on the numbers from one on find the same
find-same : (p q : ℕ → Bool) (first n : ℕ) → ((c : ℕ) → c < first + n → p c ≡ q c) → find p (numbers_from first n) ≡ find q (numbers_from first n)
find-same p q first zero same = refl
find-same p q first (suc n) same =
    ap (λ (b : Bool). cond b (Some first) (find p (numbers_from (suc first) n))) (same first (omega arith))
    ∙ ap (λ (o : Option ℕ). cond (q first) (Some first) o) (find-same p q (suc first) n (λ c lt. same c (omega arith)))

-- functions that agree on them give the same of what a filter keeps
filter_map-same : (f g : ℕ → Option Target) (m : ℕ → Bool) (first n : ℕ) → ((c : ℕ) → c < first + n → f c ≡ g c)
    → filter_map f (filter m (numbers_from first n)) ≡ filter_map g (filter m (numbers_from first n))
filter_map-same f g m first zero same = refl
filter_map-same f g m first (suc n) same =
    let rest : List ℕ = filter m (numbers_from (suc first) n) in
    filter_map-cond f (m first) first rest
    ∙ ap (λ (o : Option Target). cond (m first) (cons_option o (filter_map f rest)) (filter_map f rest)) (same first (omega arith))
    ∙ ap (λ (xs : List Target). cond (m first) (cons_option (g first) xs) xs) (filter_map-same f g m (suc first) n (λ c lt. same c (omega arith)))
    ∙ sym (filter_map-cond g (m first) first rest)

-- tests that agree on the clusters find the same of those that an aim needs
needed_by-same : (setup : SetupParts) (prefer : ℕ) (p q : ℕ → Bool) → ((c : ℕ) → c < cluster_count setup → p c ≡ q c) → (js : List ℕ)
    → find p (needed_by setup prefer js) ≡ find q (needed_by setup prefer js)
needed_by-same setup prefer p q same [] = refl
needed_by-same setup prefer p q same (j ∷ js) =
    let kept : ℕ → Bool = λ c. (c == prefer) || migrates setup prefer c in
    find-filter kept p (numbers_below (cluster_count setup))
    ∙ find-same (λ c. kept c && p c) (λ c. kept c && q c) 0 (cluster_count setup) (λ c lt. ap (λ (b : Bool). kept c && b) (same c (omega arith)))
    ∙ sym (find-filter kept q (numbers_below (cluster_count setup)))

needed-same : (b : Bool) (p q : ℕ → Bool) (xs : List ℕ) → find p xs ≡ find q xs → find p (cond b [] xs) ≡ find q (cond b [] xs)
needed-same true p q xs same = refl
needed-same false p q xs same = same

look_at-take : (looks : List (Option Look)) (n c : ℕ) → c < n → look_at (take n looks) c ≡ look_at looks c
look_at-take looks n c lt = get_or-take n looks c None lt

not_looked-take : (setup : SetupParts) (looks : List (Option Look)) (t : Facts) → not_looked setup (take (cluster_count setup) looks) t ≡ not_looked setup looks t
not_looked-take setup looks t =
    let p : ℕ → Bool = λ c. is_none (look_at (take (cluster_count setup) looks) c) in
    let q : ℕ → Bool = λ c. is_none (look_at looks c) in
    needed-same (is_some t.bound) p q (needed_by setup t.prefer (movable setup t.prefer))
    (needed_by-same setup t.prefer p q (λ c lt. ap is_none (look_at-take looks (cluster_count setup) c lt)) (movable setup t.prefer))

targets-take : (setup : SetupParts) (looks : List (Option Look)) (prefer : ℕ) → targets setup (take (cluster_count setup) looks) prefer ≡ targets setup looks prefer
targets-take setup looks prefer =
    filter_map-same (λ c. target_at setup prefer c (look_at (take (cluster_count setup) looks) c)) (λ c. target_at setup prefer c (look_at looks c)) (migrates setup prefer) 0 (cluster_count setup)
    (λ c lt. ap (target_at setup prefer c) (look_at-take looks (cluster_count setup) c (omega arith)))

aim_by-take : (setup : SetupParts) (looks : List (Option Look)) (prefer : ℕ) (bound missing : Option ℕ) → prefer < cluster_count setup
    → aim_by setup (take (cluster_count setup) looks) prefer bound missing ≡ aim_by setup looks prefer bound missing
aim_by-take setup looks prefer (Some b) missing lt = refl
aim_by-take setup looks prefer None (Some c) lt = refl
aim_by-take setup looks prefer None None lt =
    ap (λ (o : Option Look). Ok (aim_among prefer o (targets setup (take (cluster_count setup) looks) prefer))) (look_at-take looks (cluster_count setup) prefer lt)
    ∙ ap (λ (xs : List Target). Ok (aim_among prefer (look_at looks prefer) xs)) (targets-take setup looks prefer)

pub aim_goes_by_clusters : AimGoesByClusters
aim_goes_by_clusters setup looks t lt = record {
  aim = ap (aim_by setup (take (cluster_count setup) looks) t.prefer t.bound) (not_looked-take setup looks t) ∙ aim_by-take setup looks t.prefer t.bound (not_looked setup looks t) lt;
  look_first = not_looked-take setup looks t;
}
