-- Aims: which clusters they name.
use Rattle.std.proofs.Common.{◌≡◌, ℕ, ◌+◌, ◌==◌, nat_lt, Bool, true, ◌||◌, cond, Contains, List, [], ◌∷◌, filter, filter_map, find, Option, Some, None, is_some, is_none, Result, Ok, Err, is_err, refl, sym, ap, ◌∙◌, subst, inl, inr, eq-eqb}
use Rattle.std.specs.List.{cons_option, list_any}
use Rattle.std.proofs.lemmas.Bool.{cond_both, false≢true, or_left, or_right}
use Rattle.std.proofs.lemmas.Option.{none-some, same_Some}
use Rattle.sched_base.specs.declared.Facts.{Facts}
use Rattle.flat_policy.specs.Policy.Aim.{Look, Target, aim_among, aim_by, cluster_or, off, lighter, loaded, look_at, may_enter_by, movable, needed, needed_by, not_looked, target_at, targets}
use Rattle.flat_policy.specs.Laws.Aims.{AimsRight, IsLowestUnseen}
use Rattle.flat_policy.specs.Policy.Setup.{SetupParts, cluster_count, edge_weight, migrates, numbers_below}
use Rattle.flat_policy.specs.Policy.Unpreceded.{unpreceded}
use Rattle.flat_policy.proofs.Choice.{is_unpreceded}
use Rattle.flat_policy.proofs.Members.{contains_cases, contains_here, contains_later, contains_none, find_finds, finds_from_member, member_from_any, member_of_filter, any_from_member}
use Rattle.flat_policy.proofs.Leaves.{same_bool}
use Rattle.flat_policy.proofs.PickIsOne.{some_of}
use Rattle.flat_policy.proofs.Ascending.{Ascends, filter_ascends, first_is_least, numbers_ascend}

-- what is kept of a list by a function that may give nothing
member_by : {X Y : Type 0} (h : X → Option Y) (x : X) (xs : List X) (y : Y) (o : Option Y) → h x ≡ o → Contains (cons_option o (filter_map h xs)) y
    → (Contains (filter_map h xs) y → (z : X) × Contains xs z × (h z ≡ Some y)) → (z : X) × Contains (x ∷ xs) z × (h z ≡ Some y)
member_by h x xs y None e c later = let m = later c in (m.0, contains_later x xs m.0 m.1, m.2)
member_by h x xs y (Some v) e c later =
    elim (contains_cases v (filter_map h xs) y c) [
      | inl is ↦ (x, contains_here x xs, e ∙ ap (λ u. Some u) is)
      | inr d ↦ (let m = later d in (m.0, contains_later x xs m.0 m.1, m.2))
    ]

member_of_filter_map : {X Y : Type 0} (h : X → Option Y) (xs : List X) (y : Y) → Contains (filter_map h xs) y → (x : X) × Contains xs x × (h x ≡ Some y)
member_of_filter_map h [] y c = absurd (contains_none y c)
member_of_filter_map h (x ∷ xs) y c = member_by h x xs y (h x) refl c (member_of_filter_map h xs y)

-- a target is a cluster that threads may move to
target_is : (setup : SetupParts) (prefer c : ℕ) (o : Option Look) (x : Target) → target_at setup prefer c o ≡ Some x → x.cluster ≡ c
target_is setup prefer c (Some (loaded l)) x h =
    let same : ◌≡◌ {A = Target} (record { cluster = c; weighed = l + edge_weight setup prefer c }) x = same_Some (record { cluster = c; weighed = l + edge_weight setup prefer c }) x h in
    sym (ap (λ (t : Target). t.cluster) same)
target_is setup prefer c (Some off) x h = absurd (none-some x h)
target_is setup prefer c None x h = absurd (none-some x h)

target_migrates : (setup : SetupParts) (looks : List (Option Look)) (prefer : ℕ) (x : Target) → Contains (targets setup looks prefer) x → migrates setup prefer x.cluster ≡ true
target_migrates setup looks prefer x c =
    let m = member_of_filter_map (λ j. target_at setup prefer j (look_at looks j)) (movable setup prefer) x c in
    let is = target_is setup prefer m.0 (look_at looks m.0) x m.2 in
    ap (migrates setup prefer) is ∙ (member_of_filter (migrates setup prefer) (numbers_below (cluster_count setup)) m.0 m.1).1

-- an aim is the preferred cluster or a target
cluster_is : (prefer : ℕ) (xs : List Target) (P : ℕ → Type 0) → P prefer → ((x : Target) → Contains xs x → P x.cluster) → (o : Option Target) → unpreceded lighter xs ≡ o → P (cluster_or prefer o)
cluster_is prefer xs P here there None e = here
cluster_is prefer xs P here there (Some x) e = there x (is_unpreceded lighter xs x e).member

among_is : (prefer : ℕ) (o : Option Look) (xs : List Target) (P : ℕ → Type 0) → P prefer → ((x : Target) → Contains xs x → P x.cluster) → P (aim_among prefer o xs)
among_is prefer (Some (loaded l)) xs P here there =
    let ys = filter (λ (x : Target). nat_lt x.weighed l) xs in
    cluster_is prefer ys P here (λ x c. there x (member_of_filter (λ (x : Target). nat_lt x.weighed l) xs x c).0) (unpreceded lighter ys) refl
among_is prefer (Some off) xs P here there = cluster_is prefer xs P here there (unpreceded lighter xs) refl
among_is prefer None xs P here there = here

same_Ok : (a b : ℕ) → ◌≡◌ {A = Result ℕ ℕ} (Ok a) (Ok b) → a ≡ b
same_Ok a b h = cc

same_Err : (a b : ℕ) → ◌≡◌ {A = Result ℕ ℕ} (Err a) (Err b) → a ≡ b
same_Err a b h = cc

ok_err : (a b : ℕ) → ◌≡◌ {A = Result ℕ ℕ} (Ok a) (Err b) → ⊥
ok_err a b h = cc

aim_enters : (setup : SetupParts) (looks : List (Option Look)) (prefer : ℕ) (bound missing : Option ℕ) (c : ℕ) → aim_by setup looks prefer bound missing ≡ Ok c → may_enter_by setup bound prefer c ≡ true
aim_enters setup looks prefer (Some b) missing c h = eq-eqb c b (sym (same_Ok b c h))
aim_enters setup looks prefer None (Some m) c h = absurd (ok_err c m (sym h))
aim_enters setup looks prefer None None c h =
    subst (λ d. ((d == prefer) || migrates setup prefer d) ≡ true) (same_Ok (aim_among prefer (look_at looks prefer) (targets setup looks prefer)) c h)
    (among_is prefer (look_at looks prefer) (targets setup looks prefer) (λ d. ((d == prefer) || migrates setup prefer d) ≡ true)
    (or_left (prefer == prefer) (migrates setup prefer prefer) (eq-eqb prefer prefer refl))
    (λ x d. or_right (x.cluster == prefer) (migrates setup prefer x.cluster) (target_migrates setup looks prefer x d)))

needed_by_ascends : (setup : SetupParts) (prefer : ℕ) (js : List ℕ) → Ascends (needed_by setup prefer js)
needed_by_ascends setup prefer [] = tt
needed_by_ascends setup prefer (j ∷ js) = filter_ascends (λ c. (c == prefer) || migrates setup prefer c) (numbers_below (cluster_count setup)) (numbers_ascend 0 (cluster_count setup))

needed_ascends : (setup : SetupParts) (t : Facts) → Ascends (needed setup t)
needed_ascends setup t =
    cond_both (is_some t.bound) [] (needed_by setup t.prefer (movable setup t.prefer)) Ascends (λ h. tt) (λ h. needed_by_ascends setup t.prefer (movable setup t.prefer))

err_is : (setup : SetupParts) (looks : List (Option Look)) (prefer : ℕ) (bound missing : Option ℕ) (c : ℕ) → aim_by setup looks prefer bound missing ≡ Err c → missing ≡ Some c
err_is setup looks prefer (Some b) missing c h = absurd (ok_err b c h)
err_is setup looks prefer None (Some m) c h = ap (λ d. Some d) (same_Err m c h)
err_is setup looks prefer None None c h = absurd (ok_err (aim_among prefer (look_at looks prefer) (targets setup looks prefer)) c h)

unseen_is : (o : Option Look) → is_none o ≡ true → o ≡ None
unseen_is None h = refl
unseen_is (Some l) h = absurd (false≢true h)

looks_first_is : (setup : SetupParts) (looks : List (Option Look)) (t : Facts) (c : ℕ) → not_looked setup looks t ≡ Some c → IsLowestUnseen setup looks t c
looks_first_is setup looks t c h =
    let m = find_finds (λ d. is_none (look_at looks d)) (needed setup t) c h in
    record {
      is_needed = m.0;
      unseen = unseen_is (look_at looks c) m.1;
      lowest = λ d k u. first_is_least (λ e. is_none (look_at looks e)) (needed setup t) (needed_ascends setup t) c h d k (ap is_none u);
    }

find_there : (p : ℕ → Bool) (xs : List ℕ) → is_some (find p xs) ≡ list_any p xs
find_there p xs =
    same_bool (is_some (find p xs)) (list_any p xs)
    (λ t. let s = some_of (find p xs) t in let m = find_finds p xs s.0 s.1 in any_from_member p xs s.0 m.0 m.1)
    (λ t. let m = member_from_any p xs t in ap is_some (finds_from_member p xs m.0 m.1 m.2).1)

missing_err : (setup : SetupParts) (looks : List (Option Look)) (prefer : ℕ) (missing : Option ℕ) → is_err (aim_by setup looks prefer None missing) ≡ is_some missing
missing_err setup looks prefer None = refl
missing_err setup looks prefer (Some c) = refl

-- a bound thread needs no looks
needed_free : (setup : SetupParts) (looks : List (Option Look)) (t : Facts) (bound : Option ℕ) → is_some t.bound ≡ is_some bound
    → is_err (aim_by setup looks t.prefer bound (not_looked setup looks t)) ≡ list_any (λ c. is_none (look_at looks c)) (needed setup t)
needed_free setup looks t (Some b) e =
    sym (ap (λ s. list_any (λ c. is_none (look_at looks c)) (cond s [] (needed_by setup t.prefer (movable setup t.prefer)))) e)
needed_free setup looks t None e =
    missing_err setup looks t.prefer (not_looked setup looks t) ∙ find_there (λ c. is_none (look_at looks c)) (needed setup t)

pub aims_right : (setup : SetupParts) (looks : List (Option Look)) (t : Facts) → AimsRight setup looks t
aims_right setup looks t = record {
  enters = aim_enters setup looks t.prefer t.bound (not_looked setup looks t);
  looks_first = λ c h. looks_first_is setup looks t c (err_is setup looks t.prefer t.bound (not_looked setup looks t) c h);
  refused = needed_free setup looks t t.bound refl;
}
