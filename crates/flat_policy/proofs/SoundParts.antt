-- What one step changes of a sound state: a hand and a queue, or a hand and the yard.
use Rattle.std.proofs.Common.{◌≡◌, ◌⊎◌, ℕ, ◌+◌, ◌-◌, ◌<◌, ◌≤◌, nat_lt, ◌==◌, Bool, false, List, [], ◌∷◌, ◌++◌, count_by, length, set, get_or, sum_by, None, refl, sym, ap, ◌∙◌, subst, inl, inr, arith, append-nil}
use Rattle.std.specs.List.{list_any}
use Rattle.std.proofs.lemmas.Bool.{cases_Bool, cases_eq, cond-false, cond-true, ltb-false}
use Rattle.std.proofs.lemmas.List.{get_or-set_other, get_or-set_same, length-replicate, length-set}
use Rattle.std.proofs.lemmas.List.Sums.{sum_by-cons}
use Rattle.std.proofs.lemmas.Option.{none-some}
use Rattle.sched_base.specs.Limits.{moment_limit}
use Rattle.flat_policy.specs.Policy.Threads.{ThreadFits}
use Rattle.flat_policy.specs.Laws.Sound.{FlatFits, HandFits, Sound, YardFits}
use Rattle.flat_policy.specs.Policy.Machine.{MachineState, Hand, Yard, empty_hand, flat_at, hand_at, no_hand, with_flat, with_hand, with_yard}
use Rattle.flat_policy.specs.Policy.Queue.{Flat, Queued, empty_flat}
use Rattle.flat_policy.specs.Policy.Setup.{ClusterParts, SetupParts, actor_count, cluster_count, group_count, home_among, home_of}
use Rattle.flat_policy.specs.Policy.WellFormed.{EachQueued}
use Rattle.flat_policy.proofs.Parts.{PartsOf, parts_within, well_formed_within}
use Rattle.flat_policy.proofs.Placed.{held_by_test, placed, placed_hand_flat, placed_hand_yard, queued_by, yard_by}

-- what holds of each element holds after a write of one more
each_set : {X : Type 0} (P : X → Type 0) (d : X) (n : ℕ) (xs : List X) (i : ℕ) (x : X) → length xs ≡ n → ((j : ℕ) → j < n → P (get_or xs j d)) → P x → (j : ℕ) → j < n → P (get_or (set xs i x) j d)
each_set P d n xs i x long each here j within =
    elim (cases_eq j i) [
      | inl e ↦ subst P (sym (ap (λ k. get_or (set xs i x) k d) e ∙ get_or-set_same xs i x d (omega (arith, e, long, within)))) here
      | inr other ↦ subst P (sym (get_or-set_other xs i j x d other)) (each j within)
    ]

sound_hand_flat : (setup : SetupParts) (g : MachineState) (a c : ℕ) (h : Hand) (s : Flat) → Sound setup g → HandFits setup h → FlatFits setup s → Sound setup (with_hand a h (with_flat c s g))
sound_hand_flat setup g a c h s sound hf sf = record {
  flats_length = length-set g.flats c s ∙ sound.flats_length;
  hands_length = length-set g.hands a h ∙ sound.hands_length;
  flats = each_set (FlatFits setup) (empty_flat 0) (cluster_count setup) g.flats c s sound.flats_length sound.flats sf;
  hands = each_set (HandFits setup) no_hand (actor_count setup) g.hands a h sound.hands_length sound.hands hf;
  yard = sound.yard;
}

sound_hand_yard : (setup : SetupParts) (g : MachineState) (a : ℕ) (h : Hand) (y : Yard) → Sound setup g → HandFits setup h → YardFits setup y → Sound setup (with_hand a h (with_yard y g))
sound_hand_yard setup g a h y sound hf yf = record {
  flats_length = sound.flats_length;
  hands_length = length-set g.hands a h ∙ sound.hands_length;
  flats = sound.flats;
  hands = each_set (HandFits setup) no_hand (actor_count setup) g.hands a h sound.hands_length sound.hands hf;
  yard = yf;
}

-- each name stands in one place at most
abbrev pub OncePlaced : MachineState → Type 0
OncePlaced g = (n : ℕ) → placed (λ m. m == n) g ≤ 1

-- what a step does: the state stays sound, the names made stand in one more place each, and no other in more or fewer
pub record Goes (setup : SetupParts) (g after : MachineState) : Type 0 where
  pub sound : Sound setup after
  pub names : List ℕ
  pub made : after.yard.made ≡ g.yard.made ++ names
  pub balance : OncePlaced g → (p : ℕ → Bool) → placed p after ≡ placed p g + count_by p names
  pub fresh : (names ≡ []) ⊎ ((n : ℕ) × (names ≡ n ∷ []) × (list_any (λ m. m == n) g.yard.made ≡ false))
  pub live : length g.yard.made ≤ setup.threads + length g.yard.ended → length after.yard.made ≤ setup.threads + length after.yard.ended

pub goes_nowhere : (setup : SetupParts) (g : MachineState) → Sound setup g → Goes setup g g
goes_nowhere setup g sound = record {
  sound = sound;
  names = [];
  made = sym (append-nil g.yard.made);
  balance = λ once p. omega arith;
  fresh = inl refl;
  live = λ h. h;
}

pub goes_flat : (setup : SetupParts) (g : MachineState) (a c : ℕ) (h : Hand) (s : Flat) → Sound setup g → a < actor_count setup → c < cluster_count setup → HandFits setup h → FlatFits setup s
    → ((p : ℕ → Bool) → queued_by p s + held_by_test p h ≡ queued_by p (flat_at g c) + held_by_test p (hand_at g a))
    → Goes setup g (with_hand a h (with_flat c s g))
goes_flat setup g a c h s sound ain cin hf sf same = record {
  sound = sound_hand_flat setup g a c h s sound hf sf;
  names = [];
  made = sym (append-nil g.yard.made);
  balance = λ once p. omega (arith, same p, placed_hand_flat p g a c h s (omega (arith, ain, sound.hands_length)) (omega (arith, cin, sound.flats_length)));
  fresh = inl refl;
  live = λ h. h;
}

pub goes_yard : (setup : SetupParts) (g : MachineState) (a : ℕ) (h : Hand) (y : Yard) (names : List ℕ) → Sound setup g → a < actor_count setup → HandFits setup h → YardFits setup y
    → (y.made ≡ g.yard.made ++ names)
    → (OncePlaced g → (p : ℕ → Bool) → yard_by p y + held_by_test p h ≡ yard_by p g.yard + held_by_test p (hand_at g a) + count_by p names)
    → ((names ≡ []) ⊎ ((n : ℕ) × (names ≡ n ∷ []) × (list_any (λ m. m == n) g.yard.made ≡ false)))
    → (length g.yard.made ≤ setup.threads + length g.yard.ended → length y.made ≤ setup.threads + length y.ended)
    → Goes setup g (with_hand a h (with_yard y g))
goes_yard setup g a h y names sound ain hf yf made same fresh live = record {
  sound = sound_hand_yard setup g a h y sound hf yf;
  names = names;
  made = made;
  balance = λ once p. omega (arith, same once p, placed_hand_yard p g a h y (omega (arith, ain, sound.hands_length)));
  fresh = fresh;
  live = live;
}

-- an actor's home is one of the clusters
home_below : (cs : List ClusterParts) (actor : ℕ) → actor < sum_by (λ (c : ClusterParts). c.cpus) cs → home_among cs actor < length cs
home_below [] actor h = absurd (omega (arith, h))
home_below (c ∷ cs) actor h =
    elim (cases_Bool (nat_lt actor c.cpus)) [
      | inl e ↦ (let is : home_among (c ∷ cs) actor ≡ 0 = cond-true (nat_lt actor c.cpus) 0 (home_among cs (actor - c.cpus) + 1) e in omega (arith, is))
      | inr e ↦ (let is : home_among (c ∷ cs) actor ≡ home_among cs (actor - c.cpus) + 1 = cond-false (nat_lt actor c.cpus) 0 (home_among cs (actor - c.cpus) + 1) e in
          let rest = home_below cs (actor - c.cpus) (omega (arith, h, sum_by-cons (λ (k : ClusterParts). k.cpus) c cs, ltb-false actor c.cpus e)) in
          omega (arith, is, rest))
    ]

pub home_within : (setup : SetupParts) (actor : ℕ) → actor < actor_count setup → home_of setup actor < cluster_count setup
home_within setup actor h = home_below setup.clusters actor h

-- a queue fits by its parts, and gives them
pub flat_fits : (setup : SetupParts) (s : Flat) → PartsOf (group_count setup) s → EachQueued (λ (e : Queued). ThreadFits setup e.facts) s.entries → s.last < moment_limit → FlatFits setup s
flat_fits setup s p each soon = record { formed = well_formed_within (length s.entries) (group_count setup) s (omega arith) p; threads = each; last = soon }

pub flat_parts : (setup : SetupParts) (s : Flat) → FlatFits setup s → PartsOf (group_count setup) s
flat_parts setup s f = parts_within (length s.entries) (group_count setup) s f.formed

-- a hand without a thread fits
pub empty_hand_fits : (setup : SetupParts) (now : ℕ) → now < moment_limit → HandFits setup (empty_hand setup now)
empty_hand_fits setup now soon = record { thread = λ t h. absurd (none-some t h); looks = length-replicate (cluster_count setup) None; last = soon }
