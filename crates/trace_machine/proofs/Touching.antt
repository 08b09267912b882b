-- Acts at a cluster that move no thread.
use Rattle.std.proofs.Common.{◌≡◌, ℕ, ◌<◌, ◌≤◌, Bool, Option, Some, None, IsSome, List, [], ◌∷◌, ◌==◌, length, fold, refl, sym, ap, ◌∙◌, subst, arith}
use Rattle.std.proofs.lemmas.Bool.{cond_both, false≢true}
use Rattle.std.proofs.lemmas.List.{length-map}
use Rattle.flat_policy.specs.Laws.Clusters.{CallsKeepStanding}
use Rattle.flat_policy.specs.Laws.Kept.{RisesBy}
use Rattle.flat_policy.specs.Policy.ClusterSteps.{power_event}
use Rattle.flat_policy.specs.Policy.Clusters.{ClusterView, IsCluster, NameStands, after_refresh, after_turn, moment_at, with_queue}
use Rattle.flat_policy.specs.Policy.Machine.{Hand, Outcome, Yard, flat_at, kept_hand, leaving_hand, with_flat, with_hand}
use Rattle.flat_policy.specs.Policy.Moves.{with_next_turn}
use Rattle.flat_policy.specs.Policy.Precedence.{clutch_priority}
use Rattle.flat_policy.specs.Policy.Queue.{Clutch, Flat}
use Rattle.flat_policy.specs.Policy.Refresh.{all_clutches, refreshed, repriced, repriced_count, turn_on_refresh, with_new_prices}
use Rattle.flat_policy.specs.Policy.Setup.{SetupParts, cluster_count, group_count, home_of}
use Rattle.sched_base.specs.declared.Act.{Act}
use Rattle.sched_base.specs.declared.Answer.{Answer}
use Rattle.sched_base.specs.declared.Facts.{Facts}
use Rattle.sched_base.specs.declared.Act.TheVariants as acts
use Rattle.sched_base.specs.declared.Answer.TheVariants as answers
use Rattle.trace_machine.specs.Parts.{Does, IsReady, PartsView, accepted_at, cluster_at, hand_of, state_of}
use Rattle.trace_machine.proofs.Setting.{GoesOn, changed, does_at, flat_here, now_is_effective, rises_less, rises_none}

turns_keep_length : (before s : Flat) (ks : List Clutch) → length (fold (turn_on_refresh before) s ks).entries ≡ length s.entries
turns_keep_length before s [] = refl
turns_keep_length before s (k ∷ ks) =
    turns_keep_length before (turn_on_refresh before s k) ks
    ∙ cond_both (clutch_priority before k == clutch_priority s k) s (with_next_turn k s) (λ (u : Flat). length u.entries ≡ length s.entries) (λ _. refl) (λ _. refl)

-- a refresh leaves as many entries
refresh_keeps_length : (groups : ℕ) (s : Flat) (now : ℕ) → length (refreshed groups s now).entries ≡ length s.entries
refresh_keeps_length groups s now =
    turns_keep_length s (with_new_prices s now) (all_clutches groups) ∙ length-map s.entries (repriced s now)

-- the queue of the policy's state is that of the cluster
pub flat_of_view : (p : PartsView) (c : ℕ) (v : ClusterView) (y : Yard) → cluster_at p c ≡ v → flat_at (state_of p y) c ≡ v.flat
flat_of_view p c v y is = flat_here p y c ∙ ap (λ (w : ClusterView). w.flat) is

goes_refreshed : (v x : ClusterView) (now : ℕ) → x ≡ after_refresh v now → RisesBy 0 384 v.flat x.flat → GoesOn v x
goes_refreshed v x now is rises = record {
  setup = ap (λ (w : ClusterView). w.setup) is;
  number = ap (λ (w : ClusterView). w.number) is;
  room = omega (arith, ap (λ (w : ClusterView). w.spare) is, ap (λ (w : ClusterView). length w.flat.entries) is, refresh_keeps_length (group_count v.setup) v.flat (moment_at v now));
  rises = rises_less 0 384 v.flat x.flat (omega arith) (omega arith) rises;
}

-- pricing the home's entries anew
pub refreshes : (p new : PartsView) (a now count c : ℕ) (v x : ClusterView)
    → c ≡ home_of p.setup a → c < cluster_count p.setup
    → CallsKeepStanding → IsCluster v → IsReady p a → (cluster_at p (home_of p.setup a)).flat.last ≤ now
    → cluster_at p c ≡ v → x ≡ after_refresh v now → RisesBy 0 384 v.flat x.flat
    → count ≡ repriced_count v.flat (moment_at v now)
    → new ≡ changed p c x a (kept_hand (hand_of p a) now)
    → Does p new a now acts.Refresh (answers.New count)
refreshes p new a now count c v x home below keeps cluster ready later read is rises counted changes =
    let h = kept_hand (hand_of p a) now in
    let effective : moment_at v now ≡ now =
    now_is_effective now v.flat.last (subst (λ (w : ClusterView). w.flat.last ≤ now) read (subst (λ k. (cluster_at p k).flat.last ≤ now) (sym home) later)) in
    let setup_is : v.setup ≡ p.setup = ap (λ (w : ClusterView). w.setup) (sym read) ∙ (ready.serve c below).of_setup in
    let flat_is : x.flat ≡ refreshed (group_count p.setup) v.flat now =
    ap (λ (w : ClusterView). w.flat) is
    ∙ ap (λ k. refreshed (group_count v.setup) v.flat k) effective
    ∙ ap (λ (s : SetupParts). refreshed (group_count s) v.flat now) setup_is in
    does_at p new c x a h now acts.Refresh (answers.New count) changes (record {
      there = subst (λ n. c < n) (sym ready.clusters) below;
      goes_on = subst (λ (w : ClusterView). GoesOn w x) (sym read) (goes_refreshed v x now is rises);
      answers = λ y. ap (λ k. answers.New (repriced_count (flat_at (state_of p y) k) now)) (sym home)
          ∙ ap (λ (s : Flat). answers.New (repriced_count s now)) (flat_of_view p c v y read)
          ∙ ap (λ k. answers.New (repriced_count v.flat k)) (sym effective) ∙ ap (λ k. answers.New k) (sym counted);
      leads = λ y. ap (λ k. with_hand a h (with_flat k (refreshed (group_count p.setup) (flat_at (state_of p y) k) now) (state_of p y))) (sym home)
          ∙ ap (λ (s : Flat). with_hand a h (with_flat c (refreshed (group_count p.setup) s now) (state_of p y))) (flat_of_view p c v y read)
          ∙ ap (λ (s : Flat). with_hand a h (with_flat c s (state_of p y))) (sym flat_is);
      stands = λ y slot arrival name other stands.
          subst (λ (w : ClusterView). NameStands w slot arrival name) (sym is)
          ((keeps v cluster).refreshing now slot arrival name (subst (λ (w : ClusterView). NameStands w slot arrival name) read stands));
    })

-- what changes in a cluster that is turned on or off or touched alone
pub record Quiet (v : ClusterView) (on : Bool) (last : ℕ) (x : ClusterView) : Type 0 where
  pub is : x ≡ with_queue (record v.flat { on = on; last = last }) v

goes_quiet : (v x : ClusterView) (on : Bool) (last : ℕ) → Quiet v on last x → GoesOn v x
goes_quiet v x on last quiet = record {
  setup = ap (λ (w : ClusterView). w.setup) quiet.is;
  number = ap (λ (w : ClusterView). w.number) quiet.is;
  room = omega (arith, ap (λ (w : ClusterView). w.spare) quiet.is, ap (λ (w : ClusterView). length w.flat.entries) quiet.is);
  rises = rises_none v.flat x.flat (ap (λ (w : ClusterView). w.flat.next_arrival) quiet.is) (ap (λ (w : ClusterView). w.flat.next_turn) quiet.is);
}

-- an act that changes no more in a cluster and moves no thread
pub acts_quietly : (p new : PartsView) (a now c : ℕ) (act : Act) (answer : Answer) (v x : ClusterView) (on : Bool) (h : Hand)
    → c < cluster_count p.setup → IsReady p a → (cluster_at p c).flat.last ≤ now → cluster_at p c ≡ v → Quiet v on (moment_at v now) x
    → ((y : Yard) → (accepted_at p y a now act).answer ≡ answer)
    → ((y : Yard) → (accepted_at p y a now act).state ≡ with_hand a h (with_flat c (record v.flat { on = on; last = now }) (state_of p y)))
    → new ≡ changed p c x a h
    → Does p new a now act answer
acts_quietly p new a now c act answer v x on h below ready later read quiet answered leads changes =
    let effective : moment_at v now ≡ now =
    now_is_effective now v.flat.last (subst (λ (w : ClusterView). w.flat.last ≤ now) read later) in
    let flat_is : x.flat ≡ record v.flat { on = on; last = now } =
    ap (λ (w : ClusterView). w.flat) quiet.is ∙ ap (λ l. record v.flat { on = on; last = l }) effective in
    does_at p new c x a h now act answer changes (record {
      there = subst (λ n. c < n) (sym ready.clusters) below;
      goes_on = subst (λ (w : ClusterView). GoesOn w x) (sym read) (goes_quiet v x on (moment_at v now) quiet);
      answers = answered;
      leads = λ y. leads y ∙ ap (λ (s : Flat). with_hand a h (with_flat c s (state_of p y))) (sym flat_is);
      stands = λ y slot arrival name other stands.
          subst (λ (w : ClusterView). NameStands w slot arrival name) (sym quiet.is)
          (subst (λ (w : ClusterView). NameStands w slot arrival name) read stands);
    })

-- turning a cluster on or off
pub turns : (p new : PartsView) (a now c : ℕ) (act : Act) (v x : ClusterView) (on : Bool)
    → c < cluster_count p.setup → IsReady p a → (cluster_at p c).flat.last ≤ now → cluster_at p c ≡ v → x ≡ after_turn v on now
    → ((y : Yard) → accepted_at p y a now act ≡ leaving_hand (state_of p y) a (hand_of p a) c now (power_event on now (flat_at (state_of p y) c)))
    → new ≡ changed p c x a (kept_hand (hand_of p a) now)
    → Does p new a now act answers.Yes
turns p new a now c act v x on below ready later read is comes changes =
    let h = kept_hand (hand_of p a) now in
    acts_quietly p new a now c act answers.Yes v x on h below ready later read (record { is = is })
    (λ y. ap (λ (o : Outcome). o.answer) (comes y))
    (λ y. ap (λ (o : Outcome). o.state) (comes y)
    ∙ ap (λ (s : Flat). with_hand a h (with_flat c (record s { on = on; last = now }) (state_of p y))) (flat_of_view p c v y read))
    changes

-- a thread that is there
pub some_held : (o : Option Facts) → IsSome o → (t : Facts) × (o ≡ Some t)
some_held None held = absurd (false≢true held)
some_held (Some t) held = (t, refl)
