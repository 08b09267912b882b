-- The numbers of an answer are in the ranges of lines, act by act.
use Rattle.std.proofs.Common.{◌≡◌, ◌<◌, ◌≤◌, ◌*◌, ◌/◌, ◌^◌, ◌==◌, ◌&&◌, ℕ, All, Bool, Err, IfSome, List, [], None, Ok, Option, Result, Some, arith, count_by, length, nat_le, not, refl}
use Rattle.std.proofs.Math.Nat.{div-le_self}
use Rattle.std.proofs.lemmas.Bool.{cond_both}
use Rattle.std.proofs.lemmas.List.Elements.{All-contains, All-filter, All-get_or, All-nil, All-weaker}
use Rattle.std.proofs.lemmas.List.Sums.{count_by-le-length, get_or-le-sum_by}
use Rattle.std.proofs.lemmas.Nat.{mul-le}
use Rattle.sched_base.specs.Bucket.{index}
use Rattle.sched_base.specs.Limits.{most_base}
use Rattle.sched_base.specs.declared.Act.{Act}
use Rattle.sched_base.specs.declared.Bucket.{Bucket}
use Rattle.sched_base.specs.declared.Bucket.TheVariants.{Bg, Df, Fg, Ini, Ui, Ut}
use Rattle.sched_base.specs.declared.Facts.{Facts}
use Rattle.flat_policy.specs.declared.setup.Times.{Times}
use Rattle.flat_policy.specs.Laws.Aims.{AimMayBeEntered}
use Rattle.flat_policy.specs.Laws.Counts.{StaysWithin}
use Rattle.flat_policy.specs.Laws.Sound.{FittingPrefersAmong, Sound}
use Rattle.flat_policy.specs.Policy.Aim.{Look, aim, load}
use Rattle.flat_policy.specs.Policy.BuiltSetups.{IsClusterTimes, IsSetup, IsTimes}
use Rattle.flat_policy.specs.Policy.ClusterSteps.{Event, got, named_entry, offer_event, select_event}
use Rattle.flat_policy.specs.Policy.Machine.{Hand, MachineState, Sleeper, accepted_by, aim_answer, aim_outcome, end_outcome, enter_outcome, flat_at, hand_at, live_count, look_outcome, pull_outcome, ran_outcome, sleep_outcome, sleeper_of, wake_outcome}
use Rattle.flat_policy.specs.Policy.Moves.{pick, pick_in}
use Rattle.flat_policy.specs.Policy.Offer.{first_there, is_unbound, offered_between, offered_foreign, offered_masked}
use Rattle.flat_policy.specs.Policy.Queue.{Flat, Queued, empty_flat}
use Rattle.flat_policy.specs.Policy.Refresh.{repriced, repriced_count}
use Rattle.flat_policy.specs.Policy.Setup.{SetupParts, actor_count, cluster_count, cluster_times, cpus_of, home_of, no_times, times_for}
use Rattle.flat_policy.specs.Policy.Threads.{ThreadFits}
use Rattle.flat_policy.specs.Policy.Usage.{priority}
use Rattle.flat_policy.specs.Policy.Windows.{Choice, chosen, expired}
use Rattle.trace_text.specs.Writing.{AnswerFits}
use Rattle.trace_text.proofs.FittingPlaces.{enters_among, needed_among}
use Rattle.trace_text.proofs.Found.{all_queued, found_has, found_then, if_some, read_has}
use Rattle.sched_base.specs.declared.Act.TheVariants as acts

-- ---- queues

-- the thread of an entry fits
abbrev pub EntryFits : SetupParts → Queued → Type 0
EntryFits setup e = ThreadFits setup e.facts

entries_fit : (setup : SetupParts) (g : MachineState) (c : ℕ) → Sound setup g → All (EntryFits setup) (flat_at g c).entries
entries_fit setup g c sound =
    read_has (λ (s : Flat). All (EntryFits setup) s.entries) g.flats c (empty_flat 0)
    (λ k within. all_queued (EntryFits setup) (flat_at g k).entries (sound.flats k (omega (arith, within, sound.flats_length))).threads)
    (All-nil (EntryFits setup))

few_entries : (setup : SetupParts) (g : MachineState) (c : ℕ) → IsSetup setup → StaysWithin setup g → length (flat_at g c).entries ≤ 4096
few_entries setup g c is within =
    read_has (λ (s : Flat). length s.entries ≤ 4096) g.flats c (empty_flat 0)
    (λ k inside. omega (arith, get_or-le-sum_by (λ (s : Flat). length s.entries) g.flats k (empty_flat 0) inside, within.queued, within.live, is.threads_most))
    (omega arith)

got_fits : (setup : SetupParts) (o : Option Queued) → IfSome o (EntryFits setup) → AnswerFits (got o)
got_fits setup None fits = tt
got_fits setup (Some e) fits = fits.name

picked_fits : (setup : SetupParts) (ts : List Times) (now : ℕ) (s : Flat) → All (EntryFits setup) s.entries → IfSome (pick ts now s) (EntryFits setup)
picked_fits setup ts now s all =
    found_then (EntryFits setup) (λ (c : Choice). pick_in (expired ts s now) c.lane) (chosen ts (expired ts s now))
    (λ c. found_has (EntryFits setup) _ s.entries all)

first_there_has : {X : Type 0} (P : X → Type 0) (o other : Option X) → IfSome o P → IfSome other P → IfSome (first_there o other) P
first_there_has P None other first second = second
first_there_has P (Some x) other first second = first

foreign_fits : (setup : SetupParts) (to : ℕ) (s : Flat) → All (EntryFits setup) s.entries → IfSome (offered_foreign to s) (EntryFits setup)
foreign_fits setup to s all = found_has (EntryFits setup) _ _ (All-filter _ (EntryFits setup) s.entries all)

masked_fits : (setup : SetupParts) (mask : ℕ) (s : Flat) → All (EntryFits setup) s.entries → IfSome (offered_masked mask s) (EntryFits setup)
masked_fits setup mask s all = found_has (EntryFits setup) _ _ (All-filter _ (EntryFits setup) s.entries all)

offered_fits : (setup : SetupParts) (from to : ℕ) (s : Flat) → All (EntryFits setup) s.entries → IfSome (offered_between setup from to s) (EntryFits setup)
offered_fits setup from to s all =
    first_there_has (EntryFits setup) _ _
    (cond_both _ (offered_foreign to s) None (λ o. IfSome o (EntryFits setup)) (λ e. foreign_fits setup to s all) (λ e. tt))
    (masked_fits setup _ s all)

select_fits : (setup : SetupParts) (c now : ℕ) (s : Flat) → All (EntryFits setup) s.entries → AnswerFits (select_event setup c now s).answer
select_fits setup c now s all =
    cond_both s.on _ _ (λ (e : Event). AnswerFits e.answer)
    (λ e. got_fits setup (pick (cluster_times setup c) now s) (picked_fits setup (cluster_times setup c) now s all))
    (λ e. tt)

offer_fits : (setup : SetupParts) (from to now : ℕ) (s : Flat) → All (EntryFits setup) s.entries → AnswerFits (offer_event setup from to now s).answer
offer_fits setup from to now s all = got_fits setup (offered_between setup from to s) (offered_fits setup from to s all)

priority_fits : (b : Bucket) (base usage n : ℕ) → base ≤ most_base → priority base b usage n ≤ most_base
priority_fits Ui base usage n le = le
priority_fits Fg base usage n le = omega (arith, le)
priority_fits Ini base usage n le = omega (arith, le)
priority_fits Df base usage n le = omega (arith, le)
priority_fits Ut base usage n le = omega (arith, le)
priority_fits Bg base usage n le = omega (arith, le)

enter_fits : (setup : SetupParts) (g : MachineState) (a c : ℕ) (head : Bool) (now : ℕ) (o : Option Facts) → IfSome o (ThreadFits setup) → AnswerFits (enter_outcome setup g a c head now o).answer
enter_fits setup g a c head now None fits = tt
enter_fits setup g a c head now (Some t) fits = priority_fits t.bucket t.base _ _ fits.base

pull_fits : (setup : SetupParts) (g : MachineState) (a : ℕ) (h : Hand) (c now : ℕ) (o : Option Queued) → AnswerFits (pull_outcome setup g a h c now o).answer
pull_fits setup g a h c now None = tt
pull_fits setup g a h c now (Some e) = tt

-- ---- counts

new_fits : (s : Flat) (now : ℕ) → length s.entries ≤ 4096 → repriced_count s now < 2 ^ 32
new_fits s now few =
    let changes : Queued → Bool = λ e. not ((repriced s now e).pri == e.pri) in
    omega (arith, count_by-le-length changes s.entries, few)

-- a time's quantum is in range
abbrev HasQuantum : Times → Type 0
HasQuantum t = t.quantum ≤ 100000

quantum_few : (setup : SetupParts) (c : ℕ) (b : Bucket) → IsSetup setup → HasQuantum (times_for (cluster_times setup c) b)
quantum_few setup c b is =
    let here : All HasQuantum (cluster_times setup c) =
    read_has (All HasQuantum) setup.times c []
    (λ k within. All-weaker IsTimes HasQuantum (λ t fits. fits.quantum_most) (cluster_times setup k) (All-get_or IsClusterTimes setup.times k [] within is.times).each)
    (All-nil HasQuantum) in
    read_has HasQuantum (cluster_times setup c) (index b) no_times
    (λ k within. All-get_or HasQuantum (cluster_times setup c) k no_times within here)
    (omega arith)

load_few : (count quantum cpus : ℕ) → count ≤ 4096 → quantum ≤ 100000 → count * quantum / cpus < 2 ^ 32
load_few count quantum cpus few short = omega (arith, div-le_self (count * quantum) cpus, mul-le count quantum 4096 100000 few short)

load_fits : (setup : SetupParts) (c : ℕ) (s : Flat) (b : Bucket) → IsSetup setup → length s.entries ≤ 4096
    → load (times_for (cluster_times setup c) b) (cpus_of setup c) s b < 2 ^ 32
load_fits setup c s b is few =
    let counts : Queued → Bool = λ e. is_unbound e.facts && nat_le (index e.facts.bucket) (index b) in
    load_few (count_by counts s.entries) (times_for (cluster_times setup c) b).quantum (cpus_of setup c)
    (omega (arith, count_by-le-length counts s.entries, few))
    (quantum_few setup c b is)

look_fits : (setup : SetupParts) (g : MachineState) (a : ℕ) (h : Hand) (c now : ℕ) (o : Option Facts) → IsSetup setup → length (flat_at g c).entries ≤ 4096
    → AnswerFits (look_outcome setup g a h c now o).answer
look_fits setup g a h c now None is few = tt
look_fits setup g a h c now (Some t) is few =
    cond_both (flat_at g c).on _ _ AnswerFits (λ e. load_fits setup c (flat_at g c) t.bucket is few) (λ e. tt)

-- ---- hands

aim_answer_fits : (setup : SetupParts) (looks : List (Option Look)) (t : Facts) (r : Result ℕ ℕ) → AimMayBeEntered → FittingPrefersAmong → IsSetup setup → ThreadFits setup t
    → aim setup looks t ≡ r → AnswerFits (aim_answer r)
aim_answer_fits setup looks t (Ok c) aims prefers is fits e =
    let below = enters_among setup t c prefers is fits ((aims setup looks t).enters c e) in omega (arith, below, is.clusters_most)
aim_answer_fits setup looks t (Err c) aims prefers is fits e =
    let needs = ((aims setup looks t).looks_first c e).is_needed in
    let below = All-contains (λ c. c < cluster_count setup) _ c (needed_among setup t) needs in omega (arith, below, is.clusters_most)

aim_fits : (setup : SetupParts) (g : MachineState) (a : ℕ) (h : Hand) (now : ℕ) (o : Option Facts) → AimMayBeEntered → FittingPrefersAmong → IsSetup setup → IfSome o (ThreadFits setup)
    → AnswerFits (aim_outcome setup g a h now o).answer
aim_fits setup g a h now None aims prefers is fits = tt
aim_fits setup g a h now (Some t) aims prefers is fits = aim_answer_fits setup h.looks t (aim setup h.looks t) aims prefers is fits refl

ran_fits : (setup : SetupParts) (g : MachineState) (a : ℕ) (h : Hand) (us now : ℕ) (o : Option Facts) → AnswerFits (ran_outcome setup g a h us now o).answer
ran_fits setup g a h us now None = tt
ran_fits setup g a h us now (Some t) = omega arith

sleep_fits : (setup : SetupParts) (g : MachineState) (a now : ℕ) (o : Option Facts) → AnswerFits (sleep_outcome setup g a now o).answer
sleep_fits setup g a now None = tt
sleep_fits setup g a now (Some t) = tt

wake_fits : (setup : SetupParts) (g : MachineState) (a now : ℕ) (o : Option Sleeper) → AnswerFits (wake_outcome setup g a now o).answer
wake_fits setup g a now None = tt
wake_fits setup g a now (Some w) = tt

end_fits : (setup : SetupParts) (g : MachineState) (a now : ℕ) (o : Option Facts) → AnswerFits (end_outcome setup g a now o).answer
end_fits setup g a now None = tt
end_fits setup g a now (Some t) = tt

-- ---- what is known of a state and an actor

-- a state of a history, an actor that is there, and the laws of aims
pub record IsAsked (setup : SetupParts) (g : MachineState) (a : ℕ) : Type 0 where
  pub is : IsSetup setup
  pub sound : Sound setup g
  pub within : StaysWithin setup g
  pub blocked : length g.yard.blocked ≤ live_count g.yard
  pub actor : a < actor_count setup
  pub aims : AimMayBeEntered
  pub prefers : FittingPrefersAmong

held_fits : (setup : SetupParts) (g : MachineState) (a : ℕ) → IsAsked setup g a → IfSome (hand_at g a).thread (ThreadFits setup)
held_fits setup g a k = if_some (ThreadFits setup) (hand_at g a).thread (k.sound.hands a k.actor).thread

-- the answer to an accepted act
pub accepted_fits : (setup : SetupParts) (g : MachineState) (a now : ℕ) (act : Act) → IsAsked setup g a → AnswerFits (accepted_by setup g a (hand_at g a) now act).answer
accepted_fits setup g a now (acts.Make name group bucket base bound) k = tt
accepted_fits setup g a now (acts.Enter c head) k = enter_fits setup g a c head now (hand_at g a).thread (held_fits setup g a k)
accepted_fits setup g a now acts.Select k = select_fits setup (home_of setup a) now (flat_at g (home_of setup a)) (entries_fit setup g (home_of setup a) k.sound)
accepted_fits setup g a now (acts.Offer c) k = offer_fits setup c (home_of setup a) now (flat_at g c) (entries_fit setup g c k.sound)
accepted_fits setup g a now (acts.Pull name) k = pull_fits setup g a (hand_at g a) (home_of setup a) now (named_entry (flat_at g (home_of setup a)) name)
accepted_fits setup g a now (acts.Look c) k = look_fits setup g a (hand_at g a) c now (hand_at g a).thread k.is (few_entries setup g c k.is k.within)
accepted_fits setup g a now acts.Aim k = aim_fits setup g a (hand_at g a) now (hand_at g a).thread k.aims k.prefers k.is (held_fits setup g a k)
accepted_fits setup g a now (acts.Ran us) k = ran_fits setup g a (hand_at g a) us now (hand_at g a).thread
accepted_fits setup g a now acts.Sleep k = sleep_fits setup g a now (hand_at g a).thread
accepted_fits setup g a now (acts.Wake name) k = wake_fits setup g a now (sleeper_of g.yard name)
accepted_fits setup g a now acts.End k = end_fits setup g a now (hand_at g a).thread
accepted_fits setup g a now acts.Blocked k = omega (arith, k.blocked, k.within.live, k.is.threads_most)
accepted_fits setup g a now acts.Refresh k =
    new_fits (flat_at g (home_of setup a)) now (few_entries setup g (home_of setup a) k.is k.within)
accepted_fits setup g a now (acts.Off c) k = tt
accepted_fits setup g a now (acts.On c) k = tt
