-- Lines at a cluster: what the cluster and the hand allow, the machine does.
use Rattle.std.proofs.Common.{◌≡◌, ℕ, ◌==◌, ◌&&◌, nat_lt, not, Bool, true, false, [], ◌∷◌, length, Option, Some, None, is_none, is_some, option_and_then, refl, sym, ap, ◌∙◌, inl, inr, eqb-true}
use Rattle.std.specs.Option.{option_map}
use Rattle.std.proofs.lemmas.Bool.{and_parts, cases_Bool, eq-eqb, false≢true}
use Rattle.std.proofs.lemmas.Option.{none-some, same_Some}
use Rattle.sched_base.specs.Bucket.{index}
use Rattle.sched_base.specs.Limits.{most_threads}
use Rattle.sched_base.specs.declared.Act.{Act}
use Rattle.sched_base.specs.declared.Act.TheVariants as acts
use Rattle.sched_base.specs.declared.Answer.TheVariants as answers
use Rattle.sched_base.specs.declared.Bucket.{Bucket}
use Rattle.sched_base.specs.declared.Bucket.TheVariants.{Bg, Df, Fg, Ini, Ui, Ut}
use Rattle.sched_base.specs.declared.Facts.{Facts}
use Rattle.sched_base.specs.declared.Spot.TheVariants as spots
use Rattle.flat_policy.specs.declared.journal.Line.{Line}
use Rattle.flat_policy.specs.Policy.Aim.{may_enter}
use Rattle.flat_policy.specs.Policy.ClusterSteps.{Event, enter_event, look_event, named_entry, offer_event, power_event, pull_event, refresh_event, select_event}
use Rattle.flat_policy.specs.Policy.Machine.{Hand, MachineState, empty_hand, enter_outcome, enter_outcome_by, first_refusal, flat_at, kept_hand, leaving_hand, look_outcome, look_outcome_by, looked_hand, not_allowed, not_queued, pull_outcome, refuse, taking, taking_hand, with_flat, with_hand}
use Rattle.flat_policy.specs.Policy.Queue.{Queued}
use Rattle.flat_policy.specs.Policy.Setup.{SetupParts, home_of}
use Rattle.flat_policy.specs.Runs.Hands.{HandEvent, hand_event_by, is_mark_of, looking_line, untold}
use Rattle.flat_policy.specs.Runs.Histories.{Carries, actor_of, bucket_of_index, entering, event_by, moment_of}
use Rattle.flat_policy.proofs.Happens.{and_then_gives, cond_gives, map_gives, where_true_gives}
use Rattle.composition.proofs.Outcomes.{Comes, TakenBy, given_by, holds_some, not_holds, outcome_same, passes, taken_by, told}

-- the machine after a line at a cluster
abbrev pub after_at : MachineState → Line → ℕ → Event → HandEvent → MachineState
after_at g l c e f = with_hand (actor_of l) f.hand (with_flat c e.flat g)

-- what a line at a cluster comes to in the machine
abbrev pub ComesAt : SetupParts → MachineState → Hand → Line → ℕ → Event → HandEvent → Act → Type 0
ComesAt setup g h l c e f act = Comes setup g h l act (Some (spots.Cluster c)) (after_at g l c e f)

taken_is : (setup : SetupParts) (g : MachineState) (h : Hand) (l : Line) (c : ℕ) (e : Event) (f : HandEvent) → Carries l e.answer e.thread → TakenBy setup h l f → taking setup g (actor_of l) h c (moment_of l) e ≡ told l (after_at g l c e f)
taken_is setup g h l c e f tells by =
    outcome_same e.answer l.entry.answer e.thread l.entry.thread (with_hand (actor_of l) (taking_hand setup h e.thread (moment_of l)) (with_flat c e.flat g)) (after_at g l c e f)
    (sym tells.answer) (sym tells.thread)
    (ap (λ (k : Hand). with_hand (actor_of l) k (with_flat c e.flat g)) (ap (λ (o : Option Facts). taking_hand setup h o (moment_of l)) (sym tells.thread) ∙ by.hand))

left_is : (g : MachineState) (h : Hand) (l : Line) (c : ℕ) (e : Event) (f : HandEvent) → Carries l e.answer e.thread → ◌≡◌ {A = Option Facts} None e.thread → kept_hand h (moment_of l) ≡ f.hand → leaving_hand g (actor_of l) h c (moment_of l) e ≡ told l (after_at g l c e f)
left_is g h l c e f tells none hand =
    outcome_same e.answer l.entry.answer None l.entry.thread (with_hand (actor_of l) (kept_hand h (moment_of l)) (with_flat c e.flat g)) (after_at g l c e f)
    (sym tells.answer) (none ∙ sym tells.thread) (ap (λ (k : Hand). with_hand (actor_of l) k (with_flat c e.flat g)) hand)

enter_comes : (setup : SetupParts) (g : MachineState) (h : Hand) (l : Line) (c : ℕ) (e : Event) (f : HandEvent) → Carries l e.answer e.thread → Carries l f.answer f.thread → (at : ℕ) (head : Bool)
    → event_by setup c (flat_at g c) l (acts.Enter at head) ≡ Some e → hand_event_by setup h l (acts.Enter at head) ≡ Some f → ComesAt setup g h l c e f (acts.Enter at head)
enter_comes setup g h l c e f tells moves at head happens allowed =
    let now : ℕ = moment_of l in
    let a : ℕ = actor_of l in
    let here = cond_gives (at == c) (option_and_then (entering setup c (flat_at g c) head now) l.entry.thread) e happens in
    let t = and_then_gives (entering setup c (flat_at g c) head now) l.entry.thread e here.1 in
    let enters = where_true_gives (nat_lt (length (flat_at g c).entries) most_threads && may_enter setup t.0 c) (enter_event setup c t.0 head now (flat_at g c)) e t.2 in
    let may = (and_parts (nat_lt (length (flat_at g c).entries) most_threads) (may_enter setup t.0 c) enters.0).1 in
    let by = given_by setup h l f t.0 allowed moves.thread t.1 in
    let is : at ≡ c = eqb-true at c here.0 in
    record {
      at = ap (λ k. Some (spots.Cluster k)) is;
      accepted = passes (is_none h.thread) answers.HandEmpty (not_allowed setup h.thread at ∷ []) (holds_some h t.0 by.held)
          ∙ (ap (λ (o : Option Facts). first_refusal (not_allowed setup o at ∷ [])) by.held
          ∙ passes (not (may_enter setup t.0 at)) answers.NotAllowed [] (ap not (ap (may_enter setup t.0) is ∙ may)));
      comes = ap (λ (o : Option Facts). enter_outcome setup g a at head now o) by.held
          ∙ (ap (λ k. enter_outcome_by setup g a k now (enter_event setup k t.0 head now (flat_at g k))) is
          ∙ (ap (λ (v : Event). enter_outcome_by setup g a c now v) enters.1
          ∙ outcome_same e.answer l.entry.answer e.thread l.entry.thread (with_hand a (empty_hand setup now) (with_flat c e.flat g)) (after_at g l c e f)
          (sym tells.answer) (sym tells.thread) (ap (λ (k : Hand). with_hand a k (with_flat c e.flat g)) by.hand)));
    }

select_comes : (setup : SetupParts) (g : MachineState) (h : Hand) (l : Line) (c : ℕ) (e : Event) (f : HandEvent) → Carries l e.answer e.thread
    → event_by setup c (flat_at g c) l acts.Select ≡ Some e → hand_event_by setup h l acts.Select ≡ Some f → ComesAt setup g h l c e f acts.Select
select_comes setup g h l c e f tells happens allowed =
    let now : ℕ = moment_of l in
    let a : ℕ = actor_of l in
    let home : ℕ = home_of setup a in
    let here = where_true_gives (home == c) (select_event setup c now (flat_at g c)) e happens in
    let by = taken_by setup h l f allowed in
    let is : home ≡ c = eqb-true home c here.0 in
    record {
      at = ap (λ k. Some (spots.Cluster k)) is;
      accepted = passes (is_some h.thread) answers.HandFull [] by.empty;
      comes = ap (λ k. taking setup g a h k now (select_event setup k now (flat_at g k))) is
          ∙ (ap (λ (v : Event). taking setup g a h c now v) here.1 ∙ taken_is setup g h l c e f tells by);
    }

-- an actor that offers from another cluster is not at home there
not_own : (at c home : ℕ) → at ≡ c → not (home == c) ≡ true → (at == home) ≡ false
not_own at c home is other =
    elim (cases_Bool (at == home)) [
      | inl e ↦ absurd (false≢true (sym (not_holds (home == c) other) ∙ eq-eqb home c (sym (eqb-true at home e) ∙ is)))
      | inr e ↦ e
    ]

offer_comes : (setup : SetupParts) (g : MachineState) (h : Hand) (l : Line) (c : ℕ) (e : Event) (f : HandEvent) → Carries l e.answer e.thread → (at : ℕ)
    → event_by setup c (flat_at g c) l (acts.Offer at) ≡ Some e → hand_event_by setup h l (acts.Offer at) ≡ Some f → ComesAt setup g h l c e f (acts.Offer at)
offer_comes setup g h l c e f tells at happens allowed =
    let now : ℕ = moment_of l in
    let a : ℕ = actor_of l in
    let home : ℕ = home_of setup a in
    let here = where_true_gives ((at == c) && not (home == c)) (offer_event setup c home now (flat_at g c)) e happens in
    let parts = and_parts (at == c) (not (home == c)) here.0 in
    let by = taken_by setup h l f allowed in
    let is : at ≡ c = eqb-true at c parts.0 in
    record {
      at = ap (λ k. Some (spots.Cluster k)) is;
      accepted = passes (is_some h.thread) answers.HandFull (refuse (at == home) answers.OwnCluster ∷ []) by.empty
          ∙ passes (at == home) answers.OwnCluster [] (not_own at c home is parts.1);
      comes = ap (λ k. taking setup g a h k now (offer_event setup k home now (flat_at g k))) is
          ∙ (ap (λ (v : Event). taking setup g a h c now v) here.1 ∙ taken_is setup g h l c e f tells by);
    }

pull_comes : (setup : SetupParts) (g : MachineState) (h : Hand) (l : Line) (c : ℕ) (e : Event) (f : HandEvent) → Carries l e.answer e.thread → (name : ℕ)
    → event_by setup c (flat_at g c) l (acts.Pull name) ≡ Some e → hand_event_by setup h l (acts.Pull name) ≡ Some f → ComesAt setup g h l c e f (acts.Pull name)
pull_comes setup g h l c e f tells name happens allowed =
    let now : ℕ = moment_of l in
    let a : ℕ = actor_of l in
    let home : ℕ = home_of setup a in
    let pulling : Queued → Event = λ q. pull_event q now (flat_at g c) in
    let here = cond_gives (home == c) (option_map pulling (named_entry (flat_at g c) name)) e happens in
    let q = map_gives pulling (named_entry (flat_at g c) name) e here.1 in
    let by = taken_by setup h l f allowed in
    let is : home ≡ c = eqb-true home c here.0 in
    let entry : named_entry (flat_at g home) name ≡ Some q.0 = ap (λ k. named_entry (flat_at g k) name) is ∙ q.1 in
    record {
      at = ap (λ k. Some (spots.Cluster k)) is;
      accepted = passes (is_some h.thread) answers.HandFull (not_queued g (flat_at g home) name ∷ []) by.empty
          ∙ passes (is_none (named_entry (flat_at g home) name)) (not_queued g (flat_at g home) name).answer [] (ap (λ (o : Option Queued). is_none o) entry);
      comes = ap (λ (o : Option Queued). pull_outcome setup g a h home now o) entry
          ∙ (ap (λ k. taking setup g a h k now (pull_event q.0 now (flat_at g k))) is
          ∙ (ap (λ (v : Event). taking setup g a h c now v) q.2 ∙ taken_is setup g h l c e f tells by));
    }

-- a bucket is that of its index
bucket_back : (b : Bucket) → bucket_of_index (index b) ≡ Some b
bucket_back Ui = refl
bucket_back Fg = refl
bucket_back Ini = refl
bucket_back Df = refl
bucket_back Ut = refl
bucket_back Bg = refl

-- the mark of a look is the bucket of the hand's thread
marked : (t : Facts) (mark : Option ℕ) (b : Bucket) → is_mark_of t mark ≡ true → option_and_then bucket_of_index mark ≡ Some b → b ≡ t.bucket
marked t None b m h = absurd (none-some b h)
marked t (Some i) b m h = same_Some b t.bucket (sym h ∙ (ap bucket_of_index (eqb-true i (index t.bucket) m) ∙ bucket_back t.bucket))

look_comes : (setup : SetupParts) (g : MachineState) (h : Hand) (l : Line) (c : ℕ) (e : Event) (f : HandEvent) → Carries l e.answer e.thread → (at : ℕ)
    → event_by setup c (flat_at g c) l (acts.Look at) ≡ Some e → hand_event_by setup h l (acts.Look at) ≡ Some f → ComesAt setup g h l c e f (acts.Look at)
look_comes setup g h l c e f tells at happens allowed =
    let now : ℕ = moment_of l in
    let a : ℕ = actor_of l in
    let looking : Bucket → Event = λ b. look_event setup c b now (flat_at g c) in
    let here = cond_gives (at == c) (option_map looking (option_and_then bucket_of_index l.mark)) e happens in
    let b = map_gives looking (option_and_then bucket_of_index l.mark) e here.1 in
    let t = and_then_gives (looking_line h l at) h.thread f allowed in
    let m = where_true_gives (is_mark_of t.0 l.mark) (untold l (looked_hand h at l.entry.answer now)) f t.2 in
    let is : at ≡ c = eqb-true at c here.0 in
    let same : b.0 ≡ t.0.bucket = marked t.0 l.mark b.0 m.0 b.1 in
    let seen : look_event setup c t.0.bucket now (flat_at g c) ≡ e = ap looking (sym same) ∙ b.2 in
    let hand : looked_hand h c e.answer now ≡ f.hand = ap (λ k. looked_hand h k e.answer now) (sym is)
    ∙ (ap (λ v. looked_hand h at v now) (sym tells.answer) ∙ ap (λ (v : HandEvent). v.hand) m.1) in
    record {
      at = ap (λ k. Some (spots.Cluster k)) is;
      accepted = passes (is_none h.thread) answers.HandEmpty [] (holds_some h t.0 t.1);
      comes = ap (λ (o : Option Facts). look_outcome setup g a h at now o) t.1
          ∙ (ap (λ k. look_outcome_by g a h k now (look_event setup k t.0.bucket now (flat_at g k))) is
          ∙ (ap (λ (v : Event). look_outcome_by g a h c now v) seen
          ∙ outcome_same e.answer l.entry.answer None l.entry.thread (with_hand a (looked_hand h c e.answer now) (with_flat c e.flat g)) (after_at g l c e f)
          (sym tells.answer) (ap (λ (v : Event). v.thread) b.2 ∙ sym tells.thread) (ap (λ (k : Hand). with_hand a k (with_flat c e.flat g)) hand)));
    }

refresh_comes : (setup : SetupParts) (g : MachineState) (h : Hand) (l : Line) (c : ℕ) (e : Event) (f : HandEvent) → Carries l e.answer e.thread
    → event_by setup c (flat_at g c) l acts.Refresh ≡ Some e → hand_event_by setup h l acts.Refresh ≡ Some f → ComesAt setup g h l c e f acts.Refresh
refresh_comes setup g h l c e f tells happens allowed =
    let now : ℕ = moment_of l in
    let a : ℕ = actor_of l in
    let home : ℕ = home_of setup a in
    let here = where_true_gives (home == c) (refresh_event setup now (flat_at g c)) e happens in
    let is : home ≡ c = eqb-true home c here.0 in
    record {
      at = ap (λ k. Some (spots.Cluster k)) is;
      accepted = refl;
      comes = ap (λ k. leaving_hand g a h k now (refresh_event setup now (flat_at g k))) is
          ∙ (ap (λ (v : Event). leaving_hand g a h c now v) here.1
          ∙ left_is g h l c e f tells (ap (λ (v : Event). v.thread) here.1) (ap (λ (v : HandEvent). v.hand) (same_Some (untold l (kept_hand h now)) f allowed)));
    }

power_comes : (g : MachineState) (h : Hand) (l : Line) (c : ℕ) (e : Event) (f : HandEvent) → Carries l e.answer e.thread → (at : ℕ) (on : Bool)
    → at ≡ c → power_event on (moment_of l) (flat_at g c) ≡ e → kept_hand h (moment_of l) ≡ f.hand
    → leaving_hand g (actor_of l) h at (moment_of l) (power_event on (moment_of l) (flat_at g at)) ≡ told l (after_at g l c e f)
power_comes g h l c e f tells at on is happens hand =
    ap (λ k. leaving_hand g (actor_of l) h k (moment_of l) (power_event on (moment_of l) (flat_at g k))) is
    ∙ (ap (λ (v : Event). leaving_hand g (actor_of l) h c (moment_of l) v) happens ∙ left_is g h l c e f tells (ap (λ (v : Event). v.thread) happens) hand)

off_comes : (setup : SetupParts) (g : MachineState) (h : Hand) (l : Line) (c : ℕ) (e : Event) (f : HandEvent) → Carries l e.answer e.thread → (at : ℕ)
    → event_by setup c (flat_at g c) l (acts.Off at) ≡ Some e → hand_event_by setup h l (acts.Off at) ≡ Some f → ComesAt setup g h l c e f (acts.Off at)
off_comes setup g h l c e f tells at happens allowed =
    let here = where_true_gives (at == c) (power_event false (moment_of l) (flat_at g c)) e happens in
    let is : at ≡ c = eqb-true at c here.0 in
    record {
      at = ap (λ k. Some (spots.Cluster k)) is;
      accepted = refl;
      comes = power_comes g h l c e f tells at false is here.1 (ap (λ (v : HandEvent). v.hand) (same_Some (untold l (kept_hand h (moment_of l))) f allowed));
    }

on_comes : (setup : SetupParts) (g : MachineState) (h : Hand) (l : Line) (c : ℕ) (e : Event) (f : HandEvent) → Carries l e.answer e.thread → (at : ℕ)
    → event_by setup c (flat_at g c) l (acts.On at) ≡ Some e → hand_event_by setup h l (acts.On at) ≡ Some f → ComesAt setup g h l c e f (acts.On at)
on_comes setup g h l c e f tells at happens allowed =
    let here = where_true_gives (at == c) (power_event true (moment_of l) (flat_at g c)) e happens in
    let is : at ≡ c = eqb-true at c here.0 in
    record {
      at = ap (λ k. Some (spots.Cluster k)) is;
      accepted = refl;
      comes = power_comes g h l c e f tells at true is here.1 (ap (λ (v : HandEvent). v.hand) (same_Some (untold l (kept_hand h (moment_of l))) f allowed));
    }

-- every line at a cluster
pub cluster_comes : (setup : SetupParts) (g : MachineState) (h : Hand) (l : Line) (c : ℕ) (e : Event) (f : HandEvent) → Carries l e.answer e.thread → Carries l f.answer f.thread → (act : Act)
    → event_by setup c (flat_at g c) l act ≡ Some e → hand_event_by setup h l act ≡ Some f → ComesAt setup g h l c e f act
cluster_comes setup g h l c e f tells moves (acts.Make name group bucket base bound) happens allowed = absurd (none-some e happens)
cluster_comes setup g h l c e f tells moves (acts.Enter at head) happens allowed = enter_comes setup g h l c e f tells moves at head happens allowed
cluster_comes setup g h l c e f tells moves acts.Select happens allowed = select_comes setup g h l c e f tells happens allowed
cluster_comes setup g h l c e f tells moves (acts.Offer at) happens allowed = offer_comes setup g h l c e f tells at happens allowed
cluster_comes setup g h l c e f tells moves (acts.Pull name) happens allowed = pull_comes setup g h l c e f tells name happens allowed
cluster_comes setup g h l c e f tells moves (acts.Look at) happens allowed = look_comes setup g h l c e f tells at happens allowed
cluster_comes setup g h l c e f tells moves acts.Aim happens allowed = absurd (none-some e happens)
cluster_comes setup g h l c e f tells moves (acts.Ran us) happens allowed = absurd (none-some e happens)
cluster_comes setup g h l c e f tells moves acts.Sleep happens allowed = absurd (none-some e happens)
cluster_comes setup g h l c e f tells moves (acts.Wake name) happens allowed = absurd (none-some e happens)
cluster_comes setup g h l c e f tells moves acts.End happens allowed = absurd (none-some e happens)
cluster_comes setup g h l c e f tells moves acts.Blocked happens allowed = absurd (none-some e happens)
cluster_comes setup g h l c e f tells moves acts.Refresh happens allowed = refresh_comes setup g h l c e f tells happens allowed
cluster_comes setup g h l c e f tells moves (acts.Off at) happens allowed = off_comes setup g h l c e f tells at happens allowed
cluster_comes setup g h l c e f tells moves (acts.On at) happens allowed = on_comes setup g h l c e f tells at happens allowed
