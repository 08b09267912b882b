-- States in which no thread is bound to a cluster, and the changes that keep them so.
use Rattle.std.proofs.Common.{◌≡◌, ℕ, ◌==◌, Bool, not, Contains, List, [], ◌∷◌, get_or, length, map, replicate, set, Option, Some, None, sym, ap, ◌∙◌, subst, inl, inr, arith}
use Rattle.std.proofs.lemmas.Bool.{cases_eq, cases_lt, cond_both}
use Rattle.std.proofs.lemmas.List.{get_or-replicate, get_or-set_other, get_or-set_same, get_or_past, length-replicate, length-set}
use Rattle.std.proofs.lemmas.List.Elements.{Contains-push_cases}
use Rattle.std.proofs.lemmas.Option.{none-some, same_Some}
use Rattle.sched_base.specs.declared.Answer.TheVariants as answers
use Rattle.sched_base.specs.declared.Facts.{Facts}
use Rattle.flat_policy.specs.declared.setup.Times.{Times}
use Rattle.flat_policy.specs.Policy.ClusterSteps.{Event, enter_event, facts_of, flat_after_offer, got, offer_event, refresh_event, select_event, touched}
use Rattle.flat_policy.specs.Policy.Machine.{Hand, MachineState, Sleeper, Yard, empty_hand, empty_machine, flat_at, hand_at, no_hand, taking, taking_hand, with_flat, with_hand, with_yard}
use Rattle.flat_policy.specs.Policy.Moves.{new_entry, pick, selected, settled_thread}
use Rattle.flat_policy.specs.Policy.Offer.{mask_between, offered_between}
use Rattle.flat_policy.specs.Policy.Queue.{Flat, Queued, empty_flat}
use Rattle.flat_policy.specs.Policy.Refresh.{is_ui, repriced}
use Rattle.flat_policy.specs.Policy.Setup.{SetupParts, actor_count, cluster_count, cluster_times, group_count, migrates}
use Rattle.flat_policy.proofs.After.{entered_entries, without_some}
use Rattle.flat_policy.proofs.Kept.{after_offer_entries, offered_stands, pick_stands, selected_entries}
use Rattle.flat_policy.proofs.Members.{contains_cases, contains_here, contains_later, contains_none, member_of_filter}
use Rattle.flat_policy.proofs.Refreshed.{refreshed_entries}
use Rattle.flat_policy.proofs.Takers.{facts_stand}

-- an unbound thread, and a queue and a hand without a bound one
abbrev pub Unbound : Facts → Type 0
Unbound t = t.bound ≡ None

abbrev pub QueueUnbound : Flat → Type 0
QueueUnbound s = (e : Queued) → Contains s.entries e → Unbound e.facts

abbrev pub HandUnbound : Hand → Type 0
HandUnbound h = (t : Facts) → h.thread ≡ Some t → Unbound t

-- a state without a bound thread
pub record StateUnbound (g : MachineState) : Type 0 where
  pub queues : (c : ℕ) → QueueUnbound (flat_at g c)
  pub hands : (a : ℕ) → HandUnbound (hand_at g a)
  pub blocked : (w : Sleeper) → Contains g.yard.blocked w → Unbound w.facts

-- what holds at each place of a list, past its end too, holds there after a write of one more
each_place : {X : Type 0} (P : X → Type 0) (xs : List X) (i j : ℕ) (x d : X) → P x → P (get_or xs j d) → P (get_or (set xs i x) j d)
each_place P xs i j x d here there =
    elim (cases_eq j i) [
      | inl e ↦ elim (cases_lt i (length xs)) [
        | inl within ↦ subst P (sym (ap (λ k. get_or (set xs i x) k d) e ∙ get_or-set_same xs i x d within)) here
        | inr past ↦ subst P (get_or_past xs j d (omega (arith, past, e)) ∙ sym (get_or_past (set xs i x) j d (omega (arith, past, e, length-set xs i x)))) there
      ]
      | inr other ↦ subst P (sym (get_or-set_other xs i j x d other)) there
    ]

pub hand_unbound : (g : MachineState) (a : ℕ) (h : Hand) → StateUnbound g → HandUnbound h → StateUnbound (with_hand a h g)
hand_unbound g a h u hu = record {
  queues = u.queues;
  hands = λ b. each_place HandUnbound g.hands a b h no_hand hu (u.hands b);
  blocked = u.blocked;
}

pub hand_flat_unbound : (g : MachineState) (a c : ℕ) (h : Hand) (s : Flat) → StateUnbound g → HandUnbound h → QueueUnbound s → StateUnbound (with_hand a h (with_flat c s g))
hand_flat_unbound g a c h s u hu su = record {
  queues = λ d. each_place QueueUnbound g.flats c d s (empty_flat 0) su (u.queues d);
  hands = λ b. each_place HandUnbound g.hands a b h no_hand hu (u.hands b);
  blocked = u.blocked;
}

pub hand_yard_unbound : (g : MachineState) (a : ℕ) (h : Hand) (y : Yard) → StateUnbound g → HandUnbound h → ((w : Sleeper) → Contains y.blocked w → Unbound w.facts) → StateUnbound (with_hand a h (with_yard y g))
hand_yard_unbound g a h y u hu yu = record {
  queues = u.queues;
  hands = λ b. each_place HandUnbound g.hands a b h no_hand hu (u.hands b);
  blocked = yu;
}

-- a hand of one thread, and one of none
pub one_unbound : (t : Facts) → Unbound t → (u : Facts) → Some t ≡ Some u → Unbound u
one_unbound t h u e = subst Unbound (same_Some t u e) h

pub none_unbound : (u : Facts) → None ≡ Some u → Unbound u
none_unbound u e = absurd (none-some u e)

-- an event at a queue that moves no bound thread, and leaves none
pub record EventUnbound (e : Event) : Type 0 where
  pub thread : (t : Facts) → e.thread ≡ Some t → Unbound t
  pub queue : QueueUnbound e.flat

taking_held : (setup : SetupParts) (h : Hand) (now : ℕ) (o : Option Facts) → HandUnbound h → ((t : Facts) → o ≡ Some t → Unbound t) → HandUnbound (taking_hand setup h o now)
taking_held setup h now None hu ou = hu
taking_held setup h now (Some t) hu ou = ou

pub taking_unbound : (setup : SetupParts) (g : MachineState) (a c now : ℕ) (e : Event) → StateUnbound g → EventUnbound e → StateUnbound (taking setup g a (hand_at g a) c now e).state
taking_unbound setup g a c now e u eu =
    hand_flat_unbound g a c (taking_hand setup (hand_at g a) e.thread now) e.flat u (taking_held setup (hand_at g a) now e.thread (u.hands a) eu.thread) eu.queue

-- an entry leaves, or none
without_member : (o : Option Queued) (es : List Queued) (e : Queued) → Contains (without_some o es) e → Contains es e
without_member None es e c = c
without_member (Some f) es e c = (member_of_filter (λ (q : Queued). not (q.arrival == f.arrival)) es e c).0

leaving_unbound : (s after : Flat) (o : Option Queued) (told : Event) → QueueUnbound s → after.entries ≡ without_some o s.entries → ((e : Queued) → o ≡ Some e → Contains s.entries e)
    → EventUnbound (record told { thread = facts_of o; flat = after })
leaving_unbound s after o told su left stands = record {
  thread = λ t h. (
      let e = facts_stand o t h in
      subst Unbound e.2 (su e.0 (stands e.0 e.1)));
  queue = λ e c. su e (without_member o s.entries e (subst (λ es. Contains es e) left c));
}

pub select_unbound : (setup : SetupParts) (c now : ℕ) (s : Flat) → QueueUnbound s → EventUnbound (select_event setup c now s)
select_unbound setup c now s su =
    let ts : List Times = cluster_times setup c in
    let on : Event = record { answer = got (pick ts now s); thread = facts_of (pick ts now s); flat = selected ts now s } in
    cond_both s.on on (record { answer = answers.Off; thread = None; flat = touched now s }) EventUnbound
    (λ h. leaving_unbound s (selected ts now s) (pick ts now s) on su (selected_entries ts now s) (pick_stands ts now s))
    (λ h. record { thread = none_unbound; queue = su })

pub offer_unbound : (setup : SetupParts) (from to now : ℕ) (s : Flat) → QueueUnbound s → EventUnbound (offer_event setup from to now s)
offer_unbound setup from to now s su =
    let o : Option Queued = offered_between setup from to s in
    leaving_unbound s (flat_after_offer now s o) o (offer_event setup from to now s) su (after_offer_entries now s o)
    (λ e h. (offered_stands to (migrates setup from to) (mask_between setup from to s.on) s e h).0)

-- an entry more
pub enter_unbound : (setup : SetupParts) (c : ℕ) (t : Facts) (head : Bool) (now : ℕ) (s : Flat) → QueueUnbound s → Unbound t → QueueUnbound (enter_event setup c t head now s).flat
enter_unbound setup c t head now s su tu =
    λ e within. elim (Contains-push_cases s.entries (new_entry s (settled_thread now t) head) e (subst (λ es. Contains es e) (entered_entries (cluster_times setup c) t head now s) within)) [
      | inl before ↦ su e before
      | inr is ↦ subst (λ (q : Queued). Unbound q.facts) is tu
    ]

-- all entries priced anew
mapped_member : {X Y : Type 0} (f : X → Y) (xs : List X) (y : Y) → Contains (map f xs) y → (x : X) × Contains xs x × (f x ≡ y)
mapped_member f [] y c = absurd (contains_none y c)
mapped_member f (x ∷ xs) y c =
    elim (contains_cases (f x) (map f xs) y c) [
      | inl is ↦ (x, contains_here x xs, is)
      | inr d ↦ (let m = mapped_member f xs y d in (m.0, contains_later x xs m.0 m.1, m.2))
    ]

repriced_unbound : (s : Flat) (now : ℕ) (e : Queued) → Unbound e.facts → Unbound (repriced s now e).facts
repriced_unbound s now e h =
    cond_both (is_ui e.facts.bucket) e _ (λ (q : Queued). Unbound q.facts) (λ b. h) (λ b. h)

pub refresh_unbound : (setup : SetupParts) (now : ℕ) (s : Flat) → QueueUnbound s → QueueUnbound (refresh_event setup now s).flat
refresh_unbound setup now s su =
    λ e within. (
    let m = mapped_member (repriced s now) s.entries e (subst (λ es. Contains es e) (refreshed_entries (group_count setup) s now) within) in
    subst (λ (q : Queued). Unbound q.facts) m.2 (repriced_unbound s now m.0 (su m.0 m.1)))

-- the state before any step
each_alike : {X : Type 0} (P : X → Type 0) (n j : ℕ) (x d : X) → P x → P d → P (get_or (replicate n x) j d)
each_alike P n j x d here none =
    elim (cases_lt j n) [
      | inl within ↦ subst P (sym (get_or-replicate n j x d within)) here
      | inr past ↦ subst P (sym (get_or_past (replicate n x) j d (omega (arith, past, length-replicate n x)))) none
    ]

pub empty_unbound : (setup : SetupParts) → StateUnbound (empty_machine setup)
empty_unbound setup = record {
  queues = λ c. each_alike QueueUnbound (cluster_count setup) c (empty_flat (group_count setup)) (empty_flat 0) (λ e within. absurd (contains_none e within)) (λ e within. absurd (contains_none e within));
  hands = λ a. each_alike HandUnbound (actor_count setup) a (empty_hand setup 0) no_hand none_unbound none_unbound;
  blocked = λ w within. absurd (contains_none w within);
}
