-- Acts that move a thread between a hand and a queue.
use Rattle.std.proofs.Common.{◌≡◌, ℕ, suc, ◌<◌, ◌≤◌, ◌^◌, Bool, true, false, if◌then◌else◌, Contains, Option, Some, None, List, [], ◌∷◌, ◌==◌, find, length, slice_set, refl, sym, ap, ◌∙◌, subst, inl, inr, arith}
use Rattle.std.proofs.lemmas.Bool.{cases_Bool, cond-false, cond-true}
use Rattle.std.proofs.lemmas.Option.{none-some, same_Some}
use Rattle.flat_policy.specs.Laws.Clusters.{CallsKeepStanding}
use Rattle.flat_policy.specs.Policy.ClusterSteps.{Event, facts_of, flat_after_offer, got, named_entry, offer_event, pull_event, select_event, touched}
use Rattle.flat_policy.specs.Policy.Clusters.{ClusterView, IsOther, NameStands, after_offer, after_pull, after_select, after_touch, moment_at, offer_of, pick_of, standing, without_some}
use Rattle.flat_policy.specs.Policy.Machine.{Hand, Outcome, Yard, filled_hand, flat_at, kept_hand, pull_outcome, taking, taking_hand}
use Rattle.flat_policy.specs.Policy.Moves.{pick, selected}
use Rattle.flat_policy.specs.Policy.Queue.{Flat, Queued}
use Rattle.flat_policy.specs.Policy.Setup.{SetupParts, cluster_count, cluster_times, home_of}
use Rattle.sched_base.specs.declared.Act.{Act}
use Rattle.sched_base.specs.declared.Answer.{Answer}
use Rattle.sched_base.specs.declared.Facts.{Facts}
use Rattle.sched_base.specs.declared.Ticket.{Ticket}
use Rattle.sched_base.specs.declared.Act.TheVariants as acts
use Rattle.sched_base.specs.declared.Answer.TheVariants as answers
use Rattle.trace_machine.specs.Changes.{ChangesAt}
use Rattle.trace_machine.specs.Parts.{Does, IsOtherThread, IsReady, PartsView, Serves, accepted_at, cluster_at, hand_of, state_of}
use Rattle.trace_machine.proofs.Setting.{GoesOn, changed, does_at, flat_here, now_is_effective, rehanded, rises_less}
use Rattle.trace_machine.proofs.Touching.{acts_quietly}

-- a cluster changes, and then a call sets the hand to one that follows from it
pub hand_after : (old mid new : PartsView) (c : ℕ) (v : ClusterView) (a : ℕ) (f : SetupParts → Hand → Hand)
    → mid ≡ record old { clusters = slice_set old.clusters c v } → new ≡ rehanded mid a (f mid.setup (hand_of mid a))
    → new ≡ changed old c v a (f old.setup (hand_of old a))
hand_after old mid new c v a f is sets = sets ∙ ap (λ (q : PartsView). rehanded q a (f q.setup (hand_of q a))) is

-- the queue, setup and number that a cluster has without an entry
flat_left : (e : Option Queued) (s : Flat) (v : ClusterView) → (without_some e s v).flat ≡ s
flat_left None s v = refl
flat_left (Some e) s v = refl

setup_left : (e : Option Queued) (s : Flat) (v : ClusterView) → (without_some e s v).setup ≡ v.setup
setup_left None s v = refl
setup_left (Some e) s v = refl

number_left : (e : Option Queued) (s : Flat) (v : ClusterView) → (without_some e s v).number ≡ v.number
number_left None s v = refl
number_left (Some e) s v = refl

other_entry : (name : ℕ) (e : Option Queued) → IsOtherThread name (facts_of e) → IsOther name e
other_entry name None other = other
other_entry name (Some e) other = other

-- a cluster goes on without an entry
goes_without : (p mid : PartsView) (c : ℕ) (e : Option Queued) (s : Flat) → ChangesAt p mid c (without_some e s (cluster_at p c)) 0 1
    → GoesOn (cluster_at p c) (without_some e s (cluster_at p c))
goes_without p mid c e s changes = record {
  setup = setup_left e s (cluster_at p c);
  number = number_left e s (cluster_at p c);
  room = changes.room;
  rises = rises_less 0 1 (cluster_at p c).flat (without_some e s (cluster_at p c)).flat (omega arith) (omega arith) changes.rises;
}

-- a cluster's setup, number and effective moment in the place of those that they are
pub in_place : {Z : Type 0} (f : SetupParts → ℕ → ℕ → Z) (setup : SetupParts) (c now : ℕ) (v : ClusterView)
    → Serves setup (2 ^ 50) c v → v.flat.last ≤ now → f setup c now ≡ f v.setup v.number (moment_at v now)
in_place f setup c now v is later =
    ap (λ (s : SetupParts). f s c now) (sym is.of_setup)
    ∙ ap (λ k. f v.setup k now) (sym is.number)
    ∙ ap (λ m. f v.setup v.number m) (sym (now_is_effective now v.flat.last later))

-- what the policy has of a selection, an offer and a pull, by the cluster
select_is : (setup : SetupParts) (c now : ℕ) (v : ClusterView) → Serves setup (2 ^ 50) c v → v.flat.last ≤ now → v.flat.on ≡ true
    → select_event setup c now v.flat ≡ record { answer = got (pick_of v now); thread = facts_of (pick_of v now); flat = (after_select v now).flat }
select_is setup c now v is later on =
    in_place (λ s k m. select_event s k m v.flat) setup c now v is later
    ∙ ap (λ b. if b then record { answer = got (pick_of v now); thread = facts_of (pick_of v now); flat = selected (cluster_times v.setup v.number) (moment_at v now) v.flat }
    else record { answer = answers.Off; thread = None; flat = touched (moment_at v now) v.flat }) on
    ∙ ap (λ (s : Flat). record { answer = got (pick_of v now); thread = facts_of (pick_of v now); flat = s })
    (sym (flat_left (pick_of v now) (selected (cluster_times v.setup v.number) (moment_at v now) v.flat) v))

select_off : (setup : SetupParts) (c now : ℕ) (s : Flat) → s.on ≡ false
    → select_event setup c now s ≡ record { answer = answers.Off; thread = None; flat = touched now s }
select_off setup c now s on =
    ap (λ b. if b then record { answer = got (pick (cluster_times setup c) now s); thread = facts_of (pick (cluster_times setup c) now s); flat = selected (cluster_times setup c) now s }
    else record { answer = answers.Off; thread = None; flat = touched now s }) on

offer_is : (setup : SetupParts) (c to now : ℕ) (v : ClusterView) → Serves setup (2 ^ 50) c v → v.flat.last ≤ now
    → offer_event setup c to now v.flat ≡ record { answer = got (offer_of v to); thread = facts_of (offer_of v to); flat = (after_offer v to now).flat }
offer_is setup c to now v is later =
    in_place (λ s k m. offer_event s k to m v.flat) setup c now v is later
    ∙ ap (λ (s : Flat). record { answer = got (offer_of v to); thread = facts_of (offer_of v to); flat = s })
    (sym (flat_left (offer_of v to) (flat_after_offer (moment_at v now) v.flat (offer_of v to)) v))

-- an act that takes a thread out of a queue, where there is one, into a hand
takes : (p new : PartsView) (a now c : ℕ) (act : Act) (answer : Answer) (taken : Option Facts) (x : ClusterView) → c < length p.clusters
    → ((y : Yard) → accepted_at p y a now act ≡ taking p.setup (state_of p y) a (hand_of p a) c now (record { answer = answer; thread = taken; flat = x.flat }))
    → GoesOn (cluster_at p c) x
    → ((slot arrival name : ℕ) → IsOtherThread name taken → NameStands (cluster_at p c) slot arrival name → NameStands x slot arrival name)
    → new ≡ changed p c x a (taking_hand p.setup (hand_of p a) taken now)
    → Does p new a now act answer
takes p new a now c act answer taken x there comes goes stand changes =
    does_at p new c x a (taking_hand p.setup (hand_of p a) taken now) now act answer changes (record {
      there = there;
      goes_on = goes;
      answers = λ y. ap (λ (o : Outcome). o.answer) (comes y);
      leads = λ y. ap (λ (o : Outcome). o.state) (comes y);
      stands = λ y slot arrival name other stands.
          stand slot arrival name (subst (λ (o : Outcome). IsOtherThread name o.thread) (comes y) other) stands;
    })

pub there_of : (p : PartsView) (a c : ℕ) → IsReady p a → c < cluster_count p.setup → c < length p.clusters
there_of p a c ready below = subst (λ n. c < n) (sym ready.clusters) below

-- selecting from the home
pub selects : (p mid new : PartsView) (a now c : ℕ) → CallsKeepStanding → IsReady p a → c ≡ home_of p.setup a → c < cluster_count p.setup
    → (cluster_at p (home_of p.setup a)).flat.last ≤ now → (cluster_at p c).flat.on ≡ true
    → ChangesAt p mid c (after_select (cluster_at p c) now) 0 1
    → new ≡ rehanded mid a (taking_hand mid.setup (hand_of mid a) (facts_of (pick_of (cluster_at p c) now)) now)
    → Does p new a now acts.Select (got (pick_of (cluster_at p c) now))
selects p mid new a now c keeps ready home below later on changes sets =
    let v = cluster_at p c in
    let later_here : v.flat.last ≤ now = subst (λ k. (cluster_at p k).flat.last ≤ now) (sym home) later in
    takes p new a now c acts.Select (got (pick_of v now)) (facts_of (pick_of v now)) (after_select v now) (there_of p a c ready below)
    (λ y. ap (λ k. taking p.setup (state_of p y) a (hand_of p a) k now (select_event p.setup k now (flat_at (state_of p y) k))) (sym home)
    ∙ ap (λ (s : Flat). taking p.setup (state_of p y) a (hand_of p a) c now (select_event p.setup c now s)) (flat_here p y c)
    ∙ ap (λ (e : Event). taking p.setup (state_of p y) a (hand_of p a) c now e) (select_is p.setup c now v (ready.serve c below) later_here on))
    (goes_without p mid c (pick_of v now) _ changes)
    (λ slot arrival name other stands. (keeps v changes.kept).selecting now slot arrival name (other_entry name (pick_of v now) other) stands)
    (hand_after p mid new c (after_select v now) a (λ s h. taking_hand s h (facts_of (pick_of v now)) now) changes.parts sets)

-- of a home that is off nothing is selected
pub selects_off : (p mid new : PartsView) (a now c : ℕ) → IsReady p a → c ≡ home_of p.setup a → c < cluster_count p.setup
    → (cluster_at p (home_of p.setup a)).flat.last ≤ now → (cluster_at p c).flat.on ≡ false
    → ChangesAt p mid c (after_touch (cluster_at p c) now) 0 0
    → new ≡ rehanded mid a (kept_hand (hand_of mid a) now)
    → Does p new a now acts.Select answers.Off
selects_off p mid new a now c ready home below later on changes sets =
    let v = cluster_at p c in
    let later_here : v.flat.last ≤ now = subst (λ k. (cluster_at p k).flat.last ≤ now) (sym home) later in
    let comes : (y : Yard) → accepted_at p y a now acts.Select ≡ taking p.setup (state_of p y) a (hand_of p a) c now (record { answer = answers.Off; thread = None; flat = touched now v.flat }) =
    λ y. ap (λ k. taking p.setup (state_of p y) a (hand_of p a) k now (select_event p.setup k now (flat_at (state_of p y) k))) (sym home)
    ∙ ap (λ (s : Flat). taking p.setup (state_of p y) a (hand_of p a) c now (select_event p.setup c now s)) (flat_here p y c)
    ∙ ap (λ (e : Event). taking p.setup (state_of p y) a (hand_of p a) c now e) (select_off p.setup c now v.flat on) in
    acts_quietly p new a now c acts.Select answers.Off v (after_touch v now) v.flat.on (kept_hand (hand_of p a) now) below ready later_here refl (record { is = refl })
    (λ y. ap (λ (o : Outcome). o.answer) (comes y))
    (λ y. ap (λ (o : Outcome). o.state) (comes y))
    (hand_after p mid new c (after_touch v now) a (λ s h. kept_hand h now) changes.parts sets)

-- taking what another cluster offers to the home
pub offers : (p mid new : PartsView) (a now c to : ℕ) → CallsKeepStanding → IsReady p a → to ≡ home_of p.setup a → c < cluster_count p.setup
    → (cluster_at p c).flat.last ≤ now
    → ChangesAt p mid c (after_offer (cluster_at p c) to now) 0 1
    → new ≡ rehanded mid a (taking_hand mid.setup (hand_of mid a) (facts_of (offer_of (cluster_at p c) to)) now)
    → Does p new a now (acts.Offer c) (got (offer_of (cluster_at p c) to))
offers p mid new a now c to keeps ready home below later changes sets =
    let v = cluster_at p c in
    takes p new a now c (acts.Offer c) (got (offer_of v to)) (facts_of (offer_of v to)) (after_offer v to now) (there_of p a c ready below)
    (λ y. ap (λ k. taking p.setup (state_of p y) a (hand_of p a) c now (offer_event p.setup c k now (flat_at (state_of p y) c))) (sym home)
    ∙ ap (λ (s : Flat). taking p.setup (state_of p y) a (hand_of p a) c now (offer_event p.setup c to now s)) (flat_here p y c)
    ∙ ap (λ (e : Event). taking p.setup (state_of p y) a (hand_of p a) c now e) (offer_is p.setup c to now v (ready.serve c below) later))
    (goes_without p mid c (offer_of v to) _ changes)
    (λ slot arrival name other stands. (keeps v changes.kept).offering to now slot arrival name (other_entry name (offer_of v to) other) stands)
    (hand_after p mid new c (after_offer v to now) a (λ s h. taking_hand s h (facts_of (offer_of v to)) now) changes.parts sets)

-- what a find finds stands in the list
found_stands : {X : Type 0} (q : X → Bool) (xs : List X) (x : X) → find q xs ≡ Some x → Contains xs x
found_stands q [] x is = absurd (none-some x is)
found_stands q (y ∷ ys) x is =
    elim (cases_Bool (q y)) [
      | inl e ↦ subst (λ z. Contains (y ∷ ys) z) (same_Some y x (sym (cond-true (q y) (Some y) (find q ys) e) ∙ is)) (0, omega arith, refl)
      | inr e ↦ (let later = found_stands q ys x (sym (cond-false (q y) (Some y) (find q ys) e) ∙ is) in (suc later.0, omega (arith, later.1), later.2))
    ]

-- pulling an entry out of the home's queue
pub pulls : (p mid new : PartsView) (a now c name : ℕ) (ticket : Ticket) (e : Queued) (t : Facts) → CallsKeepStanding → IsReady p a → c ≡ home_of p.setup a
    → c < cluster_count p.setup → (cluster_at p (home_of p.setup a)).flat.last ≤ now
    → standing (cluster_at p c) ticket.slot ticket.arrival ≡ Some e → named_entry (cluster_at p c).flat name ≡ Some e → t ≡ e.facts
    → ChangesAt p mid c (after_pull (cluster_at p c) (standing (cluster_at p c) ticket.slot ticket.arrival) now) 0 1
    → new ≡ rehanded mid a (filled_hand mid.setup t now)
    → Does p new a now (acts.Pull name) answers.Yes
pulls p mid new a now c name ticket e t keeps ready home below later stands named is changed sets =
    let v = cluster_at p c in
    let later_here : v.flat.last ≤ now = subst (λ k. (cluster_at p k).flat.last ≤ now) (sym home) later in
    let changes : ChangesAt p mid c (after_pull v (Some e) now) 0 1 =
    subst (λ (o : Option Queued). ChangesAt p mid c (after_pull v o now) 0 1) stands changed in
    takes p new a now c (acts.Pull name) answers.Yes (Some e.facts) (after_pull v (Some e) now) (there_of p a c ready below)
    (λ y. ap (λ k. pull_outcome p.setup (state_of p y) a (hand_of p a) k now (named_entry (flat_at (state_of p y) k) name)) (sym home)
    ∙ ap (λ (s : Flat). pull_outcome p.setup (state_of p y) a (hand_of p a) c now (named_entry s name)) (flat_here p y c)
    ∙ ap (λ (o : Option Queued). pull_outcome p.setup (state_of p y) a (hand_of p a) c now o) named
    ∙ ap (λ (s : Flat). taking p.setup (state_of p y) a (hand_of p a) c now (pull_event e now s)) (flat_here p y c)
    ∙ ap (λ m. taking p.setup (state_of p y) a (hand_of p a) c now (pull_event e m v.flat)) (sym (now_is_effective now v.flat.last later_here))
    )
    (goes_without p mid c (Some e) _ changes)
    (λ slot arrival other_name other stand.
    (keeps v changes.kept).pulling e now slot arrival other_name (found_stands (λ (q : Queued). q.facts.name == name) v.flat.entries e named) other stand)
    (hand_after p mid new c (after_pull v (Some e) now) a (λ s h. filled_hand s e.facts now) changes.parts
    (sets ∙ ap (λ (u : Facts). rehanded mid a (filled_hand mid.setup u now)) is))
