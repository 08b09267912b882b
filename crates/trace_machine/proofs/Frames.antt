-- What a machine in code means after an act that leaves most names where they stood.
use Rattle.std.proofs.Common.{◌≡◌, ℕ, ◌+◌, ◌<◌, ◌≤◌, ◌==◌, Bool, true, false, Option, Some, None, sym, ap, ◌∙◌, subst, inl, inr}
use Rattle.std.specs.List.{list_any}
use Rattle.std.proofs.lemmas.Bool.{cases_Bool}
use Rattle.sched_base.specs.declared.Facts.{Facts}
use Rattle.link_arena.specs.Arena.{live_count, value_at}
use Rattle.flat_policy.specs.Policy.Clusters.{NameStands}
use Rattle.flat_policy.specs.Policy.Machine.{Yard}
use Rattle.flat_policy.specs.Policy.Setup.{SetupParts, actor_count, cluster_count}
use Rattle.trace_machine.specs.Machines.{HasYard, MachineView, StandsThere}
use Rattle.trace_machine.specs.Parts.{cluster_at, hand_of}
use Rattle.trace_machine.specs.Yards.{YardView, standing_of}
use Rattle.trace_machine.specs.declared.names.Standing.{Standing}
use Rattle.trace_machine.specs.declared.names.Standing.TheVariants as standings
use Rattle.trace_machine.specs.declared.yard.Resting.{Resting}

-- names that did not move stand where they stood: in their queues, hands and slots, among the ended, or nowhere
pub record Frame (old new : MachineView) (y after : Yard) (moved : ℕ → Bool) : Type 0 where
  pub setup : new.parts.setup ≡ old.parts.setup
  pub queues : (c slot arrival name : ℕ) → moved name ≡ false → NameStands (cluster_at old.parts c) slot arrival name → NameStands (cluster_at new.parts c) slot arrival name
  pub hands : (a : ℕ) (t : Facts) → moved t.name ≡ false → (hand_of old.parts a).thread ≡ Some t → (u : Facts) × ((hand_of new.parts a).thread ≡ Some u) × (u.name ≡ t.name)
  pub slots : (slot : ℕ) (w : Resting) → moved w.thread.name ≡ false → value_at old.yard.sleepers slot ≡ Some w → value_at new.yard.sleepers slot ≡ Some w
  pub ended : (name : ℕ) → moved name ≡ false → list_any (λ n. n == name) y.ended ≡ true → list_any (λ n. n == name) after.ended ≡ true
  pub made : (name : ℕ) → moved name ≡ false → list_any (λ n. n == name) y.made ≡ false → list_any (λ n. n == name) after.made ≡ false
  pub table : (name : ℕ) → moved name ≡ false → standing_of new.names name ≡ standing_of old.names name

-- a name that did not move stands as it stood
stands_framed : (old new : MachineView) (y after : Yard) (moved : ℕ → Bool) → Frame old new y after moved → (name : ℕ) → moved name ≡ false
    → (o : Option Standing) → StandsThere old y name o → StandsThere new after name o
stands_framed old new y after moved f name is None stands = f.made name is stands
stands_framed old new y after moved f name is (Some (standings.Queued t)) stands =
    (subst (λ s. t.cluster < cluster_count s) (sym f.setup) stands.0, f.queues t.cluster t.slot t.arrival name is stands.1)
stands_framed old new y after moved f name is (Some (standings.Held a)) stands =
    let t : Facts = stands.1.0 in
    let u = f.hands a t (ap moved stands.1.2 ∙ is) stands.1.1 in
    (subst (λ s. a < actor_count s) (sym f.setup) stands.0, (u.0, u.1, u.2 ∙ stands.1.2))
stands_framed old new y after moved f name is (Some (standings.Blocked slot)) stands =
    (stands.0, f.slots slot stands.0 (ap moved stands.2 ∙ is) stands.1, stands.2)
stands_framed old new y after moved f name is (Some standings.Ended) stands = f.ended name is stands

-- every name stands where the table says, if those that moved do
pub names_after : (old new : MachineView) (y after : Yard) (moved : ℕ → Bool) → Frame old new y after moved
    → ((name : ℕ) → StandsThere old y name (standing_of old.names name))
    → ((name : ℕ) → moved name ≡ true → StandsThere new after name (standing_of new.names name))
    → (name : ℕ) → StandsThere new after name (standing_of new.names name)
names_after old new y after moved f stood there name =
    elim (cases_Bool (moved name)) [
      | inl is ↦ there name is
      | inr is ↦ subst (StandsThere new after name) (sym (f.table name is)) (stands_framed old new y after moved f name is (standing_of old.names name) (stood name))
    ]

-- a yard in code that stays goes on having the blocked threads of the policy's, where none of them moved
pub yard_stays : (old new : MachineView) (y : Yard) (moved : ℕ → Bool) → Frame old new y y moved → new.yard ≡ old.yard → HasYard old y
    → ((slot : ℕ) (w : Resting) → value_at old.yard.sleepers slot ≡ Some w → moved w.thread.name ≡ false) → HasYard new y
yard_stays old new y moved f same has apart = record {
  last = ap (λ (yard : YardView). yard.last) same ∙ has.last;
  live = ap (λ (yard : YardView). yard.live) same ∙ has.live;
  count = ap (λ (yard : YardView). live_count yard.sleepers) same ∙ has.count;
  blocked = λ slot w is. has.blocked slot w (subst (λ (yard : YardView). value_at yard.sleepers slot ≡ Some w) same is);
  named = λ slot w is.
      let was = subst (λ (yard : YardView). value_at yard.sleepers slot ≡ Some w) same is in
      f.table w.thread.name (apart slot w was) ∙ has.named slot w was;
  room = subst (λ (s : SetupParts). s.threads ≤ new.yard.sleepers.spare + live_count new.yard.sleepers) (sym f.setup)
      (subst (λ (yard : YardView). old.parts.setup.threads ≤ yard.sleepers.spare + live_count yard.sleepers) (sym same) has.room);
}
