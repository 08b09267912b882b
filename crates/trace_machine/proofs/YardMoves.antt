-- Acts in the yard: one hand, the yard and one name change.
use Rattle.std.proofs.Common.{◌≡◌, ◌≢◌, ℕ, ◌==◌, ◌+◌, ◌<◌, Bool, true, false, cond, Contains, List, ◌∷◌, Option, Some, None, is_some, length, refl, sym, ap, ◌∙◌, subst, inl, inr, arith, eq-eqb}
use Rattle.std.specs.List.{list_any}
use Rattle.std.proofs.lemmas.Bool.{cases_eq, cond-false, cond-true, eqb-false, eqb-true, false≢true, ne_eqb}
use Rattle.link_arena.specs.Arena.{live_count, value_at}
use Rattle.sched_base.specs.declared.Act.{Act}
use Rattle.sched_base.specs.declared.Answer.{Answer}
use Rattle.sched_base.specs.declared.Facts.{Facts}
use Rattle.flat_policy.specs.Policy.Clusters.{NameStands}
use Rattle.flat_policy.specs.Policy.Machine.{Hand, Outcome, Refusal, Yard, first_refusal, live_count as live_of, with_hand, with_yard}
use Rattle.flat_policy.specs.Policy.Setup.{SetupParts}
use Rattle.trace_machine.specs.Acting.{ActsTo}
use Rattle.trace_machine.specs.declared.names.Standing.{Standing}
use Rattle.trace_machine.specs.declared.names.Standing.TheVariants as standings
use Rattle.trace_machine.specs.declared.yard.Resting.{Resting}
use Rattle.trace_machine.specs.Machines.{HasYard, MachineView, MeansOver, StandsThere}
use Rattle.trace_machine.specs.Parts.{AllServe, PartsView, accepted_at, cluster_at, hand_of, state_of}
use Rattle.trace_machine.specs.Yards.{sleeper_in, standing_of}
use Rattle.trace_machine.proofs.ActsTo.{accepted_is, refused_by}
use Rattle.trace_machine.proofs.Frames.{Frame, names_after}
use Rattle.trace_machine.proofs.Setting.{hand_changed, hand_other, rehanded, serves_longer}

-- what is not there
pub none_there : {X : Type 0} (o : Option X) → is_some o ≡ false → o ≡ None
none_there None is = refl
none_there (Some t) is = absurd (false≢true (sym is))

-- the table of names with another standing of one name
abbrev pub IsNoted : MachineView → MachineView → ℕ → Standing → Type 0
IsNoted old new name s = (other : ℕ) → standing_of new.names other ≡ cond (other == name) (Some s) (standing_of old.names other)

pub noted_here : (old new : MachineView) (name : ℕ) (s : Standing) → IsNoted old new name s → standing_of new.names name ≡ Some s
noted_here old new name s noted = noted name ∙ cond-true (name == name) (Some s) (standing_of old.names name) (eq-eqb name name refl)

pub noted_other : (old new : MachineView) (name : ℕ) (s : Standing) (other : ℕ) → IsNoted old new name s → other ≢ name → standing_of new.names other ≡ standing_of old.names other
noted_other old new name s other noted differs =
    noted other ∙ cond-false (other == name) (Some s) (standing_of old.names other) (ne_eqb other name differs)

-- the name that moved stands where the table says, if it stands there under its new standing
pub moved_stands : (old new : MachineView) (after : Yard) (name : ℕ) (s : Standing) → IsNoted old new name s → StandsThere new after name (Some s)
    → (n : ℕ) → (n == name) ≡ true → StandsThere new after n (standing_of new.names n)
moved_stands old new after name s noted there n is =
    subst (λ k. StandsThere new after k (standing_of new.names k)) (sym (eqb-true n name is))
    (subst (StandsThere new after name) (sym (noted_here old new name s noted)) there)

-- a name that stands in no slot is not a sleeper's
pub apart_from_sleepers : (v : MachineView) (y : Yard) (name : ℕ) → HasYard v y → ((slot : ℕ) → standing_of v.names name ≢ Some (standings.Blocked slot))
    → (slot : ℕ) (w : Resting) → value_at v.yard.sleepers slot ≡ Some w → w.thread.name ≢ name
apart_from_sleepers v y name yard other slot w is same = other slot (ap (standing_of v.names) (sym same) ∙ yard.named slot w is)

-- what an act in the yard changes: one hand, and of the names that did not move nothing
pub record YardMove (old new : MachineView) (y after : Yard) (a : ℕ) (hand : Hand) (name : ℕ) (s : Standing) : Type 0 where
  pub parts : new.parts ≡ rehanded old.parts a hand
  pub held : (t : Facts) → (hand_of old.parts a).thread ≡ Some t → t.name ≡ name
  pub slots : (slot : ℕ) (w : Resting) → w.thread.name ≢ name → value_at old.yard.sleepers slot ≡ Some w → value_at new.yard.sleepers slot ≡ Some w
  pub ended : (n : ℕ) → n ≢ name → list_any (λ m. m == n) y.ended ≡ true → list_any (λ m. m == n) after.ended ≡ true
  pub made : (n : ℕ) → n ≢ name → list_any (λ m. m == n) y.made ≡ false → list_any (λ m. m == n) after.made ≡ false
  pub table : IsNoted old new name s

-- whether a name is the one that moved
abbrev pub is_name : ℕ → ℕ → Bool
is_name name n = n == name

yard_frame : (old new : MachineView) (y after : Yard) (a : ℕ) (hand : Hand) (name : ℕ) (s : Standing) → YardMove old new y after a hand name s → Frame old new y after (is_name name)
yard_frame old new y after a hand name s m = record {
  setup = ap (λ (p : PartsView). p.setup) m.parts;
  queues = λ c slot arrival n is stands. subst (λ (p : PartsView). NameStands (cluster_at p c) slot arrival n) (sym m.parts) stands;
  hands = λ k t is holds.
      elim (cases_eq k a) [
        | inl here ↦ absurd (eqb-false t.name name is (m.held t (ap (λ i. (hand_of old.parts i).thread) (sym here) ∙ holds)))
        | inr other ↦ (t, ap (λ (p : PartsView). (hand_of p k).thread) m.parts ∙ ap (λ (h : Hand). h.thread) (hand_other old.parts a hand k other) ∙ holds, refl)
      ];
  slots = λ slot w is there. m.slots slot w (eqb-false w.thread.name name is) there;
  ended = λ n is there. m.ended n (eqb-false n name is) there;
  made = λ n is never. m.made n (eqb-false n name is) never;
  table = λ n is. noted_other old new name s n m.table (eqb-false n name is);
}

-- the hand that changed
pub hand_is : (old new : MachineView) (a : ℕ) (hand : Hand) → new.parts ≡ rehanded old.parts a hand → a < length old.parts.hands → hand_of new.parts a ≡ hand
hand_is old new a hand parts within = ap (λ (p : PartsView). hand_of p a) parts ∙ hand_changed old.parts a hand within

-- an accepted act in the yard comes to what the policy says
pub yard_acts : (old new : MachineView) (y after : Yard) (a now : ℕ) (act : Act) (told : Answer) (o : Option Facts) (hand : Hand) (name : ℕ) (s : Standing)
    → MeansOver old y → refused_by old.parts y a act ≡ None
    → accepted_at old.parts y a now act ≡ record { answer = told; thread = o; state = with_hand a hand (with_yard after (state_of old.parts y)) }
    → YardMove old new y after a hand name s → HasYard new after → StandsThere new after name (Some s) → new.steps ≡ old.steps
    → ActsTo old new y a now act told
yard_acts old new y after a now act told o hand name s means none is m yard there steps =
    let frame = yard_frame old new y after a hand name s m in
    record {
      after = after;
      answers = ap (λ (r : Outcome). r.answer) (accepted_is old.parts y a now act none ∙ is);
      leads = ap (λ (r : Outcome). r.state) (accepted_is old.parts y a now act none ∙ is) ∙ ap (λ (p : PartsView). state_of p after) (sym m.parts);
      keeps_setup = ap (λ (p : PartsView). p.setup) m.parts;
      serve = subst (AllServe (old.steps + 1)) (sym m.parts)
          (λ c below. serves_longer old.parts.setup old.steps (old.steps + 1) c (cluster_at old.parts c) (omega arith) (means.serve c below));
      yard = yard;
      names = names_after old new y after (is_name name) frame means.names (moved_stands old new after name s m.table there);
      steps = steps;
    }

-- a yard in code goes on having the blocked threads of the policy's where both stay, and every sleeper stands where it stood
pub same_sleepers : (old new : MachineView) (y after : Yard) → HasYard old y → new.parts.setup ≡ old.parts.setup → new.yard.sleepers ≡ old.yard.sleepers → after.blocked ≡ y.blocked
    → new.yard.last ≡ after.last → new.yard.live ≡ live_of after
    → ((slot : ℕ) (w : Resting) → value_at old.yard.sleepers slot ≡ Some w → standing_of new.names w.thread.name ≡ standing_of old.names w.thread.name)
    → HasYard new after
same_sleepers old new y after yard setup sleepers blocked last live table = record {
  last = last;
  live = live;
  count = ap live_count sleepers ∙ yard.count ∙ ap length (sym blocked);
  blocked = λ slot w is. subst (λ ws. Contains ws (sleeper_in w)) (sym blocked) (yard.blocked slot w (ap (λ s. value_at s slot) (sym sleepers) ∙ is));
  named = λ slot w is.
      let was = ap (λ s. value_at s slot) (sym sleepers) ∙ is in
      table slot w was ∙ yard.named slot w was;
  room = omega (arith, yard.room, ap (λ s. s.spare) sleepers, ap live_count sleepers, ap (λ (s : SetupParts). s.threads) setup);
}

-- what comes of refusals none of which holds
pub refusal_none : (r : Refusal) (rs : List Refusal) → r.holds ≡ false → first_refusal rs ≡ None → first_refusal (r ∷ rs) ≡ None
refusal_none r rs passes rest = cond-false r.holds (Some r.answer) (first_refusal rs) passes ∙ rest

-- what comes of refusals the first of which holds, and the first of which doesn't
pub refusal_here : (r : Refusal) (rs : List Refusal) → r.holds ≡ true → first_refusal (r ∷ rs) ≡ Some r.answer
refusal_here r rs holds = cond-true r.holds (Some r.answer) (first_refusal rs) holds

pub refusal_next : (r : Refusal) (rs : List Refusal) → r.holds ≡ false → first_refusal (r ∷ rs) ≡ first_refusal rs
refusal_next r rs passes = cond-false r.holds (Some r.answer) (first_refusal rs) passes
