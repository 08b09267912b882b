-- Lines in a hand alone: what the hand allows, the machine does.
use Rattle.std.proofs.Common.{◌≡◌, ℕ, cond, List, [], ◌∷◌, Option, Some, None, Result, Ok, Err, is_none, is_some, refl, sym, ap, ◌∙◌}
use Rattle.std.specs.List.{find}
use Rattle.std.proofs.lemmas.Option.{none-some, same_Some}
use Rattle.sched_base.specs.declared.Act.{Act}
use Rattle.sched_base.specs.declared.Act.TheVariants as acts
use Rattle.sched_base.specs.declared.Answer.TheVariants as answers
use Rattle.sched_base.specs.declared.Facts.{Facts}
use Rattle.sched_base.specs.declared.Spot.TheVariants as spots
use Rattle.flat_policy.specs.declared.journal.Line.{Line}
use Rattle.flat_policy.specs.Policy.Aim.{Look, aim, aim_by, look_at, needed_by, movable, not_looked}
use Rattle.flat_policy.specs.Policy.Machine.{Hand, MachineState, Outcome, aim_answer, aim_outcome, first_refusal, kept_hand, look_first, look_first_by, ran_outcome, site_of, spot_from, with_hand}
use Rattle.flat_policy.specs.Policy.Setup.{SetupParts}
use Rattle.flat_policy.specs.Runs.Hands.{HandEvent, aimed_line, charging_line, hand_event_by}
use Rattle.flat_policy.specs.Runs.Histories.{Carries, actor_of, moment_of}
use Rattle.flat_policy.proofs.Happens.{and_then_gives, map_gives}
use Rattle.composition.proofs.Outcomes.{Comes, holds_some, outcome_same, passes, told}

-- the machine after a line in a hand
abbrev pub after_hand : MachineState → Line → HandEvent → MachineState
after_hand g l f = with_hand (actor_of l) f.hand g

-- what a line in a hand comes to in the machine
abbrev pub ComesInHand : SetupParts → MachineState → Hand → Line → HandEvent → Act → Type 0
ComesInHand setup g h l f act = Comes setup g h l act None (after_hand g l f)

-- what an event of a hand tells
abbrev hand_tells : MachineState → Line → HandEvent → Outcome
hand_tells g l f = record { answer = f.answer; thread = f.thread; state = with_hand (actor_of l) f.hand g }

hand_told : (g : MachineState) (l : Line) (x f : HandEvent) → Carries l f.answer f.thread → x ≡ f → hand_tells g l x ≡ told l (after_hand g l f)
hand_told g l x f tells is =
    ap (hand_tells g l) is
    ∙ outcome_same f.answer l.entry.answer f.thread l.entry.thread (after_hand g l f) (after_hand g l f) (sym tells.answer) (sym tells.thread) refl

-- a line that is an aim at a cluster
abbrev aiming : Hand → Line → ℕ → HandEvent
aiming h l c = record { answer = answers.To c; thread = None; hand = kept_hand h (moment_of l) }

aimed_gives : (h : Hand) (l : Line) (r : Result ℕ ℕ) (f : HandEvent) → aimed_line h l r ≡ Some f → (c : ℕ) × (r ≡ Ok c) × (aiming h l c ≡ f)
aimed_gives h l (Ok c) f e = (c, refl, same_Some (aiming h l c) f e)
aimed_gives h l (Err c) f e = absurd (none-some f e)

unbound_misses : (setup : SetupParts) (looks : List (Option Look)) (prefer : ℕ) (missing : Option ℕ) (c : ℕ) → aim_by setup looks prefer None missing ≡ Ok c → missing ≡ None
unbound_misses setup looks prefer None c e = refl
unbound_misses setup looks prefer (Some m) c e = absurd (cc)

-- an aim that is a cluster lacks no look
misses_none : (setup : SetupParts) (looks : List (Option Look)) (t : Facts) (c : ℕ) (b : Option ℕ) → t.bound ≡ b → aim setup looks t ≡ Ok c → not_looked setup looks t ≡ None
misses_none setup looks t c (Some d) is e =
    ap (λ (o : Option ℕ). find (λ k. is_none (look_at looks k)) (cond (is_some o) [] (needed_by setup t.prefer (movable setup t.prefer)))) is
misses_none setup looks t c None is e =
    unbound_misses setup looks t.prefer (not_looked setup looks t) c (ap (λ (o : Option ℕ). aim_by setup looks t.prefer o (not_looked setup looks t)) (sym is) ∙ e)

aim_comes : (setup : SetupParts) (g : MachineState) (h : Hand) (l : Line) (f : HandEvent) → Carries l f.answer f.thread → hand_event_by setup h l acts.Aim ≡ Some f → ComesInHand setup g h l f acts.Aim
aim_comes setup g h l f tells allowed =
    let now : ℕ = moment_of l in
    let a : ℕ = actor_of l in
    let aims : Facts → Option HandEvent = λ t. aimed_line h l (aim setup h.looks t) in
    let t = and_then_gives aims h.thread f allowed in
    let c = aimed_gives h l (aim setup h.looks t.0) f t.2 in
    let with_aim : Result ℕ ℕ → Outcome = λ r. record { answer = aim_answer r; thread = None; state = with_hand a (kept_hand h now) g } in
    record {
      at = refl;
      accepted = passes (is_none h.thread) answers.HandEmpty (look_first setup h h.thread ∷ []) (holds_some h t.0 t.1)
          ∙ (ap (λ (o : Option Facts). first_refusal (look_first setup h o ∷ [])) t.1
          ∙ ap (λ (o : Option ℕ). first_refusal (look_first_by o ∷ [])) (misses_none setup h.looks t.0 c.0 t.0.bound refl c.1));
      comes = ap (λ (o : Option Facts). aim_outcome setup g a h now o) t.1
          ∙ (ap with_aim c.1 ∙ hand_told g l (aiming h l c.0) f tells c.2);
    }

ran_comes : (setup : SetupParts) (g : MachineState) (h : Hand) (l : Line) (f : HandEvent) → Carries l f.answer f.thread → (us : ℕ) → hand_event_by setup h l (acts.Ran us) ≡ Some f → ComesInHand setup g h l f (acts.Ran us)
ran_comes setup g h l f tells us allowed =
    let t = map_gives (charging_line setup h l us) h.thread f allowed in
    record {
      at = refl;
      accepted = passes (is_none h.thread) answers.HandEmpty [] (holds_some h t.0 t.1);
      comes = ap (λ (o : Option Facts). ran_outcome setup g (actor_of l) h us (moment_of l) o) t.1
          ∙ hand_told g l (charging_line setup h l us t.0) f tells t.2;
    }

-- every line that has no spot
pub hand_comes : (setup : SetupParts) (g : MachineState) (h : Hand) (l : Line) (f : HandEvent) (home : ℕ) → Carries l f.answer f.thread → (act : Act) → spot_from home (site_of act) ≡ None → hand_event_by setup h l act ≡ Some f → ComesInHand setup g h l f act
hand_comes setup g h l f home tells (acts.Make name group bucket base bound) spot allowed = absurd (none-some spots.Yard (sym spot))
hand_comes setup g h l f home tells (acts.Enter at head) spot allowed = absurd (none-some (spots.Cluster at) (sym spot))
hand_comes setup g h l f home tells acts.Select spot allowed = absurd (none-some (spots.Cluster home) (sym spot))
hand_comes setup g h l f home tells (acts.Offer at) spot allowed = absurd (none-some (spots.Cluster at) (sym spot))
hand_comes setup g h l f home tells (acts.Pull name) spot allowed = absurd (none-some (spots.Cluster home) (sym spot))
hand_comes setup g h l f home tells (acts.Look at) spot allowed = absurd (none-some (spots.Cluster at) (sym spot))
hand_comes setup g h l f home tells acts.Aim spot allowed = aim_comes setup g h l f tells allowed
hand_comes setup g h l f home tells (acts.Ran us) spot allowed = ran_comes setup g h l f tells us allowed
hand_comes setup g h l f home tells acts.Sleep spot allowed = absurd (none-some spots.Yard (sym spot))
hand_comes setup g h l f home tells (acts.Wake name) spot allowed = absurd (none-some spots.Yard (sym spot))
hand_comes setup g h l f home tells acts.End spot allowed = absurd (none-some spots.Yard (sym spot))
hand_comes setup g h l f home tells acts.Blocked spot allowed = absurd (none-some spots.Yard (sym spot))
hand_comes setup g h l f home tells acts.Refresh spot allowed = absurd (none-some (spots.Cluster home) (sym spot))
hand_comes setup g h l f home tells (acts.Off at) spot allowed = absurd (none-some (spots.Cluster at) (sym spot))
hand_comes setup g h l f home tells (acts.On at) spot allowed = absurd (none-some (spots.Cluster at) (sym spot))
