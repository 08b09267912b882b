-- What the machine comes to at a line: what the line tells, where no refusal holds.
use Rattle.std.proofs.Common.{◌≡◌, Bool, true, false, cond, List, ◌∷◌, Option, Some, None, is_some, is_none, not, refl, sym, ap, ◌∙◌}
use Rattle.std.specs.Option.{option_map}
use Rattle.std.proofs.lemmas.Bool.{cond-false, false≢true}
use Rattle.std.proofs.lemmas.Option.{none-some, same_Some}
use Rattle.sched_base.specs.declared.Act.{Act}
use Rattle.sched_base.specs.declared.Answer.{Answer}
use Rattle.sched_base.specs.declared.Facts.{Facts}
use Rattle.sched_base.specs.declared.Spot.{Spot}
use Rattle.flat_policy.specs.declared.journal.Line.{Line}
use Rattle.flat_policy.specs.Policy.Machine.{Hand, MachineState, Outcome, Refusal, accepted_by, empty_hand, first_refusal, refusals_by, refuse, site_of, spot_from, taking_hand}
use Rattle.flat_policy.specs.Policy.Setup.{SetupParts, home_of}
use Rattle.flat_policy.specs.Runs.Hands.{HandEvent, giving_line, taking_line, untold}
use Rattle.flat_policy.specs.Runs.Histories.{actor_of, moment_of}
use Rattle.flat_policy.proofs.Happens.{map_gives}

-- what a line tells, with a state after it
abbrev pub told : Line → MachineState → Outcome
told l next = record { answer = l.entry.answer; thread = l.entry.thread; state = next }

-- by an act at the moment of a line the machine comes to what the line tells, and no refusal comes
pub record Comes (setup : SetupParts) (g : MachineState) (h : Hand) (l : Line) (act : Act) (spot : Option Spot) (next : MachineState) : Type 0 where
  pub at : spot_from (home_of setup (actor_of l)) (site_of act) ≡ spot
  pub accepted : first_refusal (refusals_by setup g (actor_of l) h act) ≡ None
  pub comes : accepted_by setup g (actor_of l) h (moment_of l) act ≡ told l next

pub passes : (b : Bool) (answer : Answer) (rs : List Refusal) → b ≡ false → first_refusal (refuse b answer ∷ rs) ≡ first_refusal rs
passes b answer rs h = cond-false b (Some answer) (first_refusal rs) h

pub outcome_same : (x y : Answer) (t u : Option Facts) (s r : MachineState) → x ≡ y → t ≡ u → s ≡ r
    → ◌≡◌ {A = Outcome} (record { answer = x; thread = t; state = s }) (record { answer = y; thread = u; state = r })
outcome_same x y t u s r p q w =
    ap (λ (v : Answer). let o : Outcome = record { answer = v; thread = t; state = s } in o) p
    ∙ (ap (λ (v : Option Facts). let o : Outcome = record { answer = y; thread = v; state = s } in o) q
    ∙ ap (λ (v : MachineState). let o : Outcome = record { answer = y; thread = u; state = v } in o) w)

-- what a line comes to in a hand that takes
pub else_gives : {X : Type 0} (b : Bool) (x y : X) → cond b None (Some x) ≡ Some y → (b ≡ false) × (x ≡ y)
else_gives true x y h = absurd (none-some y h)
else_gives false x y h = (refl, same_Some x y h)

pub record TakenBy (setup : SetupParts) (h : Hand) (l : Line) (f : HandEvent) : Type 0 where
  pub empty : is_some h.thread ≡ false
  pub hand : taking_hand setup h l.entry.thread (moment_of l) ≡ f.hand

pub taken_by : (setup : SetupParts) (h : Hand) (l : Line) (f : HandEvent) → taking_line setup h l ≡ Some f → TakenBy setup h l f
taken_by setup h l f e =
    let parts = else_gives (is_some h.thread) (untold l (taking_hand setup h l.entry.thread (moment_of l))) f e in
    record { empty = parts.0; hand = ap (λ (v : HandEvent). v.hand) parts.1 }

pub holds_some : (h : Hand) (t : Facts) → h.thread ≡ Some t → is_none h.thread ≡ false
holds_some h t e = ap (λ (o : Option Facts). is_none o) e

-- what a line comes to in a hand that gives its thread away
pub record GivenBy (setup : SetupParts) (h : Hand) (l : Line) (f : HandEvent) (t : Facts) : Type 0 where
  pub held : h.thread ≡ Some t
  pub hand : empty_hand setup (moment_of l) ≡ f.hand

pub given_by : (setup : SetupParts) (h : Hand) (l : Line) (f : HandEvent) (t : Facts) → option_map (giving_line setup l) h.thread ≡ Some f → l.entry.thread ≡ f.thread → l.entry.thread ≡ Some t → GivenBy setup h l f t
given_by setup h l f t allowed moved thread =
    let u = map_gives (giving_line setup l) h.thread f allowed in
    let same : u.0 ≡ t = same_Some u.0 t (ap (λ (v : HandEvent). v.thread) u.2 ∙ (sym moved ∙ thread)) in
    record { held = u.1 ∙ ap (λ (v : Facts). Some v) same; hand = ap (λ (v : HandEvent). v.hand) u.2 }

pub not_holds : (b : Bool) → not b ≡ true → b ≡ false
not_holds true h = absurd (false≢true h)
not_holds false h = refl
