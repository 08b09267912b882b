-- The numbers of the answer to a refused act are in the ranges of lines.
use Rattle.std.proofs.Common.{◌<◌, ℕ, IfSome, List, [], ◌∷◌, None, Option, Some, arith}
use Rattle.std.specs.List.{AllByRecursion}
use Rattle.std.proofs.lemmas.Bool.{cond_both}
use Rattle.sched_base.specs.declared.Act.{Act}
use Rattle.sched_base.specs.declared.Facts.{Facts}
use Rattle.flat_policy.specs.Policy.Aim.{not_looked}
use Rattle.flat_policy.specs.Policy.BuiltSetups.{IsSetup}
use Rattle.flat_policy.specs.Policy.Machine.{Hand, MachineState, Refusal, first_refusal, hand_at, look_first, look_first_by, not_allowed, refusals_by}
use Rattle.flat_policy.specs.Policy.Setup.{SetupParts, cluster_count}
use Rattle.trace_text.specs.Writing.{AnswerFits}
use Rattle.trace_text.proofs.FittingPlaces.{missing_among, place_fits}
use Rattle.sched_base.specs.declared.Act.TheVariants as acts
use Rattle.trace_text.proofs.FittingAnswers.{IsAsked}

-- the answer of each refusal fits
abbrev pub EachFits : List Refusal → Type 0
EachFits rs = AllByRecursion (λ (r : Refusal). AnswerFits r.answer) rs

refused_fits : (rs : List Refusal) → EachFits rs → IfSome (first_refusal rs) AnswerFits
refused_fits [] each = tt
refused_fits (r ∷ rs) each = cond_both r.holds (Some r.answer) (first_refusal rs) (λ o. IfSome o AnswerFits) (λ e. each.0) (λ e. refused_fits rs each.1)

not_allowed_fits : (setup : SetupParts) (o : Option Facts) (c : ℕ) → AnswerFits (not_allowed setup o c).answer
not_allowed_fits setup None c = tt
not_allowed_fits setup (Some t) c = tt

look_first_fits_by : (setup : SetupParts) (o : Option ℕ) → IsSetup setup → IfSome o (λ c. c < cluster_count setup) → AnswerFits (look_first_by o).answer
look_first_fits_by setup None is among = tt
look_first_fits_by setup (Some c) is among = omega (arith, among, is.clusters_most)

look_first_fits : (setup : SetupParts) (h : Hand) (o : Option Facts) → IsSetup setup → AnswerFits (look_first setup h o).answer
look_first_fits setup h None is = tt
look_first_fits setup h (Some t) is = look_first_fits_by setup (not_looked setup h.looks t) is (missing_among setup h.looks t)

refusals_fit : (setup : SetupParts) (g : MachineState) (a : ℕ) (act : Act) → IsAsked setup g a → EachFits (refusals_by setup g a (hand_at g a) act)
refusals_fit setup g a (acts.Make name group bucket base bound) k = (tt, (tt, (tt, tt)))
refusals_fit setup g a (acts.Enter c head) k = (tt, (not_allowed_fits setup (hand_at g a).thread c, tt))
refusals_fit setup g a acts.Select k = (tt, tt)
refusals_fit setup g a (acts.Offer c) k = (tt, (tt, tt))
refusals_fit setup g a (acts.Pull name) k = (tt, (place_fits setup g name k.is k.sound, tt))
refusals_fit setup g a (acts.Look c) k = (tt, tt)
refusals_fit setup g a acts.Aim k = (tt, (look_first_fits setup (hand_at g a) (hand_at g a).thread k.is, tt))
refusals_fit setup g a (acts.Ran us) k = (tt, tt)
refusals_fit setup g a acts.Sleep k = (tt, tt)
refusals_fit setup g a (acts.Wake name) k = (tt, (place_fits setup g name k.is k.sound, tt))
refusals_fit setup g a acts.End k = (tt, tt)
refusals_fit setup g a acts.Blocked k = tt
refusals_fit setup g a acts.Refresh k = tt
refusals_fit setup g a (acts.Off c) k = tt
refusals_fit setup g a (acts.On c) k = tt

-- the answer to a refused act
pub refusal_fits : (setup : SetupParts) (g : MachineState) (a : ℕ) (act : Act) → IsAsked setup g a → IfSome (first_refusal (refusals_by setup g a (hand_at g a) act)) AnswerFits
refusal_fits setup g a act k = refused_fits (refusals_by setup g a (hand_at g a) act) (refusals_fit setup g a act k)
