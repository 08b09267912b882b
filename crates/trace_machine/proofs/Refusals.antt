-- Refusals of acts that would move a thread, by what a machine in code tests.
use Rattle.std.proofs.Common.{◌≡◌, ◌≢◌, ℕ, ◌==◌, ◌-◌, ◌≤◌, Bool, true, false, not, List, [], ◌∷◌, Option, Some, None, is_none, is_some, length, refl, sym, ap, ◌∙◌, arith, eq-eqb}
use Rattle.std.proofs.lemmas.Bool.{cond-false, cond-true, false≢true, le-leb, ne_eqb}
use Rattle.sched_base.specs.declared.Act.TheVariants as acts
use Rattle.sched_base.specs.declared.Answer.{Answer}
use Rattle.sched_base.specs.declared.Answer.TheVariants as answers
use Rattle.sched_base.specs.declared.Bucket.{Bucket}
use Rattle.sched_base.specs.declared.Facts.{Facts}
use Rattle.sched_base.specs.declared.Ticket.{Ticket}
use Rattle.flat_policy.specs.Policy.Machine.{Refusal, Yard, first_refusal, flat_at, hand_empty, hand_full, name_used, no_room, not_allowed, not_blocked, not_queued, refuse}
use Rattle.flat_policy.specs.Policy.Setup.{home_of}
use Rattle.trace_machine.specs.declared.names.Standing.{Standing}
use Rattle.trace_machine.specs.declared.names.Standing.TheVariants as standings
use Rattle.trace_machine.specs.Machines.{MachineView}
use Rattle.trace_machine.specs.Parts.{hand_of, state_of}
use Rattle.trace_machine.specs.Yards.{is_queued_at, place_in, standing_of}
use Rattle.trace_machine.proofs.ActsTo.{refused_by}
use Rattle.trace_machine.proofs.Standing.{KnowsPlaces, used_is}
use Rattle.trace_machine.proofs.StandingFound.{is_resting, not_blocked_is, not_queued_is}

-- a refusal that holds comes, and one that doesn't leaves it to the next
pub refusal_comes : (r : Refusal) (rs : List Refusal) → r.holds ≡ true → first_refusal (r ∷ rs) ≡ Some r.answer
refusal_comes r rs holds = cond-true r.holds (Some r.answer) (first_refusal rs) holds

pub refusal_later : (r : Refusal) (rs : List Refusal) (o : Option Answer) → r.holds ≡ false → first_refusal rs ≡ o → first_refusal (r ∷ rs) ≡ o
refusal_later r rs o passes rest = cond-false r.holds (Some r.answer) (first_refusal rs) passes ∙ rest

-- a make: the hand holds a thread, the name was made, or as many threads live as may
pub make_full : (v : MachineView) (y : Yard) (a name group base : ℕ) (bucket : Bucket) (bound : Option ℕ) → is_some (hand_of v.parts a).thread ≡ true
    → refused_by v.parts y a (acts.Make name group bucket base bound) ≡ Some answers.HandFull
make_full v y a name group base bucket bound full =
    refusal_comes (hand_full (hand_of v.parts a)) (name_used y name ∷ no_room v.parts.setup y ∷ []) full

pub make_used : (v : MachineView) (y : Yard) (a name group base : ℕ) (bucket : Bucket) (bound : Option ℕ) → KnowsPlaces v y → is_some (hand_of v.parts a).thread ≡ false
    → is_some (standing_of v.names name) ≡ true → refused_by v.parts y a (acts.Make name group bucket base bound) ≡ Some answers.NameUsed
make_used v y a name group base bucket bound k empty used =
    refusal_later (hand_full (hand_of v.parts a)) (name_used y name ∷ no_room v.parts.setup y ∷ []) (Some answers.NameUsed) empty
    (refusal_comes (name_used y name) (no_room v.parts.setup y ∷ []) (used_is v y k name ∙ used))

pub make_without_room : (v : MachineView) (y : Yard) (a name group base : ℕ) (bucket : Bucket) (bound : Option ℕ) → KnowsPlaces v y → is_some (hand_of v.parts a).thread ≡ false
    → is_some (standing_of v.names name) ≡ false → v.parts.setup.threads ≤ v.yard.live
    → refused_by v.parts y a (acts.Make name group bucket base bound) ≡ Some answers.NoRoom
make_without_room v y a name group base bucket bound k empty unused full =
    refusal_later (hand_full (hand_of v.parts a)) (name_used y name ∷ no_room v.parts.setup y ∷ []) (Some answers.NoRoom) empty
    (refusal_later (name_used y name) (no_room v.parts.setup y ∷ []) (Some answers.NoRoom) (used_is v y k name ∙ unused)
    (refusal_comes (no_room v.parts.setup y) [] (le-leb v.parts.setup.threads (length y.made - length y.ended) (omega (arith, full, k.yard.live)))))

-- an enter: the hand is empty, or its thread may not enter the cluster
pub enter_empty : (v : MachineView) (y : Yard) (a c : ℕ) (head : Bool) → (hand_of v.parts a).thread ≡ None → refused_by v.parts y a (acts.Enter c head) ≡ Some answers.HandEmpty
enter_empty v y a c head empty =
    refusal_comes (hand_empty (hand_of v.parts a)) (not_allowed v.parts.setup (hand_of v.parts a).thread c ∷ []) (ap is_none empty)

-- the answer of a refusal to enter that holds
kept_out_answer : (v : MachineView) (c : ℕ) (o : Option Facts) → (not_allowed v.parts.setup o c).holds ≡ true → (not_allowed v.parts.setup o c).answer ≡ answers.NotAllowed
kept_out_answer v c None holds = absurd (false≢true holds)
kept_out_answer v c (Some t) holds = refl

pub enter_kept_out : (v : MachineView) (y : Yard) (a c : ℕ) (head : Bool) (t : Facts) → (hand_of v.parts a).thread ≡ Some t
    → (not_allowed v.parts.setup (hand_of v.parts a).thread c).holds ≡ true → refused_by v.parts y a (acts.Enter c head) ≡ Some answers.NotAllowed
enter_kept_out v y a c head t holding kept_out =
    let refusing : Refusal = not_allowed v.parts.setup (hand_of v.parts a).thread c in
    refusal_later (hand_empty (hand_of v.parts a)) (refusing ∷ []) (Some answers.NotAllowed) (ap is_none holding)
    (refusal_comes refusing [] kept_out ∙ ap (λ (x : Answer). Some x) (kept_out_answer v c (hand_of v.parts a).thread kept_out))

-- a select, an offer, a pull and a wake: the hand holds a thread
pub select_full : (v : MachineView) (y : Yard) (a : ℕ) → is_some (hand_of v.parts a).thread ≡ true → refused_by v.parts y a acts.Select ≡ Some answers.HandFull
select_full v y a full = refusal_comes (hand_full (hand_of v.parts a)) [] full

pub offer_full : (v : MachineView) (y : Yard) (a c : ℕ) → is_some (hand_of v.parts a).thread ≡ true → refused_by v.parts y a (acts.Offer c) ≡ Some answers.HandFull
offer_full v y a c full = refusal_comes (hand_full (hand_of v.parts a)) (refuse (c == home_of v.parts.setup a) answers.OwnCluster ∷ []) full

pub pull_full : (v : MachineView) (y : Yard) (a name : ℕ) → is_some (hand_of v.parts a).thread ≡ true → refused_by v.parts y a (acts.Pull name) ≡ Some answers.HandFull
pull_full v y a name full =
    refusal_comes (hand_full (hand_of v.parts a)) (not_queued (state_of v.parts y) (flat_at (state_of v.parts y) (home_of v.parts.setup a)) name ∷ []) full

pub wake_full : (v : MachineView) (y : Yard) (a name : ℕ) → is_some (hand_of v.parts a).thread ≡ true → refused_by v.parts y a (acts.Wake name) ≡ Some answers.HandFull
wake_full v y a name full = refusal_comes (hand_full (hand_of v.parts a)) (not_blocked (state_of v.parts y) name ∷ []) full

-- an offer of the own cluster
pub offer_own : (v : MachineView) (y : Yard) (a c : ℕ) → is_some (hand_of v.parts a).thread ≡ false → c ≡ home_of v.parts.setup a
    → refused_by v.parts y a (acts.Offer c) ≡ Some answers.OwnCluster
offer_own v y a c empty own =
    let refusing : Refusal = refuse (c == home_of v.parts.setup a) answers.OwnCluster in
    refusal_later (hand_full (hand_of v.parts a)) (refusing ∷ []) (Some answers.OwnCluster) empty
    (refusal_comes refusing [] (eq-eqb c (home_of v.parts.setup a) own))

-- a standing that is no ticket of a cluster's isn't in its queue, and one in no slot doesn't rest
pub elsewhere : (st : Option Standing) (c : ℕ) → ((t : Ticket) → st ≡ Some (standings.Queued t) → t.cluster ≢ c) → is_queued_at c st ≡ false
elsewhere None c other = refl
elsewhere (Some (standings.Queued t)) c other = ne_eqb t.cluster c (other t refl)
elsewhere (Some (standings.Held a)) c other = refl
elsewhere (Some (standings.Blocked slot)) c other = refl
elsewhere (Some standings.Ended) c other = refl

pub restless : (st : Option Standing) → ((slot : ℕ) → st ≢ Some (standings.Blocked slot)) → is_resting st ≡ false
restless None other = refl
restless (Some (standings.Queued t)) other = refl
restless (Some (standings.Held a)) other = refl
restless (Some (standings.Blocked slot)) other = absurd (other slot refl)
restless (Some standings.Ended) other = refl

-- a pull of a name that isn't queued at home
pub pull_elsewhere : (v : MachineView) (y : Yard) (a name : ℕ) (st : Option Standing) → KnowsPlaces v y → is_some (hand_of v.parts a).thread ≡ false
    → standing_of v.names name ≡ st → is_queued_at (home_of v.parts.setup a) st ≡ false
    → refused_by v.parts y a (acts.Pull name) ≡ Some (answers.NotQueued (place_in st))
pull_elsewhere v y a name st k empty stands other =
    let home : ℕ = home_of v.parts.setup a in
    let refusing : Refusal = not_queued (state_of v.parts y) (flat_at (state_of v.parts y) home) name in
    let is : refusing ≡ refuse (not (is_queued_at home st)) (answers.NotQueued (place_in st)) =
    not_queued_is v y k name home ∙ ap (λ o. refuse (not (is_queued_at home o)) (answers.NotQueued (place_in o))) stands in
    refusal_later (hand_full (hand_of v.parts a)) (refusing ∷ []) (Some (answers.NotQueued (place_in st))) empty
    (refusal_comes refusing [] (ap (λ (r : Refusal). r.holds) is ∙ ap not other) ∙ ap (λ (r : Refusal). Some r.answer) is)

-- a wake of a name that isn't blocked
pub wake_elsewhere : (v : MachineView) (y : Yard) (a name : ℕ) (st : Option Standing) → KnowsPlaces v y → is_some (hand_of v.parts a).thread ≡ false
    → standing_of v.names name ≡ st → is_resting st ≡ false
    → refused_by v.parts y a (acts.Wake name) ≡ Some (answers.NotBlocked (place_in st))
wake_elsewhere v y a name st k empty stands other =
    let refusing : Refusal = not_blocked (state_of v.parts y) name in
    let is : refusing ≡ refuse (not (is_resting st)) (answers.NotBlocked (place_in st)) =
    not_blocked_is v y k name ∙ ap (λ o. refuse (not (is_resting o)) (answers.NotBlocked (place_in o))) stands in
    refusal_later (hand_full (hand_of v.parts a)) (refusing ∷ []) (Some (answers.NotBlocked (place_in st))) empty
    (refusal_comes refusing [] (ap (λ (r : Refusal). r.holds) is ∙ ap not other) ∙ ap (λ (r : Refusal). Some r.answer) is)

-- a sleep and an end: the hand is empty
pub sleep_empty : (v : MachineView) (y : Yard) (a : ℕ) → (hand_of v.parts a).thread ≡ None → refused_by v.parts y a acts.Sleep ≡ Some answers.HandEmpty
sleep_empty v y a empty = refusal_comes (hand_empty (hand_of v.parts a)) [] (ap is_none empty)

pub end_empty : (v : MachineView) (y : Yard) (a : ℕ) → (hand_of v.parts a).thread ≡ None → refused_by v.parts y a acts.End ≡ Some answers.HandEmpty
end_empty v y a empty = refusal_comes (hand_empty (hand_of v.parts a)) [] (ap is_none empty)

-- a hand by whether it holds a thread
pub none_from_empty : (o : Option Facts) → is_some o ≡ false → o ≡ None
none_from_empty None empty = refl
none_from_empty (Some t) empty = absurd (false≢true (sym empty))

pub some_from_full : (o : Option Facts) → is_some o ≡ true → (t : Facts) × (o ≡ Some t)
some_from_full None full = absurd (false≢true full)
some_from_full (Some t) full = (t, refl)
