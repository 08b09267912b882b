-- No step of the load is refused, and at most one of its threads sleeps: what each state of the load keeps.
use Rattle.std.proofs.Common.{◌≡◌, ℕ, zero, suc, ◌+◌, ◌-◌, ◌/◌, ◌%◌, ◌≤◌, ◌<◌, ◌==◌, nat_lt, ◌&&◌, ◌||◌, true, false, not, cond, List, [], ◌∷◌, ◌++◌, Option, Some, None, is_none, is_some, refl, sym, ap, ◌∙◌, subst, inl, inr, arith}
use Rattle.std.specs.List.{list_any}
use Rattle.std.proofs.lemmas.Bool.{and_parts, cond-false, cond_both, eq-eqb, eqb-true, lt-leb, ltb-true, ne_eqb, not_from_true, or_cases, or_from, or_left, or_right, false≢true}
use Rattle.std.proofs.lemmas.List.Elements.{Contains-push_cases}
use Rattle.std.proofs.lemmas.List.Folds.{list_any-append}
use Rattle.std.proofs.lemmas.Option.{none-some, same_Some}
use Rattle.sched_base.specs.Facts.{charged, rested}
use Rattle.sched_base.specs.declared.Act.{Act}
use Rattle.sched_base.specs.declared.Act.TheVariants as acts
use Rattle.sched_base.specs.declared.Answer.{Answer}
use Rattle.sched_base.specs.declared.Answer.TheVariants as answers
use Rattle.sched_base.specs.declared.Bucket.{Bucket}
use Rattle.sched_base.specs.declared.Facts.{Facts}
use Rattle.sched_base.specs.declared.Step.{Step}
use Rattle.flat_policy.specs.Policy.Aim.{may_enter, may_enter_by}
use Rattle.flat_policy.specs.Policy.ClusterSteps.{offer_event, select_event}
use Rattle.flat_policy.specs.Policy.Machine.{MachineState, Refusal, Sleeper, accepted_by, effective_moment, end_outcome, enter_outcome, first_refusal, flat_at, hand_at, hand_empty, hand_full, is_blocked, kept_hand, live_count, name_used, no_room, not_allowed, not_blocked, outcome_by, ran_outcome, refusals_by, refuse, reply, sleep_outcome, sleeper_of, wake_outcome}
use Rattle.flat_policy.specs.Policy.Setup.{SetupParts, home_of, migrates, rate_of}
use Rattle.flat_policy.specs.Policy.Threads.{made_thread}
use Rattle.flat_policy.specs.Runs.LoadTrace.{LoadState, Tally, bucket_at_index, busy_act, drawn, free_act, free_wake, kept_after, load_act, load_after, load_make, load_setup, load_taken, next_draw, other_cluster, step_by_draw, step_of_load, tallied}
use Rattle.flat_policy.proofs.Members.{find_finds, member_of_filter}
use Rattle.flat_policy.proofs.Unbound.{StateUnbound, Unbound, empty_unbound, enter_unbound, hand_flat_unbound, hand_unbound, hand_yard_unbound, none_unbound, offer_unbound, one_unbound, refresh_unbound, select_unbound, taking_unbound}

-- one where a thread sleeps
abbrev one_kept : Option ℕ → ℕ
one_kept kept = cond (is_some kept) 1 0

-- what a state of the load keeps before its step number i: no thread is bound, the names from i on are unused, the name that sleeps
-- is blocked, and so many threads went to sleep as were woken, and that one
pub record LoadFits (i : ℕ) (g : MachineState) (kept : Option ℕ) (y : Tally) : Type 0 where
  pub unbound : StateUnbound g
  pub unused : (n : ℕ) → i ≤ n → list_any (λ m. m == n) g.yard.made ≡ false
  pub blocked : (name : ℕ) → kept ≡ Some name → is_blocked g.yard name ≡ true
  pub sleeps : y.sleeps ≡ y.wakes + one_kept kept

-- an act of the load in such a state is not refused, and leads to such a state
pub record ActGoes (setup : SetupParts) (i : ℕ) (g : MachineState) (kept : Option ℕ) (y : Tally) (a now : ℕ) (act : Act) : Type 0 where
  pub accepted : first_refusal (refusals_by setup g a (hand_at g a) act) ≡ None
  pub after : (answer : Answer) → LoadFits (suc i) (accepted_by setup g a (hand_at g a) now act).state (kept_after kept act (hand_at g a).thread) (tallied y act answer)

not_refused : (r : Refusal) (rs : List Refusal) → r.holds ≡ false → first_refusal rs ≡ None → first_refusal (r ∷ rs) ≡ None
not_refused r rs h k = cond-false r.holds (Some r.answer) (first_refusal rs) h ∙ k

-- an empty hand is not full, and a full one not empty
none_held : (g : MachineState) (a : ℕ) → (hand_at g a).thread ≡ None → is_some (hand_at g a).thread ≡ false
none_held g a e = ap is_some e

-- the names from i + 1 on stay unused
still_unused : (i : ℕ) (made : List ℕ) → ((n : ℕ) → i ≤ n → list_any (λ m. m == n) made ≡ false) → (n : ℕ) → suc i ≤ n → list_any (λ m. m == n) made ≡ false
still_unused i made unused n h = unused n (omega (arith, h))

made_unused : (i : ℕ) (made : List ℕ) → ((n : ℕ) → i ≤ n → list_any (λ m. m == n) made ≡ false) → (n : ℕ) → suc i ≤ n → list_any (λ m. m == n) (made ++ i ∷ []) ≡ false
made_unused i made unused n h =
    list_any-append (λ m. m == n) made (i ∷ [])
    ∙ or_from (list_any (λ m. m == n) made) ((i == n) || false) (unused n (omega (arith, h))) (or_from (i == n) false (ne_eqb i n (λ e. omega (arith, e, h))) refl)

make_goes : (setup : SetupParts) (i : ℕ) (g : MachineState) (kept : Option ℕ) (y : Tally) (a now group : ℕ) (bucket : Bucket) (base : ℕ) → LoadFits i g kept y → (hand_at g a).thread ≡ None → live_count g.yard < setup.threads
    → ActGoes setup i g kept y a now (acts.Make i group bucket base None)
make_goes setup i g kept y a now group bucket base f e room = record {
  accepted = not_refused (hand_full (hand_at g a)) (name_used g.yard i ∷ no_room setup g.yard ∷ []) (none_held g a e)
      (not_refused (name_used g.yard i) (no_room setup g.yard ∷ []) (f.unused i (omega arith))
      (not_refused (no_room setup g.yard) [] (lt-leb setup.threads (live_count g.yard) room) refl));
  after = λ answer. record {
    unbound = hand_yard_unbound g a _ _ f.unbound (one_unbound (made_thread setup i group bucket base None now) refl) f.unbound.blocked;
    unused = made_unused i g.yard.made f.unused;
    blocked = f.blocked;
    sleeps = f.sleeps;
  };
}

refresh_goes : (setup : SetupParts) (i : ℕ) (g : MachineState) (kept : Option ℕ) (y : Tally) (a now : ℕ) → LoadFits i g kept y → ActGoes setup i g kept y a now acts.Refresh
refresh_goes setup i g kept y a now f = record {
  accepted = refl;
  after = λ answer. record {
    unbound = hand_flat_unbound g a (home_of setup a) (kept_hand (hand_at g a) now) _ f.unbound (f.unbound.hands a)
        (refresh_unbound setup now (flat_at g (home_of setup a)) (f.unbound.queues (home_of setup a)));
    unused = still_unused i g.yard.made f.unused;
    blocked = f.blocked;
    sleeps = f.sleeps;
  };
}

select_goes : (setup : SetupParts) (i : ℕ) (g : MachineState) (kept : Option ℕ) (y : Tally) (a now : ℕ) → LoadFits i g kept y → (hand_at g a).thread ≡ None → ActGoes setup i g kept y a now acts.Select
select_goes setup i g kept y a now f e = record {
  accepted = not_refused (hand_full (hand_at g a)) [] (none_held g a e) refl;
  after = λ answer. record {
    unbound = taking_unbound setup g a (home_of setup a) now (select_event setup (home_of setup a) now (flat_at g (home_of setup a))) f.unbound
        (select_unbound setup (home_of setup a) now (flat_at g (home_of setup a)) (f.unbound.queues (home_of setup a)));
    unused = still_unused i g.yard.made f.unused;
    blocked = f.blocked;
    sleeps = f.sleeps;
  };
}

offer_goes : (setup : SetupParts) (i : ℕ) (g : MachineState) (kept : Option ℕ) (y : Tally) (a now c : ℕ) → LoadFits i g kept y → (hand_at g a).thread ≡ None → (c == home_of setup a) ≡ false → ActGoes setup i g kept y a now (acts.Offer c)
offer_goes setup i g kept y a now c f e other = record {
  accepted = not_refused (hand_full (hand_at g a)) (refuse (c == home_of setup a) answers.OwnCluster ∷ []) (none_held g a e)
      (not_refused (refuse (c == home_of setup a) answers.OwnCluster) [] other refl);
  after = λ answer. record {
    unbound = taking_unbound setup g a c now (offer_event setup c (home_of setup a) now (flat_at g c)) f.unbound
        (offer_unbound setup c (home_of setup a) now (flat_at g c) (f.unbound.queues c));
    unused = still_unused i g.yard.made f.unused;
    blocked = f.blocked;
    sleeps = f.sleeps;
  };
}

-- waking the one that sleeps
woken_fits : (setup : SetupParts) (i : ℕ) (g : MachineState) (y : Tally) (a now name : ℕ) (answer : Answer) → LoadFits i g (Some name) y → (o : Option Sleeper) → sleeper_of g.yard name ≡ o
    → LoadFits (suc i) (wake_outcome setup g a now o).state None (tallied y (acts.Wake name) answer)
woken_fits setup i g y a now name answer f None e = record {
  unbound = f.unbound;
  unused = still_unused i g.yard.made f.unused;
  blocked = λ n h. absurd (none-some n h);
  sleeps = omega (arith, f.sleeps);
}
woken_fits setup i g y a now name answer f (Some w) e = record {
  unbound = hand_yard_unbound g a _ _ f.unbound
      (one_unbound (rested (now - w.since) w.facts) (f.unbound.blocked w (find_finds (λ (v : Sleeper). v.facts.name == name) g.yard.blocked w e).0))
      (λ v c. f.unbound.blocked v (member_of_filter (λ (u : Sleeper). not (u.facts.name == w.facts.name)) g.yard.blocked v c).0);
  unused = still_unused i g.yard.made f.unused;
  blocked = λ n h. absurd (none-some n h);
  sleeps = omega (arith, f.sleeps);
}

wake_goes : (setup : SetupParts) (i : ℕ) (g : MachineState) (kept : Option ℕ) (y : Tally) (a now name : ℕ) → LoadFits i g kept y → (hand_at g a).thread ≡ None → kept ≡ Some name → ActGoes setup i g kept y a now (acts.Wake name)
wake_goes setup i g kept y a now name f e is = record {
  accepted = not_refused (hand_full (hand_at g a)) (not_blocked g name ∷ []) (none_held g a e)
      (not_refused (not_blocked g name) [] (not_from_true (is_blocked g.yard name) (f.blocked name is)) refl);
  after = λ answer. woken_fits setup i g y a now name answer (subst (λ k. LoadFits i g k y) is f) (sleeper_of g.yard name) refl;
}

-- the acts of a hand that holds a thread
full_hand : (g : MachineState) (a : ℕ) (t : Facts) → (hand_at g a).thread ≡ Some t → is_none (hand_at g a).thread ≡ false
full_hand g a t e = ap is_none e

ran_goes : (setup : SetupParts) (i : ℕ) (g : MachineState) (kept : Option ℕ) (y : Tally) (a now us : ℕ) (t : Facts) → LoadFits i g kept y → (hand_at g a).thread ≡ Some t → ActGoes setup i g kept y a now (acts.Ran us)
ran_goes setup i g kept y a now us t f e = record {
  accepted = not_refused (hand_empty (hand_at g a)) [] (full_hand g a t e) refl;
  after = λ answer. subst (λ o. LoadFits (suc i) (ran_outcome setup g a (hand_at g a) us now o).state kept (tallied y (acts.Ran us) answer)) (sym e) (record {
    unbound = hand_unbound g a _ f.unbound (one_unbound (charged us (rate_of setup (home_of setup a)) t) (f.unbound.hands a t e));
    unused = still_unused i g.yard.made f.unused;
    blocked = f.blocked;
    sleeps = f.sleeps;
  });
}

end_goes : (setup : SetupParts) (i : ℕ) (g : MachineState) (kept : Option ℕ) (y : Tally) (a now : ℕ) (t : Facts) → LoadFits i g kept y → (hand_at g a).thread ≡ Some t → ActGoes setup i g kept y a now acts.End
end_goes setup i g kept y a now t f e = record {
  accepted = not_refused (hand_empty (hand_at g a)) [] (full_hand g a t e) refl;
  after = λ answer. subst (λ o. LoadFits (suc i) (end_outcome setup g a now o).state kept (tallied y acts.End answer)) (sym e) (record {
    unbound = hand_yard_unbound g a _ _ f.unbound none_unbound f.unbound.blocked;
    unused = still_unused i g.yard.made f.unused;
    blocked = f.blocked;
    sleeps = f.sleeps;
  });
}

may_enter_preferred : (setup : SetupParts) (t : Facts) → Unbound t → may_enter setup t t.prefer ≡ true
may_enter_preferred setup t h =
    ap (λ b. may_enter_by setup b t.prefer t.prefer) h ∙ or_left (t.prefer == t.prefer) (migrates setup t.prefer t.prefer) (eq-eqb t.prefer t.prefer refl)

enter_goes : (setup : SetupParts) (i : ℕ) (g : MachineState) (kept : Option ℕ) (y : Tally) (a now : ℕ) (t : Facts) → LoadFits i g kept y → (hand_at g a).thread ≡ Some t → ActGoes setup i g kept y a now (acts.Enter t.prefer false)
enter_goes setup i g kept y a now t f e = record {
  accepted = not_refused (hand_empty (hand_at g a)) (not_allowed setup (hand_at g a).thread t.prefer ∷ []) (full_hand g a t e)
      (not_refused (not_allowed setup (hand_at g a).thread t.prefer) []
      (ap (λ o. (not_allowed setup o t.prefer).holds) e ∙ not_from_true (may_enter setup t t.prefer) (may_enter_preferred setup t (f.unbound.hands a t e))) refl);
  after = λ answer. subst (λ o. LoadFits (suc i) (enter_outcome setup g a t.prefer false now o).state kept (tallied y (acts.Enter t.prefer false) answer)) (sym e) (record {
    unbound = hand_flat_unbound g a t.prefer _ _ f.unbound none_unbound
        (enter_unbound setup t.prefer t false now (flat_at g t.prefer) (f.unbound.queues t.prefer) (f.unbound.hands a t e));
    unused = still_unused i g.yard.made f.unused;
    blocked = f.blocked;
    sleeps = f.sleeps;
  });
}

slept_is_blocked : (t : Facts) (since : ℕ) (ws : List Sleeper) (name : ℕ) → Some t.name ≡ Some name → list_any (λ (w : Sleeper). w.facts.name == name) (ws ++ record { facts = t; since = since } ∷ []) ≡ true
slept_is_blocked t since ws name h =
    list_any-append (λ (w : Sleeper). w.facts.name == name) ws (record { facts = t; since = since } ∷ [])
    ∙ or_right (list_any (λ (w : Sleeper). w.facts.name == name) ws) ((t.name == name) || false) (or_left (t.name == name) false (eq-eqb t.name name (same_Some t.name name h)))

sleep_goes : (setup : SetupParts) (i : ℕ) (g : MachineState) (kept : Option ℕ) (y : Tally) (a now : ℕ) (t : Facts) → LoadFits i g kept y → (hand_at g a).thread ≡ Some t → kept ≡ None → ActGoes setup i g kept y a now acts.Sleep
sleep_goes setup i g kept y a now t f e is = record {
  accepted = not_refused (hand_empty (hand_at g a)) [] (full_hand g a t e) refl;
  after = λ answer. subst (λ o. LoadFits (suc i) (sleep_outcome setup g a now o).state (kept_after kept acts.Sleep o) (tallied y acts.Sleep answer)) (sym e) (record {
    unbound = hand_yard_unbound g a _ _ f.unbound none_unbound
        (λ w c. elim (Contains-push_cases g.yard.blocked (record { facts = t; since = now }) w c) [
          | inl before ↦ f.unbound.blocked w before
          | inr same ↦ subst (λ (v : Sleeper). Unbound v.facts) same (f.unbound.hands a t e)
        ]);
    unused = still_unused i g.yard.made f.unused;
    blocked = λ name h. slept_is_blocked t now g.yard.blocked name h;
    sleeps = omega (arith, f.sleeps, ap one_kept is);
  });
}

-- the acts of the load, by the draw
woken_case : (Q : Act → Type 0) (kept : Option ℕ) → is_some kept ≡ true → ((name : ℕ) → kept ≡ Some name → Q (acts.Wake name)) → Q (free_wake kept)
woken_case Q None h wake = absurd (false≢true h)
woken_case Q (Some name) h wake = wake name refl

free_cases : (Q : Act → Type 0) (i q live other : ℕ) (kept : Option ℕ) → (live < 256 → Q (load_make i q)) → Q acts.Refresh → ((name : ℕ) → kept ≡ Some name → Q (acts.Wake name)) → Q (acts.Offer other) → Q acts.Select → Q (free_act i q live other kept)
free_cases Q i q live other kept make refresh wake offer select =
    cond_both ((live == 0) || (nat_lt (q % 8) 2 && nat_lt live 256)) (load_make i q) _ Q
    (λ h. make (elim (or_cases (live == 0) (nat_lt (q % 8) 2 && nat_lt live 256) h) [
      | inl none ↦ omega (arith, eqb-true live 0 none)
      | inr few ↦ ltb-true live 256 (and_parts (nat_lt (q % 8) 2) (nat_lt live 256) few).1
    ]))
    (λ h. cond_both (q % 8 == 2) acts.Refresh _ Q (λ k. refresh)
    (λ k. cond_both ((q % 8 == 3) && is_some kept) (free_wake kept) _ Q
    (λ l. woken_case Q kept (and_parts (q % 8 == 3) (is_some kept) l).1 wake)
    (λ l. cond_both (q % 8 == 4) (acts.Offer other) acts.Select Q (λ m. offer) (λ m. select))))

none_kept : (kept : Option ℕ) → is_none kept ≡ true → kept ≡ None
none_kept None h = refl
none_kept (Some name) h = absurd (false≢true h)

busy_cases : (Q : Act → Type 0) (q : ℕ) (t : Facts) (kept : Option ℕ) → ((us : ℕ) → Q (acts.Ran us)) → (kept ≡ None → Q acts.Sleep) → Q acts.End → Q (acts.Enter t.prefer false) → Q (busy_act q t kept)
busy_cases Q q t kept ran sleep end enter =
    cond_both (nat_lt (q % 8) 2) (acts.Ran ((q / 8) % 10001)) _ Q (λ h. ran ((q / 8) % 10001))
    (λ h. cond_both ((q % 8 == 2) && is_none kept) acts.Sleep _ Q (λ k. sleep (none_kept kept (and_parts (q % 8 == 2) (is_none kept) k).1))
    (λ k. cond_both (q % 8 == 3) acts.End (acts.Enter t.prefer false) Q (λ l. end) (λ l. enter)))

not_home : (c : ℕ) → (other_cluster c == c) ≡ false
not_home c = ne_eqb (other_cluster c) c (λ e. omega (arith, e))

-- what a state of the load keeps
abbrev StateFits : ℕ → LoadState → Type 0
StateFits i st = LoadFits i st.state st.kept st.tally

act_goes : (st : LoadState) (i a q now : ℕ) → StateFits i st → (o : Option Facts) → (hand_at st.state a).thread ≡ o → ActGoes load_setup i st.state st.kept st.tally a now (load_act st i a q o)
act_goes st i a q now f None e =
    free_cases (ActGoes load_setup i st.state st.kept st.tally a now) i q (live_count st.state.yard) (other_cluster (home_of load_setup a)) st.kept
    (λ room. make_goes load_setup i st.state st.kept st.tally a now ((q / 8) % 8) (bucket_at_index ((q / 64) % 6)) (20 + (q / 384) % 44) f e room)
    (refresh_goes load_setup i st.state st.kept st.tally a now f)
    (λ name is. wake_goes load_setup i st.state st.kept st.tally a now name f e is)
    (offer_goes load_setup i st.state st.kept st.tally a now (other_cluster (home_of load_setup a)) f e (not_home (home_of load_setup a)))
    (select_goes load_setup i st.state st.kept st.tally a now f e)
act_goes st i a q now f (Some t) e =
    busy_cases (ActGoes load_setup i st.state st.kept st.tally a now) q t st.kept
    (λ us. ran_goes load_setup i st.state st.kept st.tally a now us t f e)
    (λ is. sleep_goes load_setup i st.state st.kept st.tally a now t f e is)
    (end_goes load_setup i st.state st.kept st.tally a now t f e)
    (enter_goes load_setup i st.state st.kept st.tally a now t f e)

-- a step whose act goes so leads to such a state
abbrev pub StepGoes : LoadState → ℕ → Step → Type 0
StepGoes st i step = ActGoes load_setup i st.state st.kept st.tally step.actor (effective_moment load_setup st.state step) step.act

drawn_goes : (st : LoadState) (i r : ℕ) → StateFits i st → StepGoes st i (step_by_draw st i r)
drawn_goes st i r f =
    act_goes st i (r % 6) (r / 6) (effective_moment load_setup st.state (step_by_draw st i r)) f (hand_at st.state (r % 6)).thread refl

taken_fits : (st : LoadState) (x i : ℕ) (step : Step) → StepGoes st i step → StateFits (suc i) (load_taken st x step)
taken_fits st x i step go =
    subst (λ o. LoadFits (suc i) (outcome_by load_setup st.state step o).state (kept_after st.kept step.act (hand_at st.state step.actor).thread) (tallied st.tally step.act (reply load_setup st.state step).answer))
    (sym go.accepted) (go.after (reply load_setup st.state step).answer)

load_begins : (seed : ℕ) → StateFits 0 (load_after seed 0)
load_begins seed = record {
  unbound = empty_unbound load_setup;
  unused = λ n h. refl;
  blocked = λ name h. absurd (none-some name h);
  sleeps = refl;
}

load_fits : (seed n : ℕ) → StateFits n (load_after seed n)
load_fits seed zero = load_begins seed
load_fits seed (suc n) =
    let st : LoadState = load_after seed n in
    taken_fits st (next_draw st.draw) n (step_of_load st n) (drawn_goes st n (drawn (next_draw st.draw)) (load_fits seed n))

pub load_goes : (seed n : ℕ) → StepGoes (load_after seed n) n (step_of_load (load_after seed n) n)
load_goes seed n = drawn_goes (load_after seed n) n (drawn (next_draw (load_after seed n).draw)) (load_fits seed n)

one_at_most : (kept : Option ℕ) → one_kept kept ≤ 1
one_at_most None = omega arith
one_at_most (Some name) = omega arith

pub sleeps_one : (seed n : ℕ) → ((load_after seed n).tally.wakes ≤ (load_after seed n).tally.sleeps) × ((load_after seed n).tally.sleeps ≤ (load_after seed n).tally.wakes + 1)
sleeps_one seed n =
    let sleeps = (load_fits seed n).sleeps in
    let once = one_at_most (load_after seed n).kept in
    (omega (arith, sleeps), omega (arith, sleeps, once))
