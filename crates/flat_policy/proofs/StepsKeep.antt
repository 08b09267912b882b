-- The empty queue is well-formed, and each step at a cluster keeps its queue so.
use Rattle.std.proofs.Common.{◌≡◌, ℕ, ◌*◌, ◌<◌, Bool, Contains, length, replicate, get_or, Option, Some, None, is_some, refl, sym, ap, subst, inl, inr, arith}
use Rattle.std.proofs.lemmas.Bool.{cases_lt, cond_both}
use Rattle.std.proofs.lemmas.List.{get_or-replicate, get_or_past, length-map, length-replicate, length_push}
use Rattle.sched_base.specs.Limits.{most_threads}
use Rattle.sched_base.specs.declared.Facts.{Facts}
use Rattle.flat_policy.specs.Policy.ClusterSteps.{Event, facts_of, flat_after_offer, got, select_event, touched}
use Rattle.sched_base.specs.declared.Answer.TheVariants as answers
use Rattle.flat_policy.specs.Laws.Kept.{StaysWellFormed}
use Rattle.flat_policy.specs.Policy.Moves.{entered, new_entry, pick, removed, selected, settled_thread}
use Rattle.flat_policy.specs.Policy.Offer.{mask_between, offered_between}
use Rattle.flat_policy.specs.Policy.Queue.{Clutch, Flat, Queued, clutch_place, empty_flat, no_spans}
use Rattle.flat_policy.specs.Policy.Refresh.{refreshed, repriced}
use Rattle.flat_policy.specs.Policy.Setup.{SetupParts, cluster_times, group_count, migrates}
use Rattle.flat_policy.specs.Policy.Threads.{ThreadFits}
use Rattle.flat_policy.specs.Policy.WellFormed.{SmallSpans, TurnBelow, TurnsDiffer, WellFormed}
use Rattle.flat_policy.proofs.After.{entered_entries, removed_entries}
use Rattle.flat_policy.proofs.Enters.{entered_fits}
use Rattle.flat_policy.proofs.Kept.{after_offer_entries, after_offer_fits, fewer, offered_stands, selected_entries, selected_fits}
use Rattle.flat_policy.proofs.Leaves.{removed_fits}
use Rattle.flat_policy.proofs.Parts.{PartsOf, parts_of, turn_in, well_formed_from}
use Rattle.flat_policy.proofs.Refreshed.{refreshed_entries, refreshed_fits}

-- a list of one value has it everywhere
replicated : {X : Type 0} (n i : ℕ) (d : X) → get_or (replicate n d) i d ≡ d
replicated n i d =
    elim (cases_lt i n) [
      | inl within ↦ get_or-replicate n i d d within
      | inr past ↦ get_or_past (replicate n d) i d (omega (arith, length-replicate n d, past))
    ]

no_turn : (groups : ℕ) (k : Clutch) → turn_in (replicate (groups * 6) None) k ≡ None
no_turn groups k = replicated (groups * 6) (clutch_place k) None

pub empty_parts : (groups : ℕ) → PartsOf groups (empty_flat groups)
empty_parts groups = record {
  entries_fit = record { rise = tt; below = tt; orders = tt; grouped = tt; based = tt; priced = tt };
  turns_fit = record {
    long = length-replicate (groups * 6) None;
    below = λ k. subst (TurnBelow 0) (sym (no_turn groups k)) tt;
    differ = λ k l kl gk gl. subst (λ t. TurnsDiffer t (turn_in (replicate (groups * 6) None) l)) (sym (no_turn groups k)) tt;
  };
  turns_stand = λ k gk. ap is_some (no_turn groups k);
  spans_fit = record {
    long = length-replicate (groups * 6) no_spans;
    small = λ k. subst SmallSpans (sym (replicated (groups * 6) (clutch_place k) no_spans)) (record { used = omega arith; blocked = omega arith });
  };
  ten = refl;
}

pub empty_fits : (groups : ℕ) → WellFormed groups (empty_flat groups)
empty_fits groups = well_formed_from groups (empty_flat groups) (omega arith) (empty_parts groups)

enter_keeps : (setup : SetupParts) (s : Flat) → WellFormed (group_count setup) s → (c : ℕ) (t : Facts) (head : Bool) (now : ℕ) → length s.entries < most_threads → ThreadFits setup t → WellFormed (group_count setup) (entered (cluster_times setup c) t head now s)
enter_keeps setup s w c t head now room fit =
    well_formed_from (group_count setup) (entered (cluster_times setup c) t head now s)
    (omega (arith, room, ap length (entered_entries (cluster_times setup c) t head now s), length_push s.entries (new_entry s (settled_thread now t) head)))
    (entered_fits setup (cluster_times setup c) t head now s (parts_of (group_count setup) s w) fit)

-- a queue with another moment, on or off, is as well-formed
touch_keeps : (groups : ℕ) (s : Flat) (now : ℕ) (on : Bool) → WellFormed groups s → WellFormed groups (record s { on = on; last = now })
touch_keeps groups s now on w = well_formed_from groups (record s { on = on; last = now }) w.few (parts_of groups s w)

look_keeps : (groups : ℕ) (s : Flat) (now : ℕ) → WellFormed groups s → WellFormed groups (touched now s)
look_keeps groups s now w = well_formed_from groups (touched now s) w.few (parts_of groups s w)

selection_keeps : (groups c now : ℕ) (setup : SetupParts) (s : Flat) → WellFormed groups s → WellFormed groups (selected (cluster_times setup c) now s)
selection_keeps groups c now setup s w =
    well_formed_from groups (selected (cluster_times setup c) now s)
    (omega (arith, w.few, ap length (selected_entries (cluster_times setup c) now s), fewer (pick (cluster_times setup c) now s) s.entries))
    (selected_fits groups (cluster_times setup c) now s (parts_of groups s w))

offer_keeps : (groups : ℕ) (s : Flat) (now : ℕ) (o : Option Queued) → WellFormed groups s → ((e : Queued) → o ≡ Some e → Contains s.entries e) → WellFormed groups (flat_after_offer now s o)
offer_keeps groups s now o w among =
    well_formed_from groups (flat_after_offer now s o)
    (omega (arith, w.few, ap length (after_offer_entries now s o), fewer o s.entries))
    (after_offer_fits groups now s o (parts_of groups s w) among)

pull_keeps : (groups : ℕ) (s : Flat) (e : Queued) (now : ℕ) → WellFormed groups s → Contains s.entries e → WellFormed groups (removed e now s)
pull_keeps groups s e now w c =
    well_formed_from groups (removed e now s)
    (omega (arith, w.few, ap length (removed_entries e now s), fewer (Some e) s.entries))
    (removed_fits groups e now s (parts_of groups s w) c)

refresh_keeps : (groups : ℕ) (s : Flat) (now : ℕ) → WellFormed groups s → WellFormed groups (refreshed groups s now)
refresh_keeps groups s now w =
    well_formed_from groups (refreshed groups s now)
    (omega (arith, w.few, ap length (refreshed_entries groups s now), length-map s.entries (repriced s now)))
    (refreshed_fits groups s now (parts_of groups s w))

-- a select, where the cluster is on or off
select_keeps : (setup : SetupParts) (s : Flat) → WellFormed (group_count setup) s → (c now : ℕ) → WellFormed (group_count setup) (select_event setup c now s).flat
select_keeps setup s w c now =
    let on : Event = record {
      answer = got (pick (cluster_times setup c) now s);
      thread = facts_of (pick (cluster_times setup c) now s);
      flat = selected (cluster_times setup c) now s;
    } in
    cond_both s.on on (record { answer = answers.Off; thread = None; flat = touched now s }) (λ (v : Event). WellFormed (group_count setup) v.flat)
    (λ h. selection_keeps (group_count setup) c now setup s w)
    (λ h. look_keeps (group_count setup) s now w)

pub steps_keep : (setup : SetupParts) (s : Flat) → WellFormed (group_count setup) s → StaysWellFormed setup s
steps_keep setup s w = record {
  entering = enter_keeps setup s w;
  selecting = λ c now. select_keeps setup s w c now;
  offering = λ from to now. offer_keeps (group_count setup) s now (offered_between setup from to s) w
      (λ e h. (offered_stands to (migrates setup from to) (mask_between setup from to s.on) s e h).0);
  pulling = λ e now c. pull_keeps (group_count setup) s e now w c;
  looking = λ c b now. look_keeps (group_count setup) s now w;
  refreshing = λ now. refresh_keeps (group_count setup) s now w;
  powering = λ on now. touch_keeps (group_count setup) s now on w;
}
