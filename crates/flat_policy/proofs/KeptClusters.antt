-- Each call leaves what every cluster keeps, and an entry leaves by its place.
use Rattle.std.proofs.Common.{◌≡◌, ◌≢◌, ℕ, zero, suc, ◌+◌, ◌≤◌, ◌<◌, ◌==◌, Bool, true, false, not, Contains, AllPairs, List, [], ◌∷◌, length, get_or, Option, Some, None, refl, sym, ap, ◌∙◌, subst, arith, eq-eqb}
use Rattle.std.proofs.lemmas.Bool.{cond-false, cond-true, ne_eqb}
use Rattle.std.proofs.lemmas.List.{get_or_default, length-map, length_push}
use Rattle.std.proofs.lemmas.List.Edits.{length-remove}
use Rattle.std.proofs.lemmas.Option.{none-some, same_Some}
use Rattle.std.proofs.lemmas.List.Quantifiers.{all_pairs_push, all_pairs_remove}
use Rattle.sched_base.specs.Limits.{moment_limit, most_threads}
use Rattle.sched_base.specs.declared.Facts.{Facts}
use Rattle.flat_policy.specs.Laws.Clusters.{LeavesItsPlace, StaysCluster}
use Rattle.flat_policy.specs.Laws.Kept.{RisesBy}
use Rattle.flat_policy.specs.Laws.Sound.{FlatFits}
use Rattle.flat_policy.specs.Policy.Clusters.{ClusterView, IsCluster, SameRoom, after_offer, after_pull, after_refresh, after_select, after_touch, after_turn, entered_in, moment_at, offer_of, pick_of, slots_without, without_some}
use Rattle.flat_policy.specs.Policy.ClusterSteps.{flat_after_offer, touched}
use Rattle.flat_policy.specs.Policy.Moves.{entered, new_entry, pick, removed, selected, settled_thread, without}
use Rattle.flat_policy.specs.Policy.Offer.{mask_between}
use Rattle.flat_policy.specs.Policy.Queue.{Flat, Queued}
use Rattle.flat_policy.specs.Policy.Refresh.{refreshed, repriced}
use Rattle.flat_policy.specs.Policy.Setup.{cluster_times, group_count, migrates}
use Rattle.flat_policy.specs.Policy.Threads.{ThreadFits}
use Rattle.flat_policy.specs.Policy.WellFormed.{ArrivalsRise, EachQueued}
use Rattle.flat_policy.proofs.After.{entered_entries, removed_entries, without_some as left_by}
use Rattle.flat_policy.proofs.Entries.{each_member}
use Rattle.flat_policy.proofs.HandMoves.{refreshed_flat, touched_fits}
use Rattle.flat_policy.proofs.Kept.{after_offer_entries, after_offer_fits, offered_stands, pick_stands, selected_entries, selected_fits}
use Rattle.flat_policy.proofs.Moved.{enter_flat, moves_out, pull_out}
use Rattle.flat_policy.proofs.Reaches.{offer_reaches, selected_reaches}
use Rattle.flat_policy.proofs.Refreshed.{refreshed_entries}
use Rattle.flat_policy.proofs.SoundParts.{flat_fits, flat_parts}

-- no entry but one of an arrival is taken out, so that the others stay
without_later : (arrival : ℕ) (es : List Queued) (ks : List ℕ) → EachQueued (λ (f : Queued). arrival < f.arrival) es → length ks ≡ length es → (without arrival es ≡ es) × (slots_without arrival es ks ≡ ks)
without_later arrival [] ks later long = (refl, refl)
without_later arrival (f ∷ fs) [] later long = absurd (omega (arith, long))
without_later arrival (f ∷ fs) (k ∷ ks) later long =
    let rest = without_later arrival fs ks later.1 (omega (arith, long)) in
    let other : (f.arrival == arrival) ≡ false = ne_eqb f.arrival arrival (omega (arith, later.0)) in (
      cond-true (not (f.arrival == arrival)) (f ∷ without arrival fs) (without arrival fs) (ap not other) ∙ ap (λ es. f ∷ es) rest.0,
      cond-false (f.arrival == arrival) (slots_without arrival fs ks) (k ∷ slots_without arrival fs ks) other ∙ ap (λ is. k ∷ is) rest.1,
    )

pub leaves_by_place : (es : List Queued) (ks : List ℕ) (e : Queued) (place : ℕ) → ArrivalsRise es → length ks ≡ length es → place < length es → get_or es place e ≡ e → LeavesItsPlace es ks e place
leaves_by_place [] ks e place rise long within is = absurd (omega (arith, within))
leaves_by_place (f ∷ fs) [] e place rise long within is = absurd (omega (arith, long))
leaves_by_place (f ∷ fs) (k ∷ ks) e zero rise long within is =
    let same : (f.arrival == e.arrival) ≡ true = eq-eqb f.arrival e.arrival (ap (λ (q : Queued). q.arrival) is) in
    let rest = without_later e.arrival fs ks (subst (λ (n : ℕ). EachQueued (λ (g : Queued). n < g.arrival) fs) (ap (λ (q : Queued). q.arrival) is) rise.0) (omega (arith, long)) in
    record {
      entries = cond-false (not (f.arrival == e.arrival)) (f ∷ without e.arrival fs) (without e.arrival fs) (ap not same) ∙ rest.0;
      slots = cond-true (f.arrival == e.arrival) (slots_without e.arrival fs ks) (k ∷ slots_without e.arrival fs ks) same ∙ rest.1;
    }
leaves_by_place (f ∷ fs) (k ∷ ks) e (suc place) rise long within is =
    let earlier = each_member (λ (g : Queued). f.arrival < g.arrival) fs rise.0 e (place, omega (arith, within), is) in
    let other : (f.arrival == e.arrival) ≡ false = ne_eqb f.arrival e.arrival (omega (arith, earlier)) in
    let rest = leaves_by_place fs ks e place rise.1 (omega (arith, long)) (omega (arith, within)) is in
    record {
      entries = cond-true (not (f.arrival == e.arrival)) (f ∷ without e.arrival fs) (without e.arrival fs) (ap not other) ∙ ap (λ es. f ∷ es) rest.entries;
      slots = cond-false (f.arrival == e.arrival) (slots_without e.arrival fs ks) (k ∷ slots_without e.arrival fs ks) other ∙ ap (λ is. k ∷ is) rest.slots;
    }

-- a cluster with another queue that fits, over the same slots
kept_with : (v : ClusterView) (s : Flat) → IsCluster v → FlatFits v.setup s → length s.entries ≡ length v.flat.entries → IsCluster (record v { flat = s })
kept_with v s k fits same = record {
  setup = k.setup;
  number = k.number;
  fits = fits;
  few = omega (arith, k.few, same);
  slot_each = k.slot_each ∙ sym same;
  slots_differ = k.slots_differ;
}

-- a cluster that one entry left
kept_without : (v : ClusterView) (s : Flat) (o : Option Queued) → IsCluster v → FlatFits v.setup s
    → ((e : Queued) → o ≡ Some e → Contains v.flat.entries e × (s.entries ≡ without e.arrival v.flat.entries))
    → (o ≡ None → s.entries ≡ v.flat.entries) → IsCluster (without_some o s v)
kept_without v s None k fits some none = kept_with v s k fits (ap length (none refl))
kept_without v s (Some e) k fits some none =
    let there = some e refl in
    let c = there.0 in
    let left = leaves_by_place v.flat.entries v.slots e c.0 k.fits.formed.arrivals_rise k.slot_each c.1 c.2 in
    let slots = ap length left.slots in
    let entries = ap length (there.1 ∙ left.entries) in
    record {
      setup = k.setup;
      number = k.number;
      fits = fits;
      few = omega (arith, k.few, entries, length-remove v.flat.entries c.0 c.1);
      slot_each = omega (arith, k.slot_each, slots, entries, length-remove v.flat.entries c.0 c.1, length-remove v.slots c.0 (omega (arith, c.1, k.slot_each)));
      slots_differ = subst (AllPairs (λ i j. i ≢ j)) (sym left.slots) (all_pairs_remove (λ i j. i ≢ j) v.slots c.0 (omega (arith, c.1, k.slot_each)) k.slots_differ);
    }

-- entries and spare room after one entry left
room_without : (v : ClusterView) (s : Flat) (o : Option Queued) → IsCluster v
    → ((e : Queued) → o ≡ Some e → Contains v.flat.entries e × (s.entries ≡ without e.arrival v.flat.entries))
    → (o ≡ None → s.entries ≡ v.flat.entries) → SameRoom v (without_some o s v)
room_without v s None k some none = omega (arith, ap length (none refl))
room_without v s (Some e) k some none =
    let there = some e refl in
    let c = there.0 in
    let left = leaves_by_place v.flat.entries v.slots e c.0 k.fits.formed.arrivals_rise k.slot_each c.1 c.2 in
    omega (arith, ap length (there.1 ∙ left.entries), length-remove v.flat.entries c.0 c.1, c.1)

enter_room : (v : ClusterView) (t : Facts) (head : Bool) (now slot : ℕ) → 1 ≤ v.spare → SameRoom v (entered_in v t head now slot)
enter_room v t head now slot room =
    let m = moment_at v now in
    let ts = cluster_times v.setup v.number in
    let long : length (entered ts t head m v.flat).entries ≡ length v.flat.entries + 1 =
    ap length (entered_entries ts t head m v.flat) ∙ length_push v.flat.entries (new_entry v.flat (settled_thread m t) head) in
    omega (arith, room, long)

select_room : (v : ClusterView) → IsCluster v → (now : ℕ) → SameRoom v (after_select v now)
select_room v k now =
    let m = moment_at v now in
    let ts = cluster_times v.setup v.number in
    let e = selected_entries ts m v.flat in
    room_without v (selected ts m v.flat) (pick ts m v.flat) k
    (λ q h. (pick_stands ts m v.flat q h, e ∙ ap (λ o. left_by o v.flat.entries) h))
    (λ h. e ∙ ap (λ o. left_by o v.flat.entries) h)

offer_room : (v : ClusterView) → IsCluster v → (to now : ℕ) → SameRoom v (after_offer v to now)
offer_room v k to now =
    let m = moment_at v now in
    let o : Option Queued = offer_of v to in
    let s : Flat = flat_after_offer m v.flat o in
    let e = after_offer_entries m v.flat o in
    let stands : (q : Queued) → o ≡ Some q → Contains v.flat.entries q =
    λ q h. (offered_stands to (migrates v.setup v.number to) (mask_between v.setup v.number to v.flat.on) v.flat q h).0 in
    room_without v s o k
    (λ q h. (stands q h, e ∙ ap (λ o. left_by o v.flat.entries) h))
    (λ h. e ∙ ap (λ o. left_by o v.flat.entries) h)

pull_room : (v : ClusterView) → IsCluster v → (e : Queued) (now : ℕ) → Contains v.flat.entries e → SameRoom v (after_pull v (Some e) now)
pull_room v k e now c =
    let m = moment_at v now in
    room_without v (removed e m v.flat) (Some e) k
    (λ q h. (subst (Contains v.flat.entries) (same_Some e q h) c, removed_entries e m v.flat ∙ ap (λ (f : Queued). without f.arrival v.flat.entries) (same_Some e q h)))
    (λ h. absurd (none-some e (sym h)))

-- a moment of a call is in range
moment_soon : (v : ClusterView) (now : ℕ) → IsCluster v → now < moment_limit → moment_at v now < moment_limit
moment_soon v now k soon = omega (arith, k.fits.last, soon)

enter_keeps : (v : ClusterView) → IsCluster v → (t : Facts) (head : Bool) (now slot : ℕ) → length v.flat.entries < most_threads → ThreadFits v.setup t → now < moment_limit → ¬ Contains v.slots slot → IsCluster (entered_in v t head now slot)
enter_keeps v k t head now slot room fit soon free =
    let m = moment_at v now in
    let ts = cluster_times v.setup v.number in
    let long : length (entered ts t head m v.flat).entries ≡ length v.flat.entries + 1 =
    ap length (entered_entries ts t head m v.flat) ∙ length_push v.flat.entries (new_entry v.flat (settled_thread m t) head) in
    record {
      setup = k.setup;
      number = k.number;
      fits = enter_flat v.setup v.flat v.number t head m (moment_soon v now k soon) k.fits fit;
      few = omega (arith, room, long);
      slot_each = omega (arith, long, k.slot_each, length_push v.slots slot);
      slots_differ = all_pairs_push (λ i j. i ≢ j) v.slots slot k.slots_differ (λ n d within same. free (n, within, get_or_default v.slots n slot d within ∙ same));
    }

select_keeps : (v : ClusterView) → IsCluster v → (now : ℕ) → now < moment_limit → IsCluster (after_select v now)
select_keeps v k now soon =
    let m = moment_at v now in
    let ts = cluster_times v.setup v.number in
    let e = selected_entries ts m v.flat in
    kept_without v (selected ts m v.flat) (pick ts m v.flat) k
    (moves_out v.setup v.flat (selected ts m v.flat) (pick ts m v.flat) k.fits (selected_fits (group_count v.setup) ts m v.flat (flat_parts v.setup v.flat k.fits))
    (omega (arith, moment_soon v now k soon, (selected_reaches ts m v.flat).last)) e (pick_stands ts m v.flat)).flat
    (λ q h. (pick_stands ts m v.flat q h, e ∙ ap (λ o. left_by o v.flat.entries) h))
    (λ h. e ∙ ap (λ o. left_by o v.flat.entries) h)

offer_keeps : (v : ClusterView) → IsCluster v → (to now : ℕ) → now < moment_limit → IsCluster (after_offer v to now)
offer_keeps v k to now soon =
    let m = moment_at v now in
    let o : Option Queued = offer_of v to in
    let s : Flat = flat_after_offer m v.flat o in
    let e = after_offer_entries m v.flat o in
    let stands : (q : Queued) → o ≡ Some q → Contains v.flat.entries q =
    λ q h. (offered_stands to (migrates v.setup v.number to) (mask_between v.setup v.number to v.flat.on) v.flat q h).0 in
    kept_without v s o k
    (moves_out v.setup v.flat s o k.fits (after_offer_fits (group_count v.setup) m v.flat o (flat_parts v.setup v.flat k.fits) stands)
    (omega (arith, moment_soon v now k soon, (offer_reaches m v.flat o).last)) e stands).flat
    (λ q h. (stands q h, e ∙ ap (λ o. left_by o v.flat.entries) h))
    (λ h. e ∙ ap (λ o. left_by o v.flat.entries) h)

pull_keeps : (v : ClusterView) → IsCluster v → (e : Queued) (now : ℕ) → Contains v.flat.entries e → now < moment_limit → IsCluster (after_pull v (Some e) now)
pull_keeps v k e now c soon =
    let m = moment_at v now in
    kept_without v (removed e m v.flat) (Some e) k (pull_out v.setup v.flat e m (moment_soon v now k soon) k.fits c).flat
    (λ q h. (subst (Contains v.flat.entries) (same_Some e q h) c, removed_entries e m v.flat ∙ ap (λ (f : Queued). without f.arrival v.flat.entries) (same_Some e q h)))
    (λ h. absurd (none-some e (sym h)))

refresh_keeps : (v : ClusterView) → IsCluster v → (now : ℕ) → now < moment_limit → IsCluster (after_refresh v now)
refresh_keeps v k now soon =
    let m = moment_at v now in
    kept_with v (refreshed (group_count v.setup) v.flat m) k (refreshed_flat v.setup v.flat m (moment_soon v now k soon) k.fits)
    (ap length (refreshed_entries (group_count v.setup) v.flat m) ∙ length-map v.flat.entries (repriced v.flat m))

turn_keeps : (v : ClusterView) → IsCluster v → (on : Bool) (now : ℕ) → now < moment_limit → IsCluster (after_turn v on now)
turn_keeps v k on now soon =
    kept_with v (record v.flat { on = on; last = moment_at v now }) k
    (flat_fits v.setup (record v.flat { on = on; last = moment_at v now }) (flat_parts v.setup v.flat k.fits) k.fits.threads (moment_soon v now k soon)) refl

touch_keeps : (v : ClusterView) → IsCluster v → (now : ℕ) → now < moment_limit → IsCluster (after_touch v now)
touch_keeps v k now soon = kept_with v (touched (moment_at v now) v.flat) k (touched_fits v.setup v.flat (moment_at v now) (moment_soon v now k soon) k.fits) refl

-- what rises of a queue, rises of the cluster that has it
rises_with : (v : ClusterView) (s : Flat) (o : Option Queued) → RisesBy 0 1 v.flat s → RisesBy 0 1 v.flat (without_some o s v).flat
rises_with v s None r = r
rises_with v s (Some e) r = r

pub calls_keep : (v : ClusterView) → IsCluster v → StaysCluster v
calls_keep v k = record {
  entering = enter_keeps v k;
  selecting = select_keeps v k;
  offering = offer_keeps v k;
  pulling = pull_keeps v k;
  refreshing = refresh_keeps v k;
  turning = turn_keeps v k;
  touching = touch_keeps v k;
  entering_room = enter_room v;
  selecting_room = select_room v k;
  offering_room = offer_room v k;
  pulling_room = pull_room v k;
  selecting_rises = λ now. rises_with v (selected (cluster_times v.setup v.number) (moment_at v now) v.flat) (pick_of v now)
      (selected_reaches (cluster_times v.setup v.number) (moment_at v now) v.flat).rises;
}
