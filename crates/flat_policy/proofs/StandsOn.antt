-- Threads go on standing in their slots.
use Rattle.std.proofs.Common.{◌≡◌, ◌≢◌, ℕ, ◌==◌, ◌&&◌, Bool, true, false, not, Contains, List, [], ◌∷◌, ◌++◌, length, map, Option, Some, None, refl, sym, ap, ◌∙◌, subst, inl, inr, arith, ap₂, cond, eq-eqb, eqb-true}
use Rattle.std.proofs.lemmas.Bool.{and_parts, cases_Bool, cond-false, cond-true, cond_both, ne_eqb}
use Rattle.std.proofs.lemmas.Option.{none-some, same_Some}
use Rattle.sched_base.specs.declared.Facts.{Facts}
use Rattle.flat_policy.specs.Laws.Clusters.{KeepsStanding}
use Rattle.flat_policy.specs.Policy.Clusters.{ClusterView, IsCluster, IsOther, NameStands, after_offer, after_pull, after_refresh, after_select, entered_in, moment_at, offer_of, pick_of, slots_without, standing_among, without_some}
use Rattle.flat_policy.specs.Policy.ClusterSteps.{flat_after_offer}
use Rattle.flat_policy.specs.Policy.Moves.{new_entry, pick, removed, selected, settled_thread, without}
use Rattle.flat_policy.specs.Policy.Offer.{mask_between}
use Rattle.flat_policy.specs.Policy.Queue.{Flat, Queued}
use Rattle.flat_policy.specs.Policy.Refresh.{is_ui, repriced}
use Rattle.flat_policy.specs.Policy.Setup.{cluster_times, group_count, migrates}
use Rattle.flat_policy.proofs.After.{entered_entries, removed_entries, without_some as left_by}
use Rattle.flat_policy.proofs.Entries.{same_from_arrival}
use Rattle.flat_policy.proofs.Kept.{after_offer_entries, offered_stands, pick_stands, selected_entries}
use Rattle.flat_policy.proofs.Members.{contains_here, contains_later}
use Rattle.flat_policy.proofs.Refreshed.{refreshed_entries}

-- whether an entry lies in a slot and has an arrival
abbrev is_here : ℕ → ℕ → Queued → ℕ → Bool
is_here slot arrival f k = (k == slot) && (f.arrival == arrival)

-- a test is false where its second part is
right_false : (a b : Bool) → b ≡ false → (a && b) ≡ false
right_false true b h = h
right_false false b h = refl

-- the entry that stands somewhere is a member with that arrival
stands_member : (slot arrival : ℕ) (es : List Queued) (ks : List ℕ) (e : Queued) → standing_among slot arrival es ks ≡ Some e → Contains es e × (e.arrival ≡ arrival)
stands_member slot arrival [] ks e is = absurd (none-some e is)
stands_member slot arrival (f ∷ fs) [] e is = absurd (none-some e is)
stands_member slot arrival (f ∷ fs) (k ∷ ks) e is =
    let rest : Option Queued = standing_among slot arrival fs ks in
    elim (cases_Bool (is_here slot arrival f k)) [
      | inl here ↦ (
          let same : f ≡ e = same_Some f e (sym (cond-true (is_here slot arrival f k) (Some f) rest here) ∙ is) in (
            subst (Contains (f ∷ fs)) same (contains_here f fs),
            subst (λ (q : Queued). q.arrival ≡ arrival) same (eqb-true f.arrival arrival (and_parts (k == slot) (f.arrival == arrival) here).1),
          ))
      | inr other ↦ (
          let m = stands_member slot arrival fs ks e (sym (cond-false (is_here slot arrival f k) (Some f) rest other) ∙ is) in
          (contains_later f fs e m.0, m.1))
    ]

-- and it goes on standing there where more entries follow
stands_before : (slot arrival : ℕ) (es fs : List Queued) (ks js : List ℕ) (e : Queued) → standing_among slot arrival es ks ≡ Some e → standing_among slot arrival (es ++ fs) (ks ++ js) ≡ Some e
stands_before slot arrival [] fs ks js e is = absurd (none-some e is)
stands_before slot arrival (g ∷ es) fs [] js e is = absurd (none-some e is)
stands_before slot arrival (g ∷ es) fs (k ∷ ks) js e is =
    let rest : Option Queued = standing_among slot arrival es ks in
    let more : Option Queued = standing_among slot arrival (es ++ fs) (ks ++ js) in
    elim (cases_Bool (is_here slot arrival g k)) [
      | inl here ↦ cond-true (is_here slot arrival g k) (Some g) more here ∙ (sym (cond-true (is_here slot arrival g k) (Some g) rest here) ∙ is)
      | inr other ↦ cond-false (is_here slot arrival g k) (Some g) more other
          ∙ stands_before slot arrival es fs ks js e (sym (cond-false (is_here slot arrival g k) (Some g) rest other) ∙ is)
    ]

-- an entry in a new slot stands there
stands_last : (slot : ℕ) (es : List Queued) (ks : List ℕ) (e : Queued) → length ks ≡ length es → ¬ Contains ks slot → standing_among slot e.arrival (es ++ e ∷ []) (ks ++ slot ∷ []) ≡ Some e
stands_last slot [] [] e long free =
    cond-true (is_here slot e.arrival e slot) (Some e) None (ap (λ b. b && (e.arrival == e.arrival)) (eq-eqb slot slot refl) ∙ eq-eqb e.arrival e.arrival refl)
stands_last slot [] (k ∷ ks) e long free = absurd (omega (arith, long))
stands_last slot (g ∷ es) [] e long free = absurd (omega (arith, long))
stands_last slot (g ∷ es) (k ∷ ks) e long free =
    let other : (k == slot) ≡ false = ne_eqb k slot (λ same. free (subst (Contains (k ∷ ks)) same (contains_here k ks))) in
    cond-false (is_here slot e.arrival g k) (Some g) (standing_among slot e.arrival (es ++ e ∷ []) (ks ++ slot ∷ [])) (ap (λ b. b && (g.arrival == e.arrival)) other)
    ∙ stands_last slot es ks e (omega (arith, long)) (λ c. free (contains_later k ks slot c))

-- an entry of another arrival leaves
stands_without : (slot arrival gone : ℕ) (es : List Queued) (ks : List ℕ) (e : Queued) → arrival ≢ gone → standing_among slot arrival es ks ≡ Some e → standing_among slot arrival (without gone es) (slots_without gone es ks) ≡ Some e
stands_without slot arrival gone [] ks e other is = absurd (none-some e is)
stands_without slot arrival gone (f ∷ fs) [] e other is = absurd (none-some e is)
stands_without slot arrival gone (f ∷ fs) (k ∷ ks) e other is =
    let b : Bool = is_here slot arrival f k in
    let rest : Option Queued = standing_among slot arrival fs ks in
    let es : List Queued = without gone fs in
    let js : List ℕ = slots_without gone fs ks in
    elim (cases_Bool (f.arrival == gone)) [
      | inl leaves ↦ (
          let past : b ≡ false = right_false (k == slot) (f.arrival == arrival) (ne_eqb f.arrival arrival (λ same. other (sym same ∙ eqb-true f.arrival gone leaves))) in
          ap₂ (standing_among slot arrival)
          (cond-false (not (f.arrival == gone)) (f ∷ es) es (ap not leaves))
          (cond-true (f.arrival == gone) js (k ∷ js) leaves)
          ∙ stands_without slot arrival gone fs ks e other (sym (cond-false b (Some f) rest past) ∙ is))
      | inr stays ↦ ap₂ (standing_among slot arrival)
          (cond-true (not (f.arrival == gone)) (f ∷ es) es (ap not stays))
          (cond-false (f.arrival == gone) js (k ∷ js) stays)
          ∙ elim (cases_Bool b) [
            | inl here ↦ cond-true b (Some f) (standing_among slot arrival es js) here ∙ (sym (cond-true b (Some f) rest here) ∙ is)
            | inr past ↦ cond-false b (Some f) (standing_among slot arrival es js) past
                ∙ stands_without slot arrival gone fs ks e other (sym (cond-false b (Some f) rest past) ∙ is)
          ]
    ]

-- every entry changes, and keeps its arrival
stands_mapped : (slot arrival : ℕ) (change : Queued → Queued) (keeps : (q : Queued) → (change q).arrival ≡ q.arrival) (es : List Queued) (ks : List ℕ) (e : Queued)
    → standing_among slot arrival es ks ≡ Some e → standing_among slot arrival (map change es) ks ≡ Some (change e)
stands_mapped slot arrival change keeps [] ks e is = absurd (none-some e is)
stands_mapped slot arrival change keeps (f ∷ fs) [] e is = absurd (none-some e is)
stands_mapped slot arrival change keeps (f ∷ fs) (k ∷ ks) e is =
    let b : Bool = is_here slot arrival f k in
    let rest : Option Queued = standing_among slot arrival fs ks in
    let more : Option Queued = standing_among slot arrival (map change fs) ks in
    ap (λ n. cond ((k == slot) && (n == arrival)) (Some (change f)) more) (keeps f)
    ∙ elim (cases_Bool b) [
      | inl here ↦ cond-true b (Some (change f)) more here ∙ ap (λ (q : Queued). Some (change q)) (same_Some f e (sym (cond-true b (Some f) rest here) ∙ is))
      | inr past ↦ cond-false b (Some (change f)) more past
          ∙ stands_mapped slot arrival change keeps fs ks e (sym (cond-false b (Some f) rest past) ∙ is)
    ]

-- a name stands on where one entry of another name left
stands_left : (v : ClusterView) (s : Flat) (o : Option Queued) → IsCluster v
    → ((e : Queued) → o ≡ Some e → Contains v.flat.entries e × (s.entries ≡ without e.arrival v.flat.entries))
    → (o ≡ None → s.entries ≡ v.flat.entries) → (slot arrival name : ℕ) → IsOther name o → NameStands v slot arrival name → NameStands (without_some o s v) slot arrival name
stands_left v s None k some none slot arrival name other n =
    (n.0, ap (λ es. standing_among slot arrival es v.slots) (none refl) ∙ n.1, n.2)
stands_left v s (Some e) k some none slot arrival name other n =
    let there = some e refl in
    let m = stands_member slot arrival v.flat.entries v.slots n.0 n.1 in
    let apart : arrival ≢ e.arrival =
    λ same. other (ap (λ (q : Queued). q.facts.name) (sym (same_from_arrival v.flat.entries k.fits.formed.arrivals_rise n.0 e m.0 there.0 (m.1 ∙ same))) ∙ n.2) in (
      n.0,
      ap (λ es. standing_among slot arrival es (slots_without e.arrival v.flat.entries v.slots)) there.1
          ∙ stands_without slot arrival e.arrival v.flat.entries v.slots n.0 apart n.1,
      n.2,
    )

enter_stands : (v : ClusterView) (t : Facts) (head : Bool) (now slot other arrival name : ℕ) → NameStands v other arrival name → NameStands (entered_in v t head now slot) other arrival name
enter_stands v t head now slot other arrival name n =
    let m = moment_at v now in
    let e : Queued = new_entry v.flat (settled_thread m t) head in (
      n.0,
      ap (λ es. standing_among other arrival es (v.slots ++ slot ∷ [])) (entered_entries (cluster_times v.setup v.number) t head m v.flat)
          ∙ stands_before other arrival v.flat.entries (e ∷ []) v.slots (slot ∷ []) n.0 n.1,
      n.2,
    )

entered_stands : (v : ClusterView) → IsCluster v → (t : Facts) (head : Bool) (now slot : ℕ) → ¬ Contains v.slots slot → NameStands (entered_in v t head now slot) slot v.flat.next_arrival t.name
entered_stands v k t head now slot free =
    let m = moment_at v now in
    let e : Queued = new_entry v.flat (settled_thread m t) head in (
      e,
      ap (λ es. standing_among slot e.arrival es (v.slots ++ slot ∷ [])) (entered_entries (cluster_times v.setup v.number) t head m v.flat)
          ∙ stands_last slot v.flat.entries v.slots e k.slot_each free,
      refl,
    )

select_stands : (v : ClusterView) → IsCluster v → (now slot arrival name : ℕ) → IsOther name (pick_of v now) → NameStands v slot arrival name → NameStands (after_select v now) slot arrival name
select_stands v k now =
    let m = moment_at v now in
    let ts = cluster_times v.setup v.number in
    let e = selected_entries ts m v.flat in
    stands_left v (selected ts m v.flat) (pick ts m v.flat) k
    (λ q h. (pick_stands ts m v.flat q h, e ∙ ap (λ o. left_by o v.flat.entries) h))
    (λ h. e ∙ ap (λ o. left_by o v.flat.entries) h)

offer_stands : (v : ClusterView) → IsCluster v → (to now slot arrival name : ℕ) → IsOther name (offer_of v to) → NameStands v slot arrival name → NameStands (after_offer v to now) slot arrival name
offer_stands v k to now =
    let m = moment_at v now in
    let o : Option Queued = offer_of v to in
    let s : Flat = flat_after_offer m v.flat o in
    let e = after_offer_entries m v.flat o in
    let stands : (q : Queued) → o ≡ Some q → Contains v.flat.entries q =
    λ q h. (offered_stands to (migrates v.setup v.number to) (mask_between v.setup v.number to v.flat.on) v.flat q h).0 in
    stands_left v s o k
    (λ q h. (stands q h, e ∙ ap (λ o. left_by o v.flat.entries) h))
    (λ h. e ∙ ap (λ o. left_by o v.flat.entries) h)

pull_stands : (v : ClusterView) → IsCluster v → (e : Queued) (now slot arrival name : ℕ) → Contains v.flat.entries e → e.facts.name ≢ name → NameStands v slot arrival name → NameStands (after_pull v (Some e) now) slot arrival name
pull_stands v k e now slot arrival name c other n =
    let m = moment_at v now in
    stands_left v (removed e m v.flat) (Some e) k
    (λ q h. (subst (Contains v.flat.entries) (same_Some e q h) c, removed_entries e m v.flat ∙ ap (λ (f : Queued). without f.arrival v.flat.entries) (same_Some e q h)))
    (λ h. absurd (none-some e (sym h))) slot arrival name other n

-- an entry that is priced anew keeps its arrival and its name
repriced_arrival : (s : Flat) (now : ℕ) (e : Queued) → (repriced s now e).arrival ≡ e.arrival
repriced_arrival s now e = cond_both (is_ui e.facts.bucket) e _ (λ (q : Queued). q.arrival ≡ e.arrival) (λ h. refl) (λ h. refl)

repriced_name : (s : Flat) (now : ℕ) (e : Queued) → (repriced s now e).facts.name ≡ e.facts.name
repriced_name s now e = cond_both (is_ui e.facts.bucket) e _ (λ (q : Queued). q.facts.name ≡ e.facts.name) (λ h. refl) (λ h. refl)

refresh_stands : (v : ClusterView) (now slot arrival name : ℕ) → NameStands v slot arrival name → NameStands (after_refresh v now) slot arrival name
refresh_stands v now slot arrival name n =
    let m = moment_at v now in (
      repriced v.flat m n.0,
      ap (λ es. standing_among slot arrival es v.slots) (refreshed_entries (group_count v.setup) v.flat m)
          ∙ stands_mapped slot arrival (repriced v.flat m) (repriced_arrival v.flat m) v.flat.entries v.slots n.0 n.1,
      repriced_name v.flat m n.0 ∙ n.2,
    )

pub stands_on : (v : ClusterView) → IsCluster v → KeepsStanding v
stands_on v k = record {
  entering = enter_stands v;
  entered = entered_stands v k;
  selecting = select_stands v k;
  offering = offer_stands v k;
  pulling = pull_stands v k;
  refreshing = refresh_stands v;
}
