-- Each step at a cluster keeps its queue well-formed.
use Rattle.std.proofs.Common.{◌≡◌, ℕ, ◌≤◌, ◌==◌, Bool, true, not, ◌&&◌, cond, Contains, List, filter, length, Option, Some, None, option_and_then, refl, ap, ◌∙◌, arith}
use Rattle.std.proofs.lemmas.Bool.{and_from, or_left, or_right}
use Rattle.std.proofs.lemmas.List.Sums.{count_by-le-length, length-filter}
use Rattle.std.proofs.lemmas.Option.{option_and_then_some}
use Rattle.flat_policy.specs.declared.setup.Times.{Times}
use Rattle.flat_policy.specs.Policy.ClusterSteps.{flat_after_offer}
use Rattle.flat_policy.specs.Policy.Moves.{goes_before, pick, pick_in, selected}
use Rattle.flat_policy.specs.Policy.Offer.{first_there, foreign_before, is_masked, masked_before, may_take, offered, offered_foreign, offered_masked, prefers}
use Rattle.flat_policy.specs.Policy.Queue.{Flat, Queued}
use Rattle.flat_policy.specs.Policy.Windows.{Choice, chosen, expired, expired_window}
use Rattle.flat_policy.proofs.After.{removed_entries, selected_by_entries, without_some}
use Rattle.flat_policy.proofs.Choice.{is_unpreceded}
use Rattle.flat_policy.proofs.Happens.{cond_gives}
use Rattle.flat_policy.proofs.KeptLanes.{expired_keeps, map_keeps_lanes}
use Rattle.flat_policy.proofs.Leaves.{removed_fits}
use Rattle.flat_policy.proofs.Members.{member_of_filter}
use Rattle.flat_policy.proofs.Parts.{PartsOf}
use Rattle.flat_policy.proofs.Refreshes.{selected_by_fits}

-- the pick stands in the queue, and there is none without a choice
pub pick_stands : (ts : List Times) (now : ℕ) (s : Flat) (e : Queued) → pick ts now s ≡ Some e → Contains s.entries e
pick_stands ts now s e h =
    option_and_then_some (λ (c : Choice). pick_in (expired ts s now) c.lane) (chosen ts (expired ts s now)) e h
    (λ c is at. (is_unpreceded (goes_before (expired ts s now) c.lane) s.entries e at).member)

pub no_pick : (ts : List Times) (now : ℕ) (s : Flat) → chosen ts (expired ts s now) ≡ None → pick ts now s ≡ None
no_pick ts now s h = ap (option_and_then (λ (c : Choice). pick_in (expired ts s now) c.lane)) h

pub selected_entries : (ts : List Times) (now : ℕ) (s : Flat) → (selected ts now s).entries ≡ without_some (pick ts now s) s.entries
selected_entries ts now s = selected_by_entries ts now (expired ts s now) (chosen ts (expired ts s now)) (pick ts now s) (no_pick ts now s)

-- fewer entries remain than there were
pub fewer : (o : Option Queued) (es : List Queued) → length (without_some o es) ≤ length es
fewer None es = omega arith
fewer (Some e) es =
    let p : Queued → Bool = λ (f : Queued). not (f.arrival == e.arrival) in
    omega (arith, length-filter p es, count_by-le-length p es)

-- an offered entry stands in the queue
first_of_two : {X : Type 0} (a b : Option X) (x : X) (P : Type 0) → first_there a b ≡ Some x → (a ≡ Some x → P) → (b ≡ Some x → P) → P
first_of_two (Some y) b x P h f g = f h
first_of_two None b x P h f g = g h

pub offered_stands : (to : ℕ) (migrate : Bool) (mask : ℕ) (s : Flat) (e : Queued) → offered to migrate mask s ≡ Some e → Contains s.entries e × (may_take to migrate mask e.facts ≡ true)
offered_stands to migrate mask s e h =
    first_of_two (cond migrate (offered_foreign to s) None) (offered_masked mask s) e (Contains s.entries e × (may_take to migrate mask e.facts ≡ true)) h
    (λ f. let both = cond_gives migrate (offered_foreign to s) e f in
    let among = (is_unpreceded foreign_before (filter (λ (q : Queued). prefers to q.facts) s.entries) e both.1).member in
    let m = member_of_filter (λ (q : Queued). prefers to q.facts) s.entries e among in
    (m.0, or_left (migrate && prefers to e.facts) (is_masked mask e.facts) (and_from migrate (prefers to e.facts) both.0 m.1)))
    (λ f. let among = (is_unpreceded (masked_before s) (filter (λ (q : Queued). is_masked mask q.facts) s.entries) e f).member in
    let m = member_of_filter (λ (q : Queued). is_masked mask q.facts) s.entries e among in
    (m.0, or_right (migrate && prefers to e.facts) (is_masked mask e.facts) m.1))

pub expired_parts : (groups : ℕ) (ts : List Times) (s : Flat) (now : ℕ) → PartsOf groups s → PartsOf groups (expired ts s now)
expired_parts groups ts s now p = record {
  entries_fit = p.entries_fit;
  turns_fit = p.turns_fit;
  turns_stand = p.turns_stand;
  spans_fit = p.spans_fit;
  ten = map_keeps_lanes (expired_window ts now) (expired_keeps ts now) s.lanes ∙ p.ten;
}

pub selected_fits : (groups : ℕ) (ts : List Times) (now : ℕ) (s : Flat) → PartsOf groups s → PartsOf groups (selected ts now s)
selected_fits groups ts now s p =
    selected_by_fits groups ts now (expired ts s now) (chosen ts (expired ts s now)) (pick ts now s) (expired_parts groups ts s now p) (pick_stands ts now s)

pub after_offer_fits : (groups : ℕ) (now : ℕ) (s : Flat) (o : Option Queued) → PartsOf groups s → ((e : Queued) → o ≡ Some e → Contains s.entries e) → PartsOf groups (flat_after_offer now s o)
after_offer_fits groups now s None p among = p
after_offer_fits groups now s (Some e) p among = removed_fits groups e now s p (among e refl)

pub after_offer_entries : (now : ℕ) (s : Flat) (o : Option Queued) → (flat_after_offer now s o).entries ≡ without_some o s.entries
after_offer_entries now s None = refl
after_offer_entries now s (Some e) = removed_entries e now s
