-- What holds of a queue after each move, and which entries stand in it.
use Rattle.std.proofs.Common.{◌≡◌, ℕ, ◌==◌, Bool, not, ◌||◌, cond, List, [], ◌∷◌, ◌++◌, Option, Some, None, is_some, refl, sym, ap, ◌∙◌}
use Rattle.std.proofs.lemmas.Bool.{cond_both}
use Rattle.sched_base.specs.declared.Facts.{Facts}
use Rattle.bucket_tables.specs.declared.Lane.{Lane}
use Rattle.flat_policy.specs.declared.lanes.Kind.{Kind}
use Rattle.flat_policy.specs.declared.setup.Times.{Times}
use Rattle.flat_policy.specs.Policy.Moves.{clutch_has_entries, entered, new_entry, removed, removed_by_selection, selected_by, settled_thread, turn_on_entering, turn_on_leaving, turn_on_selection, with_entry, with_next_turn, without, without_entry, without_turn}
use Rattle.flat_policy.specs.Policy.Precedence.{clutch_priority}
use Rattle.flat_policy.specs.Policy.Queue.{Clutch, Flat, Queued, clutch_of}
use Rattle.flat_policy.specs.Policy.Windows.{Choice, windows_after}

-- what holds of a queue before the turn of its clutch bucket, and after each turn that it may take, holds after the move
pub after_entering : (ts : List Times) (t : Facts) (head : Bool) (now : ℕ) (s : Flat) (P : Flat → Type 0) → P (with_entry ts t head now s) → P (with_next_turn (clutch_of t) (with_entry ts t head now s)) → P (entered ts t head now s)
after_entering ts t head now s P same next =
    let after : Flat = with_entry ts t head now s in
    let k : Clutch = clutch_of t in
    cond_both (is_some t.bound) after (turn_on_entering s k after) P (λ h. same)
    (λ h. cond_both (not (clutch_has_entries s k) || not (clutch_priority s k == clutch_priority after k)) (with_next_turn k after) after P (λ e. next) (λ e. same))

pub after_removal : (e : Queued) (now : ℕ) (s : Flat) (P : Flat → Type 0) → P (without_entry e now s) → P (with_next_turn (clutch_of e.facts) (without_entry e now s)) → P (without_turn (clutch_of e.facts) (without_entry e now s)) → P (removed e now s)
after_removal e now s P same next none =
    let after : Flat = without_entry e now s in
    let k : Clutch = clutch_of e.facts in
    let alike : Bool = clutch_priority s k == clutch_priority after k in
    cond_both (is_some e.facts.bound) after (turn_on_leaving s k after) P (λ h. same)
    (λ h. cond_both (not (clutch_has_entries after k)) (without_turn k after) (cond alike after (with_next_turn k after)) P (λ f. none)
    (λ f. cond_both alike after (with_next_turn k after) P (λ g. same) (λ g. next)))

pub after_selection : (e : Queued) (now : ℕ) (s : Flat) (P : Flat → Type 0) → P (without_entry e now s) → P (with_next_turn (clutch_of e.facts) (without_entry e now s)) → P (without_turn (clutch_of e.facts) (without_entry e now s)) → P (removed_by_selection e now s)
after_selection e now s P same next none =
    let after : Flat = without_entry e now s in
    let k : Clutch = clutch_of e.facts in
    cond_both (is_some e.facts.bound) after (turn_on_selection k after) P (λ h. same)
    (λ h. cond_both (clutch_has_entries after k) (with_next_turn k after) (without_turn k after) P (λ f. next) (λ f. none))

pub entered_entries : (ts : List Times) (t : Facts) (head : Bool) (now : ℕ) (s : Flat) → (entered ts t head now s).entries ≡ s.entries ++ new_entry s (settled_thread now t) head ∷ []
entered_entries ts t head now s =
    after_entering ts t head now s (λ (u : Flat). u.entries ≡ s.entries ++ new_entry s (settled_thread now t) head ∷ []) refl refl

pub removed_entries : (e : Queued) (now : ℕ) (s : Flat) → (removed e now s).entries ≡ without e.arrival s.entries
removed_entries e now s = after_removal e now s (λ (u : Flat). u.entries ≡ without e.arrival s.entries) refl refl refl

removed_by_selection_entries : (e : Queued) (now : ℕ) (s : Flat) → (removed_by_selection e now s).entries ≡ without e.arrival s.entries
removed_by_selection_entries e now s = after_selection e now s (λ (u : Flat). u.entries ≡ without e.arrival s.entries) refl refl refl

windows_entries : (ts : List Times) (now : ℕ) (kind : Option Kind) (at : Lane) (s : Flat) → (windows_after ts now kind at s).entries ≡ s.entries
windows_entries ts now None at s = refl
windows_entries ts now (Some kind) at s = refl

-- the entries without one that may be there
abbrev pub without_some : Option Queued → List Queued → List Queued
without_some None es = es
without_some (Some e) es = without e.arrival es

-- a choice without a pick, or a pick without a choice, doesn't come about
pub selected_by_entries : (ts : List Times) (now : ℕ) (s : Flat) (o : Option Choice) (picked : Option Queued) → (o ≡ None → picked ≡ None) → (selected_by ts now s o picked).entries ≡ without_some picked s.entries
selected_by_entries ts now s (Some c) (Some e) h = windows_entries ts now c.kind c.lane (removed_by_selection e now s) ∙ removed_by_selection_entries e now s
selected_by_entries ts now s (Some c) None h = refl
selected_by_entries ts now s None picked h = ap (λ p. without_some p s.entries) (sym (h refl))
