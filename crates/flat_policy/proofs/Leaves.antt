-- Leaving a queue, by a selection or otherwise, keeps it well-formed.
use Rattle.std.proofs.Common.{◌≡◌, ℕ, ◌<◌, ◌==◌, Bool, true, false, not, cond, Contains, List, is_some, refl, sym, ap, ◌∙◌, eqb-true}
use Rattle.std.specs.List.{list_any}
use Rattle.std.proofs.lemmas.Bool.{cond_both, false≢true, false_from_ne_true, not-false, not-true, not_from_false}
use Rattle.flat_policy.specs.Policy.Moves.{clutch_has_entries, removed, removed_by_selection, turn_on_leaving, turn_on_selection, with_next_turn, without, without_entry, without_turn}
use Rattle.flat_policy.specs.Policy.Precedence.{clutch_priority}
use Rattle.flat_policy.specs.Policy.Queue.{Clutch, Flat, Queued, clutch_of, in_clutch}
use Rattle.flat_policy.specs.Policy.WellFormed.{ArrivalsRise}
use Rattle.flat_policy.proofs.Buckets.{in_own_clutch}
use Rattle.flat_policy.proofs.Enters.{bound_in_none, not_in_other}
use Rattle.flat_policy.proofs.Entries.{each_member, same_from_arrival}
use Rattle.flat_policy.proofs.Members.{any_from_member, filter_has, member_from_any, member_of_filter}
use Rattle.flat_policy.proofs.Parts.{PartsOf, filter_fits, turn_in}
use Rattle.flat_policy.proofs.Wholes.{PartsBut, any_of_filter, whole_as_is, whole_with_next, whole_without}

pub same_bool : (a b : Bool) → (a ≡ true → b ≡ true) → (b ≡ true → a ≡ true) → a ≡ b
same_bool true b f g = sym (f refl)
same_bool false b f g = sym (false_from_ne_true b (λ t. false≢true (g t)))

-- an entry stays unless it is the one that leaves
pub stays : (es : List Queued) → ArrivalsRise es → (e f : Queued) → Contains es e → Contains es f → (f ≡ e → ⊥) → Contains (without e.arrival es) f
stays es rise e f ce cf other =
    filter_has (λ (g : Queued). not (g.arrival == e.arrival)) es f cf
    (not_from_false (f.arrival == e.arrival)
    (false_from_ne_true (f.arrival == e.arrival) (λ t. other (same_from_arrival es rise f e cf ce (eqb-true f.arrival e.arrival t)))))

pub stood : (es : List Queued) (arrival : ℕ) (f : Queued) → Contains (without arrival es) f → Contains es f
stood es arrival f c = (member_of_filter (λ (g : Queued). not (g.arrival == arrival)) es f c).0

-- a clutch bucket that the entry does not stand in keeps its entries
one_less_any : (es : List Queued) → ArrivalsRise es → (e : Queued) → Contains es e → (k : Clutch) → in_clutch k e ≡ false → list_any (in_clutch k) es ≡ list_any (in_clutch k) (without e.arrival es)
one_less_any es rise e c k h =
    same_bool (list_any (in_clutch k) es) (list_any (in_clutch k) (without e.arrival es))
    (λ t. let m = member_from_any (in_clutch k) es t in
    any_from_member (in_clutch k) (without e.arrival es) m.0
    (stays es rise e m.0 c m.1 (λ is. false≢true (sym h ∙ (ap (in_clutch k) (sym is) ∙ m.2)))) m.2)
    (λ t. let m = member_from_any (in_clutch k) (without e.arrival es) t in
    any_from_member (in_clutch k) es m.0 (stood es e.arrival m.0 m.1) m.2)

without_but : (groups : ℕ) (e : Queued) (now : ℕ) (s : Flat) → PartsOf groups s → Contains s.entries e → PartsBut groups (clutch_of e.facts) (without_entry e now s)
without_but groups e now s p c = record {
  group = each_member (λ (f : Queued). f.facts.group < groups) s.entries p.entries_fit.grouped e c;
  entries_fit = filter_fits groups s.next_arrival (λ (f : Queued). not (f.arrival == e.arrival)) s.entries p.entries_fit;
  turns_fit = p.turns_fit;
  turns_stand = λ k other gk. p.turns_stand k gk ∙ one_less_any s.entries p.entries_fit.rise e c k (not_in_other e k other);
  spans_fit = p.spans_fit;
  ten = p.ten;
}

without_bound : (groups : ℕ) (e : Queued) (now : ℕ) (s : Flat) → PartsOf groups s → Contains s.entries e → is_some e.facts.bound ≡ true → PartsOf groups (without_entry e now s)
without_bound groups e now s p c bound = record {
  entries_fit = filter_fits groups s.next_arrival (λ (f : Queued). not (f.arrival == e.arrival)) s.entries p.entries_fit;
  turns_fit = p.turns_fit;
  turns_stand = λ k gk. p.turns_stand k gk ∙ one_less_any s.entries p.entries_fit.rise e c k (bound_in_none e k bound);
  spans_fit = p.spans_fit;
  ten = p.ten;
}

-- what the test of a clutch bucket's entries tells
filled_is : (k : Clutch) (s : Flat) (b : Bool) → clutch_has_entries s k ≡ b → list_any (in_clutch k) s.entries ≡ b
filled_is k s b h = sym (any_of_filter (in_clutch k) s.entries) ∙ h

-- the turn stands where entries remain, since the entry itself stood there
turn_remains : (groups : ℕ) (e : Queued) (now : ℕ) (s : Flat) → PartsOf groups s → Contains s.entries e → is_some e.facts.bound ≡ false → list_any (in_clutch (clutch_of e.facts)) (without_entry e now s).entries ≡ true → is_some (turn_in s.turns (clutch_of e.facts)) ≡ list_any (in_clutch (clutch_of e.facts)) (without_entry e now s).entries
turn_remains groups e now s p c free h =
    let k : Clutch = clutch_of e.facts in
    p.turns_stand k (each_member (λ (f : Queued). f.facts.group < groups) s.entries p.entries_fit.grouped e c)
    ∙ (any_from_member (in_clutch k) s.entries e c (in_own_clutch e free) ∙ sym h)

leaving_fits : (groups : ℕ) (e : Queued) (now : ℕ) (s : Flat) → PartsOf groups s → Contains s.entries e → is_some e.facts.bound ≡ false → PartsOf groups (turn_on_leaving s (clutch_of e.facts) (without_entry e now s))
leaving_fits groups e now s p c free =
    let k : Clutch = clutch_of e.facts in
    let after : Flat = without_entry e now s in
    let but = without_but groups e now s p c in
    let same : Bool = clutch_priority s k == clutch_priority after k in
    cond_both (not (clutch_has_entries after k)) (without_turn k after) (cond same after (with_next_turn k after)) (PartsOf groups)
    (λ e. whole_without groups k after but (filled_is k after false (not-true (clutch_has_entries after k) e)))
    (λ h. let filled = filled_is k after true (not-false (clutch_has_entries after k) h) in
    cond_both same after (with_next_turn k after) (PartsOf groups)
    (λ f. whole_as_is groups k after but (turn_remains groups e now s p c free filled))
    (λ f. whole_with_next groups k after but filled))

selection_fits : (groups : ℕ) (e : Queued) (now : ℕ) (s : Flat) → PartsOf groups s → Contains s.entries e → PartsOf groups (turn_on_selection (clutch_of e.facts) (without_entry e now s))
selection_fits groups e now s p c =
    let k : Clutch = clutch_of e.facts in
    let after : Flat = without_entry e now s in
    let but = without_but groups e now s p c in
    cond_both (clutch_has_entries after k) (with_next_turn k after) (without_turn k after) (PartsOf groups)
    (λ h. whole_with_next groups k after but (filled_is k after true h))
    (λ h. whole_without groups k after but (filled_is k after false h))

pub removed_fits : (groups : ℕ) (e : Queued) (now : ℕ) (s : Flat) → PartsOf groups s → Contains s.entries e → PartsOf groups (removed e now s)
removed_fits groups e now s p c =
    let after : Flat = without_entry e now s in
    cond_both (is_some e.facts.bound) after (turn_on_leaving s (clutch_of e.facts) after) (PartsOf groups)
    (λ h. without_bound groups e now s p c h)
    (λ h. leaving_fits groups e now s p c h)

pub removed_by_selection_fits : (groups : ℕ) (e : Queued) (now : ℕ) (s : Flat) → PartsOf groups s → Contains s.entries e → PartsOf groups (removed_by_selection e now s)
removed_by_selection_fits groups e now s p c =
    let after : Flat = without_entry e now s in
    cond_both (is_some e.facts.bound) after (turn_on_selection (clutch_of e.facts) after) (PartsOf groups)
    (λ h. without_bound groups e now s p c h)
    (λ h. selection_fits groups e now s p c)
