-- Which entry lies in a slot and has an arrival, one row after the other.
use Rattle.std.proofs.Common.{◌≡◌, ℕ, suc, ◌+◌, ◌<◌, ◌==◌, true, false, ◌&&◌, cond, List, drop, drop-cons, get_or, length, Option, Some, sym, ap, ◌∙◌, add-one}
use Rattle.std.proofs.lemmas.Bool.{cond-false, cond-true}
use Rattle.flat_policy.specs.Policy.Clusters.{standing_among}
use Rattle.flat_policy.specs.Policy.Queue.{Queued}
use Rattle.plain_cluster.specs.Entries.{Slotted, entries_of, entry_at, slots_of}
use Rattle.plain_cluster.proofs.Slots.{entry_there}

abbrev pub standing_in : ℕ → ℕ → List Slotted → Option Queued
standing_in slot arrival rows = standing_among slot arrival (entries_of rows) (slots_of rows)

here_or_later : (slot arrival : ℕ) (rows : List Slotted) (i : ℕ) (x : Slotted) → i < length rows → x ≡ get_or rows i x
    → standing_in slot arrival (drop i rows) ≡ cond ((x.slot == slot) && (x.entry.arrival == arrival)) (Some x.entry) (standing_in slot arrival (drop (i + 1) rows))
here_or_later slot arrival rows i x within is =
    ap (standing_in slot arrival) (drop-cons rows i x within)
    ∙ (ap (λ (r : Slotted). cond ((r.slot == slot) && (r.entry.arrival == arrival)) (Some r.entry) (standing_in slot arrival (drop (suc i) rows))) (sym is)
    ∙ ap (λ n. cond ((x.slot == slot) && (x.entry.arrival == arrival)) (Some x.entry) (standing_in slot arrival (drop n rows))) (sym (add-one i)))

pub stands_here : (slot arrival : ℕ) (rows : List Slotted) (i : ℕ) (x : Slotted) → i < length rows → x ≡ get_or rows i x → ((x.slot == slot) && (x.entry.arrival == arrival)) ≡ true
    → standing_in slot arrival (drop i rows) ≡ standing_in slot arrival rows → entry_at rows (Some i) ≡ standing_in slot arrival rows
stands_here slot arrival rows i x within is here so =
    entry_there rows i x within is
    ∙ (sym (here_or_later slot arrival rows i x within is ∙ cond-true ((x.slot == slot) && (x.entry.arrival == arrival)) (Some x.entry) (standing_in slot arrival (drop (i + 1) rows)) here) ∙ so)

pub stands_later : (slot arrival : ℕ) (rows : List Slotted) (i : ℕ) (x : Slotted) → i < length rows → x ≡ get_or rows i x → ((x.slot == slot) && (x.entry.arrival == arrival)) ≡ false
    → standing_in slot arrival (drop i rows) ≡ standing_in slot arrival rows → standing_in slot arrival (drop (i + 1) rows) ≡ standing_in slot arrival rows
stands_later slot arrival rows i x within is other so =
    sym (here_or_later slot arrival rows i x within is ∙ cond-false ((x.slot == slot) && (x.entry.arrival == arrival)) (Some x.entry) (standing_in slot arrival (drop (i + 1) rows)) other) ∙ so
