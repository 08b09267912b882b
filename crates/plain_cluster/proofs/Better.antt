-- The better of the best entry so far and one more, by place.
use Rattle.std.proofs.Common.{◌≡◌, ℕ, ◌<◌, Bool, true, false, cond, List, get_or, length, Option, Some, sym, ap, ◌∙◌}
use Rattle.std.proofs.lemmas.Bool.{cond-false, cond-true}
use Rattle.flat_policy.specs.Laws.Choice.{better}
use Rattle.flat_policy.specs.Policy.Queue.{Queued}
use Rattle.plain_cluster.specs.Entries.{Slotted, entry_at}
use Rattle.plain_cluster.proofs.Slots.{entry_is, entry_there}

better_by : (before : Queued → Queued → Bool) (rows : List Slotted) (place best : ℕ) (x y : Slotted) (first : Option ℕ) (e : Queued) → best < length rows → x ≡ get_or rows place x → y ≡ get_or rows best y → first ≡ Some best
    → entry_at rows (Some place) ≡ Some e → better before (entry_at rows first) e ≡ cond (before x.entry y.entry) (Some e) (Some y.entry)
better_by before rows place best x y first e within here there is h =
    ap (λ (f : Option ℕ). better before (entry_at rows f) e) is
    ∙ (ap (λ (o : Option Queued). better before o e) (entry_there rows best y within there)
    ∙ ap (λ (z : Queued). cond (before z y.entry) (Some e) (Some y.entry)) (sym (entry_is rows place x e here h)))

-- the best so far stays
pub best_stays : (before : Queued → Queued → Bool) (rows : List Slotted) (place best : ℕ) (x y : Slotted) (first : Option ℕ) (e : Queued) → best < length rows → x ≡ get_or rows place x → y ≡ get_or rows best y → first ≡ Some best
    → entry_at rows (Some place) ≡ Some e → before x.entry y.entry ≡ false → entry_at rows (Some best) ≡ better before (entry_at rows first) e
best_stays before rows place best x y first e within here there is h late =
    entry_there rows best y within there
    ∙ sym (better_by before rows place best x y first e within here there is h ∙ cond-false (before x.entry y.entry) (Some e) (Some y.entry) late)

-- one more is better
pub best_goes : (before : Queued → Queued → Bool) (rows : List Slotted) (place best : ℕ) (x y : Slotted) (first : Option ℕ) (e : Queued) → best < length rows → x ≡ get_or rows place x → y ≡ get_or rows best y → first ≡ Some best
    → entry_at rows (Some place) ≡ Some e → before x.entry y.entry ≡ true → entry_at rows (Some place) ≡ better before (entry_at rows first) e
best_goes before rows place best x y first e within here there is h soon =
    h ∙ sym (better_by before rows place best x y first e within here there is h ∙ cond-true (before x.entry y.entry) (Some e) (Some y.entry) soon)
