-- The heap has the slots of the groups with a key, where a key goes and where one comes.
use Rattle.std.proofs.Common.{◌≡◌, ℕ, ◌<◌, List, Option, Some, None, is_some, length, slice_index, slice_index_or, slice_set, sym, ap, ◌∙◌, subst, inl, inr, arith, true}
use Rattle.std.proofs.lemmas.Bool.{cases_eq, false≢true}
use Rattle.std.proofs.lemmas.List.{get_or-set_other, get_or_read, length-set}
use Rattle.std.proofs.lemmas.Option.{none-some, same_Some}
use Rattle.link_arena.specs.Arena.{Arena, Revalues, value_at}
use Rattle.pairing_heap.specs.Heap.{AddsPair, Holds, Lacks, TakesPair, pairs_at, times_of}
use Rattle.pairing_heap.specs.Laws.{AddedIsHeld, AddsOneSlot, StaysWhereRevalued, TakenIsLacked, TakesOneSlot}
use Rattle.clutch_bucket.specs.KeptRanks.{AreKept, IsEntered, IsPlaced, key_of_ranked}
use Rattle.clutch_bucket.specs.Ranks.{unit_key_precedes}
use Rattle.clutch_bucket.specs.declared.ranks.Ranked.{Ranked}
use Rattle.clutch_bucket.specs.declared.ranks.UnitKey.{UnitKey}
use Rattle.clutch_bucket.proofs.Slots.{as_often, key_or_none, set_here, slots_apart, unlike_bare}

-- where the key of a group goes, and its slot with it
pub cleared : TakesOneSlot 0 key_of_ranked unit_key_precedes → TakenIsLacked 0 key_of_ranked unit_key_precedes
    → (keys : List (Option UnitKey)) (slots : List ℕ) (old new : Arena Ranked) (heap later : Option ℕ) (group : ℕ) → group < length keys → AreKept keys slots old heap
    → TakesPair 0 key_of_ranked unit_key_precedes old new heap later (slice_index slots group) → AreKept (slice_set keys group None) slots new later
cleared counts lacked keys slots old new heap later group within kept takes =
    let gone = slice_index slots group in
    let lacks = lacked old new heap later gone kept.stands takes in
    let counted : (slot : ℕ) → _ = counts old new heap later gone kept.stands takes in
    let size = length-set keys group None in
    record {
      sized = kept.sized ∙ sym size;
      stands = takes.stands;
      placed = λ g inside. (
          let was = kept.placed g (subst (λ (n : ℕ). g < n) size inside) in
          record { key = was.key; stored = takes.kept.values (slice_index slots g) ∙ was.stored });
      entered = λ g key is. elim (cases_eq g group) [
        | inl same ↦ absurd (none-some key (sym (set_here keys group g None within same) ∙ is))
        | inr apart ↦ (
            let was = kept.entered g key (sym (get_or-set_other keys group g None None apart) ∙ is) in
            let unlike = slots_apart old gone (slice_index slots g) group g (kept.placed group within) (record { key = key; stored = was.stored }) apart in
            let same = as_often gone (slice_index slots g) _ _ unlike (counted (slice_index slots g)) in
            record { held = subst (λ (n : ℕ). 0 < n) same was.held; stored = takes.kept.values (slice_index slots g) ∙ was.stored })
      ];
      bare = λ g inside is. elim (cases_eq g group) [
        | inl same ↦ subst (λ (i : ℕ). Lacks 0 key_of_ranked new later (slice_index slots i)) (sym same) lacks
        | inr apart ↦ (
            let was = kept.bare g (subst (λ (n : ℕ). g < n) size inside) (sym (get_or-set_other keys group g None None apart) ∙ is) in
            omega (arith, was, counted (slice_index slots g)))
      ];
      owned = λ slot held. (
          let before : Holds 0 key_of_ranked old heap slot = omega (arith, held, counted slot) in
          let was = kept.owned slot before in
          record { group = was.group; within = subst (λ (n : ℕ). was.group < n) (sym size) was.within; same = was.same });
    }

-- where the slot of a group without a key gets another value of the group
pub revalued : StaysWhereRevalued 0 key_of_ranked unit_key_precedes
    → (keys : List (Option UnitKey)) (slots : List ℕ) (old new : Arena Ranked) (heap : Option ℕ) (group : ℕ) (key : UnitKey) → group < length keys
    → slice_index_or keys group None ≡ None → AreKept keys slots old heap → Revalues old new (slice_index slots group) (record { key = key; group = group })
    → AreKept keys slots new heap
revalued law keys slots old new heap group key within bare kept revalues =
    let stays = law old new (slice_index slots group) (record { key = key; group = group }) revalues heap kept.stands (kept.bare group within bare) in
    let often : (slot : ℕ) → times_of (pairs_at 0 key_of_ranked new heap) slot ≡ times_of (pairs_at 0 key_of_ranked old heap) slot =
    λ slot. ap (λ (xs : List (UnitKey × ℕ)). times_of xs slot) stays.same in
    record {
      sized = kept.sized;
      stands = stays.stands;
      placed = λ g inside. elim (cases_eq g group) [
        | inl same ↦ subst (λ (i : ℕ). IsPlaced new (slice_index slots i) i) (sym same) (record { key = key; stored = revalues.here })
        | inr apart ↦ (
            let was = kept.placed g inside in
            record { key = was.key; stored = revalues.elsewhere (slice_index slots g) (slots_apart old _ _ group g (kept.placed group within) was apart) ∙ was.stored })
      ];
      entered = λ g k is. (
          let was = kept.entered g k is in
          let apart = slots_apart old (slice_index slots group) (slice_index slots g) group g (kept.placed group within) (record { key = k; stored = was.stored }) (unlike_bare keys group g k bare is) in
          record { held = subst (λ (n : ℕ). 0 < n) (sym (often (slice_index slots g))) was.held; stored = revalues.elsewhere (slice_index slots g) apart ∙ was.stored });
      bare = λ g inside is. often (slice_index slots g) ∙ kept.bare g inside is;
      owned = λ slot held. kept.owned slot (subst (λ (n : ℕ). 0 < n) (often slot) held);
    }

-- where a group gets a key that its slot has, and the slot comes into the heap
pub entered : AddsOneSlot 0 key_of_ranked unit_key_precedes → AddedIsHeld 0 key_of_ranked unit_key_precedes
    → (keys : List (Option UnitKey)) (slots : List ℕ) (old new : Arena Ranked) (heap later : Option ℕ) (group : ℕ) (key : UnitKey) → group < length keys
    → AreKept keys slots old heap → value_at old (slice_index slots group) ≡ Some (record { key = key; group = group })
    → AddsPair 0 key_of_ranked unit_key_precedes old new heap later (slice_index slots group) → AreKept (slice_set keys group (Some key)) slots new later
entered counts holds keys slots old new heap later group key within kept stored adds =
    let come = slice_index slots group in
    let live = ap is_some stored in
    let counted : (slot : ℕ) → _ = counts old new heap later come live adds in
    let size = length-set keys group (Some key) in
    record {
      sized = kept.sized ∙ sym size;
      stands = adds.stands;
      placed = λ g inside. (
          let was = kept.placed g (subst (λ (n : ℕ). g < n) size inside) in
          record { key = was.key; stored = adds.kept.values (slice_index slots g) ∙ was.stored });
      entered = λ g k is. elim (cases_eq g group) [
        | inl same ↦ (
            let keyed = same_Some key k (sym (set_here keys group g (Some key) within same) ∙ is) in
            let here : IsEntered new later come group key = record { held = holds old new heap later come live adds; stored = adds.kept.values come ∙ stored } in
            subst (λ (i : ℕ). IsEntered new later (slice_index slots i) i k) (sym same) (subst (λ (x : UnitKey). IsEntered new later come group x) keyed here))
        | inr apart ↦ (
            let was = kept.entered g k (sym (get_or-set_other keys group g (Some key) None apart) ∙ is) in
            record { held = omega (arith, was.held, counted (slice_index slots g)); stored = adds.kept.values (slice_index slots g) ∙ was.stored })
      ];
      bare = λ g inside is. elim (cases_eq g group) [
        | inl same ↦ absurd (none-some key (sym is ∙ set_here keys group g (Some key) within same))
        | inr apart ↦ (
            let before = subst (λ (n : ℕ). g < n) size inside in
            let unlike = slots_apart old come (slice_index slots g) group g (kept.placed group within) (kept.placed g before) apart in
            as_often come (slice_index slots g) _ _ unlike (counted (slice_index slots g))
            ∙ kept.bare g before (sym (get_or-set_other keys group g (Some key) None apart) ∙ is))
      ];
      owned = λ slot held. elim (cases_eq slot come) [
        | inl same ↦ record { group = group; within = subst (λ (n : ℕ). group < n) (sym size) within; same = sym same }
        | inr apart ↦ (
            let was = kept.owned slot (subst (λ (n : ℕ). 0 < n) (as_often come slot _ _ apart (counted slot)) held) in
            record { group = was.group; within = subst (λ (n : ℕ). was.group < n) (sym size) was.within; same = was.same })
      ];
    }

-- the slot of a group whose key was read is the heap's
pub held_where_read : (keys : List (Option UnitKey)) (slots : List ℕ) (arena : Arena Ranked) (heap : Option ℕ) (group slot : ℕ) (seen : Option UnitKey) → group < length keys
    → AreKept keys slots arena heap → seen ≡ slice_index_or keys group seen → is_some seen ≡ true → slot ≡ slice_index slots group → Holds 0 key_of_ranked arena heap slot
held_where_read keys slots arena heap group slot seen within kept read some at =
    let here = get_or_read keys group seen within read None in
    elim (key_or_none seen) [
      | inl none ↦ absurd (false≢true (sym (ap is_some none) ∙ some))
      | inr is ↦ subst (λ (s : ℕ). Holds 0 key_of_ranked arena heap s) (sym at) (kept.entered group is.0 (sym here ∙ is.1)).held
    ]

-- the slot that was read for a group
pub slot_read : (keys : List (Option UnitKey)) (slots : List ℕ) (arena : Arena Ranked) (heap : Option ℕ) (group slot : ℕ) → group < length keys
    → AreKept keys slots arena heap → slot ≡ slice_index_or slots group slot → slot ≡ slice_index slots group
slot_read keys slots arena heap group slot within kept read = get_or_read slots group slot (omega (arith, within, kept.sized)) read 0
