-- An arena stays sound under each of its steps.
use Rattle.std.proofs.Common.{◌≡◌, ◌≢◌, ℕ, zero, suc, ◌+◌, ◌<◌, ◌≤◌, ◌^◌, List, [], ◌∷◌, ◌++◌, length, get_or, set, Option, Some, None, IsSome, is_some, slice_index, refl, sym, ap, ◌∙◌, inl, inr, arith, length-append, add-zero}
use Rattle.std.proofs.lemmas.Bool.{cases_eq}
use Rattle.std.proofs.lemmas.List.{get_or_append_left, get_or-append-add, get_or-set_other, get_or-set_same, length-set}
use Rattle.slab.specs.Slab.{Slab, get, with_value, slab_len, Updates}
use Rattle.slab.proofs.SlabLemmas.{Updates-with_value}
use Rattle.link_arena.specs.declared.arena.Cell.{Cell}
use Rattle.link_arena.specs.Sound.{IsSound}
use Rattle.link_arena.proofs.NodeLemmas.{count_by-same, count_by-set_more, count_by-set_less, count_by-set_same, last_of, within_from_some}

-- what holds of each listed number and of one more holds of each number of the longer list
listed_more : (P : ℕ → Type 0) (free : List ℕ) (key : ℕ) → ((k : ℕ) → k < length free → P (slice_index free k)) → P key → (k : ℕ) → k < length (free ++ key ∷ []) → P (slice_index (free ++ key ∷ []) k)
listed_more P [] key below here zero inside = here
listed_more P [] key below here (suc k) inside = absurd (omega arith)
listed_more P (x ∷ free) key below here zero inside = below 0 (omega arith)
listed_more P (x ∷ free) key below here (suc k) inside = listed_more P free key (λ j h. below (suc j) (omega arith)) here k (omega arith)

-- numbers that are apart stay so beside one that is none of them
apart_more : (free : List ℕ) (key : ℕ) → ((j k : ℕ) → j < k → k < length free → slice_index free j ≢ slice_index free k) → ((k : ℕ) → k < length free → slice_index free k ≢ key) → (j k : ℕ) → j < k → k < length (free ++ key ∷ []) → slice_index (free ++ key ∷ []) j ≢ slice_index (free ++ key ∷ []) k
apart_more free key apart fresh j k before inside =
    let longer = length-append free (key ∷ []) in
    elim (cases_eq k (length free)) [
      | inl last ↦
          let end : slice_index (free ++ key ∷ []) k ≡ key =
          ap (λ i. slice_index (free ++ key ∷ []) i) (last ∙ sym (add-zero (length free)))
          ∙ get_or-append-add free (key ∷ []) 0 0 in
          λ equal. fresh j (omega arith) (sym (get_or_append_left free (key ∷ []) 0 j (omega arith)) ∙ equal ∙ end)
      | inr other ↦
          λ equal. apart j k before (omega arith) (sym (get_or_append_left free (key ∷ []) 0 j (omega arith)) ∙ equal ∙ get_or_append_left free (key ∷ []) 0 k (omega arith))
    ]

module _ {V : Type 0} where
  -- a listed slot differs from one that has a value
  unlisted : (s : Slab Cell) (values : List (Option V)) (free : List ℕ) (capacity key : ℕ) (v : V) → IsSound s values free capacity → get_or values key None ≡ Some v → (k : ℕ) → k < length free → slice_index free k ≢ key
  unlisted s values free capacity key v sound stored k inside same =
      let e = sym (sound.vacant k inside) ∙ ap (λ x. get_or values x None) same ∙ stored in
      cc

  -- where a value is written to the list, each value has a cell still
  linked-set : (s : Slab Cell) (values : List (Option V)) (key : ℕ) (value : Option V) → ((k : ℕ) → IsSome (get_or values k None) → IsSome (get s k)) → IsSome (get s key) → (k : ℕ) → IsSome (get_or (set values key value) k None) → IsSome (get s k)
  linked-set s values key value linked present k some =
      elim (cases_eq k key) [
        | inl same ↦ ap (λ x. is_some (get s x)) same ∙ present
        | inr differs ↦ linked k (ap is_some (sym (get_or-set_other values key k value None differs)) ∙ some)
      ]

  -- links are written to a cell
  pub IsSound-relinked : (s : Slab Cell) (values : List (Option V)) (free : List ℕ) (capacity key : ℕ) (old cell : Cell) → get s key ≡ Some old → IsSound s values free capacity → IsSound (with_value s key cell) values free capacity
  IsSound-relinked s values free capacity key old cell found sound =
      let updates = Updates-with_value s key cell (ap is_some found) in
      let same : (k : ℕ) → is_some (get (with_value s key cell) k) ≡ is_some (get s k) =
      λ k. elim (cases_eq k key) [
        | inl equal ↦
            ap (λ x. is_some (get (with_value s key cell) x)) equal
            ∙ ap is_some updates.changed
            ∙ sym (ap (λ x. is_some (get s x)) equal ∙ ap is_some found)
        | inr differs ↦ ap is_some (updates.others k differs)
      ] in
      let len : slab_len (with_value s key cell) ≡ slab_len s = count_by-set_same s.slots key old cell (within_from_some s.slots key old found) found in
      record {
        counted = omega (arith, sound.counted, len);
        room = omega (arith, sound.room, len);
        placed = λ k some. sound.placed k (sym (same k) ∙ some);
        linked = λ k some. same k ∙ sound.linked k some;
        waiting = λ k inside. same (slice_index free k) ∙ sound.waiting k inside;
        vacant = sound.vacant;
        apart = sound.apart;
        small = λ k some. sound.small k (sym (same k) ∙ some);
      }

  -- a value goes into the slot that was listed last
  pub IsSound-filled : (s : Slab Cell) (values : List (Option V)) (free rest : List ℕ) (capacity key : ℕ) (v : V) → free ≡ rest ++ key ∷ [] → IsSound s values free capacity → IsSound s (set values key (Some v)) rest capacity
  IsSound-filled s values free rest capacity key v listed sound =
      let longer : length free ≡ length rest + 1 = ap length listed ∙ length-append rest (key ∷ []) in
      let same : (k : ℕ) → k < length rest → slice_index free k ≡ slice_index rest k =
      λ k inside. ap (λ xs. slice_index xs k) listed ∙ get_or_append_left rest (key ∷ []) 0 k inside in
      let last = last_of free rest key 0 listed in
      let present : IsSome (get s key) = ap (λ x. is_some (get s x)) (sym last) ∙ sound.waiting (length rest) (omega arith) in
      let was : get_or values key None ≡ None = ap (λ x. get_or values x None) (sym last) ∙ sound.vacant (length rest) (omega arith) in
      let fresh : (k : ℕ) → k < length rest → slice_index rest k ≢ key =
      λ k inside equal. sound.apart k (length rest) inside (omega arith) (same k inside ∙ equal ∙ sym last) in
      record {
        counted = omega (arith, count_by-set_more values key v (sound.placed key present) was, sound.counted, longer);
        room = sound.room;
        placed = λ k some. omega (arith, sound.placed k some, length-set values key (Some v));
        linked = linked-set s values key (Some v) sound.linked present;
        waiting = λ k inside. ap (λ x. is_some (get s x)) (sym (same k inside)) ∙ sound.waiting k (omega arith);
        vacant = λ k inside.
            get_or-set_other values key (slice_index rest k) (Some v) None (fresh k inside)
            ∙ ap (λ x. get_or values x None) (sym (same k inside))
            ∙ sound.vacant k (omega arith);
        apart = λ j k before inside equal.
            sound.apart j k before (omega arith) (same j (omega arith) ∙ equal ∙ sym (same k inside));
        small = sound.small;
      }

  -- what was listed last was free
  pub record Last (s : Slab Cell) (values : List (Option V)) (key : ℕ) : Type 0 where
    pub present : IsSome (get s key)
    pub was : get_or values key None ≡ None
    pub within : key < length values

  pub last_listed : (s : Slab Cell) (values : List (Option V)) (free rest : List ℕ) (capacity key : ℕ) → free ≡ rest ++ key ∷ [] → IsSound s values free capacity → Last s values key
  last_listed s values free rest capacity key listed sound =
      let longer : length free ≡ length rest + 1 = ap length listed ∙ length-append rest (key ∷ []) in
      let last = last_of free rest key 0 listed in
      let present : IsSome (get s key) = ap (λ x. is_some (get s x)) (sym last) ∙ sound.waiting (length rest) (omega arith) in
      record {
        present = present;
        was = ap (λ x. get_or values x None) (sym last) ∙ sound.vacant (length rest) (omega arith);
        within = sound.placed key present;
      }

  -- a value goes out of its slot, which is listed
  pub IsSound-emptied : (s : Slab Cell) (values : List (Option V)) (free : List ℕ) (capacity key : ℕ) (v : V) → get_or values key None ≡ Some v → IsSound s values free capacity → IsSound s (set values key None) (free ++ key ∷ []) capacity
  IsSound-emptied s values free capacity key v stored sound =
      let within = within_from_some values key v stored in
      let fresh = unlisted s values free capacity key v sound stored in
      let present = sound.linked key (ap is_some stored) in
      record {
        counted = omega (arith, count_by-set_less values key v within stored, sound.counted, length-append free (key ∷ []));
        room = sound.room;
        placed = λ k some. omega (arith, sound.placed k some, length-set values key None);
        linked = linked-set s values key None sound.linked present;
        waiting = listed_more (λ x. IsSome (get s x)) free key sound.waiting present;
        vacant = listed_more (λ x. get_or (set values key None) x None ≡ None) free key
            (λ k inside. get_or-set_other values key (slice_index free k) None None (fresh k inside) ∙ sound.vacant k inside)
            (get_or-set_same values key None None within);
        apart = apart_more free key sound.apart fresh;
        small = sound.small;
      }

  -- the list of free slots is shorter than its room where some slot has a value
  pub room_to_list : (s : Slab Cell) (values : List (Option V)) (free : List ℕ) (capacity key : ℕ) (v : V) → get_or values key None ≡ Some v → IsSound s values free capacity → length free < capacity
  room_to_list s values free capacity key v stored sound =
      omega (arith, count_by-set_less values key v (within_from_some values key v stored) stored, sound.counted, sound.room)

  -- a value takes the place of another
  pub IsSound-revalued : (s : Slab Cell) (values : List (Option V)) (free : List ℕ) (capacity key : ℕ) (v w : V) → get_or values key None ≡ Some v → IsSound s values free capacity → IsSound s (set values key (Some w)) free capacity
  IsSound-revalued s values free capacity key v w stored sound =
      let within = within_from_some values key v stored in
      let fresh = unlisted s values free capacity key v sound stored in
      record {
        counted = omega (arith, count_by-set_same values key v w within stored, sound.counted);
        room = sound.room;
        placed = λ k some. omega (arith, sound.placed k some, length-set values key (Some w));
        linked = linked-set s values key (Some w) sound.linked (sound.linked key (ap is_some stored));
        waiting = sound.waiting;
        vacant = λ k inside. get_or-set_other values key (slice_index free k) (Some w) None (fresh k inside) ∙ sound.vacant k inside;
        apart = sound.apart;
        small = sound.small;
      }

  -- a slot is added, which is free
  pub IsSound-more : (s t : Slab Cell) (old new : List (Option V)) (free : List ℕ) (before capacity key : ℕ) (cell : Cell) → get s key ≡ None → Updates s t key (Some cell) → slab_len t ≡ slab_len s + 1 → slab_len t ≤ capacity → key < 2 ^ 32 → length old ≤ length new → key < length new → ((k : ℕ) → get_or new k None ≡ get_or old k None) → IsSound s old free before → IsSound t new (free ++ key ∷ []) capacity
  IsSound-more s t old new free before capacity key cell vacant updates len room small longer within same sound =
      let changed : IsSome (get t key) = ap is_some updates.changed in
      let kept : (k : ℕ) → IsSome (get s k) → IsSome (get t k) = λ k some. elim (cases_eq k key) [
        | inl equal ↦ ap (λ x. is_some (get t x)) equal ∙ changed
        | inr differs ↦ ap is_some (updates.others k differs) ∙ some
      ] in
      let fresh : (k : ℕ) → k < length free → slice_index free k ≢ key =
      λ k inside equal. let e = sym (sound.waiting k inside) ∙ ap (λ x. is_some (get s x)) equal ∙ ap is_some vacant in cc in
      let free_here : get_or new key None ≡ None = same key ∙ no_value s old key sound.linked vacant in
      record {
        counted = omega (arith, count_by-same old new same, len, sound.counted, length-append free (key ∷ []));
        room = room;
        placed = λ k some. elim (cases_eq k key) [
          | inl equal ↦ omega (arith, equal, within)
          | inr differs ↦ omega (arith, sound.placed k (ap is_some (sym (updates.others k differs)) ∙ some), longer)
        ];
        linked = λ k some. kept k (sound.linked k (ap is_some (sym (same k)) ∙ some));
        waiting = listed_more (λ x. IsSome (get t x)) free key (λ k inside. kept (slice_index free k) (sound.waiting k inside)) changed;
        vacant = listed_more (λ x. get_or new x None ≡ None) free key (λ k inside. same (slice_index free k) ∙ sound.vacant k inside) free_here;
        apart = apart_more free key sound.apart fresh;
        small = λ k some. elim (cases_eq k key) [
          | inl equal ↦ omega (arith, equal, small)
          | inr differs ↦ sound.small k (ap is_some (sym (updates.others k differs)) ∙ some)
        ];
      }
    where
      without_cell : (value : Option V) (o : Option Cell) → o ≡ None → (IsSome value → IsSome o) → value ≡ None
      without_cell None o none linked = refl
      without_cell (Some v) o none linked = let e = ap is_some (sym none) ∙ linked refl in cc

      no_value : (s : Slab Cell) (old : List (Option V)) (key : ℕ) → ((k : ℕ) → IsSome (get_or old k None) → IsSome (get s k)) → get s key ≡ None → get_or old key None ≡ None
      no_value s old key linked vacant = without_cell (get_or old key None) (get s key) vacant (linked key)
