-- What is kept at first, and with one group more.
use Rattle.std.proofs.Common.{◌≡◌, ◌≢◌, ℕ, zero, suc, ◌+◌, ◌<◌, ◌≤◌, List, [], ◌∷◌, ◌++◌, Option, Some, None, length, slice_index, slice_index_or, refl, sym, ap, ◌∙◌, subst, inl, inr, arith, lit<}
use Rattle.std.proofs.lemmas.Bool.{cases_lt}
use Rattle.std.proofs.lemmas.List.{get_or_append_left, get_or_past, get_or_push, length_push}
use Rattle.std.proofs.lemmas.Option.{none-some}
use Rattle.link_arena.specs.Arena.{Arena, Inserts, SameMap, value_at}
use Rattle.pairing_heap.specs.Heap.{Lacks, Stands, pairs_at, times_of}
use Rattle.pairing_heap.specs.Laws.{FirstIsLeast, StandsWhenEmpty, StaysWhereInserted, StaysWhereReserved}
use Rattle.clutch_bucket.specs.KeptRanks.{AreKept, IsEntered, IsPlaced, key_of_ranked}
use Rattle.clutch_bucket.specs.Ranks.{unit_key_precedes}
use Rattle.clutch_bucket.specs.declared.ranks.Ranked.{Ranked}
use Rattle.clutch_bucket.specs.declared.ranks.UnitKey.{UnitKey}

-- an empty heap has no slot
pub lacks_all : FirstIsLeast 0 key_of_ranked unit_key_precedes → (arena : Arena Ranked) → Stands 0 key_of_ranked unit_key_precedes arena None
    → (slot : ℕ) → Lacks 0 key_of_ranked arena None slot
lacks_all least arena stands slot = ap (λ (xs : List (UnitKey × ℕ)). times_of xs slot) ((least arena None stands).none.0 refl)

-- with no group
pub kept_empty : StandsWhenEmpty 0 key_of_ranked unit_key_precedes → FirstIsLeast 0 key_of_ranked unit_key_precedes → (arena : Arena Ranked) → AreKept [] [] arena None
kept_empty law least arena =
    let stands = law (lit< tt) arena in
    record {
      sized = refl;
      stands = stands;
      placed = λ g inside. absurd (omega (arith, inside));
      entered = λ g key is. absurd (none-some key is);
      bare = λ g inside is. absurd (omega (arith, inside));
      owned = λ slot held. absurd (omega (arith, held, lacks_all least arena stands slot));
    }

-- one group more without a key changes no key
pub push_none : (keys : List (Option UnitKey)) (g : ℕ) → slice_index_or (keys ++ (None ∷ [])) g None ≡ slice_index_or keys g None
push_none [] zero = refl
push_none [] (suc g) = refl
push_none (key ∷ keys) zero = refl
push_none (key ∷ keys) (suc g) = push_none keys g

-- a group with a key is one of the list's
pub within_keys : (keys : List (Option UnitKey)) (g : ℕ) (key : UnitKey) → slice_index_or keys g None ≡ Some key → g < length keys
within_keys keys g key is =
    elim (cases_lt g (length keys)) [
      | inl less ↦ less
      | inr past ↦ absurd (none-some key (sym (get_or_past keys g None past) ∙ is))
    ]

-- the value of a slot stays where the arena gets room and then a value elsewhere
pub value_stays : (a b c : Arena Ranked) (slot : ℕ) (value : Ranked) → SameMap a b → Inserts b c slot value → (other : ℕ) (was : Ranked) → value_at a other ≡ Some was → value_at c other ≡ Some was
value_stays a b c slot value same inserts other was stored =
    let before = same.values other ∙ stored in
    let apart : other ≢ slot = λ e. none-some was (sym inserts.was_free ∙ ap (λ (s : ℕ). value_at b s) (sym e) ∙ before) in
    inserts.elsewhere.values other apart ∙ before

-- one group more, whose slot is new
pub extended : StaysWhereReserved 0 key_of_ranked unit_key_precedes → StaysWhereInserted 0 key_of_ranked unit_key_precedes
    → (keys : List (Option UnitKey)) (slots : List ℕ) (a b c : Arena Ranked) (heap : Option ℕ) (slot group : ℕ) (key : UnitKey) → length keys ≡ group → AreKept keys slots a heap
    → SameMap a b → Inserts b c slot (record { key = key; group = group }) → AreKept (keys ++ (None ∷ [])) (slots ++ (slot ∷ [])) c heap
extended reserved inserted keys slots a b c heap slot group key count kept same inserts =
    let mid = reserved a b same heap kept.stands in
    let last = inserted b c slot (record { key = key; group = group }) inserts heap mid.stands in
    let often : (other : ℕ) → times_of (pairs_at 0 key_of_ranked c heap) other ≡ times_of (pairs_at 0 key_of_ranked a heap) other =
    λ other. ap (λ (xs : List (UnitKey × ℕ)). times_of xs other) (last.stays.same ∙ mid.same) in
    let longer : length (keys ++ (None ∷ [])) ≡ length keys + 1 = length_push keys None in
    let there : (g : ℕ) → g < length keys → slice_index (slots ++ (slot ∷ [])) g ≡ slice_index slots g =
    λ g inside. get_or_append_left slots (slot ∷ []) 0 g (omega (arith, kept.sized, inside)) in
    let here : (g : ℕ) → g < length (keys ++ (None ∷ [])) → length keys ≤ g → g ≡ group = λ g inside past. omega (arith, count, longer, inside, past) in
    let new_slot : (g : ℕ) → g ≡ group → slice_index (slots ++ (slot ∷ [])) g ≡ slot = λ g is. get_or_push slots slot 0 g (kept.sized ∙ count ∙ sym is) in
    record {
      sized = length_push slots slot ∙ ap (λ (n : ℕ). n + 1) kept.sized ∙ sym longer;
      stands = last.stays.stands;
      placed = λ g inside. elim (cases_lt g (length keys)) [
        | inl less ↦ (
            let was = kept.placed g less in
            subst (λ (s : ℕ). IsPlaced c s g) (sym (there g less))
            (record { key = was.key; stored = value_stays a b c slot _ same inserts (slice_index slots g) (record { key = was.key; group = g }) was.stored }))
        | inr past ↦ (
            let is = here g inside past in
            subst (λ (s : ℕ). IsPlaced c s g) (sym (new_slot g is))
            (subst (λ (i : ℕ). IsPlaced c slot i) (sym is) (record { key = key; stored = inserts.stored })))
      ];
      entered = λ g k is. (
          let had = sym (push_none keys g) ∙ is in
          let was = kept.entered g k had in
          subst (λ (s : ℕ). IsEntered c heap s g k) (sym (there g (within_keys keys g k had)))
          (record {
            held = subst (λ (n : ℕ). 0 < n) (sym (often (slice_index slots g))) was.held;
            stored = value_stays a b c slot _ same inserts (slice_index slots g) (record { key = k; group = g }) was.stored;
          }));
      bare = λ g inside is. elim (cases_lt g (length keys)) [
        | inl less ↦ subst (λ (s : ℕ). Lacks 0 key_of_ranked c heap s) (sym (there g less)) (often (slice_index slots g) ∙ kept.bare g less (sym (push_none keys g) ∙ is))
        | inr past ↦ subst (λ (s : ℕ). Lacks 0 key_of_ranked c heap s) (sym (new_slot g (here g inside past))) last.lacks
      ];
      owned = λ other held. (
          let was = kept.owned other (subst (λ (n : ℕ). 0 < n) (often other) held) in
          record { group = was.group; within = omega (arith, was.within, longer); same = there was.group was.within ∙ was.same });
    }
