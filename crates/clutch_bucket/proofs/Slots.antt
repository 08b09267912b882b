-- Slots of unlike groups are unlike; lists of keys, and how often slots stand in a heap.
use Rattle.std.proofs.Common.{◌≡◌, ◌≢◌, ◌⊎◌, ℕ, ◌+◌, ◌<◌, Bool, List, Option, Some, None, length, slice_index_or, slice_set, refl, sym, ap, ◌∙◌, inl, inr, arith}
use Rattle.std.specs.Prelude.{◌==◌, if◌then◌else◌}
use Rattle.std.proofs.lemmas.Bool.{ne_eqb}
use Rattle.std.proofs.lemmas.List.{get_or-set_same, set-set}
use Rattle.std.proofs.lemmas.Option.{none-some}
use Rattle.link_arena.specs.Arena.{Arena, value_at}
use Rattle.clutch_bucket.specs.KeptRanks.{IsPlaced}
use Rattle.clutch_bucket.specs.declared.ranks.Ranked.{Ranked}
use Rattle.clutch_bucket.specs.declared.ranks.UnitKey.{UnitKey}

-- the group that a value names
abbrev pub group_in : Option Ranked → ℕ
group_in None = 0
group_in (Some ranked) = ranked.group

-- unlike groups have unlike slots
pub slots_apart : (arena : Arena Ranked) (x y g h : ℕ) → IsPlaced arena x g → IsPlaced arena y h → h ≢ g → y ≢ x
slots_apart arena x y g h here there apart same =
    apart (sym (ap group_in there.stored) ∙ ap (λ (slot : ℕ). group_in (value_at arena slot)) same ∙ ap group_in here.stored)

-- a key or none
pub key_or_none : (o : Option UnitKey) → (◌≡◌ {A = Option UnitKey} o None) ⊎ ((key : UnitKey) × (◌≡◌ {A = Option UnitKey} o (Some key)))
key_or_none None = inl refl
key_or_none (Some key) = inr (key, refl)

-- what stands at a place that was written
pub set_here : (keys : List (Option UnitKey)) (group g : ℕ) (o : Option UnitKey) → group < length keys → g ≡ group → slice_index_or (slice_set keys group o) g None ≡ o
set_here keys group g o within same =
    ap (λ (i : ℕ). slice_index_or (slice_set keys group o) i None) same ∙ get_or-set_same keys group o None within

-- a group with a key is none without
pub unlike_bare : (keys : List (Option UnitKey)) (group g : ℕ) (key : UnitKey) → slice_index_or keys group None ≡ None → slice_index_or keys g None ≡ Some key → g ≢ group
unlike_bare keys group g key bare is same =
    none-some key (sym bare ∙ ap (λ (i : ℕ). slice_index_or keys i None) (sym same) ∙ is)

-- a slot that is not the one that came or went stands as often
pub as_often : (slot other x y : ℕ) → other ≢ slot → x ≡ (if slot == other then 1 else 0) + y → x ≡ y
as_often slot other x y apart counted =
    let unlike : slot ≢ other = λ same. apart (sym same) in
    omega (arith, counted, ap {B = ℕ} (λ (b : Bool). if b then 1 else 0) (ne_eqb slot other unlike))

-- where a key goes and then another comes, only the other counts
pub set_twice : (keys : List (Option UnitKey)) (group : ℕ) (key : UnitKey) → slice_set (slice_set keys group None) group (Some key) ≡ slice_set keys group (Some key)
set_twice keys group key = set-set keys group None (Some key)
