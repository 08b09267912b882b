-- How many slots hold a value after each step.
use Rattle.std.proofs.Common.{◌≡◌, ℕ, ◌+◌, Option, Some, None, is_some, true, refl, sym, ap, ◌∙◌, inl, inr}
use Rattle.std.proofs.lemmas.Bool.{cases_eq}
use Rattle.link_arena.specs.Arena.{Arena, Node, value_of, node_at, value_at, live_count, SameMap, Inserts, Removes, Revalues, Relinks}
use Rattle.link_arena.specs.declared.arena.Links.{Links}
use Rattle.link_arena.proofs.NodeLemmas.{count_by-alike, count_by-one_more}

module _ {V : Type 0} where
  -- a node is there where its value is
  is_some-value_of : (node : Option (Node V)) → is_some (value_of node) ≡ is_some node
  is_some-value_of None = refl
  is_some-value_of (Some node) = refl

  alike : (old new : Arena V) (slot : ℕ) → value_at new slot ≡ value_at old slot → is_some (node_at new slot) ≡ is_some (node_at old slot)
  alike old new slot same = sym (is_some-value_of (node_at new slot)) ∙ ap is_some same ∙ is_some-value_of (node_at old slot)

  -- as many hold a value where every value stays
  live_count-kept : (old new : Arena V) → ((slot : ℕ) → value_at new slot ≡ value_at old slot) → live_count new ≡ live_count old
  live_count-kept old new same = count_by-alike old.nodes new.nodes (λ slot. alike old new slot (same slot))

  pub live_count-same : (old new : Arena V) → SameMap old new → live_count new ≡ live_count old
  live_count-same old new same = live_count-kept old new same.values

  pub live_count-relinks : (old new : Arena V) (k slot : ℕ) (l : Links) → Relinks old new k slot l → live_count new ≡ live_count old
  live_count-relinks old new k slot l relinks = live_count-kept old new relinks.values

  -- one more where a value comes in
  pub live_count-inserts : (old new : Arena V) (slot : ℕ) (value : V) → Inserts old new slot value → live_count new ≡ live_count old + 1
  live_count-inserts old new slot value inserts =
      count_by-one_more old.nodes new.nodes slot
      (sym (is_some-value_of (node_at new slot)) ∙ ap is_some inserts.stored)
      (sym (is_some-value_of (node_at old slot)) ∙ ap is_some inserts.was_free)
      (λ other differs. alike old new other (inserts.elsewhere.values other differs))

  -- one less where a value goes out
  pub live_count-removes : (old new : Arena V) (slot : ℕ) (value : V) → value_at old slot ≡ Some value → Removes old new slot → live_count new + 1 ≡ live_count old
  live_count-removes old new slot value was removes =
      sym (count_by-one_more new.nodes old.nodes slot
      (sym (is_some-value_of (node_at old slot)) ∙ ap is_some was)
      (sym (is_some-value_of (node_at new slot)) ∙ ap is_some removes.free)
      (λ other differs. sym (alike old new other (removes.elsewhere.values other differs))))

  -- as many where another value takes the place of one
  pub live_count-revalues : (old new : Arena V) (slot : ℕ) (value : V) → is_some (value_at old slot) ≡ true → Revalues old new slot value → live_count new ≡ live_count old
  live_count-revalues old new slot value live revalues =
      count_by-alike old.nodes new.nodes (λ other. elim (cases_eq other slot) [
        | inl same ↦
            ap (λ o. is_some (node_at new o)) same
            ∙ sym (is_some-value_of (node_at new slot))
            ∙ ap is_some revalues.here
            ∙ sym live
            ∙ is_some-value_of (node_at old slot)
            ∙ sym (ap (λ o. is_some (node_at old o)) same)
        | inr differs ↦ alike old new other (revalues.elsewhere other differs)
      ])
