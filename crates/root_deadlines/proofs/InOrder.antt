-- Lanes in their order.
use Rattle.std.proofs.Common.{◌≡◌, Bool, true, false, ◌&&◌, List, [], ◌∷◌, sym, ◌∙◌}
use Rattle.std.specs.List.{list_all}
use Rattle.std.proofs.lemmas.Bool.{false≢true, false_from_ne_true}
use Rattle.bucket_tables.specs.declared.Lane.{Lane}
use Rattle.flat_policy.specs.Policy.Windows.{stands_higher}
use Rattle.flat_policy.proofs.Chosen.{higher_irreflexive, higher_transitive}

-- each lane stands higher than all after it
abbrev pub in_order : List Lane → Bool
in_order [] = true
in_order (l ∷ ls) = list_all (stands_higher l) ls && in_order ls

pub not_back : (x y : Lane) → stands_higher x y ≡ true → stands_higher y x ≡ false
not_back x y h = false_from_ne_true (stands_higher y x) (λ k. false≢true (sym (higher_irreflexive x) ∙ higher_transitive x y x h k))
