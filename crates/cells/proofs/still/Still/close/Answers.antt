use Rattle.std.proofs.Common.{◌≡◌, ◌++◌, [], ◌∷◌, List, refl, ap, ◌∙◌, arith}
use Rattle.std.specs.Prelude.{flat_map, length}
use Rattle.flat_policy.specs.Runs.Journals.{JournalParts}
use Rattle.cells.specs.Making.{all_journals, journal_in}
use Rattle.cells.proofs.still.Still.close.Goals as goal

-- an empty list has no journal
no_journals : (js : List JournalParts) → length js ≡ 0 → js ≡ []
no_journals [] none = refl
no_journals (j ∷ js) none = absurd (omega (arith, none))

pub returns-clause-journals : goal.returns-clause-journals
returns-clause-journals g c =
    let none : c.self.inside.journals.items ≡ [] = no_journals c.self.inside.journals.items (omega arith) in
    c.push_reserved.ensures.items
    ∙ ap (λ (js : List JournalParts). js ++ c.close-last.result.0 ∷ []) (c.close.ensures.journals ∙ ap (λ (js : List JournalParts). js ++ flat_map journal_in c.self.inside.clusters) none)
    ∙ ap (λ (j : JournalParts). flat_map journal_in c.self.inside.clusters ++ j ∷ []) c.close-last.ensures.journal
    ∙ ap all_journals c.self.view_is
