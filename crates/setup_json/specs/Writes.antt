-- What a writer adds.
use Rattle.std.specs.Prelude.{List, [], if◌then◌else◌, ℕ, ◌==◌, ◌∷◌}

-- the comma before the item at place k
abbrev pub comma_before : ℕ → List ℕ
comma_before k = if k == 0 then [] else 44 ∷ []
