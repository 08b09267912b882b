-- What comes next in an input whose bytes are told.
use Rattle.std.specs.Prelude.{◌≡◌, ◌≢◌, ℕ, ◌-◌, ◌==◌, not, List, [], ◌∷◌, ◌++◌, take_while, Option, None, Some, ⊤, if◌then◌else◌}
use Rattle.ports.specs.Feeds.{Feed}
use Rattle.ports.specs.LineFeed.{counted}
use Rattle.ports.specs.declared.line_feed.Fed.{Fed}
use Rattle.ports.specs.declared.line_feed.Fed.TheVariants.{Line, Long, Unfinished, End, Fault, Over}

-- byte by byte: the line may have `limit` bytes more, so many bytes count still, and `last` is the answer at their end
abbrev pub answer_by : Fed → ℕ → ℕ → List ℕ → Fed
answer_by last limit left [] = last
answer_by last limit left (b ∷ bs) =
    if left == 0 then Over else (if b == 10 then Line else (if limit == 0 then Long else answer_by Unfinished (limit - 1) (left - 1) bs))

-- the answer to an input of these bytes, of which so many count
abbrev pub answer_of : ℕ → ℕ → List ℕ → Fed
answer_of limit left bytes = answer_by End limit left bytes

-- the bytes up to the first newline
abbrev pub line_of : List ℕ → List ℕ
line_of bytes = take_while (λ b. not (b == 10)) bytes

-- the answer and the line are those of the bytes alone, however a source cuts them, unless it fails or doesn't tell them
abbrev pub IsOfBytes : ℕ → Feed → Option (List ℕ) → Feed → Fed → Type 0
IsOfBytes limit old None new answer = ⊤
IsOfBytes limit old (Some left) new answer =
    (answer ≢ Fault → answer ≡ answer_of limit (counted old) (old.held ++ left)) × (answer ≡ Line → new.line ≡ line_of (old.held ++ left))
