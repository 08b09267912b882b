-- What is written is read again.
use Rattle.std.specs.Prelude.{List, Ok, ℕ, ◌++◌, ◌∷◌, ◌≡◌}
use Rattle.flat_policy.specs.Policy.BuiltSetups.{IsSetup}
use Rattle.flat_policy.specs.Policy.Setup.{SetupParts}
use Rattle.flat_policy.specs.Texts.Lines.{newline}
use Rattle.flat_policy.specs.Texts.SetupLines.{read_setup_text, setup_text}
use Rattle.flat_policy.specs.Texts.Streams.{TextLines, read_setup_line, text_lines}

-- the canonical text of a setup is read as that setup
abbrev pub SetupsReadAgain : Type 0
SetupsReadAgain = (s : SetupParts) → IsSetup s → read_setup_text (setup_text s) ≡ Ok s

-- a line before some lines
abbrev pub line_before : List ℕ → TextLines → TextLines
line_before line t = record t { whole = line ∷ t.whole }

-- the canonical text of a setup, with a newline, is the first line of whatever goes on with it
abbrev pub SetupsStandInLines : Type 0
SetupsStandInLines =
    (s : SetupParts) (more : List ℕ) → IsSetup s → text_lines (setup_text s ++ newline ++ more) ≡ line_before (setup_text s) (text_lines more)

-- as a first line it is within the limit, and is read as that setup
abbrev pub SetupLinesReadAgain : Type 0
SetupLinesReadAgain = (s : SetupParts) → IsSetup s → read_setup_line (setup_text s) ≡ Ok s

-- what a setup line is read as has all its parts in their ranges
abbrev pub ReadSetupsAreBuilt : Type 0
ReadSetupsAreBuilt = (line : List ℕ) (s : SetupParts) → read_setup_text line ≡ Ok s → IsSetup s
