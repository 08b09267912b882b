-- What a journal is: its lines, and how many more it takes without memory.
use Rattle.std.specs.Prelude.{List, [], length, ℕ, ◌+◌, ◌++◌, ◌-◌, ◌<◌, ◌^◌, ◌∷◌}
use Rattle.flat_policy.specs.declared.journal.Line.{Line}

-- the lines in their order, and the free room
pub record JournalParts : Type 0 where
  pub lines : List Line
  pub free : ℕ

-- a journal without lines and room
abbrev pub empty_journal : JournalParts
empty_journal = record { lines = []; free = 0 }

-- with one line more at the end, for which one place of the room is used
abbrev pub pushed : Line → JournalParts → JournalParts
pushed l j = record { lines = j.lines ++ l ∷ []; free = j.free - 1 }

-- the first number of lines that no journal reaches with its free room; no machine's memory holds so many
abbrev pub journal_limit : ℕ
journal_limit = 2 ^ 40

-- length and free room together stay below that
abbrev pub IsJournal : JournalParts → Type 0
IsJournal j = length j.lines + j.free < journal_limit
