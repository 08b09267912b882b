-- A page of output.
use Rattle.std.specs.Prelude.{List, length, ℕ, ◌+◌, ◌≤◌}

-- how many bytes a page holds
abbrev pub page_bytes : ℕ
page_bytes = 16384

-- how many bytes of room are asked for a line
abbrev pub line_room : ℕ
line_room = 160

-- what a page holds leaves room for one whole line
abbrev pub HasRoom : List ℕ → Type 0
HasRoom text = length text + line_room ≤ page_bytes
