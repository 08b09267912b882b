-- The desks of a run, by their numbers.
use Rattle.std.specs.Prelude.{List, Some, length, map, slice_get, take, ℕ, ◌*◌, ◌+◌, ◌≡◌}
use Rattle.rights.specs.Values.{Account, DeskId}

-- how many desks a run has: two for each cluster that there may be, and two for the yard
abbrev pub desk_count : ℕ
desk_count = 18

-- the number of the desk of a cluster's slots; that of the yard's slots is the one of 8
abbrev pub slot_desk : ℕ → ℕ
slot_desk c = 2 * c

-- the number of the desk of a cluster's lines
abbrev pub line_desk : ℕ → ℕ
line_desk c = 2 * c + 1

-- the numbers of the desks of the yard's slots and of its lines
abbrev pub yard_slot_desk : ℕ
yard_slot_desk = 16

abbrev pub yard_line_desk : ℕ
yard_line_desk = 17

-- a desk has a number among some
abbrev pub StandsAt : List DeskId → ℕ → DeskId → Type 0
StandsAt desks k desk = slice_get desks k ≡ Some desk

-- a book of a desk before anything is minted
abbrev pub fresh_book : DeskId → Account
fresh_book desk = record { desk = desk; minted = 0; parked = 0 }

-- books are those of the first desks of a list, before anything is minted
abbrev pub AreFresh : List DeskId → List Account → Type 0
AreFresh desks books = books ≡ map fresh_book (take (length books) desks)
