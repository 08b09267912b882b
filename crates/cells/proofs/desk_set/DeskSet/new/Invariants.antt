use Rattle.std.proofs.Common.{◌≡◌, length, map}
use Rattle.cells.specs.Desks.{fresh_book}
use Rattle.cells.proofs.desk_set.DeskSet.new.Given as goal

abbrev pub invariant-loop : goal.invariant-loop
invariant-loop l = (length l.desks.items ≡ l.counter) × (l.books.items ≡ map fresh_book l.desks.items)
