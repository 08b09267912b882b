use Rattle.std.proofs.Common.{refl, arith}
use Rattle.cells.proofs.FreshBooks.{put_back, stands_at}
use Rattle.cells.proofs.still.making.none_of.Goals as goal

pub returns-clause-same : goal.returns-clause-same
returns-clause-same c = put_back _ _ _ _ c.index_mut-book.ensures.value c.mint.ensures.book

pub returns-clause-none : goal.returns-clause-none
returns-clause-none c =
    let at = stands_at c.args.desks.now c.args.books.now.items c.args.k c.index_mut-book.result.now c.requires.fresh (omega arith) c.index_mut-book.ensures.value in
    rw c.mint.ensures.share (record { desk = at; amount = refl })
