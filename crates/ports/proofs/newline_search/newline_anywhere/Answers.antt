use Rattle.std.proofs.lemmas.List.{take_rest}
use Rattle.ports.proofs.Newlines.{found_among, none_among}
use Rattle.ports.proofs.newline_search.newline_anywhere.Goals as goal

pub returns-in-Some-clause-place : goal.returns-in-Some-clause-place
returns-in-Some-clause-place c =
    found_among c.args.bytes.now c.args.searched c.in-Some.at c.requires.within c.requires.plain
    (rw (take_rest c.args.bytes.now c.args.searched) at c.in-Some.ensures)

pub returns-in-None-clause-place : goal.returns-in-None-clause-place
returns-in-None-clause-place c =
    none_among c.args.bytes.now c.args.searched c.requires.within c.requires.plain
    (rw (take_rest c.args.bytes.now c.args.searched) at c.in-None.ensures)
