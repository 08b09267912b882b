use Rattle.std.proofs.Common.{arith, w64}
use Rattle.std.proofs.lemmas.Nat.Bits.{bit_at-trailing_zeros}
use Rattle.ports.proofs.Newlines.{found_nearby}
use Rattle.ports.proofs.newline_search.newline_nearby.Goals as goal

pub returns : goal.returns
returns c =
    let lowest = bit_at-trailing_zeros w64 c.newlines_of-newlines.result (omega (arith, c.if-newlines-eq0.false)) c.newlines_of-newlines.type_inv in (
      omega arith,
      found_nearby c.args.bytes.now c.args.searched 32 _ c.newlines_of-newlines.result (omega (arith, c.requires.within, c.if-bytes-searched-lt-BLOCK.false)) c.requires.plain
          c.newlines_of-newlines.ensures lowest.1 lowest.2,
    )
