-- `search::marks_of` meets its contract, by the test of a word (specs/Words.antt).
use Rattle.std.proofs.Common.{◌*◌, ◌<◌, ◌^◌, arith, bit_xor}
use Rattle.std.specs.Int.Bits.{xor_lt}
use Rattle.search.specs.Words.{word_marks, wrapped}
use Rattle.search.proofs.marks_of.Goals as goal

pub returns : goal.returns
returns c =
    let a = c.args in
    let f = c.ranges in
    let v = c.from.result in
    let m = v * 0x0101_0101_0101_0101 in
    let x : bit_xor a.w m < 2 ^ 64 = xor_lt 64 a.w m f.w.fits (omega arith) in
    word_marks a.w a.byte v _ f.w.fits f.byte.fits c.from.ensures (wrapped _ 0x0101_0101_0101_0101 x (omega arith))
