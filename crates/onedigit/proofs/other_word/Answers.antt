-- `onedigit::other_word` meets its contract: nothing is shifted out.
use mathlib.Core.Path.{ap}
use Prim.Native.Nat.{◌*◌, ◌^◌, ◌<◌}
use native.Mathlib.Omega.{arith}
use lib.Bits.{bit_xor}
use lib.Pow.{shl_exact}
use Rattle.onedigit.proofs.other_word.Goals as goal

pub returns : goal.returns
returns c =
    let a = c.args in
    let h : a.difference < 2 ^ 4 = omega arith in
    ap (bit_xor a.word) (shl_exact 4 (a.digit * 4) 64 h (omega arith))
