-- `planes::add` meets its contract: three half adders, and what the last carries over.
-- Assumes nothing.
use mathlib.Core.Bool.{◌&&◌}
use native.Mathlib.Omega.{arith}
use Rattle.bits.specs.Bits.{digit}
use Rattle.planes.specs.Counts.{value}
use Rattle.vectors.proofs.Places.{digit_xor, digit_and}
use Rattle.planes.proofs.Digits.{half}
use Rattle.planes.proofs.add.Goals as goal

pub returns : goal.returns
unfolding value
returns c i hi =
    let s = c.args in
    let a = digit 64 s.p.one i in
    let b = digit 64 s.p.two i in
    let f = digit 64 s.p.four i in
    let x = digit 64 s.x i in
    simp (digit_xor, digit_and) (omega (arith, half a x, half b (a && x), half f (b && (a && x))))
