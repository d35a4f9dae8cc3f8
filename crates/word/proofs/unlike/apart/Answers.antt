-- `unlike::apart`: none where they are equal, else the ones of the difference. Assumes nothing.
use native.Mathlib.Omega.{arith}
use lib.Bits.{bit_xor, xor_lt}
use lib.Count.{ones-le}
use Rattle.word.proofs.unlike.Differing.{apart_count, apart_none}
use borrow.Author.Rules.{rules}
use Rattle.word.proofs.unlike.apart.Goals as goal

pub returns-then-v-w : goal.returns-then-v-w
returns-then-v-w c =
    let a = c.args in
    (apart_none a.v a.w c.if-v-w.true, omega arith)

pub overflow_cast-result : goal.overflow_cast-result
overflow_cast-result c =
    let a = c.args in
    let small = xor_lt 64 a.v a.w (search rules) (search rules) in
    omega (arith, ones-le 64 (bit_xor a.v a.w) small)

pub returns : goal.returns
returns c =
    let a = c.args in
    let small = xor_lt 64 a.v a.w (search rules) (search rules) in
    (apart_count a.v a.w small, ones-le 64 (bit_xor a.v a.w) small)
