-- `vectors::put` meets its contract: after j passes the first j octets stand there. Assumes nothing.
use mathlib.Core.Path.{◌≡◌, sym, ap, ◌∙◌}
use Prim.Native.Nat.{ℕ, ◌+◌, ◌-◌, ◌*◌, ◌/◌, ◌%◌, ◌^◌}
use native.Mathlib.Omega.{arith}
use lib.Dec.{lit<}
use lib.ListN.{length-set}
use Rattle.bits.specs.Bits.{Word, bit, digit}
use Rattle.vectors.specs.Vectors.{joined}
use Rattle.vectors.proofs.Cells.{stored, joined_above}
use Rattle.vectors.proofs.Octets.{after, put_octet}
use Rattle.vectors.proofs.put.Goals as goal

pub loop-j-preserved : goal.loop-j-preserved
loop-j-preserved c =
    let a = c.args in
    let l = c.loop-j in
    let z = bit a.out.now in
    let f : Word = λ k. digit 64 a.v (k - 8 * a.at) in
    let x = after (8 * a.at) z a.v in
    let k = a.at + l.j in
    let v = a.v / 2 ^ (56 - 8 * l.j) % 256 in
    let e : k + 1 ≡ a.at + (l.j + 1) = omega arith in (
      length-set l.out k v ∙ l.invariant.0,
      stored 8 (lit< tt) l.out k x z l.invariant.1 v (omega (arith, l.invariant.0))
          (λ i hi.
          put_octet a.v l.j i (omega arith) hi
          ∙ ap (digit 64 a.v) (omega arith)
          ∙ sym (joined_above (8 * a.at) (8 * k + i) z f (omega arith)))
          ∙ ap (λ (n : ℕ). joined (8 * n) x z) e,
    )

pub returns : goal.returns
returns c =
    let a = c.args in
    let l = c.loop-j in
    let e : l.j ≡ a.n = omega arith in
    let z = bit a.out.now in
    l.invariant.1 ∙ ap (λ (j : ℕ). joined (8 * (a.at + j)) (after (8 * a.at) z a.v) z) e
