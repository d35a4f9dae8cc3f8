-- `vectors::add_turned` meets its contract: the words before word at + j have their sums. Assumes nothing.
use mathlib.Core.Path.{ap, subst, ◌∙◌}
use Prim.Native.Nat.{ℕ, ◌+◌, ◌*◌}
use native.Mathlib.Omega.{arith}
use lib.ListN.{get_or, set}
use lib.Bits.{bit_xor}
use Rattle.vectors.specs.Vectors.{wbit, from, added}
use Rattle.vectors.proofs.Filling.{Filled, filled_next, filled_more}
use Rattle.vectors.proofs.Spans.{added_word}
use Rattle.vectors.proofs.add_turned.Goals as goal

pub loop-j-preserved : goal.loop-j-preserved
loop-j-preserved c =
    let a = c.args in
    let l = c.loop-j in
    let y = wbit a.acc.now in
    let z = from a.s (wbit a.d.now) in
    let x = added y (64 * a.at) (64 * (a.at + a.w)) z in
    let k = a.at + l.j in
    let v = bit_xor (get_or l.acc k 0) c.span.result in
    let f = l.invariant in
    subst (λ (n : ℕ). Filled a.acc.now x (set l.acc k v) n) (omega arith)
    (filled_more a.acc.now x l.acc k f v (omega (arith, f.long))
    (added_word (get_or l.acc k 0) c.span.result y z a.at a.w l.j (omega arith)
    (filled_next a.acc.now x l.acc k f)
    (λ i hi. c.span.ensures i hi ∙ ap (wbit a.d.now) (omega arith))))
