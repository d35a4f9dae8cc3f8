-- `Covering::add` meets its contract: k + M - s, less M where that is M or more. Assumes nothing.
use mathlib.Core.Path.{◌≡◌, ap, sym, ◌∙◌}
use Prim.Native.Nat.{ℕ, ◌+◌, ◌-◌, ◌*◌, ◌%◌, ◌<◌}
use native.Mathlib.Nat.{mod-lt, mod-eq_of_lt}
use native.Mathlib.Omega.{arith}
use lib.Dec.{eqb}
use Rattle.vectors.specs.Vectors.{wbit, added}
use Rattle.syndromes.specs.Rows.{wide}
use Rattle.syndromes.proofs.Shifts.{once_around, flipped_row}
use Rattle.syndromes.proofs.addends.CoveringAddend.add.Goals as goal
use Rattle.syndromes.proofs.addends.CoveringAddend.add.Goals.{else-i-sh, then-i-sh}

pub returns : goal.returns
returns c =
    let a = c.args in
    let i = c.if-i-sh.i in
    let M = a.sh.size in
    let turn = a.self.bit + (M - a.s) in
    let x = wbit a.acc.now in
    let from = wide a.sh * a.r in
    let to = wide a.sh * (a.r + 1) in
    let some : 0 < M = omega arith in
    let at : i ≡ turn % M =
    (elim c.if-i-sh.branch [
      | then-i-sh w ↦ let less : i ≡ turn - M = omega arith in
          less ∙ sym (once_around M turn (omega arith) (omega arith))
      | else-i-sh w ↦ let low : turn < M = omega arith in
          let same : i ≡ turn = omega arith in
          same ∙ sym (mod-eq_of_lt low)
    ]) in
    c.flip_bit.ensures
    ∙ flipped_row x from to i (omega (arith, mod-lt turn some))
    ∙ ap (λ (j : ℕ). added x from to (λ n. eqb n j)) at
