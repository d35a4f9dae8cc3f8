-- `raising::broken_of`: a check more at each pass. Assumes nothing.
use mathlib.Core.Path.{sym, ap, ◌∙◌}
use mathlib.Core.Bool.{Bool, true, false}
use Prim.Native.Nat.{◌+◌, ◌≤◌}
use native.Mathlib.Omega.{arith}
use lib.ListN.{get_or}
use Rattle.bits.specs.Bits.{tally}
use Rattle.bits.proofs.Counting.{count-start, count_next}
use Rattle.vectors.specs.Vectors.{wbit}
use Rattle.flipping.specs.bounds.Reading.{hits}
use Rattle.samples.proofs.raising.broken_of.Goals as goal

small : (b : Bool) → tally b ≤ 1
small true = omega arith
small false = omega arith

pub loop-e-init : goal.loop-e-init
loop-e-init c = (omega arith, omega arith, count-start _)

pub loop-e-preserved : goal.loop-e-preserved
loop-e-preserved c =
    let a = c.args in
    let l = c.loop-e in (
      omega arith,
      omega (arith, l.invariant.1, c.from-broken.ensures, small c.is_set.result),
      ap (λ z. z + c.from-broken.result) l.invariant.2
          ∙ ap (λ z. hits (wbit a.d.now) a.starts.now a.from l.e a.k + z)
          (c.from-broken.ensures ∙ ap tally c.is_set.ensures)
          ∙ sym (count_next l.e (λ e. wbit a.d.now (get_or a.starts.now (a.from + e) 0 + a.k))),
    )
