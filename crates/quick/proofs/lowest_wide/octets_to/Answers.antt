-- `quickwide::octets_to`: whole octets, or nine. Assumes nothing.
use mathlib.Core.Path.{◌≡◌, subst}
use Prim.Native.Nat.{◌*◌, ◌/◌}
use native.Mathlib.Omega.{arith}
use Rattle.bits.specs.Bits.{bit}
use Rattle.vectors.specs.Vectors.{Holds, from}
use Rattle.quick.proofs.lowest_wide.octets_to.Goals as goal

pub returns-then-p-eq0 : goal.returns-then-p-eq0
returns-then-p-eq0 c =
    let a = c.args in
    let e : 8 * (a.p / 8) ≡ a.p = omega (arith, c.if-p-eq0.true) in
    subst (λ p. Holds c.eight.result (from p (bit a.octets.now))) e c.eight.ensures
