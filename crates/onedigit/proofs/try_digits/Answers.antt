-- `onedigit::try_digits` meets its contract: no count is more than is tried. Assumes nothing.
use Prim.Native.Nat.{◌*◌, ◌≤◌}
use native.Mathlib.Nat.{le_refl}
use native.Mathlib.Omega.{arith}
use lib.ListN.{length}
use Rattle.onedigit.specs.Wrong.{digit_noticed_of}
use Rattle.bits.proofs.Counting.{count-le}
use Rattle.onedigit.proofs.Counts.{product_fits}
use Rattle.onedigit.proofs.try_digits.Goals as goal

pub overflow_mul-tried : goal.overflow_mul-tried
overflow_mul-tried c =
    let few : c.args.digits ≤ 65536 = omega (arith, c.requires.2) in
    omega (arith, product_fits c.requires.3 few)

pub overflow_mul-tried-2 : goal.overflow_mul-tried-2
overflow_mul-tried-2 c =
    let few : c.args.digits ≤ 65536 = omega (arith, c.requires.2) in
    omega (arith, product_fits c.requires.3 few)

pub returns : goal.returns
returns c =
    let a = c.args in
    let few : a.digits ≤ 65536 = omega (arith, c.requires.2) in
    let n = c.digits_noticed-noticed in
    let fits = product_fits c.requires.3 few in (
      omega (arith, fits),
      omega (
        arith,
        fits,
        n.ensures.noticed a.sizes.m (le_refl a.sizes.m),
        count-le (length a.generator.now * a.digits * 15)
            (digit_noticed_of a.sizes a.sizes.m a.digits a.parity.now a.generator.now),
      ),
    )
