-- `onedigit::try_entries` meets its contract: no count is more than is tried. Assumes nothing.
use Prim.Native.Nat.{◌+◌, ◌*◌, ◌≤◌}
use native.Mathlib.Nat.{le_refl}
use native.Mathlib.Omega.{arith}
use lib.ListN.{length}
use Rattle.onedigit.specs.Wrong.{entry_wrong, entry_noticed_of}
use Rattle.bits.proofs.Counting.{count-le}
use Rattle.onedigit.proofs.Counts.{product_fits}
use Rattle.onedigit.proofs.try_entries.Goals as goal

pub returns : goal.returns
returns c =
    let a = c.args in
    let p = a.parity.now in
    let fits : length p * (a.sizes.m + 1) ≤ 65535 * 65536 = product_fits c.requires.1 (omega arith) in (
      omega (arith, c.entries_tried-tried.ensures, count-le (length p * (a.sizes.m + 1)) (entry_wrong a.sizes.m p)),
      omega (
        arith,
        c.entries_noticed-noticed.ensures.noticed a.sizes.m (le_refl a.sizes.m),
        count-le (length p * (a.sizes.m + 1)) (entry_noticed_of a.sizes a.sizes.m p a.generator.now),
      ),
    )
