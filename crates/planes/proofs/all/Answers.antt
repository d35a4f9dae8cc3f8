-- `planes::all` meets its contract: the three bits of the number, each at every place. Assumes nothing.
use mathlib.Core.Path.{ap}
use native.Mathlib.Omega.{arith}
use Rattle.bits.specs.Bits.{tally}
use Rattle.planes.specs.Counts.{value}
use Rattle.planes.proofs.Digits.{three_bits}
use Rattle.planes.proofs.all.Goals as goal

pub returns : goal.returns
unfolding value
returns c i hi =
    let v = c.args.v in
    omega (
      arith,
      three_bits v c.requires,
      ap tally (c.spread.ensures i hi),
      ap tally
          (c.spread-2.ensures i hi),
      ap tally (c.spread-3.ensures i hi),
    )
