-- `quickwide::double_block`: cut out, and doubled. Assumes nothing.
use mathlib.Core.Path.{ap, ◌∙◌}
use native.Mathlib.Omega.{arith}
use Rattle.vectors.specs.Vectors.{wbit, from, twice}
use Rattle.vectors.proofs.Spans.{up_to_again}
use Rattle.quick.proofs.lowest_wide.double_block.Goals as goal

pub double-requires : goal.double-requires
double-requires c =
    let cut = c.cut in (
      up_to_again c.args.m (from c.args.p (wbit c.args.y.now)) (wbit cut.new.v) cut.ensures,
      c.requires.0,
      omega (arith, c.requires.1),
      omega (arith, c.requires.1, c.requires.3),
      omega (arith, c.requires.3),
    )

pub returns : goal.returns
returns c =
    c.double.ensures ∙ ap (twice c.args.m) c.cut.ensures
