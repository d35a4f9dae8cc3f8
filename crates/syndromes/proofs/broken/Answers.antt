-- `syndromes::broken` meets its contract: the ones of a syndrome are its broken checks. Assumes nothing.
use mathlib.Core.Path.{ap, ◌∙◌}
use Prim.Native.Nat.{◌*◌}
use native.Mathlib.Omega.{arith}
use lib.ListN.{length}
use Rattle.bits.specs.Bits.{count}
use Rattle.bits.proofs.Counting.{count-le}
use Rattle.vectors.specs.Vectors.{wbit}
use Rattle.syndromes.proofs.Laid.{laid_count}
use Rattle.syndromes.proofs.broken.Goals as goal

pub overflow_cast-result : goal.overflow_cast-result
overflow_cast-result c =
    let z = c.args.z.now in
    omega (arith, c.ones.ensures, count-le (64 * length z) (wbit z))

pub returns : goal.returns
returns c code h sh x fit lent e =
    let long = 64 * length c.args.z.now in
    c.ones.ensures ∙ ap (count long) e ∙ laid_count h sh fit code lent x long (omega arith)
