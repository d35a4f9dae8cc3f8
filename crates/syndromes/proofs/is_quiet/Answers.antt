-- `syndromes::is_quiet` meets its contract. Assumes nothing.
use mathlib.Core.Path.{ap, ◌∙◌}
use mathlib.Core.Bool.{not}
use Prim.Native.Nat.{ℕ, ◌*◌}
use native.Mathlib.Omega.{arith}
use lib.Dec.{ltb}
use lib.ListN.{length}
use Rattle.bits.specs.Bits.{count}
use Rattle.rules.specs.Checks.{broken}
use Rattle.syndromes.proofs.Laid.{laid_count, none_test}
use Rattle.syndromes.proofs.is_quiet.Goals as goal

pub returns : goal.returns
returns c code h sh x fit lent e =
    let long = 64 * length c.args.z.now in
    ap not (c.any.ensures ∙ ap (λ (n : ℕ). ltb 0 n) (ap (count long) e ∙ laid_count h sh fit code lent x long (omega arith)))
    ∙ none_test (broken code x)
