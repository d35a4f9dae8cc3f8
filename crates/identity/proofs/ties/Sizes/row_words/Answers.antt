-- `ties::Sizes::row_words` meets its contract: the product of two sizes.
use mathlib.Core.Path.{ap}
use Prim.Native.Nat.{ℕ, ◌*◌, ◌≤◌}
use native.Mathlib.Nat.{mul-le-mul}
use native.Mathlib.Omega.{arith}
use Rattle.identity.proofs.ties.Sizes.row_words.Goals as goal

pub overflow_mul-result : goal.overflow_mul-result
overflow_mul-result c =
    let p : c.args.self.parity_blocks ≤ 65535 = omega arith in
    let w : c.words.result ≤ 1024 = omega arith in
    omega (arith, mul-le-mul p w)

pub returns : goal.returns
returns c = ap (λ (w : ℕ). c.args.self.parity_blocks * w) c.words.ensures
