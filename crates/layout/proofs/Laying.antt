-- A check as the engine holds it. Assumes nothing.
use mathlib.Core.Path.{◌≡◌, ap, ap₂, ◌∙◌}
use mathlib.Core.Bool.{◌&&◌}
use Prim.Native.Nat.{ℕ, ◌+◌, ◌-◌, ◌*◌, ◌/◌, ◌%◌, ◌≤◌, ◌<◌}
use native.Mathlib.Nat.{div-eq_of_lt-le, mod_def}
use native.Mathlib.Omega.{arith}
use borrow.Author.Tests.{lt-ltb}
use lib.Dec.{ltb}
use Rattle.bits.specs.Bits.{Word}
use Rattle.rules.specs.Codes.{Code}
use Rattle.rules.specs.Checks.{check}
use Rattle.layout.specs.declared.Shape.{Shape}
use Rattle.layout.specs.Lent.{laid}

pub laid_at : (c : Code) (sh : Shape) (x : Word) (r i : ℕ) → r < sh.rows → i < sh.size → sh.size ≤ 64 * sh.words
    → laid c sh x (64 * (r * sh.words) + i) ≡ check c x (r * sh.size + i)
unfolding laid
laid_at c sh x r i hr hi fits =
    let wide = 64 * sh.words in
    let n = 64 * (r * sh.words) + i in
    let whole : n / wide ≡ r = div-eq_of_lt-le wide (omega arith) (omega arith) in
    let rest : n % wide ≡ i = mod_def n wide ∙ ap (λ q. n - wide * q) whole ∙ left in
    ap₂ (λ q j. ltb q sh.rows && (ltb j sh.size && check c x (q * sh.size + j))) whole rest
    ∙ ap₂ (λ s t. s && (t && check c x (r * sh.size + i))) (lt-ltb r sh.rows hr) (lt-ltb i sh.size hi)
  where
    left : 64 * (r * sh.words) + i - 64 * sh.words * r ≡ i
    left = omega arith
