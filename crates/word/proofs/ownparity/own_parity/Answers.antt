-- `ownparity::own_parity` meets its contract: its answer is that of the test, which decides. Assumes nothing.
use mathlib.Core.Path.{◌≡◌, sym, ap₂, ◌∙◌}
use Prim.Native.Nat.{ℕ, ◌+◌}
use lib.Dec.{eqb}
use Rattle.vectors.specs.Vectors.{wbit}
use Rattle.word.specs.ownparity.Odd.{odd_together_of, even_together}
use Rattle.word.proofs.ownparity.Words.{neither}
use Rattle.word.proofs.ownparity.Near.{own_even, even_own}
use Rattle.word.proofs.ownparity.own_parity.Goals as goal

pub returns : goal.returns
returns c =
    let x = wbit c.args.y.now in
    let odd = c.odd_together-odd in
    let are = odd.ensures x c.odd_blocks.ensures in
    let answer : eqb (odd.result.first + odd.result.second) 0 ≡ even_together x =
    ap₂ (λ (m n : ℕ). eqb (m + n) 0) are.0 are.1 ∙ neither (odd_together_of x 0) (odd_together_of x 1) in
    λ octets_of_word octets_of_information unsent met. (
      λ t. even_own octets_of_word octets_of_information unsent x met (sym answer ∙ t),
      λ own. answer ∙ own_even octets_of_word octets_of_information unsent x own,
    )
