-- `magnitudes::with_flipped`: one bit more or less. Assumes nothing.
use mathlib.Core.Path.{ap, ◌∙◌}
use Rattle.bits.specs.Bits.{digit, ◌⊕◌}
use Rattle.vectors.proofs.Places.{digit_xor}
use Rattle.magnitudes.proofs.Masks.{one_bit}
use Rattle.magnitudes.proofs.with_flipped.Goals as goal

pub returns : goal.returns
returns c =
    let a = c.args in
    λ i l. digit_xor 64 a.v _ i ∙ ap (λ b. digit 64 a.v i ⊕ b) (one_bit a.n i c.requires l)
