-- Bits that are alike, and bits that are not.
use mathlib.Core.Path.{◌≡◌, refl, sym}
use mathlib.Core.Bool.{Bool, true, false, true≢false, beq}
use Rattle.bits.specs.Bits.{tally, ◌⊕◌}

pub alike : (a b : Bool) → beq a b ≡ true → tally (a ⊕ b) ≡ 0
alike true true e = refl
alike true false e = absurd (true≢false (sym e))
alike false true e = absurd (true≢false (sym e))
alike false false e = refl

pub apart : (a b : Bool) → beq a b ≡ false → tally (a ⊕ b) ≡ 1
apart true true e = absurd (true≢false e)
apart true false e = refl
apart false true e = refl
apart false false e = absurd (true≢false e)
