-- No refusal has the number 0.
use mathlib.Core.Path.{◌≡◌}
use native.Mathlib.Omega.{arith}
use Rattle.refusals.specs.declared.Refusal.{Refusal}
use Rattle.refusals.specs.declared.Refusal.TheVariants.{Code, InputLength, OutputLength, LastSix, Stuck, Limit, Unsent, Parity, Broken}
use Rattle.refusals.specs.declared.Refusal.TheVariants.{Places, NoStart, NoTail, NoBchWord, LastTwo, OtherParity, Sample, NoneNear, Reach}
use Rattle.refusals.specs.declared.Refusal.TheVariants.{Edition, TooLong, BlockCheck, BlockNumber, BlockCount}
use Rattle.refusals.specs.Numbers.{number_of}

pub some : (refusal : Refusal) → number_of refusal ≡ 0 → ⊥
some Code e = omega arith
some InputLength e = omega arith
some OutputLength e = omega arith
some LastSix e = omega arith
some Stuck e = omega arith
some Limit e = omega arith
some Unsent e = omega arith
some Parity e = omega arith
some Broken e = omega arith
some Places e = omega arith
some NoStart e = omega arith
some NoTail e = omega arith
some NoBchWord e = omega arith
some LastTwo e = omega arith
some OtherParity e = omega arith
some Sample e = omega arith
some NoneNear e = omega arith
some Reach e = omega arith
some Edition e = omega arith
some TooLong e = omega arith
some BlockCheck e = omega arith
some BlockNumber e = omega arith
some BlockCount e = omega arith
