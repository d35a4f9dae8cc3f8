-- The number of each refusal, as C gets it.
use Rattle.std.specs.Prelude.{ℕ, Result, Ok, Err}
use Rattle.refusals.specs.declared.Refusal.{Refusal}
use Rattle.refusals.specs.declared.Refusal.TheVariants.{Code, InputLength, OutputLength, LastSix, Stuck, Limit, Unsent, Parity, Broken}
use Rattle.refusals.specs.declared.Refusal.TheVariants.{Places, NoStart, NoTail, NoBchWord, LastTwo, OtherParity, Sample, NoneNear, Reach}
use Rattle.refusals.specs.declared.Refusal.TheVariants.{Edition, TooLong, BlockCheck, BlockNumber, BlockCount}

abbrev pub number_of : Refusal → ℕ
number_of Code = 1
number_of InputLength = 2
number_of OutputLength = 3
number_of LastSix = 4
number_of Stuck = 5
number_of Limit = 6
number_of Unsent = 7
number_of Parity = 8
number_of Broken = 9
number_of Places = 10
number_of NoStart = 11
number_of NoTail = 12
number_of NoBchWord = 13
number_of LastTwo = 14
number_of OtherParity = 15
number_of Sample = 16
number_of NoneNear = 17
number_of Reach = 18
number_of Edition = 19
number_of TooLong = 20
number_of BlockCheck = 21
number_of BlockNumber = 22
number_of BlockCount = 23

-- What is done has the number 0.
abbrev pub number_in : {A : Type 0} → Result A Refusal → ℕ
number_in (Ok x) = 0
number_in (Err refusal) = number_of refusal
