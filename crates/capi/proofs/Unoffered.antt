-- Every call that takes a code number, and gives a number, gives 1 for a code that is not offered: codes 0 and 6 of the paper's cases, and
-- all others.
use mathlib.Core.Path.{◌≡◌, refl, ap, ◌∙◌, subst}
use mathlib.Core.Bool.{Bool, true, false}
use mathlib.Core.List.{List}
use Prim.Native.Nat.{ℕ}
use lib.Dec.{T}
use lib.Ieee.{Float}
use Rattle.rules.specs.Codes.{offered}
use Rattle.answers.specs.Calls.{refused_correct_of}
use Rattle.answers.proofs.Cases.{Holds, unoffered, none_offered}
use Rattle.quick.specs.Quick.{refused_quick, quick_answer}
use Rattle.samples.specs.Answers.{samples_answer}
use Rattle.units.specs.unitrules.Units.{unit_code, write_answer, reading_from, reader_answer, Reading, handed_again_of, read_answer}
use Rattle.units.proofs.unitrules.Shapes.{unit_offered}
use Rattle.units.proofs.unitrules.Answering.{not_isnt, number_one, read_one}

pub record Refuses (n : ℕ) : Type 0 where
  -- encode, check, open, correct, step and list
  pub codes : Holds (unoffered n)
  pub quick : (word : List ℕ) → quick_answer n word ≡ refused_quick 1
  pub samples : (samples : List Float) (limit : ℕ) (out : List ℕ) → samples_answer n samples limit out ≡ refused_correct_of out 1
  pub writer : (information out : List ℕ) → write_answer n information out ≡ record { number = 1; out = out }
  pub reader : (unit : List ℕ) (limit : ℕ) → reader_answer n unit limit ≡ reading_from 1 n limit 0
  pub read : (s : Reading) → s.code ≡ n → (unit out : List ℕ) → read_answer s unit out ≡ handed_again_of s (refused_correct_of out 1) false

no_unit : (n : ℕ) → offered n ≡ false → unit_code n ≡ false
no_unit n e = go (unit_code n) refl
  where
    go : (b : Bool) → unit_code n ≡ b → unit_code n ≡ false
    go false f = f
    go true f = absurd (subst T e (unit_offered n f))

pub every_call : (n : ℕ) → offered n ≡ false → Refuses n
unfolding quick_answer samples_answer write_answer
every_call n e = record {
  codes = none_offered n e;
  quick = λ word. rw e refl;
  samples = λ samples limit out. rw e refl;
  writer = λ information out. not_isnt (unit_code n) _ _ (no_unit n e);
  reader = λ unit limit. ap (λ k. reading_from k n limit 0) (number_one n unit (no_unit n e));
  read = λ s is unit out. read_one s unit out (ap unit_code is ∙ no_unit n e);
}

-- codes 0 and 6
pub zero_and_six : Refuses 0 × Refuses 6
zero_and_six = (every_call 0 refl, every_call 6 refl)
