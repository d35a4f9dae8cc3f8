-- A quick no: the checks read in order up to the first broken one, and the answer of the call.
use Rattle.std.specs.Prelude.{Bool, true, false, List, ℕ, zero, suc, length}
use Rattle.bits.specs.Bits.{bit, when◌then◌else◌}
use Rattle.rules.specs.Codes.{code, checks, offered}
use Rattle.rules.specs.Checks.{check}
use Rattle.rules.specs.Encoding.{lifted}
use Rattle.answers.specs.Calls.{refusal, unless}

-- What was read: whether every check was met, and how many checks were evaluated.
pub record Read : Type 0 where
  pub yes : Bool
  pub evaluated : ℕ

-- One check was read before.
abbrev pub one_more : Read → Read
one_more r = record { yes = r.yes; evaluated = suc r.evaluated }

-- Reads n checks in order and stops at the first broken one. `broken` says of each check whether it is broken.
unfoldable pub read : ℕ → (ℕ → Bool) → Read
read zero broken = record { yes = true; evaluated = 0 }
read (suc n) broken =
    when broken 0 then record { yes = false; evaluated = 1 }
    else one_more (read n (λ k. broken (suc k)))

-- The call gives yes or no, and reports how many checks it evaluated.
pub record Quick : Type 0 where
  pub number : ℕ
  pub yes : Bool
  pub evaluated : ℕ

-- Refusals: 1 and 2, with no and 0.
abbrev pub refused_quick : ℕ → Quick
refused_quick number = record { number = number; yes = false; evaluated = 0 }

abbrev pub as_read : Read → Quick
as_read r = record { number = 0; yes = r.yes; evaluated = r.evaluated }

-- A word of the code's length: all its checks, as check has them.
abbrev pub quick_from : ℕ → List ℕ → Quick
quick_from n word =
    let c = code n in
    as_read (read (checks c) (check c (lifted c (bit word))))

unfoldable pub quick_answer : ℕ → List ℕ → Quick
quick_answer n word = unless (refusal (offered n) (length word) (code n).octets_of_word 0 0) refused_quick (quick_from n word)
