-- What the functions speak of between octets and answers, and the calls' results as the definition's answers.
use Rattle.std.specs.Prelude.{◌&&◌, List, ℕ, eqb, leb, ltb, Result, Ok, Err}
use Rattle.bits.specs.Bits.{Word, ◌⊕◌}
use Rattle.bch.specs.Bch.{remainder, refused, Encoded, Mended as MendedAnswer}
use Rattle.refusals.specs.declared.Refusal.{Refusal}
use Rattle.refusals.specs.Numbers.{number_of}
use Rattle.bch.specs.declared.Mended.{Mended}

-- The word with its seven parity bits inverted once more: a codeword's is divided without remainder.
abbrev pub upright : Word → Word
upright x k = x k ⊕ (leb 56 k && ltb k 63)

-- What is left of a word in which bit i alone is set.
abbrev pub alone : ℕ → ℕ
alone i = remainder 63 (λ k. eqb k i)

abbrev pub as_encoded : ℕ → List ℕ → Encoded
as_encoded number out = record { number = number; out = out }

-- How many bits were mended, as the answer.
abbrev pub as_judged : Result ℕ Refusal → List ℕ → MendedAnswer
as_judged (Ok mended) out = record { number = 0; mended = mended; out = out }
as_judged (Err refusal) out = refused (number_of refusal) out

-- the output octets afterwards are part of the answer
abbrev pub as_mended : Mended → List ℕ → MendedAnswer
as_mended r out = record { number = r.number; mended = r.mended; out = out }
