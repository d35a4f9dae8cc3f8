-- What the functions speak of between octets and answers, and the call's result as the definition's answer.
use Rattle.std.specs.Prelude.{◌≡◌, List, [], ◌∷◌, ℕ, zero, suc, eqb, length, get_or, Option, Some, None, Result, Ok, Err}
use Rattle.bits.specs.Bits.{Word, when◌then◌else◌, octets}
use Rattle.rules.specs.Codes.{code}
use Rattle.rules.specs.Checks.{check}
use Rattle.vectors.specs.Vectors.{Holds}
use Rattle.nearest.specs.Nearest.{Found, none, list, places, flips, refused, Reached as ReachedAnswer}
use Rattle.nearest.specs.declared.Reached.{Reached}
use Rattle.nearest.specs.declared.Flips.{Flips}
use Rattle.refusals.specs.declared.Refusal.{Refusal}
use Rattle.refusals.specs.Numbers.{number_of}

-- The columns as the source has them.
abbrev pub column_list : List ℕ
column_list =
    0x8040002000088000 ∷ 0x4020001000044000 ∷ 0x2010000800022000 ∷ 0x1008000400011000 ∷
    0x0804000280000800 ∷ 0x0402000140000400 ∷ 0x0201800020000200 ∷ 0x8100400010000100 ∷
    0x4080200008000080 ∷ 0x2040100004000040 ∷ 0x1020080002000020 ∷ 0x0810040001000010 ∷
    0x0408020000800008 ∷ 0x0204010000400004 ∷ 0x0102008000200002 ∷ 0x0081004000100001 ∷
    0x0002C00000010001 ∷ 0x0001600080008000 ∷ 0x8000300040004000 ∷ 0x4000180020002000 ∷
    0x20000C0010001000 ∷ 0x1000060008000800 ∷ 0x0800030004000400 ∷ 0x0400018002000200 ∷
    0x020000C001000100 ∷ 0x0100006000800080 ∷ 0x0080003000400040 ∷ 0x0040001800200020 ∷
    0x0020000C00100010 ∷ 0x0010000600080008 ∷ 0x0008000300040004 ∷ 0x0004800100020002 ∷
    0x20008000C0000100 ∷ 0x1000400060000080 ∷ 0x0800200030000040 ∷ 0x0400100018000020 ∷
    0x020008000C000010 ∷ 0x0100040006000008 ∷ 0x0080020003000004 ∷ 0x0040010001800002 ∷
    0x0020008000C00001 ∷ 0x0010004000608000 ∷ 0x0008002000304000 ∷ 0x0004001000182000 ∷
    0x00020008000C1000 ∷ 0x0001000400060800 ∷ 0x8000000200030400 ∷ 0x4000000180010200 ∷
    0x0020000120009000 ∷ 0x0010800010004800 ∷ 0x0008400008002400 ∷ 0x0004200004001200 ∷
    0x0002100002000900 ∷ 0x0001080001000480 ∷ 0x8000040000800240 ∷ 0x4000020000400120 ∷
    0x2000010000200090 ∷ 0x1000008000100048 ∷ 0x0800004000080024 ∷ 0x0400002000040012 ∷
    0x0200001000020009 ∷ 0x0100000800018004 ∷ 0x0080000480004002 ∷ 0x0040000240002001 ∷
    0x0000800004002000 ∷ 0x0000400002001000 ∷ 0x0000200001000800 ∷ 0x0000100000800400 ∷
    0x0000080000400200 ∷ 0x0000040000200100 ∷ 0x0000020000100080 ∷ 0x0000010000080040 ∷
    0x0000008000040020 ∷ 0x0000004000020010 ∷ 0x0000002000010008 ∷ 0x0000001080000004 ∷
    0x0000000840000002 ∷ 0x0000000420000001 ∷ 0x0000000210008000 ∷ 0x0000000108004000 ∷
    0x8000000080000001 ∷ 0x4000000040008000 ∷ 0x2000000020004000 ∷ 0x1000000010002000 ∷
    0x0800000008001000 ∷ 0x0400000004000800 ∷ 0x0200000002000400 ∷ 0x0100000001000200 ∷
    0x0080000000800100 ∷ 0x0040000000400080 ∷ 0x0020000000200040 ∷ 0x0010000000100020 ∷
    0x0008000000080010 ∷ 0x0004000000040008 ∷ 0x0002000000020004 ∷ 0x0001000000010002 ∷
    0x1000800000008000 ∷ 0x0800400000004000 ∷ 0x0400200000002000 ∷ 0x0200100000001000 ∷
    0x0100080000000800 ∷ 0x0080040000000400 ∷ 0x0040020000000200 ∷ 0x0020010000000100 ∷
    0x0010008000000080 ∷ 0x0008004000000040 ∷ 0x0004002000000020 ∷ 0x0002001000000010 ∷
    0x0001000800000008 ∷ 0x8000000400000004 ∷ 0x4000000200000002 ∷ 0x2000000100000001 ∷
    0x8000004000040000 ∷ 0x4000002000020000 ∷ 0x2000001000010000 ∷ 0x1000000880000000 ∷
    0x0800000440000000 ∷ 0x0400000220000000 ∷ 0x0200000110000000 ∷ 0x0100800008000000 ∷
    0x0080400004000000 ∷ 0x0040200002000000 ∷ 0x0020100001000000 ∷ 0x0010080000800000 ∷
    0x0008040000400000 ∷ 0x0004020000200000 ∷ 0x0002010000100000 ∷ 0x0001008000080000 ∷ []

-- The 64 checks of a word in one number: a one for each that is broken.
abbrev pub Broken : ℕ → Word → Type 0
Broken z x = Holds z (check (code 1) x)

-- The lowest of the n bits from bit b on whose column is z; the bit behind them if there is none.
unfoldable pub lowest_from : ℕ → ℕ → ℕ → ℕ
lowest_from zero b z = b
lowest_from (suc n) b z = when eqb (get_or column_list b 0) z then b else lowest_from n (suc b) z

-- A list as the functions hold it.
abbrev pub flips_of : List ℕ → Flips
flips_of bits = record { count = length bits; bits = places bits }

unfoldable pub held : Found → Option Flips
held none = None
held (list bits) = Some (flips_of bits)

-- The word that a list which is held makes of a word.
abbrev pub held_flipped : Flips → Word → Word → Type 0
held_flipped l x y = (bits : List ℕ) → l ≡ flips_of bits → y ≡ flips bits x

-- The output octets where the word that it makes is handed out.
abbrev pub HandedOut : Flips → Word → List ℕ → Type 0
HandedOut l x out = (bits : List ℕ) → l ≡ flips_of bits → out ≡ octets 16 (flips bits x)

-- What a search gives, with the output octets afterwards.
abbrev pub as_searched : Result Flips Refusal → List ℕ → ReachedAnswer
as_searched (Ok l) out = record { number = 0; least = l.count; bits = l.bits; out = out }
as_searched (Err refusal) out = refused (number_of refusal) out

-- the output octets afterwards are part of the answer
abbrev pub as_reached : Reached → List ℕ → ReachedAnswer
as_reached r out = record { number = r.number; least = r.least; bits = r.bits; out = out }
