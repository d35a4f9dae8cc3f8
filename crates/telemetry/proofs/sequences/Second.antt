-- The second sequence.
use mathlib.Core.Path.{◌≡◌, refl, sym, ap, ap₂, ◌∙◌}
use mathlib.Core.Bool.{Bool, true, false}
use mathlib.Core.List.{List, [], ◌∷◌}
use Prim.Native.Nat.{ℕ, ◌+◌, ◌-◌, ◌*◌, ◌≤◌, ◌<◌}
use native.Mathlib.Nat.{add-zero, lt_of_not-le}
use native.Mathlib.Decide.{dec_lt}
use native.Mathlib.Omega.{arith}
use lib.Bits.{bit_xor, xor_lt}
use lib.Dec.{T}
use lib.ListN.{length, get_or, set}
use lib.Seq.{get_or-set_same, get_or-set_other}
use Rattle.bits.specs.Bits.{Word, number, ◌⊕◌}
use Rattle.bits.proofs.Sums.{⊕-false}
use Rattle.bits.proofs.Octets.{digit_number, number_lt}
use Rattle.vectors.proofs.Places.{digit_xor, same_digits}
use Rattle.randomiser.specs.Randomiser.{register, sequence, sequence_octet}
use Rattle.randomiser.proofs.Sequences.{within, walked, walked_octets, sequence_next}
use Rattle.telemetry.specs.sequences.Telemetry.{second, Begins}

pub second_within : T (within second.powers (length second.first))
unfolding second
second_within = tt

second_some : 8 ≤ length second.first
unfolding second
second_some = omega arith

-- it starts 1C 71 B9 1B A9 BA 84 57
pub second_starts : (sequence_octet second 0 ∷ sequence_octet second 1 ∷ sequence_octet second 2 ∷ sequence_octet second 3
    ∷ sequence_octet second 4 ∷ sequence_octet second 5 ∷ sequence_octet second 6 ∷ sequence_octet second 7 ∷ [])
    ≡ 0x1C ∷ 0x71 ∷ 0xB9 ∷ 0x1B ∷ 0xA9 ∷ 0xBA ∷ 0x84 ∷ 0x57 ∷ []
unfolding register second number
second_starts = refl

-- its rule
pub second_next : (n : ℕ) → sequence second (n + 17) ≡ sequence second (n + 14) ⊕ sequence second n
unfolding second
second_next n =
    sequence_next second (omega arith) tt n
    ∙ ap (λ z. sequence second (n + 14) ⊕ z) (⊕-false (sequence second (n + 0)) ∙ ap (sequence second) (add-zero n))

-- ---- the rule at twice the distance

Lags : Word → ℕ → ℕ → Type 0
Lags s far near = (n : ℕ) → s (n + far) ≡ s (n + near) ⊕ s n

cancel : (a b c : Bool) → (a ⊕ b) ⊕ (b ⊕ c) ≡ a ⊕ c
cancel true true true = refl
cancel true true false = refl
cancel true false true = refl
cancel true false false = refl
cancel false true true = refl
cancel false true false = refl
cancel false false true = refl
cancel false false false = refl

lags_twice : (s : Word) (far near : ℕ) → Lags s far near → Lags s (2 * far) (2 * near)
unfolding Lags
lags_twice s far near h n =
    let e1 : n + 2 * far ≡ n + far + far = omega arith in
    let e2 : n + far + near ≡ n + near + far = omega arith in
    let e3 : n + near + near ≡ n + 2 * near = omega arith in
    ap s e1 ∙ h (n + far)
    ∙ ap₂ (λ a b. a ⊕ b) (ap s e2 ∙ h (n + near) ∙ ap (λ z. s z ⊕ s (n + near)) e3) (h n)
    ∙ cancel (s (n + 2 * near)) (s (n + near)) (s n)

second_far : (n : ℕ) → sequence second (n + 1088) ≡ sequence second (n + 896) ⊕ sequence second n
unfolding Lags
second_far =
    let s = sequence second in
    lags_twice s 544 448 (lags_twice s 272 224 (lags_twice s 136 112 (lags_twice s 68 56
    (lags_twice s 34 28 (lags_twice s 17 14 second_next)))))

-- ---- octet by octet

pub second_octet : (k : ℕ) → sequence_octet second (k + 136) ≡ bit_xor (sequence_octet second (k + 112)) (sequence_octet second k)
second_octet k =
    same_digits 8 (sequence_octet second (k + 136)) (bit_xor (sequence_octet second (k + 112)) (sequence_octet second k))
    (number_lt 8 (λ i. sequence second (8 * (k + 136) + i)))
    (xor_lt 8 (sequence_octet second (k + 112)) (sequence_octet second k) (number_lt 8 (λ i. sequence second (8 * (k + 112) + i)))
    (number_lt 8 (λ i. sequence second (8 * k + i))))
    (λ i l.
    let e1 : 8 * (k + 136) + i ≡ 8 * k + i + 1088 = omega arith in
    let e2 : 8 * k + i + 896 ≡ 8 * (k + 112) + i = omega arith in
    digit_number 8 (λ i. sequence second (8 * (k + 136) + i)) i l
    ∙ ap (sequence second) e1 ∙ second_far (8 * k + i) ∙ ap (λ z. sequence second z ⊕ sequence second (8 * k + i)) e2
    ∙ sym (digit_xor 8 (sequence_octet second (k + 112)) (sequence_octet second k) i
    ∙ ap₂ (λ a b. a ⊕ b) (digit_number 8 (λ i. sequence second (8 * (k + 112) + i)) i l)
    (digit_number 8 (λ i. sequence second (8 * k + i)) i l)))

pub start_octet : (i : ℕ) → i < 136 → get_or (walked second.powers 136 second.first) i 0 ≡ sequence_octet second i
start_octet i h = walked_octets second second_some 136 i h

-- one octet more, from two before it
pub one_more : (octets : List ℕ) (i : ℕ) → 136 ≤ i → i < length octets → Begins i octets
    → Begins (i + 1) (set octets i (bit_xor (get_or octets (i - 24) 0) (get_or octets (i - 136) 0)))
one_more octets i far here known j l = go (dec_lt j i)
  where
    v : ℕ
    v = bit_xor (get_or octets (i - 24) 0) (get_or octets (i - 136) 0)

    go : Dec (j < i) → get_or (set octets i v) j 0 ≡ sequence_octet second j
    go (yes h) = get_or-set_other octets i j v 0 (λ e. absurd (omega arith)) ∙ known j h
    go (no h) =
        let e : j ≡ i = omega (arith, lt_of_not-le h) in
        let k = i - 136 in
        let e1 : i - 24 ≡ k + 112 = omega arith in
        let e2 : k + 136 ≡ i = omega arith in
        ap (λ z. get_or (set octets i v) z 0) e ∙ get_or-set_same octets i v 0 here
        ∙ ap₂ bit_xor (known (i - 24) (omega arith) ∙ ap (sequence_octet second) e1) (known k (omega arith))
        ∙ sym (second_octet k) ∙ ap (sequence_octet second) (e2 ∙ sym e)
