-- What the frame check notices: a frame is n octets and the two of their check.
use mathlib.Core.Path.{◌≡◌, refl, sym, ap, ap₂, ◌∙◌, subst, fun_ext}
use mathlib.Core.Bool.{Bool, true, false}
use mathlib.Core.List.{List, [], ◌∷◌, ◌++◌}
use Prim.Native.Nat.{ℕ, suc, ◌+◌, ◌*◌, ◌/◌, ◌%◌, ◌≤◌, ◌<◌}
use native.Mathlib.Numerals.{add-one}
use native.Mathlib.Omega.{arith}
use lib.Dec.{T, eqb, eqb→eq}
use lib.ListN.{length, get_or, take, drop, replicate, length-append, length-replicate, drop_of_length-le}
use lib.Seq.{drop-cons, get_or-take, get_or-drop, length-take-le}
use borrow.Author.Tests.{eq-eqb, ne_eqb}
use Rattle.bits.specs.Bits.{Word, digit, bit, number, flipped, ◌⊕◌}
use Rattle.bits.proofs.Octets.{Octets, bit_past}
use Rattle.bits.proofs.Sums.{⊕-eq, ⊕-self, ⊕-false, ⊕-assoc}
use Rattle.blocks.specs.framecheck.FrameCheck.{coefficients, plus, remainder, value, frame_check, sound}
use Rattle.blocks.proofs.framecheck.Polynomials.{zeros, plus_comm, plus_assoc, plus_mid, plus_self, plus_longer, plus_le, plus_zeros}
use Rattle.blocks.proofs.framecheck.Polynomials.{plus_append, length_coefficients, coefficients_plus, coefficients_append}
use Rattle.blocks.proofs.framecheck.Polynomials.{coefficients_same, coefficients_zeros}
use Rattle.blocks.proofs.framecheck.Division.{remainder_zeros, remainder_plus, length_remainder}
use Rattle.blocks.proofs.framecheck.Places.{digit_high, digit_low_of, this_octet, next_octet}
use Rattle.blocks.proofs.framecheck.Registers.{register, register_value}
use Rattle.blocks.proofs.framecheck.Powers.{burst, two}

abbrev ones : List Bool
ones = replicate 16 true

-- ---- a sound frame is divided to zero

module _ (n : ℕ) (frame : List ℕ) (all : Octets frame) (long : length frame ≡ n + 2) where
  abbrev front : List ℕ
  front = take n frame

  abbrev high : ℕ
  high = get_or frame n 0

  abbrev low : ℕ
  low = get_or frame (n + 1) 0

  abbrev last : ℕ
  last = 256 * high + low

  front_long : length front ≡ n
  front_long = length-take-le n frame (omega arith)

  same_front : (k : ℕ) → k < 8 * n → bit frame k ≡ bit front k
  same_front k h = ap (λ o. digit 8 o (k % 8)) (sym (get_or-take n frame (k / 8) 0 (omega arith)))

  behind : drop n frame ≡ high ∷ low ∷ []
  behind =
      drop-cons frame n 0 (omega arith)
      ∙ ap (λ l. get_or frame n 0 ∷ l)
      (drop-cons frame (suc n) 0 (omega arith)
      ∙ ap₂ (λ a l. a ∷ l) (ap (λ z. get_or frame z 0) (sym (add-one n))) (drop_of_length-le frame {i = suc (suc n)} (omega arith)))

  bit_behind : (k : ℕ) → bit frame (8 * n + k) ≡ bit (high ∷ low ∷ []) k
  bit_behind k =
      ap₂ (λ q r. digit 8 (get_or frame q 0) r) quotient rest
      ∙ ap (λ o. digit 8 o (k % 8)) (sym (get_or-drop n frame (k / 8) 0))
      ∙ ap (λ l. bit l k) behind
    where
      quotient : (8 * n + k) / 8 ≡ n + k / 8
      quotient = omega arith

      rest : (8 * n + k) % 8 ≡ k % 8
      rest = omega arith

  last_bits : coefficients 16 (λ k. bit frame (8 * n + k)) ≡ register last
  last_bits =
      coefficients_same 16 (λ k. bit frame (8 * n + k)) (bit (high ∷ low ∷ [])) (λ k l. bit_behind k)
      ∙ coefficients_append 8 8 (bit (high ∷ low ∷ []))
      ∙ ap₂ (λ a b. a ++ b)
      (coefficients_same 8 (bit (high ∷ low ∷ [])) (digit 16 last)
      (λ k l. this_octet (low ∷ []) high k l ∙ ap (λ v. digit 8 v k) by256 ∙ digit_high last k l))
      (coefficients_same 8 (λ k. bit (high ∷ low ∷ []) (8 + k)) (λ k. digit 16 last (8 + k))
      (λ k l. next_octet (low ∷ []) high k ∙ this_octet [] low k l ∙ ap (λ v. digit 8 v k) left256 ∙ digit_low_of last k l))
      ∙ sym (coefficients_append 8 8 (digit 16 last))
    where
      small : low < 256
      small = all (n + 1)

      by256 : high ≡ last / 256
      by256 = omega (arith, small)

      left256 : low ≡ last % 256
      left256 = omega (arith, small)

  abbrev m : ℕ
  m = 8 * n

  abbrev A : List Bool
  A = coefficients m (bit front)

  whole : coefficients (m + 16) (bit frame) ≡ plus (A ++ zeros 16) (zeros m ++ register last)
  whole =
      coefficients_append m 16 (bit frame)
      ∙ ap₂ (λ a b. a ++ b) (coefficients_same m (bit frame) (bit front) same_front) last_bits
      ∙ sym (plus_append A (zeros 16) (zeros m) (register last) (length_coefficients m (bit front) ∙ sym (length-replicate m false))
      ∙ ap₂ (λ a b. a ++ b)
      (plus_comm A (zeros m) ∙ plus_zeros m A (omega (arith, length_coefficients m (bit front))))
      (plus_zeros 16 (register last) (omega (arith, length_coefficients 16 (digit 16 last)))))

  abbrev divided : List Bool
  divided = remainder m (plus ones (A ++ zeros 16))

  checked : frame_check front ≡ value divided
  unfolding frame_check
  checked =
      ap (λ z. value (remainder (8 * z) (plus ones (coefficients (8 * z + 16) (bit front))))) front_long
      ∙ ap (λ p. value (remainder m (plus ones p)))
      (coefficients_append m 16 (bit front)
      ∙ ap (λ l. A ++ l)
      (coefficients_same 16 (λ k. bit front (m + k)) (λ k. false) (λ k l. bit_past front (m + k) (omega (arith, front_long)))
      ∙ coefficients_zeros 16))

  abbrev syndrome : List Bool
  syndrome = remainder m (plus ones (coefficients (m + 16) (bit frame)))

  A-long : length (A ++ zeros 16) ≡ m + 16
  A-long = length-append A (zeros 16) ∙ ap (λ z. z + 16) (length_coefficients m (bit front))

  started : length (plus ones (A ++ zeros 16)) ≡ m + 16
  started = plus_longer ones (A ++ zeros 16) (omega (arith, A-long)) ∙ A-long

  syndrome_sum : syndrome ≡ plus divided (register last)
  syndrome_sum =
      ap (λ p. remainder m (plus ones p)) whole
      ∙ ap (remainder m) (sym (plus_assoc ones (A ++ zeros 16) (zeros m ++ register last)))
      ∙ remainder_plus m (plus ones (A ++ zeros 16)) (zeros m ++ register last) (omega (arith, started))
      (omega (arith, length-append (zeros m) (register last), length-replicate m false, length_coefficients 16 (digit 16 last)))
      ∙ ap (plus divided) (remainder_zeros m (register last))

  pub sound_zero : sound n frame ≡ true → syndrome ≡ zeros 16
  unfolding sound
  sound_zero s =
      syndrome_sum
      ∙ ap (plus divided) (ap register (sym (eqb→eq (frame_check front) last (subst T (sym s) tt)) ∙ checked)
      ∙ register_value divided divided_long)
      ∙ plus_self divided ∙ ap zeros divided_long
    where
      divided_long : length divided ≡ 16
      divided_long = length_remainder m 16 (plus ones (A ++ zeros 16)) (omega arith) started

-- ---- two sound frames

module _ (n : ℕ) (frame other : List ℕ) (all : Octets frame) (all' : Octets other) (long : length frame ≡ n + 2)
    (long' : length other ≡ n + 2)
    (s : sound n frame ≡ true) where
  abbrev wrong : Word
  wrong k = bit frame k ⊕ bit other k

  abbrev P : List Bool
  P = coefficients (8 * n + 16) (bit frame)

  abbrev Q : List Bool
  Q = coefficients (8 * n + 16) (bit other)

  P-long : length P ≡ 8 * n + 16
  P-long = length_coefficients (8 * n + 16) (bit frame)

  Q-long : length Q ≡ 8 * n + 16
  Q-long = length_coefficients (8 * n + 16) (bit other)

  difference : sound n other ≡ true → remainder (8 * n) (coefficients (8 * n + 16) wrong) ≡ zeros 16
  unfolding plus
  difference t =
      ap (remainder (8 * n))
      (coefficients_plus (8 * n + 16) (bit frame) (bit other)
      ∙ sym (plus_zeros 16 (plus P Q) (omega (arith, plus_le P Q, Q-long)))
      ∙ ap (λ x. plus x (plus P Q)) (sym (plus_self ones))
      ∙ plus_mid ones ones P Q)
      ∙ remainder_plus (8 * n) (plus ones P) (plus ones Q) (omega (arith, plus_le ones P, P-long)) (omega (arith, plus_le ones Q, Q-long))
      ∙ ap₂ plus (sound_zero n frame all long s) (sound_zero n other all' long' t)

  refuted : (sound n other ≡ true → ⊥) → sound n other ≡ false
  refuted h = go (sound n other) refl
    where
      go : (b : Bool) → sound n other ≡ b → sound n other ≡ false
      go true e = absurd (h e)
      go false e = e

  -- a burst: nothing differs before place a or from place a + 16 on, and the bit at k does
  pub burst_noticed : (a k : ℕ) → ((i : ℕ) → i < a → bit other i ≡ bit frame i) → ((i : ℕ) → a + 16 ≤ i → bit other i ≡ bit frame i)
      → k < 8 * (n + 2) → (bit other k ≡ bit frame k → ⊥) → sound n other ≡ false
  burst_noticed a k before behind h differs =
      refuted
      (λ t. differs
      (sym (⊕-eq (bit frame k) (bit other k) (burst (8 * n) wrong a (λ i l. equal i (before i l)) (λ i l. equal i (behind i l))
      (difference t) k (omega arith)))))
    where
      equal : (i : ℕ) → bit other i ≡ bit frame i → wrong i ≡ false
      equal i e = ap (λ b. bit frame i ⊕ b) e ∙ ⊕-self (bit frame i)

  -- one wrong bit
  pub one_noticed : (k : ℕ) → k < 8 * (n + 2) → bit other ≡ flipped (bit frame) k → sound n other ≡ false
  one_noticed k h e = burst_noticed k k (λ i l. same i (λ q. omega arith)) (λ i l. same i (λ q. omega arith)) h
      (λ q. unlike (sym q ∙ ap (λ w. w k) e))
    where
      same : (i : ℕ) → (i ≡ k → ⊥) → bit other i ≡ bit frame i
      same i d = ap (λ w. w i) e ∙ ap (λ b. bit frame i ⊕ b) (ne_eqb i k d) ∙ ⊕-false (bit frame i)

      unlike : bit frame k ≡ bit frame k ⊕ eqb k k → ⊥
      unlike q = not_flipped (bit frame k) (q ∙ ap (λ b. bit frame k ⊕ b) (eq-eqb k k refl))
        where
          not_flipped : (b : Bool) → b ≡ b ⊕ true → ⊥
          not_flipped true q = absurd (subst T q tt)
          not_flipped false q = absurd (subst T (sym q) tt)

  -- two wrong bits, in frames of up to 512 octets
  pub two_noticed : n + 2 ≤ 512 → (i j : ℕ) → i < j → j < 8 * (n + 2) → bit other ≡ flipped (flipped (bit frame) i) j
      → sound n other ≡ false
  two_noticed small i j h l e =
      refuted
      (λ t. two (8 * n) i j (omega arith) h (omega arith) (ap (λ w. remainder (8 * n) (coefficients (8 * n + 16) w))
      (fun_ext (λ k. sym (places k))) ∙ difference t))
    where
      places : (k : ℕ) → wrong k ≡ eqb k i ⊕ eqb k j
      places k =
          ap (λ w. bit frame k ⊕ w k) e
          ∙ ap (λ b. bit frame k ⊕ b) (⊕-assoc (bit frame k) (eqb k i) (eqb k j))
          ∙ sym (⊕-assoc (bit frame k) (bit frame k) (eqb k i ⊕ eqb k j))
          ∙ ap (λ b. b ⊕ (eqb k i ⊕ eqb k j)) (⊕-self (bit frame k))

-- ---- a computed case: the nine octets of 123456789

pub nine : frame_check (49 ∷ 50 ∷ 51 ∷ 52 ∷ 53 ∷ 54 ∷ 55 ∷ 56 ∷ 57 ∷ []) ≡ 10673
unfolding frame_check remainder coefficients plus number
nine = refl
