-- Encode: the information's spare bits, and the word that is written.
use mathlib.Core.Path.{◌≡◌, refl, sym, ap, ap₂, ◌∙◌, subst, fun_ext}
use mathlib.Core.Bool.{Bool, true, false, not, ◌&&◌, true≢false}
use mathlib.Core.List.{List}
use Prim.Native.Nat.{ℕ, zero, suc, ◌+◌, ◌-◌, ◌*◌, ◌/◌, ◌%◌, ◌^◌, ◌≤◌, ◌<◌}
use native.Mathlib.Nat.{lt_of_not-le}
use native.Mathlib.Decide.{dec_lt}
use native.Mathlib.Omega.{arith}
use lib.Dec.{T, eqb}
use lib.ListN.{length, get_or}
use borrow.Author.Tests.{eq-eqb, eqb-true, lt-ltb, le-ltb}
use Rattle.bits.specs.Bits.{digit, bit}
use Rattle.rules.specs.Codes.{code, code1, code2, code3, code4, code5, information, offered}
use Rattle.rules.specs.Tables.{generator16, generator32, generator64, generator511}
use Rattle.rules.specs.Encoding.{lifted}
use Rattle.answers.specs.Calls.{six_set_of}
use Rattle.bits.proofs.Octets.{bit_past}
use Rattle.rules.proofs.Codewords.{lifted_sent_bit}
use Rattle.rules.proofs.Numbers.{five, published}
use Rattle.vectors.specs.Vectors.{up_to}
use Rattle.catalogue.specs.declared.offer.Offer.{Offer}
use Rattle.catalogue.specs.offer.Offers.{offer_of}
use Rattle.catalogue.proofs.offer.Offers.{is_offered}

-- ---- the spare bits, by the code's record

-- every number is a multiple of 1
one_divides : (x : ℕ) → not (eqb (x % 1) 0) ≡ false
one_divides x = ap not (eq-eqb (x % 1) 0 (omega arith))

pub six_is : (n : ℕ) → offered n ≡ true → {o : Offer} → o ≡ offer_of n → (info : List ℕ)
    → not (eqb (get_or info (o.information - 1) 0 % o.multiple) 0) ≡ six_set_of n info
six_is n off {o} is info =
    ap (λ z. not (eqb (get_or info (z.information - 1) 0 % z.multiple) 0)) is
    ∙ five (λ k. not (eqb (get_or info ((offer_of k).information - 1) 0 % (offer_of k).multiple) 0) ≡ six_set_of k info)
    (one_divides (get_or info 7 0)) (one_divides (get_or info 15 0)) (one_divides (get_or info 31 0)) refl
    (one_divides (get_or info 891 0)) n
    (is_offered n off)

-- ---- the information's octets hold the information bits and no more

abbrev Spare : ℕ → Type 0
Spare n = (i : ℕ) → information (code n) - (code n).unsent ≤ i → i < 8 * (code n).octets_of_information → n ≡ 4

-- only code 4's octets hold more bits than its information has
spare : (n : ℕ) → T (offered n) → Spare n
unfolding code code1 code2 code3 code4 code5 generator16 generator32 generator64 generator511
spare = five Spare (λ i l h. absurd (omega arith)) (λ i l h. absurd (omega arith)) (λ i l h. absurd (omega arith)) (λ i l h. refl)
    (λ i l h. absurd (omega arith))

-- its last six bits are 0
last_six : (v k : ℕ) → v % 64 ≡ 0 → 2 ≤ k → k < 8 → digit 8 v k ≡ false
last_six v k e l h = go k l h
  where
    at : (j : ℕ) → v / 2 ^ j % 2 ≡ 0 → eqb (v / 2 ^ j % 2) 1 ≡ false
    at j q = ap (λ z. eqb z 1) q

    go : (k : ℕ) → 2 ≤ k → k < 8 → digit 8 v k ≡ false
    go zero l h = absurd (omega arith)
    go (suc zero) l h = absurd (omega arith)
    go (suc (suc zero)) l h = at 5 (omega arith)
    go (suc (suc (suc zero))) l h = at 4 (omega arith)
    go (suc (suc (suc (suc zero)))) l h = at 3 (omega arith)
    go (suc (suc (suc (suc (suc zero))))) l h = at 2 (omega arith)
    go (suc (suc (suc (suc (suc (suc zero)))))) l h = at 1 (omega arith)
    go (suc (suc (suc (suc (suc (suc (suc zero))))))) l h = at 0 (omega arith)
    go (suc (suc (suc (suc (suc (suc (suc (suc k)))))))) l h = absurd (omega arith)

four_sizes : (information (code 4) - (code 4).unsent ≡ 7154) × ((code 4).octets_of_information ≡ 895)
unfolding code code4 generator511
four_sizes = (refl, refl)

module _ (n : ℕ) (off : offered n ≡ true) (info : List ℕ) (long : length info ≡ (code n).octets_of_information)
    (six : six_set_of n info ≡ false) where
  six_zero : n ≡ 4 → get_or info 894 0 % 64 ≡ 0
  six_zero e = go (eqb (get_or info 894 0 % 64) 0) refl
    where
      go : (b : Bool) → eqb (get_or info 894 0 % 64) 0 ≡ b → get_or info 894 0 % 64 ≡ 0
      go true q = eqb-true (get_or info 894 0 % 64) 0 q
      go false q = absurd (true≢false (sym (ap₂ (λ a b. a && not b) (eq-eqb n 4 e) q) ∙ six))

  past : (i : ℕ) → information (code n) - (code n).unsent ≤ i → bit info i ≡ false
  past i l = go (dec_lt i (8 * (code n).octets_of_information))
    where
      go : Dec (i < 8 * (code n).octets_of_information) → bit info i ≡ false
      go (yes h) =
          let e : n ≡ 4 = spare n (is_offered n off) i l h in
          let low : 7154 ≤ i = subst (λ z. z ≤ i) four_sizes.0 (subst (λ k. information (code k) - (code k).unsent ≤ i) e l) in
          let high : i < 7160 = subst (λ z. i < 8 * z) four_sizes.1 (subst (λ k. i < 8 * (code k).octets_of_information) e h) in
          let q : i / 8 ≡ 894 = omega arith in
          ap (λ z. digit 8 (get_or info z 0) (i % 8)) q ∙ last_six (get_or info 894 0) (i % 8) (six_zero e) (omega arith) (omega arith)
      go (no g) = bit_past info i (omega (arith, long, lt_of_not-le g))

  pub information_only : lifted (code n) (bit info) ≡ up_to (information (code n)) (lifted (code n) (bit info))
  information_only = fun_ext (λ i. go i (dec_lt i (information (code n))))
    where
      go : (i : ℕ) → Dec (i < information (code n))
          → lifted (code n) (bit info) i ≡ up_to (information (code n)) (lifted (code n) (bit info)) i
      go i (yes l) = sym (ap (λ b. b && lifted (code n) (bit info) i) (lt-ltb i (information (code n)) l))
      go i (no g) =
          let e : i - (code n).unsent + (code n).unsent ≡ i = omega (arith, lt_of_not-le g, (published n (is_offered n off)).before) in
          ap (lifted (code n) (bit info)) (sym e) ∙ lifted_sent_bit (code n) (bit info) (i - (code n).unsent)
          ∙ past (i - (code n).unsent) (omega (arith, lt_of_not-le g))
          ∙ sym (ap (λ b. b && lifted (code n) (bit info) i) (le-ltb i (information (code n)) (omega (arith, lt_of_not-le g))))
