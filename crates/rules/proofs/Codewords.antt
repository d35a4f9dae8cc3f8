-- Codewords, lifted words and sent words, for any published code.
use mathlib.Core.Path.{◌≡◌, refl, sym, ap, ap₂, ◌∙◌, fun_ext, subst}
use mathlib.Core.Bool.{Bool, true, false, not, ◌&&◌}
use mathlib.Core.List.{List}
use Prim.Native.Nat.{ℕ, zero, suc, ◌+◌, ◌-◌, ◌*◌, ◌/◌, ◌%◌, ◌≤◌, ◌<◌}
use native.Mathlib.Nat.{le_step, lt-suc_self, not-suc-le-zero, lt_of_not-le, lt_of_lt_of_le}
use native.Mathlib.Decide.{ℕ_discrete, dec_lt}
use native.Mathlib.Omega.{arith}
use lib.Dec.{T, ltb}
use lib.ListN.{length, take}
use lib.Seq.{get_or-take}
use borrow.Author.Tests.{lt-ltb, le-ltb}
use Rattle.bits.specs.Bits.{Word, digit, bit, octets, ◌⊕◌, agree, when◌then◌else◌}
use Rattle.rules.specs.Codes.{Code, bits, information, code5}
use Rattle.rules.specs.Checks.{covers, check, broken}
use Rattle.rules.specs.Encoding.{row_bit, parity_bit, encoded, lifted, sent, codeword, written, OwnParity}
use Rattle.bits.proofs.Sums.{⊕-eq, ⊕-self, sum_same}
use Rattle.bits.proofs.Octets.{bit_octets, octets_same, octets_bit, Octets}
use Rattle.rules.proofs.Published.{Published}

-- code 5: the unsent bits stand before the information, and the first bit sent comes next
pub unsent_before : lifted code5 (λ n. true) 17 ≡ false
unfolding lifted code5
unsent_before = refl

pub sent_next : lifted code5 (λ n. true) 18 ≡ true
unfolding lifted code5
sent_next = refl

-- ---- agreement

pub agree_all : (n : ℕ) (x y : Word) → ((i : ℕ) → i < n → x i ≡ y i) → agree n x y ≡ true
unfolding agree
agree_all zero x y h = refl
agree_all (suc n) x y h =
    ap₂ (λ a b. a && not (b ⊕ y n)) (agree_all n x y (λ i l. h i (le_step l))) (h n (lt-suc_self n)) ∙ ap not (⊕-self (y n))

pub all_agree : (n : ℕ) (x y : Word) → agree n x y ≡ true → (i : ℕ) → i < n → x i ≡ y i
unfolding agree
all_agree zero x y e i h = absurd (not-suc-le-zero h)
all_agree (suc n) x y e i h = go (agree n x y) (x n ⊕ y n) refl refl (all_agree n x y) (ℕ_discrete i n)
  where
    go : (a b : Bool) → agree n x y ≡ a → x n ⊕ y n ≡ b → (agree n x y ≡ true → (i : ℕ) → i < n → x i ≡ y i) → Dec (i ≡ n) → x i ≡ y i
    go true false p q ih (yes s) = ap x s ∙ ⊕-eq (x n) (y n) q ∙ ap y (sym s)
    go true false p q ih (no d) = ih p i (omega arith)
    go true true p q ih s = absurd (subst T (sym (sym (ap₂ (λ a b. a && not b) p q) ∙ e)) tt)
    go false b p q ih s = absurd (subst T (sym (sym (ap₂ (λ a b. a && not b) p q) ∙ e)) tt)

-- ---- what only some bits decide

module _ (c : Code) where
  pub parity_same : (x y : Word) → ((n : ℕ) → n < information c → x n ≡ y n) → (p : ℕ) → parity_bit c x p ≡ parity_bit c y p
  unfolding parity_bit
  parity_same x y h p = sum_same (information c) _ _ (λ n l. ap (λ z. z && row_bit c n p) (h n l))

  pub check_same : (x y : Word) → ((n : ℕ) → n < bits c → x n ≡ y n) → (k : ℕ) → check c x k ≡ check c y k
  unfolding check
  check_same x y h k = sum_same (bits c) _ _ (λ n l. ap (λ z. covers c k n && z) (h n l))

  -- ---- encoding

  pub encoded_information : (x : Word) (n : ℕ) → n < information c → encoded c x n ≡ x n
  unfolding encoded
  encoded_information x n h = ap (λ b. when b then x n else parity_bit c x (n - information c)) (lt-ltb n (information c) h)

  pub encoded_parity : (x : Word) (n : ℕ) → information c ≤ n → encoded c x n ≡ parity_bit c x (n - information c)
  unfolding encoded
  encoded_parity x n h = ap (λ b. when b then x n else parity_bit c x (n - information c)) (le-ltb n (information c) h)

  pub encoded_own : (x : Word) → OwnParity c (encoded c x)
  encoded_own x p l =
      let e : information c + p - information c ≡ p = omega arith in
      encoded_parity x (information c + p) (omega arith) ∙ ap (parity_bit c x) e
      ∙ parity_same x (encoded c x) (λ n h. sym (encoded_information x n h)) p

  pub own_encoded : (x : Word) → OwnParity c x → (n : ℕ) → n < bits c → encoded c x n ≡ x n
  own_encoded x own n h = go (dec_lt n (information c))
    where
      go : Dec (n < information c) → encoded c x n ≡ x n
      go (yes l) = encoded_information x n l
      go (no g) =
          let l : information c ≤ n = omega (arith, lt_of_not-le g) in
          let e : information c + (n - information c) ≡ n = omega arith in
          encoded_parity x n l ∙ sym (own (n - information c) (omega arith)) ∙ ap x e

  pub encoded_same : (x y : Word) → ((n : ℕ) → n < information c → x n ≡ y n) → encoded c x ≡ encoded c y
  encoded_same x y h = fun_ext (λ n. go n (dec_lt n (information c)))
    where
      go : (n : ℕ) → Dec (n < information c) → encoded c x n ≡ encoded c y n
      go n (yes l) = encoded_information x n l ∙ h n l ∙ sym (encoded_information y n l)
      go n (no g) =
          let l : information c ≤ n = omega (arith, lt_of_not-le g) in
          encoded_parity x n l ∙ parity_same x y h (n - information c) ∙ sym (encoded_parity y n l)

  -- ---- lifted and sent

  pub lifted_unsent : (y : Word) (n : ℕ) → n < c.unsent → lifted c y n ≡ false
  unfolding lifted
  lifted_unsent y n h = ap (λ b. not b && y (n - c.unsent)) (lt-ltb n c.unsent h)

  pub lifted_sent_bit : (y : Word) (n : ℕ) → lifted c y (n + c.unsent) ≡ y n
  unfolding lifted
  lifted_sent_bit y n =
      let e : n + c.unsent - c.unsent ≡ n = omega arith in
      ap (λ b. not b && y (n + c.unsent - c.unsent)) (le-ltb (n + c.unsent) c.unsent (omega arith)) ∙ ap y e

  pub sent_bit : (x : Word) (n : ℕ) → n < bits c - c.unsent → sent c x n ≡ x (n + c.unsent)
  unfolding sent
  sent_bit x n h = ap (λ b. b && x (n + c.unsent)) (lt-ltb n (bits c - c.unsent) h)

  pub sent_fill : (x : Word) (n : ℕ) → bits c - c.unsent ≤ n → sent c x n ≡ false
  unfolding sent
  sent_fill x n h = ap (λ b. b && x (n + c.unsent)) (le-ltb n (bits c - c.unsent) h)

  -- only the bits that the checks are over are sent
  pub sent-same : (x y : Word) → ((n : ℕ) → n < bits c → x n ≡ y n) → sent c x ≡ sent c y
  sent-same x y h = fun_ext (λ n. go n (dec_lt n (bits c - c.unsent)))
    where
      go : (n : ℕ) → Dec (n < bits c - c.unsent) → sent c x n ≡ sent c y n
      go n (yes l) = sent_bit x n l ∙ h (n + c.unsent) (omega arith) ∙ sym (sent_bit y n l)
      go n (no g) = sent_fill x n (omega (arith, lt_of_not-le g)) ∙ sym (sent_fill y n (omega (arith, lt_of_not-le g)))

  -- sending what was lifted gives the bits that the checks are over
  pub sent_lifted : (y : Word) (n : ℕ) → n < bits c - c.unsent → sent c (lifted c y) n ≡ y n
  sent_lifted y n h = sent_bit (lifted c y) n h ∙ lifted_sent_bit y n

  -- and lifting what is sent gives the bits that are sent
  pub lifted_back : (x : Word) (n : ℕ) → c.unsent ≤ n → n < bits c → lifted c (sent c x) n ≡ x n
  lifted_back x n l h =
      let e : n - c.unsent + c.unsent ≡ n = omega arith in
      ap (lifted c (sent c x)) (sym e) ∙ lifted_sent_bit (sent c x) (n - c.unsent) ∙ sent_bit x (n - c.unsent) (omega arith) ∙ ap x e

  -- so it gives the word, where its unsent bits are 0
  pub lifted_sent : (x : Word) → ((n : ℕ) → n < c.unsent → x n ≡ false) → (n : ℕ) → n < bits c → lifted c (sent c x) n ≡ x n
  lifted_sent x none n h = go (dec_lt n c.unsent)
    where
      go : Dec (n < c.unsent) → lifted c (sent c x) n ≡ x n
      go (yes l) = lifted_unsent (sent c x) n l ∙ sym (none n l)
      go (no g) = lifted_back x n (omega (arith, lt_of_not-le g)) h

module _ (c : Code) (pb : Published c) where
  -- the octets that are written have the bits that are sent
  pub bit_written : (x : Word) → bit (written c x) ≡ sent c x
  bit_written x = fun_ext (λ n. bit_octets c.octets_of_word (sent c x) n ∙ go n (dec_lt n (8 * c.octets_of_word)))
    where
      go : (n : ℕ) → Dec (n < 8 * c.octets_of_word) → (ltb n (8 * c.octets_of_word) && sent c x n) ≡ sent c x n
      go n (yes l) = ap (λ b. b && sent c x n) (lt-ltb n (8 * c.octets_of_word) l)
      go n (no g) =
          ap (λ b. b && sent c x n) (le-ltb n (8 * c.octets_of_word) (omega (arith, lt_of_not-le g)))
          ∙ sym (sent_fill c x n (omega (arith, pb.fits, lt_of_not-le g)))

  -- ---- codewords

  pub own_codeword : (x : Word) → OwnParity c x → ((n : ℕ) → n < c.unsent → x n ≡ false) → codeword c (sent c x) ≡ true
  unfolding codeword
  own_codeword x own none =
      agree_all (8 * c.octets_of_word) (sent c x) (sent c (encoded c (lifted c (sent c x))))
      (λ i l. ap (λ w. w i) (sent-same c x (encoded c (lifted c (sent c x))) (λ n h.
      sym (own_encoded c x own n h) ∙ ap (λ w. w n)
      (encoded_same c x (lifted c (sent c x)) (λ k k_lt. sym (lifted_sent c x none k (lt_of_lt_of_le k_lt pb.after)))))))

  module _ (y : Word) (is : codeword c y ≡ true) where
    pub codeword_bit : (n : ℕ) → n < 8 * c.octets_of_word → y n ≡ sent c (encoded c (lifted c y)) n
    unfolding codeword
    codeword_bit = all_agree (8 * c.octets_of_word) y (sent c (encoded c (lifted c y))) is

    pub codeword_own : OwnParity c (lifted c y)
    codeword_own p h =
        let e : information c + p - c.unsent + c.unsent ≡ information c + p = omega (arith, pb.before) in
        let l : information c + p - c.unsent < bits c - c.unsent = omega (arith, pb.before, pb.after) in
        let d : information c + p - information c ≡ p = omega arith in
        ap (lifted c y) (sym e) ∙ lifted_sent_bit c y (information c + p - c.unsent)
        ∙ codeword_bit (information c + p - c.unsent) (lt_of_lt_of_le l pb.fits)
        ∙ sent_bit c (encoded c (lifted c y)) (information c + p - c.unsent) l ∙ ap (encoded c (lifted c y)) e
        ∙ encoded_parity c (lifted c y) (information c + p) (omega arith) ∙ ap (parity_bit c (lifted c y)) d

    -- a codeword meets every check
    pub codeword_quiet : broken c (lifted c y) ≡ 0
    codeword_quiet = pb.own_quiet (lifted c y) codeword_own

    -- and is what is sent of its lifted bits
    pub codeword_sent : (n : ℕ) → n < 8 * c.octets_of_word → sent c (lifted c y) n ≡ y n
    codeword_sent n h = go (dec_lt n (bits c - c.unsent))
      where
        go : Dec (n < bits c - c.unsent) → sent c (lifted c y) n ≡ y n
        go (yes l) = sent_lifted c y n l
        go (no g) =
            let l : bits c - c.unsent ≤ n = omega (arith, lt_of_not-le g) in
            sent_fill c (lifted c y) n l ∙ sym (codeword_bit n h ∙ sent_fill c (encoded c (lifted c y)) n l)

  -- ---- the same of octets

  module _ (word : List ℕ) (long : length word ≡ c.octets_of_word) (is_octets : Octets word) where
    pub written_back : (x : Word) → ((n : ℕ) → n < 8 * c.octets_of_word → sent c x n ≡ bit word n) → written c x ≡ word
    written_back x h = octets_same c.octets_of_word (sent c x) (bit word) h ∙ ap (λ z. octets z (bit word)) (sym long)
        ∙ octets_bit word is_octets

    -- a codeword is what the encoder gives for its information octets
    pub codeword_encoded : codeword c (bit word) ≡ true
        → written c (encoded c (lifted c (bit (take c.octets_of_information word)))) ≡ word
    codeword_encoded is =
        ap (written c) (encoded_same c (lifted c (bit (take c.octets_of_information word))) (lifted c (bit word)) front)
        ∙ written_back (encoded c (lifted c (bit word))) (λ n h. sym (codeword_bit (bit word) is n h))
      where
        taken : (n : ℕ) → n < 8 * c.octets_of_information → bit (take c.octets_of_information word) n ≡ bit word n
        taken n h = ap (λ z. digit 8 z (n % 8)) (get_or-take c.octets_of_information word (n / 8) 0 (omega arith))

        front : (n : ℕ) → n < information c → lifted c (bit (take c.octets_of_information word)) n ≡ lifted c (bit word) n
        front n h = go (dec_lt n c.unsent)
          where
            go : Dec (n < c.unsent) → lifted c (bit (take c.octets_of_information word)) n ≡ lifted c (bit word) n
            go (yes l) = lifted_unsent c (bit (take c.octets_of_information word)) n l ∙ sym (lifted_unsent c (bit word) n l)
            go (no g) =
                let e : n - c.unsent + c.unsent ≡ n = omega (arith, lt_of_not-le g) in
                ap (lifted c (bit (take c.octets_of_information word))) (sym e)
                ∙ lifted_sent_bit c (bit (take c.octets_of_information word)) (n - c.unsent)
                ∙ taken (n - c.unsent) (omega (arith, lt_of_not-le g, pb.room)) ∙ sym (lifted_sent_bit c (bit word) (n - c.unsent))
                ∙ ap (lifted c (bit word)) e

  -- what the encoder gives is a codeword
  pub encoded_codeword : (y : Word) → codeword c (bit (written c (encoded c (lifted c y)))) ≡ true
  encoded_codeword y =
      ap (codeword c) (bit_written (encoded c (lifted c y)))
      ∙ own_codeword (encoded c (lifted c y)) (encoded_own c (lifted c y))
      (λ n h. encoded_information c (lifted c y) n (lt_of_lt_of_le h pb.before) ∙ lifted_unsent c y n h)
