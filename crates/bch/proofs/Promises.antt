-- What the answers promise of every word: the sentences of Req 05. Assumes nothing.
use mathlib.Core.Path.{◌≡◌, refl, sym, ap, ap₂, ◌∙◌, subst, fun_ext}
use mathlib.Core.Bool.{Bool, true, false, not, ◌&&◌, and-true, true≢false}
use mathlib.Core.Logic.{◌⊎◌, inl, inr, ⊎_elim}
use mathlib.Core.List.{List}
use Prim.Native.Nat.{ℕ, zero, suc, ◌-◌, ◌≤◌, ◌<◌}
use native.Mathlib.Nat.{le_step, lt-suc_self}
use native.Mathlib.Omega.{arith}
use lib.Dec.{eqb, leb, ltb, lit<}
use lib.ListN.{length, take}
use borrow.Author.Tests.{lt-ltb, le-ltb, eq-eqb, ne_eqb}
use Rattle.bits.specs.Bits.{Word, digit, bit, octets, tally, ◌⊕◌, count, flipped, when◌then◌else◌}
use Rattle.bits.proofs.Orders.{le-or-lt, eq_or_not}
use Rattle.bits.proofs.Sums.{⊕-false, ⊕-self, ⊕-assoc, ⊕-eq}
use Rattle.bits.proofs.Counting.{none_counted, count_none, count_same, count_pick}
use Rattle.bits.proofs.Octets.{Octets, length_octets, bit_octets, octets_lt, octets_same, octets_bit}
use Rattle.rules.proofs.Codewords.{agree_all, all_agree}
use Rattle.bch.specs.Bch.{raised, parity_bit, encoded, codeword, lowest, wrong_bit, written, bch_encode_answer, Mended, refused, judged}
use Rattle.bch.specs.Bch.{bch_check_answer}
use Rattle.bch.proofs.Division.{remainder_same}
use Rattle.bch.proofs.Codewords.{encoded_front, codeword_left, codeword_alone, twice_none, twice_near}
use Rattle.bch.proofs.Judging.{encode_done, written_encoded, check_three, check_taken, judged_codeword, judged_detected}
use Rattle.bch.proofs.Judging.{judged_mended, judged_far, wrong_is, wrong_mends}

-- ---- only the 63 bits count

module _ (x y : Word) (same : (k : ℕ) → k < 63 → x k ≡ y k) where
  pub codeword_same : codeword x ≡ codeword y
  codeword_same =
      codeword_left x
      ∙ ap (λ n. eqb n 0) (remainder_same 63 _ _ (λ k l. ap (λ b. b ⊕ (leb 56 k && ltb k 63)) (same k l)))
      ∙ sym (codeword_left y)

  pub written_same : written x ≡ written y
  written_same =
      octets_same 8 (λ k. ltb k 63 && x k) (λ k. ltb k 63 && y k) (λ k l.
      ⊎_elim
      (λ (h : 63 ≤ k). ap (λ p. p && x k) (le-ltb k 63 h) ∙ sym (ap (λ p. p && y k) (le-ltb k 63 h)))
      (λ (h : k < 63). ap (λ b. ltb k 63 && b) (same k h))
      (le-or-lt 63 k))

flipped_same : (x y : Word) → ((k : ℕ) → k < 63 → x k ≡ y k) → (i k : ℕ) → k < 63 → flipped x i k ≡ flipped y i k
flipped_same x y same i k l = ap (λ b. b ⊕ eqb k i) (same k l)

wrong_same : (x y : Word) → ((k : ℕ) → k < 63 → x k ≡ y k) → wrong_bit x ≡ wrong_bit y
wrong_same x y same = ap (λ f. lowest 63 f) (fun_ext (λ i. codeword_same (flipped x i) (flipped y i) (flipped_same x y same i)))

judged_same : (d : Bool) (x y : Word) (out : List ℕ) → ((k : ℕ) → k < 63 → x k ≡ y k) → judged d x out ≡ judged d y out
unfolding judged
judged_same d x y out same =
    ap₂ (λ b w. choose b w (written x) (written (flipped x w))) (codeword_same x y same) (wrong_same x y same)
    ∙ ap₂ (λ p q. choose (codeword y) (wrong_bit y) p q) (written_same x y same)
    (written_same (flipped x (wrong_bit y)) (flipped y (wrong_bit y)) (flipped_same x y same (wrong_bit y)))
  where
    choose : Bool → ℕ → List ℕ → List ℕ → Mended
    choose b w p q =
        when b then record { number = 0; mended = 0; out = p }
        else when d then refused 13 out
        else when ltb w 63 then record { number = 0; mended = 1; out = q }
        else refused 13 out

-- two words of eight octets that agree in their 63 bits have one answer
pub same_answer : (d : Bool) (u v out : List ℕ) → length u ≡ 8 → length v ≡ 8 → ((k : ℕ) → k < 63 → bit u k ≡ bit v k)
    → bch_check_answer d u out ≡ bch_check_answer d v out
same_answer d u v out hu hv same =
    ⊎_elim
    (λ (e : length out ≡ 8). check_taken d u out hu e ∙ judged_same d (bit u) (bit v) out same ∙ sym (check_taken d v out hv e))
    (λ (n : length out ≡ 8 → ⊥). check_three d u out hu n ∙ sym (check_three d v out hv n))
    (eq_or_not (length out) 8)

-- ---- wrong bits

-- The octets of a word with bit i wrong.
abbrev pub spoilt : List ℕ → ℕ → List ℕ
spoilt word i = octets 8 (flipped (bit word) i)

eight_bit : (x : Word) (k : ℕ) → k < 64 → bit (octets 8 x) k ≡ x k
eight_bit x k l = bit_octets 8 x k ∙ ap (λ p. p && x k) (lt-ltb k 64 l)

flipped_back : (x : Word) (i : ℕ) → flipped (flipped x i) i ≡ x
flipped_back x i = fun_ext (λ k. ⊕-assoc (x k) (eqb k i) (eqb k i) ∙ ap (λ b. x k ⊕ b) (⊕-self (eqb k i)) ∙ ⊕-false (x k))

-- A changed fill bit is ignored: it changes nothing of the answer, in either mode.
pub fill_ignored : (d : Bool) (word out : List ℕ) → length word ≡ 8 → bch_check_answer d (spoilt word 63) out ≡ bch_check_answer d word out
fill_ignored d word out e =
    same_answer d (spoilt word 63) word out (length_octets 8 (flipped (bit word) 63)) e (λ k l.
    eight_bit (flipped (bit word) 63) k (omega arith) ∙ ap (λ b. bit word k ⊕ b) (ne_eqb k 63 (λ q. omega arith)) ∙ ⊕-false (bit word k))

-- ---- encoded words

encoded_same : (x y : Word) → ((k : ℕ) → k < 56 → x k ≡ y k) → (k : ℕ) → encoded x k ≡ encoded y k
unfolding encoded
encoded_same x y same k =
    ap (λ n. when ltb k 56 then x k else when ltb k 63 then not (digit 7 n (k - 56)) else false)
    (remainder_same 63 (raised x) (raised y) (λ i l. both i))
    ∙ front
  where
    both : (i : ℕ) → raised x i ≡ raised y i
    both i =
        ⊎_elim
        (λ (h : 56 ≤ i). ap (λ p. p && x i) (le-ltb i 56 h) ∙ sym (ap (λ p. p && y i) (le-ltb i 56 h)))
        (λ (h : i < 56). ap (λ b. ltb i 56 && b) (same i h))
        (le-or-lt 56 i)

    front : (when ltb k 56 then x k else when ltb k 63 then not (parity_bit y (k - 56)) else false)
        ≡ (when ltb k 56 then y k else when ltb k 63 then not (parity_bit y (k - 56)) else false)
    front =
        ⊎_elim
        (λ (h : 56 ≤ k).
        ap (λ p. when p then x k else when ltb k 63 then not (parity_bit y (k - 56)) else false) (le-ltb k 56 h)
        ∙ sym (ap (λ p. when p then y k else when ltb k 63 then not (parity_bit y (k - 56)) else false) (le-ltb k 56 h)))
        (λ (h : k < 56). ap (λ b. when ltb k 56 then b else when ltb k 63 then not (parity_bit y (k - 56)) else false) (same k h))
        (le-or-lt 56 k)

encoded_codeword : (x : Word) → codeword (encoded x) ≡ true
unfolding codeword
encoded_codeword x = agree_all 63 (encoded x) (encoded (encoded x)) (λ k l. sym (encoded_same (encoded x) x (encoded_front x) k))

module _ (information out : List ℕ) (seven : length information ≡ 7) (eight : length out ≡ 8) where
  abbrev word : List ℕ
  word = (bch_encode_answer information out).out

  word_is : word ≡ octets 8 (encoded (bit information))
  word_is = ap (λ a. a.out) (encode_done information out seven eight)

  word_long : length word ≡ 8
  word_long = ap length word_is ∙ length_octets 8 (encoded (bit information))

  word_bit : (k : ℕ) → k < 63 → bit word k ≡ encoded (bit information) k
  word_bit k l = ap (λ o. bit o k) word_is ∙ eight_bit (encoded (bit information)) k (omega arith)

  pub word_codeword : codeword (bit word) ≡ true
  word_codeword = codeword_same (bit word) (encoded (bit information)) word_bit ∙ encoded_codeword (bit information)

  word_written : written (bit word) ≡ word
  word_written = written_same (bit word) (encoded (bit information)) word_bit ∙ written_encoded (bit information) ∙ sym word_is

  -- Its first seven octets are the information.
  pub information_first : Octets information → take 7 word ≡ information
  unfolding octets
  information_first small =
      ap (take 7) word_is
      ∙ octets_same 7 (encoded (bit information)) (bit information) (λ k l. encoded_front (bit information) k (omega arith))
      ∙ ap (λ n. octets n (bit information)) (sym seven)
      ∙ octets_bit information small

  module _ (back : List ℕ) (room : length back ≡ 8) where
    -- Every encoded word is taken unchanged in both modes.
    pub encoded_taken : (d : Bool) → bch_check_answer d word back ≡ record { number = 0; mended = 0; out = word }
    encoded_taken d =
        check_taken d word back word_long room
        ∙ judged_codeword (bit word) back d word_codeword
        ∙ ap (λ o. record { number = 0; mended = 0; out = o }) word_written

    module _ (i : ℕ) (hi : i < 63) where
      abbrev once : Word
      once = flipped (bit word) i

      once_none : codeword once ≡ false
      once_none = codeword_alone (bit word) word_codeword i hi

      once_taken : (d : Bool) → bch_check_answer d (spoilt word i) back ≡ judged d once back
      once_taken d =
          check_taken d (spoilt word i) back (length_octets 8 once) room
          ∙ judged_same d (bit (spoilt word i)) once back (λ k l. eight_bit once k (omega arith))

      once_wrong : wrong_bit once ≡ i
      once_wrong = wrong_is once i hi (ap codeword (flipped_back (bit word) i) ∙ word_codeword)

      -- In the correcting mode any single wrong bit of the 63 is mended;
      pub one_mended : bch_check_answer false (spoilt word i) back ≡ record { number = 0; mended = 1; out = word }
      one_mended =
          once_taken false
          ∙ judged_mended once back false refl once_none (subst (λ n. n < 63) (sym once_wrong) hi)
          ∙ ap (λ o. record { number = 0; mended = 1; out = o }) (ap (λ n. written (flipped once n)) once_wrong
          ∙ ap written (flipped_back (bit word) i) ∙ word_written)

      -- in detect-only mode it is refused.
      pub one_detected : bch_check_answer true (spoilt word i) back ≡ refused 13 back
      one_detected = once_taken true ∙ judged_detected once back true refl once_none

      -- Any two wrong bits are refused in both modes.
      pub two_refused : (k : ℕ) → k < 63 → (i ≡ k → ⊥) → (d : Bool) → bch_check_answer d (spoilt (spoilt word i) k) back ≡ refused 13 back
      two_refused k hk apart d =
          check_taken d (spoilt (spoilt word i) k) back (length_octets 8 (flipped (bit (spoilt word i)) k)) room
          ∙ judged_same d (bit (spoilt (spoilt word i) k)) twice back (λ n l.
          eight_bit (flipped (bit (spoilt word i)) k) n (omega arith)
          ∙ flipped_same (bit (spoilt word i)) once (λ m h. eight_bit once m (omega arith)) k n l)
          ∙ judged_far twice back d (twice_none (bit word) word_codeword i k hi hk apart) far
        where
          twice : Word
          twice = flipped once k

          far : 63 ≤ wrong_bit twice
          far =
              ⊎_elim (λ l. l)
              (λ l. absurd (true≢false (sym (wrong_mends twice l)
              ∙ twice_near (bit word) word_codeword i k hi hk apart (wrong_bit twice) l)))
              (le-or-lt 63 (wrong_bit twice))

-- Distinct information gives distinct words.
pub distinct_words : (i₁ i₂ out : List ℕ) → Octets i₁ → Octets i₂ → length i₁ ≡ 7 → length i₂ ≡ 7 → length out ≡ 8
    → (bch_encode_answer i₁ out).out ≡ (bch_encode_answer i₂ out).out → i₁ ≡ i₂
distinct_words i₁ i₂ out o₁ o₂ h₁ h₂ room e = sym (information_first i₁ out h₁ room o₁) ∙ ap (take 7) e
    ∙ information_first i₂ out h₂ room o₂

-- ---- what is taken, and what is refused

-- What comes out when a word is taken: a codeword with the fill bit 0, unlike the word received in as many of the 63 bits as were mended.
pub record Taken (word : List ℕ) (a : Mended) : Type 0 where
  pub sound : codeword (bit a.out) ≡ true
  pub fill : bit a.out 63 ≡ false
  pub mended : a.mended ≡ count 63 (λ k. bit word k ⊕ bit a.out k)

-- At most one place of n: none, or one alone.
at_most_one : (n : ℕ) (f : ℕ → Bool) → count n f ≤ 1
    → ((k : ℕ) → k < n → f k ≡ false) ⊎ ((i : ℕ) × (i < n) × ((k : ℕ) → k < n → f k ≡ eqb k i))
unfolding count
at_most_one zero f l = inl (λ k h. absurd (omega arith))
at_most_one (suc n) f l = go (f n) refl (at_most_one n f)
  where
    go : (b : Bool) → f n ≡ b → (count n f ≤ 1 → ((k : ℕ) → k < n → f k ≡ false) ⊎ ((i : ℕ) × (i < n) × ((k : ℕ) → k < n → f k ≡ eqb k i)))
        → ((k : ℕ) → k < suc n → f k ≡ false) ⊎ ((i : ℕ) × (i < suc n) × ((k : ℕ) → k < suc n → f k ≡ eqb k i))
    go true e ih =
        let none : count n f ≡ 0 = omega (arith, l, ap tally e) in
        inr (
          n,
          lt-suc_self n,
          λ k h.
              ⊎_elim
              (λ (q : k ≡ n). ap f q ∙ e ∙ sym (eq-eqb k n q))
              (λ (d : k ≡ n → ⊥). none_counted n f none k (omega arith) ∙ sym (ne_eqb k n d))
              (eq_or_not k n),
        )
    go false e ih =
        ⊎_elim
        (λ all. inl (λ k h. ⊎_elim (λ (q : k ≡ n). ap f q ∙ e) (λ (d : k ≡ n → ⊥). all k (omega arith)) (eq_or_not k n)))
        (λ one. inr (
          one.0,
          le_step one.1,
          λ k h.
              ⊎_elim
              (λ (q : k ≡ n). ap f q ∙ e ∙ sym (ne_eqb k one.0 (λ p. omega (arith, one.1))))
              (λ (d : k ≡ n → ⊥). one.2 k (omega arith))
              (eq_or_not k n),
        ))
        (ih (omega (arith, l)))

module _ (word out : List ℕ) (eight : length word ≡ 8) (room : length out ≡ 8) where
  abbrev x : Word
  x = bit word

  abbrev answer : Bool → Mended
  answer d = bch_check_answer d word out

  as_judged : (d : Bool) → answer d ≡ judged d x out
  as_judged d = check_taken d word out eight room

  -- a word that is written out
  out_taken : (y : Word) (a : Mended) → codeword y ≡ true → a.out ≡ written y → a.mended ≡ count 63 (λ k. x k ⊕ y k) → Taken word a
  out_taken y a is e m = record {
    sound = codeword_same (bit a.out) y bits ∙ is;
    fill = ap (λ o. bit o 63) e ∙ eight_bit (λ k. ltb k 63 && y k) 63 (lit< tt);
    mended = m ∙ count_same 63 (λ k. x k ⊕ y k) (λ k. x k ⊕ bit a.out k) (λ k l. ap (λ b. x k ⊕ b) (sym (bits k l)));
  }
    where
      bits : (k : ℕ) → k < 63 → bit a.out k ≡ y k
      bits k l = ap (λ o. bit o k) e ∙ eight_bit (λ k. ltb k 63 && y k) k (omega arith) ∙ ap (λ p. p && y k) (lt-ltb k 63 l)

  -- what each mode does with a word, by whether it is a codeword and whether one is near
  whole_taken : (d : Bool) → codeword x ≡ true → ((answer d).number ≡ 0) × Taken word (answer d)
  whole_taken d is =
      let e = as_judged d ∙ judged_codeword x out d is in (
        ap (λ a. a.number) e,
        out_taken x (answer d) is (ap (λ a. a.out) e) (ap (λ a. a.mended) e
            ∙ sym (count_none 63 (λ k. x k ⊕ x k) (λ k l. ⊕-self (x k)))),
      )

  near_mended : codeword x ≡ false → wrong_bit x < 63 → ((answer false).number ≡ 0) × Taken word (answer false)
  near_mended n l =
      let e = as_judged false ∙ judged_mended x out false refl n l in (
        ap (λ a. a.number) e,
        out_taken (flipped x (wrong_bit x)) (answer false) (wrong_mends x l) (ap (λ a. a.out) e)
            (ap (λ a. a.mended) e ∙ sym one),
      )
    where
      one : count 63 (λ k. x k ⊕ flipped x (wrong_bit x) k) ≡ 1
      one =
          count_same 63 (λ k. x k ⊕ flipped x (wrong_bit x) k) (λ k. eqb k (wrong_bit x) && true) (λ k h.
          sym (⊕-assoc (x k) (x k) (eqb k (wrong_bit x))) ∙ ap (λ b. b ⊕ eqb k (wrong_bit x)) (⊕-self (x k))
          ∙ sym (and-true (eqb k (wrong_bit x))))
          ∙ count_pick 63 (wrong_bit x) (λ k. true) l

  -- Detect-only takes exactly the codewords: what the encoder can give, to the 63rd bit.
  pub detect_codeword : codeword x ≡ true → (answer true).number ≡ 0
  detect_codeword is = (whole_taken true is).0

  pub detect_other : codeword x ≡ false → (answer true).number ≡ 13
  detect_other n = ap (λ a. a.number) (as_judged true ∙ judged_detected x out true refl n)

  pub detect_encoded : (information : List ℕ) → length information ≡ 7
      → ((k : ℕ) → k < 63 → x k ≡ bit (bch_encode_answer information out).out k) → (answer true).number ≡ 0
  detect_encoded information seven same =
      detect_codeword (codeword_same x (bit (bch_encode_answer information out).out) same ∙ word_codeword information out seven room)

  pub detect_takes : (answer true).number ≡ 0
      → (information : List ℕ) × (length information ≡ 7) × Octets information
      × ((k : ℕ) → k < 63 → x k ≡ bit (bch_encode_answer information out).out k)
  unfolding codeword
  detect_takes z = go (codeword x) refl
    where
      info : List ℕ
      info = octets 7 x

      own : codeword x ≡ true → (k : ℕ) → k < 63 → x k ≡ bit (bch_encode_answer info out).out k
      own is k l =
          all_agree 63 x (encoded x) is k l
          ∙ encoded_same x (bit info) (λ i h. sym (bit_octets 7 x i ∙ ap (λ p. p && x i) (lt-ltb i 56 h))) k
          ∙ sym (word_bit info out (length_octets 7 x) room k l)

      go : (b : Bool) → codeword x ≡ b → (information : List ℕ) × (length information ≡ 7) × Octets information
          × ((k : ℕ) → k < 63 → x k ≡ bit (bch_encode_answer information out).out k)
      go true is = (info, length_octets 7 x, octets_lt 7 x, own is)
      go false is = absurd (omega (arith, z, detect_other is))

  -- In the correcting mode a word is taken just if a codeword differs in at most one bit of the 63: if one is near it is taken,
  pub near_taken : (y : Word) → codeword y ≡ true → count 63 (λ k. x k ⊕ y k) ≤ 1 → ((answer false).number ≡ 0) × Taken word (answer false)
  near_taken y is few = go (codeword x) refl
    where
      back : (a b : Bool) → a ⊕ (a ⊕ b) ≡ b
      back a b = sym (⊕-assoc a a b) ∙ ap (λ c. c ⊕ b) (⊕-self a)

      near : (at : ((k : ℕ) → k < 63 → x k ⊕ y k ≡ false) ⊎ ((i : ℕ) × (i < 63) × ((k : ℕ) → k < 63 → x k ⊕ y k ≡ eqb k i)))
          → codeword x ≡ false → wrong_bit x < 63
      near (inl all) n =
          absurd (true≢false (sym is ∙ sym (codeword_same x y (λ k l. ⊕-eq (x k) (y k) (all k l))) ∙ n))
      near (inr (i, hi, one)) n =
          subst (λ w. w < 63)
          (sym (wrong_is x i hi (codeword_same (flipped x i) y (λ k l. ap (λ b. x k ⊕ b) (sym (one k l)) ∙ back (x k) (y k)) ∙ is)))
          hi

      go : (b : Bool) → codeword x ≡ b → ((answer false).number ≡ 0) × Taken word (answer false)
      go true e = whole_taken false e
      go false e = near_mended e (near (at_most_one 63 (λ k. x k ⊕ y k) few) e)

  -- and what is taken, in either mode, is near, since Taken says how many bits were mended.
  pub taken_near : (d : Bool) → (answer d).number ≡ 0 → ((answer d).mended ≤ 1) × Taken word (answer d)
  taken_near d z = go (codeword x) refl d refl
    where
      go : (b : Bool) → codeword x ≡ b → (c : Bool) → d ≡ c → ((answer d).mended ≤ 1) × Taken word (answer d)
      go true e c t = (omega (arith, ap (λ a. a.mended) (as_judged d ∙ judged_codeword x out d e)), (whole_taken d e).1)
      go false e true t = absurd (omega (arith, z, ap (λ a. a.number) (as_judged d ∙ judged_detected x out d t e)))
      go false e false t = subst (λ m. ((answer m).mended ≤ 1) × Taken word (answer m)) (sym t) (mend (le-or-lt 63 (wrong_bit x)))
        where
          mend : (63 ≤ wrong_bit x) ⊎ (wrong_bit x < 63) → ((answer false).mended ≤ 1) × Taken word (answer false)
          mend (inl l) = absurd (omega (arith, z, ap (λ a. a.number) (as_judged d ∙ judged_far x out d e l)))
          mend (inr l) = (omega (arith, ap (λ a. a.mended) (as_judged false ∙ judged_mended x out false refl e l)), (near_mended e l).1)

  -- What is not taken is 13, and nothing is written.
  pub thirteen : (d : Bool) → ((answer d).number ≡ 0 → ⊥) → answer d ≡ refused 13 out
  thirteen d n = go (codeword x) refl d refl
    where
      go : (b : Bool) → codeword x ≡ b → (c : Bool) → d ≡ c → answer d ≡ refused 13 out
      go true e c t = absurd (n (whole_taken d e).0)
      go false e true t = as_judged d ∙ judged_detected x out d t e
      go false e false t =
          ⊎_elim
          (λ (l : 63 ≤ wrong_bit x). as_judged d ∙ judged_far x out d e l)
          (λ (l : wrong_bit x < 63). absurd (n (subst (λ m. (answer m).number ≡ 0) (sym t) (near_mended e l).0)))
          (le-or-lt 63 (wrong_bit x))
