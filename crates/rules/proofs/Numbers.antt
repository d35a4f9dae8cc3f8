-- What holds of the codes by their numbers: the demands on words, for every code.
use mathlib.Core.Path.{◌≡◌, refl, sym, ap, ap₂, ◌∙◌, fun_ext}
use mathlib.Core.Bool.{Bool, true, false, not, ◌&&◌}
use mathlib.Core.List.{List}
use Prim.Native.Nat.{ℕ, zero, suc, ◌+◌, ◌-◌, ◌*◌, ◌/◌, ◌≤◌, ◌<◌}
use native.Mathlib.Nat.{lt_of_not-le, lt_of_lt_of_le, le_of_eq, add-zero}
use native.Mathlib.Decide.{dec_lt}
use native.Mathlib.Omega.{arith}
use lib.Dec.{T, eqb, leb, ltb, leb→le, lit<, lit≤}
use borrow.Author.Tests.{eq-eqb, lt-ltb, le-ltb}
use lib.ListN.{length}
use Rattle.bits.specs.Bits.{Word, bit, ◌⊕◌, when◌then◌else◌}
use Rattle.rules.specs.Codes.{Code, code, code1, code2, code3, code4, bits, information, offered, telecommanded}
use Rattle.rules.specs.Checks.{broken}
use Rattle.rules.specs.Encoding.{parity_bit, encoded, inverted, lifted, sent, codeword, OwnParity}
use Rattle.rules.specs.Tables.{parity16, parity32, parity64, parity511, generator511}
use Rattle.bits.proofs.Sums.{⊕-self, ⊕-false, ⊕-assoc, and_l, and_r}
use Rattle.bits.proofs.Octets.{bit_past}
use Rattle.rules.proofs.Published.{Published, published1, published2, published3, published4, published5, met_own1, met_own2}
use Rattle.rules.proofs.Published.{met_own3, near_inverted, near_inverted_lem, inverted_near}
use Rattle.rules.proofs.Codewords.{parity_same, encoded_information, encoded_parity, encoded_own, own_encoded, own_codeword}
use Rattle.rules.proofs.Codewords.{lifted_unsent, lifted_sent_bit, sent_bit, sent_fill}

-- ---- code numbers

pub first_offered : T (offered 1)
first_offered = tt

pub last_offered : T (offered 5)
last_offered = tt

pub five : (P : ℕ → Type 0) → P 1 → P 2 → P 3 → P 4 → P 5 → (n : ℕ) → T (offered n) → P n
five P p1 p2 p3 p4 p5 n t = go n (leb→le 1 n (and_l (leb 1 n) (leb n 5) t)) (leb→le n 5 (and_r (leb 1 n) (leb n 5) t))
  where
    go : (n : ℕ) → 1 ≤ n → n ≤ 5 → P n
    go zero l h = absurd (omega arith)
    go (suc zero) l h = p1
    go (suc (suc zero)) l h = p2
    go (suc (suc (suc zero))) l h = p3
    go (suc (suc (suc (suc zero)))) l h = p4
    go (suc (suc (suc (suc (suc zero))))) l h = p5
    go (suc (suc (suc (suc (suc (suc n)))))) l h = absurd (omega arith)

pub published : (n : ℕ) → T (offered n) → Published (code n)
unfolding code
published = five (λ n. Published (code n)) published1 published2 published3 published4 published5

-- ---- demand 2: every encoded word meets every check

pub encoded_meets : (n : ℕ) → T (offered n) → (x : Word) → broken (code n) (encoded (code n) x) ≡ 0
encoded_meets n t x = (published n t).own_quiet (encoded (code n) x) (encoded_own (code n) x)

-- ---- demand 2: the telecommand codes

pub three : (P : ℕ → Type 0) → P 1 → P 2 → P 3 → (n : ℕ) → T (telecommanded n) → P n
three P p1 p2 p3 n t = go n (leb→le 1 n (and_l (leb 1 n) (leb n 3) t)) (leb→le n 3 (and_r (leb 1 n) (leb n 3) t))
  where
    go : (n : ℕ) → 1 ≤ n → n ≤ 3 → P n
    go zero l h = absurd (omega arith)
    go (suc zero) l h = p1
    go (suc (suc zero)) l h = p2
    go (suc (suc (suc zero))) l h = p3
    go (suc (suc (suc (suc n)))) l h = absurd (omega arith)

-- a word that meets every check has the encoder's parity: it is the encoding of its own information bits
pub met_own_telecommand : (n : ℕ) → T (telecommanded n) → (x : Word) → broken (code n) x ≡ 0 → OwnParity (code n) x
unfolding code
met_own_telecommand = three (λ n. (x : Word) → broken (code n) x ≡ 0 → OwnParity (code n) x) met_own1 met_own2 met_own3

pub met_encoded : (n : ℕ) → T (telecommanded n) → (x : Word) → broken (code n) x ≡ 0 → (k : ℕ) → k < bits (code n)
    → encoded (code n) x k ≡ x k
met_encoded n t x e = own_encoded (code n) x (met_own_telecommand n t x e)

-- codes 1 to 4 send every bit, in whole octets
pub record Whole (c : Code) : Type 0 where
  pub unsent : c.unsent ≡ 0
  pub full : bits c ≡ 8 * c.octets_of_word

pub four : (P : ℕ → Type 0) → P 1 → P 2 → P 3 → P 4 → (n : ℕ) → T (offered n && not (eqb n 5)) → P n
four P p1 p2 p3 p4 n t = five (λ n. T (not (eqb n 5)) → P n) (λ u. p1) (λ u. p2) (λ u. p3) (λ u. p4) (λ u. absurd u) n
    (and_l (offered n) (not (eqb n 5)) t) (and_r (offered n) (not (eqb n 5)) t)

pub whole : (n : ℕ) → T (offered n && not (eqb n 5)) → Whole (code n)
unfolding code code1 code2 code3 code4 parity16 parity32 parity64 parity511
whole = four (λ n. Whole (code n)) (record { unsent = refl; full = refl }) (record { unsent = refl; full = refl })
    (record { unsent = refl; full = refl }) (record { unsent = refl; full = refl })

module _ (c : Code) (w : Whole c) where
  pub lifted_whole : (y : Word) → lifted c y ≡ y
  lifted_whole y = fun_ext (λ n. ap (lifted c y) (sym (ap (λ z. n + z) w.unsent ∙ add-zero n)) ∙ lifted_sent_bit c y n)

  pub sent_whole : (x : Word) → ((n : ℕ) → 8 * c.octets_of_word ≤ n → x n ≡ false) → sent c x ≡ x
  sent_whole x past = fun_ext (λ n. go n (dec_lt n (bits c - c.unsent)))
    where
      go : (n : ℕ) → Dec (n < bits c - c.unsent) → sent c x n ≡ x n
      go n (yes l) = sent_bit c x n l ∙ ap x (ap (λ z. n + z) w.unsent ∙ add-zero n)
      go n (no g) =
          let l : bits c - c.unsent ≤ n = omega (arith, lt_of_not-le g) in
          sent_fill c x n l ∙ sym (past n (omega (arith, w.unsent, w.full)))

  pub past_word : (word : List ℕ) → length word ≡ c.octets_of_word → (n : ℕ) → 8 * c.octets_of_word ≤ n → bit word n ≡ false
  past_word word lw n h = bit_past word n (omega (arith, lw))

pub telecommand_whole : (n : ℕ) → T (telecommanded n) → T (offered n && not (eqb n 5))
telecommand_whole = three (λ n. T (offered n && not (eqb n 5))) tt tt tt

pub telecommand_offered : (n : ℕ) → T (telecommanded n) → T (offered n)
telecommand_offered = three (λ n. T (offered n)) tt tt tt

-- where unsent bits and filling play no part, meeting every check is being a codeword
pub met_codeword : (n : ℕ) → T (telecommanded n) → (word : List ℕ) → length word ≡ (code n).octets_of_word
    → broken (code n) (lifted (code n) (bit word)) ≡ 0 → codeword (code n) (bit word) ≡ true
met_codeword n t word lw e =
    let w : Whole (code n) = whole n (telecommand_whole n t) in
    let same : sent (code n) (lifted (code n) (bit word)) ≡ bit word =
    ap (sent (code n)) (lifted_whole (code n) w (bit word)) ∙ sent_whole (code n) w (bit word) (past_word (code n) w word lw) in
    ap (codeword (code n)) (sym same)
    ∙ own_codeword (code n) (published n (telecommand_offered n t)) (lifted (code n) (bit word))
    (met_own_telecommand n t (lifted (code n) (bit word)) e) (λ k h. lifted_unsent (code n) (bit word) k h)

-- ---- demand 2: code 4, where whole parity blocks may be inverted

pub quiet_four : (x : Word) → broken code4 x ≡ 0 → (p : ℕ) → p < 1022
    → x (7154 + p) ≡ parity_bit code4 x p ⊕ near_inverted 1022 895 0 x (p / 511)
unfolding code4 parity511 generator511
quiet_four x e p h = near_inverted_lem 1022 895 0 x e p h

pub four_quiet : (x f : Word) → ((p : ℕ) → p < 1022 → x (7154 + p) ≡ parity_bit code4 x p ⊕ f (p / 511)) → broken code4 x ≡ 0
unfolding code4 parity511 generator511
four_quiet x f h = inverted_near 1022 895 0 x f h

-- ---- code 4: for given information bits just four words meet every check

four_size : information code4 ≡ 7154
unfolding code4 generator511
four_size = refl

⊕-cancel : (a b c : Bool) → a ⊕ b ≡ a ⊕ c → b ≡ c
⊕-cancel a b c e = sym (back b) ∙ ap (λ z. a ⊕ z) e ∙ back c
  where
    back : (b : Bool) → a ⊕ (a ⊕ b) ≡ b
    back b = sym (⊕-assoc a a b) ∙ ap (λ z. z ⊕ b) (⊕-self a)

-- the codeword of the information bits of x, with either or both parity blocks inverted
abbrev pub four_word : Word → Bool → Bool → Word
four_word x first second = inverted code4 (encoded code4 x) first second

module _ (x : Word) (first second : Bool) where
  in_first : (n : ℕ) → 7154 ≤ n → n < 7665 → four_word x first second n ≡ encoded code4 x n ⊕ first
  unfolding inverted code4 generator511
  in_first n l h = ap₂ (λ a b. encoded code4 x n ⊕ (not a && (when b then first else second))) (le-ltb n 7154 l) (lt-ltb n 7665 h)

  in_second : (n : ℕ) → 7665 ≤ n → four_word x first second n ≡ encoded code4 x n ⊕ second
  unfolding inverted code4 generator511
  in_second n l = ap₂ (λ a b. encoded code4 x n ⊕ (not a && (when b then first else second))) (le-ltb n 7154 (omega arith))
      (le-ltb n 7665 l)

  inform : (n : ℕ) → n < 7154 → four_word x first second n ≡ encoded code4 x n
  unfolding inverted code4 generator511
  inform n h = ap (λ b. encoded code4 x n ⊕ (not b && (when ltb n 7665 then first else second))) (lt-ltb n 7154 h)
      ∙ ⊕-false (encoded code4 x n)

  -- each has the information bits
  pub four_information : (n : ℕ) → n < 7154 → four_word x first second n ≡ x n
  four_information n h = inform n h ∙ encoded_information code4 x n (lt_of_lt_of_le h (le_of_eq (sym four_size)))

  parity_at : (p : ℕ) → encoded code4 x (7154 + p) ≡ parity_bit code4 (four_word x first second) p
  parity_at p =
      ap (λ k. encoded code4 x (k + p)) (sym four_size)
      ∙ encoded_parity code4 x (information code4 + p) (omega arith)
      ∙ ap (parity_bit code4 x) (omega arith)
      ∙ parity_same code4 x (four_word x first second) (λ n h. sym (four_information n (lt_of_lt_of_le h (le_of_eq four_size)))) p

  -- each meets every check
  pub four_meet : broken code4 (four_word x first second) ≡ 0
  four_meet = four_quiet (four_word x first second) (λ b. when eqb b 0 then first else second) (λ p h. at p h (dec_lt p 511))
    where
      at : (p : ℕ) → p < 1022 → Dec (p < 511)
          → four_word x first second (7154 + p) ≡ parity_bit code4 (four_word x first second) p ⊕
          (when eqb (p / 511) 0 then first else second)
      at p h (yes l) =
          let q : p / 511 ≡ 0 = omega arith in
          in_first (7154 + p) (omega arith) (omega arith)
          ∙ ap₂ (λ a b. a ⊕ (when b then first else second)) (parity_at p) (sym (eq-eqb (p / 511) 0 q))
      at p h (no g) =
          let q : p / 511 ≡ 1 = omega (arith, lt_of_not-le g) in
          in_second (7154 + p) (omega (arith, lt_of_not-le g))
          ∙ ap₂ (λ a b. a ⊕ (when b then first else second)) (parity_at p) (sym (ap (λ z. eqb z 0) q))

-- they are different words
pub four_differ : (x : Word) (a b a' b' : Bool) → ((n : ℕ) → n < 8176 → four_word x a b n ≡ four_word x a' b' n) → (a ≡ a') × (b ≡ b')
four_differ x a b a' b' same = (
  ⊕-cancel (encoded code4 x 7154) a a' (sym (in_first x a b 7154 (lit≤ tt) (lit< tt)) ∙ same 7154 (lit< tt)
      ∙ in_first x a' b' 7154 (lit≤ tt) (lit< tt)),
  ⊕-cancel (encoded code4 x 7665) b b' (sym (in_second x a b 7665 (lit≤ tt)) ∙ same 7665 (lit< tt) ∙ in_second x a' b' 7665 (lit≤ tt)),
)

-- and any word that has those information bits and meets every check is one of them
pub record OneOfFour (x y : Word) : Type 0 where
  pub first : Bool
  pub second : Bool
  pub is : (n : ℕ) → n < 8176 → y n ≡ four_word x first second n

pub four_all : (x y : Word) → ((n : ℕ) → n < 7154 → y n ≡ x n) → broken code4 y ≡ 0 → OneOfFour x y
four_all x y same e = record { first = i; second = j; is = λ n h. at n h (dec_lt n 7154) (dec_lt n 7665) }
  where
    i : Bool
    i = near_inverted 1022 895 0 y 0

    j : Bool
    j = near_inverted 1022 895 0 y 1

    parity : (p : ℕ) → parity_bit code4 y p ≡ encoded code4 x (7154 + p)
    parity p =
        parity_same code4 y x (λ n h. same n (lt_of_lt_of_le h (le_of_eq four_size))) p
        ∙ sym (ap (λ k. encoded code4 x (k + p)) (sym four_size) ∙ encoded_parity code4 x (information code4 + p) (omega arith)
        ∙ ap (parity_bit code4 x) (omega arith))

    at : (n : ℕ) → n < 8176 → Dec (n < 7154) → Dec (n < 7665) → y n ≡ four_word x i j n
    at n h (yes l) q = same n l ∙ sym (four_information x i j n l)
    at n h (no g) (yes l) =
        let p = n - 7154 in
        let is : 7154 + p ≡ n = omega (arith, lt_of_not-le g) in
        let q : p / 511 ≡ 0 = omega (arith, lt_of_not-le g) in
        ap y (sym is) ∙ quiet_four y e p (omega arith)
        ∙ ap₂ (λ a b. a ⊕ near_inverted 1022 895 0 y b) (parity p ∙ ap (encoded code4 x) is) q
        ∙ sym (in_first x i j n (omega (arith, lt_of_not-le g)) l)
    at n h (no g) (no d) =
        let p = n - 7154 in
        let is : 7154 + p ≡ n = omega (arith, lt_of_not-le g) in
        let q : p / 511 ≡ 1 = omega (arith, lt_of_not-le d) in
        ap y (sym is) ∙ quiet_four y e p (omega arith)
        ∙ ap₂ (λ a b. a ⊕ near_inverted 1022 895 0 y b) (parity p ∙ ap (encoded code4 x) is) q
        ∙ sym (in_second x i j n (omega (arith, lt_of_not-le d)))
