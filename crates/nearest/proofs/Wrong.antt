-- How far codewords are apart; a codeword with one or two wrong bits. Assumes nothing.
use mathlib.Core.Path.{◌≡◌, refl, sym, ap, ap₂, ◌∙◌, fun_ext}
use mathlib.Core.Bool.{true}
use mathlib.Core.Logic.{⊎_elim}
use mathlib.Core.List.{List, [], ◌∷◌}
use Prim.Native.Nat.{ℕ, suc, ◌-◌, ◌≤◌, ◌<◌, zero-le}
use native.Mathlib.Omega.{arith}
use lib.ListN.{length}
use Rattle.bits.specs.Bits.{Word, bit, octets, ◌⊕◌, flipped}
use Rattle.bits.proofs.Sums.{⊕-assoc, ⊕-comm}
use lib.Dec.{T, eqb}
use Rattle.bits.proofs.Orders.{eq_or_not}
use Rattle.bits.proofs.Octets.{Octets, octets_bit, length_octets}
use Rattle.rules.specs.Codes.{code, bits}
use Rattle.rules.specs.Encoding.{codeword}
use Rattle.rules.proofs.Flips.{flip_back}
use Rattle.answers.specs.Calls.{differing, correct_answer}
use Rattle.answers.specs.Promises.{sixteen}
use Rattle.answers.proofs.Corrections.{one_wrong, bit_one_wrong, one_back}
use Rattle.answers.proofs.Wrong.{two_wrong}
use Rattle.answers.proofs.Sixteen.{not_mended}
use Rattle.nearest.specs.Nearest.{Found, none, list, fewest, flips, found, nearest_answer}
use Rattle.nearest.specs.Lists.{Mends}
use Rattle.nearest.proofs.Quiet.{bits_are, octets_are, unsent_are}
use Rattle.nearest.proofs.Lists.{Within, within}
use Rattle.nearest.proofs.Reaching.{nearest_searched}
use Rattle.nearest.proofs.Columns.{flip_one, flip_two, flip_three, flip_four, flip_five}
use Rattle.nearest.proofs.Distances.{set_from, codeword_mends}

-- ---- two different codewords differ in six bits or more

pub codewords_apart : (x y : Word) → codeword (code 1) x ≡ true → codeword (code 1) y ≡ true → (differing (code 1) x y ≡ 0 → ⊥)
    → 6 ≤ differing (code 1) x y
unfolding flips
codewords_apart x y isx isy other = go (set_from 128 0 (λ i. x i ⊕ y i)) (codeword_mends x y isy)
  where
    go : (bits : List ℕ) → Mends (differing (code 1) x y) 0 128 x bits → 6 ≤ differing (code 1) x y
    go [] m = absurd (other (sym m.many))
    go (a ∷ []) m = absurd (flip_one x isx a m.rising.1 m.gives)
    go (a ∷ b ∷ []) m =
        let r = m.rising in
        absurd (flip_two x isx a b r.1 r.2.1 (λ q. omega (arith, r.2.0)) m.gives)
    go (a ∷ b ∷ c ∷ []) m =
        let r = m.rising in
        absurd (flip_three x isx a b c r.1 r.2.1 r.2.2.1 m.gives)
    go (a ∷ b ∷ c ∷ d ∷ []) m =
        let r = m.rising in
        let ab = r.2.0 in
        let bc = r.2.2.0 in
        let cd = r.2.2.2.0 in
        absurd (flip_four x isx a b c d r.1 r.2.1 r.2.2.1 r.2.2.2.1
        (λ q. omega (arith, ab)) (λ q. omega (arith, ab, bc)) (λ q. omega (arith, ab, bc, cd))
        (λ q. omega (arith, bc)) (λ q. omega (arith, bc, cd)) (λ q. omega (arith, cd)) m.gives)
    go (a ∷ b ∷ c ∷ d ∷ e ∷ []) m =
        let r = m.rising in
        absurd (flip_five x isx a b c d e r.1 r.2.1 r.2.2.1 r.2.2.2.1 r.2.2.2.2.1 m.gives)
    go (a ∷ b ∷ c ∷ d ∷ e ∷ f ∷ bits) m = omega (arith, m.many)

-- ---- one wrong bit

module _ (w : Word) (is : codeword (code 1) w ≡ true) (b : ℕ) (hb : b < 128) where
  abbrev once : Word
  once = flipped w b

  once_mends : Mends 1 0 128 once (b ∷ [])
  unfolding flips
  once_mends = record { many = refl; rising = (zero-le, hb, tt); gives = ap (codeword (code 1)) (flip_back w b) ∙ is }

  pub once_fewest : (reach : ℕ) → 1 ≤ reach → fewest reach once ≡ list (b ∷ [])
  unfolding flips
  once_fewest reach hr = go (fewest reach once) (within reach once)
    where
      go : (f : Found) → Within reach once f → f ≡ list (b ∷ [])
      go none s = absurd (s 1 hr (b ∷ []) once_mends)
      go (list []) s = absurd (flip_one w is b hb s.1.0.gives)
      go (list (d ∷ [])) s =
          ⊎_elim
          (λ (q : b ≡ d). ap (λ n. list (n ∷ [])) (sym q))
          (λ (n : b ≡ d → ⊥). absurd (flip_two w is b d hb s.1.0.rising.1 n s.1.0.gives))
          (eq_or_not b d)
      go (list (d ∷ e ∷ bits)) s = absurd (s.2 1 (omega arith) (b ∷ []) once_mends)

-- ---- two wrong bits

flips_swap : (x : Word) (m n : ℕ) → flipped (flipped x m) n ≡ flipped (flipped x n) m
flips_swap x m n =
    fun_ext (λ i. ⊕-assoc (x i) (eqb i m) (eqb i n) ∙ ap (λ p. x i ⊕ p) (⊕-comm (eqb i m) (eqb i n))
    ∙ sym (⊕-assoc (x i) (eqb i n) (eqb i m)))

module _ (w : Word) (is : codeword (code 1) w ≡ true) (b d : ℕ) (hb : b < d) (hd : d < 128) where
  abbrev twice : Word
  twice = flipped (flipped w b) d

  hb' : b < 128
  hb' = omega arith

  apart : b ≡ d → ⊥
  apart q = omega arith

  -- the first of the two flipped back
  back_first : flipped twice b ≡ flipped w d
  back_first = ap (λ y. flipped y b) (flips_swap w b d) ∙ flip_back (flipped w d) b

  twice_mends : Mends 2 0 128 twice (b ∷ d ∷ [])
  unfolding flips
  twice_mends = record {
    many = refl;
    rising = (zero-le, hb', (hb, hd, tt));
    gives = ap (codeword (code 1)) (ap (λ y. flipped y d) back_first ∙ flip_back w d) ∙ is;
  }

  pub twice_fewest : (reach : ℕ) → 2 ≤ reach → fewest reach twice ≡ list (b ∷ d ∷ [])
  unfolding flips
  twice_fewest reach hr = go (fewest reach twice) (within reach twice)
    where
      is_pair : (e f : ℕ) → e < f → f < 128 → codeword (code 1) (flipped (flipped twice e) f) ≡ true → (b ≡ e) × (d ≡ f)
      is_pair e f hef hf t = ⊎_elim first (λ be. ⊎_elim second (λ de. ⊎_elim third (λ bf. ⊎_elim fourth (λ df. absurd
          (flip_four w is b d e f hb' hd (omega arith) hf apart be bf de df (λ q. omega arith) t))
          (eq_or_not d f)) (eq_or_not b f)) (eq_or_not d e)) (eq_or_not b e)
        where
          first : b ≡ e → (b ≡ e) × (d ≡ f)
          first q = ⊎_elim (λ (p : d ≡ f). (q, p))
              (λ (n : d ≡ f → ⊥). absurd (flip_two w is d f hd hf n
              (ap (λ y. codeword (code 1) (flipped y f)) (sym back_first ∙ ap (flipped twice) q) ∙ t)))
              (eq_or_not d f)

          second : d ≡ e → (b ≡ e) × (d ≡ f)
          second q =
              absurd (flip_two w is b f hb' hf (λ p. omega arith)
              (ap (λ y. codeword (code 1) (flipped y f)) (sym (flip_back (flipped w b) d) ∙ ap (flipped twice) q) ∙ t))

          third : b ≡ f → (b ≡ e) × (d ≡ f)
          third q =
              absurd (flip_two w is d e hd (omega arith) (λ p. omega arith)
              (ap (λ y. codeword (code 1) (flipped y e)) (sym back_first ∙ ap (flipped twice) q)
              ∙ ap (codeword (code 1)) (flips_swap twice f e) ∙ t))

          fourth : d ≡ f → (b ≡ e) × (d ≡ f)
          fourth q = ⊎_elim (λ (p : b ≡ e). (p, q))
              (λ (n : b ≡ e → ⊥). absurd (flip_two w is b e hb' (omega arith) n
              (ap (λ y. codeword (code 1) (flipped y e)) (sym (flip_back (flipped w b) d) ∙ ap (flipped twice) q)
              ∙ ap (codeword (code 1)) (flips_swap twice f e) ∙ t)))
              (eq_or_not b e)

      go : (f : Found) → Within reach twice f → f ≡ list (b ∷ d ∷ [])
      go none s = absurd (s 2 hr (b ∷ d ∷ []) twice_mends)
      go (list []) s = absurd (flip_two w is b d hb' hd apart s.1.0.gives)
      go (list (e ∷ [])) s = absurd (flip_three w is b d e hb' hd s.1.0.rising.1 s.1.0.gives)
      go (list (e ∷ f ∷ [])) s =
          let p = is_pair e f s.1.0.rising.2.0 s.1.0.rising.2.1 s.1.0.gives in
          ap₂ (λ m n. list (m ∷ n ∷ [])) (sym p.0) (sym p.1)
      go (list (e ∷ f ∷ g ∷ bits)) s = absurd (s.2 2 (omega arith) (b ∷ d ∷ []) twice_mends)

-- ---- the same of octets

module _ (word out : List ℕ) (lw : length word ≡ 16) (lo : length out ≡ 16) (small : Octets word)
    (is : codeword (code 1) (bit word) ≡ true) where
  sized : length word ≡ (code 1).octets_of_word
  sized = lw ∙ sym octets_are

  one_long : (b : ℕ) → length (one_wrong (code 1) word b) ≡ 16
  one_long b = length_octets (code 1).octets_of_word (flipped (bit word) b) ∙ octets_are

  one_bits : (b : ℕ) → b < 128 → bit (one_wrong (code 1) word b) ≡ flipped (bit word) b
  one_bits b h = bit_one_wrong (code 1) word b sized (omega (arith, octets_are))

  word_back : octets 16 (bit word) ≡ word
  word_back = ap (λ n. octets n (bit word)) (sym lw) ∙ octets_bit word small

  module _ (reach b : ℕ) (some : 1 ≤ reach) (few : reach ≤ 3) (hb : b < 128) where
    -- A codeword with one wrong bit and a reach of at least 1: that bit alone, and the codeword.
    pub one_found : nearest_answer (one_wrong (code 1) word b) reach out ≡ record {
      number = 0;
      least = 1;
      bits = b ∷ 0 ∷ 0 ∷ [];
      out = word;
    }
    unfolding found flips
    one_found =
        nearest_searched (one_wrong (code 1) word b) reach out (one_long b) lo few
        ∙ ap (λ z. found z out (fewest reach z)) (one_bits b hb)
        ∙ ap (found (flipped (bit word) b) out) (once_fewest (bit word) is b hb reach some)
        ∙ ap (λ o. record { number = 0; least = 1; bits = b ∷ 0 ∷ 0 ∷ []; out = o }) (ap (octets 16) (flip_back (bit word) b) ∙ word_back)

    -- It agrees with correct under a limit of at least 1: the same number and the same word, and the flips are the least number.
    pub one_agrees : (limit : ℕ) → 1 ≤ limit
        → ((nearest_answer (one_wrong (code 1) word b) reach out).number ≡ (correct_answer 1 (one_wrong (code 1) word b) limit out).number)
        × ((nearest_answer (one_wrong (code 1) word b) reach out).least ≡ (correct_answer 1 (one_wrong (code 1) word b) limit out).flips)
        × ((nearest_answer (one_wrong (code 1) word b) reach out).out ≡ (correct_answer 1 (one_wrong (code 1) word b) limit out).out)
    one_agrees limit h =
        let n : limit ≡ suc (limit - 1) = omega arith in
        let c = ap (λ l. correct_answer 1 (one_wrong (code 1) word b) l out) n
        ∙ one_back 1 tt word out sized (lo ∙ sym octets_are) small is (limit - 1) b (omega (arith, bits_are, unsent_are)) in (
          ap (λ r. r.number) one_found ∙ sym (ap (λ r. r.number) c),
          ap (λ r. r.least) one_found ∙ sym (ap (λ r. r.flips) c),
          ap (λ r. r.out) one_found ∙ sym (ap (λ r. r.out) c),
        )

  -- A codeword with two wrong bits and a reach of at least 2: these bits, and the codeword. Of three wrong bits no more is claimed than
  -- what holds of every word: that a codeword is found, none being nearer. Whether two codewords differ in just six bits, so that another
  -- may lie as near as the one sent, is not settled here.
  pub two_found : (reach b d : ℕ) → 2 ≤ reach → reach ≤ 3 → b < d → d < 128
      → nearest_answer (two_wrong (code 1) word b d) reach out ≡ record { number = 0; least = 2; bits = b ∷ d ∷ 0 ∷ []; out = word }
  unfolding found flips
  two_found reach b d some few hb hd =
      let w = bit word in
      let hb' : b < 128 = omega arith in
      nearest_searched (two_wrong (code 1) word b d) reach out
      (length_octets (code 1).octets_of_word (flipped (bit (one_wrong (code 1) word b)) d) ∙ octets_are) lo few
      ∙ ap (λ z. found z out (fewest reach z))
      (bit_one_wrong (code 1) (one_wrong (code 1) word b) d (one_long b ∙ sym octets_are) (omega (arith, octets_are))
      ∙ ap (λ y. flipped y d) (one_bits b hb'))
      ∙ ap (found (flipped (flipped w b) d) out) (twice_fewest w is b d hb hd reach some)
      ∙ ap (λ o. record { number = 0; least = 2; bits = b ∷ d ∷ 0 ∷ []; out = o })
      (ap (octets 16) (ap (λ y. flipped y d) (back_first w is b d hb hd) ∙ flip_back w d) ∙ word_back)

  -- So the 16 pairs that correct does not mend, whatever the limit, are found all the same.
  pub sixteen_found : (limit reach b d : ℕ) → 2 ≤ reach → reach ≤ 3 → b < d → d < 128 → T (sixteen b d)
      → ((correct_answer 1 (two_wrong (code 1) word b d) limit out).number ≡ 0 → ⊥)
      × (nearest_answer (two_wrong (code 1) word b d) reach out ≡ record { number = 0; least = 2; bits = b ∷ d ∷ 0 ∷ []; out = word })
  sixteen_found limit reach b d some few hb hd t = (
    not_mended word out sized (lo ∙ sym octets_are) small is limit b d (omega (arith, bits_are, unsent_are))
        (omega (arith, bits_are, unsent_are)) t,
    two_found reach b d some few hb hd,
  )
