-- How a quiet word is judged, from the tests that the code makes.
use mathlib.Core.Path.{◌≡◌, refl, sym, ap, ap₂, ◌∙◌, subst}
use mathlib.Core.Bool.{Bool, true, false, not, ◌&&◌, ◌||◌, true≢false}
use mathlib.Core.List.{List}
use Prim.Native.Nat.{ℕ, ◌+◌, ◌-◌, ◌*◌, ◌≤◌, ◌<◌}
use native.Mathlib.Nat.{le_of_eq, lt_of_not-le, lt_of_lt_of_le}
use native.Mathlib.Decide.{ℕ_discrete, dec_lt}
use native.Mathlib.Omega.{arith}
use lib.Dec.{T, eqb, leb, ltb, le→leb, nltb→le}
use lib.ListN.{length}
use borrow.Author.Tests.{eq-eqb, ne_eqb, eqb-true, le-ltb}
use Rattle.bits.specs.Bits.{Word, bit, count, tally, when◌then◌else◌}
use Rattle.rules.specs.Codes.{Code, code, code4, code5, near_earth, bits, information, offered, telecommanded}
use Rattle.rules.specs.Checks.{broken}
use Rattle.rules.specs.Encoding.{lifted, sent, encoded, codeword, OwnParity}
use Rattle.rules.specs.Flipping.{Run}
use Rattle.answers.specs.Calls.{judged, last_two_set, fault}
use Rattle.bits.proofs.Counting.{count-start, count_none, none_counted}
use Rattle.rules.proofs.Published.{both, Published}
use Rattle.rules.proofs.Codewords.{agree_all, own_encoded, own_codeword, codeword_own, sent_bit, sent_fill, lifted_sent_bit, lifted_sent}
use Rattle.rules.proofs.Codewords.{parity_same}
use Rattle.rules.proofs.Numbers.{published, met_own_telecommand, met_codeword}
use Rattle.answers.proofs.Opening.{fault_two, fault_parity, fault_clear, telecommand_two}
use Rattle.layout.specs.declared.Shape.{Shape}
use Rattle.layout.specs.Lent.{Fit, Lent, laid}
use Rattle.vectors.specs.Vectors.{up_to, from}
use Rattle.vectors.proofs.Counts.{count_up_to}
use Rattle.catalogue.specs.declared.offer.Offer.{Offer}
use Rattle.catalogue.specs.offer.Offers.{offer_of}
use Rattle.catalogue.proofs.offer.Offers.{offered_low, offered_high, fixed}
use Rattle.word.specs.measured.Measured.{Measured}

-- a Bool that can't be true is false
pub not_so : (b : Bool) → (b ≡ true → ⊥) → b ≡ false
not_so true h = absurd (h refl)
not_so false h = refl

module _ (n : ℕ) (off : offered n ≡ true) where
  pub pb : Published (code n)
  pb = published n (subst T (sym off) tt)

  pub telecommand : {o : Offer} → o ≡ offer_of n → o.asked ≡ false → T (telecommanded n)
  telecommand {o} e f = is_not (telecommanded n) (sym (fixed n off).asked ∙ ap (λ z. z.asked) (sym e) ∙ f)
    where
      is_not : (b : Bool) → not b ≡ false → T b
      is_not true q = tt
      is_not false q = absurd (true≢false q)

  pub near : {o : Offer} → o ≡ offer_of n → o.asked ≡ true → 4 ≤ n
  near {o} e f = go (dec_lt n 4)
    where
      low : (b : Bool) → T b → not b ≡ true → ⊥
      low true t r = true≢false (sym r)
      low false t r = t

      go : Dec (n < 4) → 4 ≤ n
      go (yes l) =
          absurd (low (telecommanded n) (both (leb 1 n) (leb n 3) (le→leb 1 n (offered_low n off)) (le→leb n 3 (omega arith)))
          (sym (fixed n off).asked ∙ ap (λ z. z.asked) (sym e) ∙ f))
      go (no g) = omega (arith, lt_of_not-le g)

  -- ---- a word is a codeword if its parity is the encoder's and what follows the parity is 0

  pub fill_codeword : (y : Word) → OwnParity (code n) (lifted (code n) y)
      → ((i : ℕ) → bits (code n) - (code n).unsent ≤ i → i < 8 * (code n).octets_of_word → y i ≡ false) → codeword (code n) y ≡ true
  unfolding codeword
  fill_codeword y own fill =
      agree_all (8 * (code n).octets_of_word) y (sent (code n) (encoded (code n) (lifted (code n) y)))
      (λ i l. go i l (dec_lt i (bits (code n) - (code n).unsent)))
    where
      go : (i : ℕ) → i < 8 * (code n).octets_of_word → Dec (i < bits (code n) - (code n).unsent)
          → y i ≡ sent (code n) (encoded (code n) (lifted (code n) y)) i
      go i l (yes h) =
          sym (sent_bit (code n) (encoded (code n) (lifted (code n) y)) i h
          ∙ own_encoded (code n) (lifted (code n) y) own (i + (code n).unsent) (omega arith) ∙ lifted_sent_bit (code n) y i)
      go i l (no g) =
          let h : bits (code n) - (code n).unsent ≤ i = omega (arith, lt_of_not-le g) in
          fill i h l ∙ sym (sent_fill (code n) (encoded (code n) (lifted (code n) y)) i h)

  -- ---- the number of a run

  module _ (r : Run) where
    pub judged_other : (r.number ≡ 0 → ⊥) → r.number ≡ judged (code n) r
    judged_other d =
        sym (ap (λ b. when not b then r.number else when ltb 0 (count (code n).unsent r.word) then 7 else when not
        (codeword (code n) (sent (code n) r.word)) then 8 else 0) (ne_eqb r.number 0 d))

    spelled : (a b : Bool) → r.number ≡ 0 → ltb 0 (count (code n).unsent r.word) ≡ a → codeword (code n) (sent (code n) r.word) ≡ b
        → (when a then 7 else when not b then 8 else 0) ≡ judged (code n) r
    spelled a b e f g =
        sym (ap (λ b. when not b then r.number else when ltb 0 (count (code n).unsent r.word) then 7 else when not
        (codeword (code n) (sent (code n) r.word)) then 8 else 0) (eq-eqb r.number 0 e)
        ∙ ap₂ (λ a b. when a then 7 else when not b then 8 else 0) f g)

    no_unsent : ((i : ℕ) → i < (code n).unsent → r.word i ≡ false) → ltb 0 (count (code n).unsent r.word) ≡ false
    no_unsent none = le-ltb 0 (count (code n).unsent r.word) (le_of_eq (count_none (code n).unsent r.word none))

    -- the parity is the encoder's
    pub judged_own : r.number ≡ 0 → ((i : ℕ) → i < (code n).unsent → r.word i ≡ false) → OwnParity (code n) r.word
        → 0 ≡ judged (code n) r
    judged_own e none own = spelled false true e (no_unsent none) (own_codeword (code n) pb r.word own none)

    -- it is not
    pub judged_other_parity : r.number ≡ 0 → ((i : ℕ) → i < (code n).unsent → r.word i ≡ false) → (OwnParity (code n) r.word → ⊥)
        → 8 ≡ judged (code n) r
    judged_other_parity e none no_own = spelled false false e (no_unsent none)
        (not_so (codeword (code n) (sent (code n) r.word)) (λ is. no_own (back is)))
      where
        back : codeword (code n) (sent (code n) r.word) ≡ true → OwnParity (code n) r.word
        back is p h =
            sym (lifted_sent (code n) r.word none (information (code n) + p) (omega (arith, pb.after)))
            ∙ codeword_own (code n) pb (sent (code n) r.word) is p h
            ∙ parity_same (code n) (lifted (code n) (sent (code n) r.word)) r.word
            (λ i l. lifted_sent (code n) r.word none i (lt_of_lt_of_le l pb.after)) p

-- ---- counts

-- a count that is not above 0
pub zero_of : (k : ℕ) → false ≡ ltb 0 k → k ≡ 0
zero_of k e = omega (arith, nltb→le 0 k (subst (λ b. T (not b)) e tt))

-- the ones of m bits, cut out
pub cut_count : (m long : ℕ) (v x : Word) → v ≡ up_to m x → m ≤ long → count long v ≡ count m x
cut_count m long v x e l = ap (count long) e ∙ count_up_to m long x l

-- one of two bits is set
two_bits : (x : Word) (a b : Bool) → x 0 ≡ a → x 1 ≡ b → ltb 0 (count 2 x) ≡ (a || b)
unfolding count
two_bits x a b e f = ap₂ (λ p q. ltb 0 (0 + tally p + tally q)) e f ∙ go a b
  where
    go : (a b : Bool) → ltb 0 (0 + tally a + tally b) ≡ (a || b)
    go true true = refl
    go true false = refl
    go false true = refl
    go false false = refl

-- ---- the parity of a near-Earth word, by code number

abbrev Tells : Code → Word → Bool → Type 0
Tells c x r = (r ≡ true → OwnParity c x) × (OwnParity c x → r ≡ true)

pub near_tells : (n : ℕ) → offered n ≡ true → 4 ≤ n → (x : Word) (r : Bool)
    → ((octets_of_word octets_of_information unsent : ℕ) → broken (near_earth octets_of_word octets_of_information unsent) x ≡ 0
    → Tells (near_earth octets_of_word octets_of_information unsent) x r)
    → broken (code n) x ≡ 0 → Tells (code n) x r
unfolding code code4 code5
near_tells n off h x r tells = go (ℕ_discrete n 4)
  where
    go : Dec (n ≡ 4) → broken (code n) x ≡ 0 → Tells (code n) x r
    go (yes e) = subst (λ k. broken (code k) x ≡ 0 → Tells (code k) x r) (sym e) (tells 1022 895 0)
    go (no d) =
        let e : n ≡ 5 = omega (arith, offered_high n off) in
        subst (λ k. broken (code k) x ≡ 0 → Tells (code k) x r) (sym e) (tells 1020 892 18)

-- ---- a run that ended quiet, judged by the code's tests

module _ (n : ℕ) (off : offered n ≡ true) (o : Offer) (is : o ≡ offer_of n) (number : ℕ) (y : Word) (quiet : number ≡ 0)
    (r : Run) (e : r.number ≡ number) (w : r.word ≡ y) (met : number ≡ 0 → broken (code n) y ≡ 0) (none : (i : ℕ) → i < (code n).unsent
    → y i ≡ false) where
  none_set : (i : ℕ) → i < (code n).unsent → r.word i ≡ false
  none_set i h = ap (λ x. x i) w ∙ none i h

  pub by_telecommand : o.asked ≡ false → 0 ≡ judged (code n) r
  by_telecommand f =
      let t : T (telecommanded n) = telecommand n off is f in
      judged_own n off r (e ∙ quiet) none_set
      (met_own_telecommand n t r.word (ap (broken (code n)) w ∙ met quiet))

  module _ (asked : o.asked ≡ true) (b : Bool)
      (tells : (octets_of_word octets_of_information unsent : ℕ) → broken (near_earth octets_of_word octets_of_information unsent) y ≡ 0
      → Tells (near_earth octets_of_word octets_of_information unsent) y b) where
    told : Tells (code n) y b
    told = near_tells n off (near n off is asked) y b tells (met quiet)

    pub by_own : b ≡ true → 0 ≡ judged (code n) r
    by_own t = judged_own n off r (e ∙ quiet) none_set (subst (OwnParity (code n)) (sym w) (told.0 t))

    pub by_other : b ≡ false → 8 ≡ judged (code n) r
    by_other f =
        judged_other_parity n off r (e ∙ quiet) none_set
        (λ own. true≢false (sym (told.1 (subst (OwnParity (code n)) w own)) ∙ f))

-- ---- a measured word, by what is found of it

module _ (n : ℕ) (off : offered n ≡ true) (o : Offer) (is : o ≡ offer_of n) (y z : Word) (word h : List ℕ) (sh : Shape)
    (long : length word ≡ (code n).octets_of_word)
    (m : Measured n word h y z sh) (q : Bool)
    (tells_quiet : (c : Code) (h : List ℕ) (sh : Shape) (x : Word) → Fit h sh → Lent c h sh → z ≡ laid c sh x
    → q ≡ eqb (broken c x) 0) where
  found : q ≡ eqb (broken (code n) (lifted (code n) (bit word))) 0
  found = tells_quiet (code n) h sh y m.lends.fit m.lends.lent m.held ∙ ap (λ x. eqb (broken (code n) x) 0) m.bits

  met : q ≡ true → broken (code n) (lifted (code n) (bit word)) ≡ 0
  met e = eqb-true (broken (code n) (lifted (code n) (bit word))) 0 (sym found ∙ e)

  pub finds_telecommand : q ≡ true → o.asked ≡ false → 0 ≡ fault n word
  finds_telecommand e f =
      let tc : T (telecommanded n) = telecommand n off is f in
      sym (fault_clear n word (sym found ∙ e) (telecommand_two n tc word) (met_codeword n tc word long (met e)))

  -- the bits after the parity
  after : (i : ℕ) → y (bits (code n) + i) ≡ bit word (bits (code n) + i - (code n).unsent)
  after i =
      let e : bits (code n) + i - (code n).unsent + (code n).unsent ≡ bits (code n) + i = omega (
        arith,
        (pb n off).before,
        (pb n off).after,
      ) in
      ap (λ x. x (bits (code n) + i)) m.bits ∙ ap (lifted (code n) (bit word)) (sym e)
      ∙ lifted_sent_bit (code n) (bit word) (bits (code n) + i - (code n).unsent)

  here : o.bits ≡ bits (code n)
  here = ap (λ v. v.bits) is ∙ (fixed n off).bits_are

  filled : o.bits + o.fill ≡ 8 * (code n).octets_of_word + (code n).unsent
  filled = ap₂ (λ a b. a + b) here (ap (λ v. v.fill) is) ∙ (fixed n off).fill

  -- the bits that are sent after the parity, as they are found, are code 5's last two
  two_found : o.asked ≡ true → ltb 0 (count o.fill (from o.bits y)) ≡ last_two_set n word
  two_found asked = go (ℕ_discrete n 4)
    where
      go : Dec (n ≡ 4) → ltb 0 (count o.fill (from o.bits y)) ≡ last_two_set n word
      go (yes e) =
          ap (λ k. ltb 0 (count k (from o.bits y))) (ap (λ v. v.fill) is ∙ ap (λ k. (offer_of k).fill) e)
          ∙ le-ltb 0 (count 0 (from o.bits y)) (le_of_eq (sym (count-start (from o.bits y))))
          ∙ sym (ap (λ k. last_two_set k word) e)
      go (no d) =
          let e : n ≡ 5 = omega (arith, near n off is asked, offered_high n off) in
          let u : (code n).unsent ≡ 18 = sym (fixed n off).unsent ∙ ap (λ k. (offer_of k).unsent) e in
          let m : bits (code n) ≡ 8176 = sym (fixed n off).bits_are ∙ ap (λ k. (offer_of k).bits) e in
          ap₂ (λ k p. ltb 0 (count k (from p y))) (ap (λ v. v.fill) is ∙ ap (λ k. (offer_of k).fill) e) (here ∙ m)
          ∙ two_bits (from 8176 y) (bit word 8158) (bit word 8159) (at u m 0) (at u m 1)
          ∙ sym (ap (λ b. b && (bit word 8158 || bit word 8159)) (eq-eqb n 5 e))
        where
          at : (code n).unsent ≡ 18 → bits (code n) ≡ 8176 → (i : ℕ) → y (8176 + i) ≡ bit word (8158 + i)
          at u m i =
              let e : bits (code n) + i - (code n).unsent ≡ 8158 + i = omega (arith, u, m) in
              ap (λ k. y (k + i)) (sym m) ∙ after i ∙ ap (bit word) e

  module _ (quiet : q ≡ true) (asked : o.asked ≡ true) where
    pub finds_fill : true ≡ ltb 0 (count o.fill (from o.bits y)) → 14 ≡ fault n word
    finds_fill set = sym (fault_two n word (sym found ∙ quiet) (sym (two_found asked) ∙ sym set))

  module _ (quiet : q ≡ true) (asked : o.asked ≡ true) (none : false ≡ ltb 0 (count o.fill (from o.bits y))) (b : Bool)
      (tells : (octets_of_word octets_of_information unsent : ℕ) → broken (near_earth octets_of_word octets_of_information unsent) y ≡ 0
      → Tells (near_earth octets_of_word octets_of_information unsent) y b) where
    known : Tells (code n) (lifted (code n) (bit word)) b
    known = subst (λ x. Tells (code n) x b) m.bits (near_tells n off (near n off is asked) y b tells (ap (broken (code n)) m.bits
        ∙ met quiet))

    zeros : (i : ℕ) → bits (code n) - (code n).unsent ≤ i → i < 8 * (code n).octets_of_word → bit word i ≡ false
    zeros i l h =
        let k = i + (code n).unsent - bits (code n) in
        let e : bits (code n) + k - (code n).unsent ≡ i = omega (arith, (pb n off).before, (pb n off).after) in
        ap (bit word) (sym e) ∙ sym (after k) ∙ ap (λ v. y (v + k)) (sym here)
        ∙ none_counted o.fill (from o.bits y) (zero_of (count o.fill (from o.bits y)) none) k
        (omega (arith, filled, here, (pb n off).before, (pb n off).after))

    unset : last_two_set n word ≡ false
    unset = sym (two_found asked) ∙ sym none

    pub finds_own : b ≡ true → 0 ≡ fault n word
    finds_own e = sym (fault_clear n word (sym found ∙ quiet) unset (fill_codeword n off (bit word) (known.0 e) zeros))

    pub finds_other : b ≡ false → 15 ≡ fault n word
    finds_other e =
        sym (fault_parity n word (sym found ∙ quiet) unset
        (not_so (codeword (code n) (bit word)) (λ w. true≢false (sym (known.1 (codeword_own (code n) (pb n off) (bit word) w)) ∙ e))))
