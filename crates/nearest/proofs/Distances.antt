-- Words and lists: what differs from a word in some bits is the word with the list of these bits flipped. Assumes nothing.
use mathlib.Core.Path.{◌≡◌, refl, sym, ap, ap₂, ◌∙◌, fun_ext}
use mathlib.Core.Bool.{Bool, true, false, ◌&&◌, and-true}
use mathlib.Core.Logic.{◌⊎◌, inl, inr, ⊎_elim}
use mathlib.Core.List.{List, [], ◌∷◌}
use Prim.Native.Nat.{ℕ, zero, suc, ◌+◌, ◌≤◌, ◌<◌, zero-le}
use native.Mathlib.Nat.{le_refl, zero-add, suc-add, add-suc, add-zero}
use native.Mathlib.Numerals.{one-add}
use native.Mathlib.Omega.{arith}
use lib.Dec.{eqb}
use lib.ListN.{length}
use borrow.Author.Tests.{eq-eqb, ne_eqb, lt-ltb}
use Rattle.bits.specs.Bits.{Word, bit, octets, ◌⊕◌, tally, count, flipped, when◌then◌else◌}
use Rattle.bits.proofs.Orders.{eq_or_not}
use Rattle.bits.proofs.Sums.{⊕-false, ⊕-assoc, ⊕-self}
use Rattle.bits.proofs.Octets.{bit_octets}
use Rattle.bits.proofs.Counting.{count_none, count_same, count_pick, count_apart}
use Rattle.rules.specs.Codes.{code}
use Rattle.rules.specs.Encoding.{codeword}
use Rattle.answers.specs.Calls.{differing}
use Rattle.nearest.specs.Nearest.{flips}
use Rattle.nearest.specs.Lists.{Rising, Mends}
use Rattle.nearest.proofs.Quiet.{bits_are, codeword_same}
use Rattle.nearest.proofs.Lists.{rising_from}

-- ---- the bits of a list

abbrev pub among : List ℕ → Word
among [] i = false
among (b ∷ bits) i = eqb i b ⊕ among bits i

pub flipped_among : (bits : List ℕ) (x : Word) (i : ℕ) → flips bits x i ≡ x i ⊕ among bits i
unfolding flips
flipped_among [] x i = sym (⊕-false (x i))
flipped_among (b ∷ bits) x i = flipped_among bits (flipped x b) i ∙ ⊕-assoc (x i) (eqb i b) (among bits i)

among_before : (b e : ℕ) (bits : List ℕ) → Rising b e bits → (i : ℕ) → i < b → among bits i ≡ false
among_before b e [] r i h = refl
among_before b e (c ∷ bits) r i h =
    ap₂ (λ p q. p ⊕ q) (ne_eqb i c (λ q. omega (arith, r.0))) (among_before (suc c) e bits r.2 i (omega (arith, r.0)))

-- a rising list has each bit once
among_many : (m b : ℕ) (bits : List ℕ) → Rising b m bits → count m (among bits) ≡ length bits
among_many m b [] r = count_none m (λ i. false) (λ i l. refl)
among_many m b (c ∷ bits) r =
    count_apart m (λ i. eqb i c) (among bits) (λ i. eqb i c ⊕ among bits i) apart
    ∙ ap₂ (λ p q. p + q) one (among_many m (suc c) bits r.2) ∙ one-add (length bits)
  where
    one : count m (λ i. eqb i c) ≡ 1
    one = count_same m (λ i. eqb i c) (λ i. eqb i c && true) (λ i l. sym (and-true (eqb i c))) ∙ count_pick m c (λ i. true) r.1

    apart : (i : ℕ) → i < m → tally (eqb i c ⊕ among bits i) ≡ tally (eqb i c) + tally (among bits i)
    apart i l =
        ⊎_elim
        (λ (q : i ≡ c).
        let none : among bits i ≡ false = among_before (suc c) m bits r.2 i (omega arith) in
        ap₂ (λ p q. tally (p ⊕ q)) (eq-eqb i c q) none ∙ sym (ap₂ (λ p q. tally p + tally q) (eq-eqb i c q) none))
        (λ (d : i ≡ c → ⊥).
        ap (λ p. tally (p ⊕ among bits i)) (ne_eqb i c d)
        ∙ sym (ap (λ p. tally p + tally (among bits i)) (ne_eqb i c d) ∙ zero-add (tally (among bits i))))
        (eq_or_not i c)

back : (a b : Bool) → a ⊕ (a ⊕ b) ≡ b
back a b = sym (⊕-assoc a a b) ∙ ap (λ c. c ⊕ b) (⊕-self a)

-- so its flips give a word at that distance
pub flipped_far : (bits : List ℕ) (x : Word) → Rising 0 128 bits → differing (code 1) x (flips bits x) ≡ length bits
flipped_far bits x r =
    ap (λ n. count n (λ i. x i ⊕ flips bits x i)) bits_are
    ∙ count_same 128 (λ i. x i ⊕ flips bits x i) (among bits) (λ i l.
    ap (λ p. x i ⊕ p) (flipped_among bits x i) ∙ back (x i) (among bits i))
    ∙ among_many 128 0 bits r

-- ---- the list of the bits that are set in a word

unfoldable pub set_from : ℕ → ℕ → Word → List ℕ
set_from zero b f = []
set_from (suc n) b f = when f b then b ∷ set_from n (suc b) f else set_from n (suc b) f

set_rising : (n b e : ℕ) (f : Word) → b + n ≡ e → Rising b e (set_from n b f)
unfolding set_from
set_rising zero b e f q = tt
set_rising (suc n) b e f q = go (f b) (set_rising n (suc b) e f (omega arith))
  where
    go : (t : Bool) → Rising (suc b) e (set_from n (suc b) f) → Rising b e (when t then b ∷ set_from n (suc b) f else set_from n (suc b) f)
    go true r = (le_refl b, omega arith, r)
    go false r = rising_from b e (set_from n (suc b) f) r

count_front : (n : ℕ) (f : Word) → count (suc n) f ≡ tally (f 0) + count n (λ i. f (suc i))
unfolding count
count_front zero f = omega arith
count_front (suc n) f = omega (arith, count_front n f)

set_many : (n b : ℕ) (f : Word) → length (set_from n b f) ≡ count n (λ i. f (b + i))
unfolding set_from count
set_many zero b f = refl
set_many (suc n) b f = go (f b) refl (set_many n (suc b) f) ∙ sym (count_front n (λ i. f (b + i)))
  where
    here : (t : Bool) → f b ≡ t → t ≡ f (b + 0)
    here t e = sym e ∙ ap f (sym (add-zero b))

    rest : length (set_from n (suc b) f) ≡ count n (λ i. f (suc b + i)) → length (set_from n (suc b) f) ≡ count n (λ i. f (b + suc i))
    rest ih = ih ∙ ap (count n) (fun_ext (λ i. ap f (suc-add b i ∙ sym (add-suc b i))))

    go : (t : Bool) → f b ≡ t → length (set_from n (suc b) f) ≡ count n (λ i. f (suc b + i))
        → length (when t then b ∷ set_from n (suc b) f else set_from n (suc b) f) ≡ tally (f (b + 0)) + count n (λ i. f (b + suc i))
    go true e ih = sym (one-add (length (set_from n (suc b) f))) ∙ ap₂ (λ p q. tally p + q) (here true e) (rest ih)
    go false e ih = sym (zero-add (length (set_from n (suc b) f))) ∙ ap₂ (λ p q. tally p + q) (here false e) (rest ih)

set_among : (n b e : ℕ) (f : Word) → b + n ≡ e → (i : ℕ) → b ≤ i → i < e → among (set_from n b f) i ≡ f i
unfolding set_from
set_among zero b e f q i l h = absurd (omega arith)
set_among (suc n) b e f q i l h =
    go (f b) refl (set_rising n (suc b) e f (omega arith)) (set_among n (suc b) e f (omega arith) i) (eq_or_not i b)
  where
    go : (t : Bool) → f b ≡ t → Rising (suc b) e (set_from n (suc b) f) → (suc b ≤ i → i < e → among (set_from n (suc b) f) i ≡ f i)
        → (i ≡ b) ⊎ (i ≡ b → ⊥) → among (when t then b ∷ set_from n (suc b) f else set_from n (suc b) f) i ≡ f i
    go true t r ih (inl e') =
        ap₂ (λ p q. p ⊕ q) (eq-eqb i b e') (among_before (suc b) e (set_from n (suc b) f) r i (omega arith)) ∙ sym (ap f e' ∙ t)
    go true t r ih (inr d) = ap (λ p. p ⊕ among (set_from n (suc b) f) i) (ne_eqb i b d) ∙ ih (omega arith) h
    go false t r ih (inl e') = among_before (suc b) e (set_from n (suc b) f) r i (omega arith) ∙ sym (ap f e' ∙ t)
    go false t r ih (inr d) = ih (omega arith) h

-- a codeword is a word with the bits flipped in which it differs
pub codeword_mends : (x y : Word) → codeword (code 1) y ≡ true → Mends (differing (code 1) x y) 0 128 x (set_from 128 0 (λ i. x i ⊕ y i))
codeword_mends x y is =
    let f : Word = λ i. x i ⊕ y i in
    record {
      many = set_many 128 0 f ∙ ap (count 128) (fun_ext (λ i. ap f (zero-add i))) ∙ ap (λ n. count n f) (sym bits_are);
      rising = set_rising 128 0 128 f refl;
      gives = codeword_same y (flips (set_from 128 0 f) x) (λ i l.
          sym (flipped_among (set_from 128 0 f) x i ∙ ap (λ p. x i ⊕ p) (set_among 128 0 128 f refl i zero-le l) ∙ back (x i) (y i))) is;
    }

-- ---- sixteen octets

pub sixteen_bits : (x : Word) (i : ℕ) → i < 128 → bit (octets 16 x) i ≡ x i
sixteen_bits x i h = bit_octets 16 x i ∙ ap (λ b. b && x i) (lt-ltb i 128 h)

pub differing_same : (x y z : Word) → ((i : ℕ) → i < 128 → y i ≡ z i) → differing (code 1) x y ≡ differing (code 1) x z
differing_same x y z same =
    ap (λ n. count n (λ i. x i ⊕ y i)) bits_are
    ∙ count_same 128 (λ i. x i ⊕ y i) (λ i. x i ⊕ z i) (λ i l. ap (λ b. x i ⊕ b) (same i l))
    ∙ ap (λ n. count n (λ i. x i ⊕ z i)) (sym bits_are)
