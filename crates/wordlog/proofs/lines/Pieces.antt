-- A recording in words, one after another.
use mathlib.Core.Path.{◌≡◌, refl, sym, ap, ap₂, ◌∙◌}
use mathlib.Core.Bool.{Bool, true, false}
use mathlib.Core.List.{List, ◌++◌, append-nil, append_assoc}
use Prim.Native.Nat.{ℕ, zero, suc, ◌+◌, ◌-◌, ◌*◌, ◌/◌, ◌≤◌, ◌<◌}
use native.Mathlib.Nat.{add-zero, add-suc, add_assoc, add-mul, le-div_iff_mul-le, suc-mul, mul-le-mul_left}
use native.Mathlib.Omega.{arith}
use lib.Dec.{leb}
use borrow.Author.Tests.{leb-true, leb-false}
use lib.ListN.{length, take, drop, length-drop}
use lib.Seq.{take_all, drop-append-le, take-append-le, drop-append-add}
use Rattle.rules.specs.Codes.{code, code1, code2, code3, code4, code5, offered}
use Rattle.wordlog.specs.line.Line.{word_line}
use Rattle.wordlog.specs.lines.Log.{lines, word}
use Rattle.rules.proofs.Numbers.{five}
use Rattle.catalogue.proofs.offer.Offers.{is_offered}

-- the shortest words have 16 octets
pub at_least : (n : ℕ) → offered n ≡ true → 16 ≤ (code n).octets_of_word
unfolding code code1 code2 code3 code4 code5
at_least n t = five (λ n. 16 ≤ (code n).octets_of_word) (omega arith) (omega arith) (omega arith) (omega arith) (omega arith) n
    (is_offered n t)

-- every word starts before the end
pub starts_before : (long size k : ℕ) → 16 ≤ size → k < (long + (size - 1)) / size → (k * size < long) × (16 * k ≤ k * size)
starts_before long size k h l =
    let z : 0 < size = omega arith in
    let s : suc k * size ≤ long + (size - 1) = (le-div_iff_mul-le z).0 l in
    (omega (arith, suc-mul k size), omega (arith, mul-le-mul_left k h))

-- a word, or what is left
pub piece : (r : List ℕ) (at size stop : ℕ) → stop ≡ (at + size) - ((at + size) - length r)
    → take (stop - at) (drop at r) ≡ take size (drop at r)
piece r at size stop e = go (leb (at + size) (length r)) refl
  where
    go : (t : Bool) → leb (at + size) (length r) ≡ t → take (stop - at) (drop at r) ≡ take size (drop at r)
    go true f =
        let h : stop - at ≡ size = omega (arith, leb-true (at + size) (length r) f) in
        ap (λ n. take n (drop at r)) h
    go false f =
        let h : length r < at + size = leb-false (at + size) (length r) f in
        take_all (stop - at) (drop at r) (omega (arith, length-drop at r))
        ∙ sym (take_all size (drop at r) (omega (arith, length-drop at r)))

-- ---- a recording in parts

module _ (n limit index : ℕ) (a b : List ℕ) where
  word_front : (i : ℕ) → i * (code n).octets_of_word + (code n).octets_of_word ≤ length a → word n (a ++ b) i ≡ word n a i
  word_front i h =
      let m = i * (code n).octets_of_word in
      let l : m ≤ length a = omega arith in
      ap (λ (o : List ℕ). take (code n).octets_of_word o) (drop-append-le m a b l)
      ∙ take-append-le (code n).octets_of_word (drop m a) b (omega (arith, length-drop m a))

  front : (i : ℕ) → i * (code n).octets_of_word ≤ length a → lines n limit index (a ++ b) i ≡ lines n limit index a i
  unfolding lines
  front zero h = refl
  front (suc i) h =
      let e : i * (code n).octets_of_word + (code n).octets_of_word ≤ length a = omega (arith, suc-mul i (code n).octets_of_word) in
      ap₂ (λ (p q : List ℕ). p ++ q) (front i (omega arith)) (ap (λ o. word_line n limit (index + i) o) (word_front i e))

  word_back : (j i : ℕ) → length a ≡ j * (code n).octets_of_word → word n (a ++ b) (j + i) ≡ word n b i
  word_back j i h =
      let w = (code n).octets_of_word in
      ap (λ m. take w (drop m (a ++ b))) (add-mul j i w ∙ ap (λ m. m + i * w) (sym h))
      ∙ ap (λ (o : List ℕ). take w o) (drop-append-add a b (i * w))

  -- A recording is read part after part. The lines of its parts, of which all but the last have whole words, are those of the whole.
  pub in_parts : (j k : ℕ) → length a ≡ j * (code n).octets_of_word
      → lines n limit index (a ++ b) (j + k) ≡ lines n limit index a j ++ lines n limit (index + j) b k
  unfolding lines
  in_parts j zero h = ap (λ m. lines n limit index (a ++ b) m) (add-zero j) ∙ front j (omega arith)
      ∙ sym (append-nil (lines n limit index a j))
  in_parts j (suc k) h =
      ap (λ m. lines n limit index (a ++ b) m) (add-suc j k)
      ∙ ap₂ (λ (p q : List ℕ). p ++ q) (in_parts j k h) (ap₂ (λ i o. word_line n limit i o) (sym (add_assoc index j k)) (word_back j k h))
      ∙ append_assoc (lines n limit index a j) (lines n limit (index + j) b k) (word_line n limit (index + j + k) (word n b k))
