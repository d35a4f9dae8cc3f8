-- The word as it is written: the information's octets, and from the last of them on what is laid. Assumes nothing.
use mathlib.Core.Path.{◌≡◌, sym, ap, ap₂, ◌∙◌, fun_ext}
use mathlib.Core.Bool.{false, ◌&&◌, and-false}
use mathlib.Core.Logic.{⊎_elim}
use mathlib.Core.List.{List, ◌++◌, append-nil}
use Prim.Native.Nat.{ℕ, ◌+◌, ◌-◌, ◌*◌, ◌/◌, ◌%◌, ◌^◌, ◌≤◌, ◌<◌}
use native.Mathlib.Omega.{arith}
use lib.Dec.{ltb}
use lib.ListN.{length, get_or, take, drop, set, length-append, length-take, length-drop, drop_of_length-le}
use lib.ListN.{get_or-append, get_or-eq_default}
use lib.Seq.{take_at, get_or-take, get_or-append-add, length-take-le}
use borrow.Rule.Slice.PartMut.{put_mid}
use Rattle.bits.specs.Bits.{Word, bit, digit, octets}
use Rattle.bits.proofs.Octets.{bit_octets, digit_zero}
use Rattle.bits.proofs.Orders.{le-or-lt}
use Rattle.vectors.specs.Vectors.{wbit, Holds, up_to, from, joined}
use Rattle.vectors.proofs.Cells.{joined_below, joined_above, joined_start, joined_end}
use Rattle.vectors.proofs.Filling.{word_stored}
use Rattle.vectors.proofs.Octets.{octets_of}
use Rattle.vectors.proofs.Spans.{up_to_below, up_to_above}
use Rattle.layout.specs.declared.Shape.{Shape}
use Rattle.encoder.specs.parityrows.Rows.{behind, completed}

-- ---- the last bits of the information

-- no octet reads as zeros
pub no_octet : (o : List ℕ) (at : ℕ) → length o ≤ at → Holds 0 (up_to 8 (digit 8 (get_or o at 0)))
no_octet o at h i hi =
    digit_zero 64 i
    ∙ sym (ap (λ z. up_to 8 (digit 8 z) i) (get_or-eq_default o 0 h) ∙ ap (λ z. ltb i 8 && z) (digit_zero 8 i) ∙ and-false (ltb i 8))

module _ (o : List ℕ) (n : ℕ) (short : bit o ≡ up_to n (bit o)) where
  abbrev at : ℕ
  at = n / 8

  -- those of the octet that it does not fill
  abbrev pub spare : Word
  spare = up_to (n % 8) (from (8 * at) (bit o))

  gone : (i : ℕ) → n ≤ i → bit o i ≡ false
  gone i h = ap (λ z. z i) short ∙ up_to_above n i (bit o) h

  octet : (i : ℕ) → i < 8 → digit 8 (get_or o at 0) i ≡ bit o (8 * at + i)
  octet i h =
      let q : (8 * at + i) / 8 ≡ at = omega arith in
      let k : (8 * at + i) % 8 ≡ i = omega arith in
      sym (ap₂ (λ q k. digit 8 (get_or o q 0) k) q k)

  holds : (v : ℕ) → Holds v (up_to 8 (digit 8 (get_or o at 0))) → Holds v (from (64 * 0) spare)
  holds v hv i hi =
      let same : i ≡ 64 * 0 + i = omega arith in
      hv i hi
      ∙ ⊎_elim
      (λ (l : n % 8 ≤ i). past i l ∙ sym (up_to_above (n % 8) i (from (8 * at) (bit o)) l))
      (λ (l : i < n % 8).
      up_to_below 8 i (digit 8 (get_or o at 0)) (omega arith) ∙ octet i (omega arith)
      ∙ sym (up_to_below (n % 8) i (from (8 * at) (bit o)) l))
      (le-or-lt (n % 8) i)
      ∙ ap spare same
    where
      past : (i : ℕ) → n % 8 ≤ i → up_to 8 (digit 8 (get_or o at 0)) i ≡ false
      past i l =
          ⊎_elim
          (λ (h : 8 ≤ i). up_to_above 8 i (digit 8 (get_or o at 0)) h)
          (λ (h : i < 8). up_to_below 8 i (digit 8 (get_or o at 0)) h ∙ octet i h ∙ gone (8 * at + i) (omega arith))
          (le-or-lt 8 i)

  pub spare_stored : (y : List ℕ) (v : ℕ) → 1 ≤ length y → wbit y ≡ (λ i. false) → Holds v (up_to 8 (digit 8 (get_or o at 0)))
      → wbit (set y 0 v) ≡ spare
  spare_stored y v some zeros hv =
      word_stored y 0 spare (wbit y) (joined_start (64 * 0) spare (wbit y) (λ i h. absurd (omega arith))) v (omega arith) (holds v hv)
      ∙ joined_end (64 * (0 + 1)) spare (wbit y) (λ i h. ap (λ z. z i) zeros
      ∙ sym (up_to_above (n % 8) i (from (8 * at) (bit o)) (omega arith)))

-- ---- the whole word

module _ (sh : Shape) (first : ℕ) (f : ℕ → Word) (n : ℕ) (x : Word) where
  abbrev base : ℕ
  base = 8 * (n / 8)

  abbrev R : ℕ
  R = sh.rows * sh.size

  abbrev tail : Word
  tail = completed sh first f (n % 8) (from base x)

  abbrev whole : Word
  whole = completed sh first f n x

  abbrev near : Word
  near = joined (n % 8) (from base x) (λ i. behind sh first f (i - n % 8))

  abbrev far : Word
  far = joined n x (λ i. behind sh first f (i - n))

  within : (k : ℕ) → near k ≡ far (base + k)
  within k =
      ⊎_elim
      (λ (l : n % 8 ≤ k).
      let same : k - n % 8 ≡ base + k - n = omega arith in
      joined_above (n % 8) k (from base x) (λ i. behind sh first f (i - n % 8)) l ∙ ap (behind sh first f) same
      ∙ sym (joined_above n (base + k) x (λ i. behind sh first f (i - n)) (omega arith)))
      (λ (l : k < n % 8).
      joined_below (n % 8) k (from base x) (λ i. behind sh first f (i - n % 8)) l
      ∙ sym (joined_below n (base + k) x (λ i. behind sh first f (i - n)) (omega arith)))
      (le-or-lt (n % 8) k)

  tail_same : (k : ℕ) → tail k ≡ whole (base + k)
  tail_same k =
      ⊎_elim
      (λ (h : n % 8 + R ≤ k). up_to_above (n % 8 + R) k near h ∙ sym (up_to_above (n + R) (base + k) far (omega arith)))
      (λ (h : k < n % 8 + R).
      up_to_below (n % 8 + R) k near h ∙ within k ∙ sym (up_to_below (n + R) (base + k) far (omega arith)))
      (le-or-lt (n % 8 + R) k)

  -- the octets that the information fills, and those of the tail
  pub all_octets : (info W : List ℕ) (L : ℕ) (y : Word) → x ≡ bit info → n / 8 ≤ length info → n / 8 ≤ L → length W ≡ L
      → ((i : ℕ) → get_or W i 0 < 2 ^ 8)
      → W ≡ take (n / 8) info ++ octets (L - length (take (n / 8) info)) (from 0 y)
      → y ≡ tail
      → W ≡ octets L whole
  all_octets info W L y is h l long small e ey = octets_of W L whole long small (ap bit e ∙ fun_ext (λ i.
      ⊎_elim (behind_front i) (front i) (le-or-lt base i)))
    where
      A : List ℕ
      A = take (n / 8) info

      hA : length A ≡ n / 8
      hA = length-take-le (n / 8) info h

      k : ℕ
      k = L - length A

      C : List ℕ
      C = octets k (from 0 y)

      front : (i : ℕ) → i < base → bit (A ++ C) i ≡ up_to (8 * L) whole i
      front i g =
          ap (λ z. digit 8 z (i % 8)) (get_or-append A C 0 (i / 8) (omega (arith, hA)) ∙ get_or-take (n / 8) info (i / 8) 0 (omega arith))
          ∙ ap (λ z. z i) (sym is)
          ∙ sym (up_to_below (8 * L) i whole (omega arith) ∙ up_to_below (n + R) i far (omega arith)
          ∙ joined_below n i x (λ i. behind sh first f (i - n)) (omega arith))

      behind_front : (i : ℕ) → base ≤ i → bit (A ++ C) i ≡ up_to (8 * L) whole i
      behind_front i g =
          let j = i - base in
          let q : i / 8 ≡ length A + j / 8 = omega (arith, hA) in
          let r : i % 8 ≡ j % 8 = omega arith in
          ap₂ (λ q r. digit 8 (get_or (A ++ C) q 0) r) q r
          ∙ ap (λ z. digit 8 z (j % 8)) (get_or-append-add A C (j / 8) 0)
          ∙ bit_octets k (from 0 y) j
          ∙ ⊎_elim
          (λ (m : 8 * L ≤ i). up_to_above (8 * k) j (from 0 y) (omega (arith, hA)) ∙ sym (up_to_above (8 * L) i whole m))
          (λ (m : i < 8 * L).
          let same : 0 + j ≡ j = omega arith in
          let place : base + j ≡ i = omega arith in
          up_to_below (8 * k) j (from 0 y) (omega (arith, hA)) ∙ ap y same ∙ ap (λ z. z j) ey ∙ tail_same j ∙ ap whole place
          ∙ sym (up_to_below (8 * L) i whole m))
          (le-or-lt (8 * L) i)

-- ---- octets in front and others behind them, put into a list

pub both_put : (o F D E : List ℕ) (x : Word) → length F ≤ length o → D ≡ F
    → E ≡ octets (length (take (length (D ++ drop (length F) o) - length F) (drop (length F) (D ++ drop (length F) o)))) x
    → put_mid (length F) (length (D ++ drop (length F) o) - length F) (D ++ drop (length F) o) E ≡ F ++ octets (length o - length F) x
both_put o F D E x h e g =
    ap₂ (λ l m. l ++ (E ++ m)) (take_at D (drop n o) n d) (drop_of_length-le (drop n all) {i = length all - n} (omega (
      arith,
      length-drop n
          all,
    )))
    ∙ ap (λ z. D ++ z) (append-nil E)
    ∙ ap₂ (λ l m. l ++ m) e (g ∙ ap (λ k. octets k x) room)
  where
    n : ℕ
    n = length F

    all : List ℕ
    all = D ++ drop n o

    d : length D ≡ n
    d = ap length e

    long : length all ≡ length o
    long = length-append D (drop n o) ∙ omega (arith, d, length-drop n o)

    room : length (take (length all - n) (drop n all)) ≡ length o - n
    room = length-take (length all - n) (drop n all) ∙ omega (arith, long, length-drop n all)
