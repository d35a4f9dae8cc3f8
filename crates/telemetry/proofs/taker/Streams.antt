-- The words of a stream, and those that the taker gives octet by octet: they are the same.
use mathlib.Core.Path.{◌≡◌, refl, sym, ap, ap₂, ◌∙◌}
use mathlib.Core.Bool.{Bool, true, false, ◌&&◌}
use mathlib.Core.List.{List, [], ◌∷◌, ◌++◌}
use Prim.Native.Nat.{ℕ, zero, suc, ◌+◌, ◌≤◌, ◌<◌}
use native.Mathlib.Nat.{add-zero, zero-add, add-suc, suc-add}
use native.Mathlib.Omega.{arith}
use lib.Dec.{leb}
use lib.ListN.{length, get_or, take, drop, length-append}
use lib.Seq.{take_at, drop_at}
use borrow.Author.Tests.{lt-leb, le-leb, ne_eqb}
use Rattle.bits.specs.Bits.{when◌then◌else◌}
use Rattle.randomiser.specs.Randomiser.{Generator}
use Rattle.telemetry.specs.taker.Stream.{marker, begins, framed, answered, found_from}
use Rattle.telemetry.proofs.taker.Laws.{if_isnt, four}

and_isnt : (a b : Bool) → b ≡ false → (a && b) ≡ false
and_isnt true b e = e
and_isnt false b e = refl

-- ---- the words of the stream as a whole, over any generator

module _ (g : Generator) (limit : ℕ) where
  -- octets that are not searched
  pub found_skip : (skip at : ℕ) (octets : List ℕ) → skip ≤ length octets → found_from g limit skip at octets
      ≡ found_from g limit 0 (at + skip) (drop skip octets)
  unfolding found_from
  found_skip zero at octets h = ap (λ z. found_from g limit 0 z octets) (sym (add-zero at))
  found_skip (suc skip) at [] h = absurd (omega arith)
  found_skip (suc skip) at (o ∷ octets) h =
      found_skip skip (suc at) octets (omega arith) ∙ ap (λ z. found_from g limit 0 z (drop skip octets))
      (suc-add at skip ∙ sym (add-suc at skip))

  -- an octet at which a word begins: 1023 more belong to it
  found_taken : (at o : ℕ) (rest : List ℕ) → framed (o ∷ rest) ≡ true
      → found_from g limit 0 at (o ∷ rest) ≡ record { offset = at + 4; corrected = answered g limit (take 1020 (drop 4 (o ∷ rest))) }
      ∷ found_from g limit 1023 (suc at) rest
  unfolding found_from
  found_taken at o rest e = ap (λ b. when b then (record { offset = at + 4; corrected = answered g limit (take 1020 (drop 4 (o ∷ rest))) }
      ∷ found_from g limit 1023 (suc at) rest) else found_from g limit 0 (suc at) rest) e

  -- an octet at which no word begins
  pub found_next : (at o : ℕ) (rest : List ℕ) → framed (o ∷ rest) ≡ false → found_from g limit 0 at (o ∷ rest)
      ≡ found_from g limit 0 (suc at) rest
  unfolding found_from
  found_next at o rest e =
      if_isnt (framed (o ∷ rest)) (record { offset = at + 4; corrected = answered g limit (take 1020 (drop 4 (o ∷ rest))) } ∷ found_from g
      limit 1023 (suc at) rest)
      (found_from g limit 0 (suc at) rest) e

  -- too few octets for a word
  pub found_short : (octets : List ℕ) (at : ℕ) → length octets < 1024 → found_from g limit 0 at octets ≡ []
  unfolding found_from
  found_short [] at h = refl
  found_short (o ∷ rest) at h =
      found_next at o rest (and_isnt (begins marker (o ∷ rest)) (leb 1024 (length (o ∷ rest))) (lt-leb 1024 (length (o ∷ rest)) h))
      ∙ found_short rest (suc at) (omega arith)

  -- a word, and the search again from the first octet after it
  pub found_word : (at : ℕ) (word rest : List ℕ) → length word ≡ 1020
      → found_from g limit 0 at (marker ++ (word ++ rest)) ≡ record { offset = at + 4; corrected = answered g limit word } ∷ found_from g
      limit 0 (at + 1024) rest
  unfolding found_from
  found_word at word rest e =
      let whole : List ℕ = marker ++ (word ++ rest) in
      let long : length (word ++ rest) ≡ 1020 + length rest = length-append word rest ∙ ap (λ z. z + length rest) e in
      let four : suc (suc (suc (suc at))) + 1020 ≡ at + 1024 = omega arith in
      found_taken at 0x1A (0xCF ∷ 0xFC ∷ 0x1D ∷ word ++ rest) (le-leb 1024 (length whole) (omega arith))
      ∙ ap₂ (λ w r. record { offset = at + 4; corrected = answered g limit w } ∷ r) (take_at word rest 1020 e)
      (found_skip 1020 (suc (suc (suc (suc at)))) (word ++ rest) (omega arith) ∙ ap₂ (found_from g limit 0) four (drop_at word rest 1020 e))

  -- a match that fails: the search goes on at the octet that failed it
  pub found_failed : (m : ℕ) → m < 4 → (at o : ℕ) (rest : List ℕ) → (o ≡ get_or marker m 0 → ⊥)
      → found_from g limit 0 at (take m marker ++ (o ∷ rest)) ≡ found_from g limit 0 (m + at) (o ∷ rest)
  unfolding found_from
  found_failed =
      four (λ m. (at o : ℕ) (rest : List ℕ) → (o ≡ get_or marker m 0 → ⊥) → found_from g limit 0 at (take m marker ++ (o ∷ rest))
      ≡ found_from g limit 0 (m + at) (o ∷ rest))
      (λ at o rest d. ap (λ z. found_from g limit 0 z (o ∷ rest)) (sym (zero-add at)))
      (λ at o rest d.
      let e : suc at ≡ 1 + at = omega arith in
      found_next at 0x1A (o ∷ rest) (ap (λ z. z && begins (0xFC ∷ 0x1D ∷ []) rest && leb 1024 (length (0x1A ∷ o ∷ rest)))
      (ne_eqb o 0xCF d)) ∙ ap (λ z. found_from g limit 0 z (o ∷ rest)) e)
      (λ at o rest d.
      let e : suc (suc at) ≡ 2 + at = omega arith in
      found_next at 0x1A (0xCF ∷ o ∷ rest) (ap (λ z. z && begins (0x1D ∷ []) rest && leb 1024 (length (0x1A ∷ 0xCF ∷ o ∷ rest)))
      (ne_eqb o 0xFC d)) ∙ ap (λ z. found_from g limit 0 z (o ∷ rest)) e)
      (λ at o rest d.
      let e : suc (suc (suc at)) ≡ 3 + at = omega arith in
      found_next at 0x1A (0xCF ∷ 0xFC ∷ o ∷ rest) (ap (λ z. z && true && leb 1024 (length (0x1A ∷ 0xCF ∷ 0xFC ∷ o ∷ rest)))
      (ne_eqb o 0x1D d)) ∙ ap (λ z. found_from g limit 0 z (o ∷ rest)) e)

  -- a marker that begins inside a failed match is found
  pub found_inside : (m : ℕ) → m < 4 → (at : ℕ) (word rest : List ℕ) → length word ≡ 1020
      → found_from g limit 0 at (take m marker ++ (marker ++ (word ++ rest)))
      ≡ record { offset = m + at + 4; corrected = answered g limit word } ∷ found_from g limit 0 (m + at + 1024) rest
  found_inside zero h at word rest e =
      found_word at word rest e
      ∙ ap (λ z. record { offset = z + 4; corrected = answered g limit word } ∷ found_from g limit 0 (z + 1024) rest) (sym (zero-add at))
  found_inside (suc m) h at word rest e =
      found_failed (suc m) h at 0x1A (0xCF ∷ 0xFC ∷ 0x1D ∷ word ++ rest) (later m (omega arith)) ∙ found_word (suc m + at) word rest e
    where
      later : (m : ℕ) → m < 3 → 0x1A ≡ get_or marker (suc m) 0 → ⊥
      later zero l q = absurd (omega arith)
      later (suc zero) l q = absurd (omega arith)
      later (suc (suc zero)) l q = absurd (omega arith)
      later (suc (suc (suc m))) l q = absurd (omega arith)
