-- A call octet by octet, and by runs of octets.
use mathlib.Core.Path.{◌≡◌, refl, sym, ap, ap₂, ◌∙◌}
use mathlib.Core.Bool.{Bool, true, false}
use mathlib.Core.List.{List, [], ◌∷◌, ◌++◌, append-nil}
use Prim.Native.Nat.{ℕ, zero, suc, ◌+◌, ◌-◌, ◌≤◌, ◌<◌}
use native.Mathlib.Nat.{add-zero, add-suc, suc-add}
use native.Mathlib.Omega.{arith}
use lib.Dec.{eqb, ltb}
use lib.ListN.{length, get_or, set, take, drop, length-drop, take-append-drop}
use lib.Seq.{sets, drop-length, take_all, length-take-le}
use borrow.Author.Tests.{lt-ltb, le-ltb, eq-eqb, ne_eqb}
use Rattle.bits.specs.Bits.{when◌then◌else◌}
use Rattle.answers.specs.Calls.{Corrected}
use Rattle.telemetry.specs.taker.Stream.{marker}
use Rattle.telemetry.specs.taker.Taking.{Told, Taker, standing, matched, moved, waiting, completed, taken_from}

pub if_is : {A : Type 0} (b : Bool) (x y : A) → b ≡ true → (when b then x else y) ≡ x
if_is b x y e = ap (λ z. when z then x else y) e

pub if_isnt : {A : Type 0} (b : Bool) (x y : A) → b ≡ false → (when b then x else y) ≡ y
if_isnt b x y e = ap (λ z. when z then x else y) e

-- the places of a search
pub four : (P : ℕ → Type 0) → P 0 → P 1 → P 2 → P 3 → (m : ℕ) → m < 4 → P m
four P a b c d zero h = a
four P a b c d (suc zero) h = b
four P a b c d (suc (suc zero)) h = c
four P a b c d (suc (suc (suc zero))) h = d
four P a b c d (suc (suc (suc (suc m)))) h = absurd (omega arith)

-- ---- the octets matched

-- the marker's first octet counts, whatever was matched before it
pub matched_anew : (m : ℕ) → m < 4 → matched m 0x1A ≡ 1
matched_anew = four (λ m. matched m 0x1A ≡ 1) refl refl refl refl

pub matched_goes : (m o : ℕ) → o ≡ get_or marker m 0 → matched m o ≡ suc m
matched_goes m o e = if_is (eqb o (get_or marker m 0)) (suc m) (when eqb o 0x1A then 1 else 0) (eq-eqb o (get_or marker m 0) e)

pub matched_none : (m o : ℕ) → (o ≡ get_or marker m 0 → ⊥) → (o ≡ 0x1A → ⊥) → matched m o ≡ 0
matched_none m o d d' =
    if_isnt (eqb o (get_or marker m 0)) (suc m) (when eqb o 0x1A then 1 else 0) (ne_eqb o (get_or marker m 0) d)
    ∙ if_isnt (eqb o 0x1A) 1 0 (ne_eqb o 0x1A d')

pub matched_le : (m o : ℕ) → m < 4 → matched m o ≤ 4
matched_le m o h = go (eqb o (get_or marker m 0)) (eqb o 0x1A)
  where
    go : (a b : Bool) → (when a then suc m else when b then 1 else 0) ≤ 4
    go true b = omega arith
    go false true = omega arith
    go false false = omega arith

-- ---- octet by octet

module _ (told : Told) where
  pub moved_search : (m : ℕ) (ys : List ℕ) (o : ℕ) → m < 4 → moved (standing m told ys) o ≡ standing (matched m o) told ys
  moved_search m ys o h = if_is (ltb m 4) (standing (matched m o) told ys) (standing (suc m) told (set ys (m - 4) o)) (lt-ltb m 4 h)

  pub moved_hold : (p : ℕ) (ys : List ℕ) (o : ℕ) → 4 ≤ p → moved (standing p told ys) o ≡ standing (suc p) told (set ys (p - 4) o)
  moved_hold p ys o h = if_isnt (ltb p 4) (standing (matched p o) told ys) (standing (suc p) told (set ys (p - 4) o)) (le-ltb p 4 h)

  pub search_step : (n m : ℕ) (ys : List ℕ) (o : ℕ) (rest : List ℕ) → m < 4
      → taken_from n (standing m told ys) (o ∷ rest) ≡ taken_from (suc n) (standing (matched m o) told ys) rest
  unfolding taken_from
  search_step n m ys o rest h =
      if_isnt (eqb m 1023) (completed (suc n) told (set ys 1019 o)) (taken_from (suc n) (moved (standing m told ys) o) rest)
      (ne_eqb m 1023 (λ e. absurd (omega arith)))
      ∙ ap (λ s. taken_from (suc n) s rest) (moved_search m ys o h)

  pub hold_step : (n p : ℕ) (ys : List ℕ) (o : ℕ) (rest : List ℕ) → 4 ≤ p → p < 1023
      → taken_from n (standing p told ys) (o ∷ rest) ≡ taken_from (suc n) (standing (suc p) told (set ys (p - 4) o)) rest
  unfolding taken_from
  hold_step n p ys o rest h h' =
      if_isnt (eqb p 1023) (completed (suc n) told (set ys 1019 o)) (taken_from (suc n) (moved (standing p told ys) o) rest)
      (ne_eqb p 1023 (λ e. absurd (omega arith)))
      ∙ ap (λ s. taken_from (suc n) s rest) (moved_hold p ys o h)

  pub last_step : (n p : ℕ) (ys : List ℕ) (o : ℕ) (rest : List ℕ) → p ≡ 1023
      → taken_from n (standing p told ys) (o ∷ rest) ≡ completed (suc n) told (set ys (p - 4) o)
  unfolding taken_from
  last_step n p ys o rest e =
      let q : 1019 ≡ p - 4 = omega arith in
      if_is (eqb p 1023) (completed (suc n) told (set ys 1019 o)) (taken_from (suc n) (moved (standing p told ys) o) rest) (eq-eqb p 1023 e)
      ∙ ap (λ z. completed (suc n) told (set ys z o)) q

  -- ---- by runs

  less : (p : ℕ) → 4 ≤ p → suc p - 4 ≡ suc (p - 4)
  less p h = omega arith

  pub hold_run : (xs rest : List ℕ) (n p : ℕ) (ys : List ℕ) → 4 ≤ p → p + length xs ≤ 1023
      → taken_from n (standing p told ys) (xs ++ rest) ≡ taken_from (n + length xs)
      (standing (p + length xs) told (sets ys (p - 4) xs)) rest
  hold_run [] rest n p ys h h' = ap₂ (λ a b. taken_from a (standing b told ys) rest) (sym (add-zero n)) (sym (add-zero p))
  hold_run (o ∷ xs) rest n p ys h h' =
      hold_step n p ys o (xs ++ rest) h (omega arith)
      ∙ hold_run xs rest (suc n) (suc p) (set ys (p - 4) o) (omega arith) (omega arith)
      ∙ ap (λ z. taken_from (suc n + length xs) (standing (suc p + length xs) told (sets (set ys (p - 4) o) z xs)) rest) (less p h)
      ∙ ap₂ (λ a b. taken_from a (standing b told (sets (set ys (p - 4) o) (suc (p - 4)) xs)) rest)
      (suc-add n (length xs) ∙ sym (add-suc n (length xs))) (suc-add p (length xs) ∙ sym (add-suc p (length xs)))

  pub last_run : (xs rest : List ℕ) (n p : ℕ) (ys : List ℕ) → 4 ≤ p → p < 1024 → p + length xs ≡ 1024
      → taken_from n (standing p told ys) (xs ++ rest) ≡ completed (n + length xs) told (sets ys (p - 4) xs)
  last_run [] rest n p ys h h' e = absurd (omega arith)
  last_run (o ∷ []) rest n p ys h h' e = let q : suc n ≡ n + 1 = omega arith in last_step n p ys o rest (omega arith)
      ∙ ap (λ z. completed z told (set ys (p - 4) o)) q
  last_run (o ∷ a ∷ xs) rest n p ys h h' e =
      hold_step n p ys o (a ∷ xs ++ rest) h (omega arith)
      ∙ last_run (a ∷ xs) rest (suc n) (suc p) (set ys (p - 4) o) (omega arith) (omega arith) (omega arith)
      ∙ ap (λ z. completed (suc n + length (a ∷ xs)) told (sets (set ys (p - 4) o) z (a ∷ xs))) (less p h)
      ∙ ap (λ z. completed z told (sets ys (p - 4) (o ∷ a ∷ xs))) (suc-add n (length (a ∷ xs)) ∙ sym (add-suc n (length (a ∷ xs))))

-- one octet more put behind the others
pub sets_snoc : (xs ys : List ℕ) (h o : ℕ) → sets ys h (xs ++ (o ∷ [])) ≡ set (sets ys h xs) (h + length xs) o
sets_snoc [] ys h o = ap (λ z. set ys z o) (sym (add-zero h))
sets_snoc (x ∷ xs) ys h o =
    sets_snoc xs (set ys h x) (suc h) o ∙ ap (λ z. set (sets (set ys h x) (suc h) xs) z o)
    (suc-add h (length xs) ∙ sym (add-suc h (length xs)))

-- correct's numbers with another output
abbrev pub with_word : Corrected → List ℕ → Corrected
with_word r word = record {
  number = r.number;
  flips = r.flips;
  first = r.first;
  last = r.last;
  unlike = r.unlike;
  lowest = r.lowest;
  out = word;
}

-- a part that is used up
pub used_up : (n : ℕ) (s : Taker) (part : List ℕ) → taken_from n s (drop (length part) part) ≡ waiting n s
unfolding taken_from
used_up n s part = ap (taken_from n s) (drop-length part)

-- ---- a call, once its search is done: the place then, and so many octets of the part that were searched

module _ (told : Told) (ys part : List ℕ) (place at : ℕ) (within : at ≤ length part) where
  pub call_waits : at ≡ length part → taken_from at (standing place told ys) (drop at part) ≡ waiting at (standing place told ys)
  call_waits e = ap (λ z. taken_from at (standing place told ys) (drop z part)) e ∙ used_up at (standing place told ys) part

  -- what is left does not complete the word
  pub call_holds : 4 ≤ place → length part - at < 1024 - place
      → taken_from at (standing place told ys) (drop at part)
      ≡ waiting (length part) (standing (place + (length part - at)) told (sets ys (place - 4) (take (length part - at) (drop at part))))
  unfolding taken_from
  call_holds h few =
      let e : length (drop at part) ≡ length part - at = length-drop at part in
      let all : at + length (drop at part) ≡ length part = omega arith in
      ap (taken_from at (standing place told ys)) (sym (append-nil (drop at part)))
      ∙ hold_run told (drop at part) [] at place ys h (omega arith)
      ∙ ap₂ (λ a b. waiting a (standing (place + b) told (sets ys (place - 4) (drop at part)))) all e
      ∙ ap (λ z. waiting (length part) (standing (place + (length part - at)) told (sets ys (place - 4) z)))
      (sym (take_all (length part - at) (drop at part) (omega arith)))

  -- what is left completes it
  pub call_completes : 4 ≤ place → place < 1024 → 1024 - place ≤ length part - at
      → taken_from at (standing place told ys) (drop at part)
      ≡ completed (at + (1024 - place)) told (sets ys (place - 4) (take (at + (1024 - place) - at) (drop at part)))
  call_completes h h' enough =
      let m : at + (1024 - place) - at ≡ 1024 - place = omega arith in
      let xs : List ℕ = take (at + (1024 - place) - at) (drop at part) in
      let long : length xs ≡ 1024 - place = length-take-le (at + (1024 - place) - at) (drop at part) (omega (arith, length-drop at part))
      ∙ m in
      ap (taken_from at (standing place told ys)) (sym (take-append-drop (at + (1024 - place) - at) (drop at part)))
      ∙ last_run told xs (drop (at + (1024 - place) - at) (drop at part)) at place ys h h' (omega arith)
      ∙ ap (λ z. completed (at + z) told (sets ys (place - 4) xs)) long
