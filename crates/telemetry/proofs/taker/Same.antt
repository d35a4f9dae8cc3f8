-- The taker gives the words of the stream.
use mathlib.Core.Path.{◌≡◌, refl, sym, ap, ap₂, ◌∙◌, subst}
use mathlib.Core.Bool.{Bool, true, false, ◌&&◌}
use mathlib.Core.List.{List, [], ◌∷◌, ◌++◌, append-nil}
use Prim.Native.Nat.{ℕ, zero, suc, ◌+◌, ◌-◌, ◌≤◌, ◌<◌}
use native.Mathlib.Nat.{zero-add, suc-add, lt_of_not-le}
use native.Mathlib.Decide.{dec_lt}
use native.Mathlib.Omega.{arith}
use lib.Dec.{eqb, leb}
use lib.ListN.{length, get_or, take, drop, replicate, length-append, length-drop, length-take, length-replicate, take-append-drop}
use lib.Seq.{sets, sets-eq, length-take-le, take-suc, append_snoc, drop-length}
use borrow.Author.Tests.{eqb-true, eqb-false, ne_eqb}
use Rattle.randomiser.specs.Randomiser.{Generator}
use Rattle.telemetry.specs.sequences.Telemetry.{generator_of}
use Rattle.telemetry.specs.taker.Stream.{marker, begins, found_from, found}
use Rattle.telemetry.specs.taker.Taking.{Told, standing, fresh_taker, answered_by, matched, moved, whole, after, waiting}
use Rattle.telemetry.specs.taker.Taking.{completed, given_from, taken_from}
use Rattle.telemetry.proofs.taker.Laws.{if_isnt, matched_goes, matched_anew, matched_none, moved_search, hold_run, last_run}
use Rattle.telemetry.proofs.taker.Streams.{found_short, found_word, found_failed, found_next}
use Rattle.telemetry.proofs.taker.Calls.{Went, went, joined, calls, asked, asked_given}

-- a whole word in the place of another
sets_whole : (xs ys : List ℕ) → length xs ≡ length ys → sets ys 0 xs ≡ xs
sets_whole xs ys e =
    let z : 0 + length xs ≡ length ys = omega arith in
    sets-eq xs ys 0 (omega arith) ∙ ap (λ k. take 0 ys ++ xs ++ drop k ys) z ∙ ap (λ r. take 0 ys ++ xs ++ r) (drop-length ys)
    ∙ append-nil xs

module _ (told : Told) where
  abbrev g : Generator
  g = generator_of told.edition

  given_search : (m : ℕ) (ys : List ℕ) (at o : ℕ) (rest : List ℕ) → m < 4
      → given_from (standing m told ys) at (o ∷ rest) ≡ given_from (standing (matched m o) told ys) (suc at) rest
  unfolding given_from
  given_search m ys at o rest h =
      let s = standing m told ys in
      if_isnt (eqb m 1023) (record { offset = suc at - 1020; corrected = answered_by told (whole s o) } ∷ given_from (after s o)
      (suc at) rest)
      (given_from (moved s o) (suc at) rest) (ne_eqb m 1023 (λ e. absurd (omega arith)))
      ∙ ap (λ z. given_from z (suc at) rest) (moved_search told m ys o h)

  -- too few octets behind a marker
  given_short : (xs ys : List ℕ) (at : ℕ) → length xs < 1020 → given_from (standing 4 told ys) at xs ≡ []
  unfolding taken_from given_from
  given_short xs ys at few =
      let s = standing 4 told ys in
      let s' = standing (4 + length xs) told (sets ys 0 xs) in
      let e : taken_from 0 s xs ≡ waiting (0 + length xs) s' = ap (taken_from 0 s) (sym (append-nil xs))
      ∙ hold_run told xs [] 0 4 ys (omega arith) (omega arith) in
      let w : Went 0 s xs (waiting (0 + length xs) s') = subst (Went 0 s xs) e (went xs 0 s) in
      ap (given_from s at) (sym (append-nil xs)) ∙ w.on at []
      ∙ ap (λ z. given_from s' (at + w.k) (z ++ [])) (ap (λ z. drop z xs) (w.all refl) ∙ drop-length xs)

  given_word : (xs ys rest : List ℕ) (at : ℕ) → length xs ≡ 1020 → length ys ≡ 1020
      → given_from (standing 4 told ys) at (xs ++ rest) ≡ record { offset = at; corrected = answered_by told xs } ∷ given_from
      (standing 0 told xs) (at + 1020) rest
  given_word xs ys rest at e e' =
      let s = standing 4 told ys in
      let c : taken_from 0 s xs ≡ completed (0 + length xs) told (sets ys 0 xs) =
      ap (taken_from 0 s) (sym (append-nil xs)) ∙ last_run told xs [] 0 4 ys (omega arith) (omega arith) (omega arith) in
      let w : Went 0 s xs (completed (0 + length xs) told (sets ys 0 xs)) = subst (Went 0 s xs) c (went xs 0 s) in
      let k : w.k ≡ length xs = omega (arith, w.taken) in
      let k' : w.k ≡ 1020 = k ∙ e in
      let back : at + 1020 - 1020 ≡ at = omega arith in
      w.on at rest
      ∙ ap₂ (λ z r. record { offset = at + z - 1020; corrected = answered_by told (sets ys 0 xs) } ∷ given_from
      (standing 0 told (sets ys 0 xs)) (at + z) (r ++ rest)) k' (ap (λ z. drop z xs) k ∙ drop-length xs)
      ∙ ap₂ (λ z y. record { offset = z; corrected = answered_by told y } ∷ given_from (standing 0 told y) (at + 1020) rest) back
      (sets_whole xs ys (e ∙ sym e'))

  -- a taker with m octets of the marker matched finds what the stream has from those octets on; here for at most n octets more
  abbrev Claim : ℕ → Type 0
  Claim n = (rest : List ℕ) → length rest ≤ n → (m : ℕ) → m < 4 → (ys : List ℕ) → length ys ≡ 1020 → (at : ℕ)
      → given_from (standing m told ys) (m + at) rest ≡ found_from g told.limit 0 at (take m marker ++ rest)

  -- the marker is whole
  word_is : (n : ℕ) → Claim n → (rest : List ℕ) → length rest ≤ n → (ys : List ℕ) → length ys ≡ 1020 → (at : ℕ)
      → given_from (standing 4 told ys) (4 + at) rest ≡ found_from g told.limit 0 at (marker ++ rest)
  word_is n claim rest few ys long at = go (dec_lt (length rest) 1020)
    where
      go : Dec (length rest < 1020) → given_from (standing 4 told ys) (4 + at) rest ≡ found_from g told.limit 0 at (marker ++ rest)
      go (yes l) = given_short rest ys (4 + at) l ∙ sym (found_short g told.limit (marker ++ rest) at (omega arith))
      go (no l) =
          let xs : List ℕ = take 1020 rest in
          let rest' : List ℕ = drop 1020 rest in
          let e : length xs ≡ 1020 = length-take-le 1020 rest (omega (arith, lt_of_not-le l)) in
          let o : 4 + at ≡ at + 4 = omega arith in
          let p : 4 + at + 1020 ≡ 0 + (at + 1024) = omega arith in
          ap (given_from (standing 4 told ys) (4 + at)) (sym (take-append-drop 1020 rest))
          ∙ given_word xs ys rest' (4 + at) e long
          ∙ ap₂ (λ z r. record { offset = z; corrected = answered_by told xs } ∷ r) o
          (ap (λ z. given_from (standing 0 told xs) z rest') p ∙ claim rest' (omega (arith, length-drop 1020 rest)) 0 (omega arith) xs e
          (at + 1024))
          ∙ sym (found_word g told.limit at xs rest' e)
          ∙ ap (λ z. found_from g told.limit 0 at (marker ++ z)) (take-append-drop 1020 rest)

  one_more : (m : ℕ) → m < 4 → (o : ℕ) (rest : List ℕ) → o ≡ get_or marker m 0 → take m marker ++ (o ∷ rest) ≡ take (suc m) marker ++ rest
  one_more m h o rest e =
      ap (λ z. take m marker ++ (z ∷ rest)) e ∙ sym (append_snoc (take m marker) (get_or marker m 0) rest)
      ∙ ap (λ z. z ++ rest) (sym (take-suc marker m 0 h))

  step_is : (n : ℕ) → Claim n → Claim (suc n)
  unfolding given_from
  step_is n claim [] few m h ys long at = sym (found_short g told.limit (take m marker ++ []) at
      (omega (arith, length-append (take m marker) [], length-take m marker)))
  step_is n claim (o ∷ rest) few m h ys long at =
      given_search m ys (m + at) o rest h ∙ go (eqb o (get_or marker m 0)) refl (eqb o 0x1A) refl
    where
      last : Dec (suc m < 4) → o ≡ get_or marker m 0 → given_from (standing (suc m) told ys) (suc m + at) rest
          ≡ found_from g told.limit 0 at (take (suc m) marker ++ rest)
      last (yes l) e = claim rest (omega arith) (suc m) l ys long at
      last (no l) e =
          let q : suc m ≡ 4 = omega (arith, lt_of_not-le l) in
          ap (λ z. given_from (standing z told ys) (z + at) rest) q ∙ word_is n claim rest (omega arith) ys long at
          ∙ ap (λ z. found_from g told.limit 0 at (take z marker ++ rest)) (sym q)

      go : (b : Bool) → eqb o (get_or marker m 0) ≡ b → (b' : Bool) → eqb o 0x1A ≡ b'
          → given_from (standing (matched m o) told ys) (suc (m + at)) rest ≡ found_from g told.limit 0 at (take m marker ++ (o ∷ rest))
      go true e b' e' =
          let q : o ≡ get_or marker m 0 = eqb-true o (get_or marker m 0) e in
          ap₂ (λ z a. given_from (standing z told ys) a rest) (matched_goes m o q) (sym (suc-add m at))
          ∙ last (dec_lt (suc m) 4) q ∙ ap (found_from g told.limit 0 at) (sym (one_more m h o rest q))
      go false e true e' =
          let q : o ≡ 0x1A = eqb-true o 0x1A e' in
          let p : suc (m + at) ≡ 1 + (m + at) = omega arith in
          ap₂ (λ z a. given_from (standing z told ys) a rest) (ap (matched m) q ∙ matched_anew m h) p
          ∙ claim rest (omega arith) 1 (omega arith) ys long (m + at)
          ∙ ap (λ z. found_from g told.limit 0 (m + at) (z ∷ rest)) (sym q)
          ∙ sym (found_failed g told.limit m h at o rest (eqb-false o (get_or marker m 0) e))
      go false e false e' =
          let d = eqb-false o (get_or marker m 0) e in
          ap₂ (λ z a. given_from (standing z told ys) a rest) (matched_none m o d (eqb-false o 0x1A e')) (sym (zero-add (suc (m + at))))
          ∙ claim rest (omega arith) 0 (omega arith) ys long (suc (m + at))
          ∙ sym (found_next g told.limit (m + at) o rest (ap (λ z. z && begins (0xCF ∷ 0xFC ∷ 0x1D ∷ []) rest && leb 1024
          (length (o ∷ rest))) e'))
          ∙ sym (found_failed g told.limit m h at o rest d)

  claims : (n : ℕ) → Claim n
  unfolding given_from
  claims zero [] few m h ys long at = sym (found_short g told.limit (take m marker ++ []) at
      (omega (arith, length-append (take m marker) [], length-take m marker)))
  claims zero (o ∷ rest) few m h ys long at = absurd (omega arith)
  claims (suc n) rest few m h ys long at = step_is n (claims n) rest few m h ys long at

  -- octet by octet the taker gives the words of the stream
  pub given_is_found : (stream : List ℕ) → given_from (fresh_taker told) 0 stream ≡ found g told.limit stream
  given_is_found stream = claims (length stream) stream (omega arith) 0 (omega arith) (replicate 1020 0) (length-replicate {A = ℕ} 1020 0) 0

  -- however the stream is cut, empty parts included, the calls give the words of the stream
  pub cut_as_found : (parts : List (List ℕ)) (n : ℕ) → calls parts < n → asked n (fresh_taker told) 0 [] parts
      ≡ found g told.limit (joined parts)
  cut_as_found parts n enough = asked_given n (fresh_taker told) 0 [] parts (omega arith) (omega arith) ∙ given_is_found (joined parts)

  -- so the same words come out in the same order with the same answers
  pub cut_alike : (parts parts' : List (List ℕ)) (n n' : ℕ) → joined parts ≡ joined parts' → calls parts < n → calls parts' < n'
      → asked n (fresh_taker told) 0 [] parts ≡ asked n' (fresh_taker told) 0 [] parts'
  cut_alike parts parts' n n' e enough enough' = cut_as_found parts n enough ∙ ap (found g told.limit) e
      ∙ sym (cut_as_found parts' n' enough')
