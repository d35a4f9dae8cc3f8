-- Calls on the parts of a stream: however it is cut, they give the words that the taker gives octet by octet.
use mathlib.Core.Path.{◌≡◌, refl, sym, ap, ◌∙◌, subst}
use mathlib.Core.Bool.{Bool, true, false}
use mathlib.Core.List.{List, [], ◌∷◌, ◌++◌}
use Prim.Native.Nat.{ℕ, zero, suc, ◌+◌, ◌-◌, ◌≤◌, ◌<◌}
use native.Mathlib.Nat.{add-zero, zero-add}
use native.Mathlib.Omega.{arith}
use lib.Dec.{T, eqb, ltb}
use lib.ListN.{length, set, drop, replicate, length-drop}
use lib.Seq.{drop-length}
use borrow.Author.Tests.{lt-ltb, ltb-true, eqb-false}
use Rattle.bits.specs.Bits.{when◌then◌else◌}
use Rattle.answers.specs.Calls.{refused_correct_of}
use Rattle.telemetry.specs.taker.Stream.{Found}
use Rattle.telemetry.specs.taker.Taking.{Taker, Taken, answered_by, standing, matched, moved, whole}
use Rattle.telemetry.specs.taker.Taking.{after, given_from, waiting, completed}
use Rattle.telemetry.specs.taker.Taking.{taken_from, read_place, take_answer}
use Rattle.telemetry.proofs.taker.Laws.{if_is, if_isnt, matched_le}

-- the word of a call that ended so many octets into the stream
abbrev pub words_of : Taken → ℕ → List Found
words_of r end = when r.complete then (record { offset = end - 1020; corrected = r.corrected } ∷ []) else []

-- what a call did that took k octets of a part
pub record Went (n : ℕ) (s : Taker) (part : List ℕ) (r : Taken) : Type 0 where
  pub k : ℕ
  pub taken : r.taken ≡ n + k
  pub few : k ≤ length part
  pub some : 0 < length part → 0 < k
  pub all : r.complete ≡ false → k ≡ length part
  pub done : r.complete ≡ true → 0 < k
  pub anew : r.complete ≡ true → r.next.place ≡ 0
  pub zeros : r.complete ≡ false → r.corrected ≡ refused_correct_of (replicate 1020 0) 0
  pub stands : s.place < 1024 → r.next.place < 1024
  pub told : r.next.told ≡ s.told
  pub on : (at : ℕ) (rest : List ℕ) → given_from s at (part ++ rest) ≡ words_of r (at + k) ++ given_from r.next (at + k)
      (drop k part ++ rest)

moved_stands : (s : Taker) (o : ℕ) → s.place < 1024 → (s.place ≡ 1023 → ⊥) → (moved s o).place < 1024
moved_stands s o h d = go (ltb s.place 4) refl
  where
    go : (b : Bool) → ltb s.place 4 ≡ b
        → (when b then standing (matched s.place o) s.told s.octets else standing (suc s.place) s.told
        (set s.octets (s.place - 4) o)).place < 1024
    go true e = omega (arith, matched_le s.place o (ltb-true s.place 4 e))
    go false e = omega arith

moved_told : (s : Taker) (o : ℕ) → (moved s o).told ≡ s.told
moved_told s o = go (ltb s.place 4)
  where
    go : (b : Bool) → (when b then standing (matched s.place o) s.told s.octets else standing (suc s.place) s.told
        (set s.octets (s.place - 4) o)).told ≡ s.told
    go true = refl
    go false = refl

-- one octet that completes no word
moves : (n : ℕ) (s : Taker) (o : ℕ) (part : List ℕ) (r : Taken) → eqb s.place 1023 ≡ false → Went (suc n) (moved s o) part r
    → Went n s (o ∷ part) r
unfolding given_from
moves n s o part r e w = record {
  k = suc w.k;
  taken = omega (arith, w.taken);
  few = omega (arith, w.few);
  some = λ _. omega arith;
  all = λ c. ap suc (w.all c);
  done = λ _. omega arith;
  anew = w.anew;
  zeros = w.zeros;
  stands = λ h. w.stands (moved_stands s o h (eqb-false s.place 1023 e));
  told = w.told ∙ moved_told s o;
  on = λ at rest.
      let q : suc at + w.k ≡ at + suc w.k = omega arith in
      if_isnt (eqb s.place 1023)
      (record { offset = suc at - 1020; corrected = answered_by s.told (whole s o) } ∷ given_from (after s o) (suc at) (part ++ rest))
      (given_from (moved s o) (suc at) (part ++ rest)) e
      ∙ w.on (suc at) rest ∙ ap (λ z. words_of r z ++ given_from r.next z (drop w.k part ++ rest)) q;
}

-- the octet that completes one
ends : (n : ℕ) (s : Taker) (o : ℕ) (part : List ℕ) → eqb s.place 1023 ≡ true
    → Went n s (o ∷ part) (completed (suc n) s.told (whole s o))
unfolding given_from
ends n s o part e = record {
  k = 1;
  taken = omega arith;
  few = omega arith;
  some = λ _. omega arith;
  all = λ c. absurd (subst T c tt);
  done = λ _. omega arith;
  anew = λ _. refl;
  zeros = λ c. absurd (subst T c tt);
  stands = λ h. omega arith;
  told = refl;
  on = λ at rest.
      let q : suc at ≡ at + 1 = omega arith in
      if_is (eqb s.place 1023)
      (record { offset = suc at - 1020; corrected = answered_by s.told (whole s o) } ∷ given_from (after s o) (suc at) (part ++ rest))
      (given_from (moved s o) (suc at) (part ++ rest)) e
      ∙ ap (λ z. record { offset = z - 1020; corrected = answered_by s.told (whole s o) } ∷ given_from (after s o) z (part ++ rest)) q;
}

pub went : (part : List ℕ) (n : ℕ) (s : Taker) → Went n s part (taken_from n s part)
unfolding taken_from
went [] n s = record {
  k = 0;
  taken = sym (add-zero n);
  few = omega arith;
  some = λ h. h;
  all = λ _. refl;
  done = λ c. absurd (subst T (sym c) tt);
  anew = λ c. absurd (subst T (sym c) tt);
  zeros = λ _. refl;
  stands = λ h. h;
  told = refl;
  on = λ at rest. ap (λ z. given_from s z rest) (sym (add-zero at));
}
went (o ∷ part) n s = go (eqb s.place 1023) refl (went part (suc n) (moved s o))
  where
    go : (b : Bool) → eqb s.place 1023 ≡ b → Went (suc n) (moved s o) part (taken_from (suc n) (moved s o) part)
        → Went n s (o ∷ part) (when b then completed (suc n) s.told (whole s o) else taken_from (suc n) (moved s o) part)
    go true e w = ends n s o part e
    go false e w = moves n s o part (taken_from (suc n) (moved s o) part) e w

-- ---- a call

abbrev pub as_read : Taker → Taker
as_read s = standing (read_place s.place) s.told s.octets

pub read_stands : (p : ℕ) → read_place p < 1024
read_stands p = go (ltb p 1024) refl
  where
    go : (b : Bool) → ltb p 1024 ≡ b → (when b then p else 0) < 1024
    go true e = ltb-true p 1024 e
    go false e = omega arith

-- a taker that a call gave is read as it is
pub read_is : (s : Taker) → s.place < 1024 → as_read s ≡ s
read_is s h = ap (λ z. standing z s.told s.octets) (if_is (ltb s.place 1024) s.place 0 (lt-ltb s.place 1024 h))

module _ (s : Taker) (part : List ℕ) where
  took : Went 0 (as_read s) part (take_answer s part)
  unfolding take_answer
  took = went part 0 (as_read s)

  took_k : (take_answer s part).taken ≡ took.k
  took_k = took.taken ∙ zero-add took.k

  -- octets taken never exceed the part, and all are taken unless a word is complete
  pub taken_within : (take_answer s part).taken ≤ length part
  taken_within = omega (arith, took_k, took.few)

  pub taken_all : (take_answer s part).complete ≡ false → (take_answer s part).taken ≡ length part
  taken_all e = took_k ∙ took.all e

  -- a part that is not empty is not left as it was
  pub taken_some : 0 < length part → 0 < (take_answer s part).taken
  taken_some h = omega (arith, took_k, took.some h)

  -- the moved taker is one that is read as it is, told the same
  pub next_stands : (take_answer s part).next.place < 1024
  next_stands = took.stands (read_stands s.place)

  pub next_told : (take_answer s part).next.told ≡ s.told
  next_told = took.told

  -- after a word the search begins again
  pub next_searches : (take_answer s part).complete ≡ true → (take_answer s part).next.place ≡ 0
  next_searches = took.anew

  -- where no word is complete, all numbers are 0 and the word is all zeros
  pub none_zeros : (take_answer s part).complete ≡ false → (take_answer s part).corrected ≡ refused_correct_of (replicate 1020 0) 0
  none_zeros = took.zeros

  taken_done : (take_answer s part).complete ≡ true → length (drop (take_answer s part).taken part) < length part
  taken_done e = omega (arith, took_k, took.done e, took.few, length-drop (take_answer s part).taken part)

  -- the call and what follows it give what the taker gives octet by octet
  pub goes_on : s.place < 1024 → (at : ℕ) (rest : List ℕ)
      → given_from s at (part ++ rest)
      ≡ words_of (take_answer s part) (at + (take_answer s part).taken) ++ given_from (take_answer s part).next
      (at + (take_answer s part).taken)
      (drop (take_answer s part).taken part ++ rest)
  goes_on h at rest =
      ap (λ z. given_from z at (part ++ rest)) (sym (read_is s h)) ∙ took.on at rest
      ∙ ap (λ z. words_of (take_answer s part) (at + z) ++ given_from (take_answer s part).next (at + z) (drop z part ++ rest)) (sym took_k)

-- an empty part takes 0 octets and changes nothing
pub empty_part : (s : Taker) → s.place < 1024 → take_answer s [] ≡ waiting 0 s
unfolding take_answer taken_from
empty_part s h = ap (waiting 0) (read_is s h)

-- ---- a stream in parts

-- Parts joined again.
unfoldable pub joined : List (List ℕ) → List ℕ
joined [] = []
joined (part ∷ parts) = part ++ joined parts

-- What a caller gets who brings the parts one after another, each again from the first octet that was not taken until it is used up:
-- of n calls at most, the first on the rest of a part that begins at octet number `at`.
unfoldable pub asked : ℕ → Taker → ℕ → List ℕ → List (List ℕ) → List Found
asked zero s at part parts = []
asked (suc n) s at part [] =
    let r = take_answer s part in
    words_of r (at + r.taken) ++ (when r.complete then asked n r.next (at + r.taken) (drop r.taken part) [] else [])
asked (suc n) s at part (more ∷ parts) =
    let r = take_answer s part in
    words_of r (at + r.taken) ++ (when r.complete then asked n r.next (at + r.taken) (drop r.taken part) (more ∷ parts) else asked n
    r.next (at + r.taken) more parts)

-- More calls than octets and parts are enough.
unfoldable pub calls : List (List ℕ) → ℕ
calls [] = 0
calls (part ∷ parts) = suc (length part + calls parts)

dropped : (part : List ℕ) (k : ℕ) → k ≡ length part → drop k part ≡ []
dropped part k e = ap (λ z. drop z part) e ∙ drop-length part

pub asked_given : (n : ℕ) (s : Taker) (at : ℕ) (part : List ℕ) (parts : List (List ℕ)) → s.place < 1024 → length part + calls parts < n
    → asked n s at part parts ≡ given_from s at (part ++ joined parts)
unfolding asked calls joined given_from
asked_given zero s at part parts h few = absurd (omega arith)
asked_given (suc n) s at part [] h few =
    let r = take_answer s part in
    let end = at + r.taken in
    ap (λ z. words_of r end ++ z) (go r.complete refl (λ e. asked_given n r.next end (drop r.taken part) [] (next_stands s part)
    (omega (arith, taken_done s part e))))
    ∙ sym (goes_on s part h at [])
  where
    go : (b : Bool) → (take_answer s part).complete ≡ b
        → ((take_answer s part).complete ≡ true → asked n (take_answer s part).next (at + (take_answer s part).taken)
        (drop (take_answer s part).taken part) []
        ≡ given_from (take_answer s part).next (at + (take_answer s part).taken) (drop (take_answer s part).taken part ++ []))
        → (when b then asked n (take_answer s part).next (at + (take_answer s part).taken)
        (drop (take_answer s part).taken part) [] else [])
        ≡ given_from (take_answer s part).next (at + (take_answer s part).taken) (drop (take_answer s part).taken part ++ [])
    go true e again = again e
    go false e again =
        sym (ap (λ z. given_from (take_answer s part).next (at + (take_answer s part).taken) (z ++ []))
        (dropped part (take_answer s part).taken (taken_all s part e)))
asked_given (suc n) s at part (more ∷ parts) h few =
    let r = take_answer s part in
    let end = at + r.taken in
    ap (λ z. words_of r end ++ z) (go r.complete refl (λ e. asked_given n r.next end (drop r.taken part) (more ∷ parts)
    (next_stands s part) (omega (arith, taken_done s part e)))
    (asked_given n r.next end more parts (next_stands s part) (omega arith)))
    ∙ sym (goes_on s part h at (more ++ joined parts))
  where
    go : (b : Bool) → (take_answer s part).complete ≡ b
        → ((take_answer s part).complete ≡ true → asked n (take_answer s part).next (at + (take_answer s part).taken)
        (drop (take_answer s part).taken part) (more ∷ parts)
        ≡ given_from (take_answer s part).next (at + (take_answer s part).taken)
        (drop (take_answer s part).taken part ++ (more ++ joined parts)))
        → asked n (take_answer s part).next (at + (take_answer s part).taken) more parts
        ≡ given_from (take_answer s part).next (at + (take_answer s part).taken) (more ++ joined parts)
        → (when b then asked n (take_answer s part).next (at + (take_answer s part).taken) (drop (take_answer s part).taken part)
        (more ∷ parts)
        else asked n (take_answer s part).next (at + (take_answer s part).taken) more parts)
        ≡ given_from (take_answer s part).next (at + (take_answer s part).taken)
        (drop (take_answer s part).taken part ++ (more ++ joined parts))
    go true e again next = again e
    go false e again next =
        next
        ∙ sym (ap (λ z. given_from (take_answer s part).next (at + (take_answer s part).taken) (z ++ (more ++ joined parts)))
        (dropped part (take_answer s part).taken (taken_all s part e)))
