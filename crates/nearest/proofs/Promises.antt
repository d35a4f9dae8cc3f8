-- What the answers promise, for every word, reach and output. Assumes nothing.
use mathlib.Core.Path.{◌≡◌, refl, sym, ap, ◌∙◌, subst}
use mathlib.Core.Bool.{true}
use mathlib.Core.Logic.{⊎_elim}
use mathlib.Core.List.{List, [], ◌∷◌}
use Prim.Native.Nat.{ℕ, zero, suc, ◌≤◌, ◌<◌}
use native.Mathlib.Omega.{arith}
use lib.ListN.{length, get_or, take}
use Rattle.bits.specs.Bits.{Word, bit, octets}
use Rattle.bits.proofs.Orders.{le-or-lt}
use Rattle.bits.proofs.Octets.{Octets, octets_bit, length_octets}
use Rattle.rules.specs.Codes.{code}
use Rattle.rules.specs.Encoding.{codeword}
use Rattle.answers.specs.Calls.{differing}
use Rattle.nearest.specs.Nearest.{Found, none, list, ◌or_else◌, first_list, fewest, flips, places}
use Rattle.nearest.specs.Nearest.{Reached, refused, found, nearest_answer}
use Rattle.nearest.specs.Lists.{NotAfter, Mends}
use Rattle.nearest.proofs.Quiet.{codeword_same}
use Rattle.nearest.proofs.Lists.{Within, within}
use Rattle.nearest.proofs.Reaching.{nearest_cases, nearest_eighteen, nearest_searched}
use Rattle.nearest.proofs.Distances.{flipped_far, codeword_mends, differing_same, sixteen_bits}

-- ---- the three places of a list

pub take_places : (bits : List ℕ) → length bits ≤ 3 → take (length bits) (places bits) ≡ bits
take_places [] h = refl
take_places (a ∷ []) h = refl
take_places (a ∷ b ∷ []) h = refl
take_places (a ∷ b ∷ c ∷ []) h = refl
take_places (a ∷ b ∷ c ∷ d ∷ bits) h = absurd (omega arith)

places_past : (bits : List ℕ) (k : ℕ) → length bits ≤ k → get_or (places bits) k 0 ≡ 0
places_past bits (suc (suc (suc k))) h = refl
places_past [] zero h = refl
places_past [] (suc zero) h = refl
places_past [] (suc (suc zero)) h = refl
places_past (a ∷ bits) zero h = absurd (omega arith)
places_past (a ∷ []) (suc zero) h = refl
places_past (a ∷ []) (suc (suc zero)) h = refl
places_past (a ∷ b ∷ bits) (suc zero) h = absurd (omega arith)
places_past (a ∷ b ∷ []) (suc (suc zero)) h = refl
places_past (a ∷ b ∷ c ∷ bits) (suc (suc zero)) h = absurd (omega arith)

-- ---- what is found

-- the list that an answer gives
abbrev pub list_of : Reached → List ℕ
list_of a = take a.least a.bits

pub record Near (word : List ℕ) (reach : ℕ) (a : Reached) : Type 0 where
  -- Whatever is found is a codeword at that distance, within the reach;
  pub reached : a.least ≤ reach
  pub sound : codeword (code 1) (bit a.out) ≡ true
  pub apart : differing (code 1) (bit word) (bit a.out) ≡ a.least
  -- no codeword is nearer;
  pub nearest : (y : Word) → codeword (code 1) y ≡ true → a.least ≤ differing (code 1) (bit word) y
  -- the list given has that many bits, in increasing order, and its flips give the output, with 0 in the places that are not used;
  pub mends : Mends a.least 0 128 (bit word) (list_of a)
  pub made : a.out ≡ octets 16 (flips (list_of a) (bit word))
  pub unused : (k : ℕ) → a.least ≤ k → get_or a.bits k 0 ≡ 0
  -- and of all lists of that length whose flips give a codeword it is the first.
  pub first : (others : List ℕ) → Mends a.least 0 128 (bit word) others → NotAfter (list_of a) others

module _ (word : List ℕ) (reach : ℕ) (out : List ℕ) (lw : length word ≡ 16) (lo : length out ≡ 16) (hr : reach ≤ 3) where
  abbrev answer : Reached
  answer = nearest_answer word reach out

  abbrev x : Word
  x = bit word

  abbrev listed : List ℕ → Reached
  listed bits = record { number = 0; least = length bits; bits = places bits; out = octets 16 (flips bits x) }

  answer_cases : (P : Reached → Type 0) → (Within reach x none → P (refused 17 out))
      → ((bits : List ℕ) → Within reach x (list bits) → P (listed bits)) → P answer
  unfolding found
  answer_cases P far close = subst P (sym (nearest_searched word reach out lw lo hr)) (go (fewest reach x) (within reach x))
    where
      go : (f : Found) → Within reach x f → P (found x out f)
      go none w = far w
      go (list bits) w = close bits w

  near : (bits : List ℕ) → Within reach x (list bits) → Near word reach (listed bits)
  near bits w =
      let three : length bits ≤ 3 = omega (arith, w.0) in
      let is : take (length bits) (places bits) ≡ bits = take_places bits three in
      record {
        reached = w.0;
        sound = codeword_same (flips bits x) (bit (octets 16 (flips bits x))) (λ i l. sym (sixteen_bits (flips bits x) i l))
            w.1.0.gives;
        apart = differing_same x (bit (octets 16 (flips bits x))) (flips bits x) (λ i l. sixteen_bits (flips bits x) i l)
            ∙ flipped_far bits x w.1.0.rising;
        nearest = λ y is'. ⊎_elim (λ l. l) (λ l. absurd (w.2 (differing (code 1) x y) l _ (codeword_mends x y is')))
            (le-or-lt (length bits) (differing (code 1) x y));
        mends = subst (Mends (length bits) 0 128 x) (sym is) w.1.0;
        made = ap (λ b. octets 16 (flips b x)) (sym is);
        unused = places_past bits;
        first = λ others m. subst (λ b. NotAfter b others) (sym is) (w.1.1 others m);
      }

  pub found_near : answer.number ≡ 0 → Near word reach answer
  found_near = answer_cases (λ a. a.number ≡ 0 → Near word reach a) (λ w e. absurd (omega (arith, e))) (λ bits w e. near bits w)

  -- 17 exactly if no codeword lies within the reach: then the least number is 0, the list empty, and nothing is written.
  pub seventeen_none : answer.number ≡ 17 → (y : Word) → codeword (code 1) y ≡ true → differing (code 1) x y ≤ reach → ⊥
  seventeen_none =
      answer_cases (λ a. a.number ≡ 17 → (y : Word) → codeword (code 1) y ≡ true → differing (code 1) x y ≤ reach → ⊥)
      (λ w e y is l. w (differing (code 1) x y) l _ (codeword_mends x y is))
      (λ bits w e. absurd (omega (arith, e)))

  pub none_seventeen : ((y : Word) → codeword (code 1) y ≡ true → differing (code 1) x y ≤ reach → ⊥) → answer ≡ refused 17 out
  none_seventeen far =
      answer_cases (λ a. a ≡ refused 17 out) (λ w. refl)
      (λ bits w. absurd (far (flips bits x) w.1.0.gives (subst (λ n. n ≤ reach) (sym (flipped_far bits x w.1.0.rising)) w.0)))

  -- A codeword that lies within the reach is found, or one that is no farther.
  pub within_found : (y : Word) → codeword (code 1) y ≡ true → differing (code 1) x y ≤ reach → answer.number ≡ 0
  within_found y is l =
      answer_cases (λ a. a.number ≡ 0) (λ w. absurd (w (differing (code 1) x y) l _ (codeword_mends x y is))) (λ bits w. refl)

-- Every refusal has least number 0 and an empty list, and writes nothing.
pub refused_empty : (word : List ℕ) (reach : ℕ) (out : List ℕ) → ((nearest_answer word reach out).number ≡ 0 → ⊥)
    → nearest_answer word reach out ≡ refused (nearest_answer word reach out).number out
refused_empty word reach out =
    nearest_cases word reach out Empty (λ k some d. refl) (λ lw lo.
    ⊎_elim
    (λ (h : reach ≤ 3). answer_cases word reach out lw lo h Empty (λ w d. refl) (λ bits w d. absurd (d refl)))
    (λ (h : 3 < reach). subst Empty (sym (nearest_eighteen word reach out lw lo h)) (λ d. refl))
    (le-or-lt reach 3))
  where
    Empty : Reached → Type 0
    Empty a = (a.number ≡ 0 → ⊥) → a ≡ refused a.number out

-- Where the number is 0 the output octets are a codeword, whatever was handed in.
pub out_codeword : (word : List ℕ) (reach : ℕ) (out : List ℕ) → (nearest_answer word reach out).number ≡ 0
    → (length (nearest_answer word reach out).out ≡ 16) × (codeword (code 1) (bit (nearest_answer word reach out).out) ≡ true)
out_codeword word reach out =
    nearest_cases word reach out Taken (λ k some e. absurd (omega (arith, some, e))) (λ lw lo.
    ⊎_elim
    (λ (h : reach ≤ 3). answer_cases word reach out lw lo h Taken (λ w e. absurd (omega (arith, e)))
    (λ bits w e. (length_octets 16 (flips bits (bit word)), (near word reach out lw lo h bits w).sound)))
    (λ (h : 3 < reach). subst Taken (sym (nearest_eighteen word reach out lw lo h)) (λ e. absurd (omega (arith, e))))
    (le-or-lt reach 3))
  where
    Taken : Reached → Type 0
    Taken a = a.number ≡ 0 → (length a.out ≡ 16) × (codeword (code 1) (bit a.out) ≡ true)

-- ---- a codeword

pub fewest_codeword : (x : Word) → codeword (code 1) x ≡ true → (reach : ℕ) → fewest reach x ≡ list []
unfolding fewest first_list
fewest_codeword x is zero = rw is refl
fewest_codeword x is (suc reach) = ap (λ f. f or_else first_list (suc reach) 128 0 x) (fewest_codeword x is reach)

-- A codeword is found with least number 0 and an empty list, and is copied.
pub codeword_found : (word : List ℕ) (reach : ℕ) (out : List ℕ) → length word ≡ 16 → length out ≡ 16 → reach ≤ 3 → Octets word
    → codeword (code 1) (bit word) ≡ true → nearest_answer word reach out ≡ record { number = 0; least = 0; bits = places []; out = word }
unfolding found flips
codeword_found word reach out lw lo hr small is =
    nearest_searched word reach out lw lo hr
    ∙ ap (found (bit word) out) (fewest_codeword (bit word) is reach)
    ∙ ap (λ o. record { number = 0; least = 0; bits = places []; out = o }) (ap (λ n. octets n (bit word)) (sym lw) ∙ octets_bit word small)
