-- The search by its steps, as the functions take them, and the lists as they hold them. Assumes nothing.
use mathlib.Core.Path.{◌≡◌, refl, sym, ap, ap₂, ◌∙◌, subst}
use mathlib.Core.Bool.{Bool, true, false}
use mathlib.Core.List.{List, [], ◌∷◌}
use Prim.Native.Nat.{ℕ, zero, suc, ◌+◌, ◌-◌, ◌^◌, ◌≤◌, ◌<◌}
use native.Mathlib.Numerals.{add-one}
use native.Mathlib.Omega.{arith}
use lib.Bits.{bit_xor}
use lib.Dec.{eqb, lit<}
use lib.ListN.{length, get_or, drop}
use borrow.Author.Tests.{eq-eqb, ne_eqb}
use Rattle.bits.specs.Bits.{Word, flipped, when◌then◌else◌}
use Rattle.rules.specs.Codes.{code}
use Rattle.rules.specs.Encoding.{codeword}
use Rattle.nearest.specs.Nearest.{Found, none, list, chosen, ◌or_else◌, first_list, fewest, flips, places}
use Rattle.std.specs.Prelude.{Some, None}
use Rattle.nearest.specs.Answers.{column_list, Broken, lowest_from, flips_of, held}
use Rattle.nearest.specs.declared.Flips.{Flips}
use Rattle.nearest.proofs.Quiet.{broken_none, broken_column, broken_flipped}
use Rattle.nearest.proofs.Lists.{rising_lt, Long, Within, within}

-- ---- no bits left to choose

module _ (left z n b : ℕ) (x : Word) (e : left ≡ 0) (small : z < 2 ^ 64) (h : Broken z x) where
  pub search_here : z ≡ 0 → Some (flips_of []) ≡ held (first_list left n b x)
  unfolding first_list held
  search_here q =
      ap (λ t. held (when t then list [] else none)) (sym (eq-eqb z 0 q) ∙ broken_none z x h small)
      ∙ ap (λ l. held (first_list l n b x)) (sym e)

  pub search_not : (z ≡ 0 → ⊥) → None ≡ held (first_list left n b x)
  unfolding first_list held
  search_not d =
      ap (λ t. held (when t then list [] else none)) (sym (ne_eqb z 0 d) ∙ broken_none z x h small)
      ∙ ap (λ l. held (first_list l n b x)) (sym e)

-- ---- one bit: the lowest whose column is the broken checks

pub lowest_pass : (n z : ℕ) → n < 128 → lowest_from (128 - n) n z
    ≡ (when eqb (get_or column_list n 0) z then n else lowest_from (128 - (n + 1)) (n + 1) z)
unfolding lowest_from
lowest_pass n z h =
    let e : 128 - n ≡ suc (128 - (n + 1)) = omega arith in
    ap (λ k. lowest_from k n z) e
    ∙ ap (λ m. when eqb (get_or column_list n 0) z then n else lowest_from (128 - (n + 1)) m z) (sym (add-one n))

pub lowest_end : (n z : ℕ) → n ≡ 128 → 128 ≡ lowest_from (128 - n) n z
unfolding lowest_from
lowest_end n z e = ap (λ k. lowest_from (128 - k) k z) (sym e)

pub one_bit : (n b z : ℕ) (x : Word) → z < 2 ^ 64 → b + n ≡ 128 → Broken z x
    → first_list 1 n b x ≡ (when eqb (lowest_from n b z) 128 then none else list (lowest_from n b z ∷ []))
unfolding first_list lowest_from
one_bit zero b z x small q h =
    sym (ap (λ t. when t then none else list (b ∷ [])) (eq-eqb b 128 (omega arith)))
one_bit (suc n) b z x small q h =
    go (codeword (code 1) (flipped x b)) (broken_column z x h small b (omega arith)) (one_bit n (suc b) z x small (omega arith) h)
  where
    go : (t : Bool) → eqb (get_or column_list b 0) z ≡ t
        → first_list 1 n (suc b) x ≡ (when eqb (lowest_from n (suc b) z) 128 then none else list (lowest_from n (suc b) z ∷ []))
        → (chosen b (when t then list [] else none) or_else first_list 1 n (suc b) x)
        ≡ (when eqb (when eqb (get_or column_list b 0) z then b else lowest_from n (suc b) z) 128 then none
        else list ((when eqb (get_or column_list b 0) z then b else lowest_from n (suc b) z) ∷ []))
    go true e ih =
        sym (ap (λ t. when eqb (when t then b else lowest_from n (suc b) z) 128 then none else
        list ((when t then b else lowest_from n (suc b) z) ∷ [])) e
        ∙ ap (λ t. when t then none else list (b ∷ [])) (ne_eqb b 128 (λ p. omega arith)))
    go false e ih =
        ih ∙ sym (ap (λ t. when eqb (when t then b else lowest_from n (suc b) z) 128 then none else
        list ((when t then b else lowest_from n (suc b) z) ∷ [])) e)

module _ (left z from : ℕ) (x : Word) (one : left ≡ 1) (under : from ≤ 128) (small : z < 2 ^ 64) (h : Broken z x) where
  abbrev lowest : ℕ
  lowest = lowest_from (128 - from) from z

  alone : first_list left (128 - from) from x ≡ (when eqb lowest 128 then none else list (lowest ∷ []))
  alone = ap (λ l. first_list l (128 - from) from x) one ∙ one_bit (128 - from) from z x small (omega arith) h

  pub alone_none : lowest ≡ 128 → None ≡ held (first_list left (128 - from) from x)
  unfolding held
  alone_none e = ap held (sym (alone ∙ ap (λ t. when t then none else list (lowest ∷ [])) (eq-eqb lowest 128 e)))

  pub alone_some : (n : ℕ) → n < 128 → n ≡ lowest
      → Some (record { count = 1; bits = n ∷ 0 ∷ 0 ∷ [] }) ≡ held (first_list left (128 - from) from x)
  unfolding held
  alone_some n l e =
      ap (λ m. held (list (m ∷ []))) e
      ∙ ap held (sym (alone ∙ ap (λ t. when t then none else list (lowest ∷ [])) (ne_eqb lowest 128 (λ q. omega arith))))

-- ---- a bit chosen, and the rest searched with one flip fewer left

pub search_pass : (left b : ℕ) (x : Word) → (left ≡ 0 → ⊥) → b < 128
    → first_list left (128 - b) b x
    ≡ (chosen b (first_list (left - 1) (128 - (b + 1)) (b + 1) (flipped x b)) or_else first_list left (128 - (b + 1)) (b + 1) x)
unfolding first_list
search_pass zero b x d h = absurd (d refl)
search_pass (suc l) b x d h =
    let e : 128 - b ≡ suc (128 - (b + 1)) = omega arith in
    let p : suc l - 1 ≡ l = omega arith in
    ap (λ k. first_list (suc l) k b x) e
    ∙ ap (λ m. chosen b (first_list l (128 - (b + 1)) m (flipped x b)) or_else first_list (suc l) (128 - (b + 1)) m x) (sym (add-one b))
    ∙ ap (λ m. chosen b (first_list m (128 - (b + 1)) (b + 1) (flipped x b)) or_else first_list (suc l) (128 - (b + 1)) (b + 1) x) (sym p)

pub search_end : (left b : ℕ) (x : Word) → (left ≡ 0 → ⊥) → 128 ≤ b → none ≡ first_list left (128 - b) b x
unfolding first_list
search_end zero b x d h = absurd (d refl)
search_end (suc l) b x d h =
    let e : 128 - b ≡ 0 = omega arith in
    sym (ap (λ k. first_list (suc l) k b x) e)

module _ (b left : ℕ) (f g : Found) where
  -- what was found, behind the bit that was chosen
  pub held_chosen : (r : Flips) → Some r ≡ held f → Long (left - 1) f → (left ≡ 0 → ⊥)
      → Some (record { count = left; bits = b ∷ get_or r.bits 0 0 ∷ get_or r.bits 1 0 ∷ [] }) ≡ held (chosen b f or_else g)
  unfolding held
  held_chosen r is long d = go f is long
    where
      go : (f : Found) → Some r ≡ held f → Long (left - 1) f
          → Some (record { count = left; bits = b ∷ get_or r.bits 0 0 ∷ get_or r.bits 1 0 ∷ [] }) ≡ held (chosen b f or_else g)
      go none q l = cc
      go (list bits) q l =
          let m : left ≡ suc (length bits) = omega (arith, l) in
          let e : r ≡ flips_of bits = cc in
          ap₂ (λ k (z : Flips). Some (record { count = k; bits = b ∷ get_or z.bits 0 0 ∷ get_or z.bits 1 0 ∷ [] })) m e

  -- nothing was found with the bit
  pub held_passed : None ≡ held f → (chosen b f or_else g) ≡ g
  unfolding held
  held_passed is = go f is
    where
      go : (f : Found) → None ≡ held f → (chosen b f or_else g) ≡ g
      go none q = refl
      go (list bits) q = cc

module _ (f g : Found) where
  pub held_first : (r : Flips) → Some r ≡ held f → Some r ≡ held (f or_else g)
  unfolding held
  held_first r is = go f is
    where
      go : (f : Found) → Some r ≡ held f → Some r ≡ held (f or_else g)
      go none q = cc
      go (list bits) q = q

  pub held_else : None ≡ held f → (f or_else g) ≡ g
  unfolding held
  held_else is = go f is
    where
      go : (f : Found) → None ≡ held f → (f or_else g) ≡ g
      go none q = refl
      go (list bits) q = cc

-- ---- the fewest flips

pub fewest_none : (reach : ℕ) (x : Word) → reach ≡ 0 → first_list 0 128 0 x ≡ fewest reach x
unfolding fewest
fewest_none reach x e = ap (λ k. fewest k x) (sym e)

pub fewest_more : (reach : ℕ) (x : Word) → (reach ≡ 0 → ⊥) → fewest reach x ≡ (fewest (reach - 1) x or_else first_list reach 128 0 x)
unfolding fewest
fewest_more zero x d = absurd (d refl)
fewest_more (suc k) x d =
    let p : k ≡ suc k - 1 = omega arith in
    ap (λ m. fewest m x or_else first_list (suc k) 128 0 x) p

-- ---- a list that is held

abbrev pub Small : Flips → Type 0
Small l = (l.count ≤ 3) × ((k : ℕ) → get_or l.bits k 0 < 128)

pub held_small : (reach : ℕ) (x : Word) (l : Flips) → reach ≤ 3 → Some l ≡ held (fewest reach x) → Small l
unfolding held
held_small reach x l h e = go (fewest reach x) (within reach x) e
  where
    go : (f : Found) → Within reach x f → Some l ≡ held f → Small l
    go none w q = cc
    go (list bits) w q =
        let e : l ≡ flips_of bits = cc in
        subst Small (sym e) (omega (arith, w.0), three)
      where
        three : (k : ℕ) → get_or (places bits) k 0 < 128
        three zero = rising_lt 0 128 bits (lit< tt) w.1.0.rising 0
        three (suc zero) = rising_lt 0 128 bits (lit< tt) w.1.0.rising 1
        three (suc (suc zero)) = rising_lt 0 128 bits (lit< tt) w.1.0.rising 2
        three (suc (suc (suc k))) = lit< tt

-- the bits that are still to be flipped, of a list
pub flip_next : (bits : List ℕ) (k : ℕ) (x : Word) → k < length bits
    → flips (drop k bits) x ≡ flips (drop (k + 1) bits) (flipped x (get_or bits k 0))
unfolding flips
flip_next bits k x h = go bits k h ∙ ap (λ m. flips (drop m bits) (flipped x (get_or bits k 0))) (sym (add-one k))
  where
    go : (bits : List ℕ) (k : ℕ) → k < length bits → flips (drop k bits) x ≡ flips (drop (suc k) bits) (flipped x (get_or bits k 0))
    go [] k h = absurd (omega arith)
    go (b ∷ bits) zero h = refl
    go (b ∷ bits) (suc k) h = go bits k (omega arith)

pub flip_end : (bits : List ℕ) (k : ℕ) (x : Word) → length bits ≤ k → x ≡ flips (drop k bits) x
unfolding flips
flip_end [] zero x h = refl
flip_end [] (suc k) x h = refl
flip_end (b ∷ bits) zero x h = absurd (omega arith)
flip_end (b ∷ bits) (suc k) x h = flip_end bits k x (omega arith)

pub places_at : (bits : List ℕ) (k : ℕ) → k < 3 → get_or (places bits) k 0 ≡ get_or bits k 0
places_at bits zero h = refl
places_at bits (suc zero) h = refl
places_at bits (suc (suc zero)) h = refl
places_at bits (suc (suc (suc k))) h = absurd (omega arith)

pub held_are : (l : Flips) (bits : List ℕ) → l ≡ flips_of bits → (l.count ≡ length bits) × (l.bits ≡ places bits)
held_are l bits e = (ap (λ (z : Flips). z.count) e, ap (λ (z : Flips). z.bits) e)

module _ (l : Flips) (bits : List ℕ) (is : l ≡ flips_of bits) (few : l.count ≤ 3) (k : ℕ) (y : Word) where
  pub flip_more : (y' : Word) → k < l.count → y' ≡ flipped y (get_or l.bits k 0) → flips (drop k bits) y ≡ flips (drop (k + 1) bits) y'
  flip_more y' h e =
      let m = held_are l bits is in
      flip_next bits k y (omega (arith, m.0))
      ∙ ap (flips (drop (k + 1) bits)) (sym (e ∙ ap (flipped y) (ap (λ z. get_or z k 0) m.1 ∙ places_at bits k (omega arith))))

  pub flip_all : l.count ≤ k → y ≡ flips (drop k bits) y
  flip_all h = flip_end bits k y (omega (arith, (held_are l bits is).0))

-- ---- the columns that are lent

pub lent_long : (cs : List ℕ) (n : ℕ) → cs ≡ column_list → n < 128 → n < length cs
lent_long cs n e h = subst (λ z. n < length z) (sym e) h

module _ (cs : List ℕ) (n z : ℕ) (e : cs ≡ column_list) (h : n < 128) where
  pub lowest_here : get_or cs n 0 ≡ z → lowest_from (128 - n) n z ≡ n
  lowest_here q =
      lowest_pass n z h
      ∙ ap (λ t. when t then n else lowest_from (128 - (n + 1)) (n + 1) z)
      (eq-eqb (get_or column_list n 0) z (ap (λ w. get_or w n 0) (sym e)
      ∙ q))

  pub lowest_later : (get_or cs n 0 ≡ z → ⊥) → lowest_from (128 - n) n z ≡ lowest_from (128 - (n + 1)) (n + 1) z
  lowest_later d =
      lowest_pass n z h
      ∙ ap (λ t. when t then n else lowest_from (128 - (n + 1)) (n + 1) z)
      (ne_eqb (get_or column_list n 0) z (λ q. d (ap (λ w. get_or w n 0) e ∙ q)))

pub broken_lent : (cs : List ℕ) (z n : ℕ) (x : Word) → cs ≡ column_list → n < 128 → Broken z x
    → Broken (bit_xor z (get_or cs n 0)) (flipped x n)
broken_lent cs z n x e h k = subst (λ w. Broken (bit_xor z (get_or w n 0)) (flipped x n)) (sym e) (broken_flipped z x k n h)
