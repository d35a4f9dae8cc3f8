-- Blocks as they are read: faults, and the used octets.
use mathlib.Core.Path.{◌≡◌, refl, sym, ap, ap₂, ◌∙◌, subst}
use mathlib.Core.Bool.{Bool, true, false}
use mathlib.Core.List.{List, [], ◌∷◌, ◌++◌, append-nil, append_assoc}
use Prim.Native.Nat.{ℕ, zero, suc, ◌+◌, ◌-◌, ◌*◌, ◌≤◌, ◌<◌}
use native.Mathlib.Nat.{not-suc-le-zero, suc-add, add-zero, zero-add, add-suc}
use native.Mathlib.Omega.{arith}
use native.Mathlib.Numerals.{add-one}
use native.Mathlib.Decide.{ℕ_discrete}
use lib.Dec.{T, eqb, leb, eqb→eq, leb→le}
use lib.ListN.{length, take, drop, length-append, length-drop}
use lib.Seq.{length-take-le, drop-drop, take-take, take-nil}
use borrow.Author.Tests.{eq-eqb, ne_eqb}
use Rattle.bits.proofs.Sums.{eqb_iff, and_l, and_r}
use Rattle.blocks.specs.framecheck.FrameCheck.{sound}
use Rattle.blocks.proofs.Lists.{put, placed}
use Rattle.blocks.specs.Blocks.{front, number_in, used_in, data_in, count_right_of, clear, filling_in, fault, Fault, first_fault_of}
use Rattle.blocks.specs.Blocks.{imported}

-- a block's data is what was put there
pub data_back : data_in (front 0 (1 ∷ 2 ∷ [])) ≡ 1 ∷ 2 ∷ []
data_back = refl

-- ---- the fault of one block

module _ (place : ℕ) (last : Bool) (b : List ℕ) where
  pub fault_check : sound 510 b ≡ false → fault place last b ≡ 21
  unfolding fault
  fault_check s = simp s

  pub fault_number : sound 510 b ≡ true → eqb (number_in b) place ≡ false → fault place last b ≡ 22
  unfolding fault
  fault_number s n = simp (s, n)

  pub fault_count : sound 510 b ≡ true → eqb (number_in b) place ≡ true → count_right_of last (used_in b) ≡ false → fault place last b ≡ 23
  unfolding fault
  fault_count s n u = simp (s, n, u)

  pub fault_filling : sound 510 b ≡ true → eqb (number_in b) place ≡ true → count_right_of last (used_in b) ≡ true
      → clear (filling_in b) ≡ false
      → fault place last b ≡ 23
  unfolding fault
  fault_filling s n u f = simp (s, n, u, f)

  pub fault_none : sound 510 b ≡ true → eqb (number_in b) place ≡ true → count_right_of last (used_in b) ≡ true
      → clear (filling_in b) ≡ true
      → fault place last b ≡ 0
  unfolding fault
  fault_none s n u f = simp (s, n, u, f)

-- a block without a fault
pub record Sound (place : ℕ) (last : Bool) (b : List ℕ) : Type 0 where
  pub check : sound 510 b ≡ true
  pub number : eqb (number_in b) place ≡ true
  pub count : count_right_of last (used_in b) ≡ true
  pub filling : clear (filling_in b) ≡ true

pub sound_block : (place : ℕ) (last : Bool) (b : List ℕ) → fault place last b ≡ 0 → Sound place last b
sound_block place last b e = go (sound 510 b) (eqb (number_in b) place) (count_right_of last (used_in b))
    (clear (filling_in b)) refl refl refl refl
  where
    go : (s n u f : Bool) → sound 510 b ≡ s → eqb (number_in b) place ≡ n → count_right_of last (used_in b) ≡ u → clear (filling_in b) ≡ f
        → Sound place last b
    go true true true true s n u f = record { check = s; number = n; count = u; filling = f }
    go false n u f s _ _ _ = absurd (omega (arith, e, fault_check place last b s))
    go true false u f s n _ _ = absurd (omega (arith, e, fault_number place last b s n))
    go true true false f s n u _ = absurd (omega (arith, e, fault_count place last b s n u))
    go true true true false s n u f = absurd (omega (arith, e, fault_filling place last b s n u f))

pub count-le : (last : Bool) (u : ℕ) → count_right_of last u ≡ true → u ≤ 504
count-le true u e = leb→le u 504 (and_r (leb 1 u) (leb u 504) (subst T (sym e) tt))
count-le false u e = omega (arith, eqb→eq u 504 (subst T (sym e) tt))

pub count_some : (last : Bool) (u : ℕ) → count_right_of last u ≡ true → 1 ≤ u
count_some true u e = leb→le 1 u (and_l (leb 1 u) (leb u 504) (subst T (sym e) tt))
count_some false u e = omega (arith, eqb→eq u 504 (subst T (sym e) tt))

pub count_full : (u : ℕ) → count_right_of false u ≡ true → u ≡ 504
count_full u e = eqb→eq u 504 (subst T (sym e) tt)

-- ---- block by block

abbrev pub block_at : ℕ → List ℕ → List ℕ
block_at k blocks = take 512 (drop (512 * k) blocks)

-- the block that a range from 512 k to 512 k + 512 lends
pub block_range : (k : ℕ) (blocks : List ℕ) → take (k * 512 + 512 - k * 512) (drop (k * 512) blocks) ≡ block_at k blocks
block_range k blocks = ap₂ (λ a b. take a (drop b blocks)) long at
  where
    long : k * 512 + 512 - k * 512 ≡ 512
    long = omega arith

    at : k * 512 ≡ 512 * k
    at = omega arith

module _ (blocks : List ℕ) (n k f : ℕ) (h : k < n) (is : f ≡ fault k (eqb (k + 1) n)
    (take (k * 512 + 512 - k * 512) (drop (k * 512) blocks))) where
  m : ℕ
  m = n - suc k

  here : f ≡ fault k (eqb m 0) (block_at k blocks)
  unfolding m
  here = is ∙ ap₂ (fault k) (eqb_iff (k + 1) n m 0 (λ e. omega arith) (λ e. omega arith)) (block_range k blocks)

  pub fault_found : f ≡ fault k (eqb (n - suc k) 0) (block_at k blocks)
  unfolding m
  fault_found = here

  left : n - k ≡ suc m
  unfolding m
  left = omega arith

  pub fault_here : (f ≡ 0 → ⊥) → first_fault_of (n - k) k (drop (512 * k) blocks) ≡ record { number = f; block = k }
  unfolding first_fault_of
  fault_here d =
      ap (λ z. first_fault_of z k (drop (512 * k) blocks)) left
      ∙ simp (sym here, ne_eqb f 0 d)

  pub fault_on : f ≡ 0
      → first_fault_of (n - (k + 1)) (k + 1) (drop (512 * (k + 1)) blocks) ≡ first_fault_of (n - k) k (drop (512 * k) blocks)
  unfolding first_fault_of m
  fault_on e =
      ap₂ (λ a b. first_fault_of a b (drop (512 * (k + 1)) blocks)) less (add-one k)
      ∙ ap (first_fault_of m (suc k)) (ap (λ z. drop z blocks) more ∙ sym (drop-drop 512 (512 * k) blocks))
      ∙ sym (ap (λ z. first_fault_of z k (drop (512 * k) blocks)) left ∙ simp (sym here, eq-eqb f 0 e))
    where
      less : n - (k + 1) ≡ m
      less = omega arith

      more : 512 * (k + 1) ≡ 512 * k + 512
      more = omega arith

pub fault_end : (l : List ℕ) (n k : ℕ) → n ≤ k → first_fault_of (n - k) k l ≡ record { number = 0; block = 0 }
unfolding first_fault_of
fault_end l n k h = ap (λ z. first_fault_of z k l) none
  where
    none : n - k ≡ 0
    none = omega arith

moved : {a a' : ℕ} {x x' : Bool} {b b' : List ℕ} → a ≡ a' → x ≡ x' → b ≡ b' → Sound a x b → Sound a' x' b'
moved {a} {a'} {x} {x'} {b} {b'} p q r s = subst (λ z. Sound a' x' z) r (subst (λ z. Sound a' z b) q (subst (λ z. Sound z x b) p s))

-- no fault at all: every block is sound
pub all_sound : (n place : ℕ) (l : List ℕ) → (first_fault_of n place l).number ≡ 0 → (k : ℕ) → k < n
    → Sound (place + k) (eqb (n - suc k) 0) (block_at k l)
unfolding first_fault_of
all_sound zero place l e k h = absurd (not-suc-le-zero h)
all_sound (suc n) place l e k h =
    go (ℕ_discrete (fault place (eqb n 0) (take 512 l)) 0) (λ q i. all_sound n (suc place) (drop 512 l) q i) k h
  where
    f : ℕ
    f = fault place (eqb n 0) (take 512 l)

    only : n ≡ suc n - suc 0
    only = omega arith

    go : Dec (f ≡ 0)
        → ((first_fault_of n (suc place) (drop 512 l)).number ≡ 0 → (i : ℕ) → i < n
        → Sound (suc place + i) (eqb (n - suc i) 0) (block_at i (drop 512 l)))
        → (i : ℕ) → i < suc n → Sound (place + i) (eqb (suc n - suc i) 0) (block_at i l)
    go (no d) ih i l' =
        let q : first_fault_of (suc n) place l ≡ record { number = f; block = place } = simp (ne_eqb f 0 d) in
        absurd (d (ap (λ (r : Fault). r.number) (sym q) ∙ e))
    go (yes z) ih zero l' = moved (sym (add-zero place)) (ap (λ z. eqb z 0) only) refl (sound_block place (eqb n 0) (take 512 l) z)
    go (yes z) ih (suc i) l' =
        moved (suc-add place i ∙ sym (add-suc place i)) (ap (λ z. eqb z 0) less)
        (ap (take 512) (drop-drop (512 * i) 512 l ∙ ap (λ w. drop w l) more)) (ih (onward z) i (omega arith))
      where
        more : 512 + 512 * i ≡ 512 * suc i
        more = omega arith

        less : n - suc i ≡ suc n - suc (suc i)
        less = omega arith

        onward : f ≡ 0 → (first_fault_of n (suc place) (drop 512 l)).number ≡ 0
        onward z =
            let q : first_fault_of (suc n) place l ≡ first_fault_of n (suc place) (drop 512 l) = simp (eq-eqb f 0 z) in
            ap (λ (r : Fault). r.number) (sym q) ∙ e

abbrev pub with_fault : ℕ → Bool → List ℕ → Fault
with_fault place last b = record { number = fault place last b; block = place }

-- a fault of so many blocks is that of the block at its place
pub record Stands (n place : ℕ) (l : List ℕ) : Type 0 where
  pub k : ℕ
  pub inside : k < n
  pub is : first_fault_of n place l ≡ with_fault (place + k) (eqb (n - suc k) 0) (block_at k l)

pub fault_stands : (n place : ℕ) (l : List ℕ) → ((first_fault_of n place l).number ≡ 0 → ⊥) → Stands n place l
unfolding first_fault_of
fault_stands zero place l d = absurd (d refl)
fault_stands (suc n) place l d = go (ℕ_discrete f 0) (λ z. fault_stands n (suc place) (drop 512 l) z)
  where
    f : ℕ
    f = fault place (eqb n 0) (take 512 l)

    only : n ≡ suc n - suc 0
    only = omega arith

    go : Dec (f ≡ 0) → (((first_fault_of n (suc place) (drop 512 l)).number ≡ 0 → ⊥) → Stands n (suc place) (drop 512 l))
        → Stands (suc n) place l
    go (no d') ih =
        let q : first_fault_of (suc n) place l ≡ with_fault place (eqb n 0) (take 512 l) = simp (ne_eqb f 0 d') in
        record {
          k = 0;
          inside = omega arith;
          is = q ∙ ap₂ (λ p z. with_fault p (eqb z 0) (take 512 l)) (sym (add-zero place)) only;
        }
    go (yes z) ih =
        let q : first_fault_of (suc n) place l ≡ first_fault_of n (suc place) (drop 512 l) = simp (eq-eqb f 0 z) in
        further q (ih (λ e. d (ap (λ (r : Fault). r.number) q ∙ e)))
      where
        further : first_fault_of (suc n) place l ≡ first_fault_of n (suc place) (drop 512 l) → Stands n (suc place) (drop 512 l)
            → Stands (suc n) place l
        further q s = record { k = suc s.k; inside = omega (arith, s.inside); is = q ∙ s.is ∙ ap₂ numbered at least ∙ ap read rest }
          where
            numbered : ℕ → ℕ → Fault
            numbered p t = with_fault p (eqb t 0) (block_at s.k (drop 512 l))

            read : List ℕ → Fault
            read b = with_fault (place + suc s.k) (eqb (suc n - suc (suc s.k)) 0) (take 512 b)

            at : suc place + s.k ≡ place + suc s.k
            at = suc-add place s.k ∙ sym (add-suc place s.k)

            least : n - suc s.k ≡ suc n - suc (suc s.k)
            least = omega arith

            more : 512 + 512 * s.k ≡ 512 * suc s.k
            more = omega arith

            rest : drop (512 * s.k) (drop 512 l) ≡ drop (512 * suc s.k) l
            rest = drop-drop (512 * s.k) 512 l ∙ ap (λ w. drop w l) more

-- ---- the used octets

drop-take : (a b : ℕ) (x : List ℕ) → drop a (take (a + b) x) ≡ take b (drop a x)
drop-take zero b x = ap (λ z. take z x) (zero-add b)
drop-take (suc a) b [] = ap (λ z. drop (suc a) (take z [])) (suc-add a b) ∙ sym (take-nil b)
drop-take (suc a) b (o ∷ x) = ap (λ z. drop (suc a) (take z (o ∷ x))) (suc-add a b) ∙ drop-take a b x

pub imported_snoc : (k : ℕ) (l : List ℕ) → imported (suc k) l ≡ imported k l ++ data_in (block_at k l)
unfolding imported
imported_snoc zero l = append-nil (data_in (take 512 l))
imported_snoc (suc k) l =
    ap (λ x. data_in (take 512 l) ++ x)
    (imported_snoc k (drop 512 l) ∙ ap (λ z. imported k (drop 512 l) ++ data_in (take 512 z))
    (drop-drop (512 * k) 512 l ∙ ap (λ z. drop z l) more))
    ∙ sym (append_assoc (data_in (take 512 l)) (imported k (drop 512 l)) (data_in (block_at (suc k) l)))
  where
    more : 512 + 512 * k ≡ 512 * suc k
    more = omega arith

module _ (n : ℕ) (l : List ℕ) (long : length l ≡ 512 * n) (e : (first_fault_of n 0 l).number ≡ 0) where
  block_long : (k : ℕ) → k < n → length (block_at k l) ≡ 512
  block_long k h = length-take-le 512 (drop (512 * k) l) (omega (arith, length-drop (512 * k) l))

  pub block_sound : (k : ℕ) → k < n → Sound k (eqb (n - suc k) 0) (block_at k l)
  block_sound k h = subst (λ z. Sound z (eqb (n - suc k) 0) (block_at k l)) (zero-add k) (all_sound n 0 l e k h)

  pub used_le : (k : ℕ) → k < n → used_in (block_at k l) ≤ 504
  used_le k h = count-le (eqb (n - suc k) 0) (used_in (block_at k l)) (block_sound k h).count

  pub data_long : (k : ℕ) → k < n → length (data_in (block_at k l)) ≡ used_in (block_at k l)
  data_long k h =
      length-take-le (used_in (block_at k l)) (drop 6 (block_at k l)) (omega (
        arith,
        length-drop 6 (block_at k l),
        block_long k h,
        used_le k h,
      ))

  pub used_full : (k : ℕ) → suc k < n → used_in (block_at k l) ≡ 504
  used_full k h =
      count_full (used_in (block_at k l))
      (subst (λ z. count_right_of z (used_in (block_at k l)) ≡ true) (ne_eqb (n - suc k) 0 (λ q. omega arith))
      (block_sound k (omega arith)).count)

  -- the octets so far: 504 for each block before the last
  pub so_many : (k : ℕ) → suc k ≤ n → length (imported k l) ≡ 504 * k
  unfolding imported
  so_many zero h = refl
  so_many (suc k) h =
      ap length (imported_snoc k l) ∙ length-append (imported k l) (data_in (block_at k l))
      ∙ omega (arith, so_many k (omega arith), data_long k (omega arith), used_full k h)

  pub more_long : (k : ℕ) → k < n → length (imported (suc k) l) ≡ length (imported k l) + used_in (block_at k l)
  more_long k h =
      ap length (imported_snoc k l) ∙ length-append (imported k l) (data_in (block_at k l))
      ∙ ap (λ z. length (imported k l) + z) (data_long k h)

  -- the room that is needed
  pub room_is : (m : ℕ) → n ≡ suc m → 504 * m + used_in (block_at m l) ≡ length (imported n l)
  room_is m q = sym (ap (λ z. length (imported z l)) q ∙ more_long m (omega arith)
      ∙ ap (λ z. z + used_in (block_at m l)) (so_many m (omega arith)))

  pub fits : (k j : ℕ) → k + j ≡ n → length (imported k l) ≤ length (imported n l)
  fits k zero q = omega (arith, ap (λ z. length (imported z l)) (sym (add-zero k) ∙ q))
  fits k (suc j) q = omega (arith, fits (suc k) j (omega arith), more_long k (omega arith))

-- the used octets as a range lends them
pub data_range : (k u : ℕ) (l : List ℕ) → u ≤ 504 → u ≡ used_in (block_at k l)
    → take (k * 512 + 6 + u - (k * 512 + 6)) (drop (k * 512 + 6) l) ≡ data_in (block_at k l)
data_range k u l h e =
    ap₂ (λ a b. take a (drop b l)) long at
    ∙ ap (take u) (sym (drop-drop 6 (512 * k) l))
    ∙ sym (taken (drop (512 * k) l))
    ∙ ap (λ z. take z (drop 6 (block_at k l))) e
  where
    long : k * 512 + 6 + u - (k * 512 + 6) ≡ u
    long = omega arith

    at : k * 512 + 6 ≡ 512 * k + 6
    at = omega arith

    -- what stands behind the block is not taken
    taken : (x : List ℕ) → take u (drop 6 (take 512 x)) ≡ take u (drop 6 x)
    taken x = ap (take u) (drop-take 6 506 x) ∙ take-take u 506 (drop 6 x) (omega arith)

-- the filling as a range lends it
pub filling_range : (b : List ℕ) (u : ℕ) → u ≡ used_in b → clear (take (510 - (6 + u)) (drop (6 + u) b)) ≡ clear (filling_in b)
filling_range b u e = ap (λ z. clear (take z (drop (6 + u) b))) long ∙ ap (λ z. clear (take (504 - z) (drop (6 + z) b))) e
  where
    long : 510 - (6 + u) ≡ 504 - u
    long = omega arith

-- a range of a whole block has 512 octets
pub range_long : (n k : ℕ) (l : List ℕ) → length l ≡ 512 * n → k < n → length (take (k * 512 + 512 - k * 512) (drop (k * 512) l)) ≡ 512
range_long n k l e h = ap length (block_range k l) ∙ length-take-le 512 (drop (512 * k) l) (omega (arith, length-drop (512 * k) l))

-- one block's octets more
module _ (n : ℕ) (l : List ℕ) (long : length l ≡ 512 * n) (e : (first_fault_of n 0 l).number ≡ 0) (k u : ℕ) (h : k < n)
    (is : u ≡ used_in (take (k * 512 + 512 - k * 512) (drop (k * 512) l))) where
  pub used_is : u ≡ used_in (block_at k l)
  used_is = is ∙ ap used_in (block_range k l)

  pub used_few : u ≤ 504
  used_few = omega (arith, used_is, used_le n l long e k h)

  pub source_is : take (k * 512 + 6 + u - (k * 512 + 6)) (drop (k * 512 + 6) l) ≡ data_in (block_at k l)
  source_is = data_range k u l used_few used_is

  pub source_long : length (take (k * 512 + 6 + u - (k * 512 + 6)) (drop (k * 512 + 6) l)) ≡ u
  source_long = ap length source_is ∙ data_long n l long e k h ∙ sym used_is

  -- where the octets so far end, and that the next ones fit
  pub next-end : length (imported k l) + u ≡ length (imported (k + 1) l)
  next-end = ap (λ z. length (imported k l) + z) used_is ∙ sym (more_long n l long e k h)
      ∙ ap (λ z. length (imported z l)) (sym (add-one k))

  pub next_fits : length (imported k l) + u ≤ length (imported n l)
  next_fits = omega (arith, next-end, fits n l long e (k + 1) (n - (k + 1)) (omega arith))

  pub data_more : (out part : List ℕ) (at : ℕ) → at ≡ length (imported k l) → take at out ≡ imported k l
      → part ≡ take (k * 512 + 6 + u - (k * 512 + 6)) (drop (k * 512 + 6) l)
      → take (at + u) (put at (at + u - at) out part) ≡ imported (k + 1) l
  data_more out part at a so_far p =
      ap (λ z. take (at + u) (put at z out part)) wide
      ∙ placed out part (imported k l) at u (sym a) (ap length p ∙ source_long) so_far
      ∙ ap (λ x. imported k l ++ x) (p ∙ source_is)
      ∙ sym (ap (λ z. imported z l) (add-one k) ∙ imported_snoc k l)
    where
      wide : at + u - at ≡ u
      wide = omega arith

-- the last block as a range lends it
pub last_range : (n m : ℕ) (l : List ℕ) → length l ≡ 512 * n → n ≡ suc m → take (length l - m * 512) (drop (m * 512) l) ≡ block_at m l
last_range n m l e q = ap₂ (λ a b. take a (drop b l)) long at
  where
    long : length l - m * 512 ≡ 512
    long = omega arith

    at : m * 512 ≡ 512 * m
    at = omega arith
