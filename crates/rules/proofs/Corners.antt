-- Three bits of three checks each, of which each two share a check and no check covers all three: where a table has them, from a test of
-- the sums of its shifts. Said once over M.
use mathlib.Core.Path.{◌≡◌, refl, sym, ap, ap₂, ◌∙◌, subst}
use mathlib.Core.Bool.{Bool, true, false, true≢false, not, ◌&&◌, ◌||◌}
use mathlib.Core.List.{List, [], ◌∷◌}
use Prim.Native.Nat.{ℕ, zero, suc, ◌+◌, ◌*◌, ◌/◌, ◌%◌, ◌<◌}
use native.Mathlib.Nat.{zero-lt-suc, mod-lt, le_step, lt-suc_self, add_comm, mod-add-mod, mod-eq_of_lt}
use native.Mathlib.Nat.{div-lt_iff_lt-mul, div-add-mod', mul-suc, add-mul-mod_self_right}
use native.Mathlib.Omega.{arith}
use lib.Dec.{T, eqb, eqb→eq}
use lib.ListN.{length, get_or}
use borrow.Author.Tests.{eq-eqb}
use Rattle.bits.specs.Bits.{tally, count, below}
use Rattle.rules.specs.Codes.{Code, checks}
use Rattle.rules.specs.Checks.{one_at, covers, degree_of}
use Rattle.bits.proofs.Sums.{and_l, and_r, below_at}
use Rattle.bits.proofs.Cyclic.{cancel}
use Rattle.bits.proofs.Counting.{none_counted}
use Rattle.rules.proofs.Blocks.{degree, shaped, with_tables, degree_in}
use Rattle.rules.proofs.Ways.{shared}
use Rattle.rules.proofs.Two.{Tied, thrice}

-- ---- the test; M is m + 1

-- whether something holds of every shift of a block
abbrev pub every : List ℕ → (ℕ → Bool) → Bool
every [] f = true
every (s ∷ S) f = f s && every S f

-- Bits of blocks t, p and q: the first two have shifts sn and sa in a check of block row r₁, the first and the last tn and tb in one of
-- r₂, the last two ua and ub in one of r₃. Whether two of the checks are one, or two of the bits.
abbrev pub alike : (t p q r₁ r₂ r₃ sn sa tn tb ua ub : ℕ) → Bool
alike t p q r₁ r₂ r₃ sn sa tn tb ua ub =
    (eqb r₁ r₂ && eqb sn tn) || ((eqb r₁ r₃ && eqb sa ua) || ((eqb r₂ r₃ && eqb tb ub) || ((eqb t p && eqb sn sa) || (
    (eqb t q && eqb tn tb) || (eqb p q && eqb ua ub)))))

-- Whether going round from bit to bit comes back to the place of the first.
abbrev pub closes : (m sn sa tn tb ua ub : ℕ) → Bool
closes m sn sa tn tb ua ub = eqb ((sn + tb + ua) % suc m) ((sa + tn + ub) % suc m)

-- What is allowed of three such bits: by the blocks, by how far the last is ahead of the second, and by how far that is ahead of the last.
abbrev pub Allowed : Type 0
Allowed = (t p q ahead back : ℕ) → Bool

abbrev pub corner_at : (m : ℕ) → List (List (List ℕ)) → Allowed → (t p q r₁ r₂ r₃ : ℕ) → Bool
corner_at m H allowed t p q r₁ r₂ r₃ =
    every (get_or (get_or H r₁ []) t []) (λ sn. every (get_or (get_or H r₁ []) p []) (λ sa.
    every (get_or (get_or H r₂ []) t []) (λ tn. every (get_or (get_or H r₂ []) q []) (λ tb.
    every (get_or (get_or H r₃ []) p []) (λ ua. every (get_or (get_or H r₃ []) q []) (λ ub.
    alike t p q r₁ r₂ r₃ sn sa tn tb ua ub || (not (closes m sn sa tn tb ua ub)
    || allowed t p q ((ub + ua * m) % suc m) ((ua + ub * m) % suc m))))))))

abbrev pub rows_at : (m : ℕ) → List (List (List ℕ)) → Allowed → (t p q : ℕ) → Bool
rows_at m H allowed t p q =
    below (length H) (λ r₁. below (length H) (λ r₂. below (length H) (λ r₃. corner_at m H allowed t p q r₁ r₂ r₃)))

-- for all blocks of three checks
abbrev pub corners_allowed : (m B : ℕ) → List (List (List ℕ)) → Allowed → Bool
corners_allowed m B H allowed =
    below B (λ t. not (eqb (degree H t) 3) || below B (λ p. not (eqb (degree H p) 3) || below B (λ q. not (eqb (degree H q) 3)
    || rows_at m H allowed t p q)))

-- ---- small laws

or_right : (d r : Bool) → T (not d || r) → d ≡ true → T r
or_right true r t e = t
or_right false r t e = absurd (true≢false (sym e))

pub either_of : (a b : Bool) {P : Type 0} → T (a || b) → (T a → P) → (T b → P) → P
either_of true b t f g = f t
either_of false b t f g = g t

pub or_l : (a b : Bool) → T a → T (a || b)
or_l true b t = t
or_l false b t = absurd t

pub or_r : (a b : Bool) → T b → T (a || b)
or_r true b t = tt
or_r false b t = t

left_true : (a b : Bool) → (a && b) ≡ true → a ≡ true
left_true true b e = refl
left_true false b e = e

right_true : (a b : Bool) → (a && b) ≡ true → b ≡ true
right_true true b e = e
right_true false b e = absurd (true≢false (sym e))

-- the six ways of being alike
module _ (t p q r₁ r₂ r₃ sn sa tn tb ua ub : ℕ) where
  by_equal : (a b c d : ℕ) → (a ≡ b → c ≡ d → ⊥) → T (eqb a b && eqb c d) → ⊥
  by_equal a b c d f u = f (eqb→eq a b (and_l (eqb a b) (eqb c d) u)) (eqb→eq c d (and_r (eqb a b) (eqb c d) u))

  unlike : (r₁ ≡ r₂ → sn ≡ tn → ⊥) → (r₁ ≡ r₃ → sa ≡ ua → ⊥) → (r₂ ≡ r₃ → tb ≡ ub → ⊥) → (t ≡ p → sn ≡ sa → ⊥)
      → (t ≡ q → tn ≡ tb → ⊥) → (p ≡ q → ua ≡ ub → ⊥) → T (alike t p q r₁ r₂ r₃ sn sa tn tb ua ub) → ⊥
  unlike f₁ f₂ f₃ f₄ f₅ f₆ u =
      either_of (eqb r₁ r₂ && eqb sn tn) ((eqb r₁ r₃ && eqb sa ua) || ((eqb r₂ r₃ && eqb tb ub) || ((eqb t p && eqb sn sa) || (
      (eqb t q && eqb tn tb) || (eqb p q && eqb ua ub))))) u (by_equal r₁ r₂ sn tn f₁) (λ u.
      either_of (eqb r₁ r₃ && eqb sa ua) ((eqb r₂ r₃ && eqb tb ub) || ((eqb t p && eqb sn sa) || (
      (eqb t q && eqb tn tb) || (eqb p q && eqb ua ub)))) u (by_equal r₁ r₃ sa ua f₂) (λ u.
      either_of (eqb r₂ r₃ && eqb tb ub) ((eqb t p && eqb sn sa) || ((eqb t q && eqb tn tb) || (eqb p q && eqb ua ub))) u
      (by_equal r₂ r₃ tb ub f₃) (λ u.
      either_of (eqb t p && eqb sn sa) ((eqb t q && eqb tn tb) || (eqb p q && eqb ua ub)) u (by_equal t p sn sa f₄) (λ u.
      either_of (eqb t q && eqb tn tb) (eqb p q && eqb ua ub) u (by_equal t q tn tb f₅) (by_equal p q ua ub f₆)))))

record Some (n : ℕ) (f : ℕ → Bool) : Type 0 where
  at : ℕ
  under : at < n
  holds : f at ≡ true

some_counted : (n : ℕ) (f : ℕ → Bool) → 0 < count n f → Some n f
unfolding count
some_counted zero f h = absurd (omega arith)
some_counted (suc n) f h = go (f n) refl (some_counted n f)
  where
    go : (t : Bool) → f n ≡ t → (0 < count n f → Some n f) → Some (suc n) f
    go true e ih = record { at = n; under = lt-suc_self n; holds = e }
    go false e ih =
        let s : Some n f = ih (omega (arith, ap tally e)) in
        record { at = s.at; under = le_step s.under; holds = s.holds }

-- a one of a block has a shift
record Shift (m : ℕ) (f : ℕ → Bool) (i column : ℕ) : Type 0 where
  shift : ℕ
  holds : T (f shift)
  place : (i + shift) % suc m ≡ column

shift_of : (m : ℕ) (S : List ℕ) (f : ℕ → Bool) (i column : ℕ) → T (every S f) → one_at (suc m) S i column ≡ true → Shift m f i column
shift_of m [] f i column t e = absurd (true≢false (sym e))
shift_of m (s ∷ S) f i column t e =
    go (eqb ((i + s) % suc m) column) refl (shift_of m S f i column (and_r (f s) (every S f) t))
  where
    go : (b : Bool) → eqb ((i + s) % suc m) column ≡ b → (one_at (suc m) S i column ≡ true → Shift m f i column) → Shift m f i column
    go true q ih = record { shift = s; holds = and_l (f s) (every S f) t; place = eqb→eq ((i + s) % suc m) column (subst T (sym q) tt) }
    go false q ih = ih (sym (ap (λ z. z || one_at (suc m) S i column) q) ∙ e)

-- ---- from the test to the bits

module _ (m : ℕ) where
  mod_two : (p q : ℕ) → (p + q) % suc m ≡ (p % suc m + q % suc m) % suc m
  mod_two p q =
      sym (mod-add-mod p (suc m) q) ∙ ap (λ z. z % suc m) (add_comm (p % suc m) q) ∙ sym (mod-add-mod q (suc m) (p % suc m))
      ∙ ap (λ z. z % suc m) (add_comm (q % suc m) (p % suc m))

  mod_three : (p q r : ℕ) → (p + q + r) % suc m ≡ (p % suc m + q % suc m + r % suc m) % suc m
  mod_three p q r =
      mod_two (p + q) r ∙ ap (λ z. (z + r % suc m) % suc m) (mod_two p q) ∙ mod-add-mod (p % suc m + q % suc m) (suc m) (r % suc m)

  -- the shifts close
  round : (i j k n a b sn sa tn tb ua ub : ℕ) → (i + sn) % suc m ≡ n → (i + sa) % suc m ≡ a → (j + tn) % suc m ≡ n
      → (j + tb) % suc m ≡ b → (k + ua) % suc m ≡ a → (k + ub) % suc m ≡ b → closes m sn sa tn tb ua ub ≡ true
  round i j k n a b sn sa tn tb ua ub en ea fn fb ga gb =
      let left : sn + tb + ua + (i + j + k) ≡ i + sn + (j + tb) + (k + ua) = omega arith in
      let right : sa + tn + ub + (i + j + k) ≡ i + sa + (j + tn) + (k + ub) = omega arith in
      let turned : n + b + a ≡ a + n + b = omega arith in
      eq-eqb ((sn + tb + ua) % suc m) ((sa + tn + ub) % suc m) (cancel m (sn + tb + ua) (sa + tn + ub) (i + j + k)
      (ap (λ z. z % suc m) left ∙ mod_three (i + sn) (j + tb) (k + ua) ∙ ap₂ (λ x y. (x + y + (k + ua) % suc m) % suc m) en fb
      ∙ ap (λ z. (n + b + z) % suc m) ga ∙ ap (λ z. z % suc m) turned
      ∙ sym (ap (λ z. z % suc m) right ∙ mod_three (i + sa) (j + tn) (k + ub) ∙ ap₂ (λ x y. (x + y + (k + ub) % suc m) % suc m) ea fn
      ∙ ap (λ z. (a + n + z) % suc m) gb)))

  -- two bits of one check, by the difference of their shifts
  ahead_of : (k a b s s' : ℕ) → (k + s) % suc m ≡ a → (k + s') % suc m ≡ b → b ≡ (a + (s' + s * m) % suc m) % suc m
  ahead_of k a b s s' ea eb =
      let whole : k + s + (s' + s * m) ≡ k + s' + s * suc m = omega (arith, mul-suc s m) in
      sym (ap (λ z. z % suc m) (add_comm a ((s' + s * m) % suc m)) ∙ mod-add-mod (s' + s * m) (suc m) a
      ∙ ap (λ z. (s' + s * m + z) % suc m) (sym ea) ∙ ap (λ z. z % suc m) (add_comm (s' + s * m) ((k + s) % suc m))
      ∙ mod-add-mod (k + s) (suc m) (s' + s * m) ∙ ap (λ z. z % suc m) whole ∙ add-mul-mod_self_right (k + s') s (suc m) ∙ eb)

  -- a number by its block and its place there
  same : (x y : ℕ) → x / suc m ≡ y / suc m → x % suc m ≡ y % suc m → x ≡ y
  same x y p q = sym (div-add-mod' x (suc m)) ∙ ap₂ (λ a b. a * suc m + b) p q ∙ div-add-mod' y (suc m)

  -- two checks of one row that have the same bit by the same shift
  same_check : (k l n s s' : ℕ) → (k % suc m + s) % suc m ≡ n → (l % suc m + s') % suc m ≡ n → k / suc m ≡ l / suc m → s ≡ s' → k ≡ l
  same_check k l n s s' ek el rows shifts =
      same k l rows (sym (mod-eq_of_lt (mod-lt k (zero-lt-suc m)))
      ∙ cancel m (k % suc m) (l % suc m) s (ek ∙ sym el ∙ ap (λ z. (l % suc m + z) % suc m) (sym shifts))
      ∙ mod-eq_of_lt (mod-lt l (zero-lt-suc m)))

module _ (octets_of_word octets_of_information unsent m : ℕ) (H : List (List (List ℕ))) (gs : List (List ℕ)) (printed B : ℕ)
    (shape : T (shaped (suc m) B H)) (allowed : Allowed) (test : T (corners_allowed m B H allowed)) where
  abbrev c : Code
  c = with_tables octets_of_word octets_of_information unsent m H gs printed

  three : (n : ℕ) → n < B * suc m → degree_of c n ≡ 3 → eqb (degree H (n / suc m)) 3 ≡ true
  unfolding degree_of
  three n h e = eq-eqb (degree H (n / suc m)) 3 (sym (degree_in octets_of_word octets_of_information unsent m H gs printed B shape n h) ∙ e)

  block : (n : ℕ) → n < B * suc m → n / suc m < B
  block n h = (div-lt_iff_lt-mul (zero-lt-suc m)).1 h

  row : (k : ℕ) → k < checks c → k / suc m < length H
  row k h = (div-lt_iff_lt-mul (zero-lt-suc m)).1 h

  -- what is known of them
  pub record Corner (a b n : ℕ) : Type 0 where
    pub ahead : ℕ
    pub back : ℕ
    pub is : T (allowed (n / suc m) (a / suc m) (b / suc m) ahead back)
    pub second : b % suc m ≡ (a % suc m + ahead) % suc m
    pub first : a % suc m ≡ (b % suc m + back) % suc m

  module _ (a b n : ℕ) (ha : a < B * suc m) (hb : b < B * suc m) (hn : n < B * suc m) (apart : a ≡ b → ⊥) (da : n ≡ a → ⊥)
      (db : n ≡ b → ⊥) (tied : Tied c a b n) where
    with_a : Some (checks c) (λ k. covers c k n && covers c k a)
    unfolding shared
    with_a = some_counted (checks c) (λ k. covers c k n && covers c k a) (omega (arith, tied.na))

    with_b : Some (checks c) (λ k. covers c k n && covers c k b)
    unfolding shared
    with_b = some_counted (checks c) (λ k. covers c k n && covers c k b) (omega (arith, tied.nb))

    between : Some (checks c) (λ k. covers c k a && covers c k b)
    unfolding shared
    between = some_counted (checks c) (λ k. covers c k a && covers c k b) (omega (arith, tied.ab))

    never : (k : ℕ) → k < checks c → covers c k n ≡ true → covers c k a ≡ true → covers c k b ≡ true → ⊥
    unfolding thrice
    never k l en ea eb =
        true≢false (sym (ap₂ (λ p q. p && q) (ap₂ (λ p q. p && q) en eb) (ap₂ (λ p q. p && q) en ea))
        ∙ none_counted (checks c) (λ k. (covers c k n && covers c k b) && (covers c k n && covers c k a)) tied.none k l)

    -- what the test says of three checks and the shifts there
    abbrev fits : (k l j sn sa tn tb ua ub : ℕ) → Bool
    fits k l j sn sa tn tb ua ub =
        alike (n / suc m) (a / suc m) (b / suc m) (k / suc m) (l / suc m) (j / suc m) sn sa tn tb ua ub || (not
        (closes m sn sa tn tb ua ub) || allowed (n / suc m) (a / suc m) (b / suc m) ((ub + ua * m) % suc m) ((ua + ub * m) % suc m))

    module _ (k l j : ℕ) (hk : k < checks c) (hl : l < checks c) (hj : j < checks c) (kn : covers c k n ≡ true) (ka : covers c k a ≡ true)
        (ln : covers c l n ≡ true) (lb : covers c l b ≡ true) (ja : covers c j a ≡ true) (jb : covers c j b ≡ true) where
      settled : (sn sa tn tb ua ub : ℕ)
          → (k % suc m + sn) % suc m ≡ n % suc m
          → (k % suc m + sa) % suc m ≡ a % suc m
          → (l % suc m + tn) % suc m ≡ n % suc m
          → (l % suc m + tb) % suc m ≡ b % suc m
          → (j % suc m + ua) % suc m ≡ a % suc m
          → (j % suc m + ub) % suc m ≡ b % suc m
          → T (fits k l j sn sa tn tb ua ub) → Corner a b n
      settled sn sa tn tb ua ub pn pa qn qb ra rb t = record {
        ahead = (ub + ua * m) % suc m;
        back = (ua + ub * m) % suc m;
        is = either_of (alike (n / suc m) (a / suc m) (b / suc m) (k / suc m) (l / suc m) (j / suc m) sn sa tn tb ua ub) (not
            (closes m sn sa tn tb ua ub) || allowed (n / suc m) (a / suc m) (b / suc m) ((ub + ua * m) % suc m) ((ua + ub * m) % suc m)) t
            (λ u. absurd (clash u)) (λ u. or_right (closes m sn sa tn tb ua ub)
            (allowed (n / suc m) (a / suc m) (b / suc m) ((ub + ua * m) % suc m) ((ua + ub * m) % suc m)) u
            (round m (k % suc m) (l % suc m) (j % suc m) (n % suc m) (a % suc m) (b % suc m) sn sa tn tb ua ub pn pa qn qb ra rb));
        second = ahead_of m (j % suc m) (a % suc m) (b % suc m) ua ub ra rb;
        first = ahead_of m (j % suc m) (b % suc m) (a % suc m) ub ua rb ra;
      }
        where
          clash : T (alike (n / suc m) (a / suc m) (b / suc m) (k / suc m) (l / suc m) (j / suc m) sn sa tn tb ua ub) → ⊥
          clash = unlike (n / suc m) (a / suc m) (b / suc m) (k / suc m) (l / suc m) (j / suc m) sn sa tn tb ua ub
              (λ r s. never l hl ln (subst (λ q. covers c q a ≡ true) (same_check m k l (n % suc m) sn tn pn qn r s) ka) lb)
              (λ r s. never k hk kn ka (subst (λ q. covers c q b ≡ true) (sym (same_check m k j (a % suc m) sa ua pa ra r s)) jb))
              (λ r s. never l hl ln (subst (λ q. covers c q a ≡ true) (sym (same_check m l j (b % suc m) tb ub qb rb r s)) ja) lb)
              (λ r s. da (same m n a r (sym pn ∙ ap (λ z. (k % suc m + z) % suc m) s ∙ pa)))
              (λ r s. db (same m n b r (sym qn ∙ ap (λ z. (l % suc m + z) % suc m) s ∙ qb)))
              (λ r s. apart (same m a b r (sym ra ∙ ap (λ z. (j % suc m + z) % suc m) s ∙ rb)))

      -- one shift after the other
      from_ua : (sn sa tn tb ua : ℕ)
          → (k % suc m + sn) % suc m ≡ n % suc m
          → (k % suc m + sa) % suc m ≡ a % suc m
          → (l % suc m + tn) % suc m ≡ n % suc m
          → (l % suc m + tb) % suc m ≡ b % suc m
          → (j % suc m + ua) % suc m ≡ a % suc m
          → T (every (get_or (get_or H (j / suc m) []) (b / suc m) []) (λ ub. fits k l j sn sa tn tb ua ub)) → Corner a b n
      from_ua sn sa tn tb ua pn pa qn qb ra t =
          let s = shift_of m (get_or (get_or H (j / suc m) []) (b / suc m) []) (λ ub. fits k l j sn sa tn tb ua ub) (j % suc m)
          (b % suc m) t jb in
          settled sn sa tn tb ua s.shift pn pa qn qb ra s.place s.holds

      from_tb : (sn sa tn tb : ℕ)
          → (k % suc m + sn) % suc m ≡ n % suc m
          → (k % suc m + sa) % suc m ≡ a % suc m
          → (l % suc m + tn) % suc m ≡ n % suc m
          → (l % suc m + tb) % suc m ≡ b % suc m
          → T (every (get_or (get_or H (j / suc m) []) (a / suc m) []) (λ ua. every (get_or (get_or H (j / suc m) []) (b / suc m) []) (λ
          ub. fits k l j sn sa tn tb ua ub))) → Corner a b n
      from_tb sn sa tn tb pn pa qn qb t =
          let s = shift_of m (get_or (get_or H (j / suc m) []) (a / suc m) []) (λ ua. every (get_or (get_or H (j / suc m) []) (b /
          suc m) []) (λ ub. fits k l j sn sa tn tb ua ub)) (j % suc m) (a % suc m) t ja in
          from_ua sn sa tn tb s.shift pn pa qn qb s.place s.holds

      from_tn : (sn sa tn : ℕ)
          → (k % suc m + sn) % suc m ≡ n % suc m
          → (k % suc m + sa) % suc m ≡ a % suc m
          → (l % suc m + tn) % suc m ≡ n % suc m
          → T (every (get_or (get_or H (l / suc m) []) (b / suc m) []) (λ tb. every (get_or (get_or H (j / suc m) []) (a / suc m) []) (λ
          ua. every (get_or (get_or H (j / suc m) []) (b / suc m) []) (λ ub. fits k l j sn sa tn tb ua ub)))) → Corner a b n
      from_tn sn sa tn pn pa qn t =
          let s = shift_of m (get_or (get_or H (l / suc m) []) (b / suc m) []) (λ tb. every (get_or (get_or H (j / suc m) []) (a /
          suc m) []) (λ ua. every (get_or (get_or H (j / suc m) []) (b / suc m) []) (λ ub. fits k l j sn sa tn tb ua ub))) (l %
          suc m) (b % suc m) t lb in
          from_tb sn sa tn s.shift pn pa qn s.place s.holds

      from_sa : (sn sa : ℕ)
          → (k % suc m + sn) % suc m ≡ n % suc m
          → (k % suc m + sa) % suc m ≡ a % suc m
          → T (every (get_or (get_or H (l / suc m) []) (n / suc m) []) (λ tn. every (get_or (get_or H (l / suc m) []) (b / suc m) []) (λ
          tb. every (get_or (get_or H (j / suc m) []) (a / suc m) []) (λ ua. every (get_or (get_or H (j / suc m) []) (b / suc m)
          []) (λ ub. fits k l j sn sa tn tb ua ub))))) → Corner a b n
      from_sa sn sa pn pa t =
          let s = shift_of m (get_or (get_or H (l / suc m) []) (n / suc m) []) (λ tn. every (get_or (get_or H (l / suc m) []) (b /
          suc m) []) (λ tb. every (get_or (get_or H (j / suc m) []) (a / suc m) []) (λ ua. every (get_or (get_or H (j / suc m) [])
          (b / suc m) []) (λ ub. fits k l j sn sa tn tb ua ub)))) (l % suc m) (n % suc m) t ln in
          from_tn sn sa s.shift pn pa s.place s.holds

      from_sn : (sn : ℕ)
          → (k % suc m + sn) % suc m ≡ n % suc m
          → T (every (get_or (get_or H (k / suc m) []) (a / suc m) []) (λ sa. every (get_or (get_or H (l / suc m) []) (n / suc m) []) (λ
          tn. every (get_or (get_or H (l / suc m) []) (b / suc m) []) (λ tb. every (get_or (get_or H (j / suc m) []) (a / suc m)
          []) (λ ua. every (get_or (get_or H (j / suc m) []) (b / suc m) []) (λ ub. fits k l j sn sa tn tb ua ub)))))) → Corner a b n
      from_sn sn pn t =
          let s = shift_of m (get_or (get_or H (k / suc m) []) (a / suc m) []) (λ sa. every (get_or (get_or H (l / suc m) []) (n /
          suc m) []) (λ tn. every (get_or (get_or H (l / suc m) []) (b / suc m) []) (λ tb. every (get_or (get_or H (j / suc m) [])
          (a / suc m) []) (λ ua. every (get_or (get_or H (j / suc m) []) (b / suc m) []) (λ ub. fits k l j sn sa tn tb ua
          ub))))) (k % suc m) (a % suc m) t ka in
          from_sa sn s.shift pn s.place s.holds

      from_none : T
          (every (get_or (get_or H (k / suc m) []) (n / suc m) []) (λ sn. every (get_or (get_or H (k / suc m) []) (a / suc m) []) (λ
          sa. every (get_or (get_or H (l / suc m) []) (n / suc m) []) (λ tn. every (get_or (get_or H (l / suc m) []) (b / suc m)
          []) (λ tb. every (get_or (get_or H (j / suc m) []) (a / suc m) []) (λ ua. every (get_or (get_or H (j / suc m) []) (b /
          suc m) []) (λ ub. fits k l j sn sa tn tb ua ub))))))) → Corner a b n
      from_none t =
          let s = shift_of m (get_or (get_or H (k / suc m) []) (n / suc m) []) (λ sn. every (get_or (get_or H (k / suc m) []) (a /
          suc m) []) (λ sa. every (get_or (get_or H (l / suc m) []) (n / suc m) []) (λ tn. every (get_or (get_or H (l / suc m) [])
          (b / suc m) []) (λ tb. every (get_or (get_or H (j / suc m) []) (a / suc m) []) (λ ua. every (get_or (get_or H (j / suc m)
          []) (b / suc m) []) (λ ub. fits k l j sn sa tn tb ua ub)))))) (k % suc m) (n % suc m) t kn in
          from_sn s.shift s.place s.holds

    pub corner : Corner a b n
    corner =
        let k = with_a.at in
        let l = with_b.at in
        let j = between.at in
        let at_blocks : T (rows_at m H allowed (n / suc m) (a / suc m) (b / suc m)) =
        or_right (eqb (degree H (b / suc m)) 3) _ (below_at B _ (or_right (eqb (degree H (a / suc m)) 3) _ (below_at B _
        (or_right (eqb (degree H (n / suc m)) 3) _ (below_at B _ test (n / suc m) (block n hn)) (three n hn tied.of_n))
        (a / suc m) (block a ha)) (three a ha tied.of_a)) (b / suc m) (block b hb)) (three b hb tied.of_b) in
        let at_rows : T (corner_at m H allowed (n / suc m) (a / suc m) (b / suc m) (k / suc m) (l / suc m) (j / suc m)) =
        below_at (length H) _ (below_at (length H) _ (below_at (length H) _ at_blocks (k / suc m) (row k with_a.under)) (l / suc m)
        (row l with_b.under)) (j / suc m) (row j between.under) in
        from_none k l j with_a.under with_b.under between.under
        (left_true (covers c k n) (covers c k a) with_a.holds) (right_true (covers c k n) (covers c k a) with_a.holds)
        (left_true (covers c l n) (covers c l b) with_b.holds) (right_true (covers c l n) (covers c l b) with_b.holds)
        (left_true (covers c j a) (covers c j b) between.holds) (right_true (covers c j a) (covers c j b) between.holds) at_rows
