-- The first checks of a wide row, read straight from the octets. Assumes nothing.
use mathlib.Core.Path.{◌≡◌, sym, ap, ◌∙◌}
use mathlib.Core.Logic.{⊎_elim}
use mathlib.Core.List.{List, [], ◌∷◌}
use Prim.Native.Nat.{ℕ, suc, ◌+◌, ◌-◌, ◌*◌, ◌/◌, ◌%◌, ◌^◌, ◌≤◌, ◌<◌}
use native.Mathlib.Nat.{mod-eq_of_lt}
use native.Mathlib.Omega.{arith}
use lib.Dec.{lit<}
use lib.ListN.{get_or}
use Rattle.bits.specs.Bits.{Word, bit, digit}
use Rattle.bits.proofs.Orders.{le-or-lt}
use Rattle.rules.specs.Codes.{Code}
use Rattle.rules.specs.Encoding.{lifted}
use Rattle.rules.proofs.Codewords.{lifted_unsent, lifted_sent_bit}
use Rattle.syndromes.proofs.Shifts.{once_around}
use Rattle.vectors.specs.Vectors.{wbit, Holds, from}
use Rattle.vectors.proofs.Places.{place, place_cut, place_up, place_down, place_above}
use Rattle.vectors.proofs.Cells.{cell_at}
use Rattle.vectors.proofs.Filling.{word_at}
use Rattle.quick.specs.groups.Groups.{reached}
use Rattle.quick.proofs.groups.Groups.{reached_shift}

-- ---- nine octets

octet_front : (v l : ℕ) → l < 8 → digit 64 ((v * 2 ^ 56) % 2 ^ 64) l ≡ digit 8 v l
octet_front v l h =
    let e : 64 - suc l ≡ 56 + (8 - suc l) = omega arith in
    place_cut (v * 2 ^ 56) 64 (64 - suc l) (omega arith) ∙ ap (place (v * 2 ^ 56)) e ∙ place_up v 56 (8 - suc l)

pub nine : (o : List ℕ) (at t p a r : ℕ) → t < 8 → p ≡ 8 * at + t → Holds a (from (8 * at) (bit o))
    → Holds r (from t (wbit (a ∷ (get_or o (at + 8) 0 * 2 ^ 56) % 2 ^ 64 ∷ []))) → Holds r (from p (bit o))
nine o at t p a r ht ep ha hr i hi = hr i hi ∙ ⊎_elim second first (le-or-lt 64 (t + i))
  where
    b : ℕ
    b = (get_or o (at + 8) 0 * 2 ^ 56) % 2 ^ 64

    first : t + i < 64 → wbit (a ∷ b ∷ []) (t + i) ≡ bit o (p + i)
    first h =
        let e : 8 * at + (t + i) ≡ p + i = omega arith in
        word_at (a ∷ b ∷ []) (t + i) 0 (t + i) h (omega arith) ∙ ha (t + i) h ∙ ap (bit o) e

    second : 64 ≤ t + i → wbit (a ∷ b ∷ []) (t + i) ≡ bit o (p + i)
    second h =
        let l = t + i - 64 in
        let hl : l < 8 = omega arith in
        let e : p + i ≡ 8 * (at + 8) + l = omega arith in
        word_at (a ∷ b ∷ []) (t + i) 1 l (omega arith) (omega arith)
        ∙ octet_front (get_or o (at + 8) 0) l hl
        ∙ sym (ap (bit o) e ∙ cell_at 8 (lit< tt) o (at + 8) l hl)

-- ---- the bits in front that are not sent

module _ (c : Code) (o : List ℕ) (u : ℕ) (eu : u ≡ c.unsent) where
  pub lifted_low : (p a : ℕ) → p < u → u ≤ 18 → a < 2 ^ 64 → Holds a (from (8 * 0) (bit o))
      → Holds (a / 2 ^ (u - p)) (from p (lifted c (bit o)))
  lifted_low p a l hu fits ha i hi = place_down a (u - p) (64 - suc i) ∙ ⊎_elim inside before (le-or-lt (u - p) i)
    where
      before : i < u - p → place a (u - p + (64 - suc i)) ≡ lifted c (bit o) (p + i)
      before h = place_above a 64 (u - p + (64 - suc i)) fits (omega arith) ∙ sym (lifted_unsent c (bit o) (p + i) (omega (arith, eu)))

      inside : u - p ≤ i → place a (u - p + (64 - suc i)) ≡ lifted c (bit o) (p + i)
      inside h =
          let e : u - p + (64 - suc i) ≡ 64 - suc (i - (u - p)) = omega arith in
          let f : p + i ≡ i - (u - p) + c.unsent = omega (arith, eu) in
          let z : 8 * 0 + (i - (u - p)) ≡ i - (u - p) = omega arith in
          ap (place a) e ∙ ha (i - (u - p)) (omega arith) ∙ ap (bit o) z
          ∙ sym (ap (lifted c (bit o)) f ∙ lifted_sent_bit c (bit o) (i - (u - p)))

  pub lifted_high : (p r : ℕ) → u ≤ p → Holds r (from (p - u) (bit o)) → Holds r (from p (lifted c (bit o)))
  lifted_high p r l hr i hi =
      let f : p + i ≡ p - u + i + c.unsent = omega (arith, eu) in
      hr i hi ∙ sym (ap (lifted c (bit o)) f ∙ lifted_sent_bit c (bit o) (p - u + i))

-- ---- a block turned by a shift

module _ (m : ℕ) (x : Word) (p s : ℕ) where
  pub turned_on : (r : ℕ) → s + 64 ≤ m → Holds r (from (p + s) x) → Holds r (reached m x p s)
  turned_on r l hr i hi =
      let e : p + s + i ≡ p + (i + s) = omega arith in
      hr i hi ∙ ap x (e ∙ ap (λ z. p + z) (sym (mod-eq_of_lt (omega arith)))) ∙ sym (reached_shift m x p s i (omega arith))

  pub turned_round : (a b r : ℕ) → 128 ≤ m → m ≤ s + 64 → s < m → Holds a (from (p + (m - 64)) x) → Holds b (from p x)
      → Holds r (from (s - (m - 64)) (wbit (a ∷ b ∷ []))) → Holds r (reached m x p s)
  turned_round a b r hm l hs ha hb hr i hi = hr i hi ∙ ⊎_elim second first (le-or-lt m (i + s)) ∙ sym (reached_shift m x p s i hs)
    where
      k : ℕ
      k = s - (m - 64) + i

      first : i + s < m → wbit (a ∷ b ∷ []) k ≡ x (p + (i + s) % m)
      first h =
          let e : p + (m - 64) + k ≡ p + (i + s) = omega arith in
          word_at (a ∷ b ∷ []) k 0 k (omega arith) (omega arith) ∙ ha k (omega arith)
          ∙ ap x (e ∙ ap (λ z. p + z) (sym (mod-eq_of_lt h)))

      second : m ≤ i + s → wbit (a ∷ b ∷ []) k ≡ x (p + (i + s) % m)
      second h =
          let e : k - 64 ≡ i + s - m = omega arith in
          word_at (a ∷ b ∷ []) k 1 (k - 64) (omega arith) (omega arith)
          ∙ hb (k - 64) (omega arith)
          ∙ ap (λ z. x (p + z)) (e ∙ sym (once_around m (i + s) h (omega arith)))
