-- Blocks of 511 bits, cut from octets. Assumes nothing.
use mathlib.Core.Path.{◌≡◌, sym, ap, ap₂, ◌∙◌, fun_ext, subst}
use mathlib.Core.Bool.{◌&&◌}
use mathlib.Core.Logic.{⊎_elim}
use mathlib.Core.List.{List, [], ◌∷◌}
use Prim.Native.Nat.{ℕ, suc, ◌+◌, ◌-◌, ◌*◌, ◌/◌, ◌%◌, ◌^◌, ◌≤◌, ◌<◌}
use native.Mathlib.Omega.{arith}
use lib.Dec.{ltb}
use lib.ListN.{length, get_or, set}
use Rattle.bits.specs.Bits.{Word, bit, digit}
use Rattle.bits.proofs.Octets.{digit_zero}
use Rattle.bits.proofs.Orders.{le-or-lt}
use Rattle.vectors.specs.Vectors.{wbit, Holds, up_to, from, later}
use Rattle.vectors.proofs.Places.{place, place_up, place_below, place_cut}
use Rattle.vectors.proofs.Filling.{Filled, filled_more, filled_all, word_at}
use Rattle.vectors.proofs.Spans.{up_to_below, up_to_above, later_front, later_back}

-- an octet in front of zeros
pub leads : (o : ℕ) → Holds ((o * 2 ^ 56) % 2 ^ 64) (up_to 8 (digit 8 o))
leads o i hi =
    place_cut (o * 2 ^ 56) 64 (64 - suc i) (omega arith)
    ∙ ⊎_elim
    (λ (h : 8 ≤ i). place_below o 56 (64 - suc i) (omega arith) ∙ sym (up_to_above 8 i (digit 8 o) h))
    (λ (h : i < 8).
    let d : 64 - suc i ≡ 56 + (8 - suc i) = omega arith in
    ap (place (o * 2 ^ 56)) d ∙ place_up o 56 (8 - suc i) ∙ sym (up_to_below 8 i (digit 8 o) h))
    (le-or-lt 8 i)

-- eight octets and the next one, from bit t on
pub across : (o : List ℕ) (at t a b r : ℕ) → t < 8 → Holds a (from (8 * at) (bit o))
    → Holds b (up_to 8 (digit 8 (get_or o (at + 8) 0)))
    → Holds r (from t (wbit (a ∷ b ∷ [])))
    → Holds r (from (8 * at + t) (bit o))
across o at t a b r ht ha hb hr i hi = hr i hi ∙ ⊎_elim second first (le-or-lt 64 (t + i))
  where
    two : List ℕ
    two = a ∷ b ∷ []

    next : ℕ
    next = get_or o (at + 8) 0

    first : t + i < 64 → wbit two (t + i) ≡ bit o (8 * at + t + i)
    first h = word_at two (t + i) 0 (t + i) h (omega arith) ∙ ha (t + i) h ∙ ap (bit o) (omega arith)

    second : 64 ≤ t + i → wbit two (t + i) ≡ bit o (8 * at + t + i)
    second h =
        let j = t + i - 64 in
        let q : (8 * at + t + i) / 8 ≡ at + 8 = omega arith in
        let k : (8 * at + t + i) % 8 ≡ j = omega arith in
        word_at two (t + i) 1 j (omega arith) (omega arith)
        ∙ hb j (omega arith)
        ∙ up_to_below 8 j (digit 8 next) (omega arith)
        ∙ sym (ap₂ (λ q k. digit 8 (get_or o q 0) k) q k)

-- the last word, read from one bit before its own
pub last_cut : (v₀ v : List ℕ) (x : Word) (p k a r : ℕ) → length v₀ ≡ 8 → k ≡ 7 → Filled v₀ (up_to 511 (from p x)) v k
    → Holds a (from (p + 447) x)
    → Holds r (from 1 (wbit (a ∷ 0 ∷ [])))
    → wbit (set v 7 r) ≡ up_to 511 (from p x)
last_cut v₀ v x p k a r long e so_far ha hr =
    let seven : Filled v₀ y v 7 = subst (λ n. Filled v₀ y v n) e so_far in
    let all = filled_more v₀ y v 7 seven r (omega (arith, seven.long)) word in
    filled_all v₀ y (set v 7 r) 8 all (omega (arith, all.long)) (λ n h. up_to_above 511 n (from p x) (omega arith))
  where
    y : Word
    y = up_to 511 (from p x)

    word : Holds r (from (64 * 7) y)
    word i hi =
        hr i hi
        ∙ ⊎_elim
        (λ (h : 63 ≤ i).
        word_at (a ∷ 0 ∷ []) (1 + i) 1 0 (omega arith) (omega arith) ∙ digit_zero 64 0
        ∙ sym (up_to_above 511 (64 * 7 + i) (from p x) (omega arith)))
        (λ (h : i < 63).
        word_at (a ∷ 0 ∷ []) (1 + i) 0 (1 + i) (omega arith) (omega arith) ∙ ha (1 + i) (omega arith) ∙ ap x (omega arith)
        ∙ sym (up_to_below 511 (64 * 7 + i) (from p x) (omega arith)))
        (le-or-lt 63 i)

module _ (u : ℕ) (x : Word) where
  -- the first block, cut short and then moved
  pub first_block : u ≤ 18 → later u (up_to (511 - u) (up_to 511 (from 0 x))) ≡ up_to 511 (later u x)
  first_block h = fun_ext (λ n. ⊎_elim (behind n) (front n) (le-or-lt u n))
    where
      cut : Word
      cut = up_to 511 (from 0 x)

      front : (n : ℕ) → n < u → later u (up_to (511 - u) cut) n ≡ up_to 511 (later u x) n
      front n l =
          later_front u n (up_to (511 - u) cut) l
          ∙ sym (up_to_below 511 n (later u x) (omega arith) ∙ later_front u n x l)

      behind : (n : ℕ) → u ≤ n → later u (up_to (511 - u) cut) n ≡ up_to 511 (later u x) n
      behind n l =
          later_back u n (up_to (511 - u) cut) l
          ∙ ⊎_elim
          (λ (k : 511 ≤ n). up_to_above (511 - u) (n - u) cut (omega arith) ∙ sym (up_to_above 511 n (later u x) k))
          (λ (k : n < 511).
          up_to_below (511 - u) (n - u) cut (omega arith)
          ∙ up_to_below 511 (n - u) (from 0 x) (omega arith)
          ∙ ap x (omega arith)
          ∙ sym (up_to_below 511 n (later u x) k ∙ later_back u n x l))
          (le-or-lt 511 n)

  pub from_start : (p : ℕ) → p ≡ 0 → up_to 511 (later u x) ≡ up_to 511 (from p (later u x))
  from_start p e = fun_ext (λ n.
      let same : n ≡ p + n = omega arith in
      ap (λ k. ltb n 511 && later u x k) same)
