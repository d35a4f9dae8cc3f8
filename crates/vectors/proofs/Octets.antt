-- Octets of words and words of octets. Assumes nothing.
use mathlib.Core.Path.{◌≡◌, sym, ap, ap₂, ◌∙◌, subst, fun_ext}
use mathlib.Core.Bool.{false, ◌||◌}
use mathlib.Core.Logic.{⊎_elim}
use mathlib.Core.List.{List}
use Prim.Native.Nat.{ℕ, suc, ◌+◌, ◌-◌, ◌*◌, ◌/◌, ◌%◌, ◌^◌, ◌≤◌, ◌<◌}
use native.Mathlib.Nat.{lt_of_lt_of_le}
use native.Mathlib.Omega.{arith}
use lib.Dec.{lit<}
use lib.Arith.{digits_lt}
use lib.Bits.{bit_or}
use lib.Pow.{pow-add, pow_mono}
use lib.ListN.{get_or, length}
use Rattle.bits.specs.Bits.{Word, digit, bit, octets}
use Rattle.bits.proofs.Octets.{length_octets, bit_octets, octets_lt, bit_past}
use Rattle.vectors.specs.Vectors.{wbit, Holds, up_to, from, later, joined}
use Rattle.bits.proofs.Orders.{le-or-lt}
use Rattle.vectors.proofs.Places.{or-none, place, place_or, place_above, place-front, place_behind, place_zero, place_cut, place_up}
use Rattle.vectors.proofs.Places.{place_down, place_below}
use Rattle.vectors.proofs.Cells.{cell_at, same_cells, joined_below, joined_above, joined_end}
use Rattle.vectors.proofs.Spans.{up_to_below, up_to_above, later_back}

-- A list of octets is known by its length and its bits.
pub octets_of : (o : List ℕ) (n : ℕ) (x : Word) → length o ≡ n → ((i : ℕ) → get_or o i 0 < 2 ^ 8) → bit o ≡ up_to (8 * n) x → o ≡ octets n x
octets_of o n x e h b =
    same_cells 8 (lit< tt) o (octets n x) (e ∙ sym (length_octets n x)) h (octets_lt n x) (b ∙ sym (fun_ext (bit_octets n x)))

-- ---- octets gathered into a number

pub fits : (m k v : ℕ) → v < 2 ^ m → m ≤ k → v < 2 ^ k
fits m k v h l = lt_of_lt_of_le h (pow_mono l)

-- The number of the first n octets from octet `at` on.
abbrev pub Gathered : List ℕ → ℕ → ℕ → ℕ → Type 0
Gathered o at n v = (v < 2 ^ (8 * n)) × ((i : ℕ) → i < 8 * n → digit (8 * n) v i ≡ bit o (8 * at + i))

pub octet_more : (o : List ℕ) (at n v : ℕ) → get_or o (at + n) 0 < 2 ^ 8 → Gathered o at n v
    → Gathered o at (n + 1) (v * 256 + get_or o (at + n) 0)
octet_more o at n v hb g = (
  subst (λ (k : ℕ). v * 256 + b < k) (sym (pow-add 2 (8 * n) 8) ∙ ap (λ (k : ℕ). 2 ^ k) wide) (digits_lt g.0 hb),
  λ i hi. ⊎_elim (behind i hi) (front i) (le-or-lt (8 * n) i),
)
  where
    b : ℕ
    b = get_or o (at + n) 0

    wide : 8 * n + 8 ≡ 8 * (n + 1)
    wide = omega arith

    front : (i : ℕ) → i < 8 * n → digit (8 * (n + 1)) (v * 256 + b) i ≡ bit o (8 * at + i)
    front i h =
        let e : 8 * (n + 1) - suc i ≡ 8 + (8 * n - suc i) = omega arith in
        ap (place (v * 2 ^ 8 + b)) e ∙ place-front v b 8 hb (8 * n - suc i) ∙ g.1 i h

    behind : (i : ℕ) → i < 8 * (n + 1) → 8 * n ≤ i → digit (8 * (n + 1)) (v * 256 + b) i ≡ bit o (8 * at + i)
    behind i hi h =
        let j = i - 8 * n in
        let hj : j < 8 = omega arith in
        let e : 8 * (n + 1) - suc i ≡ 8 - suc j = omega arith in
        let k : 8 * at + i ≡ 8 * (at + n) + j = omega arith in
        ap (place (v * 2 ^ 8 + b)) e
        ∙ place_behind v b 8 hb (8 - suc j) (omega arith)
        ∙ sym (ap (bit o) k ∙ cell_at 8 (lit< tt) o (at + n) j hj)

-- Two halves of four octets make a word.
pub two_halves : (o : List ℕ) (at u v : ℕ) → Gathered o at 4 u → Gathered o (at + 4) 4 v
    → Holds (bit_or ((u * 2 ^ 32) % 2 ^ 64) v) (from (8 * at) (bit o))
two_halves o at u v g k i hi = place_or ((u * 2 ^ 32) % 2 ^ 64) v j ∙ ⊎_elim second first (le-or-lt 32 i)
  where
    j : ℕ
    j = 64 - suc i

    front : place ((u * 2 ^ 32) % 2 ^ 64) j ≡ place (u * 2 ^ 32) j
    front = place_cut (u * 2 ^ 32) 64 j (omega arith)

    first : i < 32 → (place ((u * 2 ^ 32) % 2 ^ 64) j || place v j) ≡ bit o (8 * at + i)
    first h =
        let e : j ≡ 32 + (32 - suc i) = omega arith in
        ap₂ ◌||◌ (front ∙ ap (place (u * 2 ^ 32)) e ∙ place_up u 32 (32 - suc i) ∙ g.1 i h) (place_above v 32 j k.0 (omega arith))
        ∙ or-none (bit o (8 * at + i))

    second : 32 ≤ i → (place ((u * 2 ^ 32) % 2 ^ 64) j || place v j) ≡ bit o (8 * at + i)
    second h =
        let l = i - 32 in
        let e : j ≡ 32 - suc l = omega arith in
        let n : 8 * (at + 4) + l ≡ 8 * at + i = omega arith in
        ap₂ ◌||◌ (front ∙ place_below u 32 j (omega arith)) (ap (place v) e ∙ k.1 l (omega arith) ∙ ap (bit o) n)

-- The last octets stand in front, and zeros follow.
pub short_group : (o : List ℕ) (at n v : ℕ) → at + n ≡ length o → n ≤ 8 → Gathered o at n v
    → Holds ((v * 2 ^ (64 - 8 * n)) % 2 ^ 64) (from (8 * at) (bit o))
short_group o at n v e hn g i hi =
    place_cut (v * 2 ^ (64 - 8 * n)) 64 (64 - suc i) (omega arith)
    ∙ ⊎_elim
    (λ (h : 8 * n ≤ i).
    place_below v (64 - 8 * n) (64 - suc i) (omega arith) ∙ sym (bit_past o (8 * at + i) (omega arith)))
    (λ (h : i < 8 * n).
    let d : 64 - suc i ≡ 64 - 8 * n + (8 * n - suc i) = omega arith in
    ap (place (v * 2 ^ (64 - 8 * n))) d ∙ place_up v (64 - 8 * n) (8 * n - suc i) ∙ g.1 i h)
    (le-or-lt (8 * n) i)

pub no_group : (o : List ℕ) (at : ℕ) → length o ≤ at → Holds 0 (from (8 * at) (bit o))
no_group o at h i hi = place_zero (64 - suc i) ∙ sym (bit_past o (8 * at + i) (omega arith))

-- Octets in front of zeros.
pub zeros_behind : (o ws : List ℕ) (k : ℕ) → wbit ws ≡ (λ n. false) → length o ≤ 8 * k → joined (64 * k) (bit o) (wbit ws) ≡ bit o
zeros_behind o ws k zeros h = joined_end (64 * k) (bit o) (wbit ws) (λ n l. ap (λ (y : Word). y n) zeros ∙ sym (bit_past o n (omega arith)))

-- And u places later.
pub later_behind : (o ws : List ℕ) (k u : ℕ) → wbit ws ≡ (λ n. false) → 8 * length o + u ≤ 64 * k
    → joined (64 * k) (later u (bit o)) (wbit ws) ≡ later u (bit o)
later_behind o ws k u zeros h =
    joined_end (64 * k) (later u (bit o)) (wbit ws)
    (λ n l. ap (λ (y : Word). y n) zeros ∙ sym (later_back u n (bit o) (omega arith) ∙ bit_past o (n - u) (omega arith)))

-- ---- octets of a number put into a list

pub put_octet : (v j i : ℕ) → j < 8 → i < 8 → digit 8 (v / 2 ^ (56 - 8 * j) % 256) i ≡ digit 64 v (8 * j + i)
put_octet v j i hj hi =
    let e : 56 - 8 * j + (8 - suc i) ≡ 64 - suc (8 * j + i) = omega arith in
    place_cut (v / 2 ^ (56 - 8 * j)) 8 (8 - suc i) (omega arith) ∙ place_down v (56 - 8 * j) (8 - suc i) ∙ ap (place v) e

-- The bits of v from bit a on, and those of z before.
abbrev pub after : ℕ → Word → ℕ → Word
after a z v = joined a z (λ k. digit 64 v (k - a))

rest_more : (z x y : Word) (a e v : ℕ) → z ≡ joined a x y → a ≤ e → e ≤ a + 64 → Holds v (from a x)
    → joined e (after a z v) z ≡ joined e x y
rest_more z x y a e v was ha he hv = fun_ext (λ k. ⊎_elim (behind k) (before k) (le-or-lt e k))
  where
    now : (k : ℕ) → z k ≡ joined a x y k
    now k = ap (λ (w : Word). w k) was

    behind : (k : ℕ) → e ≤ k → joined e (after a z v) z k ≡ joined e x y k
    behind k h = joined_above e k (after a z v) z h ∙ now k ∙ joined_above a k x y (omega arith) ∙ sym (joined_above e k x y h)

    inside : (k : ℕ) → k < e → after a z v k ≡ x k
    inside k h =
        ⊎_elim
        (λ (l : a ≤ k).
        let d : a + (k - a) ≡ k = omega arith in
        joined_above a k z (λ i. digit 64 v (i - a)) l ∙ hv (k - a) (omega arith) ∙ ap x d)
        (λ (l : k < a). joined_below a k z (λ i. digit 64 v (i - a)) l ∙ now k ∙ joined_below a k x y l)
        (le-or-lt a k)

    before : (k : ℕ) → k < e → joined e (after a z v) z k ≡ joined e x y k
    before k h = joined_below e k (after a z v) z h ∙ inside k h ∙ sym (joined_below e k x y h)

-- A list that has the bits of x before octet `at`, into which n octets more are put.
pub put_more : (o p : List ℕ) (x y : Word) (at n v : ℕ) → n ≤ 8 → bit o ≡ joined (8 * at) x y → Holds v (from (8 * at) x)
    → bit p ≡ joined (8 * (at + n)) (after (8 * at) (bit o) v) (bit o) → bit p ≡ joined (8 * (at + n)) x y
put_more o p x y at n v hn was hv e = e ∙ rest_more (bit o) x y (8 * at) (8 * (at + n)) v was (omega arith) (omega arith) hv

-- A list of octets that is written to its end.
pub written : (o₀ o : List ℕ) (x : Word) (e : ℕ) → length o ≡ length o₀ → ((i : ℕ) → get_or o i 0 < 2 ^ 8) → e ≡ 8 * length o₀
    → bit o ≡ joined e x (bit o₀)
    → o ≡ octets (length o₀) x
written o₀ o x e long small all b = octets_of o (length o₀) x long small (b ∙ ap (λ (n : ℕ). joined n x (bit o₀)) all ∙ fun_ext cut)
  where
    m : ℕ
    m = 8 * length o₀

    cut : (k : ℕ) → joined m x (bit o₀) k ≡ up_to m x k
    cut k =
        ⊎_elim
        (λ (h : m ≤ k). joined_above m k x (bit o₀) h ∙ bit_past o₀ k h ∙ sym (up_to_above m k x h))
        (λ (h : k < m). joined_below m k x (bit o₀) h ∙ sym (up_to_below m k x h))
        (le-or-lt m k)
