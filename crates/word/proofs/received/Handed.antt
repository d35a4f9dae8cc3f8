-- Words handed in and out, by what a code leaves unsent.
use mathlib.Core.Path.{◌≡◌, sym, ap, ap₂, ◌∙◌, fun_ext}
use mathlib.Core.Bool.{not, ◌&&◌}
use Prim.Native.Nat.{ℕ, ◌+◌, ◌-◌, ◌*◌, ◌/◌, ◌≤◌, ◌<◌}
use native.Mathlib.Nat.{lt_of_not-le}
use native.Mathlib.Decide.{dec_lt}
use native.Mathlib.Omega.{arith}
use lib.Dec.{ltb}
use borrow.Author.Tests.{lt-ltb, le-ltb}
use Rattle.bits.specs.Bits.{Word, octets}
use Rattle.rules.specs.Codes.{Code, bits}
use Rattle.rules.specs.Encoding.{lifted, sent, written}
use Rattle.bits.proofs.Octets.{octets_same}
use Rattle.vectors.specs.Vectors.{up_to, from, later, joined}
use Rattle.vectors.proofs.Cells.{joined_below}

-- ---- octets in

pub taken_later : (c : Code) (u : ℕ) → u ≡ c.unsent → (y : Word) → later u y ≡ lifted c y
unfolding lifted
taken_later c u e y = ap (λ k. later k y) e

pub taken_whole : (c : Code) → 0 ≡ c.unsent → (y : Word) → y ≡ lifted c y
unfolding lifted
taken_whole c e y =
    fun_ext (λ n.
    let z : n - 0 ≡ n = omega arith in
    sym (ap₂ (λ b k. not b && y k) (le-ltb n 0 (omega arith)) z))
    ∙ ap (λ u. (λ (n : ℕ). not (ltb n u) && y (n - u))) e

-- ---- octets out

module _ (c : Code) (u m : ℕ) (e : u ≡ c.unsent) (f : m ≡ bits c) (x : Word) where
  -- past the last bit, the place from which an unsent one is left out
  shifted : (i : ℕ) → ltb (u + i) m ≡ ltb i (bits c - c.unsent)
  shifted i = go (dec_lt i (bits c - c.unsent))
    where
      go : Dec (i < bits c - c.unsent) → ltb (u + i) m ≡ ltb i (bits c - c.unsent)
      go (yes l) = lt-ltb (u + i) m (omega arith) ∙ sym (lt-ltb i (bits c - c.unsent) l)
      go (no g) = le-ltb (u + i) m (omega (arith, lt_of_not-le g)) ∙ sym (le-ltb i (bits c - c.unsent) (omega (arith, lt_of_not-le g)))

  place : (i : ℕ) → u + i ≡ i + c.unsent
  place i = omega arith

  -- where more octets are sent than there are bits: the rest is 0, as far as the word of the last bit goes
  pub written_trimmed : (long : ℕ) → long ≡ c.octets_of_word → 8 * long + u ≤ 64 * (m / 64 + 1)
      → octets long (from u (joined (64 * (m / 64 + 1)) (up_to m x) x)) ≡ written c x
  unfolding sent
  written_trimmed long g h =
      octets_same long (from u (joined (64 * (m / 64 + 1)) (up_to m x) x)) (from u (up_to m x))
      (λ i l. joined_below (64 * (m / 64 + 1)) (u + i) (up_to m x) x (omega arith))
      ∙ ap (λ z. octets z (from u (up_to m x))) g
      ∙ ap (octets c.octets_of_word) (fun_ext (λ i. ap₂ ◌&&◌ (shifted i) (ap x (place i))))

  -- where they are as many as the octets
  pub written_whole : (long : ℕ) → long ≡ c.octets_of_word → 8 * long + u ≤ m → octets long (from u x) ≡ written c x
  unfolding sent
  written_whole long g h =
      ap (λ z. octets z (from u x)) g
      ∙ octets_same c.octets_of_word (from u x) (sent c x) (λ i l.
      sym (ap (λ b. b && x (i + c.unsent)) (lt-ltb i (bits c - c.unsent) (omega (arith, g, h, e, f))) ∙ ap x (sym (place i))))
