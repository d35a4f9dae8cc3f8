-- What the record of a code that is offered says of its checks and its octets.
use mathlib.Core.Path.{◌≡◌, refl, sym}
use mathlib.Core.Bool.{Bool, true, false, ◌&&◌, true≢false}
use mathlib.Core.List.{List, [], ◌∷◌}
use Prim.Native.Nat.{ℕ, zero, suc, ◌+◌, ◌*◌, ◌≤◌, ◌<◌}
use native.Mathlib.Nat.{le_of_suc-le-suc}
use native.Mathlib.Omega.{arith}
use lib.Dec.{T, lit≤, ltb}
use lib.ListN.{length, get_or}
use borrow.Author.Tests.{ltb-true}
use Rattle.rules.specs.Codes.{code, code1, code2, code3, code4, code5, checks, offered}
use Rattle.rules.specs.Tables.{parity16, parity32, parity64, parity511}
use Rattle.rules.proofs.Numbers.{five}
use Rattle.catalogue.specs.offer.Offers.{offer_of}
use Rattle.catalogue.proofs.offer.Offers.{is_offered}
use Rattle.catalogue.specs.tables.Flat.{flat16, pairs}

pub record Checked (n : ℕ) : Type 0 where
  pub checks_are : (offer_of n).shape.rows * (offer_of n).shape.size ≡ checks (code n)
  pub few : checks (code n) ≤ 1022
  pub narrow : ((offer_of n).shape.size ≡ 511 → ⊥) → ((offer_of n).word ≤ 64) × ((offer_of n).unsent ≡ 0)
  pub wide : (offer_of n).shape.size ≡ 511 → (8176 ≤ 8 * (offer_of n).word + (offer_of n).unsent) × ((offer_of n).unsent ≤ 18)

checked_five : (n : ℕ) → T (offered n) → Checked n
unfolding code code1 code2 code3 code4 code5 parity16 parity32 parity64 parity511
checked_five =
    five Checked
    (record { checks_are = refl; few = lit≤ tt; narrow = λ d. (lit≤ tt, refl); wide = λ e. absurd (omega (arith, e)) })
    (record { checks_are = refl; few = lit≤ tt; narrow = λ d. (lit≤ tt, refl); wide = λ e. absurd (omega (arith, e)) })
    (record { checks_are = refl; few = lit≤ tt; narrow = λ d. (lit≤ tt, refl); wide = λ e. absurd (omega (arith, e)) })
    (record { checks_are = refl; few = lit≤ tt; narrow = λ d. absurd (d refl); wide = λ e. (lit≤ tt, lit≤ tt) })
    (record { checks_are = refl; few = lit≤ tt; narrow = λ d. absurd (d refl); wide = λ e. (lit≤ tt, lit≤ tt) })

pub checked : (n : ℕ) → offered n ≡ true → Checked n
checked n o = checked_five n (is_offered n o)

-- ---- every place of the near-Earth table holds a shift

both_true : (a b : Bool) → (a && b) ≡ true → (a ≡ true) × (b ≡ true)
both_true true b e = (refl, e)
both_true false b e = absurd (true≢false (sym e))

below : ℕ → List ℕ → Bool
below m [] = true
below m (v ∷ l) = ltb v m && below m l

below_at : (m : ℕ) (l : List ℕ) → below m l ≡ true → (k : ℕ) → k < length l → get_or l k 0 < m
unfolding below
below_at m [] e k h = absurd (omega (arith, h))
below_at m (v ∷ l) e zero h = ltb-true v m (both_true (ltb v m) (below m l) e).0
below_at m (v ∷ l) e (suc k) h = below_at m l (both_true (ltb v m) (below m l) e).1 k (le_of_suc-le-suc h)

pub every_shift : (k : ℕ) → k < length (flat16 (pairs parity511)) → get_or (flat16 (pairs parity511)) k 0 < 511
unfolding below flat16 parity511
every_shift = below_at 511 (flat16 (pairs parity511)) refl
