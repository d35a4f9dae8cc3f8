-- Lists in parts.
use mathlib.Core.Path.{◌≡◌, refl, sym, ap, ap₂, ◌∙◌}
use mathlib.Core.Bool.{Bool, true, false, ◌&&◌, and-false}
use mathlib.Core.List.{List, [], ◌∷◌, ◌++◌, append_assoc}
use Prim.Native.Nat.{ℕ, zero, suc, ◌+◌, ◌-◌, ◌≤◌, ◌<◌, zero-le}
use native.Mathlib.Omega.{arith}
use lib.ListN.{length, get_or, take, drop, replicate, length-append, length-drop}
use lib.ListN.{length-take, length-replicate}
use lib.Seq.{take-length, take_at, length-take-le}
use borrow.Author.Tests.{eq-eqb, ne_eqb}
use lib.Dec.{eqb}
use Rattle.std.specs.Bool.{MatchBool}
use Rattle.std.specs.List.{AllWithin, HoldsAt}
use Rattle.blocks.specs.Blocks.{clear}

clear_zeros : (octets : List ℕ) → AllWithin (λ o. o ≡ 0) octets 0 (length octets) → clear octets ≡ true
unfolding clear
clear_zeros [] h = refl
clear_zeros (o ∷ octets) h =
    ap₂ ◌&&◌ (eq-eqb o 0 (h 0 0 zero-le (omega arith))) (clear_zeros octets (λ k d a l. h (suc k) d zero-le (omega arith)))

clear_not : (octets : List ℕ) (k : ℕ) → k < length octets → (get_or octets k 0 ≡ 0 → ⊥) → clear octets ≡ false
unfolding clear
clear_not [] k l d = absurd (omega arith)
clear_not (o ∷ octets) zero l d = ap (λ b. b && clear octets) (ne_eqb o 0 d)
clear_not (o ∷ octets) (suc k) l d = ap (λ b. eqb o 0 && b) (clear_not octets k (omega arith) d) ∙ and-false (eqb o 0)

-- all of them are zeros, or one is not
pub clear_cases : (octets : List ℕ) (r : Bool)
    → MatchBool r (AllWithin (λ o. o ≡ 0) octets 0 (length octets)) ((k : ℕ) × (k < length octets) × HoldsAt (λ o. o ≡ 0 → ⊥) octets k)
    → r ≡ clear octets
clear_cases octets true h = sym (clear_zeros octets h)
clear_cases octets false h = sym (clear_not octets h.0 h.1 (h.2 0))

-- what stands in front, and a part that is put behind it
pub placed : (xs ys done : List ℕ) (a k : ℕ) → length done ≡ a → length ys ≡ k → take a xs ≡ done
    → take (a + k) (take a xs ++ (ys ++ drop k (drop a xs))) ≡ done ++ ys
placed xs ys done a k e f g =
    ap (λ l. take (a + k) (l ++ (ys ++ drop k (drop a xs)))) g
    ∙ ap (take (a + k)) (sym (append_assoc done ys (drop k (drop a xs))))
    ∙ take_at (done ++ ys) (drop k (drop a xs)) (a + k) (length-append done ys ∙ ap₂ (λ x y. x + y) e f)

-- a list that is filled to its end
pub filled : (xs done : List ℕ) (n : ℕ) → length xs ≡ n → take n xs ≡ done → xs ≡ done
filled xs done n e f = sym (take-length xs) ∙ ap (λ z. take z xs) e ∙ f

-- ---- a list that is written part by part

-- the list with a part put in place of the k elements from a on
abbrev pub put : ℕ → ℕ → List ℕ → List ℕ → List ℕ
put a k xs ys = take a xs ++ (ys ++ drop k (drop a xs))

pub first_part : (xs ys : List ℕ) (p : ℕ) → length ys ≡ p → take p (ys ++ drop p xs) ≡ ys
first_part xs ys p e = take_at ys (drop p xs) p e

pub first_length : (xs ys : List ℕ) (p : ℕ) → length ys ≡ p → p ≤ length xs → length (ys ++ drop p xs) ≡ length xs
first_length xs ys p e h = length-append ys (drop p xs) ∙ omega (arith, length-drop p xs)

pub put_length : (xs ys : List ℕ) (a k : ℕ) → length ys ≡ k → a + k ≤ length xs → length (put a k xs ys) ≡ length xs
put_length xs ys a k e h =
    length-append (take a xs) (ys ++ drop k (drop a xs))
    ∙ omega (arith, length-take-le a xs (omega arith), length-append ys (drop k (drop a xs)), length-drop k (drop a xs), length-drop a xs)

pub last_part : (xs ys done : List ℕ) (a : ℕ) → length done ≡ a → take a xs ≡ done → a + length ys ≡ length xs
    → put a (length xs - a) xs ys ≡ done ++ ys
last_part xs ys done a e f g =
    ap (λ k. put a k xs ys) same
    ∙ filled (put a (length ys) xs ys) (done ++ ys) (a + length ys) (put_length xs ys a (length ys) refl (omega arith) ∙ sym g)
    (placed xs ys done a (length ys) e refl f)
  where
    same : length xs - a ≡ length ys
    same = omega arith

-- two parts, one after the other
pub both_put : (o A B : List ℕ) (p : ℕ) → length A ≡ p → p + length B ≡ length o
    → put p (length (A ++ drop p o) - p) (A ++ drop p o) B ≡ A ++ B
both_put o A B p a h = last_part (A ++ drop p o) B A p a (first_part o A p a) (h ∙ sym (first_length o A p a (omega arith)))

-- the room behind the first
pub room_behind : (o A : List ℕ) (p : ℕ) → length A ≡ p → p ≤ length o
    → length (take (length (A ++ drop p o) - p) (drop p (A ++ drop p o))) ≡ length o - p
room_behind o A p a h =
    length-take (length (A ++ drop p o) - p) (drop p (A ++ drop p o))
    ∙ omega (arith, first_length o A p a h, length-drop p (A ++ drop p o))

-- octets in front and zeros behind them
pub data_put : (o used D Z : List ℕ) → length used ≤ length o → D ≡ used
    → Z ≡ replicate (length (take (length (D ++ drop (length used) o) - length used) (drop (length used) (D ++ drop (length used) o)))) 0
    → put (length used) (length (D ++ drop (length used) o) - length used) (D ++ drop (length used) o) Z ≡ used ++ replicate
    (length o - length used) 0
data_put o used D Z h e z =
    both_put o D Z n d (omega (arith, zeros)) ∙ ap₂ (λ x y. x ++ y) e (z ∙ ap (λ k. replicate k 0) room)
  where
    n : ℕ
    n = length used

    d : length D ≡ n
    d = ap length e

    room : length (take (length (D ++ drop n o) - n) (drop n (D ++ drop n o))) ≡ length o - n
    room = room_behind o D n d h

    zeros : length Z ≡ length o - n
    zeros = ap length z ∙ length-replicate {A = ℕ} _ 0 ∙ room
