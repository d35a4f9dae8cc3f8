-- Blocks as they are written.
use mathlib.Core.Path.{◌≡◌, refl, sym, ap, ap₂, ◌∙◌}
use mathlib.Core.List.{List, [], ◌∷◌, ◌++◌, append-nil, append_assoc}
use Prim.Native.Nat.{ℕ, zero, suc, min, ◌+◌, ◌-◌, ◌*◌, ◌/◌, ◌%◌, ◌≤◌, ◌<◌}
use native.Mathlib.Nat.{mod-eq_of_lt, suc-add, add-suc, add-zero, zero-add}
use native.Mathlib.Numerals.{add-one}
use native.Mathlib.Omega.{arith}
use lib.ListN.{length, take, drop, replicate, length-append, length-replicate, length-take, length-drop}
use lib.Seq.{drop-drop, take_all, length-take-le}
use mathlib.Core.Logic.{⊎_elim}
use Rattle.bits.proofs.Orders.{le-or-lt}
use Rattle.blocks.specs.framecheck.FrameCheck.{frame_check, framed}
use Rattle.blocks.proofs.framecheck.Frames.{check_lt}
use Rattle.blocks.specs.Blocks.{two, four, front, block, exported}
use Rattle.blocks.proofs.Lists.{put, placed, put_length, first_part, last_part, both_put, room_behind}

pub front_long : (place : ℕ) (used : List ℕ) → length used ≤ 504 → length (front place used) ≡ 510
front_long place used h = omega (
  arith,
  length-append used (replicate (504 - length used) 0),
  length-replicate {A = ℕ}
      (504 - length used) 0,
)

-- head and data
pub front_put : (o used H D : List ℕ) (place : ℕ) → length o ≡ 510 → length used ≤ 504 → H ≡ four place ++ two (length used)
    → D ≡ used ++ replicate (length (take (length (H ++ drop 6 o) - 6) (drop 6 (H ++ drop 6 o))) - length used) 0
    → put 6 (length (H ++ drop 6 o) - 6) (H ++ drop 6 o) D ≡ front place used
front_put o used H D place long few h d = both_put o H D 6 (ap length h) (omega (arith, laid_long)) ∙ ap₂ (λ x y. x ++ y) h laid
  where
    room : length (take (length (H ++ drop 6 o) - 6) (drop 6 (H ++ drop 6 o))) ≡ 504
    room = room_behind o H 6 (ap length h) (omega arith) ∙ omega arith

    laid : D ≡ used ++ replicate (504 - length used) 0
    laid = d ∙ ap (λ n. used ++ replicate (n - length used) 0) room

    laid_long : length D ≡ 504
    laid_long = ap length laid ∙ length-append used (replicate (504 - length used) 0)
        ∙ omega (arith, length-replicate {A = ℕ} (504 - length used) 0)

-- the check behind what it is made over
pub check_put : (o C : List ℕ) (check : ℕ) → length o ≡ 512 → check ≡ frame_check (take 510 o) → C ≡ two check
    → put 510 (length o - 510) o C ≡ framed (take 510 o)
check_put o C check long c e =
    last_part o C (take 510 o) 510 (length-take-le 510 o (omega arith)) refl (omega (arith, ap length e))
    ∙ ap (λ x. take 510 o ++ x) (e ∙ ap two c ∙ ap (λ z. z ∷ value % 256 ∷ []) (mod-eq_of_lt small))
  where
    value : ℕ
    value = frame_check (take 510 o)

    small : value / 256 < 256
    small = omega (arith, check_lt (take 510 o))

-- head, data and check
pub block_put : (o F b : List ℕ) (place : ℕ) (used : List ℕ) → length used ≤ 504 → F ≡ front place used
    → b ≡ framed (take 510 (F ++ drop 510 o)) → b ≡ block place used
unfolding block
block_put o F b place used few f e = e ∙ ap framed (first_part o F 510 (ap length f ∙ front_long place used few) ∙ f)

-- ---- block by block

pub block_long : (place : ℕ) (used : List ℕ) → length used ≤ 504 → length (block place used) ≡ 512
unfolding block
block_long place used h =
    length-append (front place used) _
    ∙ omega (arith, length-append used (replicate (504 - length used) 0), length-replicate {A = ℕ} (504 - length used) 0)

abbrev pub piece_at : ℕ → List ℕ → List ℕ
piece_at k octets = take 504 (drop (504 * k) octets)

pub piece_few : (k : ℕ) (octets : List ℕ) → length (piece_at k octets) ≤ 504
piece_few k octets = omega (arith, length-take 504 (drop (504 * k) octets))

pub exported_snoc : (k place : ℕ) (octets : List ℕ) → exported (suc k) place octets ≡ exported k place octets ++ block (place + k)
    (piece_at k octets)
unfolding exported
exported_snoc zero place octets = append-nil (block place (take 504 octets)) ∙ ap (λ z. block z (take 504 octets)) (sym (add-zero place))
exported_snoc (suc k) place octets =
    ap (λ x. block place (take 504 octets) ++ x)
    (exported_snoc k (suc place) (drop 504 octets)
    ∙ ap₂ (λ a l. exported k (suc place) (drop 504 octets) ++ block a (take 504 l)) (suc-add place k ∙ sym (add-suc place k))
    (drop-drop (504 * k) 504 octets ∙ ap (λ z. drop z octets) more))
    ∙ sym (append_assoc (block place (take 504 octets)) (exported k (suc place) (drop 504 octets))
    (block (place + suc k) (piece_at (suc k) octets)))
  where
    more : 504 + 504 * k ≡ 504 * suc k
    more = omega arith

pub exported_long : (k place : ℕ) (octets : List ℕ) → length (exported k place octets) ≡ 512 * k
unfolding exported
exported_long zero place octets = refl
exported_long (suc k) place octets =
    length-append (block place (take 504 octets)) (exported k (suc place) (drop 504 octets))
    ∙ omega (
      arith,
      block_long place (take 504 octets) (omega (arith, length-take 504 octets)),
      exported_long k (suc place)
          (drop 504 octets),
    )

-- the octets of a block as a range lends them
pub piece_range : (k e : ℕ) (octets : List ℕ) → k * 504 ≤ length octets → e ≡ k * 504 + 504 - (k * 504 + 504 - length octets)
    → take (e - k * 504) (drop (k * 504) octets) ≡ piece_at k octets
piece_range k e octets h is = ap₂ (λ a b. take a (drop b octets)) long at ∙ shorter (drop (504 * k) octets) left
  where
    at : k * 504 ≡ 504 * k
    at = omega arith

    n : ℕ
    n = length octets - k * 504

    left : length (drop (504 * k) octets) ≡ n
    left = length-drop (504 * k) octets ∙ omega arith

    long : e - k * 504 ≡ min 504 n
    long = omega arith

    least : 504 ≤ n → min 504 n ≡ 504
    least z = omega arith

    shorter : (l : List ℕ) → length l ≡ n → take (min 504 n) l ≡ take 504 l
    shorter l q = ⊎_elim (λ (z : 504 ≤ n). ap (λ w. take w l) (least z))
        (λ (z : n < 504). take_all (min 504 n) l (omega arith) ∙ sym (take_all 504 l (omega arith))) (le-or-lt 504 n)

-- one block more
module _ (octets out : List ℕ) (n k : ℕ) (h : k < n) (long : length out ≡ 512 * n) where
  pub block_room : length (take (k * 512 + 512 - k * 512) (drop (k * 512) out)) ≡ 512
  block_room = ap (λ z. length (take z (drop (k * 512) out))) wide
      ∙ length-take-le 512 (drop (k * 512) out) (omega (arith, length-drop (k * 512) out))
    where
      wide : k * 512 + 512 - k * 512 ≡ 512
      wide = omega arith

  module _ (B : List ℕ) (e : B ≡ block k (piece_at k octets)) where
    B-long : length B ≡ 512
    B-long = ap length e ∙ block_long k (piece_at k octets) (piece_few k octets)

    wide : k * 512 + 512 - k * 512 ≡ 512
    wide = omega arith

    pub still_long : length (put (k * 512) (k * 512 + 512 - k * 512) out B) ≡ 512 * n
    still_long = ap (λ z. length (put (k * 512) z out B)) wide ∙ put_length out B (k * 512) 512 B-long (omega arith) ∙ long

    pub blocks_more : take (512 * k) out ≡ exported k 0 octets
        → take (512 * (k + 1)) (put (k * 512) (k * 512 + 512 - k * 512) out B) ≡ exported (k + 1) 0 octets
    blocks_more so_far =
        ap₂ (λ a z. take a (put (k * 512) z out B)) past wide
        ∙ placed out B (exported k 0 octets) (k * 512) 512 (exported_long k 0 octets ∙ sym at) B-long (ap (λ z. take z out) at ∙ so_far)
        ∙ ap (λ x. exported k 0 octets ++ x) (e ∙ ap (λ z. block z (piece_at k octets)) (sym (zero-add k)))
        ∙ sym (ap (λ z. exported z 0 octets) (add-one k) ∙ exported_snoc k 0 octets)
      where
        at : k * 512 ≡ 512 * k
        at = omega arith

        past : 512 * (k + 1) ≡ k * 512 + 512
        past = omega arith
