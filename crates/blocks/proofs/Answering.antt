-- The answers, one case after another.
use mathlib.Core.Path.{◌≡◌, sym, subst}
use mathlib.Core.Bool.{true, false}
use mathlib.Core.List.{List}
use Prim.Native.Nat.{ℕ, ◌*◌, ◌/◌, ◌%◌, ◌≤◌}
use native.Mathlib.Omega.{arith}
use lib.Dec.{T, eqb, leb, ltb, eqb→eq, leb→le}
use lib.ListN.{length}
use Rattle.bits.proofs.Sums.{and_l, and_r}
use Rattle.blocks.specs.Blocks.{blocks_for, exported, export_answer, first_fault_of, imported, whole_blocks, import_answer, import_room}

module _ (octets out : List ℕ) where
  pub export_many : ltb 64512 (length octets) ≡ true → export_answer octets out ≡ record { number = 20; out = out }
  unfolding export_answer
  export_many m = simp m

  pub export_room_lem : ltb 64512 (length octets) ≡ false → eqb (length out) (512 * blocks_for (length octets)) ≡ false
      → export_answer octets out ≡ record { number = 3; out = out }
  unfolding export_answer
  export_room_lem m r = simp (m, r)

  pub export_done : ltb 64512 (length octets) ≡ false → eqb (length out) (512 * blocks_for (length octets)) ≡ true
      → export_answer octets out ≡ record { number = 0; out = exported (blocks_for (length octets)) 0 octets }
  unfolding export_answer
  export_done m r = simp (m, r)

pub whole_is : (long : ℕ) → whole_blocks long ≡ true → (long ≡ 512 * (long / 512)) × (long / 512 ≤ 128)
whole_is long e = (
  omega (arith, eqb→eq (long % 512) 0 (and_l (eqb (long % 512) 0) (leb (long / 512) 128) (subst T (sym e) tt))),
  leb→le (long / 512) 128 (and_r (eqb (long % 512) 0) (leb (long / 512) 128) (subst T (sym e) tt)),
)

module _ (octets out : List ℕ) where
  abbrev n : ℕ
  n = length octets / 512

  pub import_whole : whole_blocks (length octets) ≡ false → import_answer octets out ≡ record { number = 20; block = 0; out = out }
  unfolding import_answer
  import_whole w = simp w

  pub import_fault : whole_blocks (length octets) ≡ true → eqb (first_fault_of n 0 octets).number 0 ≡ false
      → import_answer octets out ≡ record {
        number = (first_fault_of n 0 octets).number;
        block = (first_fault_of n 0 octets).block;
        out = out;
      }
  unfolding import_answer
  import_fault w f = simp (w, f)

  pub import_room_lem : whole_blocks (length octets) ≡ true → eqb (first_fault_of n 0 octets).number 0 ≡ true
      → eqb (length out) (length (imported n octets)) ≡ false
      → import_answer octets out ≡ record { number = 3; block = 0; out = out }
  unfolding import_answer
  import_room_lem w f r = simp (w, f, r)

  pub import_done : whole_blocks (length octets) ≡ true → eqb (first_fault_of n 0 octets).number 0 ≡ true
      → eqb (length out) (length (imported n octets)) ≡ true
      → import_answer octets out ≡ record { number = 0; block = 0; out = imported n octets }
  unfolding import_answer
  import_done w f r = simp (w, f, r)

module _ (octets : List ℕ) where
  pub room_whole : whole_blocks (length octets) ≡ false → import_room octets ≡ 0
  unfolding import_room
  room_whole w = simp w

  pub room_fault : whole_blocks (length octets) ≡ true → eqb (first_fault_of (length octets / 512) 0 octets).number 0 ≡ false
      → import_room octets ≡ 0
  unfolding import_room
  room_fault w f = simp (w, f)

  pub room_done : whole_blocks (length octets) ≡ true → eqb (first_fault_of (length octets / 512) 0 octets).number 0 ≡ true
      → import_room octets ≡ length (imported (length octets / 512) octets)
  unfolding import_room
  room_done w f = simp (w, f)
