-- What is at fault with some octets, and the answers by it.
use mathlib.Core.Path.{◌≡◌, refl, sym, ap, ◌∙◌, subst}
use mathlib.Core.Bool.{Bool, true, false}
use mathlib.Core.List.{List}
use Prim.Native.Nat.{ℕ, suc, ◌-◌, ◌*◌, ◌/◌, ◌≤◌, ◌<◌}
use native.Mathlib.Nat.{zero-add}
use native.Mathlib.Omega.{arith}
use lib.Dec.{T, eqb, eqb→eq}
use lib.ListN.{length}
use borrow.Author.Tests.{eq-eqb, ne_eqb}
use Rattle.std.specs.Prelude.{Option, Some, None}
use Rattle.bits.specs.Bits.{when◌then◌else◌}
use Rattle.blocks.specs.Blocks.{Fault, first_fault_of, whole_blocks, Imported, import_answer, import_room}
use Rattle.blocks.proofs.Reading.{block_at, with_fault, fault_stands}
use Rattle.blocks.proofs.Answering.{whole_is, import_whole, import_fault, room_whole, room_fault}
use Rattle.blocks.specs.importing.Answers.{found_in, place_of}

module _ (o : List ℕ) where
  abbrev n : ℕ
  n = length o / 512

  pub found_whole : whole_blocks (length o) ≡ false → found_in o ≡ record { number = 20; block = 0 }
  unfolding found_in
  found_whole w = simp w

  pub found_first : whole_blocks (length o) ≡ true → found_in o ≡ first_fault_of n 0 o
  unfolding found_in
  found_first w = simp w

  -- nothing at fault: whole blocks, and none of them at fault
  pub found_none : (found_in o).number ≡ 0 → (whole_blocks (length o) ≡ true) × ((first_fault_of n 0 o).number ≡ 0)
  found_none e = go (whole_blocks (length o)) refl
    where
      go : (t : Bool) → whole_blocks (length o) ≡ t → (whole_blocks (length o) ≡ true) × ((first_fault_of n 0 o).number ≡ 0)
      go true w = (w, sym (ap (λ (f : Fault). f.number) (found_first w)) ∙ e)
      go false w = absurd (omega (arith, e, ap (λ (f : Fault). f.number) (found_whole w)))

  -- the blocks, as what goes on with them is asked
  pub found_blocks : (found_in o).number ≡ 0 → (length o ≡ 512 * n) × (n ≤ 128) × ((first_fault_of n 0 o).number ≡ 0)
  found_blocks e =
      let f = found_none e in
      let i = whole_is (length o) f.0 in
      (i.0, i.1, f.1)

  pub import_found : (out : List ℕ) → ((found_in o).number ≡ 0 → ⊥)
      → import_answer o out ≡ record { number = (found_in o).number; block = (found_in o).block; out = out }
  import_found out d = go (whole_blocks (length o)) refl
    where
      with_out : Fault → Imported
      with_out f = record { number = f.number; block = f.block; out = out }

      go : (t : Bool) → whole_blocks (length o) ≡ t → import_answer o out ≡ with_out (found_in o)
      go true w = import_fault o out w (ne_eqb (first_fault_of n 0 o).number 0 (λ e. d (ap (λ (f : Fault). f.number) (found_first w) ∙ e)))
          ∙ sym (ap with_out (found_first w))
      go false w = import_whole o out w ∙ sym (ap with_out (found_whole w))

  pub room_found : ((found_in o).number ≡ 0 → ⊥) → import_room o ≡ 0
  room_found d = go (whole_blocks (length o)) refl
    where
      go : (t : Bool) → whole_blocks (length o) ≡ t → import_room o ≡ 0
      go true w = room_fault o w (ne_eqb (first_fault_of n 0 o).number 0 (λ e. d (ap (λ (f : Fault). f.number) (found_first w) ∙ e)))
      go false w = room_whole o w

-- ---- the place of a fault

abbrev code : Option ℕ → ℕ
code None = 0
code (Some k) = suc k

module _ (f : Fault) where
  nowhere : eqb f.number 0 ≡ true → place_of f ≡ None
  nowhere w = simp w

  pub somewhere : eqb f.number 0 ≡ false → place_of f ≡ Some f.block
  somewhere w = simp w

  pub place_none : None ≡ place_of f → f.number ≡ 0
  place_none e = go (eqb f.number 0) refl
    where
      go : (b : Bool) → eqb f.number 0 ≡ b → f.number ≡ 0
      go true w = eqb→eq f.number 0 (subst T (sym w) tt)
      go false w = let none : 0 ≡ suc f.block = ap code (e ∙ somewhere w) in absurd (omega arith)

  pub place_some : (k : ℕ) → Some k ≡ place_of f → (f.number ≡ 0 → ⊥) × (k ≡ f.block)
  place_some k e = go (eqb f.number 0) refl
    where
      as_number : Bool → ℕ
      as_number b = when b then 1 else 0

      go : (b : Bool) → eqb f.number 0 ≡ b → (f.number ≡ 0 → ⊥) × (k ≡ f.block)
      go true w = let some : suc k ≡ 0 = ap code (e ∙ nowhere w) in absurd (omega arith)
      go false w =
          let same : suc k ≡ suc f.block = ap code (e ∙ somewhere w) in (
            λ z. let both : 1 ≡ 0 = ap as_number (sym (eq-eqb f.number 0 z) ∙ w) in omega arith,
            omega arith,
          )

-- what is at fault with whole blocks, by its place
pub found_at : (o : List ℕ) (k : ℕ) → whole_blocks (length o) ≡ true → Some k ≡ place_of (found_in o)
    → (k < length o / 512) × (found_in o ≡ with_fault k (eqb (length o / 512 - suc k) 0) (block_at k o))
found_at o k w e =
    let n = length o / 512 in
    let f = found_first o w in
    let p = place_some (found_in o) k e in
    let s = fault_stands n 0 o (λ z. p.0 (ap (λ (r : Fault). r.number) f ∙ z)) in
    let same : k ≡ s.k = p.1 ∙ ap (λ (r : Fault). r.block) (f ∙ s.is) ∙ zero-add s.k in (
      omega (arith, same, s.inside),
      f ∙ s.is ∙ ap (λ z. with_fault z (eqb (n - suc s.k) 0) (block_at s.k o)) (zero-add s.k)
          ∙ ap (λ z. with_fault z (eqb (n - suc z) 0) (block_at z o)) (sym same),
    )
