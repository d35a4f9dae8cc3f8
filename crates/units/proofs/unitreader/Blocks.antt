-- What a block promises, whatever it is asked of: 32 octets, and all of them zeros where no information is handed out.
use mathlib.Core.Path.{◌≡◌, refl, ap, ◌∙◌}
use mathlib.Core.Bool.{Bool, true, false, not}
use mathlib.Core.List.{List, ◌++◌}
use Prim.Native.Nat.{ℕ, ◌+◌, ◌-◌, ◌≤◌}
use native.Mathlib.Omega.{arith}
use lib.Dec.{eqb, ltb}
use lib.ListN.{length, replicate, replicate-append-replicate, length-append, length-replicate}
use borrow.Author.Tests.{eqb-true}
use Rattle.bits.specs.Bits.{when◌then◌else◌}
use Rattle.rules.specs.Codes.{code}
use Rattle.answers.specs.Calls.{Corrected, refused_correct_of, correct_answer}
use Rattle.units.specs.unitrules.Units.{Reading, Handed, unit_code, blocks_in_of, with_out, received}
use Rattle.units.specs.unitrules.Units.{handed_out, handed_last_of, handed_again_of, reading_from}
use Rattle.units.specs.unitrules.Units.{read_next_of, read_answer}
use Rattle.units.proofs.readings.Answering.{read_length}
use Rattle.units.specs.unitreader.Named.{room_for, handed_at}

room_le : (n : ℕ) → room_for n ≤ 32
room_le n = go (eqb n 1)
  where
    go : (b : Bool) → (when b then 8 else 32) ≤ 32
    go true = omega arith
    go false = omega arith

-- an asking that is refused leaves the output as it was
refused_kept : (s : Reading) (unit out : List ℕ) → ((read_answer s unit out).corrected.number ≡ 0 → ⊥)
    → (read_answer s unit out).corrected.out ≡ out
unfolding read_answer read_next_of
refused_kept s unit out =
    pick (not (unit_code s.code)) (handed_again_of s (refused_correct_of out 1) false) _ (λ d. refl)
    (pick (not (eqb (length out) (code s.code).octets_of_information)) (handed_again_of s (refused_correct_of out 3) false) _ (λ d. refl)
    (pick (not (eqb s.kept.number 0)) (handed_again_of s (with_out s.kept out) false) _ (λ d. refl)
    (pick (not (ltb s.place (blocks_in_of s.code unit))) (handed_again_of s (refused_correct_of out 0) true) _ (λ d. refl)
    (next (eqb r.number 0) refl))))
  where
    r : Corrected
    r = correct_answer s.code (received s.code unit s.place) s.limit (replicate (code s.code).octets_of_word 0)

    Kept : Handed → Type 0
    Kept h = (h.corrected.number ≡ 0 → ⊥) → h.corrected.out ≡ out

    pick : (b : Bool) (x y : Handed) → Kept x → Kept y → Kept (when b then x else y)
    pick true x y p q = p
    pick false x y p q = q

    next : (b : Bool) → eqb r.number 0 ≡ b → Kept (when b then handed_out s r else handed_last_of s r out)
    next true e = λ d. absurd (d (eqb-true r.number 0 e))
    next false e = λ d. refl

module _ (unit : List ℕ) (place n limit : ℕ) where
  pub handed_long : length (handed_at unit place n limit).corrected.out ≡ 32
  handed_long =
      let out = (read_answer (reading_from 0 n limit place) unit (replicate (room_for n) 0)).corrected.out in
      omega (
        arith,
        room_le n,
        length-append out (replicate (32 - room_for n) 0),
        length-replicate {A = ℕ} (32 - room_for n) 0,
        read_length (reading_from 0 n limit place) unit (replicate (room_for n) 0),
        length-replicate {A = ℕ} (room_for n) 0,
      )

  pub refused_zeros : ((handed_at unit place n limit).corrected.number ≡ 0 → ⊥)
      → (handed_at unit place n limit).corrected.out ≡ replicate 32 0
  refused_zeros d =
      ap (λ z. z ++ replicate (32 - room_for n) 0) (refused_kept (reading_from 0 n limit place) unit (replicate (room_for n) 0) d)
      ∙ replicate-append-replicate (room_for n) (32 - room_for n) 0
      ∙ (let e : room_for n + (32 - room_for n) ≡ 32 = omega (arith, room_le n) in ap (λ z. replicate z 0) e)
