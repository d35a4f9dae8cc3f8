-- `framecheck::over`: what is taken so far, and the octets that are left, give the frame check. Assumes nothing.
use mathlib.Core.Path.{◌≡◌, refl, sym, ap, ◌∙◌}
use Prim.Native.Nat.{ℕ, ◌+◌, ◌*◌, ◌/◌, ◌%◌, ◌^◌, ◌<◌}
use lib.Bits.{bit_xor, xor_lt}
use lib.Dec.{lit<}
use lib.ListN.{get_or, drop}
use native.Mathlib.Omega.{arith}
use borrow.Author.Rules.{rules}
use Rattle.blocks.proofs.framecheck.Registers.{check_from, check_starts, check_step, check_ends, index-lt}
use Rattle.blocks.proofs.framecheck.over.Goals as goal
use Rattle.blocks.proofs.framecheck.over.Goals.{In-loop-octet}

pub loop-octet-init : goal.loop-octet-init
loop-octet-init c = (lit< tt, check_starts c.args.octets.now)

pub offset_bounds-t-r : goal.offset_bounds-t-r
offset_bounds-t-r c =
    let small : c.from.result < 256 = search rules in
    omega (arith, index-lt c.loop-octet.r c.from.result (omega arith) small)

pub bounds-t-r : goal.bounds-t-r
bounds-t-r c =
    let small : c.from.result < 256 = search rules in
    index-lt c.loop-octet.r c.from.result (omega arith) small

-- What is shifted out of 16 bits.
shifted : (r : ℕ) → r * 2 ^ 8 % 2 ^ 16 ≡ (r % 256) * 256
shifted r = omega arith

pub loop-octet-preserved : goal.loop-octet-preserved
loop-octet-preserved c =
    let h = c.loop-octet in
    let octets = c.args.octets.now in
    let t = c.args.t.now in
    let entry = get_or t.entries (bit_xor (h.r / 256) c.from.result) 0 in
    let small : c.from.result < 256 = search rules in (
      xor_lt 16 (h.r * 2 ^ 8 % 2 ^ 16) _ (omega arith) (search rules),
      ap (λ z. check_from (bit_xor z entry) (drop (h.octet-index + 1) octets)) (shifted h.r)
          ∙ check_step octets t.entries h.r h.octet-index _ _ t.right c.loop-octet-test.true h.invariant.0 small c.from.ensures refl
          ∙ h.invariant.1,
    )

pub returns : goal.returns
returns c =
    let h = c.loop-octet in
    sym (check_ends c.args.octets.now h.r h.octet-index c.loop-octet-test.false h.invariant.0) ∙ h.invariant.1
