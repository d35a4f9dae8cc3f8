-- `ties::Tables::number_padded` meets its contract: a half of the first word, shifted by one place less.
use mathlib.Core.Path.{◌≡◌, sym, ap, ◌∙◌}
use Prim.Native.Nat.{ℕ, suc, ◌+◌, ◌-◌, ◌*◌, ◌/◌, ◌%◌, ◌^◌}
use native.Mathlib.Omega.{arith}
use lib.Dec.{eqb}
use lib.ListN.{get_or}
use lib.Pow.{shr-shr}
use Rattle.identity.specs.ties.Flat.{joined, words}
use Rattle.identity.proofs.ties.Numbers.{joined_front, below_power}
use Rattle.identity.proofs.ties.Tables.number_padded.Goals as goal

pub returns : goal.returns
returns c =
    let a = c.args.self in
    let m = a.sizes.m in
    let x = get_or a.generator.now c.args.at 0 in
    let w = (m - 1) / 64 in
    let e : 1 + (m - 1) % 64 ≡ m - w * 64 = omega arith in
    let n : suc w ≡ words m = omega arith in
    ap (λ (y : ℕ). eqb y 0)
    (shr-shr x 1 ((m - 1) % 64)
    ∙ ap (λ (y : ℕ). x / 2 ^ y) e
    ∙ sym (joined_front a.generator.now c.args.at (λ i. (c.shared_slice_known-1.given i).fits) w m (omega arith))
    ∙ ap (λ (y : ℕ). joined y a.generator.now c.args.at / 2 ^ m) n)
    ∙ below_power (joined (words m) a.generator.now c.args.at) m
