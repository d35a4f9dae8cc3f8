-- `ties::Tables::bit_of` meets its contract: the bit is at place m - 1 - t, counted from the least significant.
use mathlib.Core.Path.{◌≡◌, sym, ap, ◌∙◌}
use Prim.Native.Nat.{ℕ, ◌+◌, ◌-◌, ◌/◌, ◌%◌, ◌^◌, suc}
use native.Mathlib.Omega.{arith}
use lib.Dec.{eqb}
use lib.ListN.{get_or}
use Rattle.identity.specs.ties.Flat.{joined, words}
use Rattle.identity.proofs.ties.Numbers.{joined_place}
use Rattle.identity.proofs.ties.Tables.bit_of.Goals as goal

pub returns : goal.returns
returns c =
    let a = c.args.self in
    let m = a.sizes.m in
    let k = m - 1 - c.args.t in
    let w = words m in
    let p : m - suc c.args.t ≡ k = omega arith in
    let q : c.args.at + (w - 1) - k / 64 ≡ c.args.at + (m - 1) / 64 - k / 64 = omega arith in
    sym
    (ap (λ (n : ℕ). eqb (joined w a.generator.now c.args.at / 2 ^ n % 2) 1) p
    ∙ ap (λ (n : ℕ). eqb n 1) (joined_place a.generator.now c.args.at (λ i. (c.shared_slice_known-1.given i).fits) w k (omega arith))
    ∙ ap (λ (n : ℕ). eqb (get_or a.generator.now n 0 / 2 ^ (k % 64) % 2) 1) q)
