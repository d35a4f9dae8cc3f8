-- `ties::Tables::place_meets` meets its contract: a place with a shift adds one bit, any other none.
use mathlib.Core.Path.{◌≡◌, sym, ap, ◌∙◌}
use Prim.Native.Nat.{ℕ, ◌+◌, ◌%◌}
use native.Mathlib.Omega.{arith}
use lib.ListN.{get_or}
use Rattle.bits.specs.Bits.{digit}
use Rattle.identity.specs.ties.Flat.{joined, words, met}
use Rattle.identity.proofs.ties.Sums.{over-one, over_none}
use Rattle.identity.proofs.ties.Tables.place_meets.Goals as goal

pub returns-then-s-self : goal.returns-then-s-self
returns-then-s-self c =
    let a = c.args.self in
    let m = a.sizes.m in
    let s = get_or a.parity.now c.args.place 0 in
    let f = met m a.generator.now c.args.at c.args.d in
    let w : c.wide-s.result ≡ s = c.wide-s.ensures in
    c.bit_of.ensures
    ∙ ap (λ (t : ℕ). digit m (joined (words m) a.generator.now c.args.at) t) (c.turned.ensures.0
    ∙ ap (λ (x : ℕ). (c.args.d + x) % m) w)
    ∙ sym (over-one m f s (omega arith))

pub returns : goal.returns
returns c =
    let a = c.args.self in
    let m = a.sizes.m in
    sym (over_none m (met m a.generator.now c.args.at c.args.d) (get_or a.parity.now c.args.place 0) (omega arith))
