-- `ties::Tables::place_own` meets its contract: a place with a shift has a one at one difference, any other at none.
use mathlib.Core.Path.{◌≡◌, sym, ap, ◌∙◌}
use Prim.Native.Nat.{ℕ, ◌+◌, ◌%◌}
use native.Mathlib.Omega.{arith}
use lib.Dec.{eqb}
use lib.ListN.{get_or}
use Rattle.identity.specs.ties.Flat.{own}
use Rattle.identity.proofs.ties.Sums.{over-one, over_none}
use Rattle.identity.proofs.ties.Tables.place_own.Goals as goal

pub returns-then-s-self : goal.returns-then-s-self
returns-then-s-self c =
    let a = c.args.self in
    let m = a.sizes.m in
    let s = get_or a.parity.now c.args.place 0 in
    let w : c.wide-s.result ≡ s = c.wide-s.ensures in
    ap (λ (t : ℕ). eqb t 0) (c.turned.ensures.0 ∙ ap (λ (x : ℕ). (c.args.d + x) % m) w)
    ∙ sym (over-one m (own m c.args.d) s (omega arith))

pub returns : goal.returns
returns c =
    let a = c.args.self in
    let m = a.sizes.m in
    sym (over_none m (own m c.args.d) (get_or a.parity.now c.args.place 0) (omega arith))
