-- `ties::Sizes::turned` meets its contract: the sum is less than 2 m.
use mathlib.Core.Path.{◌≡◌, sym, ap, ◌∙◌}
use Prim.Native.Nat.{ℕ, ◌+◌, ◌-◌, ◌*◌, ◌%◌, ◌<◌}
use native.Mathlib.Nat.{mod-eq_of_lt}
use native.Mathlib.Omega.{arith}
use lib.Arith.{digits_mod}
use Rattle.identity.proofs.ties.Sizes.turned.Goals as goal

pub returns-then-t-self : goal.returns-then-t-self
returns-then-t-self c =
    let h : c.args.d + c.args.s < c.args.self.m = omega arith in
    (sym (mod-eq_of_lt h), h)

pub returns-else-t-self : goal.returns-else-t-self
returns-else-t-self c =
    let a = c.args in
    let t = a.d + a.s in
    let e : t ≡ 1 * a.self.m + (t - a.self.m) = omega arith in
    let l : t - a.self.m < a.self.m = omega arith in
    (sym (ap (λ (n : ℕ). n % a.self.m) e ∙ digits_mod 1 l), l)
