-- `quicknarrow::narrow_entry`: the doubled block from the shift on. Assumes nothing.
use mathlib.Core.Path.{ap, ◌∙◌}
use Prim.Native.Nat.{◌+◌}
use native.Mathlib.Omega.{arith}
use Rattle.bits.specs.Bits.{Word}
use Rattle.quick.proofs.groups.Groups.{reached_none, reached_twice}
use Rattle.quick.proofs.lowest_narrow.narrow_entry.Goals as goal

pub returns-then-s-m : goal.returns-then-s-m
returns-then-s-m c x p e i hi =
    let a = c.args in
    c.funnel.ensures i (omega arith) ∙ ap (λ (w : Word). w (a.s + i)) e ∙ reached_twice a.m x p a.s i (omega arith) hi

pub returns : goal.returns
returns c x p e i hi =
    let a = c.args in
    reached_none a.m x p a.s i (omega arith)
