-- `vectors::last` meets its contract: the last few octets, or none. Assumes nothing.
use mathlib.Core.Path.{◌≡◌, ap, ◌∙◌}
use Prim.Native.Nat.{ℕ, ◌+◌, ◌-◌, ◌*◌, ◌/◌, ◌%◌}
use lib.ListN.{length}
use native.Mathlib.Omega.{arith}
use Rattle.bits.specs.Bits.{bit}
use Rattle.vectors.proofs.Octets.{short_group}
use Rattle.vectors.proofs.last.Goals as goal

pub returns : goal.returns
returns c =
    let o = c.args.octets.now in
    let n = length o % 8 in
    let e : 8 * (length o - n) ≡ 64 * (length o / 8) = omega arith in
    λ i hi.
    short_group o (length o - n) n c.gathered.result (omega arith) (omega arith) c.gathered.ensures i hi
    ∙ ap (λ (p : ℕ). bit o (p + i)) e
