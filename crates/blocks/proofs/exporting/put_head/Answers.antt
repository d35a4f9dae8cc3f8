-- `exporting::put_head`: the number and the count. Assumes nothing.
use mathlib.Core.Path.{ap, ap₂, ◌∙◌}
use mathlib.Core.List.{◌++◌}
use native.Mathlib.Omega.{arith}
use lib.ListN.{length}
use Rattle.blocks.proofs.Lists.{both_put}
use Rattle.blocks.proofs.exporting.put_head.Goals as goal

pub returns : goal.returns
returns c =
    let second = c.copy_from_slice-2 in
    let first = c.copy_from_slice in
    let front = first.ensures.after ∙ c.to_be_bytes.ensures in
    let back = second.ensures.after ∙ c.to_be_bytes-2.ensures in
    both_put c.args.out.now first.new.self second.new.self 4 (ap length front) (omega (arith, ap length back))
    ∙ ap₂ (λ x y. x ++ y) front back
