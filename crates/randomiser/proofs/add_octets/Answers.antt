-- `randomiser::add_octets`: what is done so far is randomised, and the rest is as it was. Assumes nothing.
use mathlib.Core.Path.{refl}
use Prim.Native.Nat.{◌+◌}
use native.Mathlib.Omega.{arith}
use lib.ListN.{get_or}
use borrow.Author.Rules.{rules}
use Rattle.randomiser.proofs.Randomising.{randomised_more}
use Rattle.randomiser.proofs.Parts.{all_done}
use Rattle.randomiser.specs.Randomiser.{randomised}
use Rattle.randomiser.proofs.add_octets.Goals as goal

pub loop-i-init : goal.loop-i-init
unfolding randomised
loop-i-init c = λ g used known. refl

pub loop-i-preserved : goal.loop-i-preserved
loop-i-preserved c =
    let h = c.loop-i in
    λ g used known. randomised_more g used c.args.octets.now h.octets h.i
    (get_or c.args.sequence.now (c.args.from + h.i) 0) (omega arith) (search rules)
    (h.invariant g used known)
    (known h.i (omega arith))

pub returns : goal.returns
returns c g used known =
    let h = c.loop-i in
    let a = c.args in
    all_done g used a.octets.now h.octets h.i (omega arith) (h.invariant g used known)
