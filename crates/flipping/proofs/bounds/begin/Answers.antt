-- `bounds::begin` meets its contract: what is gathered is ready, and no met check is counted on. Assumes nothing.
use mathlib.Core.Path.{refl, sym, subst}
use native.Mathlib.Omega.{arith}
use Rattle.bits.proofs.Octets.{zeros_at}
use Rattle.layout.specs.Lent.{Fit}
use Rattle.flipping.proofs.bounds.Flipped.{ready}
use Rattle.flipping.proofs.bounds.begin.Goals as goal

pub invariant_of-bounds : goal.invariant_of-bounds
invariant_of-bounds c =
    let g = c.gather.ensures in
    record {
      ready = ready (subst (Fit c.args.parity.places.now) (sym g.0) c.args.parity.fit) g.3 g.1 g.2 refl
          (λ b hb. omega (arith, zeros_at 16 b));
    }
