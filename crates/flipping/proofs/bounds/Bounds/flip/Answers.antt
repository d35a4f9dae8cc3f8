-- `Bounds::flip` meets its contract. Assumes nothing.
use mathlib.Core.Path.{refl}
use Rattle.flipping.proofs.bounds.Flipped.{kept_flip}
use Rattle.flipping.proofs.bounds.Bounds.flip.Goals as goal

pub returns : goal.returns
returns c =
    let s = c.args.self.now in
    let p = s.places in (
      refl,
      kept_flip p.shape p.starts p.counts s.met _ c.args.rows.now _ c.args.bit s.ready c.requires c.raise.ensures
          c.flip_checks.ensures,
    )
