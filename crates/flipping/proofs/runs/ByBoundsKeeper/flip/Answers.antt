-- `ByBounds::flip`: the bit is flipped, and its checks with it. Assumes nothing.
use mathlib.Core.Path.{refl, sym, subst}
use Rattle.bits.specs.Bits.{flipped}
use Rattle.vectors.specs.Vectors.{wbit}
use Rattle.flipping.specs.runs.Passes.{KeptIn}
use Rattle.flipping.proofs.runs.ByBoundsKeeper.flip.Goals as goal

pub returns : goal.returns
returns c =
    let a = c.args in
    let s = a.self.now in
    let y = wbit a.y.now in
    let f = c.flip in (
      refl,
      c.flip_bit.ensures,
      λ k w.
          let v = w.kept_in in
          subst (λ q. KeptIn q s.from f.new.rows f.new.self.met k (flipped y a.bit)) (sym f.ensures.0) (record {
            table = v.table;
            fit = v.fit;
            lent = v.lent;
            laid_in = v.laid_in;
            some = v.some;
            begins = v.begins;
            unsent = v.unsent;
            kept = f.ensures.1 k v.table s.from y v.lent v.laid_in v.kept w.met_is;
          }),
    )
