-- `sizing::pass`: the bit is flipped in the word, and what is kept follows while a check is broken. Assumes nothing.
use mathlib.Core.Path.{refl}
use Rattle.vectors.specs.Vectors.{wbit}
use Rattle.samples.proofs.sizing.pass.Goals as goal

pub returns-then-left-gt0 : goal.returns-then-left-gt0
returns-then-left-gt0 c =
    let a = c.args in
    let f = c.flip.ensures in
    let t = c.flip_counted-now.ensures in (
      f.0,
      refl,
      t.0,
      t.1,
      t.2,
      λ k h lent g l was.
          let e = f.1 k h (wbit a.y.now) lent g was.twice in
          record { twice = e.0; knows = e.1 was.knows },
    )
