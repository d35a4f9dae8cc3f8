-- `ownparity::odd` meets its contract: the m bits are cut out, and their words added up. Assumes nothing.
use mathlib.Core.Path.{◌≡◌, ◌∙◌}
use native.Mathlib.Omega.{arith}
use lib.ListN.{length}
use borrow.Author.Rules.{rules}
use Rattle.vectors.specs.Vectors.{wbit, from}
use Rattle.word.proofs.ownparity.Words.{cut_odd}
use Rattle.word.proofs.ownparity.odd.Goals as goal

pub returns : goal.returns
returns c =
    let a = c.args in
    let cut = c.cut in
    let v = cut.new.v in
    let long : length v ≡ 8 = search rules in (
      c.odd_of.ensures.0,
      c.odd_of.ensures.1 ∙ cut_odd v a.m (from a.p (wbit a.y.now)) cut.ensures (omega arith),
    )
