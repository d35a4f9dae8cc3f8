-- `judging::some_set`: the ones of the bits, cut out. Assumes nothing.
use mathlib.Core.Path.{ap, ◌∙◌}
use lib.Dec.{ltb}
use Rattle.word.proofs.judging.Judging.{cut_count}
use borrow.Author.Rules.{rules}
use Rattle.word.proofs.judging.some_set.Goals as goal

pub returns : goal.returns
returns c =
    ap (ltb 0) (c.ones.ensures ∙ cut_count c.args.n _ _ _ c.cut.ensures (search rules))
