-- `syndromes::syndrome` meets its contract: every block is added to every row, and the rows are trimmed. Assumes nothing.
use mathlib.Core.Path.{ap, ◌∙◌}
use Rattle.vectors.specs.Vectors.{wbit}
use Rattle.syndromes.specs.Rows.{within, wide, summed}
use Rattle.syndromes.proofs.Bounds.{wide_some}
use Rattle.syndromes.proofs.Trimming.{within_rowed}
use Rattle.syndromes.proofs.Laid.{laid_summed}
use Rattle.syndromes.proofs.syndrome.Goals as goal

pub returns : goal.returns
returns c code lent =
    let a = c.args in
    let h = a.parity.places.now in
    let sh = a.parity.shape in
    let fit = a.parity.fit in
    let w = wide sh in
    let y = wbit a.y.now in
    c.trim_rows.ensures
    ∙ ap (within w sh.size sh.rows) c.add_all.ensures
    ∙ within_rowed w sh.size sh.rows (wide_some h sh fit) (summed sh h y sh.blocks)
    ∙ laid_summed h sh fit code lent y
