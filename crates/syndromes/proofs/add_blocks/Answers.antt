-- `syndromes::add_blocks` meets its contract: after b passes the rows have the first b blocks. Assumes nothing.
use mathlib.Core.Path.{ap, ◌∙◌}
use Rattle.bits.specs.Bits.{Word}
use Rattle.vectors.specs.Vectors.{wbit}
use Rattle.syndromes.specs.Rows.{plus, doubled, turned, block_rows}
use Rattle.syndromes.proofs.Laid.{summed_none, summed_more}
use Rattle.syndromes.proofs.add_blocks.Goals as goal

pub loop-b-init : goal.loop-b-init
loop-b-init c =
    let a = c.args in
    let pre = c.requires in
    pre.2 ∙ summed_none a.parity.places.now a.parity.shape a.parity.fit (wbit a.y.now)

pub loop-b-preserved : goal.loop-b-preserved
loop-b-preserved c =
    let a = c.args in
    let l = c.loop-b in
    let sh = a.parity.shape in
    let h = a.parity.places.now in
    c.add_wide_block.ensures
    ∙ ap (λ (x : Word). plus x (block_rows a.parity l.b (turned (doubled sh.size (wbit a.y.now) l.b)))) l.invariant
    ∙ summed_more h sh a.parity.fit (wbit a.y.now) l.b
