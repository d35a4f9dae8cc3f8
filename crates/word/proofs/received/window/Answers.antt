-- `received::window` meets its contract: eight octets, and of the next one the first bits. Assumes nothing.
use Rattle.word.proofs.received.Cutting.{across}
use Rattle.word.proofs.received.window.Goals as goal

pub returns : goal.returns
returns c =
    let a = c.args in
    let v = c.eight-v in
    across a.octets.now a.at a.t v.result c.leading.result c.funnel.result c.requires.0 v.ensures
    c.leading.ensures c.funnel.ensures
