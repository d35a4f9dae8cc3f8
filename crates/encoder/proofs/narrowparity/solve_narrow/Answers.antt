-- `narrowparity::solve_narrow` meets its contract: the steps, from the checks that the information breaks. Assumes nothing.
use mathlib.Core.Path.{refl, ap, ◌∙◌}
use Rattle.bits.specs.Bits.{bit}
use Rattle.rules.specs.Codes.{code}
use Rattle.encoder.specs.steps.Steps.{check_rows}
use Rattle.encoder.proofs.parityrows.Ready.{ready, start_held}
use Rattle.encoder.proofs.narrowparity.solve_narrow.Goals as goal

pub lay_narrow-requires : goal.lay_narrow-requires
lay_narrow-requires c = c.requires

pub walk_narrow-requires : goal.walk_narrow-requires
walk_narrow-requires c =
    let k = c.requires.0 in
    let ok = ready k.number k.offers c.args.sh k.is in
    (ok.fits, ap (λ z. z.words) c.requires.1, ok.inside, c.requires.2)

pub returns : goal.returns
returns c = λ n off is only.
    let a = c.args in
    let x = bit a.octets.now in
    c.walk_narrow.ensures (check_rows (code n) x)
    (c.lay_narrow.ensures n off is only ∙ start_held n refl (ready n off a.sh is) x)
