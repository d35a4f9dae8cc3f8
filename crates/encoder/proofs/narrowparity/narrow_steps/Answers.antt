-- `narrowparity::narrow_steps` meets its contract: each size has its own list. Assumes nothing.
use mathlib.Core.Path.{◌≡◌, sym, ap}
use native.Mathlib.Omega.{arith}
use Rattle.encoder.specs.parityrows.Rows.{steps_of}
use Rattle.encoder.proofs.narrowparity.narrow_steps.Goals as goal

pub returns-in-16 : goal.returns-in-16
unfolding steps_of
returns-in-16 c = sym (ap steps_of c.in-16.is)

pub returns-in-32 : goal.returns-in-32
unfolding steps_of
returns-in-32 c = sym (ap steps_of c.in-32.is)

pub returns-in_default : goal.returns-in_default
unfolding steps_of
returns-in_default c =
    let last : c.args.size ≡ 64 = c.requires (λ e. omega arith) (λ e. omega arith) in
    sym (ap steps_of last)
