-- `taker::jump`: only a search with nothing matched skips. Assumes nothing.
use mathlib.Core.Path.{sym, subst}
use Rattle.telemetry.specs.taker.Taking.{GoesOn}
use Rattle.telemetry.proofs.taker.jump.Goals as goal

pub returns-then-m-eq0 : goal.returns-then-m-eq0
returns-then-m-eq0 c =
    let a = c.args in
    record {
      lower_bound = c.skip.ensures.lower_bound;
      goes_on = subst (λ z. GoesOn a.part.now a.from z c.skip.result z) (sym c.if-m-eq0.true)
          c.skip.ensures.goes_on;
    }
