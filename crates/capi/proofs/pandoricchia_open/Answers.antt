-- What `open` ensures, read at its two numbers and at the part's length.
use mathlib.Core.Path.{ap}
use lib.ListN.{length}
use Rattle.capi.proofs.pandoricchia_open.Goals as goal

pub returns : goal.returns
returns c =
    let e = c.open-opened.ensures in
    (ap (λ a. a.number) e, ap (λ a. a.lowest) e, ap (λ a. length a.part) e)
