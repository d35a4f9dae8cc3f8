-- `runs::run_bounded`: the state is made, and the run goes on from it. Assumes nothing.
use Rattle.vectors.specs.Vectors.{wbit}
use Rattle.flipping.proofs.runs.Passing.{begun_in}
use Rattle.flipping.proofs.runs.Sizes.{equal_runs}
use Rattle.flipping.proofs.runs.run_bounded.Goals as goal

pub go_on-requires : goal.go_on-requires
go_on-requires c =
    let a = c.args in
    let b = c.begin-bounds in
    let w = c.requires.2 in
    let k = w.begins in
    record {
      code = w.code;
      is = begun_in w.code a.parity.places.now a.parity.shape k.lent a.parity.fit a.from (wbit a.y.now) _ k.held b.result.places
          b.ensures.1 b.ensures.2 _ _ b.ensures.0 b.ensures.3 c.requires.0 c.requires.1 k.unsent;
      first_is = k.broken;
    }

pub returns : goal.returns
returns c k w =
    let a = c.args in
    let b = c.begin-bounds in
    let done = c.go_on.ensures k a.parity.shape
    (begun_in k a.parity.places.now a.parity.shape w.lent a.parity.fit a.from (wbit a.y.now) _ w.held b.result.places b.ensures.1
    b.ensures.2 _ _ b.ensures.0 b.ensures.3 c.requires.0 c.requires.1 w.unsent) w.broken in
    (equal_runs done.0, done.1)
