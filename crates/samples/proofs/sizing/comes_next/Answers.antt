-- `sizing::comes_next`: by the greatest score and the bit of that score that is ahead of all others. Assumes nothing.
use mathlib.Core.Path.{refl}
use native.Mathlib.Omega.{arith}
use Rattle.flipping.proofs.runs.Passing.{ends_stuck, ends_limit, goes_on}
use Rattle.magnitudes.specs.Patterns.{smaller}
use Rattle.magnitudes.specs.Sizes.{by_size}
use Rattle.samples.proofs.sizing.Sized.{sized_stuck, sized_flip, sized_left}
use Rattle.samples.proofs.sizing.Passes.{chosen_most, chosen_leads, chosen_stands}
use Rattle.samples.proofs.sizing.comes_next.Goals as goal

pub returns-then-best-le8 : goal.returns-then-best-le8
returns-then-best-le8 c =
    let a = c.args in
    let q = a.kept.now.bounds.places in
    let met = a.kept.now.bounds.met in
    let bits = a.kept.now.bits in
    let x = a.samples.now in
    let f = c.choose-best in
    let bit = f.result.bit in
    let top = f.result.score in (
      f.ensures.0,
      tt,
      λ k h y lent u fit g some was.
          let most = chosen_most k h q.shape lent fit q.starts q.counts g x y a.rows.now met bits was
          bit top f.ensures.2 in
          let leads = chosen_leads k h q.shape lent fit q.starts q.counts g x y a.rows.now met bits was
          bit top f.ensures.2 in
          let next = sized_stuck x lent u y bit top f.ensures.1 c.requires.1 most leads some c.if-best-le8.true in (
            chosen_stands k h q.shape lent fit q.starts q.counts g x y a.rows.now met bits was bit top
                f.ensures.2,
            record {
              goes = tt;
              fewer = tt;
              ends = λ w going. ends_stuck (by_size (smaller x) k) k q.shape a.limit w a.flips y _ going _ _ next;
            },
          ),
    )

pub returns-then-flips-limit : goal.returns-then-flips-limit
returns-then-flips-limit c =
    let a = c.args in
    let q = a.kept.now.bounds.places in
    let met = a.kept.now.bounds.met in
    let bits = a.kept.now.bits in
    let x = a.samples.now in
    let f = c.choose-best in
    let bit = f.result.bit in
    let top = f.result.score in (
      f.ensures.0,
      tt,
      λ k h y lent u fit g some was.
          let most = chosen_most k h q.shape lent fit q.starts q.counts g x y a.rows.now met bits was
          bit top f.ensures.2 in
          let leads = chosen_leads k h q.shape lent fit q.starts q.counts g x y a.rows.now met bits was
          bit top f.ensures.2 in
          let next = sized_flip x lent u y bit top f.ensures.1 c.requires.1 most leads some c.if-best-le8.false in (
            chosen_stands k h q.shape lent fit q.starts q.counts g x y a.rows.now met bits was bit top
                f.ensures.2,
            record {
              goes = tt;
              fewer = tt;
              ends = λ w going. ends_limit (by_size (smaller x) k) k q.shape a.limit w a.flips y _ going _ _ next c.if-flips-limit.true;
            },
          ),
    )

pub returns : goal.returns
returns c =
    let a = c.args in
    let q = a.kept.now.bounds.places in
    let met = a.kept.now.bounds.met in
    let bits = a.kept.now.bits in
    let x = a.samples.now in
    let f = c.choose-best in
    let bit = f.result.bit in
    let top = f.result.score in
    let more = c.if-flips-limit.false in
    let high = c.if-best-le8.false in (
      f.ensures.0,
      (f.ensures.1, omega (arith, more)),
      λ k h y lent u fit g some was.
          let most = chosen_most k h q.shape lent fit q.starts q.counts g x y a.rows.now met bits was
          bit top f.ensures.2 in
          let leads = chosen_leads k h q.shape lent fit q.starts q.counts g x y a.rows.now met bits was
          bit top f.ensures.2 in
          let next = sized_flip x lent u y bit top f.ensures.1 c.requires.1 most leads some high in (
            chosen_stands k h q.shape lent fit q.starts q.counts g x y a.rows.now met bits was bit top
                f.ensures.2,
            record {
              goes = λ w going. goes_on (by_size (smaller x) k) k q.shape a.limit w a.flips y _ going _ _ next (omega (arith, more))
                  _ _ refl refl;
              fewer = sized_left x lent u y bit top f.ensures.1 c.requires.1 most leads high;
              ends = tt;
            },
          ),
    )
