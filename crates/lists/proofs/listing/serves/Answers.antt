-- `listing::serves`: the limit, the bound on flips, or the count. Assumes nothing.
use mathlib.Core.Path.{sym, ap}
use native.Mathlib.Omega.{arith}
use lib.Dec.{leb}
use lib.ListN.{length}
use borrow.Author.Tests.{le-leb}
use Rattle.rules.specs.Codes.{code}
use Rattle.rules.specs.Flipping.{by_excess}
use Rattle.rules.proofs.Runs.{run_within}
use Rattle.flipping.specs.endings.Ends.{word_of, run_of}
use Rattle.lists.proofs.listing.serves.Goals as goal

pub returns-then-limit-places : goal.returns-then-limit-places
returns-then-limit-places c =
    λ n off is first.
    sym (le-leb (length (run_of n c.args.received.word.now c.args.limit).flips) c.args.places (omega (
      arith,
      c.if-limit-places.true,
      run_within
          (by_excess (code n)) c.args.limit (word_of n c.args.received.word.now),
    )))

pub returns-then-most_flips-places : goal.returns-then-most_flips-places
returns-then-most_flips-places c =
    λ n off is first.
    sym (le-leb (length (run_of n c.args.received.word.now c.args.limit).flips) c.args.places (omega (
      arith,
      c.if-most_flips-places.true,
      c.most_flips.ensures n off is (word_of n c.args.received.word.now) first
          c.args.limit,
    )))

pub returns : goal.returns
returns c =
    λ n off is first. ap (λ k. leb k c.args.places) (c.count_flips.ensures n off is)
