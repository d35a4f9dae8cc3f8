-- `endings::unlike_after`: as many as flips up to one, else those of the bits that are sent. Assumes nothing.
use mathlib.Core.Path.{◌∙◌}
use native.Mathlib.Omega.{arith}
use Rattle.bits.specs.Bits.{bit}
use Rattle.rules.specs.Codes.{code}
use Rattle.rules.proofs.Numbers.{published}
use Rattle.vectors.specs.Vectors.{wbit}
use Rattle.catalogue.proofs.offer.Offers.{small, is_offered}
use Rattle.refusals.proofs.Admitted.{unsent_is, bits_are}
use Rattle.flipping.proofs.endings.Counted.{sent_differ}
use Rattle.flipping.proofs.endings.unlike_after.Goals as goal

pub returns-then-flips-le1 : goal.returns-then-flips-le1
returns-then-flips-le1 c =
    λ n off is ends. omega (arith, c.if-flips-le1.true, ends.within, ends.even)

pub overflow_sub-o : goal.overflow_sub-o
overflow_sub-o c = omega (arith, (small c.args.received.code.known).sends)

pub unlike-requires : goal.unlike-requires
unlike-requires c =
    let f = small c.args.received.code.known in (
      omega (arith, f.fits, c.args.received.whole),
      omega (arith, f.full, c.args.received.whole),
      omega (arith, f.word, c.args.received.whole),
      omega (arith, f.bits),
      omega (arith, f.unsent),
    )

pub returns : goal.returns
returns c =
    λ n off is ends.
    c.unlike.ensures.0
    ∙ sent_differ (code n) c.args.received.code.offer.unsent c.args.received.code.offer.bits (unsent_is n is off) (bits_are n is off)
    (published n (is_offered n off)).some
    (bit c.args.received.word.now) (wbit c.args.y.now) ends.unsent
