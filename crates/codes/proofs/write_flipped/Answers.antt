-- `codes::write_flipped` meets its contract. Assumes nothing.
use mathlib.Core.Path.{ap, ◌∙◌}
use native.Mathlib.Omega.{arith}
use Rattle.rules.specs.Codes.{code}
use Rattle.rules.specs.Encoding.{written}
use Rattle.catalogue.proofs.offer.Offers.{small}
use Rattle.refusals.proofs.Admitted.{word_long, unsent_is, bits_are}
use Rattle.codes.proofs.write_flipped.Goals as goal

pub write-requires : goal.write-requires
write-requires c = (
  (small c.args.code.known).unsent,
  omega (arith, c.requires.1, (small c.args.code.known).word),
  λ h. (small c.args.code.known).plain (omega (arith, h, c.requires.1)),
  omega (arith, c.requires.1, (small c.args.code.known).ends),
)

pub returns : goal.returns
returns c n off is =
    c.write.ensures (code n) (unsent_is n is off) (bits_are n is off) (word_long n is off c.requires.1)
    ∙ ap (written (code n)) c.flip_bit.ensures
