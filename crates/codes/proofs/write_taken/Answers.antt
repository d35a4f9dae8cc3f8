-- `codes::write_taken` meets its contract. Assumes nothing.
use native.Mathlib.Omega.{arith}
use Rattle.rules.specs.Codes.{code}
use Rattle.catalogue.proofs.offer.Offers.{small}
use Rattle.refusals.proofs.Admitted.{word_long, unsent_is, bits_are}
use Rattle.codes.proofs.Correcting.{wrote_word, wrote_none}
use Rattle.codes.proofs.write_taken.Goals as goal

pub write-requires : goal.write-requires
write-requires c = (
  (small c.args.code.known).unsent,
  omega (arith, c.requires, (small c.args.code.known).word),
  λ h. (small c.args.code.known).plain (omega (arith, h, c.requires)),
  omega (arith, c.requires, (small c.args.code.known).ends),
)

pub returns-then-number-eq0 : goal.returns-then-number-eq0
returns-then-number-eq0 c n off is =
    wrote_word _ _ _ _ c.if-number-eq0.true
    (c.write.ensures (code n) (unsent_is n is off) (bits_are n is off) (word_long n is off c.requires))

pub returns-else-number-eq0 : goal.returns-else-number-eq0
returns-else-number-eq0 c n off is = wrote_none _ _ _ c.if-number-eq0.false
