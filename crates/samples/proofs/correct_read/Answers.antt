-- `samples::correct_read`: a run that is not refused is written. Assumes nothing.
use native.Mathlib.Omega.{arith}
use Rattle.rules.specs.Codes.{code}
use Rattle.catalogue.proofs.offer.Offers.{small}
use Rattle.refusals.proofs.Admitted.{word_long, unsent_is, bits_are}
use Rattle.samples.proofs.Correcting.{wrote_word, wrote_none}
use Rattle.samples.proofs.correct_read.Goals as goal

pub write-requires : goal.write-requires
write-requires c =
    let long = c.requires.0 in
    let o = small c.args.sampled.code.known in
    (o.unsent, omega (arith, long, o.word), λ h. o.plain (omega (arith, h, long)), omega (arith, long, o.ends))

pub returns-then-r-eq0 : goal.returns-then-r-eq0
returns-then-r-eq0 c n off is =
    (c.run_read-r.ensures n off is).answers c.args.out.now _ (wrote_word _ _ _ _ c.if-r-eq0.true
    (c.write.ensures (code n) (unsent_is n is off) (bits_are n is off) (word_long n is off c.requires.0)))

pub returns-else-r-eq0 : goal.returns-else-r-eq0
returns-else-r-eq0 c n off is =
    (c.run_read-r.ensures n off is).answers c.args.out.now _ (wrote_none _ _ _ c.if-r-eq0.false)
