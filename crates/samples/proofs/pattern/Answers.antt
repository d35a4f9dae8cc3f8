-- `samples::pattern`: what is a number has its own pattern. Assumes nothing.
use mathlib.Core.Path.{sym, subst}
use lib.Dec.{T}
use lib.Ieee.{binary32}
use lib.Ieee.Bits.{of_bits-to_bits}
use Rattle.samples.proofs.Loading.{is_number, is_none}
use Rattle.samples.proofs.pattern.Goals as goal

pub float_to_bits-result : goal.float_to_bits-result
float_to_bits-result c = is_number c.args.s c.if-s.true

pub returns-then-s : goal.returns-then-s
returns-then-s c = of_bits-to_bits binary32 c.args.s (subst T (sym c.well_formed.0.1) tt)

pub returns : goal.returns
returns c = is_none c.args.s c.if-s.false
