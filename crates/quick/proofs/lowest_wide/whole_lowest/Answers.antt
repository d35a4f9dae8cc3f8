-- `quickwide::whole_lowest`: the word laid out, its blocks doubled, and row after row. Assumes nothing.
use mathlib.Core.Path.{refl, subst}
use Rattle.bits.specs.Bits.{Word, bit}
use Rattle.rules.specs.Encoding.{lifted}
use Rattle.vectors.proofs.Filling.{zero_words}
use Rattle.quick.specs.groups.Groups.{Twofold}
use Rattle.quick.proofs.lowest_wide.whole_lowest.Goals as goal

pub take-requires : goal.take-requires
take-requires c = (refl, zero_words 130)

pub returns : goal.returns
returns c code lent e =
    let bits = c.take.ensures code e in
    let two = c.double_blocks in
    c.wide_rows_lowest.ensures code (lifted code (bit c.args.sent.octets.now)) lent
    (subst (λ (x : Word). Twofold c.args.parity.shape.blocks c.args.parity.shape.size x two.new.d) bits two.ensures)
