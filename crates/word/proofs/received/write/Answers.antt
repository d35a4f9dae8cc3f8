-- `received::write`: trimmed where more is sent than there are bits, and sent from the first sent bit on. Assumes nothing.
use mathlib.Core.Path.{sym, ap, ◌∙◌}
use Prim.Native.Nat.{◌+◌, ◌*◌, ◌≤◌}
use native.Mathlib.Omega.{arith}
use lib.ListN.{length}
use Rattle.bits.specs.Bits.{octets}
use Rattle.vectors.specs.Vectors.{wbit, from}
use Rattle.word.proofs.received.Handed.{written_trimmed, written_whole}
use Rattle.word.proofs.received.write.Goals as goal

pub returns-then-bits-out : goal.returns-then-bits-out
returns-then-bits-out c =
    λ k e f g.
    c.store.ensures
    ∙ ap (λ w. octets (length c.args.out.now) (from c.args.unsent w)) c.trim_word.ensures
    ∙ written_trimmed k c.args.unsent c.args.bits e f (wbit c.args.y.now) (length c.args.out.now) g c.requires.3

pub returns-else-bits-out : goal.returns-else-bits-out
returns-else-bits-out c =
    let h : 8 * length c.args.out.now + c.args.unsent ≤ c.args.bits = omega arith in
    λ k e f g.
    c.store-else-bits-out.ensures
    ∙ ap (λ u. octets (length c.args.out.now) (from u (wbit c.args.y.now))) (sym (c.requires.2 h))
    ∙ written_whole k c.args.unsent c.args.bits e f (wbit c.args.y.now) (length c.args.out.now) g (omega arith)
