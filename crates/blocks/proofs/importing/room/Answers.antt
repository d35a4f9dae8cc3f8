-- `importing::room`: 504 octets for each block before the last. Assumes nothing.
use Prim.Native.Nat.{suc, ◌+◌, ◌-◌, ◌*◌}
use Rattle.blocks.proofs.Reading.{last_range, room_is}
use mathlib.Core.Path.{◌≡◌, sym, ap, ◌∙◌}
use native.Mathlib.Omega.{arith}
use lib.ListN.{length}
use Rattle.blocks.specs.Blocks.{imported, used_in}
use Rattle.blocks.proofs.importing.room.Goals as goal

pub returns-then-n-eq0 : goal.returns-then-n-eq0
unfolding imported
returns-then-n-eq0 c =
    let e : c.args.n ≡ 0 = omega arith in
    sym (ap (λ z. length (imported z c.args.blocks.now)) e)

pub returns : goal.returns
returns c =
    let m = c.args.n - 1 in
    let q : c.args.n ≡ suc m = omega arith in
    ap (λ z. 504 * m + z) (c.used.ensures.0 ∙ ap used_in (last_range c.args.n m c.args.blocks.now c.requires.0 q))
    ∙ room_is c.args.n c.args.blocks.now c.requires.0 c.requires.2 m q
