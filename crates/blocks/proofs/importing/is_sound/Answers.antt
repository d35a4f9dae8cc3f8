-- `importing::is_sound` meets its contract. Assumes nothing.
use mathlib.Core.Path.{◌≡◌, ap₂}
use Prim.Native.Nat.{◌+◌, ◌*◌}
use native.Mathlib.Omega.{arith}
use lib.Dec.{eqb}
use lib.ListN.{get_or, length-take}
use Rattle.blocks.specs.framecheck.FrameCheck.{sound}
use Rattle.blocks.proofs.importing.is_sound.Goals as goal

pub slice_bounds-over-end : goal.slice_bounds-over-end
slice_bounds-over-end c = simp length-take (omega arith)

pub returns : goal.returns
unfolding sound
returns c =
    let b = c.args.block.now in
    let said : c.from_be_bytes.result ≡ 256 * get_or b 510 0 + get_or b 511 0 = omega (arith, c.from_be_bytes.ensures) in
    ap₂ eqb c.over.ensures said
