-- `framecheck::over`: what is taken so far, and the octets that are left, give the frame check. Assumes nothing.
use mathlib.Core.Path.{◌≡◌}
use Prim.Native.Nat.{◌<◌}
use lib.ListN.{drop}
use Rattle.blocks.specs.framecheck.FrameCheck.{frame_check}
use Rattle.blocks.proofs.framecheck.Registers.{check_from}
use Rattle.blocks.proofs.framecheck.over.Given as goal

abbrev pub invariant-loop-octet : goal.invariant-loop-octet
invariant-loop-octet l = (l.r < 65536) × (check_from l.r (drop l.octet-index l.octets) ≡ frame_check l.octets)
