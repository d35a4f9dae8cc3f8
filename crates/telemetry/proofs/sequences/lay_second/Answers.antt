-- `telemetry::lay_second`: the start laid, then the others. Assumes nothing.
use mathlib.Core.Path.{ap, ◌∙◌}
use native.Mathlib.Omega.{arith}
use lib.ListN.{length, get_or}
use Rattle.std.proofs.Math.ListN.{get_or-append}
use Rattle.bits.specs.Bits.{number}
use Rattle.telemetry.specs.sequences.Telemetry.{second}
use Rattle.telemetry.proofs.sequences.Second.{start_octet}
use Rattle.telemetry.proofs.sequences.lay_second.Goals as goal

--? slice-aggregate-lay : tie.Need-slice-aggregate-lay
--? slice-aggregate-lay c = search rules

pub extend-requires : goal.extend-requires
unfolding number second
extend-requires c =
    let l = c.copy_from_slice in (
      omega arith,
      λ i h.
          get_or-append l.new.self _ 0 i (omega (arith, h, ap length l.ensures.after)) ∙ ap (λ z. get_or z i 0) l.ensures.after
          ∙ start_octet i h,
    )

pub returns : goal.returns
returns c = λ i h. c.extend.ensures i (omega arith)
