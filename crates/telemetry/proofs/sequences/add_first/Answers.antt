-- `telemetry::add_first`: what is done so far is randomised, and the rest is as it was. Assumes nothing.
use mathlib.Core.Path.{◌≡◌, refl, ap, ap₂, ◌∙◌}
use mathlib.Core.List.{◌++◌}
use Prim.Native.Nat.{◌≤◌, ◌-◌, ◌+◌, ◌*◌}
use native.Mathlib.Omega.{arith}
use lib.ListN.{length, take, drop, length-take}
use borrow.Rule.Slice.PartMut.{put_mid}
use Rattle.bits.specs.Bits.{number}
use Rattle.randomiser.specs.Randomiser.{sequence_octet, randomised}
use Rattle.telemetry.specs.sequences.Telemetry.{telemetry}
use Rattle.telemetry.proofs.sequences.Sequence.{table_octet}
use Rattle.randomiser.proofs.Parts.{more_done, all_done}
use Rattle.telemetry.proofs.sequences.add_first.Goals as goal

pub loop-k-init : goal.loop-k-init
unfolding randomised
loop-k-init c = refl

pub add-requires : goal.add-requires
add-requires c =
    let h = c.loop-k in
    let at = 255 * h.k in
    omega (arith, length-take (at + 255 - at) (drop at h.word))

pub loop-k-preserved : goal.loop-k-preserved
unfolding number telemetry
loop-k-preserved c =
    let h = c.loop-k in
    let at = 255 * h.k in
    let o = c.args.word.now in
    let new = c.add.new.octets in
    let m : at + 255 - at ≡ 255 = omega arith in
    let none : at ≡ 0 + at = omega arith in
    let more : at + 255 ≤ length o = omega arith in
    let next : at + 255 ≡ 255 * (h.k + 1) = omega arith in
    let long : length (take (at + 255 - at) (drop at h.word)) ≤ 255 = omega (arith, length-take (at + 255 - at) (drop at h.word)) in
    ap (λ z. put_mid at z h.word new) m
    ∙ more_done telemetry 0 o h.word new at 255 more h.invariant
    (c.add.ensures telemetry at (λ i l.
    let e : h.k * 255 + (0 + i) ≡ at + i = omega arith in table_octet h.k (0 + i) (omega arith) ∙ ap (sequence_octet telemetry) e)
    ∙ ap₂ (λ n z. randomised telemetry n (take z (drop at h.word))) none m)
    ∙ ap (λ z. randomised telemetry 0 (take z o) ++ drop z o) next

pub returns : goal.returns
returns c =
    let h = c.loop-k in
    all_done telemetry 0 c.args.word.now h.word (255 * h.k) (omega arith) h.invariant
