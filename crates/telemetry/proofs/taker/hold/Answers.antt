-- `taker::hold`: the octets stand in their places. Assumes nothing.
use mathlib.Core.Path.{refl, sym, ap, ◌∙◌}
use mathlib.Core.List.{◌++◌}
use Prim.Native.Nat.{◌-◌, ◌+◌}
use native.Mathlib.Omega.{arith}
use lib.ListN.{length, take, drop}
use lib.Seq.{take-length}
use Rattle.std.proofs.lemmas.List.Edits.{sets-eq}
use Rattle.std.proofs.lemmas.Slice.{put_mid-paste}
use Rattle.telemetry.proofs.taker.hold.Goals as goal

pub returns : goal.returns
returns c =
    let a = c.args in
    let part = a.part.now in
    let o = a.octets.now in
    put_mid-paste a.held (a.held + length part - a.held) o c.copy_from_slice.new.self part (length part)
    c.copy_from_slice.ensures.after (omega arith) refl
    ∙ ap (λ z. take a.held o ++ z ++ drop (a.held + length part) o) (take-length part)
    ∙ sym (sets-eq part o a.held c.requires)
