-- `quicknarrow::narrow_block`: the block doubled, and its two places. Assumes nothing.
use mathlib.Core.Path.{sym, ap, ap₂, ◌∙◌}
use mathlib.Core.Bool.{Bool, ◌&&◌}
use Prim.Native.Nat.{◌+◌, ◌*◌}
use native.Mathlib.Omega.{arith}
use lib.Dec.{ltb}
use Rattle.bits.specs.Bits.{Word, ◌⊕◌}
use Rattle.layout.specs.Lent.{place_of}
use Rattle.layout.proofs.Lending.{read_any}
use Rattle.syndromes.proofs.Bounds.{place_room}
use Rattle.vectors.specs.Vectors.{wbit, Holds, up_to, from}
use Rattle.vectors.proofs.Places.{digit_xor}
use Rattle.quick.specs.groups.Groups.{reached}
use Rattle.quick.proofs.groups.Groups.{placed_first, placed_second}
use Rattle.quick.proofs.lowest_narrow.narrow_block.Goals as goal

pub returns : goal.returns
returns c =
    let f = c.front-block in
    let w = c.window in
    let sh = c.args.parity.shape in
    let h = c.args.parity.places.now in
    let y = wbit c.args.y.now in
    let b = c.args.b in
    let r = c.args.r in
    let M = sh.size in
    let inside = place_room h sh c.args.parity.fit r b c.requires.2 c.requires.1 in
    let block : Holds f.result (up_to M (from (b * M) y)) =
    λ i hi. f.ensures i hi ∙ ap (λ (p : Bool). ltb i M && p) (w.ensures i hi) in
    let twin = c.double_word-d.ensures (from (b * M) y) block in
    λ i hi.
    digit_xor 64 c.narrow_entry.result c.narrow_entry-2.result i
    ∙ ap₂ ◌⊕◌
    (c.narrow_entry.ensures y (b * M) twin i hi
    ∙ ap (λ z. reached M y (b * M) z i) (read_any h (place_of sh r b) 0 M (omega (arith, inside.0)))
    ∙ sym (ap (λ (v : Word). v i) (placed_first sh h y r b)))
    (c.narrow_entry-2.ensures y (b * M) twin i hi
    ∙ ap (λ z. reached M y (b * M) z i) (read_any h (place_of sh r b + 1) 0 M inside.0)
    ∙ sym (ap (λ (v : Word). v i) (placed_second sh h y r b)))
