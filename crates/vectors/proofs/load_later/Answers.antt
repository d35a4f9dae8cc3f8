-- `vectors::load_later` meets its contract: the words that the octets fill, and the two that have the rest. Assumes nothing.
use mathlib.Core.Path.{ap, ◌∙◌}
use Prim.Native.Nat.{◌+◌, ◌*◌, ◌/◌}
use native.Mathlib.Omega.{arith}
use lib.ListN.{length, set, length-set}
use Rattle.bits.specs.Bits.{bit}
use Rattle.vectors.specs.Vectors.{wbit, Holds, from, later}
use Rattle.vectors.proofs.Octets.{no_group, later_behind}
use Rattle.vectors.proofs.Filling.{word_stored}
use Rattle.vectors.proofs.Spans.{later_holds, later_next}
use Rattle.vectors.proofs.load_later.Goals as goal

pub returns : goal.returns
returns c =
    let a = c.args in
    let o = a.octets.now in
    let x = bit o in
    let u = a.u in
    let k = length o / 8 in
    let w = c.load_whole_later-before in
    let l = c.last-v in
    let r = c.funnel.result in
    let y = wbit a.ws.now in
    let ws = w.new.ws in
    let one = word_stored ws k (later u x) y w.ensures.1 r (omega arith)
    (later_holds w.result l.result k u r x c.requires.0 c.requires.1 w.ensures.0 l.ensures c.funnel.ensures) in
    let none : Holds 0 (from (64 * (k + 1)) x) =
    λ i hi. no_group o (8 * (k + 1)) (omega arith) i hi ∙ ap x (omega arith) in
    word_stored (set ws k r) (k + 1) (later u x) y one c.funnel-2.result (omega (arith, length-set ws k r))
    (later_holds l.result 0 (k + 1) u c.funnel-2.result x c.requires.0 c.requires.1 (later_next l.result k x l.ensures) none
    c.funnel-2.ensures)
    ∙ later_behind o a.ws.now (k + 1 + 1) u c.requires.3 (omega arith)
