-- `vectors::load` meets its contract: the words that the octets fill, then the one with the last of them. Assumes nothing.
use mathlib.Core.Path.{◌∙◌}
use Prim.Native.Nat.{◌+◌, ◌/◌}
use native.Mathlib.Omega.{arith}
use lib.ListN.{length}
use Rattle.bits.specs.Bits.{bit}
use Rattle.vectors.specs.Vectors.{wbit}
use Rattle.vectors.proofs.Octets.{zeros_behind}
use Rattle.vectors.proofs.Filling.{word_stored}
use Rattle.vectors.proofs.load.Goals as goal

pub returns-then-k-ws : goal.returns-then-k-ws
returns-then-k-ws c =
    let a = c.args in
    let x = bit a.octets.now in
    let k = length a.octets.now / 8 in
    let w = c.load_whole in
    word_stored w.new.ws k x (wbit a.ws.now) w.ensures c.last.result (omega arith) c.last.ensures
    ∙ zeros_behind a.octets.now a.ws.now (k + 1) c.requires.1 (omega arith)

pub returns-else-k-ws : goal.returns-else-k-ws
returns-else-k-ws c =
    c.load_whole.ensures
    ∙ zeros_behind c.args.octets.now c.args.ws.now (length c.args.octets.now / 8) c.requires.1 (omega arith)
