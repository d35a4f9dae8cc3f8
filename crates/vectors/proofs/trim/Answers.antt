-- `vectors::trim` meets its contract: the word of bit n keeps what stands before it, and those behind it are cleared. Assumes nothing.
use Prim.Native.Nat.{◌+◌, ◌/◌}
use native.Mathlib.Omega.{arith}
use Rattle.vectors.specs.Vectors.{wbit}
use Rattle.vectors.proofs.Clearing.{cleared_behind, cleared_none}
use Rattle.vectors.proofs.trim.Goals as goal

pub returns-then-k-ws : goal.returns-then-k-ws
returns-then-k-ws c =
    let a = c.args in
    cleared_behind c.trim_word.new.ws c.fill.new.self (a.n / 64 + 1) a.n (wbit a.ws.now) c.trim_word.ensures (omega arith) (omega arith)
    (c.fill.ensures.after (λ y e. e))

pub returns-else-k-ws : goal.returns-else-k-ws
returns-else-k-ws c = cleared_none c.args.ws.now c.args.n (omega arith)
