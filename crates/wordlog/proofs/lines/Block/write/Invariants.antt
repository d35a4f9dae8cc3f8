-- `lines::Block::write` meets its contract: after k words the text is the lines of the first k. Assumes nothing.
use mathlib.Core.Path.{◌≡◌}
use Prim.Native.Nat.{◌*◌, ◌≤◌}
use lib.ListN.{length, take}
use Rattle.wordlog.specs.lines.Log.{lines}
use Rattle.wordlog.proofs.lines.Block.write.Given as goal

abbrev pub invariant-loop-k : goal.invariant-loop-k
invariant-loop-k l =
    (l.k ≤ l.self.count) × (l.end ≤ 128 * l.k) × (l.end ≤ length l.initial.text) × (length l.out ≡ length l.initial.out)
    × (length l.text ≡ length l.initial.text)
    × (take l.end l.text ≡ lines l.self.code l.self.limit l.self.index l.words l.k)
