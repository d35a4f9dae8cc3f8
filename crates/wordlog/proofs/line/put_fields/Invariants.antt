-- `line::put_fields` meets its contract: after k numbers the text is their fields. Assumes nothing.
use mathlib.Core.Path.{◌≡◌}
use mathlib.Core.List.{◌++◌}
use Prim.Native.Nat.{◌+◌, ◌*◌, ◌≤◌}
use lib.ListN.{length, take}
use Rattle.wordlog.specs.line.Line.{fields}
use Rattle.wordlog.proofs.line.put_fields.Given as goal

abbrev pub invariant-loop-n : goal.invariant-loop-n
invariant-loop-n l =
    (l.n-index ≤ length l.numbers) × (l.end ≤ l.at + 21 * l.n-index) × (length l.text ≡ length l.initial.text)
    × (take l.end l.text ≡ take l.at l.initial.text ++ fields (take l.n-index l.numbers))
