-- `wordbench::blocks`: whole words stand before each block, and their count fits.
use Rattle.std.proofs.Common.{◌≡◌, ◌-◌, ◌%◌, ◌^◌}
use Rattle.wordlog.specs.lines.Parts.{size_in}
use Rattle.wordbench.proofs.blocks.Given as goal

abbrev pub invariant-loop-read : goal.invariant-loop-read
invariant-loop-read g l = l.read % size_in l.head ≡ 0

abbrev pub decreases-loop-read : goal.decreases-loop-read
decreases-loop-read g l = 2 ^ 64 - l.read
