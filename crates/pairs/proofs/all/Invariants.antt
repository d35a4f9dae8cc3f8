-- `pairs::all`: no more are mended, or tried, than 512 for each bit.
use Rattle.std.proofs.Common.{◌*◌, ◌≤◌}
use Rattle.pairs.proofs.all.Given as goal

abbrev pub invariant-loop-a : goal.invariant-loop-a
invariant-loop-a g l = (l.mended ≤ 512 * l.a) × (l.tried ≤ 512 * l.a)
