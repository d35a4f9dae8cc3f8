-- `pairs::with_later`: no more are mended than bits are passed.
use Rattle.std.proofs.Common.{◌≤◌}
use Rattle.pairs.proofs.with_later.Given as goal

abbrev pub invariant-loop-b : goal.invariant-loop-b
invariant-loop-b g l = l.mended ≤ l.b
