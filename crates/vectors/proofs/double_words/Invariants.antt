-- `vectors::double_words` meets its contract: after k passes k words are doubled, and a is word k of v. Assumes nothing.
use mathlib.Core.Path.{◌≡◌}
use lib.ListN.{length, get_or}
use Rattle.vectors.specs.Vectors.{Doubled}
use Rattle.vectors.proofs.double_words.Given as goal

abbrev pub invariant-loop-k : goal.invariant-loop-k
invariant-loop-k l = (length l.d ≡ length l.initial.d) × (l.a ≡ get_or l.v l.k 0) × Doubled l.v l.n l.t l.k l.d
