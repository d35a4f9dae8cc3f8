-- `randomiser::add_octets`: what is done so far is randomised, and the rest is as it was. Assumes nothing.
use mathlib.Core.Path.{◌≡◌}
use mathlib.Core.List.{◌++◌}
use Prim.Native.Nat.{ℕ, ◌<◌, ◌+◌}
use lib.ListN.{length, take, drop, get_or}
use Rattle.randomiser.specs.Randomiser.{Generator, sequence_octet, randomised}
use Rattle.randomiser.proofs.add_octets.Given as goal

abbrev pub invariant-loop-i : goal.invariant-loop-i
invariant-loop-i l =
    (g : Generator) → (used : ℕ)
    → ((j : ℕ) → j < length l.initial.octets → get_or l.sequence (l.from + j) 0 ≡ sequence_octet g (used + j)) → l.octets
    ≡ randomised g used (take l.i l.initial.octets) ++ drop l.i l.initial.octets
