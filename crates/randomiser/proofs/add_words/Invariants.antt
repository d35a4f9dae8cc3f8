-- `randomiser::add_words`: what is done so far is randomised, and the rest is as it was. Assumes nothing.
use mathlib.Core.Path.{◌≡◌}
use mathlib.Core.List.{◌++◌}
use Prim.Native.Nat.{ℕ, ◌<◌, ◌+◌, ◌*◌}
use lib.ListN.{length, take, drop, get_or}
use Rattle.randomiser.specs.Randomiser.{Generator, sequence_octet, randomised}
use Rattle.randomiser.proofs.add_words.Given as goal

abbrev pub invariant-loop-k : goal.invariant-loop-k
invariant-loop-k l =
    (g : Generator) → (used : ℕ)
    → ((j : ℕ) → j < length l.initial.octets → get_or l.sequence (l.from + j) 0 ≡ sequence_octet g (used + j)) → l.octets
    ≡ randomised g used (take (8 * l.k) l.initial.octets) ++ drop (8 * l.k) l.initial.octets
