-- A taker that is told an edition.
use mathlib.Core.Path.{◌≡◌, refl, sym, ap, ap₂, ◌∙◌}
use mathlib.Core.Bool.{◌||◌}
use mathlib.Core.List.{List, []}
use Prim.Native.Nat.{ℕ, ◌≤◌, ◌<◌}
use native.Mathlib.Omega.{arith}
use borrow.Author.Tests.{le-leb, lt-leb, ne_eqb}
use Rattle.bits.specs.Bits.{when◌then◌else◌}
use Rattle.bits.proofs.Octets.{Octets}
use Rattle.randomiser.specs.Randomiser.{randomised}
use Rattle.randomiser.proofs.Randomising.{randomised_twice}
use Rattle.telemetry.specs.sequences.Telemetry.{telemetry, second, known, generator_of}
use Rattle.telemetry.specs.taker.Stream.{found}
use Rattle.telemetry.specs.taker.Taking.{tell, fresh_taker, new_taker, taker_for_answer}
use Rattle.telemetry.proofs.taker.Laws.{if_is, if_isnt}
use Rattle.telemetry.proofs.taker.Calls.{joined, calls, asked}
use Rattle.telemetry.proofs.taker.Same.{cut_as_found}

module _ (edition limit : ℕ) where
  -- an edition that is known is told
  pub made_known : edition ≤ 5 → taker_for_answer edition limit ≡ record { number = 0; taker = fresh_taker (tell edition limit) }
  unfolding taker_for_answer
  made_known h = if_is (known edition) (record { number = 0; taker = fresh_taker (tell edition limit) })
      (record { number = 19; taker = new_taker limit }) (le-leb edition 5 h)

  -- any other is 19, with a fresh state for the old sequence
  pub made_unknown : 5 < edition → taker_for_answer edition limit ≡ record { number = 19; taker = new_taker limit }
  unfolding taker_for_answer
  made_unknown h = if_isnt (known edition) (record { number = 0; taker = fresh_taker (tell edition limit) })
      (record { number = 19; taker = new_taker limit }) (lt-leb edition 5 h)

  -- the older editions keep the old sequence
  pub older_sequence : edition ≤ 3 → generator_of edition ≡ telemetry
  older_sequence h =
      ap₂ (λ a b. when a || b then second else telemetry) (ne_eqb edition 4 (λ e. absurd (omega arith)))
      (ne_eqb edition 5 (λ e. absurd (omega arith)))

  -- so a taker that is told one gives what one that is told none gives
  pub older_alike : edition ≤ 3 → (parts : List (List ℕ)) (n : ℕ) → calls parts < n
      → asked n (fresh_taker (tell edition limit)) 0 [] parts ≡ asked n (new_taker limit) 0 [] parts
  older_alike h parts n enough =
      cut_as_found (tell edition limit) parts n enough ∙ ap (λ g. found g limit (joined parts)) (older_sequence h)
      ∙ sym (cut_as_found (tell 0 limit) parts n enough)

-- the old taker is the new one told that no edition is stated
pub none_stated : (limit : ℕ) → taker_for_answer 0 limit ≡ record { number = 0; taker = new_taker limit }
unfolding taker_for_answer
none_stated limit = refl

-- issues 4 and 5 have the second sequence
pub newer_sequence : (generator_of 4 ≡ second) × (generator_of 5 ≡ second)
newer_sequence = (refl, refl)

-- randomising twice gives the first octets back, whatever the edition
pub twice_back : (edition : ℕ) (octets : List ℕ) → Octets octets → randomised (generator_of edition) 0
    (randomised (generator_of edition) 0 octets) ≡ octets
twice_back edition = randomised_twice (generator_of edition) 0
