-- `onedigit::digit_noticed` meets its contract: the word that is tried is the one of the definition.
use mathlib.Core.Path.{ap, ◌∙◌}
use mathlib.Core.Bool.{not}
use Prim.Native.Nat.{ℕ, ◌/◌}
use native.Mathlib.Nat.{mod-lt}
use native.Mathlib.Omega.{arith}
use lib.ListN.{set}
use Rattle.onedigit.specs.Wrong.{sized_tied}
use Rattle.onedigit.proofs.digit_noticed.Goals as goal

pub overflow_cast-t : goal.overflow_cast-t
overflow_cast-t c = omega (arith, mod-lt (c.args.t / 15) c.requires.1)

pub other_word-word-requires : goal.other_word-word-requires
other_word-word-requires c =
    (omega arith, omega (arith, mod-lt (c.args.t / 15) c.requires.1))

pub returns : goal.returns
returns c =
    let a = c.args in record {
      noticed = λ printed fits.
          c.word_noticed.ensures.noticed printed fits
          ∙ ap (λ (w : ℕ). not (sized_tied a.sizes printed a.parity.now
          (set a.generator.now (a.t / 15 / a.digits) w)))
          c.other_word-word.ensures;
      kept = c.word_noticed.ensures.kept;
    }
