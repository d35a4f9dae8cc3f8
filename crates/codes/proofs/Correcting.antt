-- Correct and step, put together from what the engine ensures.
use mathlib.Core.Path.{◌≡◌, sym, ap, ap₂, ◌∙◌}
use mathlib.Core.Bool.{false}
use mathlib.Core.List.{List}
use Prim.Native.Nat.{ℕ, ◌≤◌, ◌<◌}
use lib.Dec.{eqb}
use lib.ListN.{length}
use native.Mathlib.Omega.{arith}
use borrow.Author.Tests.{eq-eqb, ne_eqb}
use Rattle.bits.specs.Bits.{Word, bit, when◌then◌else◌}
use Rattle.rules.specs.Codes.{Code, code, bits}
use Rattle.rules.specs.Checks.{broken, lowest}
use Rattle.rules.specs.Encoding.{lifted, written}
use Rattle.rules.specs.Flipping.{by_excess, run}
use Rattle.answers.specs.Calls.{Corrected, differing, judged, ran_correct, ran_from}
use Rattle.rules.proofs.Ways.{run_met}
use Rattle.rules.proofs.Choosing.{by_excess_lem}
use Rattle.rules.proofs.Codewords.{lifted_unsent}
use Rattle.answers.proofs.Refusals.{unsent_stay}
use Rattle.layout.specs.declared.Shape.{Shape}
use Rattle.layout.specs.Lent.{Fit, Lent, laid}
use Rattle.word.specs.measured.Measured.{Measured}
use Rattle.flipping.specs.declared.runs.Next.{Next}
use Rattle.flipping.specs.declared.runs.Next.TheVariants.{Quiet, Stuck, Flip}
use Rattle.flipping.specs.runs.Passes.{Holding, RunsTo, Within}
use Rattle.flipping.specs.runs.Endings.{number_of}
use Rattle.codes.specs.declared.Course.{Course}
use Rattle.flipping.specs.endings.Ends.{EndsAt, run_of}
use Rattle.flipping.proofs.endings.Ends.{ends_at}
use Rattle.codes.specs.Ends.{RunEnds}

-- correct's numbers and the output, one by one
abbrev numbers : ℕ → ℕ → ℕ → ℕ → ℕ → ℕ → List ℕ → Corrected
numbers number flips first last unlike lowest out =
    record { number = number; flips = flips; first = first; last = last; unlike = unlike; lowest = lowest; out = out }

numbers_same : {a a' b b' c c' d d' e e' f f' : ℕ} {o o' : List ℕ} → a ≡ a' → b ≡ b' → c ≡ c' → d ≡ d' → e ≡ e' → f ≡ f' → o ≡ o'
    → numbers a b c d e f o ≡ numbers a' b' c' d' e' f' o'
numbers_same {a} {a'} {b} {b'} {c} {c'} {d} {d'} {e} {e'} {f} {f'} {o} {o'} p q r s t u v =
    ap₂ (λ x y. numbers x y c d e f o) p q ∙ ap₂ (λ x y. numbers a' b' x y e f o) r s
    ∙ ap₂ (λ x y. numbers a' b' c' d' x y o) t u ∙ ap (numbers a' b' c' d' e' f') v

module _ (n : ℕ) (word h : List ℕ) (y z : Word) (sh : Shape) (m : Measured n word h y z sh) where
  pub holding : Holding h sh z
  holding = record { code = code n; word = y; lent = m.lends.lent; held = m.held }

  pub run_ends : (limit : ℕ) (r : Course) (y' z' : Word) → RunsTo (by_excess (code n)) (code n) sh limit y r.ended.ran y' z'
      → ((c : Code) (h : List ℕ) (sh : Shape) (x : Word) → Fit h sh → Lent c h sh → z ≡ laid c sh x → r.first ≡ broken c x)
      → r.ended.last ≡ broken (code n) y'
      → ((c : Code) (h : List ℕ) (x : Word) → Fit h sh → Lent c h sh → z ≡ laid c sh x → r.lowest ≡ lowest c x)
      → RunEnds n word limit r y'
  run_ends limit r y' z' to at_first at_last at_lowest =
      let same = ap (run (by_excess (code n)) limit) m.bits in
      record {
        number = to.number ∙ ap (λ r. r.number) same;
        flips = to.flips ∙ ap (λ r. length r.flips) same;
        word_is = to.word ∙ ap (λ r. r.word) same;
        first = at_first (code n) h sh y m.lends.fit m.lends.lent m.held ∙ ap (broken (code n)) m.bits;
        last = at_last;
        lowest = at_lowest (code n) h y m.lends.fit m.lends.lent m.held ∙ ap (lowest (code n)) m.bits;
      }

module _ (n : ℕ) (word : List ℕ) (limit : ℕ) (r : Course) (y : Word) (e : RunEnds n word limit r y) where
  pub ran_met : (code n).unsent < bits (code n) → number_of r.ended.ran.ending ≡ 0 → broken (code n) y ≡ 0
  ran_met some z = ap (broken (code n)) e.word_is
      ∙ run_met (by_excess_lem (code n) some) limit (lifted (code n) (bit word)) (sym e.number ∙ z)

  -- no bit that is not sent is set
  pub ran_unsent : (code n).unsent < bits (code n) → (k : ℕ) → k < (code n).unsent → y k ≡ false
  ran_unsent some k h =
      ap (λ w. w k) e.word_is
      ∙ unsent_stay (code n) (by_excess_lem (code n) some) limit (lifted (code n) (bit word)) (lifted_unsent (code n) (bit word)) k h

  pub ran_ends : (code n).unsent < bits (code n) → EndsAt (code n) (bit word) y r.ended.ran.flips
  ran_ends some = ends_at (code n) some (bit word) y limit r.ended.ran.flips e.word_is e.flips

  module _ (number unlike : ℕ) (judge : number ≡ judged (code n) (run_of n word limit))
      (differs : unlike ≡ differing (code n) (lifted (code n) (bit word)) y) (out out' : List ℕ)
      (wrote : out' ≡ (when eqb number 0 then written (code n) y else out)) where
    pub corrected_is : numbers number r.ended.ran.flips r.first r.ended.last unlike r.lowest out' ≡ ran_from n word limit out
    unfolding ran_correct
    corrected_is =
        numbers_same judge e.flips e.first (e.last ∙ ap (broken (code n)) e.word_is)
        (differs ∙ ap (differing (code n) (lifted (code n) (bit word))) e.word_is) e.lowest
        (wrote ∙ ap₂ (λ k w. when eqb k 0 then written (code n) w else out) judge e.word_is)

-- a bit that is named is one of a word
pub within_bits : (few : ℕ) (next : Next) → few ≤ 8176 → Within few next → Within 8176 next
within_bits few Quiet l w = tt
within_bits few (Stuck n e) l w = omega (arith, l, w)
within_bits few (Flip n e) l w = omega (arith, l, w)

-- the output of a run that was taken, and of one that was refused
pub wrote_word : (number : ℕ) (w out out' : List ℕ) → number ≡ 0 → out' ≡ w → out' ≡ (when eqb number 0 then w else out)
wrote_word number w out out' e f = f ∙ sym (ap (λ b. when b then w else out) (eq-eqb number 0 e))

pub wrote_none : (number : ℕ) (w out : List ℕ) → (number ≡ 0 → ⊥) → out ≡ (when eqb number 0 then w else out)
wrote_none number w out d = sym (ap (λ b. when b then w else out) (ne_eqb number 0 d))
