-- What a run by sizes keeps, and the run.
use Rattle.std.specs.Prelude.{◌≡◌, List, ℕ, ◌+◌, ◌<◌, Result, IfOk, IfErr, OnErr}
use Rattle.bits.specs.Bits.{Word, flipped}
use Rattle.rules.specs.Codes.{Code}
use Rattle.rules.specs.Checks.{broken}
use Rattle.answers.specs.Calls.{differing}
use Rattle.vectors.specs.Vectors.{wbit}
use Rattle.layout.specs.declared.Shape.{Shape}
use Rattle.layout.specs.Lent.{Fit, Lent, laid}
use Rattle.flipping.specs.declared.bounds.Places.{Places}
use Rattle.flipping.specs.bounds.Reading.{Twice, Gathered}
use Rattle.flipping.specs.declared.runs.Ending.{Ending}
use Rattle.flipping.specs.runs.Passes.{Going, RunsTo}
use Rattle.magnitudes.specs.Patterns.{read, smaller}
use Rattle.magnitudes.specs.Sizes.{by_size}
use Rattle.samples.specs.raising.Knowing.{Knows, whole}
use Rattle.samples.specs.declared.sizing.Ended.{Ended}
use Rattle.samples.specs.declared.sizing.Flip.{Flip}
use Rattle.samples.specs.declared.sizing.Passed.{Passed}

-- What is kept is that of the word y: its syndrome, doubled, and what is known of each block.
pub record Stands (c : Code) (sh : Shape) (samples : List ℕ) (y : Word) (d starts counts met kept : List ℕ) : Type 0 where
  pub twice : Twice sh sh.rows (laid c sh y) (wbit d)
  pub knows : Knows samples sh (wbit d) starts counts whole met kept

-- There is a code of which that is kept, and so many of its checks are broken; and a table that these places are of.
pub record Starting (sh : Shape) (samples : List ℕ) (left : ℕ) (y : Word) (d starts counts met kept : List ℕ) : Type 0 where
  pub code : Code
  pub table : List ℕ
  pub fit : Fit table sh
  pub lent : Lent code table sh
  pub gathered : Gathered table sh starts counts sh.blocks
  pub unsent : code.unsent ≡ 0
  pub left_is : left ≡ broken code y
  pub stands : Stands code sh samples y d starts counts met kept

-- The run by sizes from x has come to y after so many flips. So many checks are broken; if there is one, what is kept is y's; and y differs
-- in so many bits from what was read.
pub record Coming (c : Code) (sh : Shape) (samples : List ℕ) (limit : ℕ) (x : Word) (flips : ℕ) (y d starts counts met kept : List ℕ)
    (left unlike : ℕ) : Type 0 where
  pub going : Going (by_size (smaller samples) c) c sh limit x flips (wbit y) (laid c sh (wbit y))
  pub left_is : left ≡ broken c (wbit y)
  pub stands : 0 < left → Stands c sh samples (wbit y) d starts counts met kept
  pub differs : unlike ≡ differing c (read samples) (wbit y)

-- What comes next for the word y, after so many flips of a run by sizes from any word: the bit is flipped, and so many fewer of its checks
-- are broken then; or the run ends so.
pub record Chooses (c : Code) (sh : Shape) (samples : List ℕ) (limit flips : ℕ) (y : Word) (r : Result Flip Ending) : Type 0 where
  pub goes : IfOk r (λ f. (x : Word) → Going (by_size (smaller samples) c) c sh limit x flips y (laid c sh y)
      → Going (by_size (smaller samples) c) c sh limit x (flips + 1) (flipped y f.bit) (laid c sh (flipped y f.bit)))
  pub fewer : IfOk r (λ f. broken c (flipped y f.bit) + f.fewer ≡ broken c y)
  pub ends : IfErr r (λ e. (x : Word) → Going (by_size (smaller samples) c) c sh limit x flips y (laid c sh y)
      → RunsTo (by_size (smaller samples) c) c sh limit x (record { ending = e; flips = flips }) y (laid c sh y))

-- What a pass of the run by sizes from x comes to, after so many flips: the run has come to y by one more; or it ends with y, so.
pub record Passes (c : Code) (sh : Shape) (samples : List ℕ) (limit : ℕ) (x : Word) (flips : ℕ) (y d starts counts met kept : List ℕ)
    (left unlike : ℕ) (r : Result Passed Ending) : Type 0 where
  pub goes : IfOk r (λ p. Coming c sh samples limit x (flips + 1) y d starts counts met kept p.left p.unlike)
  pub ends : IfErr r (λ e. RunsTo (by_size (smaller samples) c) c sh limit x (record { ending = e; flips = flips }) (wbit y)
      (laid c sh (wbit y)))
  pub last : OnErr r (left ≡ broken c (wbit y))
  pub differs : OnErr r (unlike ≡ differing c (read samples) (wbit y))

-- The run by sizes from x ends with the word y; so many of its checks are broken, and in so many bits it differs from x.
pub record SizesTo (c : Code) (sh : Shape) (samples : List ℕ) (limit : ℕ) (x : Word) (r : Ended) (y : Word) : Type 0 where
  pub runs : RunsTo (by_size (smaller samples) c) c sh limit x r.ran y (laid c sh y)
  pub last : r.last ≡ broken c y
  pub differs : r.unlike ≡ differing c x y

-- What is said above, of these places.
abbrev pub StandsIn : Code → List ℕ → Word → Places → List ℕ → List ℕ → List ℕ → Type 0
StandsIn c samples y p d met kept = Stands c p.shape samples y d p.starts p.counts met kept

abbrev pub StartingIn : List ℕ → ℕ → Word → Places → List ℕ → List ℕ → List ℕ → Type 0
StartingIn samples left y p d met kept = Starting p.shape samples left y d p.starts p.counts met kept

abbrev pub ComingIn : Code → List ℕ → ℕ → Word → ℕ → List ℕ → Places → List ℕ → List ℕ → List ℕ → ℕ → ℕ → Type 0
ComingIn c samples limit x flips y p d met kept left unlike =
    Coming c p.shape samples limit x flips y d p.starts p.counts met kept left unlike

abbrev pub PassesIn : Code → List ℕ → ℕ → Word → ℕ → List ℕ → Places → List ℕ → List ℕ → List ℕ → ℕ → ℕ
    → Result Passed Ending → Type 0
PassesIn c samples limit x flips y p d met kept left unlike r =
    Passes c p.shape samples limit x flips y d p.starts p.counts met kept left unlike r
