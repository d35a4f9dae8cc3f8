-- What is kept at the start of a run by sizes, and how many bits differ after a flip.
use mathlib.Core.Path.{◌≡◌, refl, sym, ap, ◌∙◌, subst}
use mathlib.Core.Bool.{Bool, true, false}
use mathlib.Core.List.{List}
use Prim.Native.Nat.{ℕ, zero, suc, ◌+◌, ◌-◌, ◌*◌, ◌≤◌, ◌<◌}
use native.Mathlib.Omega.{arith}
use lib.ListN.{length, get_or, replicate}
use Rattle.bits.specs.Bits.{Word, tally, ◌⊕◌, flipped}
use Rattle.bits.proofs.Counting.{count-le}
use Rattle.rules.specs.Codes.{Code, bits}
use Rattle.rules.specs.Checks.{broken}
use Rattle.answers.specs.Calls.{differing}
use Rattle.answers.proofs.Differing.{differ_flip}
use Rattle.vectors.specs.Vectors.{wbit}
use Rattle.layout.specs.declared.Shape.{Shape}
use Rattle.layout.specs.Lent.{Fit, Lent, laid, score}
use Rattle.flipping.specs.declared.bounds.Places.{Places}
use Rattle.flipping.specs.bounds.Reading.{Twice, Gathered}
use Rattle.flipping.specs.bounds.Keeping.{Scored}
use Rattle.flipping.proofs.bounds.Turned.{scored}
use Rattle.std.specs.Prelude.{Result, Ok, Err}
use Rattle.flipping.specs.declared.runs.Ending.{Ending}
use Rattle.flipping.specs.declared.runs.Ending.TheVariants.{Quiet}
use Rattle.flipping.specs.runs.Passes.{Going}
use Rattle.flipping.proofs.runs.Passing.{ends_quiet, runs_as}
use Rattle.flipping.proofs.runs.Sizes.{sized_quiet}
use Rattle.magnitudes.specs.Patterns.{read, smaller}
use Rattle.magnitudes.specs.Sizes.{by_size}
use Rattle.samples.specs.raising.Knowing.{Knows, whole}
use Rattle.samples.specs.smallest.Settling.{Leads}
use Rattle.samples.specs.declared.sizing.Flip.{Flip}
use Rattle.samples.specs.declared.sizing.Passed.{Passed}
use Rattle.samples.specs.declared.sizing.Ended.{Ended}
use Rattle.samples.specs.sizing.Passing.{Stands, StandsIn, Coming, ComingIn, PassesIn, Chooses, Passes, SizesTo}

few : (b : Bool) → tally b ≤ 1
few true = omega arith
few false = omega arith

-- one bit more or less differs
pub differs_flip : (c : Code) (samples : List ℕ) (y : Word) (r : ℕ) → r < bits c → (unlike v : ℕ)
    → unlike ≡ differing c (read samples) y
    → (tally (read samples r ⊕ y r) ≤ unlike → v + 2 * tally (read samples r ⊕ y r) ≡ unlike + 1)
    → v ≡ differing c (read samples) (flipped y r)
differs_flip c samples y r inside unlike v was counted =
    let now = differ_flip c (read samples) y r inside in
    let enough : tally (read samples r ⊕ y r) ≤ unlike = omega (arith, now, was, few (read samples r ⊕ y r)) in
    omega (arith, counted enough, now, was)

-- no met check is counted on, and no bit is known
unknown : (n i : ℕ) → i < n → ◌≡◌ {A = ℕ} (get_or (replicate n 8176) i 0) 8176
unknown zero i l = absurd (omega arith)
unknown (suc n) zero l = refl
unknown (suc n) (suc i) l = unknown n i (omega arith)

pub begun_stands : (c : Code) (sh : Shape) (samples : List ℕ) (x z : Word) (p : Places) (d met : List ℕ) → p.shape ≡ sh → sh.blocks ≤ 16
    → length samples ≤ 8176 → z ≡ laid c sh x → Twice sh sh.rows z (wbit d) → ((b : ℕ) → get_or met b 0 ≡ 0)
    → StandsIn c samples x p d met (replicate 16 8176)
begun_stands c sh samples x z p d met of blocks long e two none = record {
  twice = subst (λ s. Twice s s.rows (laid c s x) (wbit d)) (sym of) (subst (λ w. Twice sh sh.rows w (wbit d)) e two);
  knows = record {
    block = λ b hb.
        let hb : b < 16 = omega (arith, hb, ap (λ s. s.blocks) of) in
        let unseen : length samples ≤ get_or (replicate 16 8176) b 0 = omega (arith, unknown 16 b hb) in
        record {
          under = λ k l t. omega (
            arith,
            none b,
            count-le (get_or p.counts b 0) (λ e. wbit d (get_or p.starts (8 * b + e) 0 + k)),
          );
          inside = λ u. absurd (omega arith);
          ahead = λ u. absurd (omega arith);
        };
  };
}

pub stands_as : {c : Code} {sh : Shape} {samples : List ℕ} {y z : Word} {d starts counts met kept : List ℕ} → y ≡ z
    → Stands c sh samples y d starts counts met kept → Stands c sh samples z d starts counts met kept
stands_as {c} {sh} {samples} {y} {z} {d} {starts} {counts} {met} {kept} e was =
    subst (λ x. Stands c sh samples x d starts counts met kept) e was

-- ---- a bit that was chosen

module _ (c : Code) (h : List ℕ) (sh : Shape) (lent : Lent c h sh) (fit : Fit h sh) (starts counts : List ℕ)
    (g : Gathered h sh starts counts sh.blocks) (samples : List ℕ) (y : Word) (d met kept : List ℕ)
    (was : Stands c sh samples y d starts counts met kept) {met' kept' : List ℕ} (r top : ℕ)
    (chose : Knows samples sh (wbit d) starts counts whole met kept → Knows samples sh (wbit d) starts counts whole met' kept'
    × ((f : ℕ → ℕ) → Scored f sh (wbit d) starts counts → (i : ℕ) → i < sh.blocks * sh.size → f i ≤ top)
    × ((f : ℕ → ℕ) → Scored f sh (wbit d) starts counts → Leads samples f top (sh.blocks * sh.size) r)) where
  scores : Scored (score c y) sh (wbit d) starts counts
  scores = scored c h sh lent y (wbit d) fit.held was.twice starts counts g

  pub chosen_most : (i : ℕ) → i < sh.blocks * sh.size → score c y i ≤ top
  chosen_most = (chose was.knows).1 (score c y) scores

  pub chosen_leads : Leads samples (score c y) top (sh.blocks * sh.size) r
  chosen_leads = (chose was.knows).2 (score c y) scores

  pub chosen_stands : Stands c sh samples y d starts counts met' kept'
  chosen_stands = record { twice = was.twice; knows = (chose was.knows).0 }

-- ---- a pass

-- what one comes to, over places that are the same
abbrev pub Comes : List ℕ → ℕ → ℕ → List ℕ → List ℕ → List ℕ → List ℕ → ℕ → ℕ → List ℕ → List ℕ → List ℕ → List ℕ
    → Result Passed Ending → Places → Type 0
Comes samples limit flips y d met kept left unlike y' d' met' kept' r p = (c : Code) (h : List ℕ) (x : Word) → Lent c h p.shape
    → c.unsent ≡ 0 → Fit h p.shape → Gathered h p.shape p.starts p.counts p.shape.blocks
    → ComingIn c samples limit x flips y p d met kept left unlike
    → PassesIn c samples limit x flips y' p d' met' kept' left unlike r

-- one that flips the bit that comes next
pub pass_goes : {c : Code} {h : List ℕ} {sh : Shape} {samples : List ℕ} {limit flips left unlike : ℕ} {x : Word}
    {y y' d d' starts counts met met' kept kept' : List ℕ} {n : Flip} {r : Passed} → Lent c h sh
    → Coming c sh samples limit x flips y d starts counts met kept left unlike → Chooses c sh samples limit flips (wbit y) (Ok n)
    → n.bit < sh.blocks * sh.size → r.left ≡ left - n.fewer → wbit y' ≡ flipped (wbit y) n.bit
    → (tally (read samples n.bit ⊕ wbit y n.bit) ≤ unlike
    → r.unlike + 2 * tally (read samples n.bit ⊕ wbit y n.bit) ≡ unlike + 1)
    → (0 < r.left → Stands c sh samples (flipped (wbit y) n.bit) d' starts counts met' kept')
    → Passes c sh samples limit x flips y' d' starts counts met' kept' left unlike (Ok r)
pass_goes {c} {h} {sh} {samples} {limit} {flips} {left} {unlike} {x} {y} {n = n} {r = r} lent was next inside less word counted stands =
    record {
      goes = record {
        going = subst (λ v. Going (by_size (smaller samples) c) c sh limit x (flips + 1) v (laid c sh v)) (sym word)
            (next.goes x was.going);
        left_is = omega (arith, less, next.fewer, was.left_is, ap (broken c) word);
        stands = λ some. stands_as (sym word) (stands some);
        differs = differs_flip c samples (wbit y) n.bit (omega (arith, lent.bits_are)) unlike r.unlike was.differs counted
            ∙ ap (differing c (read samples)) (sym word);
      };
      ends = tt;
      last = tt;
      differs = tt;
    }

module _ {c : Code} {sh : Shape} {samples : List ℕ} {limit flips left unlike : ℕ} {x : Word} {y d starts counts met kept : List ℕ} where
  -- one in which the run ends
  pub pass_ends : {how : Ending} → Passes c sh samples limit x flips y d starts counts met kept left unlike (Err how)
      → x ≡ read samples → (e : Ended) → e.ran.ending ≡ how → e.ran.flips ≡ flips → e.last ≡ left → e.unlike ≡ unlike
      → SizesTo c sh samples limit x e (wbit y)
  pass_ends p first e is_number is_flips is_last is_unlike = record {
    runs = runs_as _ _ is_number is_flips p.ends;
    last = is_last ∙ p.last;
    differs = is_unlike ∙ p.differs ∙ ap (λ z. differing c z (wbit y)) (sym first);
  }

  -- none is left to be made
  pub comes_quiet : Coming c sh samples limit x flips y d starts counts met kept left unlike → left ≤ 0 → x ≡ read samples → (e : Ended)
      → e.ran.ending ≡ Quiet → e.ran.flips ≡ flips → e.last ≡ 0 → e.unlike ≡ unlike → SizesTo c sh samples limit x e (wbit y)
  comes_quiet was quiet first e is_number is_flips is_last is_unlike =
      let none : broken c (wbit y) ≡ 0 = omega (arith, was.left_is) in
      record {
        runs = runs_as _ _ is_number is_flips (ends_quiet (by_size (smaller samples) c) c sh limit x flips (wbit y) _ was.going
            (sized_quiet (smaller samples) c (wbit y) none));
        last = is_last ∙ sym none;
        differs = is_unlike ∙ was.differs ∙ ap (λ z. differing c z (wbit y)) (sym first);
      }
