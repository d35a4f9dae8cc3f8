-- What comes next by sizes, from the greatest score and the lowest bit that has it. Assumes nothing.
use mathlib.Core.Path.{◌≡◌, refl, sym, ap, ◌∙◌, subst}
use mathlib.Core.Bool.{Bool, not}
use mathlib.Core.List.{List, []}
use mathlib.Core.Logic.{inl, inr}
use Prim.Native.Nat.{ℕ, ◌+◌, ◌-◌, ◌*◌, ◌≤◌, ◌<◌}
use native.Mathlib.Nat.{lt_of_not-le}
use native.Mathlib.Decide.{dec_le}
use native.Mathlib.Omega.{arith}
use lib.Dec.{leb, ltb}
use lib.ListN.{length}
use lib.IntN.{sub_ℕ}
use lib.Signed.{lt_z}
use borrow.Author.Tests.{le-leb, lt-leb, lt-ltb, le-ltb, leb-true}
use Rattle.bits.specs.Bits.{Word, flipped}
use Rattle.rules.specs.Codes.{Code, bits}
use Rattle.rules.specs.Checks.{broken, excess}
use Rattle.rules.specs.Flipping.{quiet, stuck, flip, by_excess}
use Rattle.rules.proofs.Flips.{broken_met, broken_flip, sub_order}
use Rattle.rules.proofs.Choosing.{chosen, quiet_next}
use Rattle.layout.specs.declared.Shape.{Shape}
use Rattle.layout.specs.Lent.{Lent, score}
use Rattle.planes.specs.Ranges.{Top}
use Rattle.planes.proofs.Ranges.{top_ends}
use Rattle.flipping.specs.declared.choice.Best.{Best}
use Rattle.flipping.proofs.choice.Excesses.{score_excess}
use Rattle.magnitudes.specs.Patterns.{smaller}
use Rattle.magnitudes.specs.Sizes.{smallest, reaching, instead, smallest_sent, by_size}
use Rattle.magnitudes.proofs.Smallest.{Is, smallest_one, smallest_same}
use Rattle.magnitudes.proofs.Choosing.{equal_sizes}
use Rattle.flipping.specs.declared.runs.Ran.{Ran}
use Rattle.flipping.specs.runs.Passes.{RunsTo}
use Rattle.flipping.specs.narrow.Weighing.{Chosen}
use Rattle.flipping.proofs.narrow.Peaks.{no_samples}
use Rattle.flipping.proofs.runs.Passing.{next_flip, none_flip, top_small}

pub sized_quiet : (less : ℕ → ℕ → Bool) (c : Code) (x : Word) → broken c x ≡ 0 → by_size less c x ≡ quiet
unfolding by_size
sized_quiet less c x e = ap (instead (smallest_sent less c x)) (quiet_next c x e)

-- A flip mends as many checks as its excess.
pub score_left : (c : Code) (x : Word) (n top : ℕ) → n < bits c → score c x n ≡ top → 8 < top
    → broken c (flipped x n) + (top - 8) ≡ broken c x
unfolding score
score_left c x n top inside is high = omega (arith, is, broken_met c x n, broken_flip c x n inside)

module _ (less : ℕ → ℕ → Bool) {c : Code} {h : List ℕ} {sh : Shape} (lent : Lent c h sh) (x : Word) {from low top : ℕ}
    (t : Top (score c x) from (bits c) low top) where
  -- the bits of the greatest score
  abbrev pub high : ℕ → Bool
  high n = leb top (score c x n)

  -- a bit reaches the greatest excess where it has the greatest score
  reaches : (n : ℕ) → n < bits c → reaching c x (sub_ℕ top 8) n ≡ high n
  reaches n l =
      ap (λ e. not (lt_z e (sub_ℕ top 8))) (score_excess lent x n l) ∙ ap not (sub_order (score c x n) 8 top 8)
      ∙ go (dec_le top (score c x n))
    where
      go : Dec (top ≤ score c x n) → not (ltb (score c x n + 8) (top + 8)) ≡ leb top (score c x n)
      go (yes u) = ap not (le-ltb (score c x n + 8) (top + 8) (omega arith)) ∙ sym (le-leb top (score c x n) u)
      go (no u) = ap not (lt-ltb (score c x n + 8) (top + 8) (omega (arith, lt_of_not-le u)))
          ∙ sym (lt-leb top (score c x n) (lt_of_not-le u))

  -- the smallest of them is flipped
  pub sized_next : c.unsent ≡ from → (broken c x ≡ 0 → ⊥) → 8 < top
      → by_size less c x ≡ flip (smallest less high low from (bits c - from)) (sub_ℕ top 8)
  unfolding by_size smallest_sent
  sized_next u d l =
      ap (instead (smallest_sent less c x)) (next_flip lent x t u d l)
      ∙ ap (λ n. flip n (sub_ℕ top 8))
      (ap (λ v. smallest less (reaching c x (sub_ℕ top 8)) low v (bits c - v)) u
      ∙ smallest_same less (reaching c x (sub_ℕ top 8)) high low from (bits c - from)
      (λ k f v. reaches k (omega (arith, t.above, t.under))))

  -- and it is one of them
  pub sized_one : (n : ℕ) → n ≡ smallest less high low from (bits c - from) → (n < bits c) × (score c x n ≡ top)
  sized_one n e = go (smallest_one less high low from (bits c - from))
    where
      r : ℕ
      r = smallest less high low from (bits c - from)

      go : Is less high low from r (bits c - from) → (n < bits c) × (score c x n ≡ top)
      go (inl is) = (omega (arith, is, t.under), ap (score c x) (e ∙ is) ∙ t.is)
      go (inr p) =
          let inside : r < bits c = omega (arith, p.2, t.above, t.under) in (
            omega arith,
            ap (score c x) e ∙ omega (arith, leb-true top (score c x r) p.0, t.most r p.1 inside),
          )

-- ---- where one word holds a block

module _ (samples : List ℕ) {c : Code} {h : List ℕ} {sh : Shape} (lent : Lent c h sh) {from : ℕ} (x : Word) (b : Best)
    (was : Chosen c sh from x samples b) where
  pub chosen_stuck : c.unsent ≡ from → c.unsent < bits c → (broken c x ≡ 0 → ⊥) → b.score ≤ 8
      → by_size (smaller samples) c x ≡ stuck (chosen c x) (excess c x (chosen c x))
  unfolding by_size
  chosen_stuck u some d l = ap (instead (smallest_sent (smaller samples) c x))
      (none_flip lent x some d (λ n p q. omega (arith, was.most n (omega (arith, u)) (omega (arith, lent.bits_are)))))

  module _ (l : 8 < b.score) where
    top : Top (score c x) from (bits c) was.low b.score
    top = top_ends refl (sym lent.bits_are) (was.top l)

    is : b.bit ≡ smallest (smaller samples) (high (smaller samples) lent x top) was.low from (bits c - from)
    is = subst (λ end. b.bit ≡ smallest (smaller samples) (λ n. leb b.score (score c x n)) was.low from (end - from))
        (sym lent.bits_are) (was.bit l)

    pub chosen_inside : b.bit < sh.blocks * sh.size
    chosen_inside = omega (arith, (sized_one (smaller samples) lent x top b.bit is).0, lent.bits_are)

    pub chosen_flip : c.unsent ≡ from → (broken c x ≡ 0 → ⊥) → by_size (smaller samples) c x ≡ flip b.bit (sub_ℕ b.score 8)
    chosen_flip u d = sized_next (smaller samples) lent x top u d l ∙ ap (λ n. flip n (sub_ℕ b.score 8)) (sym is)

    pub chosen_left : broken c (flipped x b.bit) + (b.score - 8) ≡ broken c x
    chosen_left =
        let one = sized_one (smaller samples) lent x top b.bit is in
        score_left c x b.bit b.score one.0 one.1 l

    pub chosen_small : b.score ≤ 15
    chosen_small = top_small lent x top

-- Without samples it is the flipping run's way.
pub sized_equal : (samples : List ℕ) → length samples ≡ 0 → (c : Code) → by_size (smaller samples) c ≡ by_excess c
sized_equal samples e = equal_sizes (smaller samples) (no_samples samples e)

pub equal_runs : {c : Code} {sh : Shape} {limit : ℕ} {x y z : Word} {r : Ran} → RunsTo (by_size (smaller []) c) c sh limit x r y z
    → RunsTo (by_excess c) c sh limit x r y z
equal_runs {c} {sh} {limit} {x} {y} {z} {r} to = subst (λ way. RunsTo way c sh limit x r y z) (sized_equal [] refl c) to
