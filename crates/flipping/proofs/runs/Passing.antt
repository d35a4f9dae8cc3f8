-- What comes next by score; and a run that goes on flip by flip, under any way of choosing.
use mathlib.Core.Path.{◌≡◌, refl, sym, ap, ◌∙◌, subst}
use mathlib.Core.Bool.{Bool, true, false, cond}
use mathlib.Core.List.{List}
use Prim.Native.Nat.{ℕ, suc, ◌+◌, ◌-◌, ◌*◌, ◌/◌, ◌%◌, ◌≤◌, ◌<◌}
use native.Mathlib.Nat.{mod-lt, div-add-mod', div-lt_iff_lt-mul, zero-add, add-zero, lt_of_le_of_lt, mul-le-mul_right}
use native.Mathlib.Omega.{arith}
use borrow.Author.Tests.{lt-ltb, le-ltb}
use lib.IntN.{ℤ, pos, negsuc, sub_ℕ, ◌-ℤ◌}
use lib.Signed.{mag, lt_z}
use lib.Dec.{ltb, lit<}
use mir.Syntax.{w8}
use mir.Val.{SFits, to_z, of_z}
use mir.Facts.{to_z_pos}
use mir.ValLaws.{to_z-of_z}
use lib.ListN.{length, get_or}
use Rattle.bits.specs.Bits.{Word, flipped, when◌then◌else◌}
use Rattle.rules.specs.Codes.{Code, bits}
use Rattle.rules.specs.Checks.{broken, excess, met_of, degree_of}
use Rattle.rules.specs.Flipping.{quiet, stuck, flip, Way, by_excess, ended, after, run}
use Rattle.rules.proofs.Flips.{broken_met, broken_flip}
use Rattle.rules.proofs.Choosing.{chosen, chosen_greatest, stuck_next}
use Rattle.rules.proofs.Runs.{run_quiet, run_stuck, run_limit, run_flip}
use Rattle.layout.specs.declared.Shape.{Shape}
use Rattle.vectors.specs.Vectors.{wbit}
use Rattle.layout.specs.Lent.{Fit, Lent, laid, score}
use Rattle.flipping.specs.bounds.Reading.{Twice, Gathered}
use Rattle.flipping.specs.declared.bounds.Places.{Places}
use Rattle.flipping.specs.bounds.Keeping.{Scored, Kept, Laid}
use Rattle.flipping.proofs.bounds.Turned.{scored, degree_is}
use Rattle.flipping.proofs.bounds.Flipped.{begun_under}
use Rattle.flipping.specs.choice.Searching.{Lowered, Found, Lowers, Finds}
use Rattle.planes.specs.Ranges.{Top}
use Rattle.planes.proofs.Ranges.{top_ends}
use Rattle.planes.proofs.Choice.{raised_above}
use Rattle.flipping.proofs.choice.Excesses.{best_next, degree_le, score_excess}
use Rattle.flipping.specs.declared.runs.Ran.{Ran}
use Rattle.flipping.specs.declared.runs.Ending.{Ending}
use Rattle.flipping.specs.declared.runs.Ending.TheVariants.{Quiet, Stuck, Limit}
use Rattle.flipping.specs.runs.Endings.{number_of}
use Rattle.flipping.specs.runs.Passes.{KeptIn, RunsTo, Going}

-- a score of at most 15, less 8, as a signed octet
module _ (top : ℕ) (small : top ≤ 15) where
  pub score_fits : SFits w8 (pos top)
  score_fits = record { sfits = lt_of_le_of_lt small (lit< tt) }

  less : to_z w8 top -ℤ pos 8 ≡ sub_ℕ top 8
  less = ap (λ z. z -ℤ pos 8) (to_z_pos w8 (lt_of_le_of_lt small (lit< tt)))

  in_range : (b : Bool) → mag (cond b (negsuc (8 - suc top)) (pos (top - 8))) < 128
  in_range true = omega arith
  in_range false = omega arith

  pub excess_fits : SFits w8 (to_z w8 top -ℤ pos 8)
  excess_fits = subst (SFits w8) (sym less) (record { sfits = in_range (ltb top 8) })

  pub excess_kept : to_z w8 (of_z w8 (to_z w8 top -ℤ pos 8)) ≡ sub_ℕ top 8
  excess_kept = to_z-of_z w8 (to_z w8 top -ℤ pos 8) excess_fits ∙ less

module _ {c : Code} {h : List ℕ} {sh : Shape} (lent : Lent c h sh) (x : Word) {from bit top : ℕ}
    (t : Top (score c x) from (bits c) bit top) where
  pub top_lt : bit < sh.blocks * sh.size
  top_lt = subst (λ z. bit < z) lent.bits_are t.under

  -- a score is small, so that it has a sign's room
  pub top_small : top ≤ 15
  unfolding score
  top_small = omega (arith, t.is, broken_met c x bit, degree_le lent x bit t.under)

  pub next_stuck : c.unsent ≡ from → (broken c x ≡ 0 → ⊥) → top ≤ 8 → by_excess c x ≡ stuck bit (sub_ℕ top 8)
  next_stuck u d l = best_next lent x (top_ends (sym u) refl t) d
      ∙ ap (λ b. when b then flip bit (sub_ℕ top 8) else stuck bit (sub_ℕ top 8))
      (le-ltb 8 top l)

  pub next_flip : c.unsent ≡ from → (broken c x ≡ 0 → ⊥) → 8 < top → by_excess c x ≡ flip bit (sub_ℕ top 8)
  next_flip u d l = best_next lent x (top_ends (sym u) refl t) d ∙ ap (λ b. when b then flip bit (sub_ℕ top 8) else stuck bit (sub_ℕ top 8))
      (lt-ltb 8 top l)

  -- A flip mends as many checks as its excess.
  pub flip_left : 8 < top → broken c (flipped x bit) + (top - 8) ≡ broken c x
  unfolding score
  flip_left l = omega (arith, t.is, broken_met c x bit, broken_flip c x bit t.under)

-- Some bit is sent.
pub some_sent : {c : Code} {h : List ℕ} {sh : Shape} {from : ℕ} → Lent c h sh → 1 ≤ sh.blocks → from < sh.size → c.unsent ≡ from
    → c.unsent < bits c
some_sent {c} {h} {sh} lent some l u = omega (arith, lent.bits_are, mul-le-mul_right {m = 1} {n = sh.blocks} sh.size some)

-- No bit that is sent has a score above 8.
module _ {c : Code} {h : List ℕ} {sh : Shape} (lent : Lent c h sh) (x : Word) where
  pub none_flip : c.unsent < bits c → (broken c x ≡ 0 → ⊥) → ((n : ℕ) → c.unsent ≤ n → n < bits c → score c x n ≤ 8)
      → by_excess c x ≡ stuck (chosen c x) (excess c x (chosen c x))
  none_flip some d low =
      let g = chosen_greatest c some x in
      let inside : chosen c x < bits c = omega (arith, g.under) in
      stuck_next c x d
      (ap (lt_z (pos 0)) (score_excess lent x (chosen c x) inside) ∙ raised_above (score c x (chosen c x)) 8
      ∙ le-ltb 8 (score c x (chosen c x)) (low (chosen c x) g.from inside))

-- ---- a bit that was chosen

module _ (c : Code) (h : List ℕ) (sh : Shape) (lent : Lent c h sh) (fit : Fit h sh) (starts counts : List ℕ)
    (g : Gathered h sh starts counts sh.blocks) (from : ℕ) (y : Word)
    (d met met' : List ℕ) (top bit : ℕ) (was : Kept c sh from y d counts met) (low : Lowered sh from (wbit d) starts counts met met')
    (found : Found sh from (wbit d) starts counts met top bit met') where
  scores : Scored (score c y) sh (wbit d) starts counts
  scores = scored c h sh lent y (wbit d) fit.held was.twice starts counts g

  pub chosen_top : Top (score c y) from (bits c) bit top
  chosen_top = top_ends refl (sym lent.bits_are) (found.first (score c y) scores was.under)

  pub chosen_kept : Kept c sh from y d counts met'
  chosen_kept = record { twice = was.twice; under = low.under (score c y) scores was.under }

  -- It has as many met checks as the bound of its block says.
  pub chosen_met : met_of c y bit ≡ get_or met' (bit / sh.size) 0
  unfolding score
  chosen_met =
      let M = sh.size in
      let b = bit / M in
      let hb : b < sh.blocks = (div-lt_iff_lt-mul fit.some).1 found.inside in
      let degree = degree_is h sh c lent b hb starts (get_or counts b 0) (g b hb).1 (bit % M) (mod-lt bit fit.some) in
      omega (
        arith,
        chosen_top.is,
        found.here,
        broken_met c y bit,
        ap (degree_of c) (div-add-mod' bit M),
        degree,
        low.ready.few b hb,
        (g b hb).0,
      )

  pub chosen_left : 8 < top → broken c (flipped y bit) + (top - 8) ≡ broken c y
  chosen_left = flip_left lent y chosen_top

-- What is kept of a word at the start, where no met check is counted on, and what is chosen then.
module _ (c : Code) (h : List ℕ) (sh : Shape) (lent : Lent c h sh) (fit : Fit h sh) (from : ℕ) (x z : Word)
    (e : z ≡ laid c sh x) (p : Places) (of : p.shape ≡ sh) (g : Laid h p) (d met : List ℕ) (two : Twice sh sh.rows z (wbit d))
    (none : (b : ℕ) → get_or met b 0 ≡ 0) where
  lent_here : Lent c h p.shape
  lent_here = subst (Lent c h) (sym of) lent

  pub begun_kept : Kept c p.shape from x d p.counts met
  begun_kept = record {
    twice = subst (λ s. Twice s s.rows (laid c s x) (wbit d)) (sym of) (subst (λ w. Twice sh sh.rows w (wbit d)) e two);
    under = begun_under c h p.shape lent_here from p.starts p.counts g x met none;
  }

  pub begun_in : 1 ≤ sh.blocks → from < sh.size → c.unsent ≡ from → KeptIn p from d met c x
  begun_in some begins u = record {
    table = h;
    fit = subst (Fit h) (sym of) fit;
    lent = lent_here;
    laid_in = g;
    some = subst (λ s. 1 ≤ s.blocks) (sym of) some;
    begins = subst (λ s. from < s.size) (sym of) begins;
    unsent = u;
    kept = begun_kept;
  }

  pub begun_top : {top bit : ℕ} {met' : List ℕ} → Lowers p from (wbit d) met met' → Finds p from (wbit d) met top bit met'
      → Top (score c x) from (bits c) bit top
  begun_top {top} {bit} {met'} low found =
      chosen_top c h p.shape lent_here (subst (Fit h) (sym of) fit) p.starts p.counts g from x d met met' top bit begun_kept low found

-- ---- the run, flip by flip

module _ (way : Way) (c : Code) (sh : Shape) (limit : ℕ) (x : Word) where
  pub going_start : (z : Word) → z ≡ laid c sh x → Going way c sh limit x 0 x z
  going_start z e =
      let v : limit - 0 ≡ limit = omega arith in
      record {
        within = omega arith;
        held = e;
        number = ap (λ l. (run way l x).number) (sym v);
        count = ap (λ l. length (run way l x).flips) (sym v) ∙ sym (zero-add (length (run way (limit - 0) x).flips));
        word = ap (λ l. (run way l x).word) (sym v);
      }

  module _ (flips : ℕ) (y z : Word) (g : Going way c sh limit x flips y z) where
    -- a run that ends where it has come to
    ends : (how : Ending) → run way (limit - flips) y ≡ ended (number_of how) y
        → RunsTo way c sh limit x (record { ending = how; flips = flips }) y z
    ends how e = record {
      number = sym (g.number ∙ ap (λ r. r.number) e);
      flips = sym (g.count ∙ ap (λ r. flips + length r.flips) e ∙ add-zero flips);
      word = sym (g.word ∙ ap (λ r. r.word) e);
      held = g.held;
    }

    pub ends_quiet : way y ≡ quiet → RunsTo way c sh limit x (record { ending = Quiet; flips = flips }) y z
    ends_quiet e = ends Quiet (run_quiet way (limit - flips) y e)

    pub ends_stuck : (n : ℕ) (ex : ℤ) → way y ≡ stuck n ex → RunsTo way c sh limit x (record { ending = Stuck; flips = flips }) y z
    ends_stuck n ex e = ends Stuck (run_stuck way (limit - flips) y n ex e)

    pub ends_limit : (n : ℕ) (ex : ℤ) → way y ≡ flip n ex → limit ≤ flips
        → RunsTo way c sh limit x (record { ending = Limit; flips = flips }) y z
    ends_limit n ex e l =
        let v : limit - flips ≡ 0 = omega arith in
        ends Limit (ap (λ k. run way k y) v ∙ run_limit way y n ex e)

    -- and one that goes on
    pub goes_on : (n : ℕ) (ex : ℤ) → way y ≡ flip n ex → flips < limit → (y' z' : Word) → y' ≡ flipped y n → z' ≡ laid c sh (flipped y n)
        → Going way c sh limit x (flips + 1) y' z'
    goes_on n ex e l y' z' here held =
        subst (λ w. Going way c sh limit x (flips + 1) w z') (sym here) (record {
          within = omega arith;
          held = held;
          number = g.number ∙ ap (λ r. r.number) passes;
          count = g.count ∙ ap (λ r. flips + length r.flips) passes ∙ omega arith;
          word = g.word ∙ ap (λ r. r.word) passes;
        })
      where
        left : limit - flips ≡ suc (limit - (flips + 1))
        left = omega arith

        passes : run way (limit - flips) y ≡ after n ex (run way (limit - (flips + 1)) (flipped y n))
        passes = ap (λ k. run way k y) left ∙ run_flip way (limit - (flips + 1)) y n ex e

-- The same run by another record of it.
pub runs_as : {way : Way} {c : Code} {sh : Shape} {limit : ℕ} {x y z : Word} (r r' : Ran) → r'.ending ≡ r.ending → r'.flips ≡ r.flips
    → RunsTo way c sh limit x r y z → RunsTo way c sh limit x r' y z
runs_as r r' p q to = record { number = ap number_of p ∙ to.number; flips = q ∙ to.flips; word = to.word; held = to.held }
