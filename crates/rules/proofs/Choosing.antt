-- The way of the flipping run: which bit it chooses. For any code that sends bits.
use mathlib.Core.Path.{◌≡◌, refl, sym, ap, ap₂, ◌∙◌, fun_ext, subst}
use mathlib.Core.Bool.{Bool, true, false, true≢false, not, ◌&&◌}
use Prim.Native.Nat.{ℕ, ◌+◌, ◌-◌, ◌≤◌, ◌<◌}
use native.Mathlib.Nat.{le_of_eq, le_trans, lt_of_not-le}
use native.Mathlib.Decide.{dec_lt}
use native.Mathlib.Omega.{arith}
use lib.Dec.{T, eqb}
use lib.IntN.{ℤ, pos, sub_ℕ}
use lib.Signed.{lt_z}
use borrow.Author.Tests.{eq-eqb, ne_eqb, eqb-true, ltb-true, le-ltb}
use Rattle.bits.specs.Bits.{Word, flipped, when◌then◌else◌}
use Rattle.rules.specs.Codes.{Code, bits, checks}
use Rattle.rules.specs.Checks.{covers, check, broken, excess, broken_of, met_of}
use Rattle.rules.specs.Flipping.{quiet, stuck, flip, greatest, greatest_sent, flip_above, by_excess}
use Rattle.bits.proofs.Counting.{count_same}
use Rattle.rules.proofs.Flips.{broken_met, excess_is, sub_order}
use Rattle.rules.proofs.Greatest.{Greatest, greatest_has, not-less, not_over}
use Rattle.rules.proofs.Ways.{Chooses, TakesGreatest, Girth, broken_shared, first_count}

-- excess 0 is not flipped, so that a run ends
pub zero_stuck : (n : ℕ) → flip_above n (pos 0) ≡ stuck n (pos 0)
zero_stuck n = refl

module _ (c : Code) (x : Word) where
  -- the choice
  abbrev pub chosen : ℕ
  chosen = greatest_sent c x

  pub quiet_next : broken c x ≡ 0 → by_excess c x ≡ quiet
  unfolding by_excess
  quiet_next e = ap (λ b. when b then quiet else flip_above chosen (excess c x chosen)) (eq-eqb (broken c x) 0 e)

  pub flip_next : (broken c x ≡ 0 → ⊥) → lt_z (pos 0) (excess c x chosen) ≡ true → by_excess c x ≡ flip chosen (excess c x chosen)
  unfolding by_excess
  flip_next d e =
      ap (λ b. when b then quiet else flip_above chosen (excess c x chosen)) (ne_eqb (broken c x) 0 d)
      ∙ ap (λ b. when b then flip chosen (excess c x chosen) else stuck chosen (excess c x chosen)) e

  pub stuck_next : (broken c x ≡ 0 → ⊥) → lt_z (pos 0) (excess c x chosen) ≡ false → by_excess c x ≡ stuck chosen (excess c x chosen)
  unfolding by_excess
  stuck_next d e =
      ap (λ b. when b then quiet else flip_above chosen (excess c x chosen)) (ne_eqb (broken c x) 0 d)
      ∙ ap (λ b. when b then flip chosen (excess c x chosen) else stuck chosen (excess c x chosen)) e

  -- and back: what comes next tells the tests
  next_by : (a b : Bool) → eqb (broken c x) 0 ≡ a → lt_z (pos 0) (excess c x chosen) ≡ b
      → by_excess c x ≡ (when a then quiet else (when b then flip chosen (excess c x chosen) else stuck chosen (excess c x chosen)))
  unfolding by_excess
  next_by a b e f = ap₂
      (λ a b. when a then quiet else (when b then flip chosen (excess c x chosen) else stuck chosen (excess c x chosen))) e f

  pub next_quiet : by_excess c x ≡ quiet → broken c x ≡ 0
  next_quiet q = go (eqb (broken c x) 0) (lt_z (pos 0) (excess c x chosen)) refl refl
    where
      go : (a b : Bool) → eqb (broken c x) 0 ≡ a → lt_z (pos 0) (excess c x chosen) ≡ b → broken c x ≡ 0
      go true b e f = eqb-true (broken c x) 0 e
      go false true e f = let w = next_by false true e f in let z : ◌≡◌ {A = ℕ} 0 1 = cc in absurd (omega arith)
      go false false e f = let w = next_by false false e f in let z : ◌≡◌ {A = ℕ} 0 1 = cc in absurd (omega arith)

  pub next_stuck : (n : ℕ) (ex : ℤ) → by_excess c x ≡ stuck n ex → lt_z (pos 0) (excess c x chosen) ≡ false
  next_stuck n ex q = go (eqb (broken c x) 0) (lt_z (pos 0) (excess c x chosen)) refl refl
    where
      go : (a b : Bool) → eqb (broken c x) 0 ≡ a → lt_z (pos 0) (excess c x chosen) ≡ b → lt_z (pos 0) (excess c x chosen) ≡ false
      go true b e f = let w = next_by true b e f in let z : ◌≡◌ {A = ℕ} 0 1 = cc in absurd (omega arith)
      go false true e f = let w = next_by false true e f in let z : ◌≡◌ {A = ℕ} 0 1 = cc in absurd (omega arith)
      go false false e f = f

  -- the chosen bit
  pub record Flips (n : ℕ) (ex : ℤ) : Type 0 where
    pub bit : n ≡ chosen
    pub value : ex ≡ excess c x n
    pub above : met_of c x n < broken_of c x n

  above_zero : (n : ℕ) → lt_z (pos 0) (excess c x n) ≡ true → met_of c x n < broken_of c x n
  above_zero n e =
      omega (
        arith,
        ltb-true (0 + met_of c x n) (broken_of c x n + 0)
            (sym (ap (lt_z (pos 0)) (excess_is c x n) ∙ sub_order 0 0 (broken_of c x n) (met_of c x n)) ∙ e),
      )

  pub next_flip : (n : ℕ) (ex : ℤ) → by_excess c x ≡ flip n ex → Flips n ex
  next_flip n ex q = go (eqb (broken c x) 0) (lt_z (pos 0) (excess c x chosen)) refl refl
    where
      go : (a b : Bool) → eqb (broken c x) 0 ≡ a → lt_z (pos 0) (excess c x chosen) ≡ b → Flips n ex
      go true b e f = let w = next_by true b e f in let z : ◌≡◌ {A = ℕ} 0 1 = cc in absurd (omega arith)
      go false true e f =
          let w = next_by false true e f in
          let is : n ≡ chosen = cc in
          let val : ex ≡ excess c x chosen = cc in
          record {
            bit = is;
            value = val ∙ ap (excess c x) (sym is);
            above = subst (λ z. met_of c x z < broken_of c x z) (sym is)
                (above_zero chosen f);
          }
      go false false e f = let w = next_by false false e f in let z : ◌≡◌ {A = ℕ} 0 1 = cc in absurd (omega arith)

-- what is chosen is sent, and no bit that is sent is above it
module _ (c : Code) (some : c.unsent < bits c) where
  pub chosen_greatest : (x : Word) → Greatest c.unsent (bits c - c.unsent) (excess c x) (chosen c x)
  unfolding greatest_sent
  chosen_greatest x = greatest_has c.unsent (bits c - c.unsent) (excess c x) (omega arith)

  pub by_excess_lem : Chooses c (by_excess c)
  by_excess_lem = record {
    met_quiet = quiet_next c;
    quiet_met = next_quiet c;
    flips = λ x n ex e.
        let f = next_flip c x n ex e in
        record {
          sent = omega (arith, f.bit, (chosen_greatest x).from);
          under = omega (arith, f.bit, (chosen_greatest x).under);
          value = f.value;
          above = f.above;
        };
  }

  -- a bit that no earlier sent bit equals and no later one is above
  pub chosen_is : (x : Word) (n : ℕ) → c.unsent ≤ n → n < bits c → ((m : ℕ) → m < n → lt_z (excess c x m) (excess c x n) ≡ true)
      → ((m : ℕ) → m < bits c → lt_z (excess c x n) (excess c x m) ≡ false) → chosen c x ≡ n
  chosen_is x n sent under before after = go (dec_lt (chosen c x) n) (dec_lt n (chosen c x))
    where
      g : Greatest c.unsent (bits c - c.unsent) (excess c x) (chosen c x)
      g = chosen_greatest x

      go : Dec (chosen c x < n) → Dec (n < chosen c x) → chosen c x ≡ n
      go (yes l) q = absurd (true≢false (sym (before (chosen c x) l)
          ∙ not-less (excess c x n) (excess c x (chosen c x)) (g.most n sent (omega arith))))
      go (no p) (yes l) = absurd (subst T (after (chosen c x) (omega (arith, g.under))) (g.lowest n sent l).lt)
      go (no p) (no q) = omega (arith, lt_of_not-le p, lt_of_not-le q)

pub by_greatest : (c : Code) → c.unsent < bits c → TakesGreatest c (by_excess c)
by_greatest c some = record {
  most = λ x n ex e m sent under.
      ap (λ k. lt_z (excess c x k) (excess c x m)) (next_flip c x n ex e).bit
      ∙ not-less (excess c x m) (excess c x (chosen c x)) ((chosen_greatest c some x).most m sent (omega arith));
  sticks = λ x n ex e m sent under. not_over (excess c x m) (excess c x (chosen c x)) ((chosen_greatest c some x).most m sent (omega arith))
      (next_stuck c x n ex e);
}

-- ---- what comes next depends on the checks alone

module _ (c : Code) (x y : Word) (e : (k : ℕ) → k < checks c → check c x k ≡ check c y k) where
  pub broken_same : broken c x ≡ broken c y
  unfolding broken
  broken_same = count_same (checks c) (check c x) (check c y) e

  excess_same : excess c x ≡ excess c y
  unfolding excess broken_of met_of
  excess_same = fun_ext (λ n.
      ap₂ sub_ℕ (count_same (checks c) _ _ (λ k l. ap (λ b. covers c k n && b) (e k l)))
      (count_same (checks c) _ _ (λ k l. ap (λ b. covers c k n && not b) (e k l))))

  pub next_same : by_excess c x ≡ by_excess c y
  unfolding by_excess greatest_sent
  next_same =
      ap₂ (λ b f. when eqb b 0 then quiet else flip_above (greatest c.unsent (bits c - c.unsent) f)
      (f (greatest c.unsent (bits c - c.unsent) f))) broken_same excess_same

-- ---- where the one wrong bit is not sent the run is stuck

module _ (c : Code) (some : c.unsent < bits c) (girth : Girth c) (x : Word) (met : broken c x ≡ 0) (n₀ : ℕ) (h₀ : n₀ < c.unsent) where
  abbrev wrong : Word
  wrong = flipped x n₀

  not_above : lt_z (pos 0) (excess c wrong (chosen c wrong)) ≡ false
  not_above =
      let n = chosen c wrong in
      let under : n < bits c = omega (arith, (chosen_greatest c some wrong).under) in
      let few : broken_of c wrong n ≤ 1 = le_trans (le_of_eq (broken_shared c girth x met n₀ (omega arith) n))
      (girth.few n n₀ under (omega arith) (λ q. omega (arith, (chosen_greatest c some wrong).from))) in
      ap (lt_z (pos 0)) (excess_is c wrong n) ∙ sub_order 0 0 (broken_of c wrong n) (met_of c wrong n)
      ∙ le-ltb (0 + met_of c wrong n) (broken_of c wrong n + 0) (omega (arith, few, broken_met c wrong n, girth.many n under))

  pub unsent_stuck : by_excess c wrong ≡ stuck (chosen c wrong) (excess c wrong (chosen c wrong))
  unsent_stuck = stuck_next c wrong (λ e. omega (
    arith,
    sym (first_count c girth x met n₀ (omega arith))
        ∙ e,
    girth.many n₀ (omega arith),
  )) not_above
