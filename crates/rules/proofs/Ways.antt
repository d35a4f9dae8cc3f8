-- What a run does under any way of choosing, from what the law needs of the way: its flips, its bounds, and one wrong bit.
use mathlib.Core.Path.{◌≡◌, refl, sym, ap, ap₂, ◌∙◌}
use mathlib.Core.Bool.{true, false, true≢false, ◌&&◌, and_self, and-false, cond}
use Prim.Native.Nat.{ℕ, suc, ◌+◌, ◌-◌, ◌*◌, ◌≤◌, ◌<◌, zero-le}
use native.Mathlib.Nat.{le_of_eq, le_trans}
use native.Mathlib.Decide.{ℕ_discrete}
use native.Mathlib.Omega.{arith}
use lib.Dec.{ltb}
use lib.IntN.{ℤ, pos, negsuc, sub_ℕ}
use lib.ListN.{length}
use lib.Signed.{lt_z}
use borrow.Author.Tests.{lt-ltb, le-ltb, ne_eqb}
use Rattle.bits.specs.Bits.{Word, ◌⊕◌, count, flipped}
use Rattle.rules.specs.Codes.{Code, bits, checks}
use Rattle.rules.specs.Checks.{covers, check, broken, excess, broken_of, degree_of, met_of}
use Rattle.rules.specs.Flipping.{Next, quiet, stuck, flip, Way, run, ended, after}
use Rattle.bits.proofs.Sums.{⊕-false}
use Rattle.bits.proofs.Counting.{count_same, count_none, none_counted}
use Rattle.rules.proofs.Flips.{broken_met, excess_is, excess_order, check_flip, broken_flip, sub_order, flip_back}
use Rattle.rules.proofs.Runs.{every_run, run_quiet, run_flip, run_falls, run_enough, run_ends, End, ends_quiet, ends_stuck}
use Rattle.rules.proofs.Runs.{ends_limit}

-- ---- what is needed of a way

-- a bit that may be flipped: it is sent, and more of its checks are broken than met
pub record Chosen (c : Code) (x : Word) (n : ℕ) (ex : ℤ) : Type 0 where
  pub sent : c.unsent ≤ n
  pub under : n < bits c
  pub value : ex ≡ excess c x n
  pub above : met_of c x n < broken_of c x n

-- quiet just where no check is broken, and what is flipped may be
pub record Chooses (c : Code) (way : Way) : Type 0 where
  pub met_quiet : (x : Word) → broken c x ≡ 0 → way x ≡ quiet
  pub quiet_met : (x : Word) → way x ≡ quiet → broken c x ≡ 0
  pub flips : (x : Word) (n : ℕ) (ex : ℤ) → way x ≡ flip n ex → Chosen c x n ex

-- of the sent bits none is above what is flipped, and where nothing is, none is above 0
pub record TakesGreatest (c : Code) (way : Way) : Type 0 where
  pub most : (x : Word) (n : ℕ) (ex : ℤ) → way x ≡ flip n ex → (m : ℕ) → c.unsent ≤ m → m < bits c
      → lt_z (excess c x n) (excess c x m) ≡ false
  pub sticks : (x : Word) (n : ℕ) (ex : ℤ) → way x ≡ stuck n ex → (m : ℕ) → c.unsent ≤ m → m < bits c → lt_z (pos 0) (excess c x m) ≡ false

-- ---- the bounds

module _ {c : Code} {way : Way} (ch : Chooses c way) where
  -- a flip takes the bit's excess, at least 1, from the broken checks
  pub falls : (x : Word) (n : ℕ) (ex : ℤ) → way x ≡ flip n ex → 1 + broken c (flipped x n) ≤ broken c x
  falls x n ex e =
      let f : Chosen c x n ex = ch.flips x n ex e in
      omega (arith, f.above, broken_flip c x n f.under)

  -- the flips and the checks broken at the end are no more than the checks broken at the start
  pub run_fall : (limit : ℕ) (x : Word) → length (run way limit x).flips + broken c (run way limit x).word ≤ broken c x
  run_fall limit x = omega (arith, run_falls way (broken c) 1 falls limit x)

  -- so a limit no smaller than those is never the cause of a refusal
  pub limit_serves : (limit : ℕ) (x : Word) → broken c x ≤ limit → (run way limit x).number ≡ 6 → ⊥
  limit_serves limit x h = run_enough way (broken c) 1 falls limit x (omega arith)

  -- a run that ends quiet ends with every check met
  pub run_met : (limit : ℕ) (x : Word) → (run way limit x).number ≡ 0 → broken c (run way limit x).word ≡ 0
  run_met limit x e = go (run_ends way limit x)
    where
      go : End way limit (run way limit x) → broken c (run way limit x).word ≡ 0
      go (ends_quiet f w) = ch.quiet_met (run way limit x).word w
      go (ends_stuck f k ex w) = let z : ◌≡◌ {A = ℕ} 5 0 = sym f ∙ e in absurd (omega arith)
      go (ends_limit f l k ex w) = let z : ◌≡◌ {A = ℕ} 6 0 = sym f ∙ e in absurd (omega arith)

  -- no run changes a bit that is not sent
  pub run_unsent : (limit : ℕ) (x : Word) (k : ℕ) → k < c.unsent → (run way limit x).word k ≡ x k
  run_unsent limit x k h = every_run way (λ limit x r. r.word k ≡ x k) (λ limit x e. refl) (λ limit x n ex e. refl) (λ x n ex e. refl)
      (λ limit x n ex e r ih. ih ∙ ap (λ b. x k ⊕ b) (ne_eqb k n (λ q. omega (arith, (ch.flips x n ex e).sent))) ∙ ⊕-false (x k)) limit x

  -- where every bit has an even number of checks a flip takes at least 2 from the broken checks
  module _ (even : (n : ℕ) → n < bits c → (h : ℕ) × (degree_of c n ≡ 2 * h)) where
    pub falls_two : (x : Word) (n : ℕ) (ex : ℤ) → way x ≡ flip n ex → 2 + broken c (flipped x n) ≤ broken c x
    falls_two x n ex e =
        let f : Chosen c x n ex = ch.flips x n ex e in
        let h = even n f.under in
        omega (arith, f.above, broken_flip c x n f.under, broken_met c x n, h.1)

    pub run_half : (limit : ℕ) (x : Word) → 2 * length (run way limit x).flips + broken c (run way limit x).word ≤ broken c x
    run_half = run_falls way (broken c) 2 falls_two

    pub half_serves : (limit : ℕ) (x : Word) → broken c x ≤ 2 * limit + 1 → (run way limit x).number ≡ 6 → ⊥
    half_serves limit x h = run_enough way (broken c) 2 falls_two limit x (omega arith)

-- ---- a bit of which more checks are broken than met is flipped, or one that it is not above

-- an excess is above 0 where more checks are broken than met
pub above_is : (c : Code) (x : Word) (n : ℕ) → lt_z (pos 0) (excess c x n) ≡ ltb (met_of c x n) (broken_of c x n)
above_is c x n =
    let a : 0 + met_of c x n ≡ met_of c x n = omega arith in
    let b : broken_of c x n + 0 ≡ broken_of c x n = omega arith in
    ap (lt_z (pos 0)) (excess_is c x n) ∙ sub_order 0 0 (broken_of c x n) (met_of c x n) ∙ ap₂ ltb a b

-- where no check is broken none of a bit's is
pub none_broken : (c : Code) (x : Word) → broken c x ≡ 0 → (n : ℕ) → broken_of c x n ≡ 0
unfolding broken broken_of
none_broken c x e n = count_none (checks c) _ (λ k l. ap (λ b. covers c k n && b) (none_counted (checks c) (check c x) e k l)
    ∙ and-false (covers c k n))

module _ {c : Code} {way : Way} (ch : Chooses c way) (takes : TakesGreatest c way) (x : Word) (m : ℕ) (sent : c.unsent ≤ m)
    (under : m < bits c) (above : met_of c x m < broken_of c x m) where
  pub record FlipsOne : Type 0 where
    pub bit : ℕ
    pub value : ℤ
    pub is : way x ≡ flip bit value
    pub low : lt_z (excess c x bit) (excess c x m) ≡ false

  pub flips_one : FlipsOne
  flips_one = go (way x) refl
    where
      go : (nx : Next) → way x ≡ nx → FlipsOne
      go quiet e = absurd (omega (arith, none_broken c x (ch.quiet_met x e) m))
      go (stuck n ex) e = absurd (true≢false (sym (above_is c x m ∙ lt-ltb (met_of c x m) (broken_of c x m) above)
          ∙ takes.sticks x n ex e m sent under))
      go (flip n ex) e = record { bit = n; value = ex; is = e; low = takes.most x n ex e m sent under }

-- ---- one wrong bit

-- the checks that two bits share
unfoldable pub shared : Code → ℕ → ℕ → ℕ
shared c n n₀ = count (checks c) (λ k. covers c k n && covers c k n₀)

-- no two bits share two checks, and every bit has at least three
pub record Girth (c : Code) : Type 0 where
  pub few : (n n₀ : ℕ) → n < bits c → n₀ < bits c → (n ≡ n₀ → ⊥) → shared c n n₀ ≤ 1
  pub many : (n : ℕ) → n < bits c → 3 ≤ degree_of c n

-- d - 0 is d
pub whole : (d : ℕ) → sub_ℕ d 0 ≡ pos d
whole d = ap (λ b. cond b (negsuc (0 - suc d)) (pos (d - 0))) (le-ltb d 0 zero-le) ∙ ap pos (omega arith)

module _ (c : Code) (girth : Girth c) (x : Word) (met : broken c x ≡ 0) (n₀ : ℕ) (h₀ : n₀ < bits c) where
  -- the broken checks are the bit's own
  pub broken_own : (k : ℕ) → k < checks c → check c (flipped x n₀) k ≡ covers c k n₀
  unfolding broken
  broken_own k l = check_flip c x n₀ h₀ k ∙ ap (λ z. z ⊕ covers c k n₀) (none_counted (checks c) (check c x) met k l)

  pub broken_shared : (n : ℕ) → broken_of c (flipped x n₀) n ≡ shared c n n₀
  unfolding broken_of shared
  broken_shared n = count_same (checks c) _ _ (λ k l. ap (λ z. covers c k n && z) (broken_own k l))

  own : broken_of c (flipped x n₀) n₀ ≡ degree_of c n₀
  unfolding shared degree_of
  own = broken_shared n₀ ∙ count_same (checks c) _ _ (λ k l. and_self (covers c k n₀))

  pub first_count : broken c (flipped x n₀) ≡ degree_of c n₀
  unfolding broken degree_of
  first_count = count_same (checks c) _ _ broken_own

  none_met : met_of c (flipped x n₀) n₀ ≡ 0
  none_met = omega (arith, broken_met c (flipped x n₀) n₀, own)

  -- its excess is above that of every other bit
  above_others : (n : ℕ) → n < bits c → (n ≡ n₀ → ⊥) → lt_z (excess c (flipped x n₀) n) (excess c (flipped x n₀) n₀) ≡ true
  above_others n h d =
      let one : broken_of c (flipped x n₀) n ≤ 1 = le_trans (le_of_eq (broken_shared n)) (girth.few n n₀ h h₀ d) in
      excess_order c (flipped x n₀) n n₀
      ∙ lt-ltb (broken_of c (flipped x n₀) n + met_of c (flipped x n₀) n₀) (broken_of c (flipped x n₀) n₀ + met_of c (flipped x n₀) n)
      (omega (arith, one, own, none_met, girth.many n₀ h₀))

  excess_own : excess c (flipped x n₀) n₀ ≡ pos (degree_of c n₀)
  excess_own = excess_is c (flipped x n₀) n₀ ∙ ap₂ sub_ℕ own none_met ∙ whole (degree_of c n₀)

  module _ {way : Way} (ch : Chooses c way) (takes : TakesGreatest c way) (sent : c.unsent ≤ n₀) where
    -- so it is the one that is flipped
    pub one_next : way (flipped x n₀) ≡ flip n₀ (pos (degree_of c n₀))
    one_next = go (flips_one ch takes (flipped x n₀) n₀ sent h₀ (omega (arith, own, none_met, girth.many n₀ h₀)))
      where
        go : FlipsOne ch takes (flipped x n₀) n₀ sent h₀ (omega (arith, own, none_met, girth.many n₀ h₀))
            → way (flipped x n₀) ≡ flip n₀ (pos (degree_of c n₀))
        go f = by (ℕ_discrete f.bit n₀)
          where
            chosen : Chosen c (flipped x n₀) f.bit f.value
            chosen = ch.flips (flipped x n₀) f.bit f.value f.is

            by : Dec (f.bit ≡ n₀) → way (flipped x n₀) ≡ flip n₀ (pos (degree_of c n₀))
            by (yes e) = f.is ∙ ap₂ flip e (chosen.value ∙ ap (excess c (flipped x n₀)) e ∙ excess_own)
            by (no d) = absurd (true≢false (sym (above_others f.bit chosen.under d) ∙ f.low))

    -- and the run ends with it
    pub one_mended : (limit : ℕ) → run way (suc limit) (flipped x n₀) ≡ after n₀ (pos (degree_of c n₀)) (ended 0 x)
    one_mended limit =
        run_flip way limit (flipped x n₀) n₀ (pos (degree_of c n₀)) one_next
        ∙ ap (after n₀ (pos (degree_of c n₀))) (ap (run way limit) (flip_back x n₀) ∙ run_quiet way limit x (ch.met_quiet x met))
