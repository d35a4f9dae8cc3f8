-- The run, over any way of choosing.
use mathlib.Core.Path.{◌≡◌, refl, sym, ap, ◌∙◌, subst}
use Prim.Native.Nat.{ℕ, zero, suc, ◌+◌, ◌*◌, ◌≤◌, ◌<◌, zero-le, suc-le-suc}
use native.Mathlib.Nat.{le_of_eq, zero-add, suc-add, mul-suc, mul-zero}
use native.Mathlib.Omega.{arith}
use lib.IntN.{ℤ}
use lib.ListN.{length}
use Rattle.bits.specs.Bits.{Word, flipped}
use Rattle.rules.specs.Flipping.{Next, quiet, stuck, flip, Way, Run, ended, after, run}

module _ (way : Way) where
  -- what a run is, by what comes next
  pub run_quiet : (limit : ℕ) (x : Word) → way x ≡ quiet → run way limit x ≡ ended 0 x
  unfolding run
  run_quiet zero x e = rw (e, run)
  run_quiet (suc limit) x e = rw (e, run)

  pub run_stuck : (limit : ℕ) (x : Word) (n : ℕ) (ex : ℤ) → way x ≡ stuck n ex → run way limit x ≡ ended 5 x
  unfolding run
  run_stuck zero x n ex e = rw (e, run)
  run_stuck (suc limit) x n ex e = rw (e, run)

  pub run_limit : (x : Word) (n : ℕ) (ex : ℤ) → way x ≡ flip n ex → run way 0 x ≡ ended 6 x
  unfolding run
  run_limit x n ex e = rw (e, run)

  pub run_flip : (limit : ℕ) (x : Word) (n : ℕ) (ex : ℤ) → way x ≡ flip n ex
      → run way (suc limit) x ≡ after n ex (run way limit (flipped x n))
  unfolding run
  run_flip limit x n ex e = rw (e, run)

  -- what holds of every run: of a run that ends at once, of one that the limit ends, and of one that goes on with a flip
  module _ (P : ℕ → Word → Run → Type 0)
      (at_quiet : (limit : ℕ) (x : Word) → way x ≡ quiet → P limit x (ended 0 x))
      (at_stuck : (limit : ℕ) (x : Word) (n : ℕ) (ex : ℤ) → way x ≡ stuck n ex → P limit x (ended 5 x))
      (at_limit : (x : Word) (n : ℕ) (ex : ℤ) → way x ≡ flip n ex → P 0 x (ended 6 x))
      (at_flip : (limit : ℕ) (x : Word) (n : ℕ) (ex : ℤ) → way x ≡ flip n ex → (r : Run) → P limit (flipped x n) r
      → P (suc limit) x (after n ex r)) where
    pub every_run : (limit : ℕ) (x : Word) → P limit x (run way limit x)
    every_run zero x = go (way x) refl
      where
        go : (nx : Next) → way x ≡ nx → P 0 x (run way 0 x)
        go quiet e = subst (P 0 x) (sym (run_quiet 0 x e)) (at_quiet 0 x e)
        go (stuck n ex) e = subst (P 0 x) (sym (run_stuck 0 x n ex e)) (at_stuck 0 x n ex e)
        go (flip n ex) e = subst (P 0 x) (sym (run_limit x n ex e)) (at_limit x n ex e)
    every_run (suc limit) x = go (way x) refl (λ n. every_run limit (flipped x n))
      where
        go : (nx : Next) → way x ≡ nx → ((n : ℕ) → P limit (flipped x n) (run way limit (flipped x n)))
            → P (suc limit) x (run way (suc limit) x)
        go quiet e ih = subst (P (suc limit) x) (sym (run_quiet (suc limit) x e)) (at_quiet (suc limit) x e)
        go (stuck n ex) e ih = subst (P (suc limit) x) (sym (run_stuck (suc limit) x n ex e)) (at_stuck (suc limit) x n ex e)
        go (flip n ex) e ih = subst (P (suc limit) x) (sym (run_flip limit x n ex e))
            (at_flip limit x n ex e (run way limit (flipped x n)) (ih n))

  -- a run makes no more flips than its limit
  pub run_within : (limit : ℕ) (x : Word) → length (run way limit x).flips ≤ limit
  run_within = every_run (λ limit x r. length r.flips ≤ limit) (λ limit x e. zero-le) (λ limit x n ex e. zero-le) (λ x n ex e. zero-le)
      (λ limit x n ex e r ih. suc-le-suc ih)

  -- how a run ends
  pub data End (limit : ℕ) (r : Run) : Type 0 where
    ends_quiet : r.number ≡ 0 → way r.word ≡ quiet → End limit r
    ends_stuck : r.number ≡ 5 → (n : ℕ) (ex : ℤ) → way r.word ≡ stuck n ex → End limit r
    ends_limit : r.number ≡ 6 → length r.flips ≡ limit → (n : ℕ) (ex : ℤ) → way r.word ≡ flip n ex → End limit r

  pub run_ends : (limit : ℕ) (x : Word) → End limit (run way limit x)
  run_ends = every_run (λ limit x r. End limit r)
      (λ limit x e. ends_quiet refl e) (λ limit x n ex e. ends_stuck refl n ex e) (λ x n ex e. ends_limit refl refl n ex e)
      (λ limit x n ex e r ih. later limit n ex r ih)
    where
      later : (limit n : ℕ) (ex : ℤ) (r : Run) → End limit r → End (suc limit) (after n ex r)
      later limit n ex r (ends_quiet e w) = ends_quiet e w
      later limit n ex r (ends_stuck e n' ex' w) = ends_stuck e n' ex' w
      later limit n ex r (ends_limit e l n' ex' w) = ends_limit e (ap suc l) n' ex' w

  -- a larger limit changes nothing once a run ended otherwise than by the limit
  pub run_unchanged : (more limit : ℕ) (x : Word) → ((run way limit x).number ≡ 6 → ⊥) → run way (limit + more) x ≡ run way limit x
  run_unchanged more = every_run (λ limit x r. (r.number ≡ 6 → ⊥) → run way (limit + more) x ≡ r)
      (λ limit x e no6. run_quiet (limit + more) x e)
      (λ limit x n ex e no6. run_stuck (limit + more) x n ex e)
      (λ x n ex e no6. absurd (no6 refl))
      (λ limit x n ex e r ih no6. ap (λ z. run way z x) (suc-add limit more) ∙ run_flip (limit + more) x n ex e ∙ ap (after n ex) (ih no6))

  -- where each flip takes at least d from a measure, the flips are bounded by it
  module _ (measure : Word → ℕ) (d : ℕ) (falls : (x : Word) (n : ℕ) (ex : ℤ) → way x ≡ flip n ex → d + measure (flipped x n) ≤ measure x)
    where
      pub run_falls : (limit : ℕ) (x : Word) → d * length (run way limit x).flips + measure (run way limit x).word ≤ measure x
      run_falls = every_run (λ limit x r. d * length r.flips + measure r.word ≤ measure x)
          (λ limit x e. stays x) (λ limit x n ex e. stays x) (λ x n ex e. stays x)
          (λ limit x n ex e r ih. omega (arith, mul-suc d (length r.flips), falls x n ex e, ih))
        where
          stays : (x : Word) → d * 0 + measure x ≤ measure x
          stays x = le_of_eq (ap (λ z. z + measure x) (mul-zero d) ∙ zero-add (measure x))

      -- so a limit no smaller than that bound is never the cause of a refusal
      pub run_enough : (limit : ℕ) (x : Word) → measure x < d * suc limit → (run way limit x).number ≡ 6 → ⊥
      run_enough limit x h six = go (run_ends limit x)
        where
          go : End limit (run way limit x) → ⊥
          go (ends_quiet e w) = let z : ◌≡◌ {A = ℕ} 0 6 = sym e ∙ six in omega arith
          go (ends_stuck e n ex w) = let z : ◌≡◌ {A = ℕ} 5 6 = sym e ∙ six in omega arith
          go (ends_limit e l n ex w) =
              omega (arith, run_falls limit x, falls (run way limit x).word n ex w, ap (λ z. d * z) l, mul-suc d limit)
