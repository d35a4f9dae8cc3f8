-- A run does not depend on which codeword was sent: a word that meets every check, added to what the run starts from, is carried along.
use mathlib.Core.Path.{◌≡◌, ap, ◌∙◌, fun_ext}
use Prim.Native.Nat.{ℕ, ◌<◌}
use lib.Dec.{eqb}
use mathlib.Core.Bool.{◌&&◌}
use Rattle.bits.specs.Bits.{Word, ◌⊕◌, sum}
use Rattle.rules.specs.Codes.{Code, bits, checks}
use Rattle.rules.specs.Checks.{covers, check, broken}
use Rattle.rules.specs.Flipping.{Way, Run, run, after}
use Rattle.bits.proofs.Sums.{⊕-assoc, and-⊕, sum_linear}
use Rattle.bits.proofs.Counting.{none_counted}
use Rattle.rules.proofs.Runs.{every_run, run_quiet, run_stuck, run_limit, run_flip}

-- the sum of two words
abbrev pub plus : Word → Word → Word
plus x e n = x n ⊕ e n

pub check_plus : (c : Code) (x e : Word) (k : ℕ) → check c (plus x e) k ≡ check c x k ⊕ check c e k
unfolding check
check_plus c x e k =
    ap (sum (bits c)) (fun_ext (λ n. and-⊕ (covers c k n) (x n) (e n)))
    ∙ (sum_linear (bits c)).plus (λ n. covers c k n && x n) (λ n. covers c k n && e n)

module _ (c : Code) (x : Word) (met : broken c x ≡ 0) where
  pub check_alike : (e : Word) (k : ℕ) → k < checks c → check c (plus x e) k ≡ check c e k
  unfolding broken
  check_alike e k l = check_plus c x e k ∙ ap (λ b. b ⊕ check c e k) (none_counted (checks c) (check c x) met k l)

  -- under a way that asks for the checks alone
  module _ (way : Way) (asks : (x y : Word) → ((k : ℕ) → k < checks c → check c x k ≡ check c y k) → way x ≡ way y) where
    abbrev pub moved : Run → Run
    moved r = record { flips = r.flips; word = plus x r.word; number = r.number }

    same : (e : Word) → way (plus x e) ≡ way e
    same e = asks (plus x e) e (check_alike e)

    pub run_alike : (limit : ℕ) (e : Word) → run way limit (plus x e) ≡ moved (run way limit e)
    run_alike = every_run way (λ limit e r. run way limit (plus x e) ≡ moved r)
        (λ limit e q. run_quiet way limit (plus x e) (same e ∙ q))
        (λ limit e n ex q. run_stuck way limit (plus x e) n ex (same e ∙ q))
        (λ e n ex q. run_limit way (plus x e) n ex (same e ∙ q))
        (λ limit e n ex q r ih.
        run_flip way limit (plus x e) n ex (same e ∙ q)
        ∙ ap (λ y. after n ex (run way limit y)) (fun_ext (λ i. ⊕-assoc (x i) (e i) (eqb i n))) ∙ ap (after n ex) ih)
