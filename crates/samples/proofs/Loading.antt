-- Samples and the patterns that are made of them.
use mathlib.Core.Path.{◌≡◌, refl, sym, ap, ap₂, ◌∙◌, subst}
use mathlib.Core.Bool.{true, false, true≢false, not}
use mathlib.Core.List.{List, [], ◌∷◌}
use Prim.Native.Nat.{ℕ, suc, ◌+◌, ◌≤◌, ◌<◌, suc-le-suc}
use native.Mathlib.Nat.{le_of_suc-le-suc, not-suc-le-zero, zero-lt-suc}
use native.Mathlib.Decide.{ℕ_discrete}
use native.Mathlib.Omega.{arith}
use lib.Dec.{T}
use lib.Ieee.{Float, nan, inf, fin, eq, ne, is_nan, of_bits, binary32}
use lib.Ieee.Compare.{differs_from_itself}
use lib.ListN.{length, take, set}
use lib.Seq.{get_or-set_same, get_or-set_other}
use Rattle.magnitudes.specs.Samples.{sample_of}
use Rattle.magnitudes.specs.Patterns.{samples_of, pattern_of}

-- a number equals itself
pub is_number : (s : Float) → eq s s ≡ true → T (not (is_nan s))
unfolding eq is_nan
is_number nan e = absurd (true≢false (sym e))
is_number (inf s) e = tt
is_number (fin s m e) q = tt

-- what does not is the one value that is none
pub is_none : (s : Float) → eq s s ≡ false → of_bits binary32 0x7fc0_0000 ≡ s
unfolding ne
is_none s e = pattern_none ∙ sym (differs_from_itself s (subst (λ b. T (not b)) (sym e) tt))
  where
    pattern_none : of_bits binary32 0x7fc0_0000 ≡ nan
    pattern_none = unfold of_bits in refl

-- one pattern more
pub load_more : (samples : List Float) (patterns : List ℕ) (i v : ℕ) → i < length patterns
    → ((j : ℕ) → j < i → of_bits binary32 (pattern_of patterns j) ≡ sample_of samples j) → of_bits binary32 v ≡ sample_of samples i
    → (j : ℕ) → j < i + 1
    → of_bits binary32 (pattern_of (set patterns i v) j) ≡ sample_of samples j
load_more samples patterns i v h was is j l = go (ℕ_discrete j i)
  where
    go : Dec (j ≡ i) → of_bits binary32 (pattern_of (set patterns i v) j) ≡ sample_of samples j
    go (yes e) =
        ap (λ k. of_bits binary32 (pattern_of (set patterns i v) k)) e ∙ ap (of_bits binary32) (get_or-set_same patterns i v 0 h) ∙ is
        ∙ ap (sample_of samples) (sym e)
    go (no d) = ap (of_bits binary32) (get_or-set_other patterns i j v 0 d) ∙ was j (omega arith)

-- all of them
pub loaded : (samples : List Float) (patterns : List ℕ) → length samples ≤ length patterns
    → ((i : ℕ) → i < length samples → of_bits binary32 (pattern_of patterns i) ≡ sample_of samples i)
    → samples_of (take (length samples) patterns) ≡ samples
loaded [] patterns h is = refl
loaded (s ∷ samples) [] h is = absurd (not-suc-le-zero h)
loaded (s ∷ samples) (p ∷ patterns) h is =
    ap₂ ◌∷◌ (is 0 (zero-lt-suc (length samples)))
    (loaded samples patterns (le_of_suc-le-suc h) (λ i l. is (suc i) (suc-le-suc l)))
