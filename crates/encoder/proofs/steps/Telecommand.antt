-- Codes 1 to 3: the walk of the checks of the information is the encoder's parity.
use mathlib.Core.Path.{◌≡◌, refl}
use mathlib.Core.Bool.{false}
use Prim.Native.Nat.{ℕ, ◌+◌, ◌-◌, ◌/◌, ◌%◌, ◌≤◌, ◌<◌}
use Rattle.bits.specs.Bits.{Word}
use Rattle.rules.specs.Tables.{parity16, parity32, parity64, generator16, generator32, generator64}
use Rattle.rules.specs.Codes.{bits, information, code1, code2, code3}
use Rattle.rules.specs.Encoding.{parity_bit}
use Rattle.rules.proofs.Published.{tests1, tests2, tests3, met_own1, met_own2, met_own3}
use Rattle.encoder.specs.steps.Steps.{walked, check_rows, steps16, steps32, steps64}
use Rattle.encoder.proofs.steps.Facts.{itself, facts16, facts32, facts64}
use Rattle.encoder.proofs.steps.Solved.{by_itself, ending_own}

pub walk1 : (y : Word) → ((n : ℕ) → information code1 ≤ n → y n ≡ false) → (p : ℕ) → p < bits code1 - information code1
    → walked 16 steps16 15 (check_rows code1 y) ((p / 16 + 1) % 4) (p % 16) ≡ parity_bit code1 y p
unfolding code1 parity16 generator16
walk1 y short =
    ending_own 16 8 0 15 parity16 generator16 16 4 3 1 itself steps16 tests1.shape refl refl tt facts16 y short
    (λ r i hr hi. by_itself 15 (check_rows code1 y r) i hi) met_own1

pub walk2 : (y : Word) → ((n : ℕ) → information code2 ≤ n → y n ≡ false) → (p : ℕ) → p < bits code2 - information code2
    → walked 32 steps32 15 (check_rows code2 y) ((p / 32 + 1) % 4) (p % 32) ≡ parity_bit code2 y p
unfolding code2 parity32 generator32
walk2 y short =
    ending_own 32 16 0 31 parity32 generator32 32 4 3 1 itself steps32 tests2.shape refl refl tt facts32 y short
    (λ r i hr hi. by_itself 31 (check_rows code2 y r) i hi) met_own2

pub walk3 : (y : Word) → ((n : ℕ) → information code3 ≤ n → y n ≡ false) → (p : ℕ) → p < bits code3 - information code3
    → walked 64 steps64 15 (check_rows code3 y) ((p / 64 + 1) % 4) (p % 64) ≡ parity_bit code3 y p
unfolding code3 parity64 generator64
walk3 y short =
    ending_own 64 32 0 63 parity64 generator64 64 4 3 1 itself steps64 tests3.shape refl refl tt facts64 y short
    (λ r i hr hi. by_itself 63 (check_rows code3 y r) i hi) met_own3
