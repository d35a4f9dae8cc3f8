-- How many bits a check covers, in how many checks a bit lies, and what excess it can have: document 01's sentences on the tables, by code
-- number.
use mathlib.Core.Path.{◌≡◌, refl, sym, ap, ◌∙◌, subst}
use mathlib.Core.Bool.{Bool, true, false, not}
use mathlib.Core.List.{List, []}
use Prim.Native.Nat.{ℕ, suc, ◌+◌, ◌*◌, ◌/◌, ◌%◌, ◌≤◌, ◌<◌}
use native.Mathlib.Nat.{zero-lt-suc, div-lt_iff_lt-mul, le-div_iff_mul-le, le_trans, le_of_eq}
use native.Mathlib.Omega.{arith}
use lib.Dec.{T, eqb, ltb, eqb→eq, lit≤}
use lib.IntN.{pos, negsuc, sub_ℕ}
use lib.ListN.{length, get_or}
use lib.Signed.{lt_z, ◌≤ℤ◌, lt_z_no}
use borrow.Author.Tests.{le-ltb, ltb-false}
use Rattle.bits.specs.Bits.{Word, count, below, when◌then◌else◌}
use Rattle.rules.specs.Tables.{parity16, parity32, parity64, parity511, generator16, generator32, generator64, generator511}
use Rattle.rules.specs.Codes.{Code, code, code1, code2, code3, code4, code5, bits, checks, information, offered, telecommanded}
use Rattle.rules.specs.Checks.{covers, broken_of, met_of, degree_of, excess}
use Rattle.bits.proofs.Sums.{below_at}
use Rattle.bits.proofs.Orders.{ltb_iff}
use Rattle.bits.proofs.Counting.{each}
use Rattle.rules.proofs.Blocks.{degree, with_tables, check_wide}
use Rattle.rules.proofs.Flips.{broken_met, excess_is, sub_order}
use Rattle.rules.proofs.Published.{Tests, tested_degree, tests1, tests2, tests3, near_tests, near_four}
use Rattle.rules.proofs.Numbers.{five, telecommand_offered}

-- ---- one law for each sentence, from a test of the table

-- every row has so many entries; the information blocks have so many in all rows, the others so many
abbrev rows_have : ℕ → List (List (List ℕ)) → Bool
rows_have entries H = below (length H) (λ r. eqb (each (get_or H r []) length) entries)

abbrev blocks_have : ℕ → ℕ → ℕ → ℕ → List (List (List ℕ)) → Bool
blocks_have B inform own parity H = below B (λ b. eqb (degree H b) (when ltb b inform then own else parity))

module _ (octets_of_word octets_of_information unsent m : ℕ) (H : List (List (List ℕ))) (gs : List (List ℕ)) (printed B C : ℕ)
    (t : Tests octets_of_word octets_of_information unsent m H gs printed B C) where
  abbrev c : Code
  c = with_tables octets_of_word octets_of_information unsent m H gs printed

  covered : (entries : ℕ) → T (rows_have entries H) → (k : ℕ) → k < checks c → count (bits c) (λ n. covers c k n) ≡ entries
  covered entries u k h =
      check_wide octets_of_word octets_of_information unsent m H gs printed B t.shape k h
      ∙ eqb→eq (each (get_or H (k / suc m) []) length) entries
      (below_at (length H) (λ r. eqb (each (get_or H r []) length) entries) u (k / suc m) ((div-lt_iff_lt-mul (zero-lt-suc m)).1 h))

  lies : (own parity : ℕ) → T (blocks_have B (length gs) own parity H) → (n : ℕ) → n < bits c
      → degree_of c n ≡ (when ltb n (information c) then own else parity)
  lies own parity u n h =
      tested_degree octets_of_word octets_of_information unsent m H gs printed B C t n h
      ∙ eqb→eq (degree H (n / suc m)) (when ltb (n / suc m) (length gs) then own else parity)
      (below_at B (λ b. eqb (degree H b) (when ltb b (length gs) then own else parity)) u (n / suc m)
      ((div-lt_iff_lt-mul (zero-lt-suc m)).1 (subst (λ z. n < z * suc m) t.wide h)))
      ∙ ap (λ z. when z then own else parity)
      (ltb_iff (n / suc m) (length gs) n (length gs * suc m) (div-lt_iff_lt-mul (zero-lt-suc m)).0 (le-div_iff_mul-le (zero-lt-suc m)).0)

-- ---- the excess, for any code

module _ (c : Code) (x : Word) (n : ℕ) where
  -- at least minus the number of the bit's checks, at most that number
  excess_least : degree_of c n ≤ 5 → negsuc 4 ≤ℤ excess c x n
  excess_least h =
      lt_z_no (subst (λ z. T (not z)) (sym (ap (λ e. lt_z e (negsuc 4)) (excess_is c x n) ∙ sub_order (broken_of c x n) (met_of c x n) 0 5
      ∙ le-ltb (broken_of c x n + 5) (0 + met_of c x n) (omega (arith, broken_met c x n)))) tt)

  excess_most : degree_of c n ≤ 5 → excess c x n ≤ℤ pos 5
  excess_most h =
      lt_z_no (subst (λ z. T (not z)) (sym (ap (λ e. lt_z (pos 5) e) (excess_is c x n) ∙ sub_order 5 0 (broken_of c x n) (met_of c x n)
      ∙ le-ltb (5 + met_of c x n) (broken_of c x n + 0) (omega (arith, broken_met c x n)))) tt)

  -- never 0 where the bit has an odd number of checks
  pub excess_odd : degree_of c n % 2 ≡ 1 → excess c x n ≡ pos 0 → ⊥
  excess_odd odd e =
      let value : sub_ℕ (broken_of c x n) (met_of c x n) ≡ pos 0 = sym (excess_is c x n) ∙ e in
      let b = broken_of c x n in
      let m = met_of c x n in
      let low = ltb-false (b + 0) (0 + m) (sym (sub_order b m 0 0) ∙ ap (λ z. lt_z z (pos 0)) value) in
      let high = ltb-false (0 + m) (b + 0) (sym (sub_order 0 0 b m) ∙ ap (λ z. lt_z (pos 0) z) value) in
      omega (arith, broken_met c x n)

-- ---- the five codes

-- each check covers 8 bits; of codes 4 and 5, 32
pub check_covers : (n : ℕ) → T (offered n) → (k : ℕ) → k < checks (code n)
    → count (bits (code n)) (λ b. covers (code n) k b) ≡ (when telecommanded n then 8 else 32)
unfolding code code1 code2 code3 code4 code5 parity16 parity32 parity64 parity511
check_covers =
    five (λ n. (k : ℕ) → k < checks (code n) → count (bits (code n)) (λ b. covers (code n) k b) ≡ (when telecommanded n then 8 else 32))
    (covered 16 8 0 15 parity16 generator16 16 8 4 tests1 8 tt)
    (covered 32 16 0 31 parity32 generator32 32 8 4 tests2 8 tt)
    (covered 64 32 0 63 parity64 generator64 64 8 4 tests3 8 tt)
    (covered 1022 895 0 510 parity511 generator511 512 16 2 (near_tests 1022 895 0) 32 tt)
    (covered 1020 892 18 510 parity511 generator511 512 16 2 (near_tests 1020 892 18) 32 tt)

-- an information bit lies in 5 checks, a parity bit in 3; each bit of codes 4 and 5 in 4
abbrev pub degrees : ℕ → ℕ → ℕ
degrees n b = when telecommanded n then (when ltb b (information (code n)) then 5 else 3) else 4

pub bit_degree : (n : ℕ) → T (offered n) → (b : ℕ) → b < bits (code n) → degree_of (code n) b ≡ degrees n b
unfolding code code1 code2 code3 code4 code5 parity16 parity32 parity64 generator16 generator32 generator64
bit_degree =
    five (λ n. (b : ℕ) → b < bits (code n) → degree_of (code n) b ≡ degrees n b)
    (lies 16 8 0 15 parity16 generator16 16 8 4 tests1 5 3 tt)
    (lies 32 16 0 31 parity32 generator32 32 8 4 tests2 5 3 tt)
    (lies 64 32 0 63 parity64 generator64 64 8 4 tests3 5 3 tt)
    (near_four 1022 895 0)
    (near_four 1020 892 18)

few : (a b : Bool) → (when a then (when b then 5 else 3) else 4) ≤ 5
few true true = lit≤ tt
few true false = lit≤ tt
few false b = lit≤ tt

-- the excess is from -5 to 5
pub excess_between : (n : ℕ) → T (offered n) → (x : Word) (b : ℕ) → b < bits (code n)
    → (negsuc 4 ≤ℤ excess (code n) x b) × (excess (code n) x b ≤ℤ pos 5)
excess_between n t x b h =
    let five_most : degree_of (code n) b ≤ 5 =
    le_trans (le_of_eq (bit_degree n t b h)) (few (telecommanded n) (ltb b (information (code n)))) in
    (excess_least (code n) x b five_most, excess_most (code n) x b five_most)

-- never 0 in codes 1 to 3: 5 and 3 are odd
pub excess_some : (n : ℕ) → T (telecommanded n) → (x : Word) (b : ℕ) → b < bits (code n) → excess (code n) x b ≡ pos 0 → ⊥
excess_some n t x b h =
    excess_odd (code n) x b
    (ap (λ d. d % 2) (bit_degree n (telecommand_offered n t) b h) ∙ odd (telecommanded n) (ltb b (information (code n))) t)
  where
    odd : (a b : Bool) → T a → (when a then (when b then 5 else 3) else 4) % 2 ≡ 1
    odd true true u = refl
    odd true false u = refl
    odd false b u = absurd u
