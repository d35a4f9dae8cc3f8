-- What the published tables have, computed from them once for each table, and what follows for a code: the ground of every theorem.
use mathlib.Core.Path.{◌≡◌, refl, sym, ◌∙◌, subst}
use mathlib.Core.Bool.{Bool, true, false, not, ◌&&◌}
use mathlib.Core.List.{List, []}
use Prim.Native.Nat.{ℕ, suc, ◌+◌, ◌-◌, ◌*◌, ◌/◌, ◌≤◌, ◌<◌}
use native.Mathlib.Nat.{zero-lt-suc, div-lt_iff_lt-mul, le_trans, le_of_eq}
use lib.Dec.{T, eqb, leb, eqb→eq, leb→le, lit<, lit≤}
use lib.ListN.{length, get_or}
use Rattle.bits.specs.Bits.{Word, ◌⊕◌, below}
use Rattle.rules.specs.Tables.{parity16, parity32, parity64, parity511, generator16, generator32, generator64, generator511}
use Rattle.rules.specs.Codes.{Code, bits, information, code1, code2, code3, code4, code5}
use Rattle.rules.specs.Checks.{broken, degree_of}
use Rattle.rules.specs.Encoding.{parity_bit, OwnParity}
use Rattle.rules.specs.Identity.{rows_tied_of, all_padded_of, tied}
use Rattle.bits.proofs.Sums.{below_at}
use Rattle.rules.proofs.Blocks.{degree, shaped, with_tables, degree_in}
use Rattle.rules.proofs.Ways.{Girth}
use Rattle.rules.proofs.Shared.{shared_once, shared_few}
use Rattle.rules.proofs.Quiet.{drops, sized}
use Rattle.rules.proofs.Unique.{Invertible, evens}
use Rattle.rules.proofs.Inverse.{inverse16, inverse32, inverse64, inverse511}
use Rattle.rules.proofs.Parity.{own_met, met_own, inverted, met_inverted, inverted_met}

-- ---- the tests of one pair of tables

pub record Tests (octets_of_word octets_of_information unsent m : ℕ) (H : List (List (List ℕ))) (gs : List (List ℕ))
    (printed B C : ℕ) : Type 0 where
  pub shape : T (shaped (suc m) B H)
  pub wide : length (get_or H 0 []) ≡ B
  pub room : bits (with_tables octets_of_word octets_of_information unsent m H gs printed) - information
      (with_tables octets_of_word octets_of_information unsent m H gs printed) ≡ C * suc m
  pub tables : T (rows_tied_of (suc m) printed H gs)
  pub size : T (sized C (drops (length gs) H))
  pub many : T (below B (λ b. leb 3 (degree H b)))
  pub apart : T (shared_once (suc m) B H)

-- ---- what every theorem needs of a code

pub record Published (c : Code) : Type 0 where
  pub some : c.unsent < bits c
  pub early : c.unsent < c.size
  pub after : information c ≤ bits c
  pub before : c.unsent ≤ information c
  pub fits : bits c - c.unsent ≤ 8 * c.octets_of_word
  pub held : c.octets_of_information ≤ c.octets_of_word
  pub room : information c - c.unsent ≤ 8 * c.octets_of_information
  pub girth : Girth c
  pub own_quiet : (x : Word) → OwnParity c x → broken c x ≡ 0

module _ (octets_of_word octets_of_information unsent m : ℕ) (H : List (List (List ℕ))) (gs : List (List ℕ)) (printed B C : ℕ)
    (t : Tests octets_of_word octets_of_information unsent m H gs printed B C) where
  abbrev c : Code
  c = with_tables octets_of_word octets_of_information unsent m H gs printed

  inside : {n : ℕ} → n < bits c → n < B * suc m
  inside {n} = subst (λ z. n < z * suc m) t.wide

  pub tested_degree : (n : ℕ) → n < bits c → degree_of c n ≡ degree H (n / suc m)
  unfolding degree_of
  tested_degree n h = degree_in octets_of_word octets_of_information unsent m H gs printed B t.shape n (inside h)

  pub tested_girth : Girth c
  tested_girth = record {
    few = λ n n₀ h h₀ d. shared_few octets_of_word octets_of_information unsent m H gs printed B t.shape t.apart n n₀ (inside h)
        (inside h₀) d;
    many = λ n h. le_trans (leb→le 3 (degree H (n / suc m))
        (below_at B (λ b. leb 3 (degree H b)) t.many (n / suc m) ((div-lt_iff_lt-mul (zero-lt-suc m)).1 (inside h))))
        (le_of_eq (sym (tested_degree n h)));
  }

  pub tested_quiet : (x : Word) → OwnParity c x → broken c x ≡ 0
  tested_quiet = own_met octets_of_word octets_of_information unsent m H gs printed B C t.shape t.room t.tables t.size

-- ---- computed, once for each table

pub tests1 : Tests 16 8 0 15 parity16 generator16 16 8 4
unfolding parity16 generator16
tests1 = record { shape = tt; wide = refl; room = refl; tables = tt; size = tt; many = tt; apart = tt }

pub tests2 : Tests 32 16 0 31 parity32 generator32 32 8 4
unfolding parity32 generator32
tests2 = record { shape = tt; wide = refl; room = refl; tables = tt; size = tt; many = tt; apart = tt }

pub tests3 : Tests 64 32 0 63 parity64 generator64 64 8 4
unfolding parity64 generator64
tests3 = record { shape = tt; wide = refl; room = refl; tables = tt; size = tt; many = tt; apart = tt }

-- no two bits share two checks
apart511 : T (shared_once 511 16 parity511)
unfolding parity511
apart511 = tt

rows511 : T (rows_tied_of 511 512 parity511 generator511)
unfolding parity511 generator511
rows511 = tt

pub near_tests : (octets_of_word octets_of_information unsent : ℕ)
    → Tests octets_of_word octets_of_information unsent 510 parity511 generator511 512 16 2
unfolding parity511 generator511
near_tests octets_of_word octets_of_information unsent = record {
  shape = tt;
  wide = refl;
  room = refl;
  tables = rows511;
  size = tt;
  many = tt;
  apart = apart511;
}

pub published1 : Published code1
unfolding code1 parity16 generator16
published1 = record {
  some = lit< tt;
  early = lit< tt;
  after = lit≤ tt;
  before = lit≤ tt;
  fits = lit≤ tt;
  held = lit≤ tt;
  room = lit≤ tt;
  girth = tested_girth 16 8 0 15 parity16 generator16 16 8 4 tests1;
  own_quiet = tested_quiet 16 8 0 15 parity16 generator16 16 8 4 tests1;
}

pub published2 : Published code2
unfolding code2 parity32 generator32
published2 = record {
  some = lit< tt;
  early = lit< tt;
  after = lit≤ tt;
  before = lit≤ tt;
  fits = lit≤ tt;
  held = lit≤ tt;
  room = lit≤ tt;
  girth = tested_girth 32 16 0 31 parity32 generator32 32 8 4 tests2;
  own_quiet = tested_quiet 32 16 0 31 parity32 generator32 32 8 4 tests2;
}

pub published3 : Published code3
unfolding code3 parity64 generator64
published3 = record {
  some = lit< tt;
  early = lit< tt;
  after = lit≤ tt;
  before = lit≤ tt;
  fits = lit≤ tt;
  held = lit≤ tt;
  room = lit≤ tt;
  girth = tested_girth 64 32 0 63 parity64 generator64 64 8 4 tests3;
  own_quiet = tested_quiet 64 32 0 63 parity64 generator64 64 8 4 tests3;
}

pub published4 : Published code4
unfolding code4 parity511 generator511
published4 = record {
  some = lit< tt;
  early = lit< tt;
  after = lit≤ tt;
  before = lit≤ tt;
  fits = lit≤ tt;
  held = lit≤ tt;
  room = lit≤ tt;
  girth = tested_girth 1022 895 0 510 parity511 generator511 512 16 2 (near_tests 1022 895 0);
  own_quiet = tested_quiet 1022 895 0 510 parity511 generator511 512 16 2 (near_tests 1022 895 0);
}

pub published5 : Published code5
unfolding code5 parity511 generator511
published5 = record {
  some = lit< tt;
  early = lit< tt;
  after = lit≤ tt;
  before = lit≤ tt;
  fits = lit≤ tt;
  held = lit≤ tt;
  room = lit≤ tt;
  girth = tested_girth 1020 892 18 510 parity511 generator511 512 16 2 (near_tests 1020 892 18);
  own_quiet = tested_quiet 1020 892 18 510 parity511 generator511 512 16 2 (near_tests 1020 892 18);
}

-- ---- the two tables of each code are tied, the zero bits in front of printed rows among it

pub both : (a b : Bool) → T a → T b → T (a && b)
both true b s t = t
both false b s t = s

pub tied1 : T (tied code1)
unfolding tied code1 parity16 generator16
tied1 = tt

pub tied2 : T (tied code2)
unfolding tied code2 parity32 generator32
tied2 = tt

pub tied3 : T (tied code3)
unfolding tied code3 parity64 generator64
tied3 = tt

padded511 : T (all_padded_of 511 generator511)
unfolding generator511
padded511 = tt

pub tied4 : T (tied code4)
unfolding tied code4
tied4 = both (rows_tied_of 511 512 parity511 generator511) (all_padded_of 511 generator511) rows511 padded511

pub tied5 : T (tied code5)
unfolding tied code5
tied5 = both (rows_tied_of 511 512 parity511 generator511) (all_padded_of 511 generator511) rows511 padded511

-- ---- codes 1 to 3: what meets every check has the encoder's parity

pub met_own1 : (x : Word) → broken code1 x ≡ 0 → OwnParity code1 x
unfolding code1 parity16 generator16 inverse16
met_own1 = met_own 16 8 0 15 parity16 generator16 16 8 4 tests1.shape tests1.room inverse16
    (record { table = tests1.tables; size = tests1.size; inverse = tt; rank = refl })

pub met_own2 : (x : Word) → broken code2 x ≡ 0 → OwnParity code2 x
unfolding code2 parity32 generator32 inverse32
met_own2 = met_own 32 16 0 31 parity32 generator32 32 8 4 tests2.shape tests2.room inverse32
    (record { table = tests2.tables; size = tests2.size; inverse = tt; rank = refl })

pub met_own3 : (x : Word) → broken code3 x ≡ 0 → OwnParity code3 x
unfolding code3 parity64 generator64 inverse64
met_own3 = met_own 64 32 0 63 parity64 generator64 64 8 4 tests3.shape tests3.room inverse64
    (record { table = tests3.tables; size = tests3.size; inverse = tt; rank = refl })

-- ---- codes 4 and 5: every bit has four checks, and parity blocks may be inverted

inverse511_test : Invertible 510 512 2 (λ d. not (eqb d 0)) parity511 generator511 inverse511
unfolding parity511 generator511 inverse511
inverse511_test = record { table = rows511; size = tt; inverse = tt; rank = refl }

evens511 : T (evens (drops 14 parity511))
unfolding parity511
evens511 = tt

fours511 : T (below 16 (λ b. eqb (degree parity511 b) 4))
unfolding parity511
fours511 = tt

module _ (octets_of_word octets_of_information unsent : ℕ) where
  abbrev near : Code
  near = with_tables octets_of_word octets_of_information unsent 510 parity511 generator511 512

  pub near_four : (n : ℕ) → n < bits near → degree_of near n ≡ 4
  unfolding parity511 generator511
  near_four n h =
      tested_degree octets_of_word octets_of_information unsent 510 parity511 generator511 512 16 2
      (near_tests octets_of_word octets_of_information unsent)
      n h
      ∙ eqb→eq (degree parity511 (n / 511)) 4 (below_at 16 (λ b. eqb (degree parity511 b) 4) fours511 (n / 511)
      ((div-lt_iff_lt-mul (zero-lt-suc 510)).1 h))

  -- whether parity block b of a word that meets every check is inverted
  pub near_inverted : Word → ℕ → Bool
  near_inverted = inverted octets_of_word octets_of_information unsent 510 parity511 generator511 512 16 2
      (near_tests octets_of_word octets_of_information unsent).shape (near_tests octets_of_word octets_of_information unsent).room

  pub near_inverted_lem : (x : Word) → broken near x ≡ 0 → (p : ℕ) → p < bits near - information near
      → x (information near + p) ≡ parity_bit near x p ⊕ near_inverted x (p / 511)
  unfolding near_inverted
  near_inverted_lem = met_inverted octets_of_word octets_of_information unsent 510 parity511 generator511 512 16 2
      (near_tests octets_of_word octets_of_information unsent).shape
      (near_tests octets_of_word octets_of_information unsent).room inverse511
      inverse511_test

  pub inverted_near : (x f : Word)
      → ((p : ℕ) → p < bits near - information near → x (information near + p) ≡ parity_bit near x p ⊕ f (p / 511)) → broken near x ≡ 0
  unfolding generator511
  inverted_near =
      inverted_met octets_of_word octets_of_information unsent 510 parity511 generator511 512 16 2
      (near_tests octets_of_word octets_of_information unsent).shape (near_tests octets_of_word octets_of_information unsent).room
      rows511 (near_tests octets_of_word octets_of_information unsent).size evens511
