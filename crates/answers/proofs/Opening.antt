-- The lowest broken check, and what is wrong with a word that is not opened.
use mathlib.Core.Path.{◌≡◌, refl, sym, ap, ap₂, ◌∙◌, subst}
use mathlib.Core.Bool.{Bool, true, false, not, ◌&&◌, ◌||◌, true≢false}
use mathlib.Core.Logic.{◌⊎◌, inl, inr}
use mathlib.Core.List.{List, []}
use Prim.Native.Nat.{ℕ, ◌≤◌, ◌<◌}
use native.Mathlib.Decide.{ℕ_discrete}
use native.Mathlib.Omega.{arith}
use lib.Dec.{T, eqb, lit≤, lit<}
use lib.ListN.{length, take}
use borrow.Author.Tests.{eqb-true, eq-eqb, ne_eqb}
use Rattle.bits.specs.Bits.{bit, when◌then◌else◌}
use Rattle.bits.proofs.Sums.{and_l}
use Rattle.rules.specs.Codes.{code, code5, checks, offered, telecommanded}
use Rattle.rules.specs.Tables.{parity511}
use Rattle.rules.specs.Checks.{check, broken, lowest}
use Rattle.rules.specs.Encoding.{lifted, encoded, codeword}
use Rattle.rules.proofs.Lowest.{lowest_broken, below_lowest, lowest_quiet, quiet_lowest}
use Rattle.rules.proofs.Codewords.{codeword_quiet, codeword_bit, sent_fill}
use Rattle.rules.proofs.Published.{published5}
use Rattle.rules.proofs.Numbers.{published, three, met_codeword}
use Rattle.answers.specs.Calls.{Checked, checked_from, check_answer, Opened, last_two_set, fault, open_answer}
use Rattle.answers.proofs.Answers.{check_taken, open-from, open_cases}

-- ---- check

-- a word that meets every check: none is broken, and the place is the number of checks
pub quiet_checked : (n : ℕ) (word : List ℕ) → broken (code n) (lifted (code n) (bit word)) ≡ 0
    → checked_from n word ≡ record { number = 0; broken = 0; lowest = checks (code n) }
quiet_checked n word e =
    ap₂ (λ a b. record { number = 0; broken = a; lowest = b }) e (quiet_lowest (code n) (lifted (code n) (bit word)) e)

-- what check gives as the lowest is broken and none below it is; it is the number of checks exactly where the count is 0
module _ (n : ℕ) (word : List ℕ) (off : T (offered n)) (lw : length word ≡ (code n).octets_of_word) where
  same : check_answer n word ≡ checked_from n word
  same = check_taken n word off lw

  pub checked_broken : (check_answer n word).lowest < checks (code n)
      → check (code n) (lifted (code n) (bit word)) (check_answer n word).lowest ≡ true
  checked_broken = subst (λ (r : Checked). r.lowest < checks (code n) → check (code n) (lifted (code n) (bit word)) r.lowest ≡ true)
      (sym same)
      (lowest_broken (code n) (lifted (code n) (bit word)))

  pub checked_below : (k : ℕ) → k < (check_answer n word).lowest → check (code n) (lifted (code n) (bit word)) k ≡ false
  checked_below = subst (λ (r : Checked). (k : ℕ) → k < r.lowest → check (code n) (lifted (code n) (bit word)) k ≡ false) (sym same)
      (below_lowest (code n) (lifted (code n) (bit word)))

  pub checked_quiet : ((check_answer n word).lowest ≡ checks (code n) → (check_answer n word).broken ≡ 0)
      × ((check_answer n word).broken ≡ 0 → (check_answer n word).lowest ≡ checks (code n))
  checked_quiet = subst (λ (r : Checked). (r.lowest ≡ checks (code n) → r.broken ≡ 0) × (r.broken ≡ 0 → r.lowest ≡ checks (code n)))
      (sym same)
      (lowest_quiet (code n) (lifted (code n) (bit word)), quiet_lowest (code n) (lifted (code n) (bit word)))

-- ---- what is wrong with a word

module _ (n : ℕ) (word : List ℕ) where
  abbrev quiet? : Bool
  quiet? = eqb (broken (code n) (lifted (code n) (bit word))) 0

  -- 9 exactly if a check is broken
  pub fault_broken : quiet? ≡ false → fault n word ≡ 9
  fault_broken e = ap (λ z. when not z then 9 else when last_two_set n word then 14 else when not
      (codeword (code n) (bit word)) then 15 else 0) e

  spelled : (a b d : Bool) → quiet? ≡ a → last_two_set n word ≡ b → codeword (code n) (bit word) ≡ d
      → fault n word ≡ (when not a then 9 else when b then 14 else when not d then 15 else 0)
  spelled a b d e f g =
      ap (λ z. when not z then 9 else when last_two_set n word then 14 else when not (codeword (code n) (bit word)) then 15 else 0) e
      ∙ ap₂ (λ y z. when not a then 9 else when y then 14 else when not z then 15 else 0) f g

  -- else 14 exactly if code 5's last two bits are not both 0
  pub fault_two : quiet? ≡ true → last_two_set n word ≡ true → fault n word ≡ 14
  fault_two e f = spelled true true (codeword (code n) (bit word)) e f refl

  -- else 15 exactly if the parity is not the encoder's
  pub fault_parity : quiet? ≡ true → last_two_set n word ≡ false → codeword (code n) (bit word) ≡ false → fault n word ≡ 15
  fault_parity e f g = spelled true false false e f g

  pub fault_clear : quiet? ≡ true → last_two_set n word ≡ false → codeword (code n) (bit word) ≡ true → fault n word ≡ 0
  fault_clear e f g = spelled true false true e f g

  -- one of the four, with what each says
  pub fault_cases : (P : ℕ → Type 0) → (quiet? ≡ false → P 9) → (quiet? ≡ true → last_two_set n word ≡ true → P 14)
      → (quiet? ≡ true → last_two_set n word ≡ false → codeword (code n) (bit word) ≡ false → P 15)
      → (quiet? ≡ true → last_two_set n word ≡ false → codeword (code n) (bit word) ≡ true → P 0) → P (fault n word)
  fault_cases P p9 p14 p15 p0 = go quiet? (last_two_set n word) (codeword (code n) (bit word)) refl refl refl
    where
      go : (a b d : Bool) → quiet? ≡ a → last_two_set n word ≡ b → codeword (code n) (bit word) ≡ d → P (fault n word)
      go false b d e f g = subst P (sym (fault_broken e)) (p9 e)
      go true true d e f g = subst P (sym (fault_two e f)) (p14 e f)
      go true false false e f g = subst P (sym (fault_parity e f g)) (p15 e f g)
      go true false true e f g = subst P (sym (fault_clear e f g)) (p0 e f g)

  -- what is opened is a codeword
  pub clear_codeword : fault n word ≡ 0 → codeword (code n) (bit word) ≡ true
  clear_codeword =
      fault_cases (λ k. k ≡ 0 → codeword (code n) (bit word) ≡ true) (λ e k. absurd (omega arith)) (λ e f k. absurd (omega arith))
      (λ e f g k. absurd (omega arith)) (λ e f g k. g)

-- code 5's last two bits are 0 in a codeword
two_clear : (word : List ℕ) → codeword (code 5) (bit word) ≡ true → (bit word 8158 || bit word 8159) ≡ false
unfolding code code5 parity511
two_clear word is = ap₂ ◌||◌ (zero 8158 (lit≤ tt) (lit< tt)) (zero 8159 (lit≤ tt) (lit< tt))
  where
    zero : (i : ℕ) → 8158 ≤ i → i < 8160 → bit word i ≡ false
    zero i l h = codeword_bit code5 published5 (bit word) is i h ∙ sent_fill code5 (encoded code5 (lifted code5 (bit word))) i l

pub codeword_two : (n : ℕ) (word : List ℕ) → codeword (code n) (bit word) ≡ true → last_two_set n word ≡ false
codeword_two n word is = go (ℕ_discrete n 5)
  where
    go : Dec (n ≡ 5) → last_two_set n word ≡ false
    go (yes e) = ap₂ ◌&&◌ (eq-eqb n 5 e) (two_clear word (subst (λ k. codeword (code k) (bit word) ≡ true) e is))
    go (no d) = ap (λ b. b && (bit word 8158 || bit word 8159)) (ne_eqb n 5 d)

-- nothing is wrong with a codeword
pub codeword_clear : (n : ℕ) → T (offered n) → (word : List ℕ) → codeword (code n) (bit word) ≡ true → fault n word ≡ 0
codeword_clear n off word is =
    fault_clear n word (eq-eqb (broken (code n) (lifted (code n) (bit word))) 0 (codeword_quiet (code n) (published n off) (bit word) is))
    (codeword_two n word is) is

-- codes 1 to 3 give neither 14 nor 15
pub telecommand_two : (n : ℕ) → T (telecommanded n) → (word : List ℕ) → last_two_set n word ≡ false
telecommand_two = three (λ n. (word : List ℕ) → last_two_set n word ≡ false) (λ word. refl) (λ word. refl) (λ word. refl)

pub telecommand_faults : (n : ℕ) → T (telecommanded n) → (word : List ℕ) → length word ≡ (code n).octets_of_word → (fault n word ≡ 14 → ⊥)
    × (fault n word ≡ 15 → ⊥)
telecommand_faults n t word lw =
    fault_cases n word (λ k. (k ≡ 14 → ⊥) × (k ≡ 15 → ⊥))
    (λ e. ((λ k. omega arith), (λ k. omega arith)))
    (λ e f. ((λ k. true≢false (sym f ∙ telecommand_two n t word)), (λ k. omega arith)))
    (λ e f g. ((λ k. omega arith), (λ k. true≢false (sym (met_codeword n t word lw (eqb-true _ 0 e)) ∙ g))))
    (λ e f g. ((λ k. omega arith), (λ k. omega arith)))

-- ---- open

-- Open answers 0 exactly for codewords.
module _ (n : ℕ) (word : List ℕ) where
  pub opened_codeword : (open_answer n word).number ≡ 0 → codeword (code n) (bit word) ≡ true
  opened_codeword =
      open_cases n word (λ r. r.number ≡ 0 → codeword (code n) (bit word) ≡ true)
      (λ e. absurd (omega (arith, e))) (λ e. absurd (omega (arith, e))) (λ e. absurd (omega (arith, e))) (λ t lw. clear_codeword n word)

  pub codeword_opened : T (offered n && not (eqb n 4)) → length word ≡ (code n).octets_of_word → codeword (code n) (bit word) ≡ true
      → open_answer n word ≡ record { number = 0; lowest = checks (code n); part = take (code n).octets_of_information word }
  codeword_opened t lw is =
      let off : T (offered n) = and_l (offered n) (not (eqb n 4)) t in
      open-from n word t lw
      ∙ ap₂ (λ k z. record { number = k; lowest = z; part = when eqb k 0 then take (code n).octets_of_information word else [] })
      (codeword_clear n off word is)
      (quiet_lowest (code n) (lifted (code n) (bit word)) (codeword_quiet (code n) (published n off) (bit word) is))

  -- A word of the right length that is no codeword: 9, 14 or 15, which exclude each other, stand where 9 stood.
  pub record Unopened (r : Opened) : Type 0 where
    pub nothing : r.part ≡ []
    pub place : r.lowest ≡ lowest (code n) (lifted (code n) (bit word))
    pub nine : r.number ≡ 9 → quiet? n word ≡ false
    pub fourteen : r.number ≡ 14 → (quiet? n word ≡ true) × (last_two_set n word ≡ true)
    pub fifteen : r.number ≡ 15 → (quiet? n word ≡ true) × (last_two_set n word ≡ false)
    pub some : (r.number ≡ 9) ⊎ (r.number ≡ 14) ⊎ (r.number ≡ 15)

  pub unopened : T (offered n && not (eqb n 4)) → length word ≡ (code n).octets_of_word → codeword (code n) (bit word) ≡ false
      → Unopened (open_answer n word)
  unopened t lw other =
      subst Unopened (sym (open-from n word t lw))
      (fault_cases n word (λ k. Unopened
      (record { number = k; lowest = place; part = when eqb k 0 then take (code n).octets_of_information word else [] }))
      (λ e. record {
        nothing = refl;
        place = refl;
        nine = λ k. e;
        fourteen = λ k. absurd (omega (arith, k));
        fifteen = λ k. absurd (omega (arith, k));
        some = inl refl;
      })
      (λ e f. record {
        nothing = refl;
        place = refl;
        nine = λ k. absurd (omega (arith, k));
        fourteen = λ k. (e, f);
        fifteen = λ k. absurd (omega (arith, k));
        some = inr (inl refl);
      })
      (λ e f g. record {
        nothing = refl;
        place = refl;
        nine = λ k. absurd (omega (arith, k));
        fourteen = λ k. absurd (omega (arith, k));
        fifteen = λ k. (e, f);
        some = inr (inr refl);
      })
      (λ e f g. absurd (true≢false (sym g ∙ other))))
    where
      place : ℕ
      place = lowest (code n) (lifted (code n) (bit word))
