-- What the request says of the call beyond its definition: check's count and check's lowest.
use mathlib.Core.Path.{◌≡◌, refl, sym, ap, ◌∙◌, subst}
use mathlib.Core.Bool.{true, false}
use mathlib.Core.List.{List}
use Prim.Native.Nat.{ℕ, suc, ◌<◌}
use lib.Dec.{T}
use lib.ListN.{length}
use Rattle.bits.specs.Bits.{Word, bit}
use Rattle.rules.specs.Codes.{Code, code, checks, offered}
use Rattle.rules.specs.Checks.{check, broken, lowest}
use Rattle.rules.specs.Encoding.{lifted}
use Rattle.answers.specs.Calls.{Checked, refusal, unless, checked_from, check_answer}
use Rattle.answers.proofs.Answers.{check_taken, unless_taken, unless_refused, refusal_not}
use Rattle.quick.specs.Quick.{read, Quick, as_read, refused_quick, quick_from, quick_answer}
use Rattle.quick.proofs.Reading.{read_lowest, read_all, read_quiet}

-- ---- the checks of a word

module _ (c : Code) (x : Word) where
  pub found_lowest : lowest c x < checks c → read (checks c) (check c x) ≡ record { yes = false; evaluated = suc (lowest c x) }
  unfolding lowest
  found_lowest = read_lowest (checks c) (check c x)

  pub found_all : lowest c x ≡ checks c → read (checks c) (check c x) ≡ record { yes = true; evaluated = checks c }
  unfolding lowest
  found_all = read_all (checks c) (check c x)

  pub found_quiet : ((read (checks c) (check c x)).yes ≡ true → broken c x ≡ 0)
      × (broken c x ≡ 0 → (read (checks c) (check c x)).yes ≡ true)
  unfolding broken
  found_quiet = read_quiet (checks c) (check c x)

-- ---- the call

module _ (n : ℕ) (word : List ℕ) where
  pub quick_taken : T (offered n) → length word ≡ (code n).octets_of_word → quick_answer n word ≡ quick_from n word
  unfolding quick_answer
  quick_taken t lw =
      unless_taken refused_quick (quick_from n word) (refusal (offered n) (length word) (code n).octets_of_word 0 0)
      (refusal_not (offered n) (length word) (code n).octets_of_word 0 0 t lw refl)

  pub quick_refused : (k : ℕ) → k ≡ refusal (offered n) (length word) (code n).octets_of_word 0 0 → (k ≡ 0 → ⊥)
      → quick_answer n word ≡ refused_quick k
  unfolding quick_answer
  quick_refused k e d = ap (λ z. unless z refused_quick (quick_from n word)) (sym e) ∙ unless_refused refused_quick (quick_from n word) k d

module _ (n : ℕ) (word : List ℕ) (off : T (offered n)) (lw : length word ≡ (code n).octets_of_word) where
  is : quick_answer n word ≡ quick_from n word
  is = quick_taken n word off lw

  same : check_answer n word ≡ checked_from n word
  same = check_taken n word off lw

  abbrev x : Word
  x = lifted (code n) (bit word)

  -- yes exactly if check's count is 0
  pub yes_quiet : ((quick_answer n word).yes ≡ true → (check_answer n word).broken ≡ 0)
      × ((check_answer n word).broken ≡ 0 → (quick_answer n word).yes ≡ true)
  yes_quiet = (
    (λ e. ap (λ (r : Checked). r.broken) same ∙ (found_quiet (code n) x).0 (sym (ap (λ (r : Quick). r.yes) is) ∙ e)),
    (λ e. ap (λ (r : Quick). r.yes) is ∙ (found_quiet (code n) x).1 (sym (ap (λ (r : Checked). r.broken) same) ∙ e)),
  )

  -- as many checks as the lowest broken one and 1, where one is broken
  pub evaluated_lowest : (check_answer n word).lowest < checks (code n) → (quick_answer n word).evaluated ≡ suc (check_answer n word).lowest
  evaluated_lowest = subst (λ (r : Checked). r.lowest < checks (code n) → (quick_answer n word).evaluated ≡ suc r.lowest) (sym same)
      (λ l. ap (λ (r : Quick). r.evaluated) (is ∙ ap as_read (found_lowest (code n) x l)))

  -- and else all of them
  pub evaluated_all : (check_answer n word).lowest ≡ checks (code n) → (quick_answer n word).evaluated ≡ checks (code n)
  evaluated_all = subst (λ (r : Checked). r.lowest ≡ checks (code n) → (quick_answer n word).evaluated ≡ checks (code n)) (sym same)
      (λ e. ap (λ (r : Quick). r.evaluated) (is ∙ ap as_read (found_all (code n) x e)))
