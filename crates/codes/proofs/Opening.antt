-- An open, put together from what was found of the word.
use mathlib.Core.Path.{◌≡◌, ap, ap₂, ◌∙◌, sym}
use mathlib.Core.List.{List, []}
use Prim.Native.Nat.{ℕ}
use lib.Dec.{eqb}
use lib.ListN.{take}
use borrow.Author.Tests.{eq-eqb, ne_eqb}
use Rattle.bits.specs.Bits.{bit, when◌then◌else◌}
use Rattle.rules.specs.Codes.{code}
use Rattle.rules.specs.Checks.{lowest}
use Rattle.rules.specs.Encoding.{lifted}
use Rattle.answers.specs.Calls.{Opened, fault, opened_from}

abbrev opened : ℕ → ℕ → List ℕ → Opened
opened k z part = record { number = k; lowest = z; part = part }

module _ (n : ℕ) (word : List ℕ) {number low : ℕ} (found : (number ≡ fault n word) × (low ≡ lowest (code n) (lifted (code n) (bit word))))
  where
    is : opened number low (when eqb number 0 then take (code n).octets_of_information word else []) ≡ opened_from n word
    is = ap₂ (λ k z. opened k z (when eqb k 0 then take (code n).octets_of_information word else [])) found.0 found.1

    pub opened_other : (number ≡ 0 → ⊥) → opened number low [] ≡ opened_from n word
    opened_other d = sym (ap (λ b. opened number low (when b then take (code n).octets_of_information word else [])) (ne_eqb number 0 d))
        ∙ is

    pub opened_codeword : number ≡ 0 → opened number low (take (code n).octets_of_information word) ≡ opened_from n word
    opened_codeword e = sym (ap (λ b. opened number low (when b then take (code n).octets_of_information word else [])) (eq-eqb number 0 e))
        ∙ is
