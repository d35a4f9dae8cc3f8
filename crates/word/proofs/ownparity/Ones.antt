-- The ones of parity blocks, modulo 2, from those of the information blocks and of the printed rows. Said once over M.
use mathlib.Core.Path.{◌≡◌, refl, ap, ap₂, ◌∙◌, fun_ext}
use mathlib.Core.Bool.{Bool, true, false, ◌&&◌, and_comm}
use mathlib.Core.List.{List, []}
use Prim.Native.Nat.{ℕ, suc, ◌+◌, ◌-◌, ◌*◌, ◌/◌, ◌%◌, ◌<◌}
use native.Mathlib.Nat.{add_assoc, add-mul}
use lib.Arith.{digits_div, digits_mod, digits_lt}
use lib.ListN.{get_or, length}
use Rattle.bits.specs.Bits.{Word, ◌⊕◌, sum}
use Rattle.rules.specs.Codes.{Code}
use Rattle.rules.specs.Encoding.{row_bit, parity_bit}
use Rattle.bits.proofs.Sums.{into, swap, turn, sum_linear, sum_same}
use Rattle.rules.proofs.Blocks.{blk, with_tables, sum_blocks}
use Rattle.rules.proofs.Quiet.{drawn}

-- the same bit, added up n times
pub sum_of_one : (n : ℕ) (u : Bool) → sum n (λ k. u) ≡ (u && sum n (λ k. true))
sum_of_one n true = refl
sum_of_one n false = (sum_linear n).none

-- whether an odd number of ones stand in block j of the information, and in part b of its printed row
abbrev pub odd_pairs : ℕ → ℕ → List (List ℕ) → Word → ℕ → Bool
odd_pairs M printed gs x b = sum (length gs) (λ j. sum M (drawn M printed (get_or (get_or gs j []) b 0)) && sum M (blk M x j))

module _ (octets_of_word octets_of_information unsent m : ℕ) (H : List (List (List ℕ))) (gs : List (List ℕ)) (printed : ℕ) where
  abbrev c : Code
  c = with_tables octets_of_word octets_of_information unsent m H gs printed

  -- part b of the printed row of information block j, as to the number of its ones
  abbrev row : ℕ → ℕ → Bool
  row b j = sum (suc m) (drawn (suc m) printed (get_or (get_or gs j []) b 0))

  -- the row of an information bit has as many ones in part b as the printed one
  row_odd : (b n : ℕ) → sum (suc m) (λ k. row_bit c n (b * suc m + k)) ≡ row b (n / suc m)
  row_odd b n =
      sum_same (suc m) _ (λ k. drawn (suc m) printed (get_or (get_or gs (n / suc m) []) b 0) ((k + (suc m - n % suc m)) % suc m)) (λ k l.
      ap₂ (λ q r. drawn (suc m) printed (get_or (get_or gs (n / suc m) []) q 0) ((r + (suc m - n % suc m)) % suc m)) (digits_div b l)
      (digits_mod b l))
      ∙ turn m (suc m - n % suc m) (drawn (suc m) printed (get_or (get_or gs (n / suc m) []) b 0))

  -- the encoder's parity block b
  pub parity_odd : (x : Word) (b : ℕ) → sum (suc m) (λ k. parity_bit c x (b * suc m + k)) ≡ odd_pairs (suc m) printed gs x b
  unfolding parity_bit
  parity_odd x b =
      swap (sum (suc m)) (sum_linear (suc m)) (length gs * suc m) (λ k n. x n && row_bit c n (b * suc m + k))
      ∙ ap (sum (length gs * suc m)) (fun_ext (λ n.
      into (sum (suc m)) (sum_linear (suc m)) (x n) (λ k. row_bit c n (b * suc m + k)) ∙ ap (λ z. x n && z) (row_odd b n)
      ∙ and_comm (x n) (row b (n / suc m))))
      ∙ sum_blocks (length gs) (suc m) (λ n. row b (n / suc m) && x n)
      ∙ ap (sum (length gs)) (fun_ext (λ j.
      sum_same (suc m) _ (λ t. row b j && x (j * suc m + t)) (λ t l. ap (λ z. row b z && x (j * suc m + t)) (digits_div j l))
      ∙ into (sum (suc m)) (sum_linear (suc m)) (row b j) (blk (suc m) x j)))

  -- parity block b of a word whose parity differs from the encoder's by whole inverted blocks
  pub inverted_odd : (C : ℕ) (x f : Word) → ((p : ℕ) → p < C * suc m → x (length gs * suc m + p) ≡ parity_bit c x p ⊕ f (p / suc m))
      → (b : ℕ) → b < C → sum (suc m) (blk (suc m) x (length gs + b)) ≡ odd_pairs (suc m) printed gs x b ⊕ sum (suc m) (λ k. f b)
  inverted_odd C x f h b hb =
      sum_same (suc m) _ (λ k. parity_bit c x (b * suc m + k) ⊕ f b) (λ k l.
      ap x (ap (λ z. z + k) (add-mul (length gs) b (suc m)) ∙ add_assoc (length gs * suc m) (b * suc m) k)
      ∙ h (b * suc m + k) (digits_lt hb l)
      ∙ ap (λ z. parity_bit c x (b * suc m + k) ⊕ f z) (digits_div b l))
      ∙ (sum_linear (suc m)).plus (λ k. parity_bit c x (b * suc m + k)) (λ k. f b)
      ∙ ap (λ z. z ⊕ sum (suc m) (λ k. f b)) (parity_odd x b)
