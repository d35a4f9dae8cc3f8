-- Words whose parity is the encoder's, and words that meet every check: the laws of the tables, said of a code.
use mathlib.Core.Path.{◌≡◌, refl, sym, ap, ap₂, ◌∙◌, fun_ext, subst}
use mathlib.Core.Bool.{Bool, true, false, not, ◌&&◌}
use mathlib.Core.List.{List, [], ◌∷◌}
use Prim.Native.Nat.{ℕ, suc, ◌+◌, ◌-◌, ◌*◌, ◌/◌, ◌%◌, ◌<◌}
use native.Mathlib.Nat.{zero-lt-suc, mod-lt, add-zero, add-suc, suc-add, zero-add, add_assoc, add-mul, div-add-mod', div-lt_iff_lt-mul}
use lib.Arith.{digits_div, digits_mod, digits_lt}
use lib.Dec.{T, eqb}
use lib.ListN.{get_or, length}
use Rattle.bits.specs.Bits.{Word, ◌⊕◌, sum}
use Rattle.rules.specs.Tables.{generator16, generator511}
use Rattle.rules.specs.Codes.{Code, bits, checks, information, code1, code4}
use Rattle.rules.specs.Checks.{check, broken}
use Rattle.rules.specs.Encoding.{OwnParity, parity_bit, printed_bit, row_bit}
use Rattle.rules.specs.Identity.{rows_tied_of}
use Rattle.bits.proofs.Sums.{⊕-self, ⊕-assoc, sum_same, sum_front}
use Rattle.bits.proofs.Counting.{count_none, none_counted}
use Rattle.rules.proofs.Blocks.{blk, check_in, shaped, with_tables, check_in_lem, sum_blocks}
use Rattle.rules.proofs.Quiet.{drawn, shifted_sum, parity_in, drops, sized, quiet_all, differ}
use Rattle.rules.proofs.Unique.{Invertible, unique, constant, flipped_blocks, evens}

-- the row of information bit 1 is the printed row shifted right: it begins with the last bit of 0E69
pub shifted_right : row_bit code1 1 0 ≡ true
unfolding code1 generator16
shifted_right = refl

-- of the digits 55.. the first bit is dropped, and the next is bit 0 of the row
pub pad_dropped : printed_bit code4 0 0 0 ≡ true
unfolding code4 generator511
pad_dropped = refl

parity_sum : (M printed : ℕ) (gs : List (List ℕ)) (j : ℕ) (w : ℕ → ℕ → Bool) (c k : ℕ)
    → parity_in M printed gs j w c k ≡ sum (length gs) (λ i. shifted_sum M (drawn M printed (get_or (get_or gs i []) c 0)) (w (j + i)) k)
unfolding sum
parity_sum M printed [] j w c k = refl
parity_sum M printed (g ∷ gs) j w c k =
    ap₂ (λ a b. a ⊕ b) (ap (λ z. shifted_sum M (drawn M printed (get_or g c 0)) (w z) k) (sym (add-zero j)))
    (parity_sum M printed gs (suc j) w c k
    ∙ ap (sum (length gs)) (fun_ext (λ i. ap (λ z. shifted_sum M (drawn M printed (get_or (get_or gs i []) c 0)) (w z) k) (suc-add j i
    ∙ sym (add-suc j i)))))
    ∙ sym (sum_front (length gs) (λ i. shifted_sum M (drawn M printed (get_or (get_or (g ∷ gs) i []) c 0)) (w (j + i)) k))

⊕-move : (a b c : Bool) → a ⊕ b ≡ c → b ≡ a ⊕ c
⊕-move a b c e = sym (ap (λ z. a ⊕ z) (sym e) ∙ sym (⊕-assoc a a b) ∙ ap (λ z. z ⊕ b) (⊕-self a))

-- C parity blocks follow the information blocks
module _ (octets_of_word octets_of_information unsent m : ℕ) (H : List (List (List ℕ))) (gs : List (List ℕ)) (printed B C : ℕ)
    (shape : T (shaped (suc m) B H)) (room : bits (with_tables octets_of_word octets_of_information unsent m H gs printed) - information
    (with_tables octets_of_word octets_of_information unsent m H gs printed) ≡ C * suc m) where
  abbrev c : Code
  c = with_tables octets_of_word octets_of_information unsent m H gs printed

  pub parity_in_lem : (x : Word) (p : ℕ) → parity_bit c x p ≡ parity_in (suc m) printed gs 0 (blk (suc m) x) (p / suc m) (p % suc m)
  unfolding parity_bit
  parity_in_lem x p =
      sum_blocks (length gs) (suc m) _
      ∙ ap (sum (length gs)) (fun_ext (λ j. sum_same (suc m) _ _ (λ t l.
      ap₂ (λ a b. x (j * suc m + t) && drawn (suc m) printed (get_or (get_or gs a []) (p / suc m) 0) ((p % suc m + (suc m - b)) % suc m))
      (digits_div j l) (digits_mod j l)
      ∙ ap (λ z. x (z * suc m + t) && drawn (suc m) printed (get_or (get_or gs j []) (p / suc m) 0) ((p % suc m + (suc m - t)) % suc m))
      (sym (zero-add j)))))
      ∙ sym (parity_sum (suc m) printed gs 0 (blk (suc m) x) (p / suc m) (p % suc m))

  -- the place of bit k of parity block b
  place : (b k : ℕ) (x : Word) → x ((length gs + b) * suc m + k) ≡ x (length gs * suc m + (b * suc m + k))
  place b k x = ap x (ap (λ z. z + k) (add-mul (length gs) b (suc m)) ∙ add_assoc (length gs * suc m) (b * suc m) k)

  in_room : {p : ℕ} → p < bits c - information c → p < C * suc m
  in_room {p} = subst (λ z. p < z) room

  own_blocks : (x : Word) → OwnParity c x → (b k : ℕ) → b < C → k < suc m
      → blk (suc m) x (length gs + b) k ≡ parity_in (suc m) printed gs 0 (blk (suc m) x) b k
  own_blocks x own b k hb hk =
      place b k x ∙ own (b * suc m + k) (subst (λ z. b * suc m + k < z) (sym room) (digits_lt hb hk)) ∙ parity_in_lem x (b * suc m + k)
      ∙ ap₂ (λ q r. parity_in (suc m) printed gs 0 (blk (suc m) x) q r) (digits_div b hk) (digits_mod b hk)

  -- bit p of the parity, in its block
  at_block : (x : Word) (p : ℕ) → x (length gs * suc m + p) ≡ blk (suc m) x (length gs + p / suc m) (p % suc m)
  at_block x p = ap (λ z. x (length gs * suc m + z)) (sym (div-add-mod' p (suc m))) ∙ sym (place (p / suc m) (p % suc m) x)

  all_met : (x : Word) → broken c x ≡ 0 → (r i : ℕ) → r < length H → i < suc m → check_in (suc m) (get_or H r []) (blk (suc m) x) i ≡ false
  unfolding broken
  all_met x e r i hr hi =
      let l : r * suc m + i < length H * suc m = digits_lt hr hi in
      sym (check_in_lem octets_of_word octets_of_information unsent m H gs printed B shape x (r * suc m + i) l
      ∙ ap₂ (λ q k. check_in (suc m) (get_or H q []) (blk (suc m) x) k) (digits_div r hi) (digits_mod r hi))
      ∙ none_counted (checks c) (check c x) e (r * suc m + i) l

  met_all : (x : Word) → ((r i : ℕ) → r < length H → check_in (suc m) (get_or H r []) (blk (suc m) x) i ≡ false) → broken c x ≡ 0
  unfolding broken
  met_all x h =
      count_none (checks c) (check c x) (λ k l.
      check_in_lem octets_of_word octets_of_information unsent m H gs printed B shape x k l
      ∙ h (k / suc m) (k % suc m) ((div-lt_iff_lt-mul (zero-lt-suc m)).1 l))

  -- a word with the encoder's parity meets every check
  pub own_met : T (rows_tied_of (suc m) printed H gs) → T (sized C (drops (length gs) H)) → (x : Word) → OwnParity c x → broken c x ≡ 0
  own_met tied size x own = met_all x (λ r i h. quiet_all m printed C H gs (blk (suc m) x) tied size (own_blocks x own) r i h)

  -- and the other way, where the parity part has an inverse
  pub met_own : (R : List (List ℕ)) → Invertible m printed C (λ d. eqb d 0) H gs R → (x : Word) → broken c x ≡ 0 → OwnParity c x
  met_own R inv x e p l =
      at_block x p
      ∙ unique m printed C H gs R inv (blk (suc m) x) (all_met x e) (p / suc m) (p % suc m)
      ((div-lt_iff_lt-mul (zero-lt-suc m)).1 (in_room l)) (mod-lt p (zero-lt-suc m))
      ∙ sym (parity_in_lem x p)

  -- where it has one up to whole blocks: the parity is the encoder's, or a block of it is inverted
  pub inverted : Word → ℕ → Bool
  inverted x b = sum (suc m) (differ m printed gs (blk (suc m) x) b)

  pub met_inverted : (R : List (List ℕ)) → Invertible m printed C (λ d. not (eqb d 0)) H gs R → (x : Word) → broken c x ≡ 0
      → (p : ℕ) → p < bits c - information c → x (information c + p) ≡ parity_bit c x p ⊕ inverted x (p / suc m)
  unfolding differ inverted
  met_inverted R inv x e p l =
      at_block x p
      ∙ ⊕-move (parity_in (suc m) printed gs 0 (blk (suc m) x) (p / suc m) (p % suc m)) (blk (suc m) x (length gs + p / suc m) (p % suc m))
      (inverted x (p / suc m))
      (constant m printed C H gs R inv (blk (suc m) x) (all_met x e) (p / suc m) (p % suc m)
      ((div-lt_iff_lt-mul (zero-lt-suc m)).1 (in_room l)) (mod-lt p (zero-lt-suc m)))
      ∙ ap (λ z. z ⊕ inverted x (p / suc m)) (sym (parity_in_lem x p))

  -- and each such word meets every check
  pub inverted_met : T (rows_tied_of (suc m) printed H gs) → T (sized C (drops (length gs) H)) → T (evens (drops (length gs) H))
      → (x f : Word)
      → ((p : ℕ) → p < bits c - information c → x (information c + p) ≡ parity_bit c x p ⊕ f (p / suc m)) → broken c x ≡ 0
  unfolding differ
  inverted_met tied size ev x f h =
      met_all x (λ r i hr. flipped_blocks m printed C H gs (blk (suc m) x) f tied size ev (λ b k hb hk.
      ap (λ z. parity_in (suc m) printed gs 0 (blk (suc m) x) b k ⊕ z)
      (place b k x ∙ h (b * suc m + k) (subst (λ z. b * suc m + k < z) (sym room) (digits_lt hb hk))
      ∙ ap₂ (λ q r. q ⊕ f r) (parity_in_lem x (b * suc m + k)
      ∙ ap₂ (λ q r. parity_in (suc m) printed gs 0 (blk (suc m) x) q r) (digits_div b hk) (digits_mod b hk)) (digits_div b hk))
      ∙ sym (⊕-assoc (parity_in (suc m) printed gs 0 (blk (suc m) x) b k) (parity_in (suc m) printed gs 0 (blk (suc m) x) b k) (f b))
      ∙ ap (λ z. z ⊕ f b) (⊕-self (parity_in (suc m) printed gs 0 (blk (suc m) x) b k))) r i hr)
