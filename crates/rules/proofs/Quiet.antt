-- Every encoded word meets every check, from the identity between the tables. Said once over M.
use mathlib.Core.Path.{◌≡◌, refl, sym, ap, ap₂, ◌∙◌, fun_ext, subst}
use mathlib.Core.Bool.{Bool, true, false, ◌&&◌, and-false}
use mathlib.Core.List.{List, [], ◌∷◌}
use Prim.Native.Nat.{ℕ, zero, suc, ◌+◌, ◌-◌, ◌%◌, ◌<◌}
use native.Mathlib.Nat.{zero-lt-suc, mod-lt, add-zero, add-suc, suc-add, zero-add, not-suc-le-zero, le_of_suc-le-suc}
use lib.Dec.{T, eqb, eqb→eq}
use lib.ListN.{get_or, length, drop}
use Rattle.bits.specs.Bits.{digit, ◌⊕◌, sum, below, over, blocks}
use Rattle.rules.specs.Identity.{cancels, row_tied_of, rows_tied_of}
use Rattle.bits.proofs.Sums.{⊕-eq, ⊕-self, ⊕-assoc, and-⊕, into, swap, sum_linear, over_linear, blocks_linear, blocks', sum_same, sum_none}
use Rattle.bits.proofs.Sums.{pick, blocks_from, blocks_same, and_l, and_r, below_at, not-true}
use Rattle.bits.proofs.Cyclic.{either, near}
use Rattle.rules.proofs.Blocks.{check_in}

-- bit k of a printed row
abbrev pub drawn : ℕ → ℕ → ℕ → ℕ → Bool
drawn M printed number k = digit printed number (printed - M + k)

-- a row shifted right circularly by t for each bit t of u that is 1, and summed: place k
abbrev pub shifted_sum : ℕ → (ℕ → Bool) → (ℕ → Bool) → ℕ → Bool
shifted_sum M g u k = sum M (λ t. u t && g ((k + (M - t)) % M))

-- parity bit k of part c: a row for each information block, counted from j
abbrev pub parity_in : ℕ → ℕ → List (List ℕ) → ℕ → (ℕ → ℕ → Bool) → ℕ → ℕ → Bool
parity_in M printed [] j w c k = false
parity_in M printed (g ∷ gs) j w c k = shifted_sum M (drawn M printed (get_or g c 0)) (w j) k ⊕ parity_in M printed gs (suc j) w c k

-- the parity blocks of each row
abbrev pub drops : ℕ → List (List (List ℕ)) → List (List (List ℕ))
drops J [] = []
drops J (r ∷ rs) = drop J r ∷ drops J rs

abbrev pub sized : ℕ → List (List (List ℕ)) → Bool
sized C [] = true
sized C (P ∷ Ps) = eqb (length P) C && sized C Ps

pub sized_at : (C : ℕ) (Ps : List (List (List ℕ))) → T (sized C Ps) → (a : ℕ) → a < length Ps → length (get_or Ps a []) ≡ C
sized_at C [] t a h = absurd (not-suc-le-zero h)
sized_at C (P ∷ Ps) t zero h = eqb→eq (length P) C (and_l (eqb (length P) C) (sized C Ps) t)
sized_at C (P ∷ Ps) t (suc a) h = sized_at C Ps (and_r (eqb (length P) C) (sized C Ps) t) a (le_of_suc-le-suc h)

pub length_drops : (J : ℕ) (H : List (List (List ℕ))) → length (drops J H) ≡ length H
length_drops J [] = refl
length_drops J (r ∷ H) = ap suc (length_drops J H)

module _ (m printed : ℕ) where
  -- a bit is the sum of all bits of its block, each times 1 where it is the bit and 0 elsewhere
  pub itself : (u : ℕ → Bool) (x : ℕ) → x < suc m → u x ≡ shifted_sum (suc m) (λ d. eqb d 0) u x
  itself u x h =
      sym (sum_same (suc m) (λ t. u t && eqb ((x + (suc m - t)) % suc m) 0) (λ t. u t && eqb t x)
      (λ t l. ap (λ z. u t && z) (near m x t h l))
      ∙ pick (suc m) x u h)

  -- shifts of a convolution: those of its row
  pub moved : (P : List (List ℕ)) (g : ℕ → ℕ → Bool) (u : ℕ → Bool) (i : ℕ)
      → blocks P 0 (λ c s. shifted_sum (suc m) (g c) u ((i + s) % suc m))
      ≡ sum (suc m) (λ t. u t && blocks P 0 (λ c s. g c (((i + (suc m - t)) % suc m + s) % suc m)))
  moved P g u i =
      swap (blocks' P 0) (blocks_linear P 0) (suc m) (λ p t. u t && g p.0 (((i + p.1) % suc m + (suc m - t)) % suc m))
      ∙ ap (sum (suc m)) (fun_ext (λ t.
      into (blocks' P 0) (blocks_linear P 0) (u t) (λ p. g p.0 (((i + p.1) % suc m + (suc m - t)) % suc m))
      ∙ ap (λ F. u t && blocks P 0 F) (fun_ext (λ c. fun_ext (λ s. ap (g c) (either m i s (suc m - t)))))))

  -- the same with one block
  pub moved_over : (S : List ℕ) (g : ℕ → Bool) (u : ℕ → Bool) (i : ℕ)
      → over S (λ s. shifted_sum (suc m) g u ((i + s) % suc m))
      ≡ sum (suc m) (λ t. u t && over S (λ s. g (((i + (suc m - t)) % suc m + s) % suc m)))
  moved_over S g u i =
      swap (over S) (over_linear S) (suc m) (λ s t. u t && g (((i + s) % suc m + (suc m - t)) % suc m))
      ∙ ap (sum (suc m)) (fun_ext (λ t.
      into (over S) (over_linear S) (u t) (λ s. g (((i + s) % suc m + (suc m - t)) % suc m))
      ∙ ap (λ F. u t && over S F) (fun_ext (λ s. ap g (either m i s (suc m - t))))))

  -- one information block and what it adds to the parity blocks
  one : (P : List (List ℕ)) (S : List ℕ) (g : List ℕ) (u : ℕ → Bool) (i : ℕ)
      → T (below (suc m) (cancels (suc m) printed S P g))
      → over S (λ s. u ((i + s) % suc m)) ⊕ blocks P 0
      (λ c s. shifted_sum (suc m) (drawn (suc m) printed (get_or g c 0)) u ((i + s) % suc m))
      ≡ false
  one P S g u i t' =
      ap₂ (λ x y. x ⊕ y)
      (ap (over S) (fun_ext (λ s. itself u ((i + s) % suc m) (mod-lt (i + s) (zero-lt-suc m)))) ∙ moved_over S (λ d. eqb d 0) u i)
      (moved P (λ c. drawn (suc m) printed (get_or g c 0)) u i)
      ∙ sym ((sum_linear (suc m)).plus
      (λ t. u t && over S (λ s. eqb (((i + (suc m - t)) % suc m + s) % suc m) 0))
      (λ t. u t && blocks P 0 (λ c s. drawn (suc m) printed (get_or g c 0) (((i + (suc m - t)) % suc m + s) % suc m))))
      ∙ sum_none (suc m) _ (λ t l.
      sym (and-⊕ (u t) (over S (λ s. eqb (((i + (suc m - t)) % suc m + s) % suc m) 0))
      (blocks P 0 (λ c s. drawn (suc m) printed (get_or g c 0) (((i + (suc m - t)) % suc m + s) % suc m))))
      ∙ ap (λ z. u t && z) (not-true (over S (λ s. eqb (((i + (suc m - t)) % suc m + s) % suc m) 0) ⊕ blocks P 0
      (λ c s. drawn (suc m) printed (get_or g c 0) (((i + (suc m - t)) % suc m + s) % suc m)))
      (below_at (suc m) (cancels (suc m) printed S P g) t' ((i + (suc m - t)) % suc m) (mod-lt (i + (suc m - t)) (zero-lt-suc m))))
      ∙ and-false (u t))

  -- the information blocks of a row, one after the other
  pub rows : (P Ss gs : List (List ℕ)) (j : ℕ) (w : ℕ → ℕ → Bool) (i : ℕ) → T (row_tied_of (suc m) printed P Ss gs)
      → blocks Ss j (λ b s. w b ((i + s) % suc m))
      ≡ blocks P 0 (λ c s. parity_in (suc m) printed gs j w c ((i + s) % suc m)) ⊕ blocks (drop (length gs) Ss) (j + length gs)
      (λ b s. w b ((i + s) % suc m))
  rows P Ss [] j w i t =
      sym (ap₂ (λ x y. x ⊕ y) (blocks_linear P 0).none (ap (λ z. blocks Ss z (λ b s. w b ((i + s) % suc m))) (add-zero j)))
  rows P [] (g ∷ gs) j w i t = absurd t
  rows P (S ∷ Ss) (g ∷ gs) j w i t =
      ap₂ (λ x y. x ⊕ y)
      (⊕-eq (over S (λ s. w j ((i + s) % suc m)))
      (blocks P 0 (λ c s. shifted_sum (suc m) (drawn (suc m) printed (get_or g c 0)) (w j) ((i + s) % suc m)))
      (one P S g (w j) i (and_l (below (suc m) (cancels (suc m) printed S P g)) (row_tied_of (suc m) printed P Ss gs) t)))
      (rows P Ss gs (suc j) w i (and_r (below (suc m) (cancels (suc m) printed S P g)) (row_tied_of (suc m) printed P Ss gs) t))
      ∙ sym (⊕-assoc
      (blocks P 0 (λ c s. shifted_sum (suc m) (drawn (suc m) printed (get_or g c 0)) (w j) ((i + s) % suc m)))
      (blocks P 0 (λ c s. parity_in (suc m) printed gs (suc j) w c ((i + s) % suc m)))
      (blocks (drop (length gs) Ss) (suc j + length gs) (λ b s. w b ((i + s) % suc m))))
      ∙ ap₂ (λ x y. x ⊕ y)
      (sym ((blocks_linear P 0).plus
      (λ p. shifted_sum (suc m) (drawn (suc m) printed (get_or g p.0 0)) (w j) ((i + p.1) % suc m))
      (λ p. parity_in (suc m) printed gs (suc j) w p.0 ((i + p.1) % suc m))))
      (ap (λ z. blocks (drop (length gs) Ss) z (λ b s. w b ((i + s) % suc m))) (suc-add j (length gs) ∙ sym (add-suc j (length gs))))

  -- a check of a word: the same check on the parity blocks alone, of what they differ by from the encoder's parity
  unfoldable pub differ : (gs : List (List ℕ)) → (ℕ → ℕ → Bool) → ℕ → ℕ → Bool
  differ gs w c k = parity_in (suc m) printed gs 0 w c k ⊕ w (length gs + c) k

  pub reduce : (row gs : List (List ℕ)) (w : ℕ → ℕ → Bool) → T (row_tied_of (suc m) printed (drop (length gs) row) row gs)
      → (i : ℕ) → check_in (suc m) row w i ≡ check_in (suc m) (drop (length gs) row) (differ gs w) i
  unfolding differ
  reduce row gs w t i =
      rows (drop (length gs) row) row gs 0 w i t
      ∙ ap (λ x. blocks (drop (length gs) row) 0 (λ c s. parity_in (suc m) printed gs 0 w c ((i + s) % suc m)) ⊕ x)
      (ap (λ z. blocks (drop (length gs) row) z (λ b s. w b ((i + s) % suc m))) (zero-add (length gs) ∙ sym (add-zero (length gs)))
      ∙ blocks_from (drop (length gs) row) (length gs) 0 (λ b s. w b ((i + s) % suc m)))
      ∙ sym ((blocks_linear (drop (length gs) row) 0).plus
      (λ p. parity_in (suc m) printed gs 0 w p.0 ((i + p.1) % suc m)) (λ p. w (length gs + p.0) ((i + p.1) % suc m)))

  -- the same for all rows of the table
  pub reduce_all : (H : List (List (List ℕ))) (gs : List (List ℕ)) (w : ℕ → ℕ → Bool) → T (rows_tied_of (suc m) printed H gs)
      → (r i : ℕ) → r < length H
      → check_in (suc m) (get_or H r []) w i ≡ check_in (suc m) (get_or (drops (length gs) H) r []) (differ gs w) i
  reduce_all [] gs w t r i h = absurd (not-suc-le-zero h)
  reduce_all (row ∷ H) gs w t zero i h =
      reduce row gs w (and_l (row_tied_of (suc m) printed (drop (length gs) row) row gs) (rows_tied_of (suc m) printed H gs) t) i
  reduce_all (row ∷ H) gs w t (suc r) i h =
      reduce_all H gs w (and_r (row_tied_of (suc m) printed (drop (length gs) row) row gs) (rows_tied_of (suc m) printed H gs) t) r i
      (le_of_suc-le-suc h)

  -- a word whose parity blocks are the encoder's meets every check
  pub quiet_all : (C : ℕ) (H : List (List (List ℕ))) (gs : List (List ℕ)) (w : ℕ → ℕ → Bool) → T (rows_tied_of (suc m) printed H gs)
      → T (sized C (drops (length gs) H))
      → ((c k : ℕ) → c < C → k < suc m → w (length gs + c) k ≡ parity_in (suc m) printed gs 0 w c k)
      → (r i : ℕ) → r < length H → check_in (suc m) (get_or H r []) w i ≡ false
  unfolding differ
  quiet_all C H gs w t sz enc r i h =
      let P : List (List ℕ) = get_or (drops (length gs) H) r [] in
      let wide : length P ≡ C = sized_at C (drops (length gs) H) sz r (subst (λ z. r < z) (sym (length_drops (length gs) H)) h) in
      reduce_all H gs w t r i h
      ∙ blocks_same (get_or (drops (length gs) H) r []) _ (λ c s. false) (λ c s l.
      ap (λ z. parity_in (suc m) printed gs 0 w c ((i + s) % suc m) ⊕ z)
      (enc c ((i + s) % suc m) (subst (λ z. c < z) wide l) (mod-lt (i + s) (zero-lt-suc m)))
      ∙ ⊕-self (parity_in (suc m) printed gs 0 w c ((i + s) % suc m)))
      ∙ (blocks_linear (get_or (drops (length gs) H) r []) 0).none
