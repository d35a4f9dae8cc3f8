-- A word that meets every check is the encoding of its own information bits, up to inverted parity blocks, from a test of
-- a left inverse of the parity part. Said once over M.
use mathlib.Core.Path.{◌≡◌, refl, sym, ap, ap₂, ◌∙◌, fun_ext, subst}
use mathlib.Core.Bool.{Bool, true, false, not, ◌&&◌, and-false, and_comm, and-true}
use mathlib.Core.List.{List, [], ◌∷◌}
use Prim.Native.Nat.{ℕ, zero, suc, ◌+◌, ◌-◌, ◌*◌, ◌%◌, ◌<◌, suc-le-suc}
use native.Mathlib.Nat.{zero-lt-suc, mod-lt, add-zero, add-suc, suc-add, zero-add, mod-mod, not-suc-le-zero, le_of_suc-le-suc}
use native.Mathlib.Omega.{arith}
use lib.Dec.{T, eqb}
use lib.ListN.{get_or, length}
use Rattle.bits.specs.Bits.{digit, ◌⊕◌, sum, below, over, blocks}
use Rattle.rules.specs.Identity.{rows_tied_of}
use Rattle.bits.proofs.Sums.{⊕-eq, and-⊕, into, swap, sum_linear, over_linear, sum_same, sum_none, pick, turn, blocks_sum, blocks_same}
use Rattle.bits.proofs.Sums.{and_l, and_r, below_at, not-true, eqb_iff}
use Rattle.rules.proofs.Quiet.{parity_in, drops, sized, differ, reduce_all, sized_at, length_drops}
use Rattle.bits.proofs.Cyclic.{either, near, undo}
use Rattle.rules.proofs.Blocks.{check_in}

-- ---- the tests

abbrev pub same : Bool → Bool → Bool
same true b = b
same false b = not b

-- the numbers rs of a row of the inverse, one for each block row, against parity block c, at the difference d
abbrev pub column : ℕ → List ℕ → List (List (List ℕ)) → ℕ → ℕ → Bool
column M [] Ps c d = false
column M (r ∷ rs) [] c d = false
column M (r ∷ rs) (P ∷ Ps) c d = over (get_or P c []) (λ s. digit M r ((d + s * (M - 1)) % M)) ⊕ column M rs Ps c d

abbrev pub inverse_row : ℕ → ℕ → (ℕ → Bool) → List (List (List ℕ)) → ℕ → List ℕ → Bool
inverse_row M C e Ps b rs = below C (λ c. below M (λ d. same (eqb c b && e d) (column M rs Ps c d)))

abbrev pub inverse_test : ℕ → ℕ → (ℕ → Bool) → List (List (List ℕ)) → ℕ → List (List ℕ) → Bool
inverse_test M C e Ps b [] = true
inverse_test M C e Ps b (rs ∷ R) = inverse_row M C e Ps b rs && inverse_test M C e Ps (suc b) R

-- each parity block has an even number of shifts
abbrev pub even : List (List ℕ) → Bool
even [] = true
even (S ∷ P) = not (over S (λ s. true)) && even P

abbrev pub evens : List (List (List ℕ)) → Bool
evens [] = true
evens (P ∷ Ps) = even P && evens Ps

same_eq : (a b : Bool) → T (same a b) → b ≡ a
same_eq true true t = refl
same_eq true false t = absurd t
same_eq false true t = absurd t
same_eq false false t = refl

and_left : (a b c : Bool) → (a && (b && c)) ≡ (b && (a && c))
and_left true true c = refl
and_left true false c = refl
and_left false true c = refl
and_left false false c = refl

and-not : (a b : Bool) → a ⊕ (a && b) ≡ (a && not b)
and-not true b = refl
and-not false b = refl

module _ (m printed : ℕ) where
  back : (i s x : ℕ) → (((i + s) % suc m + x) % suc m + s * (suc m - 1)) % suc m ≡ (i + x) % suc m
  back i s x =
      ap (λ z. (z + s * (suc m - 1)) % suc m) (either m i s x)
      ∙ ap (λ z. (((i + x) % suc m + s) % suc m + s * z) % suc m) (omega arith)
      ∙ undo m ((i + x) % suc m) s ∙ mod-mod (i + x) (suc m)

  -- every check of a block row, weighted by r and summed, is a weighted sum of the blocks
  weigh : (P : List (List ℕ)) (r : ℕ → Bool) (v : ℕ → ℕ → Bool) (x : ℕ)
      → sum (suc m) (λ i. r ((i + x) % suc m) && check_in (suc m) P v i)
      ≡ sum (length P) (λ c. sum (suc m) (λ n. v c n && over (get_or P c []) (λ s. r (((n + x) % suc m + s * (suc m - 1)) % suc m))))
  weigh P r v x =
      ap (sum (suc m)) (fun_ext (λ i.
      ap (λ z. r ((i + x) % suc m) && z) (blocks_sum P 0 (λ b s. v b ((i + s) % suc m)))
      ∙ sym (into (sum (length P)) (sum_linear (length P)) (r ((i + x) % suc m))
      (λ c. over (get_or P c []) (λ s. v (0 + c) ((i + s) % suc m))))))
      ∙ swap (sum (suc m)) (sum_linear (suc m)) (length P)
      (λ i c. r ((i + x) % suc m) && over (get_or P c []) (λ s. v (0 + c) ((i + s) % suc m)))
      ∙ ap (sum (length P)) (fun_ext (λ c. block c))
    where
      block : (c : ℕ) → sum (suc m) (λ i. r ((i + x) % suc m) && over (get_or P c []) (λ s. v (0 + c) ((i + s) % suc m)))
          ≡ sum (suc m) (λ n. v c n && over (get_or P c []) (λ s. r (((n + x) % suc m + s * (suc m - 1)) % suc m)))
      block c =
          ap (λ b. sum (suc m) (λ i. r ((i + x) % suc m) && over (get_or P c []) (λ s. v b ((i + s) % suc m)))) (zero-add c)
          ∙ ap (sum (suc m)) (fun_ext (λ i. sym (into (over (get_or P c [])) (over_linear (get_or P c [])) (r ((i + x) % suc m))
          (λ s. v c ((i + s) % suc m)))))
          ∙ sym (swap (over (get_or P c [])) (over_linear (get_or P c [])) (suc m) (λ s i. r ((i + x) % suc m) && v c ((i + s) % suc m)))
          ∙ ap (over (get_or P c [])) (fun_ext (λ s.
          ap (sum (suc m)) (fun_ext (λ i. ap (λ z. r z && v c ((i + s) % suc m)) (sym (back i s x))))
          ∙ turn m s (λ n. r (((n + x) % suc m + s * (suc m - 1)) % suc m) && v c n)))
          ∙ swap (over (get_or P c [])) (over_linear (get_or P c [])) (suc m)
          (λ s n. r (((n + x) % suc m + s * (suc m - 1)) % suc m) && v c n)
          ∙ ap (sum (suc m)) (fun_ext (λ n.
          ap (over (get_or P c [])) (fun_ext (λ s. and_comm (r (((n + x) % suc m + s * (suc m - 1)) % suc m)) (v c n)))
          ∙ into (over (get_or P c [])) (over_linear (get_or P c [])) (v c n) (λ s. r (((n + x) % suc m + s * (suc m - 1)) % suc m))))

  -- all checks met: each combination of them is 0
  combined : (C : ℕ) (rs : List ℕ) (Ps : List (List (List ℕ))) (v : ℕ → ℕ → Bool) (x : ℕ)
      → ((a : ℕ) → a < length Ps → length (get_or Ps a []) ≡ C)
      → ((a i : ℕ) → a < length Ps → i < suc m → check_in (suc m) (get_or Ps a []) v i ≡ false)
      → sum C (λ c. sum (suc m) (λ n. v c n && column (suc m) rs Ps c ((n + x) % suc m))) ≡ false
  combined C [] Ps v x len met =
      sum_none C _ (λ c l. sum_none (suc m) (λ n. v c n && false) (λ n l'. and-false (v c n)))
  combined C (r ∷ rs) [] v x len met =
      sum_none C _ (λ c l. sum_none (suc m) (λ n. v c n && false) (λ n l'. and-false (v c n)))
  combined C (r ∷ rs) (P ∷ Ps) v x len met =
      ap (sum C) (fun_ext (λ c.
      ap (sum (suc m)) (fun_ext (λ n. and-⊕ (v c n)
      (over (get_or P c []) (λ s. digit (suc m) r (((n + x) % suc m + s * (suc m - 1)) % suc m)))
      (column (suc m) rs Ps c ((n + x) % suc m))))
      ∙ (sum_linear (suc m)).plus (λ n. v c n && over (get_or P c []) (λ s. digit (suc m) r (((n + x) % suc m + s * (suc m - 1)) % suc m)))
      (λ n. v c n && column (suc m) rs Ps c ((n + x) % suc m))))
      ∙ (sum_linear C).plus
      (λ c. sum (suc m) (λ n. v c n && over (get_or P c []) (λ s. digit (suc m) r (((n + x) % suc m + s * (suc m - 1)) % suc m))))
      (λ c. sum (suc m) (λ n. v c n && column (suc m) rs Ps c ((n + x) % suc m)))
      ∙ ap₂ (λ a b. a ⊕ b)
      (ap (λ z. sum z (λ c. sum (suc m)
      (λ n. v c n && over (get_or P c []) (λ s. digit (suc m) r (((n + x) % suc m + s * (suc m - 1)) % suc m)))))
      (sym (len 0 (zero-lt-suc (length Ps))))
      ∙ sym (weigh P (digit (suc m) r) v x)
      ∙ sum_none (suc m) _ (λ i l. ap (λ z. digit (suc m) r ((i + x) % suc m) && z) (met 0 i (zero-lt-suc (length Ps)) l)
      ∙ and-false (digit (suc m) r ((i + x) % suc m))))
      (combined C rs Ps v x (λ a l. len (suc a) (suc-le-suc l)) (λ a i l l'. met (suc a) i (suc-le-suc l) l'))

  -- so what the inverse makes of a block is 0
  made : (C : ℕ) (e : ℕ → Bool) (b k : ℕ) (rs : List ℕ) (Ps : List (List (List ℕ))) (v : ℕ → ℕ → Bool)
      → b < C → ((a : ℕ) → a < length Ps → length (get_or Ps a []) ≡ C)
      → ((a i : ℕ) → a < length Ps → i < suc m → check_in (suc m) (get_or Ps a []) v i ≡ false)
      → T (inverse_row (suc m) C e Ps b rs)
      → sum (suc m) (λ n. v b n && e ((n + (suc m - k)) % suc m)) ≡ false
  made C e b k rs Ps v hb len met t =
      sym (pick C b (λ c. sum (suc m) (λ n. v c n && e ((n + (suc m - k)) % suc m))) hb)
      ∙ sum_same C (λ c. sum (suc m) (λ n. v c n && e ((n + (suc m - k)) % suc m)) && eqb c b)
      (λ c. sum (suc m) (λ n. v c n && column (suc m) rs Ps c ((n + (suc m - k)) % suc m))) each
      ∙ combined C rs Ps v (suc m - k) len met
    where
      each : (c : ℕ) → c < C → (sum (suc m) (λ n. v c n && e ((n + (suc m - k)) % suc m)) && eqb c b) ≡ sum (suc m)
          (λ n. v c n && column (suc m) rs Ps c ((n + (suc m - k)) % suc m))
      each c l =
          and_comm (sum (suc m) (λ n. v c n && e ((n + (suc m - k)) % suc m))) (eqb c b)
          ∙ sym (into (sum (suc m)) (sum_linear (suc m)) (eqb c b) (λ n. v c n && e ((n + (suc m - k)) % suc m)))
          ∙ ap (sum (suc m)) (fun_ext (λ n.
          and_left (eqb c b) (v c n) (e ((n + (suc m - k)) % suc m))
          ∙ ap (λ z. v c n && z) (sym (same_eq (eqb c b && e ((n + (suc m - k)) % suc m))
          (column (suc m) rs Ps c ((n + (suc m - k)) % suc m))
          (below_at (suc m) (λ d. same (eqb c b && e d) (column (suc m) rs Ps c d))
          (below_at C (λ c. below (suc m) (λ d. same (eqb c b && e d) (column (suc m) rs Ps c d))) t c l)
          ((n + (suc m - k)) % suc m) (mod-lt (n + (suc m - k)) (zero-lt-suc m)))))))

  eqb_comm : (a b : ℕ) → eqb a b ≡ eqb b a
  eqb_comm a b = eqb_iff a b b a sym sym

  only : (v : ℕ → Bool) (k : ℕ) → k < suc m → sum (suc m) (λ n. v n && eqb ((n + (suc m - k)) % suc m) 0) ≡ v k
  only v k h =
      sum_same (suc m) _ (λ n. v n && eqb n k) (λ n l. ap (λ z. v n && z) (near m n k l h ∙ eqb_comm k n)) ∙ pick (suc m) k v h

  inverse_at : (C : ℕ) (e : ℕ → Bool) (Ps : List (List (List ℕ))) (j : ℕ) (R : List (List ℕ)) → T (inverse_test (suc m) C e Ps j R)
      → (b : ℕ) → b < length R → T (inverse_row (suc m) C e Ps (j + b) (get_or R b []))
  inverse_at C e Ps j [] t b h = absurd (not-suc-le-zero h)
  inverse_at C e Ps j (rs ∷ R) t zero h =
      subst (λ z. T (inverse_row (suc m) C e Ps z rs)) (sym (add-zero j))
      (and_l (inverse_row (suc m) C e Ps j rs) (inverse_test (suc m) C e Ps (suc j) R) t)
  inverse_at C e Ps j (rs ∷ R) t (suc b) h =
      subst (λ z. T (inverse_row (suc m) C e Ps z (get_or R b []))) (suc-add j b ∙ sym (add-suc j b))
      (inverse_at C e Ps (suc j) R (and_r (inverse_row (suc m) C e Ps j rs) (inverse_test (suc m) C e Ps (suc j) R) t) b
      (le_of_suc-le-suc h))

  -- the tests of one code: its tables, and the inverse of its parity part up to e
  pub record Invertible (C : ℕ) (e : ℕ → Bool) (H : List (List (List ℕ))) (gs R : List (List ℕ)) : Type 0 where
    pub table : T (rows_tied_of (suc m) printed H gs)
    pub size : T (sized C (drops (length gs) H))
    pub inverse : T (inverse_test (suc m) C e (drops (length gs) H) 0 R)
    pub rank : length R ≡ C

  module _ (C : ℕ) (e : ℕ → Bool) (H : List (List (List ℕ))) (gs R : List (List ℕ)) (code : Invertible C e H gs R)
      (w : ℕ → ℕ → Bool) (met : (r i : ℕ) → r < length H → i < suc m → check_in (suc m) (get_or H r []) w i ≡ false) where
    left : (b k : ℕ) → b < C → sum (suc m) (λ n. differ m printed gs w b n && e ((n + (suc m - k)) % suc m)) ≡ false
    left b k h =
        made C e b k (get_or R b []) (drops (length gs) H) (differ m printed gs w) h (sized_at C (drops (length gs) H) code.size)
        (λ a i l l'. sym (reduce_all m printed H gs w code.table a i (fits l)) ∙ met a i (fits l) l')
        (subst (λ z. T (inverse_row (suc m) C e (drops (length gs) H) z (get_or R b []))) (zero-add b)
        (inverse_at C e (drops (length gs) H) 0 R code.inverse b (subst (λ z. b < z) (sym code.rank) h)))
      where
        fits : {a : ℕ} → a < length (drops (length gs) H) → a < length H
        fits {a} l = subst (λ z. a < z) (length_drops (length gs) H) l

  -- codes 1 to 3: the parity is the encoder's
  pub unique : (C : ℕ) (H : List (List (List ℕ))) (gs R : List (List ℕ)) → Invertible C (λ d. eqb d 0) H gs R
      → (w : ℕ → ℕ → Bool) → ((r i : ℕ) → r < length H → i < suc m → check_in (suc m) (get_or H r []) w i ≡ false)
      → (c k : ℕ) → c < C → k < suc m → w (length gs + c) k ≡ parity_in (suc m) printed gs 0 w c k
  unfolding differ
  unique C H gs R code w met c k hc hk =
      sym (⊕-eq (parity_in (suc m) printed gs 0 w c k) (w (length gs + c) k) (sym (only (differ m printed gs w c) k hk)
      ∙ left C (λ d. eqb d 0) H gs R code w met c k hc))

  -- code 4: each parity block is the encoder's, or the encoder's with every bit the other way
  pub constant : (C : ℕ) (H : List (List (List ℕ))) (gs R : List (List ℕ)) → Invertible C (λ d. not (eqb d 0)) H gs R
      → (w : ℕ → ℕ → Bool) → ((r i : ℕ) → r < length H → i < suc m → check_in (suc m) (get_or H r []) w i ≡ false)
      → (c k : ℕ) → c < C → k < suc m → differ m printed gs w c k ≡ sum (suc m) (differ m printed gs w c)
  constant C H gs R code w met c k hc hk =
      sym (only (differ m printed gs w c) k hk)
      ∙ sym (⊕-eq (sum (suc m) (differ m printed gs w c))
      (sum (suc m) (λ n. differ m printed gs w c n && eqb ((n + (suc m - k)) % suc m) 0))
      (sym ((sum_linear (suc m)).plus (differ m printed gs w c) (λ n. differ m printed gs w c n && eqb ((n + (suc m - k)) % suc m) 0))
      ∙ ap (sum (suc m)) (fun_ext (λ n. and-not (differ m printed gs w c n) (eqb ((n + (suc m - k)) % suc m) 0)))
      ∙ left C (λ d. not (eqb d 0)) H gs R code w met c k hc))

  -- and each such word meets every check, where each parity block of a row has an even number of shifts
  pub even_none : (P : List (List ℕ)) (b : ℕ) (f : ℕ → Bool) → T (even P) → blocks P b (λ c s. f c) ≡ false
  even_none [] b f t = refl
  even_none (S ∷ P) b f t =
      ap₂ (λ x y. x ⊕ y)
      (ap (over S) (fun_ext (λ s. sym (and-true (f b)))) ∙ into (over S) (over_linear S) (f b) (λ s. true)
      ∙ ap (λ z. f b && z) (not-true (over S (λ s. true)) (and_l (not (over S (λ s. true))) (even P) t)) ∙ and-false (f b))
      (even_none P (suc b) f (and_r (not (over S (λ s. true))) (even P) t))

  evens_at : (Ps : List (List (List ℕ))) → T (evens Ps) → (a : ℕ) → T (even (get_or Ps a []))
  evens_at [] t a = tt
  evens_at (P ∷ Ps) t zero = and_l (even P) (evens Ps) t
  evens_at (P ∷ Ps) t (suc a) = evens_at Ps (and_r (even P) (evens Ps) t) a

  pub flipped_blocks : (C : ℕ) (H : List (List (List ℕ))) (gs : List (List ℕ)) (w : ℕ → ℕ → Bool) (f : ℕ → Bool)
      → T (rows_tied_of (suc m) printed H gs) → T (sized C (drops (length gs) H)) → T (evens (drops (length gs) H))
      → ((c k : ℕ) → c < C → k < suc m → differ m printed gs w c k ≡ f c)
      → (r i : ℕ) → r < length H → check_in (suc m) (get_or H r []) w i ≡ false
  flipped_blocks C H gs w f t sz ev d r i h =
      reduce_all m printed H gs w t r i h
      ∙ blocks_same (get_or (drops (length gs) H) r []) _ (λ c s. f c) (λ c s l. d c ((i + s) % suc m)
      (subst (λ z. c < z) (sized_at C (drops (length gs) H) sz r (subst (λ z. r < z) (sym (length_drops (length gs) H)) h)) l)
      (mod-lt (i + s) (zero-lt-suc m)))
      ∙ even_none (get_or (drops (length gs) H) r []) 0 f (evens_at (drops (length gs) H) ev r)
