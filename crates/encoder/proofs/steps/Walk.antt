-- A walk read backwards: what a weighted sum of the rows after it is, of the rows before it. Said once over M.
use mathlib.Core.Path.{◌≡◌, refl, sym, ap, ap₂, ◌∙◌, fun_ext, subst}
use mathlib.Core.Bool.{Bool, true, false, ◌&&◌, and-false, and_comm}
use mathlib.Core.List.{List, [], ◌∷◌}
use Prim.Native.Nat.{ℕ, zero, suc, ◌+◌, ◌*◌, ◌%◌, ◌<◌}
use native.Mathlib.Nat.{not-suc-le-zero, le_of_suc-le-suc, zero-lt-suc, mod-lt, mod-eq_of_lt, mod-add-mod, add_comm, lt-suc_self, le_step}
use native.Mathlib.Decide.{ℕ_discrete}
use native.Mathlib.Omega.{arith}
use lib.Dec.{T, eqb, ltb, ltb→lt}
use lib.ListN.{get_or, length, set, length-set}
use lib.Seq.{get_or-set_same, get_or-set_other}
use borrow.Author.Tests.{eq-eqb, ne_eqb}
use Rattle.bits.specs.Bits.{Word, digit, number, ◌⊕◌, sum, below, over}
use Rattle.bits.proofs.Sums.{⊕-false, and-⊕, into, swap, sum_linear, over_linear, sum_same, pick, turn, and_l, and_r, below_at}
use Rattle.bits.proofs.Cyclic.{undo}
use Rattle.bits.proofs.Octets.{digit_number}
use Rattle.encoder.specs.steps.Steps.{target, source, rows_in, shifts, stepped, walked}

and_left : (a b c : Bool) → (a && (b && c)) ≡ (b && (a && c))
and_left true true c = refl
and_left true false c = refl
and_left false true c = refl
and_left false false c = refl

pub ⊕-and : (a b c : Bool) → ((a ⊕ b) && c) ≡ (a && c) ⊕ (b && c)
⊕-and a b c = and_comm (a ⊕ b) c ∙ and-⊕ c a b ∙ ap₂ (λ x y. x ⊕ y) (and_comm c a) (and_comm c b)

pub and_right : (a b c : Bool) → ((a && b) && c) ≡ (a && (b && c))
and_right true b c = refl
and_right false b c = refl

-- a sum over rows that is of one row alone
pub chosen : (R t : ℕ) (F : ℕ → Bool) → t < R → sum R (λ r. eqb r t && F r) ≡ F t
chosen R t F h = ap (sum R) (fun_ext (λ r. and_comm (eqb r t) (F r))) ∙ pick R t F h

-- Weights w of a row v: bit k of w is for the copy turned by k. The weighted sum, at place i.
abbrev pub weighted : ℕ → Word → Word → ℕ → Bool
weighted M w v i = sum M (λ k. w k && v ((i + k) % M))

abbrev pub weighted_rows : ℕ → ℕ → (ℕ → Word) → (ℕ → Word) → ℕ → Bool
weighted_rows M R w rows i = sum R (λ r. weighted M (w r) (rows r) i)

-- The weights before a step that give the same sum as these after it.
unfoldable pub back : ℕ → List ℕ → (ℕ → Word) → ℕ → Word
back m step w r k = w r k ⊕ (eqb r (source step) && over (shifts (suc m) step) (λ s. w (target step) ((k + s * m) % suc m)))

unfoldable pub backs : ℕ → List (List ℕ) → ℕ → (ℕ → Word) → ℕ → Word
backs m steps zero w = w
backs m steps (suc n) w = backs m steps n (back m (get_or steps n []) w)

module _ (m : ℕ) where
  -- turned copies of a row, weighted: the row, by turned weights
  turned_weights : (S : List ℕ) (u v : Word) (i : ℕ)
      → weighted (suc m) u (λ k. over S (λ s. v ((k + s) % suc m))) i ≡ weighted (suc m) (λ k. over S (λ s. u ((k + s * m) % suc m))) v i
  turned_weights S u v i =
      ap (sum (suc m)) (fun_ext (λ k. sym (into (over S) (over_linear S) (u k) (λ s. v (((i + k) % suc m + s) % suc m)))))
      ∙ sym (swap (over S) (over_linear S) (suc m) (λ s k. u k && v (((i + k) % suc m + s) % suc m)))
      ∙ ap (over S) (fun_ext (λ s. sum_same (suc m) _ (λ k. moved s ((k + s) % suc m)) (λ k l. sym (here s k l)) ∙ turn m s (moved s)))
      ∙ swap (over S) (over_linear S) (suc m) moved
      ∙ ap (sum (suc m)) (fun_ext (λ k.
      ap (over S) (fun_ext (λ s. and_comm (u ((k + s * m) % suc m)) (v ((i + k) % suc m))))
      ∙ into (over S) (over_linear S) (v ((i + k) % suc m)) (λ s. u ((k + s * m) % suc m))
      ∙ and_comm (v ((i + k) % suc m)) (over S (λ s. u ((k + s * m) % suc m)))))
    where
      moved : ℕ → ℕ → Bool
      moved s n = u ((n + s * m) % suc m) && v ((i + n) % suc m)

      here : (s k : ℕ) → k < suc m → moved s ((k + s) % suc m) ≡ (u k && v (((i + k) % suc m + s) % suc m))
      here s k l =
          ap₂ (λ a b. u a && v b) (undo m k s ∙ mod-eq_of_lt l)
          (ap (λ z. z % suc m) (add_comm i ((k + s) % suc m)) ∙ mod-add-mod (k + s) (suc m) i
          ∙ ap (λ z. z % suc m) (omega arith) ∙ sym (mod-add-mod (i + k) (suc m) s))

  -- a step read backwards
  pub step_back : (R : ℕ) (step : List ℕ) → T (rows_in R step) → (w rows : ℕ → Word) (i : ℕ)
      → weighted_rows (suc m) R w (stepped (suc m) step rows) i ≡ weighted_rows (suc m) R (back m step w) rows i
  unfolding stepped back
  step_back R step t w rows i =
      ap (sum R) (fun_ext (λ r.
      ap (sum (suc m)) (fun_ext (λ k. and-⊕ (w r k) (rows r ((i + k) % suc m)) (eqb r to && copies ((i + k) % suc m))
      ∙ ap (λ z. (w r k && rows r ((i + k) % suc m)) ⊕ z) (and_left (w r k) (eqb r to) (copies ((i + k) % suc m)))))
      ∙ (sum_linear (suc m)).plus (λ k. w r k && rows r ((i + k) % suc m)) (λ k. eqb r to && (w r k && copies ((i + k) % suc m)))
      ∙ ap (λ z. weighted (suc m) (w r) (rows r) i ⊕ z)
      (into (sum (suc m)) (sum_linear (suc m)) (eqb r to) (λ k. w r k && copies ((i + k) % suc m)))))
      ∙ (sum_linear R).plus (λ r. weighted (suc m) (w r) (rows r) i) (λ r. eqb r to && weighted (suc m) (w r) copies i)
      ∙ ap (λ z. weighted_rows (suc m) R w rows i ⊕ z)
      (chosen R to (λ r. weighted (suc m) (w r) copies i) to_row
      ∙ turned_weights S (w to) (rows from) i
      ∙ sym (chosen R from (λ r. weighted (suc m) added (rows r) i) from_row))
      ∙ sym ((sum_linear R).plus (λ r. weighted (suc m) (w r) (rows r) i) (λ r. eqb r from && weighted (suc m) added (rows r) i))
      ∙ sym (ap (sum R) (fun_ext (λ r.
      ap (sum (suc m)) (fun_ext (λ k. ⊕-and (w r k) (eqb r from && added k) (rows r ((i + k) % suc m))
      ∙ ap (λ z. (w r k && rows r ((i + k) % suc m)) ⊕ z) (and_right (eqb r from) (added k) (rows r ((i + k) % suc m)))))
      ∙ (sum_linear (suc m)).plus (λ k. w r k && rows r ((i + k) % suc m)) (λ k. eqb r from && (added k && rows r ((i + k) % suc m)))
      ∙ ap (λ z. weighted (suc m) (w r) (rows r) i ⊕ z)
      (into (sum (suc m)) (sum_linear (suc m)) (eqb r from) (λ k. added k && rows r ((i + k) % suc m))))))
    where
      to : ℕ
      to = target step

      from : ℕ
      from = source step

      S : List ℕ
      S = shifts (suc m) step

      copies : Word
      copies k = over S (λ s. rows from ((k + s) % suc m))

      added : Word
      added k = over S (λ s. w to ((k + s * m) % suc m))

      to_row : to < R
      to_row = ltb→lt to R (and_l (ltb to R) (ltb from R) t)

      from_row : from < R
      from_row = ltb→lt from R (and_r (ltb to R) (ltb from R) t)

  -- and a walk
  pub walk_back : (R : ℕ) (steps : List (List ℕ)) (n : ℕ) → ((k : ℕ) → k < n → T (rows_in R (get_or steps k [])))
      → (w rows : ℕ → Word) (i : ℕ)
      → weighted_rows (suc m) R w (walked (suc m) steps n rows) i ≡ weighted_rows (suc m) R (backs m steps n w) rows i
  unfolding walked backs
  walk_back R steps zero t w rows i = refl
  walk_back R steps (suc n) t w rows i =
      step_back R (get_or steps n []) (t n (lt-suc_self n)) w (walked (suc m) steps n rows) i
      ∙ walk_back R steps n (λ k l. t k (le_step l)) (back m (get_or steps n []) w) rows i

-- ---- weights as numbers, so that they can be computed

-- The weights of R rows as numbers of M digits.
abbrev pub numbers : ℕ → ℕ → (ℕ → Word) → List ℕ
numbers M zero w = []
numbers M (suc R) w = number M (w 0) ∷ numbers M R (λ r. w (suc r))

-- A step read backwards on them, and a walk.
abbrev pub back_numbers : ℕ → List ℕ → List ℕ → List ℕ
back_numbers m step ps =
    set ps (source step)
    (number (suc m) (λ k. digit (suc m) (get_or ps (source step) 0) k ⊕ over (shifts (suc m) step)
    (λ s. digit (suc m) (get_or ps (target step) 0) ((k + s * m) % suc m))))

unfoldable pub backs_numbers : ℕ → List (List ℕ) → ℕ → List ℕ → List ℕ
backs_numbers m steps zero ps = ps
backs_numbers m steps (suc n) ps = backs_numbers m steps n (back_numbers m (get_or steps n []) ps)

-- the numbers are those of the weights
pub record Numbered (M R : ℕ) (ps : List ℕ) (w : ℕ → Word) : Type 0 where
  pub long : length ps ≡ R
  pub digits : (r k : ℕ) → r < R → k < M → digit M (get_or ps r 0) k ≡ w r k

pub numbered : (M R : ℕ) (w : ℕ → Word) → Numbered M R (numbers M R w) w
numbered M zero w = record { long = refl; digits = λ r k hr hk. absurd (not-suc-le-zero hr) }
numbered M (suc R) w = go (numbered M R (λ r. w (suc r)))
  where
    go : Numbered M R (numbers M R (λ r. w (suc r))) (λ r. w (suc r)) → Numbered M (suc R) (numbers M (suc R) w) w
    go rest = record { long = ap suc rest.long; digits = at }
      where
        at : (r k : ℕ) → r < suc R → k < M → digit M (get_or (numbers M (suc R) w) r 0) k ≡ w r k
        at zero k hr hk = digit_number M (w 0) k hk
        at (suc r) k hr hk = rest.digits r k (le_of_suc-le-suc hr) hk

module _ (m R : ℕ) where
  back_numbered : (step ps : List ℕ) (w : ℕ → Word) → T (rows_in R step) → Numbered (suc m) R ps w
      → Numbered (suc m) R (back_numbers m step ps) (back m step w)
  unfolding back
  back_numbered step ps w t n = record { long = length-set ps from v ∙ n.long; digits = λ r k hr hk. go r k hr hk (ℕ_discrete r from) }
    where
      to : ℕ
      to = target step

      from : ℕ
      from = source step

      S : List ℕ
      S = shifts (suc m) step

      added : Word
      added k = over S (λ s. digit (suc m) (get_or ps to 0) ((k + s * m) % suc m))

      v : ℕ
      v = number (suc m) (λ k. digit (suc m) (get_or ps from 0) k ⊕ added k)

      to_row : to < R
      to_row = ltb→lt to R (and_l (ltb to R) (ltb from R) t)

      from_row : from < R
      from_row = ltb→lt from R (and_r (ltb to R) (ltb from R) t)

      go : (r k : ℕ) → r < R → k < suc m → Dec (r ≡ from)
          → digit (suc m) (get_or (set ps from v) r 0) k ≡ w r k ⊕ (eqb r from && over S (λ s. w to ((k + s * m) % suc m)))
      go r k hr hk (yes e) =
          ap (λ z. digit (suc m) z k) (ap (λ z. get_or (set ps from v) z 0) e
          ∙ get_or-set_same ps from v 0 (subst (λ z. from < z) (sym n.long) from_row))
          ∙ digit_number (suc m) (λ k. digit (suc m) (get_or ps from 0) k ⊕ added k) k hk
          ∙ ap₂ (λ a b. a ⊕ b) (n.digits from k from_row hk ∙ ap (λ z. w z k) (sym e))
          (ap (over S) (fun_ext (λ s. n.digits to ((k + s * m) % suc m) to_row (mod-lt (k + s * m) (zero-lt-suc m))))
          ∙ ap (λ z. z && over S (λ s. w to ((k + s * m) % suc m))) (sym (eq-eqb r from e)))
      go r k hr hk (no d) =
          ap (λ z. digit (suc m) z k) (get_or-set_other ps from r v 0 d)
          ∙ n.digits r k hr hk
          ∙ sym (ap (λ z. w r k ⊕ (z && over S (λ s. w to ((k + s * m) % suc m)))) (ne_eqb r from d) ∙ ⊕-false (w r k))

  pub backs_numbered : (steps : List (List ℕ)) (n : ℕ) (ps : List ℕ) (w : ℕ → Word) → ((k : ℕ) → k < n → T (rows_in R (get_or steps k [])))
      → Numbered (suc m) R ps w
      → Numbered (suc m) R (backs_numbers m steps n ps) (backs m steps n w)
  unfolding backs backs_numbers
  backs_numbered steps zero ps w t h = h
  backs_numbered steps (suc n) ps w t h =
      backs_numbered steps n (back_numbers m (get_or steps n []) ps) (back m (get_or steps n []) w) (λ k l. t k (le_step l))
      (back_numbered (get_or steps n []) ps w (t n (lt-suc_self n)) h)

  -- Weights u after a walk are weights v before it, by a comparison of numbers.
  pub walk_weighs : (steps : List (List ℕ)) (n : ℕ) → T (below n (λ k. rows_in R (get_or steps k []))) → (u v : ℕ → Word)
      → backs_numbers m steps n (numbers (suc m) R u) ≡ numbers (suc m) R v
      → (rows : ℕ → Word) (i : ℕ) → weighted_rows (suc m) R u (walked (suc m) steps n rows) i ≡ weighted_rows (suc m) R v rows i
  walk_weighs steps n t u v e rows i =
      walk_back m R steps n (below_at n (λ k. rows_in R (get_or steps k [])) t) u rows i
      ∙ sum_same R _ (λ r. weighted (suc m) (v r) (rows r) i) (λ r hr.
      sum_same (suc m) _ (λ k. v r k && rows r ((i + k) % suc m)) (λ k hk.
      ap (λ z. z && rows r ((i + k) % suc m))
      (sym ((backs_numbered steps n (numbers (suc m) R u) u (below_at n (λ k. rows_in R (get_or steps k [])) t)
      (numbered (suc m) R u)).digits r k hr hk)
      ∙ ap (λ ps. digit (suc m) (get_or ps r 0) k) e
      ∙ (numbered (suc m) R v).digits r k hr hk)))

  -- rows with an even number of ones keep it
  pub walk_even : (steps : List (List ℕ)) (n : ℕ) → ((k : ℕ) → k < n → T (rows_in R (get_or steps k []))) → (rows : ℕ → Word)
      → ((r : ℕ) → r < R → sum (suc m) (rows r) ≡ false)
      → (r : ℕ) → r < R → sum (suc m) (walked (suc m) steps n rows r) ≡ false
  unfolding walked stepped
  walk_even steps zero t rows even r h = even r h
  walk_even steps (suc n) t rows even r h = go (walk_even steps n (λ k l. t k (le_step l)) rows even)
    where
      step : List ℕ
      step = get_or steps n []

      S : List ℕ
      S = shifts (suc m) step

      v : ℕ → Word
      v = walked (suc m) steps n rows

      from_row : source step < R
      from_row = ltb→lt (source step) R (and_r (ltb (target step) R) (ltb (source step) R) (t n (lt-suc_self n)))

      go : ((r : ℕ) → r < R → sum (suc m) (v r) ≡ false)
          → sum (suc m) (λ i. v r i ⊕ (eqb r (target step) && over S (λ s. v (source step) ((i + s) % suc m)))) ≡ false
      go ih =
          (sum_linear (suc m)).plus (v r) (λ i. eqb r (target step) && over S (λ s. v (source step) ((i + s) % suc m)))
          ∙ ap₂ (λ a b. a ⊕ b) (ih r h)
          (into (sum (suc m)) (sum_linear (suc m)) (eqb r (target step)) (λ i. over S (λ s. v (source step) ((i + s) % suc m)))
          ∙ ap (λ z. eqb r (target step) && z)
          (sym (swap (over S) (over_linear S) (suc m) (λ s i. v (source step) ((i + s) % suc m)))
          ∙ ap (over S) (fun_ext (λ s. turn m s (v (source step)) ∙ ih (source step) from_row))
          ∙ (over_linear S).none)
          ∙ and-false (eqb r (target step)))
