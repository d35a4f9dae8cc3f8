-- The starts of a block, one place of the table after the other.
-- Assumes nothing.
use mathlib.Core.Path.{◌≡◌, refl, sym, ap, ap₂, ◌∙◌, subst}
use mathlib.Core.Bool.{Bool, true, false}
use mathlib.Core.List.{List, [], ◌∷◌}
use Prim.Native.Nat.{ℕ, suc, ◌+◌, ◌-◌, ◌*◌, ◌≤◌, ◌<◌}
use native.Mathlib.Nat.{add-zero, mul-le-mul_right}
use native.Mathlib.Numerals.{add-one}
use native.Mathlib.Decide.{ℕ_discrete}
use native.Mathlib.Omega.{arith}
use borrow.Author.Tests.{lt-ltb, le-ltb}
use lib.Dec.{ltb}
use lib.ListN.{get_or, length, set, length-set}
use lib.Seq.{get_or-set_same, get_or-set_other}
use Rattle.bits.specs.Bits.{Word, count, tally, when◌then◌else◌, count_of}
use Rattle.bits.proofs.Counting.{count_same, count_next, tally_le}
use Rattle.layout.specs.declared.Shape.{Shape}
use Rattle.layout.specs.Lent.{Fit, kept, total, place_of, shifts_of}
use Rattle.flipping.specs.bounds.Reading.{Noted, Listed, asked, Starts, Gathered}

-- A row more is within all rows.
pub within : (r n w : ℕ) → r < n → r * w + w ≤ n * w
within r n w l = omega (arith, mul-le-mul_right {m = suc r} {n = n} w l, ap (λ k. k * w) (sym (add-one r)))

-- The places of a block of a row are in the table, and the table is short.
pub place_in : (h : List ℕ) (sh : Shape) → Fit h sh → (r b : ℕ) → r < sh.rows → b < sh.blocks
    → (place_of sh r b + 1 < length h) × (length h ≤ 128)
place_in h sh fit r b l k =
    let all = within r sh.rows sh.blocks l in
    (omega (arith, fit.flat), omega (arith, fit.flat, fit.blocks, mul-le-mul_right {m = sh.rows} {n = 4} sh.blocks fit.rows))

-- A start is written where s is an entry, and none where it is not.
module _ (s s' m row : ℕ) (l : List ℕ) (n : ℕ) (same : s ≡ s') where
  pub noted : s' < m → Noted s m row l n (set l n (row + (m - s'))) (n + 1)
  noted h =
      let t = lt-ltb s m (omega arith) in
      record {
        long = length-set l n (row + (m - s'));
        many = ap (λ b. n + tally b) (sym t);
        new =
            ap (λ k. set l n (row + (m - k))) (sym same) ∙ ap (λ b. when b then set l n (row + (m - s)) else l) (sym t);
      }

  pub unnoted : m ≤ s' → Noted s m row l n l n
  unnoted h =
      let t = le-ltb s m (omega arith) in
      record {
        long = refl;
        many = sym (add-zero n) ∙ ap (λ b. n + tally b) (sym t);
        new =
            ap (λ b. when b then set l n (row + (m - s)) else l) (sym t);
      }

pub noted_le : {s m row : ℕ} {l l' : List ℕ} {n n' : ℕ} → Noted s m row l n l' n' → n' ≤ n + 1
noted_le {s} {m} w = omega (arith, w.many, tally_le (ltb s m))

kept_count : (m s : ℕ) (rest : List ℕ) (f : Word) → count_of (kept m s rest) f ≡ count_of (kept m s []) f + count_of rest f
kept_count m s rest f = go (ltb s m)
  where
    go : (t : Bool) → count_of (when t then s ∷ rest else rest) f ≡ count_of (when t then s ∷ [] else []) f + count_of rest f
    go true = omega arith
    go false = omega arith

moved : {l l' : List ℕ} {first n n' end : ℕ} {f : Word → ℕ} → n' ≡ n → l' ≡ l → Listed l first n end f → Listed l' first n' end f
moved {l} {l'} {first} {n} {n'} {end} {f} e q w = subst (λ k. Listed k first n' end f) (sym q)
    (subst (λ k. Listed l first k end f) (sym e) w)

-- A start more.
module _ (l l' : List ℕ) (first n n' s m row end : ℕ) (f : Word → ℕ) where
  listed_more : first + n < length l → row + m ≤ end → Noted s m row l (first + n) l' (first + n') → Listed l first n end f
      → Listed l' first n' end (λ g. f g + count_of (kept m s []) (λ k. g (row + (m - k))))
  listed_more room fits noted was = go (ltb s m) noted.many noted.new
    where
      v : ℕ
      v = row + (m - s)

      other : (e : ℕ) → e < n → get_or (set l (first + n) v) (first + e) 0 ≡ get_or l (first + e) 0
      other e h = get_or-set_other l (first + n) (first + e) v 0 (λ q. omega arith)

      here : get_or (set l (first + n) v) (first + n) 0 ≡ v
      here = get_or-set_same l (first + n) v 0 room

      one : Listed (set l (first + n) v) first (n + 1) end (λ g. f g + (tally (g v) + 0))
      one = record {
        near = λ e h. pick e h (ℕ_discrete e n);
        each = λ g.
            count_next n (λ e. g (get_or (set l (first + n) v) (first + e) 0))
            ∙ ap₂ ◌+◌ (count_same n _ _ (λ e h. ap g (other e h)) ∙ was.each g) (ap (λ k. tally (g k)) here
            ∙ sym (add-zero (tally (g v))));
      }
        where
          pick : (e : ℕ) → e < n + 1 → Dec (e ≡ n) → get_or (set l (first + n) v) (first + e) 0 ≤ end
          pick e h (yes q) = omega (arith, ap (λ k. get_or (set l (first + n) v) (first + k) 0) q, here)
          pick e h (no d) = omega (arith, other e (omega arith), was.near e (omega arith))

      go : (t : Bool) → first + n' ≡ first + n + tally t → l' ≡ (when t then set l (first + n) v else l)
          → Listed l' first n' end (λ g. f g + count_of (when t then s ∷ [] else []) (λ k. g (row + (m - k))))
      go true e q = moved (omega arith) q one
      go false e q = moved (omega arith) q (record { near = was.near; each = λ g. was.each g ∙ sym (add-zero (f g)) })

pub total_more : (n : ℕ) (f : ℕ → ℕ) → total (n + 1) f ≡ total n f + f n
unfolding total
total_more n f = ap (λ k. total k f) (add-one n)

pub listed_none : (l : List ℕ) (first end : ℕ) (h : List ℕ) (sh : Shape) (b : ℕ) → Listed l first 0 end (asked h sh b 0)
unfolding count total
listed_none l first end h sh b = record { near = λ e h. absurd (omega arith); each = λ g. refl }

-- The two places of a block make a row.
module _ (h : List ℕ) (sh : Shape) (b r : ℕ) (l l' l'' : List ℕ) (first n n' n'' end : ℕ) where
  listed_row : first + n + 1 < length l → 1024 * r + sh.size ≤ end → Noted (get_or h (place_of sh r b) sh.size) sh.size (1024 * r) l
      (first + n) l' (first + n')
      → Noted (get_or h (place_of sh r b + 1) sh.size) sh.size (1024 * r) l' (first + n') l'' (first + n'')
      → Listed l first n end (asked h sh b r) → Listed l'' first n'' end (asked h sh b (r + 1))
  listed_row room fits one two was =
      let m = sh.size in
      let s = get_or h (place_of sh r b) m in
      let s' = get_or h (place_of sh r b + 1) m in
      let all = listed_more l' l'' first n' n'' s' m (1024 * r) end _ (omega (arith, one.long, one.many, tally_le (ltb s m))) fits two
      (listed_more l l' first n n' s m (1024 * r) end (asked h sh b r) (omega arith) fits one was) in
      record {
        near = all.near;
        each = λ g.
            let ask : Word = λ k. g (1024 * r + (m - k)) in
            omega (
              arith,
              all.each g,
              kept_count m s (kept m s' []) ask,
              total_more r
                  (λ q. count_of (shifts_of sh h q b) (λ k. g (1024 * q + (m - k)))),
            );
      }

noted_at : {s m row : ℕ} {l l' : List ℕ} {n n' k k' : ℕ} → n ≡ k → n' ≡ k' → Noted s m row l n l' n' → Noted s m row l k l' k'
noted_at {s} {m} {row} {l} {l'} {n} {n'} {k} {k'} p q w = subst (λ j. Noted s m row l k l' j) q (subst (λ j. Noted s m row l j l' n') p w)

pub noted_ge : {s m row : ℕ} {l l' : List ℕ} {n n' : ℕ} → Noted s m row l n l' n' → n ≤ n'
noted_ge {s} {m} w = omega (arith, w.many, tally_le (ltb s m))

-- The same by the places in the list.
pub gathered_row : (h : List ℕ) (sh : Shape) (b r : ℕ) (l l' l'' : List ℕ) (first n n' n'' end : ℕ) → first ≤ n → n + 1 < length l
    → 1024 * r + sh.size ≤ end
    → Noted (get_or h (place_of sh r b) sh.size) sh.size (1024 * r) l n l' n'
    → Noted (get_or h (place_of sh r b + 1) sh.size) sh.size (1024 * r) l' n' l'' n''
    → Listed l first (n - first) end (asked h sh b r) → Listed l'' first (n'' - first) end (asked h sh b (r + 1))
gathered_row h sh b r l l' l'' first n n' n'' end from room fits one two =
    let p : n ≡ first + (n - first) = omega arith in
    let q : n' ≡ first + (n' - first) = omega (arith, noted_ge one) in
    let u : n'' ≡ first + (n'' - first) = omega (arith, noted_ge one, noted_ge two) in
    listed_row h sh b r l l' l'' first (n - first) (n' - first) (n'' - first) end (omega arith) fits (noted_at p q one) (noted_at q u two)

-- A start that is written leaves those before it as they are.
pub noted_before : {s m row : ℕ} {l l' : List ℕ} {n n' : ℕ} → Noted s m row l n l' n' → (e : ℕ) → e < n → get_or l' e 0 ≡ get_or l e 0
noted_before {s} {m} {row} {l} {l'} {n} w e h = ap (λ k. get_or k e 0) w.new ∙ go (ltb s m)
  where
    go : (t : Bool) → get_or (when t then set l n (row + (m - s)) else l) e 0 ≡ get_or l e 0
    go true = get_or-set_other l n e (row + (m - s)) 0 (λ q. omega arith)
    go false = refl

-- What is listed stays listed where what follows it changes.
pub listed_kept : {l l' : List ℕ} {first n end : ℕ} {f : Word → ℕ} → ((e : ℕ) → e < first + n → get_or l' e 0 ≡ get_or l e 0)
    → Listed l first n end f → Listed l' first n end f
listed_kept {l} {l'} {first} {n} same w = record {
  near = λ e h. omega (arith, same (first + e) (omega arith), w.near e h);
  each = λ g. count_same n _ _ (λ e h. ap g (same (first + e) (omega arith))) ∙ w.each g;
}

-- A block more.
pub gathered_more : (h : List ℕ) (sh : Shape) (l l' counts : List ℕ) (b n : ℕ) → b < length counts → n ≤ 8 → Starts h sh b l' n
    → ((e : ℕ) → e < 8 * b → get_or l' e 0 ≡ get_or l e 0) → Gathered h sh l counts b → Gathered h sh l' (set counts b n) (b + 1)
gathered_more h sh l l' counts b n room few here kept was i hi = go (ℕ_discrete i b)
  where
    go : Dec (i ≡ b) → (get_or (set counts b n) i 0 ≤ 8) × Starts h sh i l' (get_or (set counts b n) i 0)
    go (yes q) =
        let e : n ≡ get_or (set counts b n) i 0 = sym (ap (λ k. get_or (set counts b n) k 0) q ∙ get_or-set_same counts b n 0 room) in
        (omega arith, subst (λ k. Starts h sh k l' (get_or (set counts b n) i 0)) (sym q) (subst (Starts h sh b l') e here))
    go (no d) =
        let e : get_or counts i 0 ≡ get_or (set counts b n) i 0 = sym (get_or-set_other counts b i n 0 d) in
        let w = was i (omega arith) in
        (omega arith, subst (Starts h sh i l') e (listed_kept (λ j hj. kept j (omega arith)) w.1))
