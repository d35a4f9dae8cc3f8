-- What the shifts of a block add to a row. Assumes nothing.
use mathlib.Core.Path.{◌≡◌, refl, sym, ap, ap₂, ◌∙◌, fun_ext}
use mathlib.Core.Bool.{Bool, true, false, ◌&&◌, and-false}
use mathlib.Core.Logic.{⊎_elim}
use mathlib.Core.List.{List, [], ◌∷◌}
use Prim.Native.Nat.{ℕ, ◌+◌, ◌-◌, ◌*◌, ◌%◌, ◌≤◌, ◌<◌}
use native.Mathlib.Nat.{mod-lt, mod-eq_of_lt, mod-eq-sub-mod}
use native.Mathlib.Omega.{arith}
use lib.Dec.{ltb, leb, eqb}
use lib.ListN.{get_or}
use borrow.Author.Tests.{lt-ltb, le-ltb, ne_eqb}
use Rattle.bits.specs.Bits.{Word, ◌⊕◌, flipped, when◌then◌else◌, over}
use Rattle.bits.proofs.Sums.{⊕-false, eqb_iff}
use Rattle.vectors.specs.Vectors.{added, up_to, from}
use Rattle.bits.proofs.Orders.{le-or-lt}
use Rattle.vectors.proofs.Spans.{added_before, added_after, added_inside, added_twice, twice_turned, up_to_below}
use Rattle.layout.specs.Lent.{kept, entries, place_of}
use Rattle.layout.specs.declared.Shape.{Shape}
use Rattle.syndromes.specs.Rows.{entry, spread, doubled, turned}

module _ (M : ℕ) (g : ℕ → Word) (s : ℕ) where
  pub entry-is : s < M → g s ≡ entry M g s
  entry-is h = fun_ext (λ i. sym (ap (λ (b : Bool). b && g s i) (lt-ltb s M h)))

  -- a place that holds no shift adds nothing
  pub entry-none : (x : Word) (a e : ℕ) → M ≤ s → x ≡ added x a e (entry M g s)
  entry-none x a e h =
      fun_ext
      (λ n.
      sym
      (ap (λ (b : Bool). x n ⊕ ((leb a n && ltb n e) && (b && g s (n - a)))) (le-ltb s M h)
      ∙ ap (λ (b : Bool). x n ⊕ b) (and-false (leb a n && ltb n e))
      ∙ ⊕-false (x n)))

-- ---- the two places of a block

over_kept : (M s : ℕ) (rest : List ℕ) (f : ℕ → Bool) → over (kept M s rest) f ≡ (ltb s M && f s) ⊕ over rest f
over_kept M s rest f = go (ltb s M)
  where
    go : (b : Bool) → over (when b then s ∷ rest else rest) f ≡ (b && f s) ⊕ over rest f
    go true = refl
    go false = refl

pub over_entries : (M : ℕ) (h : List ℕ) (at : ℕ) (f : ℕ → Bool)
    → over (entries M h at) f ≡ (ltb (get_or h at M) M && f (get_or h at M)) ⊕ (ltb (get_or h (at + 1) M) M && f (get_or h (at + 1) M))
over_entries M h at f =
    let s = get_or h at M in
    let t = get_or h (at + 1) M in
    over_kept M s (kept M t []) f ∙ ap (λ (b : Bool). (ltb s M && f s) ⊕ b) (over_kept M t [] f ∙ ⊕-false (ltb t M && f t))

-- only shifts below M count
pub over_same : (M : ℕ) (h : List ℕ) (at : ℕ) (f g : ℕ → Bool) → ((s : ℕ) → s < M → f s ≡ g s)
    → over (entries M h at) f ≡ over (entries M h at) g
over_same M h at f g e = over_entries M h at f ∙ ap₂ ◌⊕◌ (one (get_or h at M)) (one (get_or h (at + 1) M)) ∙ sym (over_entries M h at g)
  where
    one : (s : ℕ) → (ltb s M && f s) ≡ (ltb s M && g s)
    one s =
        ⊎_elim
        (λ (l : M ≤ s). ap (λ (b : Bool). b && f s) (le-ltb s M l) ∙ sym (ap (λ (b : Bool). b && g s) (le-ltb s M l)))
        (λ (l : s < M). ap (λ (b : Bool). ltb s M && b) (e s l))
        (le-or-lt M s)

-- both places of a block, one after the other
pub added_places : (sh : Shape) (h : List ℕ) (b r : ℕ) (g : ℕ → Word) (a e s t : ℕ) (x y z : Word)
    → s ≡ get_or h (place_of sh r b) sh.size → t ≡ get_or h (place_of sh r b + 1) sh.size
    → y ≡ added x a e (entry sh.size g s) → z ≡ added y a e (entry sh.size g t)
    → z ≡ added x a e (spread sh h b g r)
added_places sh h b r g a e s t x y z es et first second =
    second
    ∙ ap (λ (v : Word). added v a e (entry sh.size g t)) first
    ∙ added_twice x a e (entry sh.size g s) (entry sh.size g t)
    ∙ ap (added x a e)
    (fun_ext
    (λ i.
    ap₂ (λ (s t : ℕ). entry sh.size g s i ⊕ entry sh.size g t i) es et
    ∙ sym (over_entries sh.size h (place_of sh r b) (λ s. g s i))))

-- ---- the doubled block turned by a shift

pub turned_is : (M : ℕ) (x : Word) (b s i : ℕ) → s < M → i < M → turned (doubled M x b) s i ≡ x (b * M + (i + s) % M)
turned_is M x b s i hs hi = twice_turned M s i (up_to M (from (b * M) x)) hs hi
    ∙ up_to_below M ((i + s) % M) (from (b * M) x) (mod-lt (i + s) (omega arith))

-- ---- a single check

pub once_around : (M a : ℕ) → M ≤ a → a < M + M → a % M ≡ a - M
once_around M a h l =
    let k : a - M < M = omega arith in
    mod-eq-sub-mod h ∙ mod-eq_of_lt k

-- one bit of a row flipped
pub flipped_row : (x : Word) (a e j : ℕ) → a + j < e → flipped x (a + j) ≡ added x a e (λ i. eqb i j)
flipped_row x a e j h = fun_ext (λ n. ⊎_elim (λ l. ⊎_elim (after n l) (inside n l) (le-or-lt e n)) (before n) (le-or-lt a n))
  where
    away : (n : ℕ) → (n ≡ a + j → ⊥) → flipped x (a + j) n ≡ x n
    away n d = ap (λ (b : Bool). x n ⊕ b) (ne_eqb n (a + j) d) ∙ ⊕-false (x n)

    before : (n : ℕ) → n < a → flipped x (a + j) n ≡ added x a e (λ i. eqb i j) n
    before n l = away n (λ q. omega arith) ∙ sym (added_before x (λ i. eqb i j) a e n l)

    after : (n : ℕ) → a ≤ n → e ≤ n → flipped x (a + j) n ≡ added x a e (λ i. eqb i j) n
    after n l k = away n (λ q. omega arith) ∙ sym (added_after x (λ i. eqb i j) a e n l k)

    inside : (n : ℕ) → a ≤ n → n < e → flipped x (a + j) n ≡ added x a e (λ i. eqb i j) n
    inside n l k =
        ap (λ (b : Bool). x n ⊕ b) (eqb_iff n (a + j) (n - a) j (λ q. omega arith) (λ q. omega arith))
        ∙ sym (added_inside x (λ i. eqb i j) a e n l k)
