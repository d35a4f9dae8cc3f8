-- What a search gives: a list that mends and that no other comes before, or that none mends. Assumes nothing.
use mathlib.Core.Path.{◌≡◌, refl, sym, ap, ◌∙◌, subst}
use mathlib.Core.Bool.{Bool, true, false, true≢false}
use mathlib.Core.Logic.{◌⊎◌, inl, inr, ⊎_elim}
use mathlib.Core.List.{List, [], ◌∷◌}
use Prim.Native.Nat.{ℕ, zero, suc, ◌+◌, ◌≤◌, ◌<◌}
use native.Mathlib.Nat.{le_refl}
use native.Mathlib.Omega.{arith}
use lib.ListN.{length, get_or}
use Rattle.bits.specs.Bits.{Word, flipped, when◌then◌else◌}
use Rattle.bits.proofs.Orders.{eq_or_not}
use Rattle.rules.specs.Codes.{code}
use Rattle.rules.specs.Encoding.{codeword}
use Rattle.nearest.specs.Nearest.{Found, none, list, chosen, ◌or_else◌, first_list, fewest, flips}
use Rattle.nearest.specs.Lists.{Rising, NotAfter, Mends}

-- ---- the order of the search

-- lists that begin with bit b come before those that do not have it
pub begun_first : (left n b : ℕ) (x : Word) (bits : List ℕ) → first_list left n (suc b) (flipped x b) ≡ list bits
    → first_list (suc left) (suc n) b x ≡ list (b ∷ bits)
unfolding first_list
begun_first left n b x bits e = ap (λ f. chosen b f or_else first_list (suc left) n (suc b) x) e

-- fewer flips come before more
pub fewer_first : (reach : ℕ) (x : Word) (bits : List ℕ) → fewest reach x ≡ list bits → fewest (suc reach) x ≡ list bits
unfolding fewest
fewer_first reach x bits e = ap (λ f. f or_else first_list (suc reach) 128 0 x) e

-- ---- rising lists

pub rising_from : (b e : ℕ) (bits : List ℕ) → Rising (suc b) e bits → Rising b e bits
rising_from b e [] r = tt
rising_from b e (i ∷ bits) r = (omega (arith, r.0), r.1, r.2)

pub rising_lt : (b e : ℕ) (bits : List ℕ) → 0 < e → Rising b e bits → (k : ℕ) → get_or bits k 0 < e
rising_lt b e [] h r k = h
rising_lt b e (i ∷ bits) h r zero = r.1
rising_lt b e (i ∷ bits) h r (suc k) = rising_lt (suc i) e bits h r.2 k

-- ---- lists that mend

module _ (k b e : ℕ) (x : Word) where
  -- a list begins with bit b, or all of it stands behind bit b
  abbrev Begins : List ℕ → Type 0
  Begins bits = (rest : List ℕ) × (bits ≡ b ∷ rest) × Mends k (suc b) e (flipped x b) rest

  begins : (bits : List ℕ) → Mends (suc k) b e x bits → Begins bits ⊎ Mends (suc k) (suc b) e x bits
  unfolding flips
  begins [] m = absurd (omega (arith, m.many))
  begins (i ∷ bits) m = ⊎_elim
      (λ (q : i ≡ b). inl (
        bits,
        ap (λ n. n ∷ bits) q,
        record {
          many = omega (arith, m.many);
          rising = subst (λ n. Rising (suc n) e bits) q m.rising.2;
          gives = subst (λ n. codeword (code 1) (flips bits (flipped x n)) ≡ true) q m.gives;
        },
      ))
      (λ (d : i ≡ b → ⊥).
      inr (record { many = m.many; rising = (omega (arith, m.rising.0), m.rising.1, m.rising.2); gives = m.gives }))
      (eq_or_not i b)

  begin : (bits : List ℕ) → b < e → Mends k (suc b) e (flipped x b) bits → Mends (suc k) b e x (b ∷ bits)
  unfolding flips
  begin bits h m = record { many = ap suc m.many; rising = (le_refl b, h, m.rising); gives = m.gives }

  behind : (bits : List ℕ) → Mends (suc k) (suc b) e x bits → Mends (suc k) b e x bits
  behind bits m = record { many = m.many; rising = rising_from b e bits m.rising; gives = m.gives }

  -- a list that begins with bit b comes before those behind it
  before : (bits others : List ℕ) → Mends (suc k) (suc b) e x others → NotAfter (b ∷ bits) others
  before bits [] m = absurd (omega (arith, m.many))
  before bits (o ∷ others) m = inl m.rising.0

-- ---- what the search says

abbrev pub Says : ℕ → ℕ → ℕ → Word → Found → Type 0
Says k b e x none = (bits : List ℕ) → Mends k b e x bits → ⊥
Says k b e x (list bits) = Mends k b e x bits × ((others : List ℕ) → Mends k b e x others → NotAfter bits others)

pub says : (k n b e : ℕ) (x : Word) → b + n ≡ e → Says k b e x (first_list k n b x)
unfolding first_list flips
says zero n b e x q = go (codeword (code 1) x) refl
  where
    go : (c : Bool) → codeword (code 1) x ≡ c → Says 0 b e x (when c then list [] else none)
    go true is = (record { many = refl; rising = tt; gives = is }, λ others m. tt)
    go false is = empty
      where
        empty : (bits : List ℕ) → Mends 0 b e x bits → ⊥
        empty [] m = true≢false (sym m.gives ∙ is)
        empty (i ∷ bits) m = omega (arith, m.many)
says (suc k) zero b e x q = past
  where
    past : (bits : List ℕ) → Mends (suc k) b e x bits → ⊥
    past [] m = omega (arith, m.many)
    past (i ∷ bits) m = omega (arith, m.rising.0, m.rising.1)
says (suc k) (suc n) b e x q =
    join (first_list k n (suc b) (flipped x b)) (first_list (suc k) n (suc b) x)
    (says k n (suc b) e (flipped x b) (omega arith)) (says (suc k) n (suc b) e x (omega arith))
  where
    join : (f g : Found) → Says k (suc b) e (flipped x b) f → Says (suc k) (suc b) e x g → Says (suc k) b e x (chosen b f or_else g)
    join (list bits) g sf sg = (
      begin k b e x bits (omega arith) sf.0,
      λ others m.
          ⊎_elim
          (λ (t : Begins k b e x others). subst (NotAfter (b ∷ bits)) (sym t.1) (inr (refl, sf.1 t.0 t.2)))
          (λ (t : Mends (suc k) (suc b) e x others). before k b e x bits others t)
          (begins k b e x others m),
    )
    join none (list bits) sf sg = (
      behind k b e x bits sg.0,
      λ others m.
          ⊎_elim
          (λ (t : Begins k b e x others). absurd (sf t.0 t.2))
          (λ (t : Mends (suc k) (suc b) e x others). sg.1 others t)
          (begins k b e x others m),
    )
    join none none sf sg = λ others m.
        ⊎_elim
        (λ (t : Begins k b e x others). sf t.0 t.2)
        (λ (t : Mends (suc k) (suc b) e x others). sg others t)
        (begins k b e x others m)

-- ---- and what the fewest flips are

-- Within a reach: a list of some k bits, that no other list of k bits comes before, and none of fewer; or none at all.
abbrev pub Within : ℕ → Word → Found → Type 0
Within reach x none = (k : ℕ) → k ≤ reach → (bits : List ℕ) → Mends k 0 128 x bits → ⊥
Within reach x (list bits) =
    (length bits ≤ reach) × Says (length bits) 0 128 x (list bits)
    × ((k : ℕ) → k < length bits → (others : List ℕ) → Mends k 0 128 x others → ⊥)

pub within : (reach : ℕ) (x : Word) → Within reach x (fewest reach x)
unfolding fewest
within zero x = go (first_list zero 128 0 x) (says zero 128 0 128 x refl)
  where
    go : (f : Found) → Says 0 0 128 x f → Within 0 x f
    go none s = λ k l bits m. s bits (subst (λ n. Mends n 0 128 x bits) (omega arith) m)
    go (list bits) s = (
      omega (arith, s.0.many),
      subst (λ n. Says n 0 128 x (list bits)) (sym s.0.many) s,
      λ k l others m. absurd (omega (arith, s.0.many)),
    )
within (suc reach) x = go (fewest reach x) (first_list (suc reach) 128 0 x) (within reach x) (says (suc reach) 128 0 128 x refl)
  where
    go : (f g : Found) → Within reach x f → Says (suc reach) 0 128 x g → Within (suc reach) x (f or_else g)
    go (list bits) g w s = (omega (arith, w.0), w.1, w.2)
    go none (list bits) w s = (
      omega (arith, s.0.many),
      subst (λ n. Says n 0 128 x (list bits)) (sym s.0.many) s,
      λ k l others m. w k (omega (arith, s.0.many)) others m,
    )
    go none none w s = λ k l bits m.
        ⊎_elim
        (λ (q : k ≡ suc reach). s bits (subst (λ n. Mends n 0 128 x bits) q m))
        (λ (d : k ≡ suc reach → ⊥). w k (omega arith) bits m)
        (eq_or_not k (suc reach))

-- how long a list is
abbrev pub Long : ℕ → Found → Type 0
Long k none = Unit {0}
Long k (list bits) = length bits ≡ k

pub long : (k n b : ℕ) (x : Word) → Long k (first_list k n b x)
long k n b x = go (first_list k n b x) (says k n b (b + n) x refl)
  where
    go : (f : Found) → Says k b (b + n) x f → Long k f
    go none s = tt
    go (list bits) s = s.0.many
