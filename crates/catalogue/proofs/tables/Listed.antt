-- A list that is filled place by place.
use mathlib.Core.Path.{◌≡◌, refl, sym, ap, ap₂, ◌∙◌}
use mathlib.Core.List.{List, [], ◌∷◌}
use Prim.Native.Nat.{ℕ, zero, suc, ◌+◌, ◌-◌, ◌*◌, ◌/◌, ◌%◌, ◌<◌, ◌≤◌}
use native.Mathlib.Nat.{zero-lt-suc, mul-suc, mul_comm}
use Rattle.std.proofs.lemmas.Nat.{div-mul-add, mod-mul-add}
use native.Mathlib.Numerals.{add-one}
use native.Mathlib.Decide.{dec_lt}
use native.Mathlib.Omega.{arith}
use lib.ListN.{length, get_or}
use Prim.Native.Nat.{suc-le-suc}
use Rattle.catalogue.specs.tables.Flat.{listed, place_at, row_place, RowLaid}

-- place k of block b is a place of the row, and of the table
block_place : (nested : List (List ℕ)) (b k i : ℕ) → b ≡ i / 2 → k ≡ i % 2 → get_or (get_or nested b []) k 0 ≡ row_place nested i
block_place nested b k i eb ek = ap₂ (λ x y. get_or (get_or nested x []) y 0) eb ek

pub row_place_lem : (h : List (List (List ℕ))) (r q b k j : ℕ) → q ≡ r → b ≡ j / 2 → k ≡ j % 2
    → row_place (get_or h r []) j ≡ place_at h q b k
row_place_lem h r q b k j eq eb ek = sym (ap (λ x. place_at h x b k) eq ∙ block_place (get_or h r []) b k j eb ek)

-- the first i places hold f
pub record Filled (n : ℕ) (f : ℕ → ℕ) (h : List ℕ) (i : ℕ) : Type 0 where
  pub below : i ≤ n
  pub long : length h ≡ n
  pub places : (j : ℕ) → j < i → get_or h j 0 ≡ f j

-- with row r of a table laid, whose rows have k places each
pub filled_row : (n k r : ℕ) (f : ℕ → ℕ) (nested : List (List (List ℕ))) (h h' : List ℕ) {w at : ℕ} → Filled n f h (k * r)
    → RowLaid (get_or nested r []) w at h h' → w ≡ k → at ≡ k * r → length h' ≡ length h → k * r + k ≤ n
    → ((j : ℕ) → j < k → row_place (get_or nested r []) j ≡ f (k * r + j)) → Filled n f h' (k * (r + 1))
filled_row n k r f nested h h' {w} {at} d l wide here long room same = record {
  below = omega (arith, more);
  long = long ∙ d.long;
  places = λ j hj. go j (omega (arith, more)) (dec_lt j (k * r));
}
  where
    more : k * (r + 1) ≡ k * r + k
    more = ap (λ z. k * z) (add-one r) ∙ mul-suc k r

    go : (j : ℕ) → j < k * r + k → Dec (j < k * r) → get_or h' j 0 ≡ f j
    go j hj (yes b) = l.before j (omega arith) ∙ d.places j b
    go j hj (no b) =
        let q = j - k * r in
        let e : k * r + q ≡ j = omega (arith, b) in
        let s : at + q ≡ j = omega (arith, b) in
        ap (λ z. get_or h' z 0) (sym s) ∙ l.row q (omega (arith, b)) ∙ same q (omega (arith, b)) ∙ ap f e

all_places : (n : ℕ) (f : ℕ → ℕ) (h : List ℕ) → length h ≡ n → ((j : ℕ) → j < n → get_or h j 0 ≡ f j) → h ≡ listed n f
all_places zero f [] e q = refl
all_places zero f (v ∷ h) e q = absurd (omega arith)
all_places (suc n) f [] e q = absurd (omega arith)
all_places (suc n) f (v ∷ h) e q = ap₂ (λ a b. a ∷ b) (q 0 (zero-lt-suc n))
    (all_places n (λ i. f (suc i)) h (omega arith) (λ j l. q (suc j) (suc-le-suc l)))

pub filled_all : (n : ℕ) (f : ℕ → ℕ) (h : List ℕ) (i : ℕ) → Filled n f h i → n ≤ i → h ≡ listed n f
filled_all n f h i d q = all_places n f h d.long (λ j l. d.places j (omega arith))

-- a constant whose entries are those of the print g is laid flat as g is
pub flat_as : (flat : List (List (List ℕ)) → List ℕ) (g : List (List (List ℕ))) {h : List ℕ} {nested : List (List (List ℕ))}
    → h ≡ flat nested → nested ≡ g → h ≡ flat g
flat_as flat g e same = e ∙ ap flat same

-- place j of row r, where a row has b blocks: its row, its block and which of the two
pub place_of_row : (b r j : ℕ) → 0 < b → j < 2 * b
    → ((2 * b * r + j) / (2 * b) ≡ r) × ((2 * b * r + j) / 2 % b ≡ j / 2) × ((2 * b * r + j) % 2 ≡ j % 2)
place_of_row b r j some l = (
  ap (λ n. n / (2 * b)) e ∙ div-mul-add r (2 * b) j l,
  ap (λ n. n % b) half ∙ mod-mul-add r b (j / 2) (omega arith),
  omega (arith, even),
)
  where
    e : 2 * b * r + j ≡ r * (2 * b) + j
    e = ap (λ n. n + j) (mul_comm (2 * b) r)

    even : 2 * b * r + j ≡ 2 * (r * b) + j
    even = grind arith

    half : (2 * b * r + j) / 2 ≡ r * b + j / 2
    half = omega (arith, even)
