-- Sums modulo 2 over the places of a block, and over blocks that are listed one after the other.
use mathlib.Core.Path.{◌≡◌, refl, sym, ap, ap₂, ◌∙◌}
use mathlib.Core.Bool.{Bool, true, false, not, beq}
use mathlib.Core.List.{List, [], ◌∷◌}
use Prim.Native.Nat.{ℕ, ◌+◌, ◌≤◌, ◌<◌}
use lib.Dec.{ltb}
use lib.ListN.{get_or}
use borrow.Author.Tests.{lt-ltb, le-ltb}
use Rattle.bits.specs.Bits.{◌⊕◌, when◌then◌else◌, over}
use Rattle.identity.specs.ties.Flat.{kept, block}

-- The machine's exclusive or.
pub xor_is : (a b : Bool) → not (beq a b) ≡ a ⊕ b
xor_is true true = refl
xor_is true false = refl
xor_is false true = refl
xor_is false false = refl

pub ⊕-false : (a : Bool) → a ⊕ false ≡ a
⊕-false true = refl
⊕-false false = refl

pub ⊕-assoc : (a b c : Bool) → a ⊕ b ⊕ c ≡ a ⊕ (b ⊕ c)
⊕-assoc true true true = refl
⊕-assoc true true false = refl
⊕-assoc true false c = refl
⊕-assoc false b c = refl

module _ (M : ℕ) (f : ℕ → Bool) where
  -- What a place holds: a shift, or none.
  pub over-one : (s : ℕ) → s < M → over (kept M s []) f ≡ f s
  over-one s h = ap (λ (b : Bool). over (when b then s ∷ [] else []) f) (lt-ltb s M h) ∙ ⊕-false (f s)

  pub over_none : (s : ℕ) → M ≤ s → over (kept M s []) f ≡ false
  over_none s h = ap (λ (b : Bool). over (when b then s ∷ [] else []) f) (le-ltb s M h)

  over_kept : (s : ℕ) (rest : List ℕ) → over (kept M s rest) f ≡ over (kept M s []) f ⊕ over rest f
  over_kept s rest = go (ltb s M)
    where
      go : (b : Bool) → over (when b then s ∷ rest else rest) f ≡ over (when b then s ∷ [] else []) f ⊕ over rest f
      go true = ap (λ (x : Bool). x ⊕ over rest f) (sym (⊕-false (f s)))
      go false = refl

  -- The sums of the three places, which the machine adds up.
  pub over_block : (parity : List ℕ) (at : ℕ) {a b c : Bool} → a ≡ over (kept M (get_or parity at 0) []) f
      → b ≡ over (kept M (get_or parity (at + 1) 0) []) f
      → c ≡ over (kept M (get_or parity (at + 2) 0) []) f → not (beq a (not (beq b c))) ≡ over (block M parity at) f
  over_block parity at {a} {b} {c} p q r =
      let third = kept M (get_or parity (at + 2) 0) [] in
      xor_is a (not (beq b c))
      ∙ ap₂ (λ (x y : Bool). x ⊕ y) p (xor_is b c ∙ ap₂ (λ (x y : Bool). x ⊕ y) q r ∙ sym (over_kept (get_or parity (at + 1) 0) third))
      ∙ sym (over_kept (get_or parity at 0) (kept M (get_or parity (at + 1) 0) third))
