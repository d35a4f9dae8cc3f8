-- Arithmetic modulo M.
use mathlib.Core.Path.{◌≡◌, sym, ap, ◌∙◌}
use Prim.Native.Nat.{ℕ, suc, ◌+◌, ◌-◌, ◌*◌, ◌%◌, ◌<◌}
use native.Mathlib.Nat.{mod-eq_of_lt, mod_self, mod-add-mod, add-mul-mod_self_right, add_right_comm, mul-suc, add_assoc, add_comm, le_of_lt}
use native.Mathlib.Nat.{add-sub_of_le}
use lib.Dec.{eqb}
use Rattle.bits.proofs.Sums.{eqb_iff}

module _ (m : ℕ) where
  -- s more and s * m more: a whole number of turns
  pub undo : (a s : ℕ) → ((a + s) % suc m + s * m) % suc m ≡ a % suc m
  undo a s =
      mod-add-mod (a + s) (suc m) (s * m)
      ∙ ap (λ x. x % suc m) (add_assoc a s (s * m) ∙ ap (λ x. a + x) (add_comm s (s * m) ∙ sym (mul-suc s m)))
      ∙ add-mul-mod_self_right a s (suc m)

  pub cancel : (a b s : ℕ) → (a + s) % suc m ≡ (b + s) % suc m → a % suc m ≡ b % suc m
  cancel a b s e = sym (undo a s) ∙ ap (λ x. (x + s * m) % suc m) e ∙ undo b s

  -- two shifts in either order
  pub either : (i s t : ℕ) → ((i + s) % suc m + t) % suc m ≡ ((i + t) % suc m + s) % suc m
  either i s t =
      mod-add-mod (i + s) (suc m) t ∙ ap (λ x. x % suc m) (add_right_comm i s t) ∙ sym (mod-add-mod (i + t) (suc m) s)

  -- the difference of two places is 0 at one place
  pub near : (x t : ℕ) → x < suc m → t < suc m → eqb ((x + (suc m - t)) % suc m) 0 ≡ eqb t x
  near x t hx ht =
      eqb_iff ((x + (suc m - t)) % suc m) 0 t x
      (λ e. sym (mod-eq_of_lt ht) ∙ cancel t x (suc m - t) (ap (λ z. z % suc m) whole ∙ mod_self (suc m) ∙ sym e) ∙ mod-eq_of_lt hx)
      (λ e. ap (λ z. (z + (suc m - t)) % suc m) (sym e) ∙ ap (λ z. z % suc m) whole ∙ mod_self (suc m))
    where
      whole : t + (suc m - t) ≡ suc m
      whole = add-sub_of_le (le_of_lt ht)
