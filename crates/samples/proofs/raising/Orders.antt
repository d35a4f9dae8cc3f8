-- Of two bits one is ahead; and what is ahead of one that is ahead is ahead.
use mathlib.Core.Path.{◌≡◌, refl, sym, ap, ◌∙◌, subst}
use mathlib.Core.Bool.{Bool, true, false, true≢false, ◌&&◌}
use mathlib.Core.Logic.{◌⊎◌, inl, inr}
use Prim.Native.Nat.{ℕ, zero, suc, ◌+◌, ◌≤◌, ◌<◌}
use native.Mathlib.Nat.{lt_of_not-le}
use native.Mathlib.Decide.{dec_lt, ℕ_discrete}
use native.Mathlib.Omega.{arith}
use Rattle.bits.specs.Bits.{when◌then◌else◌}
use Rattle.magnitudes.specs.Sizes.{smallest}
use Rattle.magnitudes.proofs.Smallest.{Ordered, Is, smallest_one}
use Rattle.samples.specs.raising.Knowing.{Ahead}

module _ (less : ℕ → ℕ → Bool) (top : ℕ) (o : Ordered less top) where
  self : (a : ℕ) → a < top → (b : Bool) → less a a ≡ b → less a a ≡ false
  self a l true e = o.apart a a l l e
  self a l false e = e

  pub ahead_self : (a : ℕ) → a < top → Ahead less a a
  ahead_self a l = (self a l (less a a) refl, λ u. absurd (omega arith))

  pub ahead_onward : (a b c : ℕ) → a < top → b < top → c < top → Ahead less a b → Ahead less b c → Ahead less a c
  ahead_onward a b c la lb lc p q = (o.onward a b c la lb lc p.0 q.0, λ u. by u (less a c) refl (dec_lt c b))
    where
      by : c < a → (v : Bool) → less a c ≡ v → Dec (c < b) → less a c ≡ true
      by u true e d = e
      by u false e (yes l) = absurd (true≢false (sym (q.1 l) ∙ o.onward c a b lc la lb e p.0))
      by u false e (no n) = absurd (true≢false (sym (p.1 (omega (arith, lt_of_not-le n))) ∙ o.onward b c a lb lc la q.0 e))

  -- of two of which each is ahead of the other
  pub ahead_both : (a b : ℕ) → Ahead less a b → Ahead less b a → a ≡ b
  ahead_both a b p q = go (dec_lt a b) (dec_lt b a)
    where
      go : Dec (a < b) → Dec (b < a) → a ≡ b
      go (yes l) d = absurd (true≢false (sym (q.1 l) ∙ p.0))
      go (no n) (yes l) = absurd (true≢false (sym (p.1 l) ∙ q.0))
      go (no n) (no m) = omega (arith, lt_of_not-le n, lt_of_not-le m)

  -- the later one only if it is smaller
  pub later : (a b r : ℕ) → a < top → b < top → a ≤ b → r ≡ (when less b a then b else a)
      → ((r ≡ a) ⊎ (r ≡ b)) × Ahead less r a × Ahead less r b
  later a b r la lb u is = go (less b a) refl is
    where
      go : (v : Bool) → less b a ≡ v → r ≡ (when v then b else a) → ((r ≡ a) ⊎ (r ≡ b)) × Ahead less r a × Ahead less r b
      go true e f = subst (λ r. ((r ≡ a) ⊎ (r ≡ b)) × Ahead less r a × Ahead less r b) (sym f)
          (inr refl, (o.apart b a lb la e, λ v. e), ahead_self b lb)
      go false e f = subst (λ r. ((r ≡ a) ⊎ (r ≡ b)) × Ahead less r a × Ahead less r b) (sym f)
          (inl refl, ahead_self a la, (e, λ v. absurd (omega arith)))

  -- the smallest of some is ahead of them all
  pub record Over (marked : ℕ → Bool) (bit first n r : ℕ) : Type 0 where
    pub within : r < top
    pub bit_too : Ahead less r bit
    pub all : (k : ℕ) → first ≤ k → k < first + n → marked k ≡ true → Ahead less r k

  pub smallest_over : (marked : ℕ → Bool) (bit first n : ℕ) → bit < top
      → ((k : ℕ) → first ≤ k → k < first + n → marked k ≡ true → bit ≤ k)
      → ((k : ℕ) → first ≤ k → k < first + n → marked k ≡ true → k < top) → Over marked bit first n (smallest less marked bit first n)
  unfolding smallest
  smallest_over marked bit first zero h b u = record {
    within = h;
    bit_too = ahead_self bit h;
    all = λ k f l. absurd (omega arith);
  }
  smallest_over marked bit first (suc n) h b u = go (marked now) refl (smallest_over marked bit first n h (λ k f l. b k f (omega arith))
      (λ k f l. u k f (omega arith)))
      (smallest_one less marked bit first n)
    where
      now : ℕ
      now = first + n

      best : ℕ
      best = smallest less marked bit first n

      before : marked now ≡ true → Is less marked bit first best n → best ≤ now
      before m (inl e) = omega (arith, e, b now (omega arith) (omega arith) m)
      before m (inr p) = omega (arith, p.2)

      go : (v : Bool) → marked now ≡ v → Over marked bit first n best → Is less marked bit first best n
          → Over marked bit first (suc n) (when v && less now best then now else best)
      go true e s is = by _ (later best now (when less now best then now else best) s.within (u now (omega arith) (omega arith) e)
          (before e is) refl)
        where
          here : now < top
          here = u now (omega arith) (omega arith) e

          by : (r : ℕ) → ((r ≡ best) ⊎ (r ≡ now)) × Ahead less r best × Ahead less r now → Over marked bit first (suc n) r
          by r p = record {
            within = lt;
            bit_too = ahead_onward r best bit lt s.within h p.1 s.bit_too;
            all = λ k f l m. at k f l m (ℕ_discrete k now);
          }
            where
              which : (r ≡ best) ⊎ (r ≡ now) → r < top
              which (inl q) = omega (arith, q, s.within)
              which (inr q) = omega (arith, q, here)

              lt : r < top
              lt = which p.0

              at : (k : ℕ) → first ≤ k → k < first + suc n → marked k ≡ true → Dec (k ≡ now) → Ahead less r k
              at k f l m (yes q) = subst (Ahead less r) (sym q) p.2
              at k f l m (no q) = ahead_onward r best k lt s.within (u k f l m) p.1 (s.all k f (omega arith) m)
      go false e s is = record {
        within = s.within;
        bit_too = s.bit_too;
        all = λ k f l m. at k f l m (ℕ_discrete k now);
      }
        where
          at : (k : ℕ) → first ≤ k → k < first + suc n → marked k ≡ true → Dec (k ≡ now) → Ahead less best k
          at k f l m (yes q) = absurd (true≢false (sym m ∙ ap marked q ∙ e))
          at k f l m (no q) = s.all k f (omega arith) m

pub swapped : {r a b : ℕ} → (r ≡ a) ⊎ (r ≡ b) → (r ≡ b) ⊎ (r ≡ a)
swapped (inl e) = inr e
swapped (inr e) = inl e

pub either_under : (top r a b : ℕ) → (r ≡ a) ⊎ (r ≡ b) → a < top → b < top → r < top
either_under top r a b (inl e) la lb = omega (arith, e)
either_under top r a b (inr e) la lb = omega (arith, e)

pub other_one : {r a b : ℕ} → (r ≡ a) ⊎ (r ≡ b) → (r ≡ a → ⊥) → r ≡ b
other_one (inl e) u = absurd (u e)
other_one (inr e) u = e
