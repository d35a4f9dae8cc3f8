-- The smallest bit of the greatest score, block after block. Assumes nothing.
use mathlib.Core.Path.{◌≡◌, refl, sym, ap, ap₂, ◌∙◌, subst}
use mathlib.Core.Bool.{Bool, true, false, true≢false, ◌&&◌, and-false}
use mathlib.Core.Logic.{⊎_elim}
use mathlib.Core.List.{List, [], ◌∷◌}
use Prim.Native.Nat.{ℕ, ◌+◌, ◌-◌, ◌*◌, ◌≤◌, ◌<◌, zero-le}
use native.Mathlib.Nat.{lt_of_not-le, zero-add, zero-mul}
use native.Mathlib.Decide.{ℕ_discrete, dec_le, dec_lt}
use native.Mathlib.Omega.{arith}
use borrow.Author.Tests.{lt-leb, le-leb, lt-ltb, le-ltb, eq-eqb, ne_eqb}
use lib.Dec.{eqb, leb, ltb}
use lib.ListN.{length, get_or}
use Rattle.bits.specs.Bits.{Word, digit, when◌then◌else◌}
use Rattle.bits.proofs.Orders.{le-or-lt}
use Rattle.rules.specs.Codes.{Code}
use Rattle.vectors.specs.Vectors.{Holds, up_to, from as bits_from}
use Rattle.layout.specs.declared.Shape.{Shape}
use Rattle.layout.specs.Lent.{score}
use Rattle.magnitudes.specs.Patterns.{smaller}
use Rattle.magnitudes.specs.Sizes.{smallest}
use Rattle.magnitudes.proofs.Smallest.{smallest_parts, smallest_stays}
use Rattle.flipping.specs.narrow.Weighing.{sent, Weighed, Greatest, Marks}
use Rattle.flipping.proofs.narrow.Blocks.{sent_is}

-- ---- block after block

pub smallest_none : (less : ℕ → ℕ → Bool) (marked : ℕ → Bool) (bit m : ℕ) → bit ≡ smallest less marked bit 0 (0 * m)
smallest_none less marked bit m =
    sym (ap (smallest less marked bit 0) (zero-mul m) ∙ smallest_stays less marked bit 0 0 (λ k f l. absurd (omega arith)))

module _ (less : ℕ → ℕ → Bool) (marked : ℕ → Bool) (bit m b best : ℕ) (was : best ≡ smallest less marked bit 0 (b * m)) where
  pub peak_more : (r : ℕ) → r ≡ smallest less marked best (b * m) m → r ≡ smallest less marked bit 0 ((b + 1) * m)
  peak_more r e =
      let next : (b + 1) * m ≡ b * m + m = omega arith in
      e ∙ ap₂ (λ k f. smallest less marked k f m) was (sym (zero-add (b * m))) ∙ sym (smallest_parts less marked bit 0 (b * m) m)
      ∙ ap (smallest less marked bit 0) (sym next)

  pub peak_none : (r : ℕ) → r ≡ best → ((k : ℕ) → k < m → marked (b * m + k) ≡ false) → r ≡ smallest less marked bit 0 ((b + 1) * m)
  peak_none r e none = peak_more r (e ∙ sym (smallest_stays less marked best (b * m) m stays))
    where
      stays : (k : ℕ) → b * m ≤ k → k < b * m + m → marked k ≡ true → less k best ≡ false
      stays k from l on =
          let at : b * m + (k - b * m) ≡ k = omega arith in
          absurd (true≢false (sym on ∙ sym (ap marked at) ∙ none (k - b * m) (omega arith)))

-- One block more: it has the score, and its marked bits count; or it has another, and none is marked.
pub peak_next : (samples : List ℕ) (sh : Shape) (scores masks : List ℕ) (top bit b best r : ℕ) (marked : ℕ → Bool)
    → Marks marked sh scores masks top → b < sh.blocks → sh.size ≤ 64 → best ≡ smallest (smaller samples) marked bit 0 (b * sh.size)
    → (get_or scores b 0 ≡ top → (on : ℕ → Bool) (n : ℕ) → n ≤ 64 → Holds (get_or masks b 0) (up_to n (bits_from (b * sh.size) on))
    → r ≡ smallest (smaller samples) on best (b * sh.size) n)
    → ((get_or scores b 0 ≡ top → ⊥) → r ≡ best)
    → r ≡ smallest (smaller samples) marked bit 0 ((b + 1) * sh.size)
peak_next samples sh scores masks top bit b best r marked m hb narrow was here other = go (ℕ_discrete (get_or scores b 0) top)
  where
    go : Dec (get_or scores b 0 ≡ top) → r ≡ smallest (smaller samples) marked bit 0 ((b + 1) * sh.size)
    go (yes e) = peak_more (smaller samples) marked bit sh.size b best was r (here e marked sh.size narrow (m.here b hb e))
    go (no d) = peak_none (smaller samples) marked bit sh.size b best was r (other d) (m.none b hb d)

-- A bit of a mask is one of its block.
pub mark_inside : (mask m first : ℕ) (marked : ℕ → Bool) → Holds mask (up_to m (bits_from first marked)) → (i : ℕ) → i < 64
    → digit 64 mask i ≡ true → i < m
mark_inside mask m first marked holds i hi on = go (dec_lt i m)
  where
    go : Dec (i < m) → i < m
    go (yes l) = l
    go (no u) = absurd (true≢false (sym on ∙ holds i hi ∙ ap (λ t. t && marked (first + i)) (le-ltb i m (omega (arith, lt_of_not-le u)))))

-- ---- where every bit is sent

pub weighed_from : {c : Code} {sh : Shape} {from : ℕ} {x : Word} {scores masks : List ℕ} {n : ℕ} → from ≡ 0
    → Weighed c sh from x scores masks n → Weighed c sh 0 x scores masks n
weighed_from {c} {sh} {from} {x} {scores} {masks} {n} e w = subst (λ u. Weighed c sh u x scores masks n) e w

pub smallest_from : (less : ℕ → ℕ → Bool) (marked : ℕ → Bool) (end : ℕ) {low low' from : ℕ} → low ≡ low' → from ≡ 0
    → smallest less marked low 0 end ≡ smallest less marked low' from (end - from)
smallest_from less marked end {low} e z =
    let all : end ≡ end - 0 = omega arith in
    ap (smallest less marked low 0) all ∙ ap₂ (λ n u. smallest less marked n u (end - u)) e (sym z)

-- ---- without samples

pub no_samples : (samples : List ℕ) → length samples ≡ 0 → (n k : ℕ) → smaller samples n k ≡ false
unfolding smaller
no_samples [] e n k = refl
no_samples (a ∷ l) e n k = absurd (omega arith)

pub no_smaller : (samples : List ℕ) → length samples ≡ 0 → (marked : ℕ → Bool) (bit first n : ℕ)
    → bit ≡ smallest (smaller samples) marked bit first n
no_smaller samples e marked bit first n = sym (smallest_stays (smaller samples) marked bit first n (λ k f l m. no_samples samples e k bit))

-- ---- the bits that have the greatest score

module _ (c : Code) (sh : Shape) (some : 1 ≤ sh.size) (narrow : sh.size ≤ 64) (x : Word) (scores masks : List ℕ) (top block : ℕ)
    (weighed : Weighed c sh 0 x scores masks sh.blocks) (best : Greatest scores sh.blocks top block) (high : 8 < top) where
  -- every bit of a block is sent
  all_sent : (b k : ℕ) → k < sh.size → sent sh.size 0 b k ≡ true
  all_sent b k hk = sent_is sh.size 0 b k some hk zero-le

  under : (b k : ℕ) → b < sh.blocks → k < sh.size → 8 < score c x (b * sh.size + k) → score c x (b * sh.size + k) ≤ get_or scores b 0
  under b k hb hk l = (weighed.each b hb).most k (omega arith) (all_sent b k hk) l

  level : (b k : ℕ) → b < sh.blocks → get_or scores b 0 ≡ top → k < sh.size
      → eqb (score c x (b * sh.size + k)) (get_or scores b 0) ≡ leb top (score c x (b * sh.size + k))
  level b k hb e hk = go (dec_le top (score c x (b * sh.size + k)))
    where
      go : Dec (top ≤ score c x (b * sh.size + k))
          → eqb (score c x (b * sh.size + k)) (get_or scores b 0) ≡ leb top (score c x (b * sh.size + k))
      go (yes u) =
          eq-eqb (score c x (b * sh.size + k)) (get_or scores b 0) (omega (arith, under b k hb hk (omega arith)))
          ∙ sym (le-leb top (score c x (b * sh.size + k)) u)
      go (no u) =
          ne_eqb (score c x (b * sh.size + k)) (get_or scores b 0) (λ q. omega (arith, lt_of_not-le u))
          ∙ sym (lt-leb top (score c x (b * sh.size + k)) (lt_of_not-le u))

  pub high_marks : Marks (λ n. leb top (score c x n)) sh scores masks top
  high_marks = record { here = here; none = none }
    where
      here : (b : ℕ) → b < sh.blocks → get_or scores b 0 ≡ top
          → Holds (get_or masks b 0) (up_to sh.size (bits_from (b * sh.size) (λ n. leb top (score c x n))))
      here b hb e i hi = (weighed.each b hb).those (omega arith) i hi ∙ go (dec_lt i sh.size)
        where
          go : Dec (i < sh.size)
              → (sent sh.size 0 b i && eqb (score c x (b * sh.size + i)) (get_or scores b 0))
              ≡ (ltb i sh.size && leb top (score c x (b * sh.size + i)))
          go (yes l) = ap₂ (λ s t. s && t) (all_sent b i l ∙ sym (lt-ltb i sh.size l)) (level b i hb e l)
          go (no u) =
              let past = le-ltb i sh.size (omega (arith, lt_of_not-le u)) in
              ap (λ s. s && eqb (score c x (b * sh.size + i)) (get_or scores b 0))
              (ap (λ t. leb (when eqb b 0 then 0 else 0) i && t) past ∙ and-false (leb (when eqb b 0 then 0 else 0) i))
              ∙ sym (ap (λ t. t && leb top (score c x (b * sh.size + i))) past)

      none : (b : ℕ) → b < sh.blocks → (get_or scores b 0 ≡ top → ⊥) → (k : ℕ) → k < sh.size
          → leb top (score c x (b * sh.size + k)) ≡ false
      none b hb other k hk = lt-leb top (score c x (b * sh.size + k)) (go (dec_le (score c x (b * sh.size + k)) 8))
        where
          less : score c x (b * sh.size + k) ≤ get_or scores b 0 → score c x (b * sh.size + k) < top
          less l = ⊎_elim
              (λ (w : top ≤ get_or scores b 0). absurd (other (omega (arith, best.most b hb))))
              (λ (w : get_or scores b 0 < top). omega arith)
              (le-or-lt top (get_or scores b 0))

          go : Dec (score c x (b * sh.size + k) ≤ 8) → score c x (b * sh.size + k) < top
          go (yes l) = omega arith
          go (no u) = less (under b k hb hk (lt_of_not-le u))
