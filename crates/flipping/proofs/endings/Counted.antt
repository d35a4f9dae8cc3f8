-- The bits that differ, by those that are sent.
use mathlib.Core.Path.{◌≡◌, sym, ap, ap₂, ◌∙◌}
use mathlib.Core.Bool.{false}
use Prim.Native.Nat.{ℕ, ◌+◌, ◌-◌, ◌<◌}
use native.Mathlib.Nat.{zero-add}
use native.Mathlib.Omega.{arith}
use Rattle.bits.specs.Bits.{Word, ◌⊕◌, count}
use Rattle.rules.specs.Codes.{Code, bits}
use Rattle.rules.specs.Encoding.{lifted}
use Rattle.answers.specs.Calls.{differing}
use Rattle.bits.proofs.Counting.{count_none, count_same, count_add}
use Rattle.rules.proofs.Codewords.{lifted_unsent, lifted_sent_bit}

pub sent_differ : (c : Code) (u m : ℕ) → u ≡ c.unsent → m ≡ bits c → c.unsent < bits c → (x y : Word)
    → ((i : ℕ) → i < c.unsent → y i ≡ false)
    → count (m - u) (λ i. x i ⊕ y (u + i)) ≡ differing c (lifted c x) y
sent_differ c u m e f some x y none =
    let k : bits c ≡ c.unsent + (bits c - c.unsent) = omega (arith, some) in
    ap₂ (λ a b. count (a - b) (λ i. x i ⊕ y (b + i))) f e
    ∙ sym (ap (λ z. count z (λ i. lifted c x i ⊕ y i)) k
    ∙ count_add c.unsent (bits c - c.unsent) (λ i. lifted c x i ⊕ y i)
    ∙ ap₂ (λ a b. a + b) (count_none c.unsent (λ i. lifted c x i ⊕ y i) (λ i l. ap₂ (λ a b. a ⊕ b) (lifted_unsent c x i l) (none i l)))
    (count_same (bits c - c.unsent) (λ i. lifted c x (c.unsent + i) ⊕ y (c.unsent + i)) (λ i. x i ⊕ y (c.unsent + i)) (λ i l.
    let s : c.unsent + i ≡ i + c.unsent = omega arith in
    ap (λ b. b ⊕ y (c.unsent + i)) (ap (lifted c x) s ∙ lifted_sent_bit c x i)))
    ∙ zero-add (count (bits c - c.unsent) (λ i. x i ⊕ y (c.unsent + i))))
