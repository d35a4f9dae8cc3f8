-- `wideparity::invert_row` meets its contract: the words before word k are inverted. Assumes nothing.
use mathlib.Core.Path.{◌≡◌, sym, ap, ap₂, ◌∙◌}
use mathlib.Core.Bool.{Bool, ◌&&◌}
use Prim.Native.Nat.{ℕ, ◌+◌, ◌-◌, ◌*◌}
use native.Mathlib.Omega.{arith}
use lib.Dec.{ltb, lit≤}
use Rattle.bits.specs.Bits.{Word}
use Rattle.vectors.specs.Vectors.{wbit, up_to, added}
use Rattle.bits.proofs.Orders.{ltb_iff}
use Rattle.vectors.proofs.Spans.{up_to_below}
use Rattle.encoder.proofs.parityrows.Laws.{added_start, added_append}
use Rattle.encoder.proofs.wideparity.invert_row.Goals as goal

pub loop-k-init : goal.loop-k-init
loop-k-init c =
    let a = c.args in
    λ b h. added_start (wbit a.z.now) (512 * a.r) (64 * (8 * a.r)) (up_to 511 (λ i. b)) (omega arith)

pub loop-k-preserved : goal.loop-k-preserved
loop-k-preserved c = let a = c.args in
    let l = c.loop-k in
    λ b h.
    c.add_word.ensures (λ i. b) h
    ∙ ap (λ (z : Word). added z (64 * l.k) (64 * (l.k + 1)) (λ i. b)) (l.invariant b h)
    ∙ added_append (wbit a.z.now) (512 * a.r) (64 * l.k) (64 * (l.k + 1)) (up_to 511 (λ i. b)) (λ i. b) (omega arith)
    (omega arith)
    (λ n h1 h2. sym (up_to_below 511 (n - 512 * a.r) (λ i. b) (omega arith)))

pub front-requires : goal.front-requires
front-requires c = lit≤ tt

pub returns : goal.returns
returns c = λ b h.
    let a = c.args in
    let l = c.loop-k in
    let last = 8 * a.r + 7 in
    let all : l.k ≡ last = omega arith in
    let end : 64 * (last + 1) ≡ 512 * (a.r + 1) = omega arith in
    c.add_word-2.ensures (up_to 63 (λ i. b)) (λ i hi. c.front.ensures i hi
    ∙ ap (λ (z : Bool). ltb i 63 && z) (h i hi))
    ∙ ap₂ (λ (z : Word) (e : ℕ). added z (64 * last) e (up_to 63 (λ i. b)))
    (l.invariant b h ∙ ap (λ (n : ℕ). added (wbit a.z.now) (512 * a.r) (64 * n) (up_to 511 (λ i. b))) all) end
    ∙ added_append (wbit a.z.now) (512 * a.r) (64 * last) (512 * (a.r + 1)) (up_to 511 (λ i. b)) (up_to 63 (λ i. b)) (omega arith)
    (omega arith)
    (λ n h1 h2. ap (λ (z : Bool). z && b) (ltb_iff (n - 64 * last) 63 (n - 512 * a.r) 511 (λ g. omega arith) (λ g. omega arith)))
