-- `syndromes::lowest` meets its contract: the first bit that is set, by its row and its place there. Assumes nothing.
use mathlib.Core.Path.{◌≡◌, ap, ap₂, ◌∙◌}
use Prim.Native.Nat.{ℕ, ◌+◌, ◌*◌, ◌/◌, ◌%◌, ◌≤◌, ◌<◌}
use native.Mathlib.Nat.{mul-le-mul, div-le_self, mod-lt}
use native.Mathlib.Omega.{arith}
use lib.ListN.{length}
use Rattle.bits.specs.Bits.{least}
use Rattle.layout.specs.declared.Shape.{Shape}
use Rattle.layout.specs.Lent.{laid}
use Rattle.syndromes.proofs.LowestHeld.{lowest_none, lowest_found}
use borrow.Author.Rules.{rules}
use Rattle.syndromes.proofs.lowest.Goals as goal

-- a shape has few checks, and few rows stand before a place
few : (sh : Shape) → sh.rows ≤ 4 → sh.size ≤ 64 * sh.words → sh.words ≤ 8 → sh.rows * sh.size ≤ 2048
few sh r s w =
    let k : sh.size ≤ 512 = omega arith in
    mul-le-mul r k

near : (sh : Shape) (place : ℕ) → place < 1024 → sh.size ≤ 64 * sh.words → sh.words ≤ 8 → place / (64 * sh.words) * sh.size ≤ 524288
near sh place l s w =
    let q : place / (64 * sh.words) ≤ 1024 = omega (arith, div-le_self place (64 * sh.words)) in
    let k : sh.size ≤ 512 = omega arith in
    mul-le-mul q k

-- what stands in the row is within it
sum : (sh : Shape) (place : ℕ) → place < 1024 → 1 ≤ sh.words → sh.size ≤ 64 * sh.words → sh.words ≤ 8
    → place / (64 * sh.words) * sh.size + place % (64 * sh.words) ≤ 525000
sum sh place l o s w = omega (arith, near sh place l s w, mod-lt place {m = 64 * sh.words} (omega arith))

pub returns-then-place-ge1024 : goal.returns-then-place-ge1024
returns-then-place-ge1024 c =
    λ code h x fit lent e.
    let long : length c.args.z.now ≡ 16 = search rules in
    let is : c.first-place.result ≡ least 1024 (laid code c.args.sh x) = c.first-place.ensures ∙ ap₂ least (ap (λ n. 64 * n) long) e in
    lowest_none h c.args.sh fit code lent x (omega (arith, c.if-place-ge1024.true))

pub returns : goal.returns
returns c =
    λ code h x fit lent e.
    let sh = c.args.sh in
    let long : length c.args.z.now ≡ 16 = search rules in
    let is : c.first-place.result ≡ least 1024 (laid code sh x) = c.first-place.ensures ∙ ap₂ least (ap (λ n. 64 * n) long) e in
    ap (λ n. n / (64 * sh.words) * sh.size + n % (64 * sh.words)) is
    ∙ lowest_found h sh fit code lent x (omega (arith, c.if-place-ge1024.false))
