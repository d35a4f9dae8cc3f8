-- `narrow::sent_in`: the first m bits, less those before bit `from` in block 0. Assumes nothing.
use mathlib.Core.Path.{◌≡◌, refl, sym, ap, ap₂, ◌∙◌}
use mathlib.Core.Bool.{Bool, true, false, not, ◌&&◌}
use Prim.Native.Nat.{zero-le}
use borrow.Author.Tests.{le-leb, eq-eqb, ne_eqb}
use lib.Dec.{leb, ltb}
use Rattle.bits.specs.Bits.{◌⊕◌, digit, when◌then◌else◌}
use Rattle.planes.proofs.Digits.{ones_at}
use Rattle.vectors.proofs.Places.{digit_xor}
use Rattle.flipping.proofs.bounds.Weights.{and-true, not-before}
use Rattle.flipping.proofs.narrow.sent_in.Goals as goal

less : (a f : Bool) → a ⊕ (f && a) ≡ (not f && a)
less true true = refl
less true false = refl
less false true = refl
less false false = refl

pub returns-then-b-eq0 : goal.returns-then-b-eq0
returns-then-b-eq0 c i hi =
    let a = c.args in
    let all : digit 64 c.front-all.result i ≡ ltb i a.m =
    c.front-all.ensures i hi ∙ ap (λ t. ltb i a.m && t) (ones_at 64 i hi) ∙ and-true (ltb i a.m) in
    digit_xor 64 c.front-all.result c.front.result i
    ∙ ap₂ ◌⊕◌ all (c.front.ensures i hi ∙ ap (λ t. ltb i a.from && t) all)
    ∙ less (ltb i a.m) (ltb i a.from)
    ∙ ap (λ t. t && ltb i a.m) (not-before i a.from)
    ∙ ap (λ t. leb (when t then a.from else 0) i && ltb i a.m) (sym (eq-eqb a.b 0 c.if-b-eq0.true))

pub returns : goal.returns
returns c i hi =
    let a = c.args in
    c.front-all.ensures i hi ∙ ap (λ t. ltb i a.m && t) (ones_at 64 i hi) ∙ and-true (ltb i a.m)
    ∙ ap (λ t. t && ltb i a.m) (sym (le-leb 0 i zero-le))
    ∙ ap (λ t. leb (when t then a.from else 0) i && ltb i a.m) (sym (ne_eqb a.b 0 c.if-b-eq0.false))
