-- `sizing::go_once`: what comes next is a bit, and a pass flips it; or the run ends. Assumes nothing.
use mathlib.Core.Path.{sym, ◌∙◌, subst}
use mathlib.Core.List.{List}
use Prim.Native.Nat.{ℕ, ◌<◌}
use native.Mathlib.Omega.{arith}
use Rattle.bits.specs.Bits.{flipped}
use Rattle.rules.specs.Codes.{Code}
use Rattle.layout.specs.Lent.{Lent}
use Rattle.flipping.specs.bounds.Keeping.{Laid}
use Rattle.samples.specs.raising.Knowing.{Sampled}
use Rattle.samples.specs.sizing.Passing.{Chooses, StandsIn}
use Rattle.std.proofs.lemmas.Result.{IfOk-at_ok}
use Rattle.vectors.specs.Vectors.{wbit}
use Rattle.samples.proofs.sizing.Passes.{pass_goes}
use Rattle.samples.proofs.sizing.go_once.Goals as goal

pub pass-requires : goal.pass-requires
pass-requires c =
    let a = c.args in
    let n = c.comes_next in
    let f = c.in_ok-flip in
    let w = c.requires.4 in
    let next = (n.ensures.2 w.code w.table (wbit a.y.now) w.lent w.unsent w.fit w.gathered
    (λ z. omega (arith, z, w.left_is, c.requires.3)) w.stands).1 in (
      subst (Sampled a.samples.now) (sym n.ensures.0) c.requires.1,
      omega (arith, c.requires.1, w.fit.bits),
      omega (arith, c.requires.1, f.ensures.1.0),
      omega (arith, w.left_is, IfOk-at_ok _ f.was next.fewer),
      c.requires.2,
    )

pub returns : goal.returns
returns c =
    let a = c.args in
    let x = a.samples.now in
    let n = c.comes_next in
    let f = c.in_ok-flip in
    let met = n.new.kept.bounds.met in
    let bits = n.new.kept.bits in
    let new = c.pass.new.kept in
    let t = c.pass.ensures in
    let stands = subst (λ q. (k : Code) (h : List ℕ) → Lent k h q.shape → Laid h q → 0 < c.pass.result.left
    → StandsIn k x (wbit a.y.now) q a.rows.now met bits
    → StandsIn k x (flipped (wbit a.y.now) f.flip.bit) q c.pass.new.rows new.bounds.met new.bits) n.ensures.0 t.5 in (
      t.0 ∙ n.ensures.0,
      (f.ensures.1.1, t.2),
      λ k h y lent u fit g i.
          let next = n.ensures.2 k h (wbit a.y.now) lent u fit g
          (λ z. omega (arith, z, i.left_is, c.requires.3)) (i.stands c.requires.3) in
          pass_goes lent i (subst (Chooses k a.kept.now.bounds.places.shape x a.limit a.flips (wbit a.y.now)) f.was next.1) f.ensures.1.0
          t.1 t.3 t.4 (λ some. stands k h lent g some next.0),
    )
