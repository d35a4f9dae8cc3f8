-- `sizing::run_bounded`: what is kept is the word's, and the run goes on from it. Assumes nothing.
use mathlib.Core.Path.{◌≡◌, sym, subst}
use Prim.Native.Nat.{◌*◌, ◌≤◌}
use native.Mathlib.Omega.{arith}
use lib.ListN.{length}
use Rattle.vectors.specs.Vectors.{wbit}
use Rattle.layout.specs.Lent.{Fit, Lent}
use Rattle.samples.specs.sizing.Passing.{SizesTo}
use Rattle.samples.proofs.sizing.Passes.{begun_stands}
use Rattle.samples.proofs.sizing.run_bounded.Goals as goal

pub go_on-requires : goal.go_on-requires
go_on-requires c =
    let a = c.args in
    let h = a.parity.places.now in
    let fit = a.parity.fit in
    let b = c.begin in
    let e = sym b.ensures.1 in
    let w = c.requires.3 in
    let k = w.begins in (
      subst (λ s. 1 ≤ s.blocks) e c.requires.0,
      subst (λ s. length a.samples.now ≡ s.blocks * s.size) e c.requires.1,
      c.requires.2,
      record {
        code = w.code;
        table = h;
        fit = subst (Fit h) e fit;
        lent = subst (Lent w.code h) e k.lent;
        gathered = b.ensures.2;
        unsent = k.unsent;
        left_is = k.broken;
        stands = begun_stands w.code a.parity.shape a.samples.now (wbit a.y.now) _ b.result.places _ _ b.ensures.1 fit.blocks
            (omega (arith, c.requires.1, fit.bits)) k.held b.ensures.0 b.ensures.3;
      },
    )

pub returns : goal.returns
returns c k w =
    let a = c.args in
    let h = a.parity.places.now in
    let fit = a.parity.fit in
    let b = c.begin in
    let e = b.ensures.1 in
    let g = c.go_on in
    subst (λ s. SizesTo k s a.samples.now a.limit (wbit a.y.now) g.result (wbit g.new.y)) e
    (g.ensures k h (subst (Lent k h) (sym e) w.lent) w.unsent (subst (Fit h) (sym e) fit) b.ensures.2 w.broken
    (begun_stands k a.parity.shape a.samples.now (wbit a.y.now) _ b.result.places _ _ e fit.blocks
    (omega (arith, c.requires.1, fit.bits)) w.held b.ensures.0 b.ensures.3))
