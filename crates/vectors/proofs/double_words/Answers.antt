-- `vectors::double_words` meets its contract: after k passes k words are doubled, and a is word k of v. Assumes nothing.
use mathlib.Core.Path.{refl}
use Prim.Native.Nat.{◌+◌}
use native.Mathlib.Omega.{arith}
use lib.ListN.{get_or, length-set}
use Rattle.vectors.proofs.Doubling.{across, doubled_more}
use Rattle.vectors.proofs.double_words.Goals as goal

pub loop-k-preserved : goal.loop-k-preserved
loop-k-preserved c =
    let a = c.args in
    let l = c.loop-k in
    let v = a.v.now in
    let u = c.funnel.result in (
      simp length-set l.invariant.0,
      refl,
      doubled_more v l.d a.n a.t l.k l.a u l.invariant.2 (omega arith) (omega arith) l.invariant.1
          (across v l.k a.t l.a (get_or v (l.k + 1) 0) u (omega arith) l.invariant.1 refl c.funnel.ensures),
    )

pub returns : goal.returns
returns c j h = c.loop-k.invariant.2 j (omega arith)
