-- `nearest::syndrome` meets its contract: after n passes the checks are summed over the first n bits. Assumes nothing.
use mathlib.Core.Path.{◌≡◌, sym, ap, ◌∙◌, subst}
use Prim.Native.Nat.{◌+◌, ◌<◌}
use native.Mathlib.Omega.{arith}
use lib.ListN.{length}
use Rattle.vectors.specs.Vectors.{wbit, Holds}
use Rattle.nearest.proofs.Quiet.{Partly, partly_none, partly_set, partly_clear, partly_all}
use Rattle.nearest.proofs.syndrome.Goals as goal
use Rattle.nearest.proofs.syndrome.Goals.{else-is_set, then-is_set}

pub loop-n-init : goal.loop-n-init
loop-n-init c = partly_none (wbit c.args.y.now)

pub is_set-requires : goal.is_set-requires
is_set-requires c =
    let long : length c.args.columns.now ≡ 128 = ap length c.requires.0 in
    omega (arith, c.requires.1)

pub loop-n-preserved : goal.loop-n-preserved
loop-n-preserved c =
    let l = c.loop-n in
    let x = wbit c.args.y.now in
    let long : length c.args.columns.now ≡ 128 = ap length c.requires.0 in
    let h : l.n < 128 = omega arith in
    let set = c.is_set.ensures in
    elim c.if-is_set.branch [
      | then-is_set w ↦ subst (λ z. Holds z (Partly x (l.n + 1))) (sym w.z-is)
          (partly_set x l.n l.z h l.invariant c.args.columns.now c.requires.0 (sym set ∙ w.if-is_set.true))
      | else-is_set w ↦ subst (λ z. Holds z (Partly x (l.n + 1))) (sym w.z-is)
          (partly_clear x l.n l.z h l.invariant (sym set ∙ w.if-is_set.false))
    ]

pub returns : goal.returns
returns c =
    let l = c.loop-n in
    let long : length c.args.columns.now ≡ 128 = ap length c.requires.0 in
    partly_all (wbit c.args.y.now) l.n l.z (omega arith) l.invariant
