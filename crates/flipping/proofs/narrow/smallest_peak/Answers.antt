-- `narrow::smallest_peak`: block after block. Assumes nothing.
use mathlib.Core.Path.{sym, ap, ◌∙◌, subst}
use Prim.Native.Nat.{◌*◌, ◌<◌}
use native.Mathlib.Omega.{arith}
use lib.Arith.{digits_lt}
use lib.ListN.{get_or}
use Rattle.bits.specs.Bits.{digit}
use Rattle.vectors.specs.Vectors.{Holds, up_to, from as bits_from}
use Rattle.flipping.specs.narrow.Weighing.{scores_of, masks_of}
use Rattle.flipping.proofs.narrow.Blocks.{score_at, mask_at}
use Rattle.magnitudes.specs.Patterns.{smaller}
use Rattle.flipping.proofs.narrow.Peaks.{smallest_none, peak_next, mark_inside}
use Rattle.flipping.proofs.narrow.smallest_peak.Goals as goal

pub loop-b-init : goal.loop-b-init
loop-b-init c =
    (c.requires.5, λ marked m. smallest_none (smaller c.args.samples.now) marked c.args.bit c.args.sh.size)

pub peak_in-best-requires : goal.peak_in-best-requires
peak_in-best-requires c =
    let a = c.args in
    let l = c.loop-b in
    let w = c.requires.6 in
    let under : l.b < a.sh.blocks = omega arith in
    let mask = mask_at a.levels.now l.b in (
      l.invariant.0,
      λ e i hi on. omega (
        arith,
        c.requires.4,
        digits_lt under (mark_inside (get_or (masks_of a.levels.now) l.b 0) a.sh.size (l.b * a.sh.size) w.marked
            (w.marks.here l.b under (score_at a.levels.now l.b ∙ e)) i hi (ap (λ v. digit 64 v i) mask ∙ on)),
      ),
    )

pub loop-b-preserved : goal.loop-b-preserved
loop-b-preserved c =
    let a = c.args in
    let l = c.loop-b in
    let under : l.b < a.sh.blocks = omega arith in
    let e = c.peak_in-best.ensures in
    let score = score_at a.levels.now l.b in
    let mask = mask_at a.levels.now l.b in (
      e.0,
      λ marked m. peak_next a.samples.now a.sh (scores_of a.levels.now) (masks_of a.levels.now) a.top a.bit l.b l.best
          c.peak_in-best.result marked m under c.requires.2 (l.invariant.1 marked m)
          (λ q on n hn h. e.1 (sym score ∙ q) on n hn (subst (λ v. Holds v (up_to n (bits_from (l.b * a.sh.size) on))) mask h))
          (λ d. e.2 (λ q. d (score ∙ q))),
    )
