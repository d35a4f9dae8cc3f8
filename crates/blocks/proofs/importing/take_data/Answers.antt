-- `importing::take_data`: the data so far is that of the first blocks. Assumes nothing.
use mathlib.Core.Path.{◌≡◌, refl, sym, ap, ◌∙◌}
use Prim.Native.Nat.{◌+◌, ◌-◌, zero-le}
use native.Mathlib.Omega.{arith}
use lib.ListN.{length, take, drop, length-drop}
use lib.Seq.{length-take-le}
use Rattle.blocks.specs.Blocks.{imported}
use Rattle.blocks.proofs.Lists.{put, put_length, filled}
use Rattle.blocks.proofs.Reading.{range_long, used_few, source_long, next-end, next_fits, data_more}
use Rattle.blocks.proofs.importing.take_data.Goals as goal

pub loop-k-init : goal.loop-k-init
unfolding imported
loop-k-init c = (zero-le, c.requires.3, refl, refl)

pub used-count-requires : goal.used-count-requires
used-count-requires c =
    range_long c.args.n c.loop-k.k c.args.blocks.now c.requires.0 (omega arith)

pub overflow_add-end : goal.overflow_add-end
overflow_add-end c =
    let u = c.used-count in
    let h = c.loop-k in
    let o = c.args.blocks.now in
    omega (arith, next_fits c.args.n o c.requires.0 c.requires.2 h.k u.result (omega arith) u.ensures.0)

pub slice_bounds-copy-end : goal.slice_bounds-copy-end
slice_bounds-copy-end c =
    let u = c.used-count in
    let h = c.loop-k in
    let o = c.args.blocks.now in
    omega (arith, used_few c.args.n o c.requires.0 c.requires.2 h.k u.result (omega arith) u.ensures.0)

pub slice_bounds-copy-end-in-loop-k : goal.slice_bounds-copy-end-in-loop-k
slice_bounds-copy-end-in-loop-k c =
    let u = c.used-count in
    let h = c.loop-k in
    let o = c.args.blocks.now in
    omega (arith, next_fits c.args.n o c.requires.0 c.requires.2 h.k u.result (omega arith) u.ensures.0)

pub copy-requires : goal.copy-requires
copy-requires c =
    let u = c.used-count in
    let h = c.loop-k in
    let o = c.args.blocks.now in
    let fit = next_fits c.args.n o c.requires.0 c.requires.2 h.k u.result (omega arith) u.ensures.0 in
    let z : h.end + u.result - h.end ≡ u.result = omega arith in
    source_long c.args.n o c.requires.0 c.requires.2 h.k u.result (omega arith) u.ensures.0
    ∙ sym (ap (λ w. length (take w (drop h.end h.out))) z
    ∙ length-take-le u.result (drop h.end h.out) (omega (arith, length-drop h.end h.out)))

pub loop-k-preserved : goal.loop-k-preserved
loop-k-preserved c =
    let u = c.used-count in
    let h = c.loop-k in
    let o = c.args.blocks.now in
    let w = c.copy in
    let fit = next_fits c.args.n o c.requires.0 c.requires.2 h.k u.result (omega arith) u.ensures.0 in
    let z : h.end + u.result - h.end ≡ u.result = omega arith in (
      omega arith,
      ap (λ v. length (put h.end v h.out w.new.out)) z
          ∙ put_length h.out w.new.out h.end u.result
          (ap length w.ensures ∙ source_long c.args.n o c.requires.0 c.requires.2 h.k u.result (omega arith) u.ensures.0)
          (omega arith) ∙ h.invariant.1,
      ap (λ v. v + u.result) h.invariant.2 ∙ next-end c.args.n o c.requires.0 c.requires.2 h.k u.result (omega arith)
          u.ensures.0,
      data_more c.args.n o c.requires.0 c.requires.2 h.k u.result (omega arith) u.ensures.0 h.out w.new.out h.end
          h.invariant.2 h.invariant.3 w.ensures,
    )

pub returns : goal.returns
returns c =
    let h = c.loop-k in
    let o = c.args.blocks.now in
    let e : h.k ≡ c.args.n = omega arith in
    let f : h.end ≡ length (imported c.args.n o) = h.invariant.2 ∙ ap (λ z. length (imported z o)) e in
    filled h.out (imported c.args.n o) h.end (h.invariant.1 ∙ sym f) (h.invariant.3 ∙ ap (λ z. imported z o) e)
