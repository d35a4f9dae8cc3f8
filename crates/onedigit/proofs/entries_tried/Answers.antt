-- `onedigit::entries_tried` meets its contract: those passed are counted.
use mathlib.Core.Path.{◌≡◌, ap, ◌∙◌}
use Prim.Native.Nat.{ℕ, ◌+◌, ◌*◌, ◌≤◌, ◌<◌}
use native.Mathlib.Omega.{arith}
use lib.ListN.{length}
use Rattle.bits.specs.Bits.{count}
use Rattle.onedigit.specs.Wrong.{entry_wrong}
use Rattle.bits.proofs.Counting.{tally_le, count-start}
use Rattle.onedigit.proofs.Counts.{count_more, tally_from, within, product_fits}
use Rattle.onedigit.proofs.entries_tried.Goals as goal

pub overflow_mul-n : goal.overflow_mul-n
overflow_mul-n c =
    let a = c.args in
    let h : length a.parity.now < 65536 = omega arith in
    let l : a.m + 1 ≤ 65536 = omega arith in
    omega (arith, product_fits h l)

pub loop-t-init : goal.loop-t-init
loop-t-init c =
    let a = c.args in
    let h : length a.parity.now < 65536 = omega arith in
    let l : a.m + 1 ≤ 65536 = omega arith in
    (omega arith, product_fits h l, omega arith, count-start (entry_wrong a.m a.parity.now))

pub wrong_entry-requires : goal.wrong_entry-requires
wrong_entry-requires c =
    let a = c.args in
    let l = c.loop-t in
    let pos : 0 < a.m + 1 = omega arith in
    let h : l.t < length a.parity.now * (a.m + 1) = omega arith in
    (within l.t (length a.parity.now) (a.m + 1) pos h, omega arith)

pub overflow_add-tried : goal.overflow_add-tried
overflow_add-tried c = omega (arith, c.from-tried.ensures ∙ tally_from c.wrong_entry.result, tally_le c.wrong_entry.result)

pub loop-t-preserved : goal.loop-t-preserved
loop-t-preserved c =
    let a = c.args in
    let l = c.loop-t in
    let e = c.wrong_entry in (
      omega arith,
      l.invariant.1,
      omega (arith, c.from-tried.ensures ∙ tally_from e.result, tally_le e.result),
      count_more l.t (entry_wrong a.m a.parity.now) l.invariant.3
          e.ensures (c.from-tried.ensures ∙ tally_from c.wrong_entry.result),
    )

pub returns : goal.returns
returns c =
    let a = c.args in
    let l = c.loop-t in
    let e : l.t ≡ length a.parity.now * (a.m + 1) = omega arith in
    l.invariant.3 ∙ ap (λ (x : ℕ). count x (entry_wrong a.m a.parity.now)) e
