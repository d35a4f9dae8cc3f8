-- `vectors::store` meets its contract: after k passes the first 8 k octets stand there, and the last few follow. Assumes nothing.
use mathlib.Core.Path.{◌≡◌, ap, ◌∙◌}
use Prim.Native.Nat.{ℕ, ◌+◌, ◌*◌, ◌/◌, ◌%◌}
use native.Mathlib.Omega.{arith}
use lib.ListN.{length}
use borrow.Author.Rules.{rules}
use Rattle.bits.specs.Bits.{bit}
use Rattle.vectors.specs.Vectors.{wbit, from, joined}
use Rattle.vectors.proofs.Octets.{put_more, written}
use Rattle.vectors.proofs.store.Goals as goal

pub loop-k-preserved : goal.loop-k-preserved
loop-k-preserved c =
    let a = c.args in
    let l = c.loop-k in
    let x = from a.u (wbit a.ws.now) in
    let p = c.put in
    let s = c.span in
    let y = bit a.out.now in
    let e : 8 * l.k + 8 ≡ 8 * (l.k + 1) = omega arith in (
      search rules,
      put_more l.out p.new.out x y (8 * l.k) 8 s.result (omega arith) l.invariant.1
          (λ i hi. s.ensures i hi ∙ ap (wbit a.ws.now) (omega arith)) p.ensures
          ∙ ap (λ (n : ℕ). joined (8 * n) x y) e,
      λ i. (c.slice_known-in-loop-k-1.given i).fits,
    )

pub returns-then-rest-gt0 : goal.returns-then-rest-gt0
returns-then-rest-gt0 c =
    let a = c.args in
    let l = c.loop-k in
    let x = from a.u (wbit a.ws.now) in
    let p = c.put-then-rest-gt0 in
    let s = c.span-then-rest-gt0 in
    let k = length a.out.now / 8 in
    let r = length l.out % 8 in
    let y = bit a.out.now in
    let e : l.k ≡ k = omega arith in
    let out = p.new.out in
    written a.out.now out x (8 * (8 * k + r)) (search rules) (λ i. (c.slice_known-then-rest-gt0-1.given i).fits) (omega arith)
    (put_more l.out out x y (8 * k) r s.result (omega arith) (l.invariant.1 ∙ ap (λ (n : ℕ). joined (8 * (8 * n)) x y) e)
    (λ i hi. s.ensures i hi ∙ ap (wbit a.ws.now) (omega arith)) p.ensures)

pub returns-else-rest-gt0 : goal.returns-else-rest-gt0
returns-else-rest-gt0 c =
    let a = c.args in
    let l = c.loop-k in
    written a.out.now l.out (from a.u (wbit a.ws.now)) (8 * (8 * l.k)) l.invariant.0 l.invariant.2 (omega arith) l.invariant.1
