-- `Bounds::first_in_block` meets its contract: no bit of the first k words is light. Assumes nothing.
use mathlib.Core.Path.{sym, ap, ◌∙◌}
use Prim.Native.Nat.{◌+◌, ◌*◌, ◌^◌, ◌<◌}
use native.Mathlib.Nat.{pos_of_ne-zero}
use native.Mathlib.Omega.{arith}
use borrow.Author.Rules.{rules}
use lib.ListN.{get_or}
use lib.Count.{count_leading_zeros}
use Rattle.bits.specs.Bits.{Word, digit}
use Rattle.bits.proofs.Leasts.{least_none}
use Rattle.bits.proofs.Octets.{digit_zero}
use Rattle.vectors.specs.Vectors.{wbit}
use Rattle.vectors.proofs.Firsts.{first_digit}
use Rattle.flipping.specs.bounds.Reading.{light}
use Rattle.flipping.proofs.choice.Searches.{clear_word, first_bit, light_under}
use Rattle.flipping.proofs.bounds.Bounds.first_in_block.Goals as goal

pub returns-then-found-ne0 : goal.returns-then-found-ne0
returns-then-found-ne0 c =
    let l = c.loop-k in
    let a = c.args in
    let p = a.self.now.places in
    let v = c.weigh-found.result in
    let f : Word = light (wbit a.rows.now) p.starts (8 * a.b) (get_or p.counts a.b 0) a.met a.begin p.shape.size in
    let fits : v < 2 ^ 64 = search rules in
    let first = first_digit 64 v (pos_of_ne-zero c.if-found-ne0.true) fits in
    first_bit f v l.k p.shape.size (count_leading_zeros 64 v) c.weigh-found.ensures first
    (light_under (wbit a.rows.now) p.starts (8 * a.b) (get_or p.counts a.b 0) a.met a.begin p.shape.size
    (64 * l.k + count_leading_zeros 64 v) (sym (c.weigh-found.ensures (count_leading_zeros 64 v) first.inside) ∙ first.here)) l.invariant

pub loop-k-preserved : goal.loop-k-preserved
loop-k-preserved c =
    let l = c.loop-k in
    let a = c.args in
    let p = a.self.now.places in
    clear_word (light (wbit a.rows.now) p.starts (8 * a.b) (get_or p.counts a.b 0) a.met a.begin p.shape.size) c.weigh-found.result l.k
    c.weigh-found.ensures
    (λ i. ap (λ v. digit 64 v i) c.if-found-ne0.false ∙ digit_zero 64 i) l.invariant

pub returns : goal.returns
returns c =
    let a = c.args in
    let p = a.self.now.places in
    let l = c.loop-k in
    sym (least_none p.shape.size (light (wbit a.rows.now) p.starts (8 * a.b) (get_or p.counts a.b 0) a.met a.begin p.shape.size)
    (λ i h. l.invariant i (omega (arith, a.self.now.ready.held))))
