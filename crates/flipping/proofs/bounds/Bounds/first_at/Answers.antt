-- `Bounds::first_at` meets its contract: no bound of the first b blocks is as great any more. Assumes nothing.
use mathlib.Core.Path.{◌∙◌, subst}
use native.Mathlib.Omega.{arith}
use Rattle.vectors.specs.Vectors.{wbit}
use Rattle.flipping.specs.choice.Searching.{Looks}
use Rattle.flipping.proofs.choice.Searches.{lowered_more, still_le, lt_more, found_here}
use Rattle.flipping.proofs.bounds.Bounds.first_at.Goals as goal

pub returns-then-k-sh : goal.returns-then-k-sh
returns-then-k-sh c =
    let a = c.args in
    let s = a.self.now in
    let p = s.places in
    let l = c.loop-b in
    let i = l.invariant in
    let k = c.look-k in
    let seen = subst (λ q. Looks q a.from (wbit a.rows.now) l.b a.top k.result l.self.met k.new.self.met) i.0 k.ensures.1 in
    let more = lowered_more p.shape a.from (wbit a.rows.now) p.starts p.counts s.met l.self.met _ l.b a.top k.result i.1 i.2 i.3
    (omega arith) seen in
    let here = found_here p.shape a.from (wbit a.rows.now) p.starts p.counts s.met l.self.met _ l.b a.top k.result i.1 i.2 i.3
    (omega arith) seen c.if-k-sh.true in
    (k.ensures.0 ∙ i.0, record { lowered = more; found = λ h. here; none = λ h. absurd (omega (arith, here.inside)) })

pub loop-b-preserved : goal.loop-b-preserved
loop-b-preserved c =
    let a = c.args in
    let s = a.self.now in
    let p = s.places in
    let l = c.loop-b in
    let i = l.invariant in
    let k = c.look-k in
    let seen = subst (λ q. Looks q a.from (wbit a.rows.now) l.b a.top k.result l.self.met k.new.self.met) i.0 k.ensures.1 in (
      k.ensures.0 ∙ i.0,
      lowered_more p.shape a.from (wbit a.rows.now) p.starts p.counts s.met l.self.met _ l.b a.top k.result i.1 i.2 i.3 (omega arith)
          seen,
      still_le p.shape a.from (wbit a.rows.now) p.starts p.counts s.met l.self.met _ l.b a.top k.result i.1 i.2 i.3 (omega arith) seen,
      lt_more p.shape a.from (wbit a.rows.now) p.starts p.counts s.met l.self.met _ l.b a.top k.result i.1 i.2 i.3 (omega arith) seen
          c.if-k-sh.false,
    )
