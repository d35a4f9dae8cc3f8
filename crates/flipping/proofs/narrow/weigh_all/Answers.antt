-- `narrow::weigh_all`: after b passes the first b blocks are weighed. Assumes nothing.
use mathlib.Core.Path.{◌≡◌, sym, ap, ◌∙◌}
use Prim.Native.Nat.{◌+◌, ◌*◌, ◌<◌}
use native.Mathlib.Omega.{arith}
use lib.ListN.{length, length-set}
use Rattle.layout.specs.Lent.{total, shifts_of, score}
use Rattle.flipping.specs.narrow.Weighing.{broke, sent}
use Rattle.flipping.proofs.narrow.Blocks.{score_is, sent_lt, weighed_more}
use Rattle.flipping.proofs.narrow.weigh_all.Goals as goal

pub loop-b-preserved : goal.loop-b-preserved
loop-b-preserved c =
    let a = c.args in
    let l = c.loop-b in
    let hb : l.b < a.parity.shape.blocks = c.loop-b-test.true in
    let w = c.weigh in
    let r = c.highest.result in
    let four = (c.args.parity.fit.narrow c.requires.0).0 in (
      omega (arith, length-set l.levels l.b r, l.invariant.0),
      λ k x lent is.
          let all : w.result.checks ≡ total a.parity.shape.rows (λ q. length (shifts_of a.parity.shape a.parity.places.now q l.b)) =
          w.ensures.0 ∙ ap (λ n. total n (λ q. length (shifts_of a.parity.shape a.parity.places.now q l.b))) (sym four) in
          weighed_more k a.parity.shape a.from x l.levels l.b r (omega (arith, l.invariant.0, a.parity.fit.blocks))
          (l.invariant.1 k x lent is)
          (c.highest.ensures (omega (arith, all, lent.few l.b hb)) (sent a.parity.shape.size a.from l.b)
          (broke k a.parity.places.now a.parity.shape l.b x 4) (λ i. score k x (l.b * a.parity.shape.size + i))
          (w.ensures.2 k x (sent a.parity.shape.size a.from l.b) is c.sent_in.ensures)
          (λ i hi q.
          omega (
            arith,
            all,
            score_is k a.parity.places.now a.parity.shape lent c.args.parity.fit x l.b i hb (sent_lt a.parity.shape.size a.from l.b i q),
            ap (λ n. broke k a.parity.places.now a.parity.shape l.b x n i) four,
          ))),
    )

pub returns : goal.returns
returns c k x lent is =
    record { each = λ b l. (c.loop-b.invariant.1 k x lent is).each b (omega (arith, c.loop-b-test.false)) }
