-- `nearest::only` meets its contract: no bit before n has the column. Assumes nothing.
use mathlib.Core.Path.{sym, ◌∙◌}
use native.Mathlib.Omega.{arith}
use Rattle.nearest.proofs.Searching.{lowest_here, lowest_later, lowest_end, lent_long}
use Rattle.nearest.proofs.only.Goals as goal

pub bounds-columns-n : goal.bounds-columns-n
bounds-columns-n c = lent_long _ _ c.requires.0 (omega arith)

pub returns-then-columns-n : goal.returns-then-columns-n
returns-then-columns-n c =
    let l = c.loop-n in
    (omega arith, sym (l.invariant ∙ lowest_here c.args.columns.now l.n c.args.z c.requires.0 (omega arith) c.if-columns-n.true))

pub loop-n-preserved : goal.loop-n-preserved
loop-n-preserved c =
    let l = c.loop-n in
    l.invariant ∙ lowest_later c.args.columns.now l.n c.args.z c.requires.0 (omega arith) (λ q. c.if-columns-n.false q)

pub returns : goal.returns
returns c =
    let l = c.loop-n in
    l.invariant ∙ sym (lowest_end l.n c.args.z (omega arith))
