-- `bch::checked`: refusals in the order of their numbers, then the judgement. Assumes nothing.
use mathlib.Core.Path.{sym, ◌∙◌}
use Rattle.bch.proofs.Judging.{check_two, check_three, check_taken}
use Rattle.bch.proofs.checked.Goals as goal

pub returns-then-word-ne8 : goal.returns-then-word-ne8
returns-then-word-ne8 c =
    sym (check_two c.args.detect_only c.args.word.now c.args.out.now (λ q. c.if-word-ne8.true q))

pub returns-then-out-ne8 : goal.returns-then-out-ne8
returns-then-out-ne8 c =
    sym (check_three c.args.detect_only c.args.word.now c.args.out.now c.if-word-ne8.false (λ q. c.if-out-ne8.true q))

pub returns : goal.returns
returns c =
    c.judge.ensures ∙ sym (check_taken c.args.detect_only c.args.word.now c.args.out.now c.if-word-ne8.false
    c.if-out-ne8.false)
