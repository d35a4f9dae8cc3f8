use Rattle.std.proofs.Common.{◌≡◌, ◌%◌, length, arith, ap, ◌∙◌}
use Rattle.wordlog.specs.lines.Parts.{size_in}
use Rattle.wordlog.proofs.lines.Whole.{whole_sum}
use Rattle.wordbench.proofs.blocks.Goals as goal

pub loop-read-preserved : goal.loop-read-preserved
loop-read-preserved g c =
    let full : c.in_ok-n.n ≡ length c.args.words.now = omega arith in
    let whole : c.in_ok-n.n % size_in c.args.head.now ≡ 0 =
    ap (λ n. n % size_in c.args.head.now) full ∙ c.requires.head_len.0 in
    whole_sum c.loop-read.read c.in_ok-n.n (size_in c.args.head.now) c.loop-read.invariant whole
