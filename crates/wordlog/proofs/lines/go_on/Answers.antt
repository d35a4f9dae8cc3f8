-- `lines::go_on` meets its contract: by `Whole.grows` the lines of a block are what the log grows by. Assumes nothing.
use mathlib.Core.Path.{sym, ◌∙◌}
use lib.ListN.{take}
use Rattle.wordlog.proofs.lines.Whole.{numbered, adds}
use Rattle.wordlog.proofs.lines.go_on.Goals as goal

pub write-requires : goal.write-requires
write-requires c =
    let a = c.args in
    let b = c.block_at-b in
    let n = numbered a.head.now a.words.now a.read b.result b.ensures c.requires.2.1 in
    record { numbered = (n, b.ensures.5); out_len = (c.requires.1.0 ∙ sym b.ensures.2, c.requires.1.1) }

pub returns : goal.returns
returns c =
    let a = c.args in
    let w = c.write in
    let b = c.block_at-b in (
      w.ensures.upper_bound,
      adds a.head.now a.words.now (take w.result w.new.text) a.read b.result c.requires.0
          c.requires.2.0
          b.ensures w.ensures.text_after,
    )
