-- `lines::Block::write_at` meets its contract: the word, or what is left of it, as a line. Assumes nothing.
use mathlib.Core.Path.{◌≡◌, ap, ◌∙◌}
use mathlib.Core.List.{List, ◌++◌}
use Prim.Native.Nat.{ℕ, ◌+◌, ◌-◌, ◌*◌}
use native.Mathlib.Omega.{arith}
use lib.ListN.{length, take, drop}
use Rattle.wordlog.specs.line.Line.{word_line}
use Rattle.wordlog.specs.lines.Log.{word}
use Rattle.wordlog.proofs.lines.Pieces.{starts_before, piece}
use Rattle.wordlog.proofs.lines.Block.write_at.Goals as goal

pub overflow_mul-from : goal.overflow_mul-from
overflow_mul-from c = omega (
  arith,
  (starts_before (length c.args.words.now) c.args.self.now.size c.args.k c.requires.numbered.0.1 c.requires.numbered.1).0,
)

pub overflow_add-from : goal.overflow_add-from
overflow_add-from c = omega (
  arith,
  (starts_before (length c.args.words.now) c.args.self.now.size c.args.k c.requires.numbered.0.1 c.requires.numbered.1).0,
)

pub slice_bounds-write_word-count : goal.slice_bounds-write_word-count
slice_bounds-write_word-count c = omega (
  arith,
  (starts_before (length c.args.words.now) c.args.self.now.size c.args.k c.requires.numbered.0.1 c.requires.numbered.1).0,
)

pub slice_bounds-write_word-start : goal.slice_bounds-write_word-start
slice_bounds-write_word-start c = omega (
  arith,
  (starts_before (length c.args.words.now) c.args.self.now.size c.args.k c.requires.numbered.0.1 c.requires.numbered.1).0,
)

pub returns : goal.returns
returns c =
    let a = c.args in
    let ws = a.words.now in
    let l = c.min-to in
    let w = c.write_word in
    let from = a.k * a.self.now.size in
    let e : take (l.result - from) (drop from ws) ≡ word a.self.now.code ws a.k =
    piece ws from a.self.now.size l.result (omega (arith, l.ensures)) ∙ ap (λ m. take m (drop (a.k * m) ws)) c.requires.numbered.0.0 in
    record {
      upper_bound = w.ensures.upper_bound;
      text_after = w.ensures.text_after ∙ ap (λ (o : List ℕ). take a.at a.text.now ++
          word_line a.self.now.code a.self.now.limit (a.self.now.index + a.k) o) e;
    }
